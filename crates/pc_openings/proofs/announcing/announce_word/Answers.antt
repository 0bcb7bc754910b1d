use Rattle.pc_syntax.specs.Words.{lowered}
use Rattle.pc_openings.specs.AnnouncedLaws.{Announced-one}
use Rattle.pc_openings.proofs.announcing.announce_word.Goals as goal

pub returns : goal.returns
returns c =
    Announced-one c.args.block.0 c.in_ok-name.name.0 (lowered c.args.word.now) c.args.class c.args.names.now c.number.new.self c.announce.new.self c.in_ok-name.ensures.table c.in_ok-name.ensures.distinct
    c.in_ok-name.ensures.bindings c.in_ok-name.ensures.number c.in_ok-announce.ensures.binding
