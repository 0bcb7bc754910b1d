use Rattle.std.proofs.Common.{refl}
use Rattle.pc_syntax.specs.Words.{lowered}
use Rattle.pc_places.specs.NumberingLaws.{Keeps-number}
use Rattle.pc_places.proofs.steps.number.Goals as goal

pub returns : goal.returns
returns c =
    let old = c.args.tables.now in
    let new = record old { names = c.number.new.self } in
    record {
      number = c.in_ok-id.ensures.number;
      there = c.in_ok-id.ensures.within;
      keeps = Keeps-number old new (lowered c.args.word.now) refl refl refl refl c.in_ok-id.ensures.table c.in_ok-id.ensures.distinct c.in_ok-id.ensures.bindings;
    }
