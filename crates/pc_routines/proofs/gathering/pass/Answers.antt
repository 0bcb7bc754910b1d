use Rattle.pc_routines.specs.HeadsLaws.{HasLater-pass}
use Rattle.pc_routines.proofs.gathering.pass.Goals as goal

pub returns : goal.returns
returns c = λ names h hs shows s.
    HasLater-pass names c.args.later.now c.add.new.self c.args.head.now h hs c.in-Some.name c.in-Some.is c.if-head.false c.in_ok-add.ensures shows s
