use Rattle.std.proofs.Common.{sym}
use Rattle.pc_sightings.proofs.TouchedSteps.{since-some, since-none}
use Rattle.pc_sightings.specs.TouchedLog.{numbers_of}
use Rattle.pc_sightings.proofs.touched.Touched.since.Goals as goal

pub returns-in-Some : goal.returns-in-Some
returns-in-Some c =
    since-some c.args.mark c.self.inside.log.items c.args.self.now c.self.inside.last.entries (numbers_of c.args.variable) c.in-Some.place.now c.self.invariant c.self.view_is (sym c.in-Some.ensures.value)

pub returns-in-None : goal.returns-in-None
returns-in-None c =
    since-none c.args.mark c.self.inside.log.items c.args.self.now c.self.inside.last.entries (numbers_of c.args.variable) c.self.invariant c.self.view_is (sym c.in-None.ensures.value)
