use Rattle.std.proofs.Common.{arith}
use Rattle.pc_sightings.proofs.TouchedSteps.{HasLast-end}
use Rattle.pc_sightings.specs.TouchedLog.{numbers_of}
use Rattle.pc_sightings.proofs.touched.Touched.note.Goals as goal

pub invariant_of-self-in-Ok : goal.invariant_of-self-in-Ok
invariant_of-self-in-Ok c =
    HasLast-end c.self.inside.log.items c.push.new.self.items c.self.inside.last.entries c.insert.new.self.entries (numbers_of c.args.variable) c.len-place.result c.self.invariant c.in_ok-push.ensures.items (omega arith) c.in-Ok.ensures.updates.0
