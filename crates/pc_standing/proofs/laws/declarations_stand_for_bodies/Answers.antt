use Rattle.pc_standing.specs.BodyLaws.{stands-for-body}
use Rattle.pc_standing.proofs.laws.declarations_stand_for_bodies.Goals as goal

pub returns : goal.returns
returns c = stands-for-body
