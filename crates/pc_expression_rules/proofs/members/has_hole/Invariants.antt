use Rattle.std.proofs.Common.{◌≡◌, length}
use Rattle.pc_expression_rules.specs.Members.{holes_in}
use Rattle.pc_expression_rules.proofs.members.has_hole.Given as goal

abbrev pub invariant-loop-rest : goal.invariant-loop-rest
invariant-loop-rest l = holes_in l.rest ≡ holes_in l.members

abbrev pub decreases-loop-rest : goal.decreases-loop-rest
decreases-loop-rest l = length l.rest
