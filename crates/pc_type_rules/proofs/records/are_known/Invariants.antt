use Rattle.std.proofs.Common.{◌≡◌, length}
use Rattle.pc_type_rules.specs.Records.{all_known}
use Rattle.pc_type_rules.proofs.records.are_known.Given as goal

abbrev pub invariant-loop-rest : goal.invariant-loop-rest
invariant-loop-rest l = all_known l.rest ≡ all_known l.lists

abbrev pub decreases-loop-rest : goal.decreases-loop-rest
decreases-loop-rest l = length l.rest
