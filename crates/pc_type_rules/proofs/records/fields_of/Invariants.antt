use Rattle.std.proofs.Common.{◌≡◌}
use Rattle.pc_type_rules.specs.Records.{all_fields}
use Rattle.pc_type_rules.proofs.records.fields_of.Given as goal

abbrev pub invariant-loop-list : goal.invariant-loop-list
invariant-loop-list l = l.fields.items ≡ all_fields l.yielded
