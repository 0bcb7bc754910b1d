use Rattle.std.proofs.Common.{◌≡◌, ◌++◌}
use Rattle.pc_type_rules.specs.Records.{fields_with}
use Rattle.pc_type_rules.proofs.records.add_fields.Given as goal

abbrev pub invariant-loop-name : goal.invariant-loop-name
invariant-loop-name l = l.fields.items ≡ l.initial.fields.items ++ fields_with l.of l.yielded
