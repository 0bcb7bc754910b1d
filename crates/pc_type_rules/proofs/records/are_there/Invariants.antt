use Rattle.std.proofs.Common.{length}
use Rattle.pc_types.specs.Rows.{seen}
use Rattle.pc_types.specs.Table.{FieldsThere}
use Rattle.pc_type_rules.proofs.records.are_there.Given as goal

abbrev pub invariant-loop-rest : goal.invariant-loop-rest
invariant-loop-rest l =
    (FieldsThere (length (seen l.types).shapes) l.rest → FieldsThere (length (seen l.types).shapes) l.fields)
    × (FieldsThere (length (seen l.types).shapes) l.fields → FieldsThere (length (seen l.types).shapes) l.rest)

abbrev pub decreases-loop-rest : goal.decreases-loop-rest
decreases-loop-rest l = length l.rest
