use Rattle.std.proofs.Common.{◌+◌, ◌*◌, ◌++◌, List, length, ℕ}
use Rattle.pc_types.specs.Expanded.{expanded_fields}
use Rattle.pc_types.specs.Expansions.{AreTys}
use Rattle.pc_types.specs.Table.{fields_from, FieldsThere}
use Rattle.pc_types.specs.Rows.{seen}
use Rattle.pc_heads.specs.declared.ty.Ty.{Ty as Head}
use Rattle.pc_types.proofs.types.Types.+tys.Given as goal

abbrev pub decreases-field_tys : goal.decreases-field_tys
decreases-field_tys l = 2 * l.id.0

abbrev pub decreases-ty_at : goal.decreases-ty_at
decreases-ty_at l = 2 * l.id.0 + 1

abbrev pub invariant-field_tys-loop-rest : goal.invariant-field_tys-loop-rest
invariant-field_tys-loop-rest l =
    FieldsThere l.fn.id.0 l.rest
    × ((more : List (List ℕ × Head)) → AreTys more (expanded_fields (fields_from (seen l.self).shapes l.rest)) → AreTys (l.tys ++ more) (expanded_fields (fields_from (seen l.self).shapes l.fields)))

abbrev pub decreases-field_tys-loop-rest : goal.decreases-field_tys-loop-rest
decreases-field_tys-loop-rest l = length l.rest
