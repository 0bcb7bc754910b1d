use Rattle.std.proofs.Common.{◌≡◌, ◌+◌, ◌≤◌, min, length}
use Rattle.pc_types.specs.Sizes.{cells_in}
use Rattle.pc_types.specs.Rows.{seen}
use Rattle.pc_types.specs.Table.{fields_from}
use Rattle.pc_types.proofs.types.Types.cells_in_fields.Given as goal

abbrev pub invariant-loop-rest : goal.invariant-loop-rest
invariant-loop-rest l =
    (min (l.total + cells_in (fields_from (seen l.self).shapes l.rest)) 1000001 ≡ min (cells_in (fields_from (seen l.self).shapes l.fields)) 1000001) × (l.total ≤ 1000001)

abbrev pub decreases-loop-rest : goal.decreases-loop-rest
decreases-loop-rest l = length l.rest
