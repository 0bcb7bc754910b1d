use Rattle.std.proofs.Common.{◌≡◌, ◌≤◌, min, max, length}
use Rattle.pc_types.specs.Sizes.{levels_in}
use Rattle.pc_types.specs.Rows.{seen}
use Rattle.pc_types.specs.Table.{fields_from}
use Rattle.pc_types.proofs.types.Types.levels_in_fields.Given as goal

abbrev pub invariant-loop-rest : goal.invariant-loop-rest
invariant-loop-rest l =
    (min (max l.deepest (levels_in (fields_from (seen l.self).shapes l.rest))) 257 ≡ min (levels_in (fields_from (seen l.self).shapes l.fields)) 257) × (l.deepest ≤ 257)

abbrev pub decreases-loop-rest : goal.decreases-loop-rest
decreases-loop-rest l = length l.rest
