use Rattle.std.proofs.Common.{◌≡◌, length, map}
use Rattle.std.specs.Prelude.{option_map}
use Rattle.pc_types.specs.Rows.{seen}
use Rattle.pc_types.specs.Table.{shape_at}
use Rattle.pc_rules.specs.SetConstructors as rule
use Rattle.pc_expression_rules.proofs.sets.are_compatible.Given as goal

abbrev pub invariant-loop-rest : goal.invariant-loop-rest
invariant-loop-rest l =
    rule.all_compatible (shape_at (seen l.types) l.first) (map (option_map (shape_at (seen l.types))) l.rest) ≡
    rule.all_compatible (shape_at (seen l.types) l.first) (map (option_map (shape_at (seen l.types))) l.of)

abbrev pub decreases-loop-rest : goal.decreases-loop-rest
decreases-loop-rest l = length l.rest
