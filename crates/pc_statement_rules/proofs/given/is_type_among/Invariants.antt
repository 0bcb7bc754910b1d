use Rattle.std.proofs.Common.{◌≡◌, length}
use Rattle.pc_types.specs.Rows.{seen}
use Rattle.pc_types.specs.Table.{shape_at}
use Rattle.pc_statement_rules.specs.Given.{is_type_among}
use Rattle.pc_statement_rules.proofs.given.is_type_among.Given as goal

abbrev pub invariant-loop-rest : goal.invariant-loop-rest
invariant-loop-rest l = is_type_among (seen l.types) l.fn.known (shape_at (seen l.types) l.of) ≡ is_type_among (seen l.types) l.rest (shape_at (seen l.types) l.of)

abbrev pub decreases-loop-rest : goal.decreases-loop-rest
decreases-loop-rest l = length l.rest
