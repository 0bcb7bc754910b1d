use Rattle.std.proofs.Common.{◌≡◌, length}
use Rattle.pc_types.specs.Rows.{seen}
use Rattle.pc_statement_rules.specs.Given.{is_given_at}
use Rattle.pc_statement_rules.proofs.given.is_given.Given as goal

abbrev pub invariant-loop-rest : goal.invariant-loop-rest
invariant-loop-rest l = is_given_at (seen l.types) l.texts l.fn.values l.value ≡ is_given_at (seen l.types) l.texts l.rest l.value

abbrev pub decreases-loop-rest : goal.decreases-loop-rest
decreases-loop-rest l = length l.rest
