use Rattle.pc_expr_laws.proofs.PlaceLemmas.{expression-law}
use Rattle.pc_expr_laws.proofs.laws.expressions_show_what_is_told.Goals as goal

pub returns : goal.returns
returns c = expression-law
