use Rattle.pc_found_laws.proofs.StandingLemmas.{standing-law}
use Rattle.pc_found_laws.proofs.laws.expressions_stand_in_statement_parts.Goals as goal

pub returns : goal.returns
returns c = standing-law
