use Rattle.pc_lex.proofs.Longest.{longest_first}
use Rattle.pc_lex.proofs.laws.longest_first.Goals as goal

pub returns : goal.returns
returns c = longest_first
