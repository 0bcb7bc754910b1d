use Rattle.pc_parse.proofs.Unnoted.{one_tree}
use Rattle.pc_parse.proofs.laws.one_tree.Goals as goal

pub returns : goal.returns
returns c = one_tree
