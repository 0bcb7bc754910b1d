-- Labels of an arm with their values.
use Rattle.pc_rules.specs.Attributes.{Node, kids_below}
use Rattle.pc_facts.specs.Known.{Known}
use Rattle.pc_facts.specs.Shows.{ShowsLabels, ShowsNode}
use Rattle.pc_statements.specs.declared.arms.Labels.{Labels}

-- what is found at the list of labels, and the value of each, where it has one
pub record ShowsLabelled (k : Known) (x : Labels) (n : Node) : Type 0 where
  pub at : ShowsNode k x.at n.at
  pub values : ShowsLabels k x.values.items (kids_below n)
