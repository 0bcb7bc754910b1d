-- What a node of code is seen as.
use Rattle.std.specs.Prelude.{◌≡◌, ◌≤◌, []}
use Rattle.std.specs.Option.{option_map_or}
use Rattle.pc_syntax.specs.Plain.{Plain, node}
use Rattle.pc_syntax.specs.declared.tree.Node.{Node}
use Rattle.pc_syntax.specs.WellFormed.{size_of, depth_of, holes_of, IsProper}
use Rattle.pc_syntax.specs.Parts.{is_open}

-- one level of the tree: the kids are seen already; with no text there are no word and no notes
abbrev pub plain_of : Node → Plain
plain_of n = node n.kind (option_map_or (λ t. t.value.word) n.text []) (option_map_or (λ t. t.value.notes.items) n.text []) n.kids.items

-- the node has the counts of its tree, and its tree is proper
pub record IsCounted (n : Node) : Type 0 where
  pub size : n.size ≡ size_of (plain_of n)
  pub depth : n.depth ≡ depth_of (plain_of n)
  pub holes : n.holes ≡ holes_of (plain_of n)
  pub fewer : n.holes ≤ n.size
  pub is_open : n.is_open ≡ is_open (plain_of n)
  pub proper : IsProper (plain_of n)
