-- Nodes of a statement part where they stand, with what is found at them.
use Rattle.std.specs.Prelude.{ℕ, List}
use Rattle.pc_syntax.specs.Plain.{Plain, forest_of}
use Rattle.pc_syntax.specs.declared.kind.Kind.{Kind}
use Rattle.pc_forms.specs.Form.{form_from}
use Rattle.pc_rules.specs.Attributes.{Attributes, Node, nodes, missing}
use Rattle.pc_rules.specs.Decorated.{seen, rule_of, with_kind}
use Rattle.pc_rules.specs.Meanings.{Local, Outside}
use Rattle.pc_rules.specs.Places.{inner}
use Rattle.pc_environment.specs.Decorating.{attributes_at, below_at, marks_of}

-- a node with what is found at it
abbrev pub node_at : Outside → Local → Plain → Node
node_at out l t = record { at = attributes_at out l t; below = below_at out l t }

-- where the first kid of a node with these kids stands
abbrev pub first_place : Local → Kind → List Plain → Local
first_place l k ks = inner l k (forest_of ks)

-- what is found at a node of a kind with this word and these kids
abbrev pub found_at : Outside → Local → Kind → List ℕ → List Plain → Attributes
found_at out l k w ks = with_kind k w (rule_of l (seen out l k w) (form_from k w (nodes (marks_of out (first_place l k ks) ks)) missing))
