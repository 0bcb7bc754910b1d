-- Nodes whose types are good.
use Rattle.std.proofs.Common.{ℕ, zero, suc, List, [], ◌∷◌, Bool, true, false, not, ◌||◌, if◌then◌else◌, Option, None, option_map}
use Rattle.std.specs.Prelude.{get_or}
use Rattle.pc_syntax.specs.declared.kind.Kind.{Kind}
use Rattle.pc_types.specs.Shapes.{Owner, Typed}
use Rattle.pc_rules.specs.Meanings.{Value}
use Rattle.pc_rules.specs.Attributes.{Entry, Attributes, Marked, Done, Mark, Node, plain, nodes, missing, is_empty, judged}
use Rattle.pc_rules.specs.HandedOn.{kid_entries, any_hole, all_opens, handed_on, statement_node}
use Rattle.pc_rules.specs.Constants.{typed_value, constant_node}
use Rattle.pc_rules.specs.Operators.{expression_node}
use Rattle.pc_rules.specs.Components.{component_of, component_node, indexed_type}
use Rattle.pc_rules.specs.RequiredFunctions.{type_of_first}
use Rattle.pc_rules.specs.Decorated.{with_kind}
use Rattle.pc_pointers.specs.Good.{Targets, IsGoodType, IsGoodConstant, AllOpenedGood, IsGoodAt, GoodMarks, IsGoodNode, AllNodesGood}
use Rattle.pc_pointers.specs.GoodLaws.{judged-good, component-good, opened-good, opened-more}
use Rattle.pc_pointers.specs.NameLaws.{either-constant}

-- one of two nodes
pub either-at : (targets : Targets) (b : Bool) (x y : Attributes) → IsGoodAt targets x → IsGoodAt targets y → IsGoodAt targets (if b then x else y)
either-at targets true x y g h = g
either-at targets false x y g h = h

-- a node about which nothing is said
pub plain-good : (targets : Targets) → IsGoodAt targets plain
plain-good targets = record { meant = tt; value = tt; place = tt; target = tt; fixed = tt; opened = tt }

-- the trees of a row as nodes
pub nodes-good : (targets : Targets) (m : Marked) → GoodMarks targets m → AllNodesGood targets (nodes m)
nodes-good targets Done g = tt
nodes-good targets (Mark a below rest) g = (record { here = g.0; under = g.1 }, nodes-good targets rest g.2)

-- a kid, or what stands for it
pub kid-good : (targets : Targets) (ns : List Node) (i : ℕ) → AllNodesGood targets ns → IsGoodNode targets (get_or ns i missing)
kid-good targets [] i g = record { here = plain-good targets; under = tt }
kid-good targets (n ∷ ns) zero g = g.0
kid-good targets (n ∷ ns) (suc i) g = kid-good targets ns i g.1

-- the same node with a kind and a word
pub with_kind-good : (targets : Targets) (k : Kind) (w : List ℕ) (a : Attributes) → IsGoodAt targets a → IsGoodAt targets (with_kind k w a)
with_kind-good targets k w a g = record { meant = g.meant; value = g.value; place = g.place; target = g.target; fixed = g.fixed; opened = g.opened }

-- a node that hands on what its kids have
pub handed-good : (targets : Targets) (kids : List Node) → IsGoodAt targets (handed_on kids)
handed-good targets kids = record { meant = tt; value = judged-good targets (any_hole kids) (kid_entries 1 kids) None tt; place = tt; target = tt; fixed = tt; opened = tt }

-- a statement
pub statement-good : (targets : Targets) (kids : List Node) (es : List Entry) (touched : List (Owner × List ℕ)) → IsGoodAt targets (statement_node kids es touched)
statement-good targets kids es touched = record { meant = tt; value = judged-good targets (any_hole kids) es None tt; place = tt; target = tt; fixed = tt; opened = tt }

-- an expression of a good type
pub expression-good : (targets : Targets) (kids : List Node) (es : List Entry) (t : Option Typed) → IsGoodType targets t → IsGoodAt targets (expression_node kids es t)
expression-good targets kids es t g =
    let j = judged-good targets (any_hole kids) es t g in
    record { meant = tt; value = j; place = j; target = j; fixed = tt; opened = tt }

-- a component of a good type
pub component_node-good : (targets : Targets) (kids : List Node) (es : List Entry) (t : Option Typed) (p : Bool) → IsGoodType targets t → IsGoodAt targets (component_node kids es t p)
component_node-good targets kids es t p g =
    let j = judged-good targets (any_hole kids) es t g in
    record { meant = tt; value = j; place = j; target = j; fixed = tt; opened = opened-good targets (judged (any_hole kids) es t).type j }

-- a constant of a good type
pub constant_node-good : (targets : Targets) (hole : Bool) (es : List Entry) (v : Option Value) → IsGoodConstant targets v → IsGoodAt targets (constant_node hole es v)
constant_node-good targets hole es v g = record {
  meant = tt;
  value = judged-good targets hole es (option_map typed_value v) g;
  place = tt;
  target = tt;
  fixed = either-constant targets (hole || not (is_empty es)) None v tt g;
  opened = tt;
}

-- what the accesses of a with open
pub all-opened-good : (targets : Targets) (ns : List Node) → AllNodesGood targets ns → AllOpenedGood targets (all_opens ns)
all-opened-good targets [] g = tt
all-opened-good targets (n ∷ ns) g = opened-more targets (all_opens ns) n.opens (all-opened-good targets ns g.1) g.0.here.opened

-- the type of the first argument
pub first-good : (targets : Targets) (ns : List Node) → AllNodesGood targets ns → IsGoodType targets (type_of_first ns)
first-good targets [] g = tt
first-good targets (n ∷ ns) g = g.0.here.value

-- the type behind some indexes
pub indexed-good : (targets : Targets) (t : Option Typed) (ns : List Node) → IsGoodType targets t → IsGoodType targets (indexed_type t ns)
indexed-good targets t [] g = g
indexed-good targets t (n ∷ ns) g = indexed-good targets (component_of t) ns (component-good targets t g)
