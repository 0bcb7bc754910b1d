-- The names that nodes declare, each with the kind of its node, in text order; their places aside.
use Rattle.std.specs.Prelude.{ℕ, if◌then◌else◌, List, [], ◌∷◌, ◌++◌, map}
use Rattle.pc_syntax.specs.declared.kind.Kind.{Kind}
use Rattle.pc_syntax.specs.Plain.{Forest, Nil, Cons, Plain}
use Rattle.pc_syntax.specs.Sorts.{is_hole}
use Rattle.pc_syntax.specs.Words.{lowered}
use Rattle.pc_scope.specs.Headings.{is_routine_kind, names_of_first}
use Rattle.pc_syntax.specs.declared.kind.Kind.TheVariants as kind

-- the name that a node is; a hole is none
abbrev pub name_here : Plain → List (List ℕ)
name_here t = if is_hole t.kind then [] else lowered t.word ∷ []

-- the name of the first node
abbrev pub first_listed : Forest → List (List ℕ)
first_listed Nil = []
first_listed (Cons k w ns ks ts) = if is_hole k then [] else lowered w ∷ []

-- what a node declares by its own names
abbrev pub own_names : Kind → Forest → List (List ℕ)
own_names kind.Constdef ks = first_listed ks
own_names kind.Typedef ks = first_listed ks
own_names kind.Vardef ks = names_of_first ks
own_names kind.Enum ks = names_of_first ks
own_names kind.Valparam ks = names_of_first ks
own_names kind.Varparam ks = names_of_first ks
own_names kind.Procedure ks = first_listed ks
own_names kind.Function ks = first_listed ks
own_names kind.Funbody ks = first_listed ks
own_names k ks = []

-- these names, all declared by nodes of this kind
abbrev pub all_of_kind : Kind → List (List ℕ) → List (List ℕ × Kind)
all_of_kind k ns = map (λ (n : List ℕ). (n, k)) ns

-- what trees declare; what stands inside routines aside
abbrev pub in_trees : Forest → List (List ℕ × Kind)
in_trees Nil = []
in_trees (Cons k w ns ks ts) = all_of_kind k (own_names k ks) ++ (if is_routine_kind k then [] else in_trees ks) ++ in_trees ts

-- what the nodes below a node declare
abbrev pub below_node : Plain → List (List ℕ × Kind)
below_node t = if is_routine_kind t.kind then [] else in_trees t.kids

-- what a node declares, with the nodes below it
abbrev pub at_node : Plain → List (List ℕ × Kind)
at_node t = all_of_kind t.kind (own_names t.kind t.kids) ++ below_node t

-- the same of some nodes
abbrev pub at_nodes : List Plain → List (List ℕ × Kind)
at_nodes [] = []
at_nodes (t ∷ ts) = at_node t ++ at_nodes ts

-- the names that some nodes are
abbrev pub names_here : List Plain → List (List ℕ)
names_here [] = []
names_here (t ∷ ts) = name_here t ++ names_here ts

-- the parameters that a routine with these kids declares by its own heading
abbrev pub in_heading : Forest → List (List ℕ × Kind)
in_heading (Cons k w ns ks (Cons kind.Params v ms js ts)) = in_trees js
in_heading ks = []
