-- Nodes of a program by their places.
use Rattle.std.specs.Prelude.{ℕ, Bool, true, false, ◌==◌, if◌then◌else◌, List, [], ◌∷◌, Option, Some, None}
use Rattle.std.specs.Option.{option_map_or}
use Rattle.pc_syntax.specs.declared.kind.Kind.{Kind}
use Rattle.pc_syntax.specs.declared.sort.Sort.{Sort}
use Rattle.pc_syntax.specs.Plain.{Forest, Nil, Plain}
use Rattle.pc_syntax.specs.Places.{at}
use Rattle.pc_syntax.specs.Sorts.{sort_of}
use Rattle.pc_syntax.specs.declared.kind.Kind.TheVariants as kind
use Rattle.pc_syntax.specs.declared.sort.Sort.TheVariants as sort

-- the place of the node above; the root is its own
abbrev pub above : List ℕ → List ℕ
above [] = []
above (i ∷ []) = []
above (i ∷ j ∷ js) = i ∷ above (j ∷ js)

-- which kid of that a node is, counted from 1; the root has the number 0
abbrev pub kid_number : List ℕ → ℕ
kid_number [] = 0
kid_number (i ∷ []) = i
kid_number (i ∷ j ∷ js) = kid_number (j ∷ js)

-- the way from a place to one at or below it
abbrev pub way_from : List ℕ → List ℕ → Option (List ℕ)
way_from [] q = Some q
way_from (i ∷ is) [] = None
way_from (i ∷ is) (j ∷ js) = if i == j then way_from is js else None

-- the kind of the node at a place, that of the empty statement where there is none
abbrev pub kind_at : Plain → List ℕ → Kind
kind_at t q = option_map_or (λ (n : Plain). n.kind) (at q t) kind.Empty

-- the kids of the node at a place
abbrev pub kids_at : Plain → List ℕ → Forest
kids_at t q = option_map_or (λ (n : Plain). n.kids) (at q t) Nil

-- whether a sort is that of expressions
abbrev pub is_expression_sort : Option Sort → Bool
is_expression_sort (Some sort.Expression) = true
is_expression_sort s = false

-- whether a node of this kind is of the sort expression, the hole too
abbrev pub is_expression : Kind → Bool
is_expression k = is_expression_sort (sort_of k)
