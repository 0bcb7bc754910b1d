-- What is found at a place of a program.
use Rattle.std.specs.Prelude.{ℕ, Bool, true, false, ◌==◌, if◌then◌else◌, List, [], ◌∷◌, Option, Some, None, zero, suc}
use Rattle.std.specs.Option.{option_or, option_and_then}
use Rattle.pc_rules.specs.Attributes.{Attributes, Marked, Done, Mark}
use Rattle.pc_decl.specs.Nodes.{way_from}
use Rattle.pc_decl.specs.Annotated.{Annotation, Annotated}

-- the trees of a row from the i-th on, counted from 1
abbrev pub from_tree : ℕ → Marked → Marked
from_tree zero m = Done
from_tree (suc zero) m = m
from_tree (suc (suc i)) Done = Done
from_tree (suc (suc i)) (Mark a below rest) = from_tree (suc i) rest

-- the attributes of the first tree
abbrev pub first_found : Marked → Option Attributes
first_found Done = None
first_found (Mark a below rest) = Some a

-- what is below the first tree
abbrev pub below_first : Marked → Marked
below_first Done = Done
below_first (Mark a below rest) = below

-- what is found this way below the node whose kids these are
abbrev pub found_on : List ℕ → Marked → Option Attributes
found_on [] m = None
found_on (i ∷ []) m = first_found (from_tree i m)
found_on (i ∷ j ∷ way) m = found_on (j ∷ way) (below_first (from_tree i m))

-- what is found this way below a routine: all that is below its block belongs to that, and all else to the heading
abbrev pub found_below : Annotation → List ℕ → Option Attributes
found_below r [] = None
found_below r (i ∷ []) = found_on (i ∷ []) r.heading
found_below r (i ∷ j ∷ way) = if i == r.routine.block_kid then found_on (j ∷ way) r.block else found_on (i ∷ j ∷ way) r.heading

-- whether the way leads on from where it begins
abbrev pub leads_below : Option (List ℕ) → Bool
leads_below (Some (i ∷ way)) = true
leads_below way = false

-- the innermost of these routines that the place is below: one inside another stands behind it
abbrev pub innermost : List Annotation → List ℕ → Option Annotation
innermost [] q = None
innermost (r ∷ rs) q = option_or (innermost rs q) (if leads_below (way_from r.routine.place q) then Some r else None)

-- the innermost routine that the place is below; a routine's own node belongs to the one around it
unfoldable pub routine_around : Annotated → List ℕ → Option Annotation
routine_around p q = innermost p.routines q

-- what is found at a place in the routine that it is below
abbrev pub found_in : List ℕ → Annotation → Option Attributes
found_in q r = option_and_then (found_below r) (way_from r.routine.place q)

-- the attributes of the node at a place; none of the program's own node, and none where there is no node
unfoldable pub attributes_at : Annotated → List ℕ → Option Attributes
attributes_at p q = option_and_then (found_in q) (routine_around p q)
