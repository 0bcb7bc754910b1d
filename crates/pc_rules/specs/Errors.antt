-- The errors of a program: those of its routines, in the order of the places.
use Rattle.std.specs.Prelude.{ℕ, Bool, true, false, ◌==◌, if◌then◌else◌, List, [], ◌∷◌, ◌++◌, nat_lt}
use Rattle.pc_syntax.specs.declared.kind.Kind.{Kind}
use Rattle.pc_syntax.specs.Plain.{Plain}
use Rattle.pc_rules.specs.Attributes.{at_kid, Entry, nodes}
use Rattle.pc_rules.specs.Decorated.{decorate}
use Rattle.pc_rules.specs.HandedOn.{kid_entries}
use Rattle.pc_rules.specs.Headings.{heading_entries}
use Rattle.pc_rules.specs.Outsides.{outside_of}
use Rattle.pc_rules.specs.RoutineList.{routines_of}
use Rattle.pc_rules.specs.Routines.{Routine, start_of}
use Rattle.pc_syntax.specs.declared.kind.Kind.TheVariants as kind

-- the entries of a routine, from its place on: those of its heading and of its own block
unfoldable pub own_entries : List Routine → Routine → List Entry
own_entries rs r = heading_entries r ++ at_kid r.block_kid (kid_entries 1 (nodes (decorate (outside_of rs r) (start_of r) r.block)))

-- the entries of a node at this place, seen from the root
abbrev pub from_place : List ℕ → List Entry → List Entry
from_place [] es = es
from_place (i ∷ is) es = at_kid i (from_place is es)

-- the entries of these routines, among all of the program
abbrev pub entries_of : List Routine → List Routine → List Entry
entries_of all [] = []
entries_of all (r ∷ rs) = from_place r.place (own_entries all r) ++ entries_of all rs

-- the preorder of places, given what counts at one place
abbrev pub comes_first : List ℕ → List ℕ → Bool → Bool
comes_first [] [] tie = tie
comes_first [] (j ∷ js) tie = true
comes_first (i ∷ is) [] tie = false
comes_first (i ∷ is) (j ∷ js) tie = if i == j then comes_first is js tie else nat_lt i j

-- an entry put among others: the order of the list is that of the places, and at one place that of the rows
abbrev pub put_in : Entry → List Entry → List Entry
put_in e [] = e ∷ []
put_in e (f ∷ fs) = if comes_first f.place e.place (nat_lt f.row e.row) then f ∷ put_in e fs else e ∷ f ∷ fs

-- entries in that order
abbrev pub in_order : List Entry → List Entry
in_order [] = []
in_order (e ∷ es) = put_in e (in_order es)

-- whether a kind is the program's
abbrev pub is_program : Kind → Bool
is_program kind.Program = true
is_program _ = false

-- the error list of a tree; a hole in the place of the program has none
unfoldable pub errors_of : Plain → List Entry
errors_of t = if is_program t.kind then in_order (entries_of (routines_of t) (routines_of t)) else []
