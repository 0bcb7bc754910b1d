-- The names that a routine uses: in its headings, and in its own block (ISO 7185, 6.2.2.9, 6.6.1, 6.6.2).
use Rattle.std.specs.Prelude.{ℕ, Bool, true, false, ◌&&◌, if◌then◌else◌, List, [], ◌∷◌, Option, Some, None, ◌++◌}
use Rattle.pc_syntax.specs.Plain.{Forest, Nil, Cons}
use Rattle.pc_syntax.specs.Words.{is_among}
use Rattle.pc_types.specs.Sameness.{same_owner}
use Rattle.pc_types.specs.Shapes.{Owner}
use Rattle.pc_scope.specs.Headings.{ends_forward}
use Rattle.pc_rules.specs.Law.{names_used}
use Rattle.pc_rules.specs.Routines.{Routine}

-- the names that the heading of a declaration uses: those of its types; its own name, and those of parameters, are declared
abbrev pub used_in_heading : Routine → List (List ℕ)
used_in_heading r = names_used false true r.heading

-- the names that its own block uses
abbrev pub used_in_block : Routine → List (List ℕ)
used_in_block r = names_used true true r.block

-- whether trees are none
abbrev pub is_nil : Forest → Bool
is_nil Nil = true
is_nil (Cons k w ns ks ts) = false

-- whether a declaration is a forward heading: the word `forward` stands for its block
abbrev pub stands_forward : Routine → Bool
stands_forward r = ends_forward r.heading && is_nil r.block

-- the first forward heading of the routine with this block
abbrev pub first_forward : List Routine → Owner → Option Routine
first_forward [] o = None
first_forward (r ∷ rs) o = if same_owner r.owner o && stands_forward r then Some r else first_forward rs o

-- the forward heading of a later declaration that has a key; both are one routine
unfoldable pub forward_of : List Routine → Routine → Option Routine
forward_of rs r = if r.is_later then first_forward rs r.owner else None

-- the names that the forward heading uses, if there is one
abbrev pub used_in_forward : Option Routine → List (List ℕ)
used_in_forward None = []
used_in_forward (Some f) = used_in_heading f

-- names without those of the first list, each once, in the order in which they are first met
abbrev pub once : List (List ℕ) → List (List ℕ) → List (List ℕ)
once before [] = []
once before (n ∷ ns) = if is_among before n then once before ns else n ∷ once (n ∷ before) ns

-- the names that a routine uses, in text order: in the forward heading, in the heading beside the block, and in the block
unfoldable pub names_of : List Routine → Routine → List (List ℕ)
names_of rs r = once [] (used_in_forward (forward_of rs r) ++ (used_in_heading r ++ used_in_block r))
