-- The headings of routines, by the numbers of their names (ISO 7185, 6.6.1, 6.6.2).
use Rattle.std.specs.Prelude.{◌≡◌, ℕ, Bool, true, false, List, [], ◌∷◌, Option, Some, None}
use Rattle.std.specs.Option.{option_and_then}
use Rattle.pc_names.specs.Numbers.{number_of}
use Rattle.pc_names.specs.declared.id.NameId.{NameId}
use Rattle.pc_scope.specs.Headings.{Heading, has_later}
use Rattle.pc_rules.specs.Declarations.{head_or, rest_of}
use Rattle.pc_routines.specs.declared.head.RoutineHead.{RoutineHead}

-- the number of the name in small letters, none where there is no name
abbrev pub ShowsHeadName : List (List ℕ) → Option NameId → List ℕ → Type 0
ShowsHeadName names None n = n ≡ []
ShowsHeadName names (Some i) [] = ⊥
ShowsHeadName names (Some i) (c ∷ cs) = number_of names (c ∷ cs) ≡ Some i.0

-- the heading of a routine, given the names by their numbers; what stands behind it aside
pub record ShowsHead (names : List (List ℕ)) (x : RoutineHead) (h : Heading) : Type 0 where
  pub name : ShowsHeadName names x.name h.name
  pub side : x.is_function ≡ h.is_function
  pub forward : x.is_forward ≡ h.is_forward

-- headings in a row, each with whether a routine behind it is its later declaration
abbrev pub ShowsHeads : List (List ℕ) → List RoutineHead → List Heading → Type 0
ShowsHeads names [] [] = Unit {0}
ShowsHeads names (x ∷ xs) (h ∷ hs) = ShowsHead names x h × (x.has_later ≡ has_later h hs) × ShowsHeads names xs hs
ShowsHeads names _ _ = ⊥

-- the heading of the routine that stands first, with whether one behind it is its later declaration
pub record ShowsFirst (names : List (List ℕ)) (x : RoutineHead) (hs : List Heading) : Type 0 where
  pub head : ShowsHead names x (head_or hs)
  pub later : x.has_later ≡ has_later (head_or hs) (rest_of hs)

-- procedures and functions as numbers, by which tables tell them apart
abbrev pub side : Bool → ℕ
side true = 1
side false = 0

-- the number of a name; that of no name is none
abbrev pub numbered : List (List ℕ) → List ℕ → Option ℕ
numbered names [] = None
numbered names (c ∷ cs) = number_of names (c ∷ cs)

-- what a table has for a heading, given what it has at each number and side
abbrev pub found_for : {X : Type 0} → (ℕ → ℕ → Option X) → List (List ℕ) → Heading → Option X
found_for has names h = option_and_then (λ i. has i (side h.is_function)) (numbered names h.name)

-- the same for a heading by numbers
abbrev pub found_at : {X : Type 0} → (ℕ → ℕ → Option X) → Option NameId → Bool → Option X
found_at has None b = None
found_at has (Some i) b = has i.0 (side b)
