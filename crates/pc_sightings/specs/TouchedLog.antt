-- Variables that were touched, in order, by their numbers.
use Rattle.std.specs.Prelude.{◌≡◌, ℕ, ◌<◌, suc, Bool, false, ◌&&◌, ◌||◌, nat_eq, List, [], ◌∷◌, drop, length, get_or, slice_get, Option, Some, None, if◌then◌else◌}
use Rattle.std.specs.Map.{lookup}
use Rattle.pc_types.specs.Sameness.{same_owner}
use Rattle.pc_types.specs.Shapes.{Owner}
use Rattle.pc_types.specs.Table.{nobody}
use Rattle.pc_facts.specs.declared.sighting.Variable.{Variable}

-- the number of the block that declares a variable, and that of its name
abbrev pub numbers_of : Variable → ℕ × ℕ
numbers_of v = (v.owner.0, v.name.0)

-- the numbers of a variable, if there is one
abbrev pub noted : Option Variable → List (ℕ × ℕ)
noted None = []
noted (Some v) = numbers_of v ∷ []

-- whether two variables are one
abbrev pub is_variable : ℕ × ℕ → ℕ × ℕ → Bool
is_variable v w = nat_eq v.0 w.0 && nat_eq v.1 w.1

-- whether a variable stands in a list
abbrev pub stands_in : List (ℕ × ℕ) → ℕ × ℕ → Bool
stands_in [] v = false
stands_in (w ∷ ws) v = is_variable v w || stands_in ws v

-- whether it stands there behind so many others
abbrev pub stands_since : ℕ → List (ℕ × ℕ) → ℕ × ℕ → Bool
stands_since mark ws v = stands_in (drop mark ws) v

-- the place of a variable, from 0, where there is a later one, and else where it stands first
abbrev pub place_or : Option ℕ → Bool → Option ℕ
place_or (Some i) b = Some (suc i)
place_or None b = if b then Some 0 else None

-- the last place at which a variable stands
abbrev pub last_place : List (ℕ × ℕ) → ℕ × ℕ → Option ℕ
last_place [] v = None
last_place (w ∷ ws) v = place_or (last_place ws v) (is_variable v w)

-- the entries have the last place of each variable
abbrev pub HasLast : List (ℕ × ℕ) → List ((ℕ × ℕ) × ℕ) → Type 0
HasLast ws entries = (v : ℕ × ℕ) → lookup (is_variable v) entries ≡ last_place ws v

-- a variable by its numbers is this one of the rules
abbrev pub ShowsVariableAt : List Owner → List (List ℕ) → ℕ × ℕ → Owner × List ℕ → Type 0
ShowsVariableAt owners names v w = (get_or owners v.0 nobody ≡ w.0) × (v.0 < length owners) × (slice_get names v.1 ≡ Some w.1)

-- variables in order, each likewise
abbrev pub ShowsTouched : List Owner → List (List ℕ) → List (ℕ × ℕ) → List (Owner × List ℕ) → Type 0
ShowsTouched owners names [] [] = Unit {0}
ShowsTouched owners names (v ∷ vs) (w ∷ ws) = ShowsVariableAt owners names v w × ShowsTouched owners names vs ws
ShowsTouched owners names _ _ = ⊥

-- each owner has one number
abbrev pub AreApart : List Owner → Type 0
AreApart owners = (i j : ℕ) → i < length owners → j < length owners → same_owner (get_or owners i nobody) (get_or owners j nobody) ≡ nat_eq i j
