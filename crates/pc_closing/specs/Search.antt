-- How the types that are not whole are found: each new type by its number among the new ones, with those that lead to it.
use Rattle.std.specs.Prelude.{◌≡◌, ◌⊎◌, ℕ, ◌+◌, ◌-◌, ◌<◌, ◌≤◌, Bool, true, false, if◌then◌else◌, List, [], ◌∷◌, ◌++◌, Option, Some, None, get_or, set, length, slice_get}
use Rattle.pc_types.specs.Shapes.{Shape, NoMembers}
use Rattle.pc_types.specs.Table.{Table}
use Rattle.pc_types.specs.declared.form.TypeId.{TypeId}
use Rattle.pc_closing.specs.Whole.{LeadsOn}

-- the new types: which count as whole so far, and those that don't, each once, in the order in which they were found
pub record Marks : Type 0 where
  pub whole : List Bool
  pub found : List ℕ

-- a type is found not to be whole
abbrev pub enter : ℕ → Marks → Marks
enter i m = if get_or m.whole i false then record { whole = set m.whole i false; found = m.found ++ i ∷ [] } else m

-- each of some types is
abbrev pub enter_all : List ℕ → Marks → Marks
enter_all [] m = m
enter_all (i ∷ is) m = enter_all is (enter i m)

-- one more type leads to the type with this number
abbrev pub with_user : ℕ → ℕ → List (List ℕ) → List (List ℕ)
with_user part i users = set users part (get_or users part [] ++ i ∷ [])

-- a type leads to another, of which it is known whether it is whole, or which is new
abbrev pub marks_after : Option Bool → ℕ → Marks → Marks
marks_after None i m = m
marks_after (Some true) i m = m
marks_after (Some false) i m = enter i m

-- then it is among those that lead to a new one
abbrev pub users_after : Option Bool → ℕ → ℕ → List (List ℕ) → List (List ℕ)
users_after None part i users = with_user part i users
users_after (Some known) part i users = users

-- the same by the flags that are known
abbrev pub marks_needing : List Bool → ℕ → ℕ → Marks → Marks
marks_needing flags part i m = marks_after (slice_get flags part) i m

-- and who leads to new types then
abbrev pub users_needing : List Bool → ℕ → ℕ → List (List ℕ) → List (List ℕ)
users_needing flags part i users = users_after (slice_get flags part) (part - length flags) i users

-- a type leads to another, if there is one
abbrev pub marks_if : List Bool → Option TypeId → ℕ → Marks → Marks
marks_if flags None i m = m
marks_if flags (Some part) i m = marks_needing flags part.0 i m

-- and who leads to new types then
abbrev pub users_if : List Bool → Option TypeId → ℕ → List (List ℕ) → List (List ℕ)
users_if flags None i users = users
users_if flags (Some part) i users = users_needing flags part.0 i users

-- a type leads to those of its fields
abbrev pub marks_all : List Bool → List (List ℕ × TypeId) → ℕ → Marks → Marks
marks_all flags [] i m = m
marks_all flags (f ∷ fs) i m = marks_all flags fs i (marks_needing flags f.1.0 i m)

-- and who leads to new types then
abbrev pub users_all : List Bool → List (List ℕ × TypeId) → ℕ → List (List ℕ) → List (List ℕ)
users_all flags [] i users = users
users_all flags (f ∷ fs) i users = users_all flags fs i (users_needing flags f.1.0 i users)

-- a type is no pointer type, or it is one whose domain has no type, or leads to that of its domain
abbrev pub marks_to : List Bool → Option (Option TypeId) → ℕ → Marks → Marks
marks_to flags None i m = m
marks_to flags (Some None) i m = enter i m
marks_to flags (Some (Some part)) i m = marks_needing flags part.0 i m

-- and who leads to new types then
abbrev pub users_to : List Bool → Option (Option TypeId) → ℕ → List (List ℕ) → List (List ℕ)
users_to flags None i users = users
users_to flags (Some None) i users = users
users_to flags (Some (Some part)) i users = users_needing flags part.0 i users

-- ---- what holds of marks and users

-- a number is one of some
abbrev pub IsAmong : ℕ → List ℕ → Type 0
IsAmong i [] = ⊥
IsAmong i (k ∷ ks) = (i ≡ k) ⊎ IsAmong i ks

-- each of some numbers has a property
abbrev pub EachOf : (ℕ → Type 0) → List ℕ → Type 0
EachOf P [] = Unit {0}
EachOf P (k ∷ ks) = P k × EachOf P ks

-- how many types count as whole
abbrev pub trues : List Bool → ℕ
trues [] = 0
trues (true ∷ bs) = 1 + trues bs
trues (false ∷ bs) = trues bs

-- a type doesn't count as whole
abbrev pub IsBad : Marks → ℕ → Type 0
IsBad m i = get_or m.whole i false ≡ false

-- each type was found once
abbrev pub AreCounted : Marks → Type 0
AreCounted m = length m.found + trues m.whole ≡ length m.whole

-- what doesn't count as whole is not whole, and is among what was found
pub record AreMarked (Bad : ℕ → Type 0) (m : Marks) : Type 0 where
  pub sound : (i : ℕ) → i < length m.whole → IsBad m i → Bad i
  pub listed : (i : ℕ) → i < length m.whole → IsBad m i → IsAmong i m.found
  pub bad : EachOf Bad m.found
  pub count : AreCounted m

-- what leads to a type that is not whole is not whole
abbrev pub AreUsed : (ℕ → Type 0) → List (List ℕ) → Type 0
AreUsed Bad users = (k : ℕ) → Bad k → EachOf Bad (get_or users k [])

-- more types don't count as whole, and more lead to others; what held of them holds
pub record Moves (Bad : ℕ → Type 0) (us vs : List (List ℕ)) (m n : Marks) : Type 0 where
  pub later : (i : ℕ) → IsBad m i → IsBad n i
  pub grown : (i k : ℕ) → IsAmong i (get_or us k []) → IsAmong i (get_or vs k [])
  pub users : length vs ≡ length us
  pub marks : length n.whole ≡ length m.whole
  pub marked : AreMarked Bad m → AreMarked Bad n
  pub used : AreUsed Bad us → AreUsed Bad vs

-- a type of which another is a part is taken account of: it is whole, or is new and has that other among those that lead to it
abbrev pub IsSeenTo : List Bool → List (List ℕ) → ℕ → ℕ → Type 0
IsSeenTo flags us i part =
    ((part < length flags) × (get_or flags part true ≡ true)) ⊎ ((length flags ≤ part) × IsAmong i (get_or us (part - length flags) []))

-- so is the type of a shape
pub record IsSeen (flags : List Bool) (shapes : List Shape) (us : List (List ℕ)) (i : ℕ) (s : Shape) : Type 0 where
  pub number : ℕ
  pub is : get_or shapes number NoMembers ≡ s
  pub seen_to : IsSeenTo flags us i number

-- a new type doesn't count as whole, or all that it leads to is taken account of
abbrev pub IsFollowed : List Bool → Table → List (List ℕ) → Marks → ℕ → Type 0
IsFollowed flags table us m i = IsBad m i ⊎ LeadsOn (IsSeen flags table.shapes us i) table.domains (get_or table.shapes (length flags + i) NoMembers)
