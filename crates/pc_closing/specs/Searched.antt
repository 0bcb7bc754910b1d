-- What the steps of the search for types that are not whole say.
use Rattle.std.specs.Prelude.{◌≡◌, ℕ, ◌+◌, ◌<◌, ◌≤◌, Bool, false, List, [], Option, Some, None, get_or, length, option_map, take}
use Rattle.pc_types.specs.Shapes.{Shape}
use Rattle.pc_types.specs.Domains.{domain_in}
use Rattle.pc_types.specs.Outlined.{domain_place}
use Rattle.pc_types.specs.Table.{Table, Place, numbered}
use Rattle.pc_types.specs.declared.form.TypeId.{TypeId}
use Rattle.pc_closing.specs.Whole.{is_whole_at}
use Rattle.pc_closing.specs.Search.{Marks, EachOf, IsBad, AreCounted, AreMarked, AreUsed, Moves, IsFollowed}

-- a new type is not whole
abbrev pub BadAt : Table → ℕ → ℕ → Type 0
BadAt table known i = is_whole_at table (known + i) ≡ false

-- a type that another leads to is among so many, if there is one
abbrev pub PartThere : ℕ → Option TypeId → Type 0
PartThere types None = Unit {0}
PartThere types (Some part) = part.0 < types

-- the same of the type of a domain
abbrev pub TargetThere : ℕ → Option (Option TypeId) → Type 0
TargetThere types None = Unit {0}
TargetThere types (Some part) = PartThere types part

-- what a target is: none where the type is no pointer type, and else what the table has at the place of the domain
abbrev pub IsTarget : Table → Shape → Option (Option TypeId) → Type 0
IsTarget table s target = option_map (option_map (numbered table.shapes)) target ≡ option_map (λ (p : Place). domain_in table.domains p.owner p.name) (domain_place s)

-- how the marks and those that lead to others change, whatever types lead to
abbrev pub Changes : List (List ℕ) → List (List ℕ) → Marks → Marks → Type 0
Changes us vs m n = Moves (λ i. Unit {0}) us vs m n

-- what a call says that notes what a new type leads to
pub record IsNoted (flags : List Bool) (table : Table) (i : ℕ) (us vs : List (List ℕ)) (m n : Marks) : Type 0 where
  pub moves : Moves (BadAt table (length flags)) us vs m n
  pub followed : IsFollowed flags table vs n i

-- what led to the first so many of the types that were found is found too
abbrev pub AreSpread : List (List ℕ) → Marks → ℕ → Type 0
AreSpread us m at = EachOf (λ k. EachOf (IsBad m) (get_or us k [])) (take at m.found)

-- at the end of a search what leads to each type that was found is found too; what doesn't count as whole is not, where what leads to
-- a type that isn't whole isn't
pub record Spreads (us : List (List ℕ)) (m n : Marks) (at : ℕ) : Type 0 where
  pub later : (k : ℕ) → IsBad m k → IsBad n k
  pub marks : length n.whole ≡ length m.whole
  pub spread : AreSpread us n at
  pub within : at ≤ length n.found
  pub count : AreCounted n
  pub marked : (whole : ℕ → Bool) → AreUsed (λ i. whole i ≡ false) us → AreMarked (λ i. whole i ≡ false) m → AreMarked (λ i. whole i ≡ false) n

-- each new type is followed
abbrev pub AreFollowed : List Bool → Table → List (List ℕ) → Marks → ℕ → Type 0
AreFollowed flags table us m count = (i : ℕ) → i < count → IsFollowed flags table us m i

-- the first so many of the new types are followed; what doesn't count as whole is not, and what leads to a type that isn't whole isn't
pub record Gathers (flags : List Bool) (table : Table) (us vs : List (List ℕ)) (m n : Marks) (count : ℕ) : Type 0 where
  pub moves : Moves (BadAt table (length flags)) us vs m n
  pub followed : AreFollowed flags table vs n count
