-- How often names stood before in a block, by a table of counts (ISO 7185, 6.2.2).
use Rattle.std.specs.Prelude.{◌≡◌, ◌≤◌, ℕ, nat_eq, if◌then◌else◌, List, [], ◌∷◌, length, map, Option, Some, None, unwrap_or}
use Rattle.std.specs.Map.{lookup}
use Rattle.pc_syntax.specs.Plain.{Plain}
use Rattle.pc_syntax.specs.Sorts.{is_hole}
use Rattle.pc_syntax.specs.Words.{lowered}
use Rattle.pc_names.specs.Numbers.{AreDistinct, number_of}
use Rattle.pc_rules.specs.Meanings.{Meaning}
use Rattle.pc_rules.specs.Places.{times_in}
use Rattle.pc_facts.specs.Known.{Known}
use Rattle.pc_facts.specs.declared.sighting.Declared.{Declared}
use Rattle.pc_places.specs.Parameters.{ShowsParameters}
use Rattle.pc_places.specs.declared.parameter.Parameter.{Parameter}

-- how often the name with this number was counted
abbrev pub times_of : List (ℕ × ℕ) → ℕ → ℕ
times_of c i = unwrap_or (lookup (nat_eq i) c) 0

-- how often a name was counted that may have a number; one without a number wasn't
abbrev pub times_at : List (ℕ × ℕ) → Option ℕ → ℕ
times_at c None = 0
times_at c (Some i) = times_of c i

-- the counts, by the numbers of these names, are those of the names that stand before; nothing else is counted
pub record AreCounted (c : List (ℕ × ℕ)) (names passed : List (List ℕ)) : Type 0 where
  pub counted : (n : List ℕ) → times_in passed n ≡ times_at c (number_of names n)
  pub within : (i : ℕ) → length names ≤ i → times_of c i ≡ 0

-- the names of some declarations
abbrev pub all_names : {X : Type 0} → List (List ℕ × X) → List (List ℕ)
all_names ds = map (λ d. d.0) ds

-- from counts where no name stood before to those where all of these parameters do
abbrev pub CountsParameters : Known → List Declared → List Parameter → List (ℕ × ℕ) → List (ℕ × ℕ) → Type 0
CountsParameters k ds ps old new = (es : List (List ℕ × Meaning)) → AreDistinct k.names → ShowsParameters k ds ps es → AreCounted old k.names [] → AreCounted new k.names (all_names es)

-- a name in small letters, if it is one
abbrev pub if_named : List ℕ → List (List ℕ)
if_named [] = []
if_named (b ∷ bs) = (b ∷ bs) ∷ []

-- the name of a list that a node is; a hole is none
abbrev pub if_listed : Plain → List (List ℕ)
if_listed t = if is_hole t.kind then [] else lowered t.word ∷ []
