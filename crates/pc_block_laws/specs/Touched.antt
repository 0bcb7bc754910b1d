-- Logs of touched variables, by the numbers of their blocks and names, and the lists of the rules: both say the same (ISO 7185, 6.8.3.9).
use Rattle.std.specs.Prelude.{◌≡◌, ℕ, ◌<◌, ◌++◌, Bool, false, List, drop, length, get_or}
use Rattle.std.specs.Option.{option_map_or}
use Rattle.pc_types.specs.Shapes.{Owner}
use Rattle.pc_types.specs.Table.{nobody}
use Rattle.pc_rules.specs.ForStatements.{stands_among}
use Rattle.pc_names.specs.Numbers.{number_of, AreDistinct}
use Rattle.pc_sightings.specs.TouchedLog.{stands_in, stands_since, ShowsTouched, AreApart}
use Rattle.pc_growth.specs.Grows.{Begins}

-- whether a variable of a block stands in a log, by the block's number and the variable's name
abbrev pub stands_named : List (List ℕ) → List (ℕ × ℕ) → ℕ → List ℕ → Bool
stands_named names ws o n = option_map_or (λ (i : ℕ). stands_in ws (o, i)) (number_of names n) false

-- it stands there exactly where it stands among the variables that the log shows
abbrev pub SaysLaw : Type 0
SaysLaw = (owners : List Owner) (names : List (List ℕ)) (ws : List (ℕ × ℕ)) (vs : List (Owner × List ℕ)) → AreApart owners → AreDistinct names → ShowsTouched owners names ws vs →
    (o : ℕ) (n : List ℕ) → o < length owners → stands_named names ws o n ≡ stands_among vs (get_or owners o nobody) n

-- logs one behind the other show the variables one behind the other
abbrev pub AppendedLaw : Type 0
AppendedLaw = (owners : List Owner) (names : List (List ℕ)) (ws : List (ℕ × ℕ)) (vs : List (Owner × List ℕ)) (xs : List (ℕ × ℕ)) (ys : List (Owner × List ℕ)) →
    ShowsTouched owners names ws vs → ShowsTouched owners names xs ys → ShowsTouched owners names (ws ++ xs) (vs ++ ys)

-- a log shows the same when more owners and names have numbers
abbrev pub GrownLaw : Type 0
GrownLaw = (owners more_owners : List Owner) (names more_names : List (List ℕ)) (ws : List (ℕ × ℕ)) (vs : List (Owner × List ℕ)) → Begins owners more_owners → Begins names more_names →
    ShowsTouched owners names ws vs → ShowsTouched more_owners more_names ws vs

-- behind a mark stands what was added since
abbrev pub SinceLaw : Type 0
SinceLaw = (old more : List (ℕ × ℕ)) → (drop (length old) (old ++ more) ≡ more) × ((v : ℕ × ℕ) → stands_since (length old) (old ++ more) v ≡ stands_in more v)

-- what a log of touched variables says
pub record TouchedLaw : Type 0 where
  pub says : SaysLaw
  pub appended : AppendedLaw
  pub grown : GrownLaw
  pub since : SinceLaw
