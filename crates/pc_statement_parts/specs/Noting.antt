-- How the variables that a statement part touches are noted.
use Rattle.std.specs.Prelude.{◌≡◌, ℕ, List, ◌++◌}
use Rattle.pc_types.specs.Shapes.{Owner}
use Rattle.pc_sightings.specs.TouchedLog.{ShowsTouched}
use Rattle.pc_facts.specs.Known.{Known}

-- a log of variables by their numbers has grown by these of the rules
abbrev pub NotesTouched : Known → List (ℕ × ℕ) → List (ℕ × ℕ) → List (Owner × List ℕ) → Type 0
NotesTouched k old new touches = (more : List (ℕ × ℕ)) × (new ≡ old ++ more) × ShowsTouched k.table.owners k.names more touches
