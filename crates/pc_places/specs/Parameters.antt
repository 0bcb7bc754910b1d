-- The parameters of a routine, by their numbers (ISO 7185, 6.6.3).
use Rattle.std.specs.Prelude.{◌≡◌, ◌<◌, ℕ, false, List, [], ◌∷◌, Some, None, slice_get}
use Rattle.pc_names.specs.Standing.{meant}
use Rattle.pc_rules.specs.Meanings.{Meaning, is_routine_class}
use Rattle.pc_facts.specs.Known.{Known}
use Rattle.pc_facts.specs.declared.sighting.Declared.{Declared}
use Rattle.pc_places.specs.declared.parameter.Parameter.{Parameter}
use Rattle.pc_places.specs.Places.{HasName}
use Rattle.pc_places.specs.Scenes.{ShowsUnsigned}

-- the parameters have these names and meanings, one after the other
abbrev pub ShowsParameters : Known → List Declared → List Parameter → List (List ℕ × Meaning) → Type 0
ShowsParameters k ds [] [] = Unit {0}
ShowsParameters k ds (p ∷ ps) (e ∷ es) = (slice_get k.names p.name.0 ≡ Some e.0) × ShowsUnsigned k ds p.declaration.0 e.1 × ShowsParameters k ds ps es
ShowsParameters k ds _ _ = ⊥

-- each name of the parameters has a number, of so many
abbrev pub AreNamed : ℕ → List Parameter → Type 0
AreNamed names [] = Unit {0}
AreNamed names (p ∷ ps) = (p.name.0 < names) × AreNamed names ps

-- the declaration of each parameter is one under its name
abbrev pub HaveNames : List Declared → List Parameter → Type 0
HaveNames ds [] = Unit {0}
HaveNames ds (p ∷ ps) = HasName ds p.declaration.0 p.name.0 × HaveNames ds ps

-- the declaration with this number is no routine's, and has no signature
abbrev pub IsNoRoutine : List Declared → ℕ → Type 0
IsNoRoutine ds d = (x : Declared) × (slice_get ds d ≡ Some x) × (is_routine_class (meant x.class) ≡ false) × (x.signature ≡ None)

-- the declaration of each parameter is no routine's, and has no signature
abbrev pub AreParameters : List Declared → List Parameter → Type 0
AreParameters ds [] = Unit {0}
AreParameters ds (p ∷ ps) = IsNoRoutine ds p.declaration.0 × AreParameters ds ps
