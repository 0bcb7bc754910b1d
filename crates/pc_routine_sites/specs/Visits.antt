-- How the tables change where a routine, with those inside it, is gone through.
use Rattle.std.specs.Prelude.{◌≡◌, ◌<◌, ℕ, List, length}
use Rattle.pc_names.specs.Numbers.{AreDistinct}
use Rattle.pc_names.specs.Table.{slot_named}
use Rattle.pc_growth.specs.Grows.{Begins, Grows}
use Rattle.pc_places.specs.Places.{known, IsNamed}
use Rattle.pc_places.specs.declared.tables.Tables.{Tables}

-- more is numbered and declared, owners too, and only this block of those that were begun may have got other names
pub record Visits (block : ℕ) (old new : Tables) : Type 0 where
  pub grows : Grows (known old) (known new)
  pub declarations : Begins old.declarations.items new.declarations.items
  pub chains : Begins old.names.chains new.names.chains
  pub distinct : AreDistinct old.names.texts → AreDistinct new.names.texts
  pub others : (b : ℕ) (n : List ℕ) → b < length old.names.chains → (b ≡ block → ⊥) → slot_named new.names b n ≡ slot_named old.names b n
  pub named : IsNamed old.names old.declarations.items → IsNamed new.names new.declarations.items
