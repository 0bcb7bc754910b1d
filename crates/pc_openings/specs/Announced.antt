-- What it does to the table of names that a block declares names somewhere (ISO 7185, 6.2.2).
use Rattle.std.specs.Prelude.{◌≡◌, ℕ, List}
use Rattle.std.specs.Option.{option_map}
use Rattle.pc_names.specs.Numbers.{AreDistinct}
use Rattle.pc_names.specs.Standing.{meant}
use Rattle.pc_names.specs.StandingLaws.{first_of}
use Rattle.pc_names.specs.Table.{Table, slot_named}
use Rattle.pc_rules.specs.Meanings.{Class, entry_of}
use Rattle.pc_growth.specs.Grows.{Begins}

-- the block declares these names too, behind those that it declared, each as this class; all else that blocks have of names stays
pub record Announced (block : ℕ) (more : List (List ℕ × Class)) (old new : Table) : Type 0 where
  pub chains : new.chains ≡ old.chains
  pub texts : Begins old.texts new.texts
  pub distinct : AreDistinct old.texts → AreDistinct new.texts
  pub others : (b : ℕ) (n : List ℕ) → (b ≡ block → ⊥) → slot_named new b n ≡ slot_named old b n
  pub classes : (n : List ℕ) → option_map meant (slot_named new block n).class ≡ first_of (option_map meant (slot_named old block n).class) (entry_of more n)
  pub passes : (n : List ℕ) → (slot_named new block n).passed ≡ (slot_named old block n).passed
  pub knows : (n : List ℕ) → (slot_named new block n).known ≡ (slot_named old block n).known
