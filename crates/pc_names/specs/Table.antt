-- The table of names, and how it changes (ISO 7185, 6.2.2).
use Rattle.std.specs.Prelude.{◌≡◌, ℕ, ◌<◌, ◌&&◌, nat_eq, List, Option, Some, None, if◌then◌else◌}
use Rattle.std.specs.Map.{lookup}
use Rattle.pc_names.specs.declared.slot.Slot.{Slot}
use Rattle.pc_names.specs.declared.bound.Bound.{Bound}
use Rattle.pc_names.specs.Bindings.{empty_slot, is_at, slot_in}
use Rattle.pc_names.specs.Chains.{found}
use Rattle.pc_names.specs.Numbers.{number_of}

-- a table of names: the names in small letters, by their numbers; what is bound in a block to a name, both by their numbers; and
-- each block with those around it
pub record Table : Type 0 where
  pub texts : List (List ℕ)
  pub slots : List ((ℕ × ℕ) × Slot)
  pub chains : List (List ℕ)

-- what a block has of a name that may have a number
abbrev pub slot_at : List ((ℕ × ℕ) × Slot) → ℕ → Option ℕ → Slot
slot_at slots block None = empty_slot
slot_at slots block (Some name) = slot_in slots block name

-- what a block has of a name in small letters
abbrev pub slot_named : Table → ℕ → List ℕ → Slot
slot_named t block n = slot_at t.slots block (number_of t.texts n)

-- what a name in small letters means from a block outwards
abbrev pub found_named : Table → List ℕ → List ℕ → Bound
found_named t blocks n = found (λ block. slot_named t block n) blocks

-- something is bound only to names that have a number, and in blocks that were begun
abbrev pub IsWithin : List ((ℕ × ℕ) × Slot) → ℕ → ℕ → Type 0
IsWithin slots blocks names = (block name : ℕ) (s : Slot) → lookup (is_at block name) slots ≡ Some s → (block < blocks) × (name < names)

-- a block has this of a name from now on, and all else stays
pub record Rebinds (old new : Table) (block name : ℕ) (slot : Slot) : Type 0 where
  pub texts : new.texts ≡ old.texts
  pub chains : new.chains ≡ old.chains
  pub slots : (b n : ℕ) → slot_in new.slots b n ≡ (if nat_eq block b && nat_eq name n then slot else slot_in old.slots b n)
