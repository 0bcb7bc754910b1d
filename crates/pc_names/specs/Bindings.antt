-- What a block has of a name, and how that changes while the block is gone through (ISO 7185, 6.2.2).
use Rattle.std.specs.Prelude.{ℕ, Bool, true, false, ◌&&◌, nat_eq, List, Option, Some, None, unwrap_or, if◌then◌else◌}
use Rattle.std.specs.Map.{lookup}
use Rattle.pc_names.specs.declared.id.DeclarationId.{DeclarationId}
use Rattle.pc_names.specs.declared.name_class.NameClass.{NameClass}
use Rattle.pc_names.specs.declared.slot.Slot.{Slot}
use Rattle.pc_names.specs.declared.bound.Bound.{Bound}
use Rattle.pc_names.specs.declared.bound.Bound.TheVariants.{Here, Later}

-- a block has nothing of a name that it doesn't declare and that doesn't stand before in it
abbrev pub empty_slot : Slot
empty_slot = record { class = None; passed = false; known = None }

-- the block declares the name somewhere as this; the first class counts
abbrev pub announced : Slot → NameClass → Slot
announced s c = record s { class = Some (unwrap_or s.class c) }

-- the name stands before from now on
abbrev pub passed : Slot → Slot
passed s = record s { passed = true }

-- the declaration of the name is complete from now on; the first one counts
abbrev pub completed : Slot → DeclarationId → Slot
completed s d = record s { known = Some (unwrap_or s.known d) }

-- one more declaration of the name stands before; it is complete unless it is a second one
abbrev pub declared : Slot → DeclarationId → Slot
declared s d = if s.passed then s else passed (completed s d)

-- the declaration of the name is this one from now on, whichever it was
abbrev pub retold : Slot → DeclarationId → Slot
retold s d = record s { known = Some d }

-- a complete declaration of the block, if there is one, and else the other meaning
abbrev pub here_or : Option DeclarationId → Bound → Bound
here_or (Some d) other = Here d
here_or None other = other

-- a name that the block declares later, if it does, and else the other meaning
abbrev pub later_or : Option NameClass → Bound → Bound
later_or (Some c) other = Later c
later_or None other = other

-- what a name means in a block that has this of it, and where the block has nothing of it the other meaning
abbrev pub bound_or : Slot → Bound → Bound
bound_or s other = here_or s.known (later_or s.class other)

-- whether the pair is a block and a name with these numbers
abbrev pub is_at : ℕ → ℕ → ℕ × ℕ → Bool
is_at block name pair = nat_eq block pair.0 && nat_eq name pair.1

-- what a block has of a name, both by their numbers, in a list of what the blocks have
abbrev pub slot_in : List ((ℕ × ℕ) × Slot) → ℕ → ℕ → Slot
slot_in slots block name = unwrap_or (lookup (is_at block name) slots) empty_slot
