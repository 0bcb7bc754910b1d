-- When the tables stand for a place among the declarations of a block, and how they change while these are gone through.
use Rattle.std.specs.Prelude.{◌≡◌, ◌<◌, ℕ, Bool, List, [], ◌∷◌, ◌++◌, Some, length, get_or, slice_get}
use Rattle.pc_syntax.specs.Plain.{Plain}
use Rattle.pc_types.specs.Rows.{seen}
use Rattle.pc_types.specs.Table.{definition_in, nobody}
use Rattle.pc_types.specs.declared.form.Definition.{Definition}
use Rattle.pc_names.specs.Bindings.{slot_in, declared, retold}
use Rattle.pc_names.specs.Chains.{AreBelow, chain_of}
use Rattle.pc_names.specs.Finding.{FindsAlong}
use Rattle.pc_names.specs.Numbers.{AreDistinct}
use Rattle.pc_names.specs.Standing.{StandsFor}
use Rattle.pc_names.specs.Table.{Table, slot_named, Rebinds}
use Rattle.pc_names.specs.declared.id.DeclarationId.{DeclarationId}
use Rattle.pc_names.specs.declared.slot.Slot.{Slot}
use Rattle.pc_rules.specs.Attributes.{Node}
use Rattle.pc_rules.specs.Denoters.{defined_here}
use Rattle.pc_rules.specs.Meanings.{Local, Outside}
use Rattle.pc_rules.specs.RequiredMeanings.{required_or_missing}
use Rattle.pc_environment.specs.Decorating.{attributes_at, below_at, place_behind}
use Rattle.pc_facts.specs.Known.{Known}
use Rattle.pc_facts.specs.declared.sighting.Declared.{Declared}
use Rattle.pc_growth.specs.Grows.{Begins, Grows}
use Rattle.pc_places.specs.Scenes.{ShowsUnsigned}
use Rattle.pc_places.specs.declared.tables.Tables.{Tables}

-- what the numbers stand for
abbrev pub known : Tables → Known
known t = record { table = seen t.types; names = t.names.texts; texts = t.texts.items; signatures = t.signatures.items }

-- the block with this number, of the routine with that number, is this place of the rules
pub record IsPlace (t : Tables) (block owner : ℕ) (out : Outside) (l : Local) : Type 0 where
  pub own : StandsFor (ShowsUnsigned (known t) t.declarations.items) t.names block l
  pub outer : List ℕ
  pub chain : chain_of t.names.chains block ≡ block ∷ outer
  pub below : AreBelow block outer
  pub around : FindsAlong (ShowsUnsigned (known t) t.declarations.items) required_or_missing t.names outer out.means
  pub closed : l.fields ≡ []
  pub distinct : AreDistinct t.names.texts
  pub owner_is : get_or (known t).table.owners owner nobody ≡ l.owner
  pub there : owner < length (known t).table.owners

-- the declaration with this number has the name with that number
abbrev pub HasName : List Declared → ℕ → ℕ → Type 0
HasName ds d name = (x : Declared) × (slice_get ds d ≡ Some x) × (x.name.0 ≡ name)

-- the declaration with this number is one under this name
abbrev pub IsUnder : List (List ℕ) → List Declared → List ℕ → ℕ → Type 0
IsUnder names ds n d = (x : Declared) × (slice_get ds d ≡ Some x) × (slice_get names x.name.0 ≡ Some n)

-- whatever a block has as the complete declaration of a name is a declaration under this name
abbrev pub IsNamed : Table → List Declared → Type 0
IsNamed t ds = (b : ℕ) (n : List ℕ) (d : DeclarationId) → (slot_named t b n).known ≡ Some d → IsUnder t.texts ds n d.0

-- more is numbered and declared, and only this block of those that were begun may have got other names; owners stay, and domains may have got other types
pub record Changes (block : ℕ) (old new : Tables) : Type 0 where
  pub grows : Grows (known old) (known new)
  pub declarations : Begins old.declarations.items new.declarations.items
  pub chains : Begins old.names.chains new.names.chains
  pub distinct : AreDistinct old.names.texts → AreDistinct new.names.texts
  pub others : (b : ℕ) (n : List ℕ) → b < length old.names.chains → (b ≡ block → ⊥) → slot_named new.names b n ≡ slot_named old.names b n
  pub named : IsNamed old.names old.declarations.items → IsNamed new.names new.declarations.items
  pub owners : (known new).table.owners ≡ (known old).table.owners

-- the same where domains stay as they are
pub record Moves (block : ℕ) (old new : Tables) : Type 0 where
  pub grows : Grows (known old) (known new)
  pub declarations : Begins old.declarations.items new.declarations.items
  pub chains : Begins old.names.chains new.names.chains
  pub distinct : AreDistinct old.names.texts → AreDistinct new.names.texts
  pub others : (b : ℕ) (n : List ℕ) → b < length old.names.chains → (b ≡ block → ⊥) → slot_named new.names b n ≡ slot_named old.names b n
  pub named : IsNamed old.names old.declarations.items → IsNamed new.names new.declarations.items
  pub domains : Begins (known old).table.domains (known new).table.domains
  pub owners : (known new).table.owners ≡ (known old).table.owners

-- more is numbered and declared, and each block has of each name what it had
pub record Keeps (old new : Tables) : Type 0 where
  pub grows : Grows (known old) (known new)
  pub declarations : Begins old.declarations.items new.declarations.items
  pub chains : Begins old.names.chains new.names.chains
  pub distinct : AreDistinct old.names.texts → AreDistinct new.names.texts
  pub slots : (b : ℕ) (n : List ℕ) → slot_named new.names b n ≡ slot_named old.names b n
  pub domains : Begins (known old).table.domains (known new).table.domains
  pub owners : (known new).table.owners ≡ (known old).table.owners

-- the block has this of the name from now on, there are these declarations more, and all else stays
pub record Rebound (block name : ℕ) (slot : Slot) (more : List Declared) (old new : Tables) : Type 0 where
  pub types : new.types ≡ old.types
  pub texts : new.texts.items ≡ old.texts.items
  pub signatures : new.signatures.items ≡ old.signatures.items
  pub declarations : new.declarations.items ≡ old.declarations.items ++ more
  pub names : Rebinds old.names new.names block name slot

-- the last declaration is this one, under this name of the block; it is complete unless the name stood before
abbrev pub AddsDeclaration : ℕ → ℕ → Declared → Tables → Tables → Type 0
AddsDeclaration block name x old new =
    (d : DeclarationId) × (d.0 ≡ length old.declarations.items) × Rebound block name (declared (slot_in old.names.slots block name) d) (x ∷ []) old new

-- the last declaration is this one, under this name of the block, whichever was complete there before
abbrev pub RetellsDeclaration : ℕ → ℕ → Declared → Tables → Tables → Type 0
RetellsDeclaration block name x old new =
    (d : DeclarationId) × (d.0 ≡ length old.declarations.items) × Rebound block name (retold (slot_in old.names.slots block name) d) (x ∷ []) old new

-- the definition that is made here, and whether the type is packed, are those that the place says
pub record IsHere (t : Tables) (here : Definition) (packed : Bool) (l : Local) : Type 0 where
  pub defined : definition_in (known t).table.owners here ≡ defined_here l
  pub as_packed : packed ≡ l.packed

-- a node with what is found at it where it stands
abbrev pub node_at : Outside → Local → Plain → Node
node_at out l t = record { at = attributes_at out l t; below = below_at out l t }

-- What was made of a node among the declarations of a block, at each place that satisfies a condition: by this relation it is what the rules
-- find, and behind the node the tables stand for the place behind.
pub record Makes {X : Type 0} (S : Known → X → Node → Type 0) (At : Tables → Local → Type 0) (block owner : ℕ) (old new : Tables) (t : Plain) (x : X) : Type 0 where
  pub moves : Moves block old new
  pub shows : (out : Outside) (l : Local) → IsPlace old block owner out l → At old l → S (known new) x (node_at out l t)
  pub behind : (out : Outside) (l : Local) → IsPlace old block owner out l → At old l → IsPlace new block owner out (place_behind out l t)
