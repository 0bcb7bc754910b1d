-- The types that are declared by blocks whose type parts are closed, which types are whole, and how many domains have their types
-- (ISO 7185, 6.4.4).
use Rattle.std.specs.Prelude.{◌≡◌, ◌<◌, ◌≤◌, ◌⊎◌, ℕ, Bool, true, false, List, [], Option, Some, None, get_or, length, map, option_map}
use Rattle.std.specs.Option.{option_and_then}
use Rattle.std.specs.Map.{lookup}
use Rattle.pc_types.specs.Shapes.{Owner, Shape}
use Rattle.pc_types.specs.Table.{Table, numbered, nobody, place_at, place_of, domain_at}
use Rattle.pc_types.specs.Rows.{Kept, IsInOrder, seen}
use Rattle.pc_types.specs.declared.form.TypeId.{TypeId}
use Rattle.pc_types.specs.declared.form.DomainId.{DomainId}
use Rattle.pc_names.specs.Bindings.{is_at}
use Rattle.pc_names.specs.Numbers.{number_of}
use Rattle.pc_facts.specs.Known.{Known}
use Rattle.pc_pointers.specs.Good.{Targets}
use Rattle.pc_closing.specs.Whole.{AreWhole}
use Rattle.pc_closing.specs.Truth.{IsLonger}
use Rattle.pc_places.specs.Places.{known}
use Rattle.pc_places.specs.declared.tables.Tables.{Tables}

-- what is kept of the blocks of a program: which owners' types are closed, by their numbers; the types that they declare, by the numbers
-- of owner and name; a flag for each type, whether it is whole; and of how many domains the types are told
pub record Told : Type 0 where
  pub closed : List Bool
  pub types : List ((ℕ × ℕ) × Option TypeId)
  pub whole : List Bool
  pub told : ℕ

-- the type that stands under the numbers of an owner and a name
abbrev pub type_at : List ((ℕ × ℕ) × Option TypeId) → ℕ → ℕ → Option TypeId
type_at ts o i = option_and_then (λ (t : Option TypeId). t) (lookup (is_at o i) ts)

-- the shape of the type that stands under the number of an owner and a name
abbrev pub shape_named : Told → Known → ℕ → List ℕ → Option Shape
shape_named d k o n = option_map (numbered k.table.shapes) (option_and_then (λ i. type_at d.types o i) (number_of k.names n))

-- the types of an owner with this number are closed, and the owner is this one
abbrev pub IsClosedOwner : Told → Table → Owner → Type 0
IsClosedOwner d t owner = (o : ℕ) × (get_or d.closed o false ≡ true) × (get_or t.owners o nobody ≡ owner)

-- the flags were made of a table that this one begins with, and that had no other domains than those whose types are told
pub record WereSettled (d : Told) (t : Table) : Type 0 where
  pub before : Kept
  pub in_order : IsInOrder before
  pub longer : IsLonger (seen before) t
  pub flagged : length d.whole ≤ length (seen before).shapes
  pub rows : length (seen before).domains ≤ d.told
  pub flags : AreWhole (seen before) d.whole

-- what is kept says what some targets say: of the names of each owner whose types are closed, and at the place of each domain whose type
-- is told; and each flag is right
pub record IsTold (targets : Targets) (d : Told) (k : Known) : Type 0 where
  pub closed : (o : ℕ) → get_or d.closed o false ≡ true → (n : List ℕ) → targets (get_or k.table.owners o nobody) n ≡ shape_named d k o n
  pub begun : (o : ℕ) → get_or d.closed o false ≡ true → o < length k.table.owners
  pub bare : (o i : ℕ) → get_or d.closed o false ≡ false → type_at d.types o i ≡ None
  pub within : (o i : ℕ) (x : TypeId) → type_at d.types o i ≡ Some x → (i < length k.names) × (x.0 < length k.table.shapes)
  pub rows : (x : DomainId) → x.0 < d.told → targets (place_at k.table x).owner (place_at k.table x).name ≡ (domain_at k.table x).shape
  pub owned : (x : DomainId) → x.0 < d.told → IsClosedOwner d k.table (place_at k.table x).owner
  pub count : d.told ≤ length k.table.domains
  pub flags : AreWhole k.table d.whole
  pub flagged : length d.whole ≤ length k.table.shapes
  pub settled : (d.whole ≡ []) ⊎ WereSettled d k.table

-- the types of all domains are told, and all types have a flag
pub record IsAllTold (targets : Targets) (d : Told) (k : Known) : Type 0 where
  pub told : IsTold targets d k
  pub rows_all : d.told ≡ length k.table.domains
  pub flags_all : length k.table.shapes ≤ length d.whole

-- only the types of domains have changed
pub record Retargeted (old new : Tables) : Type 0 where
  pub shapes : (known new).table.shapes ≡ (known old).table.shapes
  pub owners : (known new).table.owners ≡ (known old).table.owners
  pub places : map place_of (known new).table.domains ≡ map place_of (known old).table.domains
  pub names : new.names ≡ old.names
  pub declarations : new.declarations.items ≡ old.declarations.items
  pub signatures : new.signatures.items ≡ old.signatures.items
  pub texts : new.texts.items ≡ old.texts.items
