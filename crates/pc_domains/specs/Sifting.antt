-- Types that lead to something unknown lose their types (ISO 7185, 6.4.4).
use Rattle.std.specs.Prelude.{◌≡◌, ◌≤◌, ℕ, Bool, true, false, if◌then◌else◌, List, Option, Some, None, length, option_map}
use Rattle.pc_syntax.specs.Words.{is_among}
use Rattle.pc_types.specs.Shapes.{Shape, Typed}
use Rattle.pc_types.specs.Rows.{seen}
use Rattle.pc_types.specs.Table.{Table, shape_at}
use Rattle.pc_types.specs.declared.operand.Operand.{Operand}
use Rattle.pc_names.specs.declared.id.NameId.{NameId}
use Rattle.pc_rules.specs.Meanings.{Meaning, Local, Outside, entry_of}
use Rattle.pc_rules.specs.NameClasses.{is_type_class}
use Rattle.pc_facts.specs.declared.sighting.Declared.{Declared}
use Rattle.pc_closing.specs.Whole.{is_whole_in, AreWhole}
use Rattle.pc_places.specs.Places.{IsPlace, Moves}
use Rattle.pc_places.specs.declared.tables.Tables.{Tables}
use Rattle.pc_domains.specs.Types.{AreNumbers, declared_type}

-- all types of a table have a flag, and each flag is right
pub record AreSettled (table : Table) (flags : List Bool) : Type 0 where
  pub right : AreWhole table flags
  pub all : length table.shapes ≤ length flags

-- the declaration, if its type is no whole one
abbrev pub if_not : (Shape → Bool) → Table → Declared → Option Operand → Option Declared
if_not p table x None = None
if_not p table x (Some o) = if p (shape_at table o) then None else Some x

-- the declaration of a type from which something unknown is reached
abbrev pub unknown_in : (Shape → Bool) → Table → Option Declared → Option Declared
unknown_in p table None = None
unknown_in p table (Some x) = if_not p table x (declared_type (Some x))

-- a type, if it passes the test
abbrev pub sifted_type : (Shape → Bool) → Option Typed → Option Typed
sifted_type p None = None
sifted_type p (Some t) = if p t.shape then Some t else None

-- a type's meaning without its type, unless that passes the test, and each other meaning as it is
abbrev pub sifted : (Shape → Bool) → Meaning → Meaning
sifted p m = if is_type_class m.class then record m { type = sifted_type p m.type } else m

-- the same of the meaning of a name that is one of these
abbrev pub sifted_if : (Shape → Bool) → Bool → Meaning → Meaning
sifted_if p true m = sifted p m
sifted_if p false m = m

-- the types among these names are sifted, and all else is the same
pub record IsSifted (p : Shape → Bool) (ns : List (List ℕ)) (l m : Local) : Type 0 where
  pub owner : m.owner ≡ l.owner
  pub fields : m.fields ≡ l.fields
  pub names : m.names ≡ l.names
  pub passed : m.passed ≡ l.passed
  pub known : (n : List ℕ) → entry_of m.known n ≡ option_map (sifted_if p (is_among ns n)) (entry_of l.known n)

-- the tables stand for such a place
pub record StandsSifted (p : Shape → Bool) (ns : List (List ℕ)) (t : Tables) (block owner : ℕ) (out : Outside) (l : Local) : Type 0 where
  pub place : Local
  pub is_place : IsPlace t block owner out place
  pub is_sifted : IsSifted p ns l place

-- the types that stand under the names with these numbers are told again without their types, where something unknown is reached
pub record Sifts (flags : List Bool) (block : ℕ) (ids : List NameId) (old new : Tables) : Type 0 where
  pub types : new.types ≡ old.types
  pub texts : new.names.texts ≡ old.names.texts
  pub moves : Moves block old new
  pub sifts : AreSettled (seen old.types) flags → (owner : ℕ) (out : Outside) (l : Local) (ns : List (List ℕ)) → AreNumbers old.names.texts ids ns → IsPlace old block owner out l →
      StandsSifted (is_whole_in (seen old.types).domains) ns new block owner out l
