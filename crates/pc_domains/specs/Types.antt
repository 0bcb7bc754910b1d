-- The types that stand under the names of a block, by their numbers, and which of them are entered (ISO 7185, 6.4.4).
use Rattle.std.specs.Prelude.{◌≡◌, ◌<◌, ◌&&◌, ◌||◌, nat_eq, ℕ, Bool, true, false, if◌then◌else◌, List, [], ◌∷◌, ◌++◌, Option, Some, None, IfSome, codes, length, option_map, slice_get}
use Rattle.std.specs.Option.{is_some, option_and_then}
use Rattle.pc_types.specs.Shapes.{Shape, IntegerType, BooleanType, CharType}
use Rattle.pc_types.specs.Rows.{seen}
use Rattle.pc_types.specs.Table.{Table, numbered}
use Rattle.pc_types.specs.declared.form.TypeId.{TypeId}
use Rattle.pc_types.specs.declared.operand.Operand.{Operand}
use Rattle.pc_types.specs.declared.operand.Operand.TheVariants as operand
use Rattle.pc_names.specs.Bindings.{slot_in}
use Rattle.pc_names.specs.Numbers.{number_of}
use Rattle.pc_names.specs.declared.id.NameId.{NameId}
use Rattle.pc_names.specs.declared.id.DeclarationId.{DeclarationId}
use Rattle.pc_names.specs.declared.name_class.NameClass.{NameClass}
use Rattle.pc_names.specs.declared.name_class.NameClass.TheVariants as class
use Rattle.pc_facts.specs.declared.sighting.Declared.{Declared}
use Rattle.pc_places.specs.Places.{Keeps}
use Rattle.pc_places.specs.declared.tables.Tables.{Tables}
use Rattle.pc_domains.specs.Told.{type_at}
use Rattle.pc_domains.specs.declared.naming.RequiredNames.{RequiredNames}
use Rattle.pc_domains.specs.declared.naming.BlockNames.{BlockNames}

-- ---- names by their numbers

-- only names may have got numbers
pub record OnlyNames (old new : Tables) : Type 0 where
  pub keeps : Keeps old new
  pub types : new.types ≡ old.types

-- these are the numbers of some names, none of which is empty
abbrev pub AreNumbers : List (List ℕ) → List NameId → List (List ℕ) → Type 0
AreNumbers texts [] [] = Unit {0}
AreNumbers texts (i ∷ is) (n ∷ ns) = ((number_of texts n ≡ Some i.0) × (n ≡ [] → ⊥)) × AreNumbers texts is ns
AreNumbers texts _ _ = ⊥

-- each number is that of a name
abbrev pub AllBelow : ℕ → List NameId → Type 0
AllBelow count [] = Unit {0}
AllBelow count (i ∷ is) = (i.0 < count) × AllBelow count is

-- a number, if there is one, as a list
abbrev pub one_or_none : Option NameId → List NameId
one_or_none None = []
one_or_none (Some i) = i ∷ []

-- the names of the required types
abbrev pub required_names : List (List ℕ)
required_names = codes "integer" ∷ codes "boolean" ∷ codes "char" ∷ []

-- the numbers of the required types, which the program's own block has
abbrev pub ShowsRequired : List (List ℕ) → Bool → Option RequiredNames → Type 0
ShowsRequired texts false None = Unit {0}
ShowsRequired texts true (Some r) =
    (number_of texts (codes "integer") ≡ Some r.integer.0) × (number_of texts (codes "boolean") ≡ Some r.boolean.0) × (number_of texts (codes "char") ≡ Some r.char_type.0)
ShowsRequired texts _ _ = ⊥

-- the names that a block enters: those of its type definitions, and in the program's own block those of the required types
abbrev pub entered_names : Bool → List (List ℕ) → List (List ℕ)
entered_names is_program ns = ns ++ (if is_program then required_names else [])

-- these are their numbers
pub record ShowsBlockNames (texts : List (List ℕ)) (is_program : Bool) (ns : List (List ℕ)) (b : BlockNames) : Type 0 where
  pub numbers : AreNumbers texts b.ids.items (entered_names is_program ns)
  pub required : ShowsRequired texts is_program b.required
  pub there : AllBelow (length texts) b.ids.items

-- whether a number is one of these
abbrev pub is_id : List NameId → ℕ → Bool
is_id [] i = false
is_id (k ∷ ks) i = nat_eq k.0 i || is_id ks i

-- ---- what a block says of a name

-- the complete declaration that a block has of a name, both by their numbers
abbrev pub declaration_at : Tables → ℕ → ℕ → Option Declared
declaration_at t block i = option_and_then (λ (d : DeclarationId). slice_get t.declarations.items d.0) (slot_in t.names.slots block i).known

-- the type of a declaration, if it is that of a type
abbrev pub type_in : NameClass → Option Operand → Option Operand
type_in class.Type of = of
type_in _ of = None

abbrev pub declared_type : Option Declared → Option Operand
declared_type d = option_and_then (λ (x : Declared). type_in x.class x.of) d

-- the required type whose name has this number
abbrev pub required_shape : Option RequiredNames → ℕ → Option Shape
required_shape None i = None
required_shape (Some r) i =
    if nat_eq r.integer.0 i then Some IntegerType else (if nat_eq r.boolean.0 i then Some BooleanType else (if nat_eq r.char_type.0 i then Some CharType else None))

-- a type by its number is a required one, or there is neither
pub record IsRequired (table : Table) (r : Option RequiredNames) (i : ℕ) (x : Option TypeId) : Type 0 where
  pub shape : option_map (numbered table.shapes) x ≡ required_shape r i
  pub there : IfSome x (λ t. t.0 < length table.shapes)

-- a type by its number is that of the block's declaration of the name
abbrev pub IsDeclaredType : Tables → ℕ → ℕ → Option TypeId → Type 0
IsDeclaredType t block i x = declared_type (declaration_at t block i) ≡ option_map operand.Id x

-- a type by its number is what the block says of the name: its own, if it declares the name somewhere, and else a required one
abbrev pub SaysIf : Bool → Tables → ℕ → Option RequiredNames → ℕ → Option TypeId → Type 0
SaysIf true t block r i x = IsDeclaredType t block i x
SaysIf false t block r i x = IsRequired (seen t.types) r i x

abbrev pub Says : Tables → ℕ → Option RequiredNames → ℕ → Option TypeId → Type 0
Says t block r i x = SaysIf (is_some (slot_in t.names.slots block i).class) t block r i x

-- under the names with these numbers stands now what the block says, and all else stays
pub record Enters (t : Tables) (block owner : ℕ) (r : Option RequiredNames) (ids : List NameId) (old new : List ((ℕ × ℕ) × Option TypeId)) : Type 0 where
  pub entered : (i : ℕ) → is_id ids i ≡ true → Says t block r i (type_at new owner i)
  pub others : (o i : ℕ) → (nat_eq owner o && is_id ids i) ≡ false → type_at new o i ≡ type_at old o i
