-- Types by their numbers, as callers see them.
use Rattle.std.specs.Prelude.{◌≡◌, ℕ, ◌<◌, ◌≤◌, List, [], ◌∷◌, Some, None, get_or, length, map}
use Rattle.pc_types.specs.Shapes.{Owner, Keyed, Definition, Shape, IntegerType, BooleanType, CharType, NilType, NoMembers, MembersType, TextType, EnumeratedType, SubrangeType, ArrayType, RecordType, SetType, PointerType, Fields, LastField, FieldOf, Domain}
use Rattle.pc_types.specs.declared.form.TypeId.{TypeId}
use Rattle.pc_types.specs.declared.form.DomainId.{DomainId}
use Rattle.pc_types.specs.declared.form.Definition.{Definition as Written}
use Rattle.pc_types.specs.declared.form.Form.{Form}
use Rattle.pc_types.specs.declared.form.Form.TheVariants as form
use Rattle.pc_types.specs.declared.operand.Operand.{Operand}
use Rattle.pc_types.specs.declared.operand.Operand.TheVariants as operand

-- the types of a program, the routines that define them, and the domains of its pointer types, each at its number
pub record Table : Type 0 where
  pub shapes : List Shape
  pub owners : List Owner
  pub domains : List Domain

-- where a domain is declared: in which block, and by which name
pub record Place : Type 0 where
  pub owner : Owner
  pub name : List ℕ

abbrev pub place_of : Domain → Place
place_of d = record { owner = d.owner; name = d.name }

-- what stands for an owner, and for the place of a domain, that is not there
abbrev pub nobody : Owner
nobody = Keyed []

abbrev pub nowhere : Place
nowhere = record { owner = nobody; name = [] }

-- the shape with this number; that of `[]` where there is none
abbrev pub numbered : List Shape → TypeId → Shape
numbered shapes i = get_or shapes i.0 NoMembers

-- the shape of the type of an expression
abbrev pub shape_at : Table → Operand → Shape
shape_at table (operand.Id i) = numbered table.shapes i
shape_at table (operand.Text n) = TextType n
shape_at table (operand.Members i) = MembersType (numbered table.shapes i)
shape_at table operand.NoMembers = NoMembers

-- the domain with this number
abbrev pub domain_at : Table → DomainId → Domain
domain_at table d = get_or table.domains d.0 (record { owner = nobody; name = []; shape = None })

-- where the domain with this number is declared
abbrev pub place_at : Table → DomainId → Place
place_at table d = get_or (map place_of table.domains) d.0 nowhere

-- the fields of a record whose types have these numbers
abbrev pub fields_from : List Shape → List (List ℕ × TypeId) → Fields
fields_from shapes [] = LastField
fields_from shapes (f ∷ rest) = FieldOf f.0 (numbered shapes f.1) (fields_from shapes rest)

-- the definition that the code writes with the number of its owner
abbrev pub definition_in : List Owner → Written → Definition
definition_in owners d = record { owner = get_or owners d.owner.0 nobody; name = d.name; number = d.number; inside = d.inside }

-- the shape of a form with this definition
abbrev pub formed : List Place → List Shape → Definition → Form → Shape
formed places shapes d form.Integer = IntegerType
formed places shapes d form.Boolean = BooleanType
formed places shapes d form.Char = CharType
formed places shapes d form.Nil = NilType
formed places shapes d (form.Named names) = EnumeratedType d names
formed places shapes d (form.Subrange host low high) = SubrangeType d (numbered shapes host) low high
formed places shapes d (form.Array packed index element) = ArrayType d packed (numbered shapes index) (numbered shapes element)
formed places shapes d (form.Record packed fields) = RecordType d packed (fields_from shapes fields)
formed places shapes d (form.Set packed base) = SetType d packed (numbered shapes base)
formed places shapes d (form.Members None) = NoMembers
formed places shapes d (form.Members (Some base)) = MembersType (numbered shapes base)
formed places shapes d (form.Text n) = TextType n
formed places shapes d (form.Pointer domain) = PointerType d (get_or places domain.0 nowhere).owner (get_or places domain.0 nowhere).name

abbrev pub shape_in : Table → Written → Form → Shape
shape_in table d f = formed (map place_of table.domains) table.shapes (definition_in table.owners d) f

-- each field's type is among so many
abbrev pub FieldsThere : ℕ → List (List ℕ × TypeId) → Type 0
FieldsThere types [] = Unit {0}
FieldsThere types (f ∷ rest) = (f.1.0 < types) × FieldsThere types rest

-- the parts of a form are among so many types and so many domains
abbrev pub PartsThere : ℕ → ℕ → Form → Type 0
PartsThere types domains (form.Subrange host low high) = host.0 < types
PartsThere types domains (form.Array packed index element) = (index.0 < types) × (element.0 < types)
PartsThere types domains (form.Record packed fields) = FieldsThere types fields
PartsThere types domains (form.Set packed base) = base.0 < types
PartsThere types domains (form.Members (Some base)) = base.0 < types
PartsThere types domains (form.Pointer domain) = domain.0 < domains
PartsThere types domains _ = Unit {0}

-- what a form and its definition name is there
pub record IsReady (table : Table) (f : Form) (d : Written) : Type 0 where
  pub parts : PartsThere (length table.shapes) (length table.domains) f
  pub owner : d.owner.0 < length table.owners

-- the form of the type with a number: with some definition it is the type's shape, and its parts stand before it
pub record IsFormOf (table : Table) (i : TypeId) (f : Form) : Type 0 where
  pub definition : Written
  pub there : i.0 < length table.shapes
  pub shape : numbered table.shapes i ≡ shape_in table definition f
  pub parts : PartsThere i.0 (length table.domains) f

-- the type of an expression is there
abbrev pub IsThere : Table → Operand → Type 0
IsThere table (operand.Id i) = i.0 < length table.shapes
IsThere table (operand.Members i) = i.0 < length table.shapes
IsThere table _ = Unit {0}

-- the required types stand first: integer, Boolean, char, and that of `nil`
pub record HasRequired (table : Table) : Type 0 where
  pub integer : get_or table.shapes 0 NoMembers ≡ IntegerType
  pub boolean : get_or table.shapes 1 NoMembers ≡ BooleanType
  pub char : get_or table.shapes 2 NoMembers ≡ CharType
  pub nil : get_or table.shapes 3 NoMembers ≡ NilType
  pub there : 4 ≤ length table.shapes
