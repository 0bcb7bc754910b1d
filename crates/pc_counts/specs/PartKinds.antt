-- The nodes of the definition parts of a block: their classes and kinds (ISO 7185, 6.2.1).
use Rattle.std.specs.Prelude.{◌≡◌, Bool, true, false}
use Rattle.pc_syntax.specs.Plain.{Forest, Nil, Cons}
use Rattle.pc_syntax.specs.declared.class.Class.{Class}
use Rattle.pc_syntax.specs.declared.class.Class.TheVariants as class
use Rattle.pc_syntax.specs.declared.kind.Kind.{Kind}
use Rattle.pc_syntax.specs.declared.kind.Kind.TheVariants as kind
use Rattle.pc_rule_laws.specs.Roles.{Role, RoutinePart, ParameterPart, DeclaresRoutine, DeclaresParameters}

-- the classes of the nodes of definition parts
abbrev pub part_class : Class → Bool
part_class class.Consts = true
part_class class.Types = true
part_class class.Vars = true
part_class class.Constdef = true
part_class class.Typedef = true
part_class class.Vardef = true
part_class class.Denoter = true
part_class class.Structured = true
part_class class.Ordinal = true
part_class class.Field = true
part_class class.Fields = true
part_class class.Indexes = true
part_class class.Constant = true
part_class class.Bare = true
part_class class.Name = true
part_class class.Names = true
part_class _ = false

-- their kinds
abbrev pub part_kind : Kind → Bool
part_kind kind.Consts = true
part_kind kind.Types = true
part_kind kind.Vars = true
part_kind kind.Constdef = true
part_kind kind.Typedef = true
part_kind kind.Vardef = true
part_kind kind.Tname = true
part_kind kind.Enum = true
part_kind kind.Subrange = true
part_kind kind.Array = true
part_kind kind.Record = true
part_kind kind.Record0 = true
part_kind kind.Setof = true
part_kind kind.Packed = true
part_kind kind.Pointer = true
part_kind kind.Field = true
part_kind kind.Fields = true
part_kind kind.Indexes = true
part_kind kind.Cnumber = true
part_kind kind.Cstring = true
part_kind kind.Cname = true
part_kind kind.Csign = true
part_kind kind.Name = true
part_kind kind.Names = true
part_kind (kind.Hole s) = true
part_kind _ = false

-- the lists of definitions
abbrev pub part_list : Kind → Bool
part_list kind.Consts = true
part_list kind.Types = true
part_list kind.Vars = true
part_list _ = false

-- all of some trees are of such kinds
abbrev pub PartKinds : Forest → Type 0
PartKinds Nil = Unit {0}
PartKinds (Cons k w ns ks ts) = (part_kind k ≡ true) × PartKinds ts

-- the roles of such nodes
abbrev pub part_role : Role → Bool
part_role RoutinePart = false
part_role ParameterPart = false
part_role (DeclaresRoutine c) = false
part_role (DeclaresParameters c) = false
part_role _ = true
