-- Which types have a structure.
use Rattle.std.proofs.Common.{◌≡◌, Some, None, List, ℕ, true, false, refl, sym, ap, ◌∙◌}
use Rattle.pc_types.specs.Shapes.{Shape, IntegerType, BooleanType, CharType, NilType, NoMembers, MembersType, TextType, EnumeratedType, SubrangeType, ArrayType, RecordType, SetType, PointerType}
use Rattle.pc_types.specs.Expanded.{expanded}
use Rattle.pc_types.specs.Table.{Table, numbered, shape_in, IsFormOf}
use Rattle.pc_types.specs.declared.form.TypeId.{TypeId}
use Rattle.pc_types.specs.declared.form.Definition.{Definition as Written}
use Rattle.pc_types.specs.declared.form.Form.{Form}
use Rattle.pc_types.specs.declared.form.Form.TheVariants as form
use Rattle.pc_decl.specs.TypeAt.{structure_of}
use Rattle.pc_decl.specs.TypeText.{type_text, known_or}
use Rattle.pc_expr_view.specs.ToldText.{has_structure, form_has_structure}

-- the text of a type that has a structure
pub known-structure : (other : List ℕ) (s : Shape) → has_structure s ≡ true → known_or other (structure_of s) ≡ type_text (expanded s)
known-structure other IntegerType e = refl
known-structure other BooleanType e = refl
known-structure other CharType e = refl
known-structure other NilType e = cc
known-structure other NoMembers e = cc
known-structure other (MembersType b) e = refl
known-structure other (TextType n) e = refl
known-structure other (EnumeratedType d ns) e = refl
known-structure other (SubrangeType d h a b) e = refl
known-structure other (ArrayType d p i t) e = refl
known-structure other (RecordType d p fs) e = refl
known-structure other (SetType d p b) e = refl
known-structure other (PointerType d o n) e = refl

-- the text where a type has none
pub known-bare : (other : List ℕ) (s : Shape) → has_structure s ≡ false → known_or other (structure_of s) ≡ other
known-bare other IntegerType e = cc
known-bare other BooleanType e = cc
known-bare other CharType e = cc
known-bare other NilType e = refl
known-bare other NoMembers e = refl
known-bare other (MembersType b) e = cc
known-bare other (TextType n) e = cc
known-bare other (EnumeratedType d ns) e = cc
known-bare other (SubrangeType d h a b) e = cc
known-bare other (ArrayType d p i t) e = cc
known-bare other (RecordType d p fs) e = cc
known-bare other (SetType d p b) e = cc
known-bare other (PointerType d o n) e = cc

pub ruleset structured = (known-structure, known-bare)

structure-formed : (table : Table) (d : Written) (f : Form) → form_has_structure f ≡ has_structure (shape_in table d f)
structure-formed table d form.Integer = refl
structure-formed table d form.Boolean = refl
structure-formed table d form.Char = refl
structure-formed table d form.Nil = refl
structure-formed table d (form.Named names) = refl
structure-formed table d (form.Subrange host low high) = refl
structure-formed table d (form.Array packed index element) = refl
structure-formed table d (form.Record packed fields) = refl
structure-formed table d (form.Set packed base) = refl
structure-formed table d (form.Members None) = refl
structure-formed table d (form.Members (Some base)) = refl
structure-formed table d (form.Text n) = refl
structure-formed table d (form.Pointer domain) = refl

-- a type has a structure as its form says
pub structure-of_form : (table : Table) (i : TypeId) (f : Form) → IsFormOf table i f → form_has_structure f ≡ has_structure (numbered table.shapes i)
structure-of_form table i f h = structure-formed table h.definition f ∙ ap has_structure (sym h.shape)

-- a type that is not there has none
pub structure-past : (table : Table) (i : TypeId) → numbered table.shapes i ≡ NoMembers → false ≡ has_structure (numbered table.shapes i)
structure-past table i h = ap has_structure (sym h)

pub ruleset formed = (structure-of_form, structure-past)
