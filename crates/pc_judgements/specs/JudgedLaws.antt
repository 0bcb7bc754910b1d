-- The rules have an entry exactly where the judgement on shapes holds, and the types that it names.
use Rattle.std.proofs.Common.{◌≡◌, Bool, true, false, not, ◌||◌, if◌then◌else◌, ℕ, List, [], Option, Some, None, codes, option_map, refl}
use Rattle.std.specs.Option.{option_and_then}
use Rattle.pc_types.specs.Domains.{field_in}
use Rattle.pc_types.specs.Sameness.{same}
use Rattle.pc_types.specs.TypeClasses.{is_ordinal, is_pointer, fields_of}
use Rattle.pc_types.specs.Compatibility.{compatible, assignable}
use Rattle.pc_types.specs.Shapes.{Shape, Typed, Domain}
use Rattle.pc_rules.specs.Attributes.{Entry, Node}
use Rattle.pc_rules.specs.Arguments as arguments
use Rattle.pc_rules.specs.Components as components
use Rattle.pc_rules.specs.Entries.{note, note_if, quoted, disagree, no_ordinal, unassignable}
use Rattle.pc_rules.specs.ForStatements.{incompatible}
use Rattle.pc_rules.specs.Headings.{not_simple}
use Rattle.pc_rules.specs.Operators.{where_true}
use Rattle.pc_rules.specs.SetConstructors as sets
use Rattle.pc_rules.specs.StructuredTypes.{base_too_large}
use Rattle.pc_judgements.specs.Judged as judged

-- the shape of a type that may be unknown
abbrev pub shape_of : Option Typed → Option Shape
shape_of t = option_map (λ (x : Typed). x.shape) t

turned : (b : Bool) (e : List Entry) → (if b then [] else e) ≡ (if not b then e else [])
turned true e = refl
turned false e = refl

pub unassignable-judged : (to : Option Shape) (from : Option Typed) → unassignable to from ≡ (if judged.is_unassignable to (shape_of from) then disagree else [])
unassignable-judged None from = refl
unassignable-judged (Some t) None = refl
unassignable-judged (Some t) (Some u) = turned (assignable t u.shape) disagree

pub differs-judged : (t : Option Shape) (u : Option Typed) → arguments.differs t u ≡ (if judged.differs t (shape_of u) then disagree else [])
differs-judged None u = refl
differs-judged (Some t) None = refl
differs-judged (Some t) (Some u) = turned (same t u.shape) disagree

pub no_ordinal-judged : (t : Option Typed) → no_ordinal t ≡ note_if (judged.is_no_ordinal (shape_of t)) 8 (codes "not an ordinal type")
no_ordinal-judged None = refl
no_ordinal-judged (Some t) = refl

pub not_simple-judged : (w : List ℕ) (t : Option Typed) → not_simple w t ≡ note_if (judged.is_not_simple (shape_of t)) 22 (quoted (codes "result type not simple") w)
not_simple-judged w None = refl
not_simple-judged w (Some t) = turned (is_ordinal t.shape || is_pointer t.shape) (note 22 (quoted (codes "result type not simple") w))

pub incompatible-judged : (t : Option Typed) (b : Shape) → incompatible t b ≡ (if judged.is_incompatible (shape_of t) b then disagree else [])
incompatible-judged None b = refl
incompatible-judged (Some t) b = turned (compatible t.shape b) disagree

pub base_too_large-judged : (t : Typed) → base_too_large (Some t) ≡ note_if (judged.is_base_too_large t.shape) 9 (codes "set base too large")
base_too_large-judged t = refl

member_type-typed : (t : Option Typed) → option_and_then (λ (x : Typed). where_true (is_ordinal x.shape) x.shape) t ≡ judged.member_type (shape_of t)
member_type-typed None = refl
member_type-typed (Some t) = refl

pub member_type-judged : (value : Node) → sets.member_type value ≡ judged.member_type (shape_of value.as_value.type)
member_type-judged value = member_type-typed value.as_value.type

pub index_of-judged : (t : Option Typed) → components.index_of t ≡ judged.index_of (shape_of t)
index_of-judged None = refl
index_of-judged (Some t) = refl

shape-with : (ds : List Domain) (s : Option Shape) → shape_of (option_map (λ (s : Shape). let t : Typed = record { shape = s; domains = ds } in t) s) ≡ s
shape-with ds None = refl
shape-with ds (Some s) = refl

pub component_of-judged : (t : Option Typed) → shape_of (components.component_of t) ≡ judged.component_of (shape_of t)
component_of-judged None = refl
component_of-judged (Some t) = shape-with t.domains (components.element_type t.shape)

pub field_type-judged : (t : Option Typed) (n : List ℕ) → shape_of (components.field_type t n) ≡ judged.field_type (shape_of t) n
field_type-judged None n = refl
field_type-judged (Some t) n = shape-with t.domains (field_in (fields_of t.shape) n)

pub packed_type-judged : (t : Option Typed) → components.packed_type t ≡ judged.packed_type (shape_of t)
packed_type-judged None = refl
packed_type-judged (Some t) = refl
