-- Set constructors (ISO 7185, 6.7.1).
use Rattle.std.specs.Prelude.{Bool, true, false, ◌&&◌, if◌then◌else◌, List, [], ◌∷◌, Option, Some, None, codes, ◌++◌, map}
use Rattle.std.specs.Option.{option_and_then, is_some, is_none}
use Rattle.pc_syntax.specs.declared.kind.Kind.{Kind}
use Rattle.pc_types.specs.TypeClasses.{is_ordinal, host}
use Rattle.pc_types.specs.Compatibility.{compatible}
use Rattle.pc_types.specs.Shapes.{Shape, NoMembers, MembersType, Typed}
use Rattle.pc_rules.specs.Attributes.{at_kid, Entry, Attributes, Node, kids_below, first_below, second_below, each_kid}
use Rattle.pc_rules.specs.Denoters.{some_typed}
use Rattle.pc_rules.specs.Entries.{note_if, no_ordinal}
use Rattle.pc_rules.specs.Operators.{expression_node, where_true}
use Rattle.pc_syntax.specs.declared.kind.Kind.TheVariants as kind

-- whether a member is a span from one value to another
abbrev pub is_span : Kind → Bool
is_span kind.Span = true
is_span _ = false

-- the expressions of members, those of a span one after the other
abbrev pub member_values : List Node → List Node
member_values [] = []
member_values (m ∷ ms) = if is_span m.kind then first_below m ∷ second_below m ∷ member_values ms else m ∷ member_values ms

-- a value's entries, with row 8 where it is no ordinal
abbrev pub ordinal_entries : Node → List Entry
ordinal_entries value = value.as_value.entries ++ no_ordinal value.as_value.type

-- the entries of a member
abbrev pub member_entries : Node → List Entry
member_entries m = if is_span m.kind then each_kid ordinal_entries 1 (first_below m ∷ second_below m ∷ []) else ordinal_entries m

-- the type of a member's expression, where it is an ordinal type
abbrev pub member_type : Node → Option Shape
member_type value = option_and_then (λ (t : Typed). where_true (is_ordinal t.shape) t.shape) value.as_value.type

-- whether all these types are known
abbrev pub all_known : List (Option Shape) → Bool
all_known [] = true
all_known (t ∷ ts) = is_some t && all_known ts

-- whether all these types are known, and compatible with this one
abbrev pub all_compatible : Shape → List (Option Shape) → Bool
all_compatible t [] = true
all_compatible t (None ∷ us) = false
all_compatible t (Some u ∷ us) = compatible t u && all_compatible t us

-- the type of a set of members of these types, if they agree
abbrev pub members_type : List (Option Shape) → Option Typed
members_type [] = some_typed NoMembers
members_type (None ∷ ts) = None
members_type (Some t ∷ ts) = if all_compatible t ts then some_typed (MembersType (host t)) else None

-- a set constructor, with row 11 where its members' types don't agree
abbrev pub set_constructor_rule : Node → Attributes
set_constructor_rule members =
    let types = map member_type (member_values (kids_below members)) in
    expression_node (members ∷ [])
    (at_kid 1 (each_kid member_entries 1 (kids_below members)) ++ note_if (all_known types && is_none (members_type types)) 11 (codes "types do not agree"))
    (members_type types)
