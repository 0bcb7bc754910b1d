-- Denoters of types: names, enumerated types, subranges, pointers (ISO 7185, 6.4.1, 6.4.2, 6.4.4).
use Rattle.std.specs.Prelude.{ℕ, Bool, false, not, ◌&&◌, if◌then◌else◌, List, [], ◌∷◌, Option, Some, None, codes, option_map, ◌++◌, suc, pos, int_le}
use Rattle.std.specs.Option.{option_and_then}
use Rattle.pc_syntax.specs.Words.{lowered}
use Rattle.pc_types.specs.Sameness.{same}
use Rattle.pc_types.specs.TypeClasses.{is_ordinal}
use Rattle.pc_types.specs.Shapes.{Owner, Keyed, Definition, Shape, EnumeratedType, SubrangeType, PointerType, Domain, Typed}
use Rattle.pc_scope.specs.Required.{is_required_type}
use Rattle.pc_rules.specs.Attributes.{at_kid, Entry, Attributes, Node, plain, kids_below, judged}
use Rattle.pc_rules.specs.DeclaringNames.{names_in, repeats}
use Rattle.pc_rules.specs.Entries.{note_if}
use Rattle.pc_rules.specs.HandedOn.{kid_entries, any_hole, all_defines}
use Rattle.pc_rules.specs.Meanings.{Constant, Ordinal, Value, ElementName, Meaning, declared_as, Found, Here, Later, Required, Local}
use Rattle.pc_rules.specs.NameClasses.{is_type_class}
use Rattle.pc_rules.specs.RequiredMeanings.{required_type}
use Rattle.pc_rules.specs.UsedNames.{name_entries}

-- a type from which nothing is reached through pointers
abbrev pub typed : Shape → Typed
typed t = record { shape = t; domains = [] }

-- the same, as a type that is known
abbrev pub some_typed : Shape → Option Typed
some_typed t = Some (typed t)

-- the definition that a denoter makes
abbrev pub defined_here : Local → Definition
defined_here l = record l.around { inside = l.around.inside ++ l.kid ∷ [] }

-- the type of a name that means a type
abbrev pub type_of_found : Found → Option Typed
type_of_found (Here m) = if is_type_class m.class then m.type else None
type_of_found (Required n) = option_map typed (required_type n)
type_of_found _ = None

-- a denoter with its entries: no type where there is an entry or a hole
abbrev pub denoter_node : List Node → List Entry → Option Typed → Attributes
denoter_node kids entries type = record plain { hole = any_hole kids; as_value = judged (any_hole kids) entries type; defines = all_defines kids }

-- rows 1, 2 and 4 of a type's name
abbrev pub type_name_entries : Node → List Entry
type_name_entries name = name_entries name is_type_class is_required_type (codes "type")

-- a type's name
abbrev pub type_name_rule : Node → Attributes
type_name_rule name = denoter_node (name ∷ []) (at_kid 1 (type_name_entries name)) (type_of_found name.found)

-- the constants of an enumerated type, by their numbers from i on
abbrev pub elements : Owner → Option Shape → ℕ → List (List ℕ) → List (List ℕ × Meaning)
elements o t i [] = []
elements o t i (n ∷ ns) =
    (n, record (declared_as ElementName o) { value = option_map (λ s. record { type = s; constant = Ordinal (pos i) }) t }) ∷ elements o t (suc i) ns

-- an enumerated type, with row 3 at its constants
abbrev pub enumerated_rule : Local → Node → Attributes
enumerated_rule l names =
    let type = judged names.hole (at_kid 1 (repeats l.passed 1 (kids_below names))) (some_typed (EnumeratedType (defined_here l) (names_in (kids_below names)))) in
    record plain {
      hole = names.hole;
      as_value = type;
      defines = elements l.owner (option_map (λ (t : Typed). t.shape) type.type) 0 (names_in (kids_below names));
    }

-- whether two constants are ordinals in order
abbrev pub is_in_order : Constant → Constant → Bool
is_in_order (Ordinal a) (Ordinal b) = int_le a b
is_in_order _ _ = false

-- row 7: whether both constants are known, and aren't of one ordinal type in order
abbrev pub has_bad_bounds : Option Value → Option Value → Bool
has_bad_bounds (Some a) (Some b) = not (is_ordinal a.type && same a.type b.type && is_in_order a.constant b.constant)
has_bad_bounds _ _ = false

-- the subrange of a host from one ordinal to another
abbrev pub bounded : Definition → Shape → Constant → Constant → Option Shape
bounded d t (Ordinal a) (Ordinal b) = Some (SubrangeType d t a b)
bounded d t _ _ = None

-- the subrange between two constants
abbrev pub subrange_of : Definition → Value → Value → Option Shape
subrange_of d a b = bounded d a.type a.constant b.constant

-- a subrange
abbrev pub subrange_rule : Local → Node → Node → Attributes
subrange_rule l low high =
    denoter_node (low ∷ high ∷ []) (kid_entries 1 (low ∷ high ∷ []) ++ note_if (has_bad_bounds low.constant high.constant) 7 (codes "bad bounds"))
    (option_map typed (option_and_then (λ a. option_and_then (subrange_of (defined_here l) a) high.constant) low.constant))

-- whether a name means a type that is declared later
abbrev pub is_later_type : Found → Bool
is_later_type (Later c) = is_type_class c
is_later_type _ = false

-- row 2 isn't listed at a pointer's domain that is a type: a block's types stand together, so it stands in the same type part
abbrev pub domain_entries : Node → List Entry
domain_entries name = if is_later_type name.found then [] else type_name_entries name

-- the domain and what is reached from it, as far as its declaration is complete
abbrev pub domains_behind : Owner → List ℕ → Option Typed → List Domain
domains_behind o n None = record { owner = o; name = n; shape = None } ∷ []
domains_behind o n (Some t) = record { owner = o; name = n; shape = Some t.shape } ∷ t.domains

-- the type of pointers to a domain, by the meaning of its name
abbrev pub pointer_to : Local → List ℕ → Found → Option Typed
pointer_to l n (Here m) = Some (record { shape = PointerType (defined_here l) m.owner n; domains = domains_behind m.owner n m.type })
pointer_to l n (Later c) = Some (record { shape = PointerType (defined_here l) l.owner n; domains = [] })
pointer_to l n (Required r) =
    Some (record { shape = PointerType (defined_here l) (Keyed []) n; domains = domains_behind (Keyed []) n (option_map typed (required_type n)) })
pointer_to l n _ = None

-- a pointer type
abbrev pub pointer_rule : Local → Node → Attributes
pointer_rule l name = denoter_node (name ∷ []) (at_kid 1 (domain_entries name)) (pointer_to l (lowered name.word) name.found)
