-- Parts of good types are good, and so are types without pointers.
use Rattle.std.proofs.Common.{ℕ, List, [], ◌∷◌, ◌++◌, Bool, true, false, not, ◌||◌, if◌then◌else◌, Option, Some, None, option_map}
use Rattle.std.specs.Str.{bytes_eq}
use Rattle.pc_types.specs.Shapes.{Owner, Shape, IntegerType, BooleanType, CharType, NilType, NoMembers, MembersType, TextType, EnumeratedType, SubrangeType, ArrayType, RecordType, SetType, PointerType, Fields, LastField, FieldOf, Domain, Typed}
use Rattle.pc_types.specs.Domains.{domain_in, is_domain, field_in}
use Rattle.pc_types.specs.TypeClasses.{fields_of, is_packed}
use Rattle.pc_rules.specs.Denoters.{typed, some_typed}
use Rattle.pc_rules.specs.Attributes.{Entry, is_empty, judged}
use Rattle.pc_rules.specs.Components.{element_type, component_of, field_type, domain_of}
use Rattle.pc_rules.specs.Variables.{fields_opened, opened_by}
use Rattle.pc_pointers.specs.Good.{Targets, Leads, LeadFields, LeadsIfAny, LeadAll, IsGoodType, AllOpenedGood}

-- one of two types
pub either-type : (targets : Targets) (b : Bool) (t u : Option Typed) → IsGoodType targets t → IsGoodType targets u → IsGoodType targets (if b then t else u)
either-type targets true t u g h = g
either-type targets false t u g h = h

-- one of two shapes that may be unknown
pub either-shape : (ds : List Domain) (targets : Targets) (b : Bool) (t u : Option Shape) → LeadsIfAny ds targets t → LeadsIfAny ds targets u → LeadsIfAny ds targets (if b then t else u)
either-shape ds targets true t u g h = g
either-shape ds targets false t u g h = h

-- a judgement of a part
pub judged-good : (targets : Targets) (hole : Bool) (es : List Entry) (t : Option Typed) → IsGoodType targets t → IsGoodType targets (judged hole es t).type
judged-good targets hole es t g = either-type targets (hole || not (is_empty es)) None t tt g

-- a shape without domains
pub alone-good : (targets : Targets) (t : Shape) → Leads [] targets t → IsGoodType targets (some_typed t)
alone-good targets t h = record { leads = h; reached = tt }

-- the same, where it may be unknown
pub alone-if-any : (targets : Targets) (t : Option Shape) → LeadsIfAny [] targets t → IsGoodType targets (option_map typed t)
alone-if-any targets None h = tt
alone-if-any targets (Some t) h = record { leads = h; reached = tt }

-- a shape with the domains of a good type
pub part-good : (targets : Targets) (ds : List Domain) (t : Option Shape) → LeadsIfAny ds targets t → LeadAll ds targets ds → IsGoodType targets (option_map (λ (s : Shape). record { shape = s; domains = ds }) t)
part-good targets ds None h r = tt
part-good targets ds (Some t) h r = record { leads = h; reached = r }

-- the elements of an array
element-leads : (ds : List Domain) (targets : Targets) (t : Shape) → Leads ds targets t → LeadsIfAny ds targets (element_type t)
element-leads ds targets (ArrayType d p i e) h = h
element-leads ds targets IntegerType h = tt
element-leads ds targets BooleanType h = tt
element-leads ds targets CharType h = tt
element-leads ds targets NilType h = tt
element-leads ds targets NoMembers h = tt
element-leads ds targets (MembersType b) h = tt
element-leads ds targets (TextType n) h = tt
element-leads ds targets (EnumeratedType d ns) h = tt
element-leads ds targets (SubrangeType d t a b) h = tt
element-leads ds targets (RecordType d p fs) h = tt
element-leads ds targets (SetType d p b) h = tt
element-leads ds targets (PointerType d o n) h = tt

-- the type of the elements of an array is good
pub component-good : (targets : Targets) (t : Option Typed) → IsGoodType targets t → IsGoodType targets (component_of t)
component-good targets None g = tt
component-good targets (Some t) g = part-good targets t.domains (element_type t.shape) (element-leads t.domains targets t.shape g.leads) g.reached

-- the fields of a record
fields-lead : (ds : List Domain) (targets : Targets) (t : Shape) → Leads ds targets t → LeadFields ds targets (fields_of t)
fields-lead ds targets (RecordType d p fs) h = h
fields-lead ds targets IntegerType h = tt
fields-lead ds targets BooleanType h = tt
fields-lead ds targets CharType h = tt
fields-lead ds targets NilType h = tt
fields-lead ds targets NoMembers h = tt
fields-lead ds targets (MembersType b) h = tt
fields-lead ds targets (TextType n) h = tt
fields-lead ds targets (EnumeratedType d ns) h = tt
fields-lead ds targets (SubrangeType d t a b) h = tt
fields-lead ds targets (ArrayType d p i e) h = tt
fields-lead ds targets (SetType d p b) h = tt
fields-lead ds targets (PointerType d o n) h = tt

-- the field of that name
field-leads : (ds : List Domain) (targets : Targets) (fs : Fields) (n : List ℕ) → LeadFields ds targets fs → LeadsIfAny ds targets (field_in fs n)
field-leads ds targets LastField n h = tt
field-leads ds targets (FieldOf m t fs) n h = either-shape ds targets (bytes_eq m n) (Some t) (field_in fs n) h.0 (field-leads ds targets fs n h.1)

-- the type of a field is good
pub field-good : (targets : Targets) (t : Option Typed) (n : List ℕ) → IsGoodType targets t → IsGoodType targets (field_type t n)
field-good targets None n g = tt
field-good targets (Some t) n g =
    part-good targets t.domains (field_in (fields_of t.shape) n) (field-leads t.domains targets (fields_of t.shape) n (fields-lead t.domains targets t.shape g.leads)) g.reached

-- the domain of that name
found-leads : (ds : List Domain) (targets : Targets) (es : List Domain) (o : Owner) (n : List ℕ) → LeadAll ds targets es → LeadsIfAny ds targets (domain_in es o n)
found-leads ds targets [] o n h = tt
found-leads ds targets (e ∷ es) o n h = either-shape ds targets (is_domain o n e) e.shape (domain_in es o n) h.0 (found-leads ds targets es o n h.1)

-- the type that a pointer leads to is good
pub domain-good : (targets : Targets) (ds : List Domain) (t : Shape) → LeadAll ds targets ds → IsGoodType targets (domain_of ds t)
domain-good targets ds (PointerType d o n) r = part-good targets ds (domain_in ds o n) (found-leads ds targets ds o n r) r
domain-good targets ds IntegerType r = tt
domain-good targets ds BooleanType r = tt
domain-good targets ds CharType r = tt
domain-good targets ds NilType r = tt
domain-good targets ds NoMembers r = tt
domain-good targets ds (MembersType b) r = tt
domain-good targets ds (TextType n) r = tt
domain-good targets ds (EnumeratedType d ns) r = tt
domain-good targets ds (SubrangeType d t a b) r = tt
domain-good targets ds (ArrayType d p i e) r = tt
domain-good targets ds (RecordType d p fs) r = tt
domain-good targets ds (SetType d p b) r = tt

-- the fields that are opened, where a record's fields lead well
fields_opened-good : (targets : Targets) (ds : List Domain) (p : Bool) (fs : Fields) → LeadFields ds targets fs → LeadAll ds targets ds → AllOpenedGood targets (fields_opened ds p fs)
fields_opened-good targets ds p LastField h r = tt
fields_opened-good targets ds p (FieldOf n t fs) h r = (record { leads = h.0; reached = r }, fields_opened-good targets ds p fs h.1 r)

-- the fields that an access opens are good
pub opened-good : (targets : Targets) (t : Option Typed) → IsGoodType targets t → AllOpenedGood targets (opened_by t)
opened-good targets None g = tt
opened-good targets (Some t) g = fields_opened-good targets t.domains (is_packed t.shape) (fields_of t.shape) (fields-lead t.domains targets t.shape g.leads) g.reached

-- some fields before others
pub opened-more : (targets : Targets) (fs gs : List (List ℕ × (Typed × Bool))) → AllOpenedGood targets fs → AllOpenedGood targets gs → AllOpenedGood targets (fs ++ gs)
opened-more targets [] gs f g = g
opened-more targets (x ∷ fs) gs f g = (f.0, opened-more targets fs gs f.1 g)
