-- Types that were made: lemmas.
use Rattle.std.specs.Prelude.{◌≡◌, ℕ, ℤ, Bool, List, [], Option, Some, None, option_map}
use Rattle.std.proofs.Common.{ap, sym, ◌∙◌, subst}
use Rattle.pc_types.specs.Shapes.{Definition, Domain, Shape, Typed, Keyed, EnumeratedType, PointerType, SetType, SubrangeType, RecordType, LastField}
use Rattle.pc_types.specs.Table.{Table, Place, place_at, numbered, definition_in, shape_in, fields_from}
use Rattle.pc_types.specs.declared.form.TypeId.{TypeId}
use Rattle.pc_types.specs.declared.form.Definition.{Definition as Written}
use Rattle.pc_types.specs.declared.form.Form.TheVariants as form
use Rattle.pc_types.specs.declared.operand.Operand.{Operand}
use Rattle.pc_types.specs.declared.form.DomainId.{DomainId}
use Rattle.pc_rules.specs.Denoters.{typed, defined_here, pointer_to}
use Rattle.pc_rules.specs.Meanings.{Local, Found, Here, Later, Required, Component, Missing}
use Rattle.pc_facts.specs.Shows.{ShowsType, shape_of}
use Rattle.pc_type_rules.specs.Denoted.{IsNumber, domain_of}
use Rattle.pc_type_rules.proofs.NodeSteps.{shows-none}
use Rattle.pc_type_rules.proofs.NumberSteps.{number-shape, no-number}

-- every type of this shape is shown
abbrev pub Made : Table → Option Operand → Shape → Type 0
Made u o s = (x : Option Typed) → shape_of x ≡ Some s → ShowsType u o x

pub set-made : (t u : Table) (here : Written) (p : Bool) (b : TypeId) (base : Option TypeId) (o : Option Operand) (d : Definition) (ty : Option Typed) → base ≡ Some b →
    Made u o (shape_in t here (form.Set p b)) → definition_in t.owners here ≡ d → IsNumber t base ty → ShowsType u o (option_map (λ (x : Typed). typed (SetType d p x.shape)) ty)
set-made t u here p b base o d None is made def h = absurd (no-number t b base is h)
set-made t u here p b base o d (Some x) is made def h =
    made (Some (typed (SetType d p x.shape)))
    (ap (λ (e : Definition). let s : Option Shape = Some (SetType e p x.shape) in s) (sym def) ∙ ap (λ (y : Shape). let s : Option Shape = Some (SetType (definition_in t.owners here) p y) in s) (sym (number-shape t b base x is h)))

pub subrange-made : (t u : Table) (here : Written) (b : TypeId) (host : Option TypeId) (o : Option Operand) (d : Definition) (x : Typed) (low high i j : ℤ) → host ≡ Some b → i ≡ low → j ≡ high →
    Made u o (shape_in t here (form.Subrange b i j)) → definition_in t.owners here ≡ d → IsNumber t host (Some x) → ShowsType u o (Some (typed (SubrangeType d x.shape low high)))
subrange-made t u here b host o d x low high i j is first last made def h =
    made (Some (typed (SubrangeType d x.shape low high)))
    (ap (λ (e : Definition). let s : Option Shape = Some (SubrangeType e x.shape low high) in s) (sym def) ∙ ap (λ (y : Shape). let s : Option Shape = Some (SubrangeType (definition_in t.owners here) y low high) in s) (sym (number-shape t b host x is h))
    ∙ ap (λ (z : ℤ). let s : Option Shape = Some (SubrangeType (definition_in t.owners here) (numbered t.shapes b) z high) in s) (sym first)
    ∙ ap (λ (z : ℤ). let s : Option Shape = Some (SubrangeType (definition_in t.owners here) (numbered t.shapes b) i z) in s) (sym last))

-- the same subrange, between ordinals that are these
pub same-bounds : (u : Table) (o : Option Operand) (d : Definition) (t : Shape) (low high i j : ℤ) → i ≡ low → j ≡ high → ShowsType u o (Some (typed (SubrangeType d t i j))) → ShowsType u o (Some (typed (SubrangeType d t low high)))
same-bounds u o d t low high i j first last h =
    subst (λ (z : ℤ). ShowsType u o (Some (typed (SubrangeType d t low z)))) last (subst (λ (z : ℤ). ShowsType u o (Some (typed (SubrangeType d t z j)))) first h)

pub no-fields-made : (t u : Table) (here : Written) (p q : Bool) (fields : List (List ℕ × TypeId)) (o : Option Operand) (d : Definition) → fields ≡ [] → p ≡ q →
    Made u o (shape_in t here (form.Record p fields)) → definition_in t.owners here ≡ d → ShowsType u o (Some (typed (RecordType d q LastField)))
no-fields-made t u here p q fields o d none same made def =
    made (Some (typed (RecordType d q LastField)))
    (ap (λ (e : Definition). let s : Option Shape = Some (RecordType e q LastField) in s) (sym def) ∙ ap (λ (v : Bool). let s : Option Shape = Some (RecordType (definition_in t.owners here) v LastField) in s) (sym same)
    ∙ ap (λ (fs : List (List ℕ × TypeId)). let s : Option Shape = Some (RecordType (definition_in t.owners here) p (fields_from t.shapes fs)) in s) (sym none))

pub named-made : (t u : Table) (here : Written) (names ns : List (List ℕ)) (o : Option Operand) (d : Definition) → names ≡ ns → Made u o (shape_in t here (form.Named names)) → definition_in t.owners here ≡ d →
    ShowsType u o (Some (typed (EnumeratedType d ns)))
named-made t u here names ns o d same made def =
    made (Some (typed (EnumeratedType d ns)))
    (ap (λ (e : Definition). let s : Option Shape = Some (EnumeratedType e ns) in s) (sym def) ∙ ap (λ (v : List (List ℕ)). let s : Option Shape = Some (EnumeratedType (definition_in t.owners here) v) in s) (sym same))

place-made : (t u : Table) (here : Written) (i : DomainId) (o : Option Operand) (d : Definition) (p : Place) (ds : List Domain) → Some (place_at t i) ≡ Some p → Made u o (shape_in t here (form.Pointer i)) → definition_in t.owners here ≡ d →
    ShowsType u o (Some (record { shape = PointerType d p.owner p.name; domains = ds }))
place-made t u here i o d p ds same made def =
    let e : place_at t i ≡ p = cc in
    made (Some (record { shape = PointerType d p.owner p.name; domains = ds }))
    (ap (λ (x : Definition). let s : Option Shape = Some (PointerType x p.owner p.name) in s) (sym def) ∙ ap (λ (q : Place). let s : Option Shape = Some (PointerType (definition_in t.owners here) q.owner q.name) in s) (sym e))

some-place : (t : Table) (i : DomainId) (domain : Option DomainId) (p : Option Place) → domain ≡ Some i → option_map (place_at t) domain ≡ p → Some (place_at t i) ≡ p
some-place t i domain p is h = subst (λ (v : Option DomainId). option_map (place_at t) v ≡ p) is h

none-place : {X : Type 0} → (p : Place) → None ≡ Some p → X
none-place p h = absurd (let e = h in cc)

pub pointer-made : (t u : Table) (here : Written) (i : DomainId) (domain : Option DomainId) (o : Option Operand) (l : Local) (n : List ℕ) (f : Found) → domain ≡ Some i → Made u o (shape_in t here (form.Pointer i)) →
    definition_in t.owners here ≡ defined_here l → option_map (place_at t) domain ≡ domain_of l n f → ShowsType u o (pointer_to l n f)
pointer-made t u here i domain o l n (Here m) is made def h = place-made t u here i o (defined_here l) (record { owner = m.owner; name = n }) _ (some-place t i domain _ is h) made def
pointer-made t u here i domain o l n (Later c) is made def h = place-made t u here i o (defined_here l) (record { owner = l.owner; name = n }) _ (some-place t i domain _ is h) made def
pointer-made t u here i domain o l n (Required r) is made def h = place-made t u here i o (defined_here l) (record { owner = Keyed []; name = n }) _ (some-place t i domain _ is h) made def
pointer-made t u here i domain o l n (Component x p) is made def h = none-place (place_at t i) (sym (some-place t i domain _ is h))
pointer-made t u here i domain o l n Missing is made def h = none-place (place_at t i) (sym (some-place t i domain _ is h))

no-place : (u : Table) (l : Local) (n : List ℕ) (f : Found) → None ≡ domain_of l n f → ShowsType u None (pointer_to l n f)
no-place u l n (Here m) h = none-place _ h
no-place u l n (Later c) h = none-place _ h
no-place u l n (Required r) h = none-place _ h
no-place u l n (Component x p) h = shows-none u
no-place u l n Missing h = shows-none u

-- no domain, and no pointer type
pub no-pointer : (t u : Table) (domain : Option DomainId) (l : Local) (n : List ℕ) (f : Found) → domain ≡ None → option_map (place_at t) domain ≡ domain_of l n f → ShowsType u None (pointer_to l n f)
no-pointer t u domain l n f is h = no-place u l n f (subst (λ (v : Option DomainId). option_map (place_at t) v ≡ domain_of l n f) is h)
