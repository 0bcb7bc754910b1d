-- What a pointer leads to: lemmas.
use Rattle.std.specs.Prelude.{◌≡◌, ℕ, Bool, List, [], ◌++◌, Option, Some, None, IfSome, option_map, codes}
use Rattle.std.specs.Option.{option_and_then}
use Rattle.std.proofs.Common.{refl, ap, sym, ◌∙◌, subst}
use Rattle.std.proofs.lemmas.Option.{none-some, same_Some}
use Rattle.pc_types.specs.Domains.{domain_in}
use Rattle.pc_types.specs.Outlined.{domain_place}
use Rattle.pc_types.specs.Shapes.{Owner, Definition, Shape, IntegerType, BooleanType, CharType, NilType, NoMembers, MembersType, TextType, EnumeratedType, SubrangeType, ArrayType, RecordType, SetType, PointerType, Domain, Typed}
use Rattle.pc_types.specs.Table.{Table, Place, shape_at, domain_at, place_at, IsThere}
use Rattle.pc_types.specs.declared.form.DomainId.{DomainId}
use Rattle.pc_types.specs.declared.operand.Operand.{Operand}
use Rattle.pc_rules.specs.Attributes.{Entry, at_kid}
use Rattle.pc_rules.specs.Components as components
use Rattle.pc_rules.specs.Entries.{note_if}
use Rattle.pc_facts.specs.Shows.{ShowsType, shape_of}
use Rattle.pc_access_rules.specs.Accessed.{is_no_pointer}
use Rattle.pc_access_rules.specs.AccessedLaws.{no_pointer-judged}
use Rattle.pc_access_rules.specs.Pointers.{Targets, target_in, target_of, LeadsTo, AreTold}
use Rattle.pc_access_rules.proofs.TypeSteps.{begun, shape-in, shown}

pub target-found : (targets : Targets) (t : Table) (s : Shape) (x : DomainId) → Some (place_at t x) ≡ domain_place s → AreTold targets t → (domain_at t x).shape ≡ target_in targets s
target-found targets t (PointerType d o n) x e found =
    let place = same_Some (place_at t x) (record { owner = o; name = n }) e in
    sym (found x) ∙ ap (λ (p : Place). targets p.owner p.name) place
target-found targets t IntegerType x e found = absurd (none-some _ (sym e))
target-found targets t BooleanType x e found = absurd (none-some _ (sym e))
target-found targets t CharType x e found = absurd (none-some _ (sym e))
target-found targets t NilType x e found = absurd (none-some _ (sym e))
target-found targets t NoMembers x e found = absurd (none-some _ (sym e))
target-found targets t (MembersType m) x e found = absurd (none-some _ (sym e))
target-found targets t (TextType n) x e found = absurd (none-some _ (sym e))
target-found targets t (EnumeratedType d ns) x e found = absurd (none-some _ (sym e))
target-found targets t (SubrangeType d h low high) x e found = absurd (none-some _ (sym e))
target-found targets t (ArrayType d p i element) x e found = absurd (none-some _ (sym e))
target-found targets t (RecordType d p fs) x e found = absurd (none-some _ (sym e))
target-found targets t (SetType d p m) x e found = absurd (none-some _ (sym e))

pub target-none : (targets : Targets) (s : Shape) → None ≡ domain_place s → target_in targets s ≡ None
target-none targets (PointerType d o n) e = absurd (none-some _ e)
target-none targets IntegerType e = refl
target-none targets BooleanType e = refl
target-none targets CharType e = refl
target-none targets NilType e = refl
target-none targets NoMembers e = refl
target-none targets (MembersType m) e = refl
target-none targets (TextType n) e = refl
target-none targets (EnumeratedType d ns) e = refl
target-none targets (SubrangeType d h low high) e = refl
target-none targets (ArrayType d p i element) e = refl
target-none targets (RecordType d p fs) e = refl
target-none targets (SetType d p m) e = refl

with-shape : (ds : List Domain) (s : Option Shape) → shape_of (option_map (λ (s : Shape). let t : Typed = record { shape = s; domains = ds } in t) s) ≡ s
with-shape ds None = refl
with-shape ds (Some s) = refl

domain-of : (targets : Targets) (es : List Domain) (s : Shape) → ((d : Definition) (o : Owner) (n : List ℕ) → s ≡ PointerType d o n → domain_in es o n ≡ targets o n) → shape_of (components.domain_of es s) ≡ target_in targets s
domain-of targets es (PointerType d o n) leads = with-shape es (domain_in es o n) ∙ leads d o n refl
domain-of targets es IntegerType leads = refl
domain-of targets es BooleanType leads = refl
domain-of targets es CharType leads = refl
domain-of targets es NilType leads = refl
domain-of targets es NoMembers leads = refl
domain-of targets es (MembersType m) leads = refl
domain-of targets es (TextType n) leads = refl
domain-of targets es (EnumeratedType d ns) leads = refl
domain-of targets es (SubrangeType d h low high) leads = refl
domain-of targets es (ArrayType d p i element) leads = refl
domain-of targets es (RecordType d p fs) leads = refl
domain-of targets es (SetType d p m) leads = refl

pub target-judged : (targets : Targets) (ty : Option Typed) → LeadsTo targets ty → shape_of (option_and_then (λ (x : Typed). components.domain_of x.domains x.shape) ty) ≡ target_of targets (shape_of ty)
target-judged targets None leads = refl
target-judged targets (Some t) leads = domain-of targets t.domains t.shape leads

pub type-behind : (targets : Targets) (s t : Table) (o r : Option Operand) (ty : Option Typed) → s ≡ t → ShowsType s o ty → LeadsTo targets ty → AreTold targets s →
    ((told : Targets) → AreTold told t → option_map (shape_at t) r ≡ target_of told (option_map (shape_at t) o)) → IfSome r (IsThere t) →
    ShowsType s r (option_and_then (λ (x : Typed). components.domain_of x.domains x.shape) ty)
type-behind targets s t o r ty e h leads found shape there =
    let is = shape-in s t o ty e h in
    let law = target-judged targets ty leads in
    let same = shape targets (subst (AreTold targets) e found) in
    shown s t r _ e (same ∙ ap (target_of targets) is ∙ sym law) there

pub entries-behind : (s t : Table) (o : Option Operand) (ty : Option Typed) (p : Bool) (base own with_own old all : List Entry) → s ≡ t → ShowsType s o ty → own ≡ base →
    with_own ≡ own ++ note_if p 15 (codes "not a pointer") → p ≡ is_no_pointer (option_map (shape_at t) o) → old ≡ [] → all ≡ old ++ at_kid 1 with_own →
    all ≡ at_kid 1 (base ++ components.no_pointer components.is_made_pointer ty)
entries-behind s t o ty p base own with_own old all e h is_base is_own is_p is_old is_all =
    let shape = shape-in s t o ty e h in
    let law = no_pointer-judged ty in
    let all_is = begun old _ all is_old is_all in
    let own_is : with_own ≡ base ++ components.no_pointer components.is_made_pointer ty = cc in
    all_is ∙ ap (at_kid 1) own_is

pub ruleset targets = (target-found, target-none)
