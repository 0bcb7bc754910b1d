-- What is known once the types of a block are closed: lemmas.
use Rattle.std.proofs.Common.{◌≡◌, ◌⊎◌, inl, inr, ℕ, Bool, true, false, if◌then◌else◌, List, [], ◌++◌, Option, Some, None, length, refl, ap, sym, ◌∙◌, subst, arith}
use Rattle.std.proofs.lemmas.Bool.{cases_lt}
use Rattle.std.proofs.lemmas.List.{get_or_past}
use Rattle.std.proofs.lemmas.Option.{none-some, same_Some}
use Rattle.pc_syntax.specs.Plain.{Plain}
use Rattle.pc_types.specs.Shapes.{Owner, Shape, Domain, Typed}
use Rattle.pc_types.specs.Domains.{domain_in, stands_in}
use Rattle.pc_types.specs.Rows.{Kept, IsInOrder, seen}
use Rattle.pc_types.specs.Table.{Table, Place, nobody, place_at, domain_at}
use Rattle.pc_types.specs.declared.form.DomainId.{DomainId}
use Rattle.pc_rules.specs.ClosedTypes.{own_domains, carried, close_types}
use Rattle.pc_rules.specs.Meanings.{Meaning, Local, Outside, entry_of}
use Rattle.pc_rules.specs.NameClasses.{is_type_class}
use Rattle.pc_rules.specs.RequiredMeanings.{required_type}
use Rattle.pc_names.specs.Standing.{IsKnown}
use Rattle.pc_names.specs.Table.{slot_named}
use Rattle.pc_names.specs.declared.id.DeclarationId.{DeclarationId}
use Rattle.pc_facts.specs.Shows.{shape_of}
use Rattle.pc_pointers.specs.Good.{Targets, IsGood}
use Rattle.pc_closed.specs.Carried.{AllTypesCarried}
use Rattle.pc_closed.specs.Settled.{with_types}
use Rattle.pc_closed.specs.TogetherLaws.{together-law}
use Rattle.pc_closing.specs.Whole.{is_whole_in, IfAny, closed_shape}
use Rattle.pc_closing.specs.Truth.{TellRows, Forgets}
use Rattle.pc_closing.specs.ToldLaws.{told-closed}
use Rattle.pc_places.specs.Places.{known, IsPlace}
use Rattle.pc_places.specs.Scenes.{ShowsUnsigned}
use Rattle.pc_places.specs.declared.tables.Tables.{Tables}
use Rattle.pc_domains.specs.AroundLaws.{closed-there}
use Rattle.pc_block_laws.specs.Block.{block_targets, OnceEach, OwnTypes}
use Rattle.pc_domains.specs.OwnLaws.{own-tells, own-there}
use Rattle.pc_domains.specs.Sifting.{sifted_type}
use Rattle.pc_domains.specs.SiftedLaws.{ClosesBy, shape-there}

-- ---- types pass exactly where they are closed

-- what a type that the tables have is, closed
closes-shape : (P : Targets) (k : Kept) (all : List Domain) (t : Typed) (s : Shape) → IsInOrder k → TellRows P (seen k) (length (seen k).domains) →
    IsGood P (record { shape = t.shape; domains = all }) → closed_shape all (Some t.shape) ≡ (if is_whole_in (seen k).domains t.shape then Some t.shape else None) →
    shape_of (sifted_type (is_whole_in (seen k).domains) (Some t)) ≡ closed_shape all (Some t.shape)
closes-shape P k all t s order rows good e = by (is_whole_in (seen k).domains t.shape) ∙ sym e
  where
    by : (b : Bool) → shape_of (if b then Some t else None) ≡ (if b then Some t.shape else None)
    by true = refl
    by false = refl

-- each type of the block
pub closes-by : (list : Plain) (P : Targets) (T : Targets) (t : Tables) (block owner : ℕ) (out : Outside) (l : Local) → P ≡ with_types (own_domains l.known) T → IsPlace t block owner out l →
    AllTypesCarried T (own_domains l.known) l.known → IsInOrder t.types → TellRows P (seen t.types) (length (seen t.types).domains) →
    (n : List ℕ) (m : Meaning) → entry_of l.known n ≡ Some m → is_type_class m.class ≡ true → ClosesBy (is_whole_in (seen t.types).domains) (own_domains l.known ++ carried l.known) m.type
closes-by list P T t block owner out l is at carries order rows n m e c = by m.type refl
  where
    all : List Domain
    all = own_domains l.known ++ carried l.known

    known-as : (k : Option DeclarationId) (o : Option Meaning) (ty : Typed) → o ≡ Some m → m.type ≡ Some ty → IsKnown (ShowsUnsigned (known t) t.declarations.items) k o →
        ClosesBy (is_whole_in (seen t.types).domains) all (Some ty)
    known-as None None ty q f h = absurd (none-some m q)
    known-as (Some d) None ty q f h = absurd h
    known-as None (Some x) ty q f h = absurd h
    known-as (Some d) (Some x) ty q f h =
        let typed : x.type ≡ Some ty = ap (λ (y : Meaning). y.type) (same_Some x m q) ∙ f in
        let at = shape-there (seen t.types) h.declared.of ty.shape (h.shows.shows.type.shape ∙ ap shape_of typed) h.shows.shows.type.there in
        let good : IsGood P (record { shape = ty.shape; domains = all }) =
        subst (λ (Q : Targets). IsGood Q (record { shape = ty.shape; domains = all })) (sym is) (together-law.named T l.known carries n m e c ty f) in
        let there = told-closed P t.types all at.operand order rows at.there (subst (λ (s : Shape). IsGood P (record { shape = s; domains = all })) (sym at.shape) good) in
        let closed : closed_shape all (Some ty.shape) ≡ (if is_whole_in (seen t.types).domains ty.shape then Some ty.shape else None) =
        subst (λ (s : Shape). closed_shape all (Some s) ≡ (if is_whole_in (seen t.types).domains s then Some s else None)) at.shape there in
        closes-shape P t.types all ty ty.shape order rows good closed

    by : (ty : Option Typed) → m.type ≡ ty → ClosesBy (is_whole_in (seen t.types).domains) all ty
    by None f = refl
    by (Some ty) f = known-as (slot_named t.names block n).known (entry_of l.known n) ty e f (at.own n).is_known

-- ---- the targets forget what isn't whole

-- the targets have what stood before, or nothing where that wasn't whole
abbrev pub IsForgotten : (Shape → Bool) → Option Shape → Option Shape → Type 0
IsForgotten p before now = (now ≡ before) ⊎ ((now ≡ None) × IfAny (λ s. p s ≡ false) before)

sifted-forgotten : (p : Shape → Bool) (t : Option Typed) (now : Option Shape) → now ≡ shape_of (sifted_type p t) → IsForgotten p (shape_of t) now
sifted-forgotten p None now e = inl e
sifted-forgotten p (Some t) now e = by (p t.shape) refl e
  where
    by : (b : Bool) → p t.shape ≡ b → now ≡ shape_of (if b then Some t else None) → IsForgotten p (Some t.shape) now
    by true q f = inl f
    by false q f = inr (f, q)

pub targets-forget : (is_program : Bool) (list : Plain) (T : Targets) (p : Shape → Bool) (l : Local) → OnceEach l.known → OwnTypes list l → ((n : List ℕ) → T l.owner n ≡ block_targets is_program l n) →
    ((n : List ℕ) (m : Meaning) → entry_of l.known n ≡ Some m → is_type_class m.class ≡ true → ClosesBy p (own_domains l.known ++ carried l.known) m.type) → (o : Owner) (n : List ℕ) →
    IsForgotten p (with_types (own_domains l.known) T o n) (T o n)
targets-forget is_program list T p l once own says closes o n = by (stands_in (own_domains l.known) o n) refl
  where
    by : (b : Bool) → stands_in (own_domains l.known) o n ≡ b → IsForgotten p (if b then domain_in (own_domains l.known) o n else T o n) (T o n)
    by false s = inl refl
    by true s =
        let h = own-tells l.known o n once s in
        let m = h.meaning in
        let mine = own n m h.is h.class in
        let there = own-there l.known n m h.is h.class in
        let before : domain_in (own_domains l.known) o n ≡ shape_of m.type = ap (λ (w : Owner). domain_in (own_domains l.known) w n) (sym h.owner) ∙ there.shape in
        let now : T o n ≡ shape_of (sifted_type p m.type) =
        ap (λ (w : Owner). T w n) (sym h.owner ∙ mine.0) ∙ says n
        ∙ ap (λ (b : Bool). if b then domain_in (own_domains (close_types l).known) l.owner n else (if is_program then required_type n else None)) mine.2
        ∙ closed-there list l n m own h.is h.class ∙ sym (closes n m h.is h.class) in
        subst (λ (x : Option Shape). IsForgotten p x (T o n)) (sym before) (sifted-forgotten p m.type (T o n) now)

-- so does a table whose rows tell the targets, of one whose rows told what stood before
pub rows-forget : (p : Shape → Bool) (P T : Targets) (a b : Table) → p ≡ is_whole_in a.domains → ((o : Owner) (n : List ℕ) → IsForgotten p (P o n) (T o n)) → ((x : DomainId) → place_at b x ≡ place_at a x) →
    length b.domains ≡ length a.domains → TellRows P a (length a.domains) → TellRows T b (length b.domains) → Forgets a b
rows-forget p P T a b is forget places same before now = record {
  places = places;
  targets = λ x. elim (cases_lt x.0 (length a.domains)) [
    | inl less ↦
        let first : P (place_at a x).owner (place_at a x).name ≡ (domain_at a x).shape = before x less in
        let second : T (place_at a x).owner (place_at a x).name ≡ (domain_at b x).shape =
        ap (λ (q : Place). T q.owner q.name) (sym (places x)) ∙ now x (omega (arith, less, same)) in
        turned x (subst (λ (y : Option Shape). IsForgotten p y (domain_at b x).shape) first
        (subst (λ (y : Option Shape). IsForgotten p (P (place_at a x).owner (place_at a x).name) y) second (forget (place_at a x).owner (place_at a x).name)))
    | inr past ↦
        let nothing : Domain = record { owner = nobody; name = []; shape = None } in
        inl (ap (λ (d : Domain). d.shape) (get_or_past b.domains x.0 nothing (omega (arith, past, same))) ∙ sym (ap (λ (d : Domain). d.shape) (get_or_past a.domains x.0 nothing past)))
  ];
}
  where
    turned : (x : DomainId) → IsForgotten p (domain_at a x).shape (domain_at b x).shape →
        ((domain_at b x).shape ≡ (domain_at a x).shape) ⊎ (((domain_at b x).shape ≡ None) × IfAny (λ s. is_whole_in a.domains s ≡ false) (domain_at a x).shape)
    turned x h = subst (λ (q : Shape → Bool). IsForgotten q (domain_at a x).shape (domain_at b x).shape) is h
