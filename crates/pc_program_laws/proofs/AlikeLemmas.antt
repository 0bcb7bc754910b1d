-- Among declarations the same is found where names mean the same but for parameters and results.
use Rattle.std.specs.Prelude.{ℕ, ◌≡◌, Bool, true, false, if◌then◌else◌, List, [], ◌∷◌, Option, Some, None}
use Rattle.std.proofs.Common.{refl, ap, sym, subst, ◌∙◌, inl, inr}
use Rattle.pc_syntax.specs.Plain.{Forest, Nil, Cons, Plain, forest_of}
use Rattle.pc_syntax.specs.Words.{lowered}
use Rattle.pc_syntax.specs.declared.kind.Kind.{Kind}
use Rattle.pc_syntax.specs.declared.kind.Kind.TheVariants as kind
use Rattle.pc_types.specs.Shapes.{Typed}
use Rattle.pc_rules.specs.Attributes.{Attributes, Marked, Mark, first}
use Rattle.pc_rules.specs.Decorated.{Seen, seen, unseen, rule, decorate}
use Rattle.pc_rules.specs.Meanings.{Class, Signature, Meaning, Found, Here, Later, Component, Required, Missing, Local, Outside, entry_of, is_routine_class, known_or, later_or, field_or, find}
use Rattle.pc_rules.specs.Outsides.{completed_by, signature_named, outside_of}
use Rattle.pc_rules.specs.Places.{inner, beside}
use Rattle.pc_rules.specs.RoutineList.{routines_of}
use Rattle.pc_rules.specs.Routines.{Routine, bare}
use Rattle.pc_environment.specs.Decorating as here
use Rattle.pc_environment.specs.DecoratingLaws.{decorate-forest_of}
use Rattle.pc_needs.specs.Answers.{place_behind}
use Rattle.pc_needs.proofs.Lists.{each-one}
use Rattle.pc_program_laws.specs.Unsigned.{unsigned, unsigned_found, faded, all_faded, MeanAlike, is_declaring, AllOfKind, declarations_of, AlikeLaw, AlikeNodeLaw, AlikeRowLaw, OutsidesAlikeLaw, RoutineAlikeLaw, UnsignedLaw}
use Rattle.pc_program_laws.proofs.FadeLemmas.{fade_seen}
use Rattle.pc_program_laws.proofs.KindLemmas.{declaring-law}
use Rattle.pc_program_laws.proofs.RuleLemmas.{IsSameForTypes, node-fade}
use Rattle.pc_program_laws.proofs.TouchLemmas.{IsOwn, HasOwn, routines-own}

-- what stands behind a node is decided by what it declares and opens
pub beside-by : (l : Local) (k : Kind) (a b : Attributes) → a.defines ≡ b.defines → a.opens ≡ b.opens → beside l k a ≡ beside l k b
beside-by l kind.Types a b d o = λ i. beside l kind.Types (record a { defines = d i; opens = o i })
beside-by l kind.Procedure a b d o = λ i. beside l kind.Procedure (record a { defines = d i; opens = o i })
beside-by l kind.Function a b d o = λ i. beside l kind.Function (record a { defines = d i; opens = o i })
beside-by l kind.Funbody a b d o = λ i. beside l kind.Funbody (record a { defines = d i; opens = o i })
beside-by l (kind.Hole s) a b d o = λ i. beside l (kind.Hole s) (record a { defines = d i; opens = o i })
beside-by l kind.Valparam a b d o = λ i. beside l kind.Valparam (record a { defines = d i; opens = o i })
beside-by l kind.Varparam a b d o = λ i. beside l kind.Varparam (record a { defines = d i; opens = o i })
beside-by l kind.Params a b d o = λ i. beside l kind.Params (record a { defines = d i; opens = o i })
beside-by l k a b d o = λ i. beside l k (record a { defines = d i; opens = o i })

-- ---- trees among declarations

-- names mean the same at each place, in this sense
abbrev pub FindAlike : (Found → Found) → Outside → Outside → Type 0
FindAlike g a b = (l : Local) (n : List ℕ) → g (find a l n) ≡ g (find b l n)

pub seen-alike : (g : Found → Found) (a b : Outside) (l : Local) (k : Kind) (w : List ℕ) → FindAlike g a b → fade_seen g (seen a l k w) ≡ fade_seen g (seen b l k w)
seen-alike g a b l kind.Name w h = which l.using where
  which : (u : Bool) → fade_seen g (if u then record { found = find a l (lowered w); changed = a.touched (lowered w) } else unseen)
      ≡ fade_seen g (if u then record { found = find b l (lowered w); changed = b.touched (lowered w) } else unseen)
  which true = λ i. record { found = h l (lowered w) i; changed = false }
  which false = refl
seen-alike g a b l k w h = refl

-- a node, given what is found below it
node-alike : (g : Found → Found) → IsSameForTypes g → (l : Local) (k : Kind) (w : List ℕ) (s t : Seen) (m n : Marked) → is_declaring k ≡ true → fade_seen g s ≡ fade_seen g t →
    all_faded g m ≡ all_faded g n → faded g (rule l k w s m) ≡ faded g (rule l k w t n)
node-alike g same l k w s t m n e p q = sym (node-fade g same l k w s m e) ∙ (λ i. faded g (rule l k w (p i) (q i))) ∙ node-fade g same l k w t n e

pub decorate-alike : (g : Found → Found) → IsSameForTypes g → (a b : Outside) (l : Local) (f : Forest) → AllOfKind is_declaring f → FindAlike g a b →
    all_faded g (decorate a l f) ≡ all_faded g (decorate b l f)
unfolding decorate
decorate-alike g same a b l Nil c h = refl
decorate-alike g same a b l (Cons k w ns ks ts) c h =
    let m : Marked = decorate a (inner l k ks) ks in
    let n : Marked = decorate b (inner l k ks) ks in
    let below : all_faded g m ≡ all_faded g n = decorate-alike g same a b (inner l k ks) ks c.1 h in
    let x : Attributes = rule l k w (seen a l k w) m in
    let y : Attributes = rule l k w (seen b l k w) n in
    let at : faded g x ≡ faded g y = node-alike g same l k w (seen a l k w) (seen b l k w) m n c.0 (seen-alike g a b l k w h) below in
    let behind : beside l k x ≡ beside l k y = beside-by l k x y (ap (λ (z : Attributes). z.defines) at) (ap (λ (z : Attributes). z.opens) at) in
    let rest : all_faded g (decorate a (beside l k x) ts) ≡ all_faded g (decorate b (beside l k y) ts) =
    decorate-alike g same a b (beside l k x) ts c.2 h ∙ ap (λ (z : Local). all_faded g (decorate b z ts)) behind in
    λ i. Mark (at i) (below i) (rest i)

pub behind-alike : (g : Found → Found) → IsSameForTypes g → (a b : Outside) (l : Local) (f : Forest) → AllOfKind is_declaring f → FindAlike g a b → place_behind a l f ≡ place_behind b l f
unfolding place_behind
behind-alike g same a b l Nil c h = refl
behind-alike g same a b l (Cons k w ns ks ts) c h =
    let m : Marked = decorate a (inner l k ks) ks in
    let n : Marked = decorate b (inner l k ks) ks in
    let x : Attributes = rule l k w (seen a l k w) m in
    let y : Attributes = rule l k w (seen b l k w) n in
    let at : faded g x ≡ faded g y =
    node-alike g same l k w (seen a l k w) (seen b l k w) m n c.0 (seen-alike g a b l k w h) (decorate-alike g same a b (inner l k ks) ks c.1 h) in
    let behind : beside l k x ≡ beside l k y = beside-by l k x y (ap (λ (z : Attributes). z.defines) at) (ap (λ (z : Attributes). z.opens) at) in
    behind-alike g same a b (beside l k x) ts c.2 h ∙ ap (λ (z : Local). place_behind b z ts) behind

-- ---- meanings without parameters and results

unsigned-twice : (f : Found) → unsigned_found (unsigned_found f) ≡ unsigned_found f
unsigned-twice (Here m) = refl
unsigned-twice (Later c) = refl
unsigned-twice (Component t p) = refl
unsigned-twice (Required n) = refl
unsigned-twice Missing = refl

pub same-unsigned : IsSameForTypes unsigned_found
same-unsigned = record {
  twice = unsigned-twice;
  keeps = refl;
  types = elim [ Here m ↦ refl | Later c ↦ refl | Component t p ↦ refl | Required n ↦ refl | Missing ↦ refl ];
  values = elim [ Here m ↦ refl | Later c ↦ refl | Component t p ↦ refl | Required n ↦ refl | Missing ↦ refl ];
  misses = λ w. elim [ Here m ↦ refl | Later c ↦ refl | Component t p ↦ refl | Required n ↦ refl | Missing ↦ refl ];
  uses = λ declared required. elim [ Here m ↦ refl | Later c ↦ refl | Component t p ↦ refl | Required n ↦ refl | Missing ↦ refl ];
  later = elim [ Here m ↦ refl | Later c ↦ refl | Component t p ↦ refl | Required n ↦ refl | Missing ↦ refl ];
  pointers = λ l n. elim [ Here m ↦ refl | Later c ↦ refl | Component t p ↦ refl | Required x ↦ refl | Missing ↦ refl ];
}

-- a declaration of a routine differs in those alone
signed : (b : Bool) (s : Option Signature) (m : Meaning) → unsigned (if b then record m { signature = s } else m) ≡ unsigned m
signed true s m = refl
signed false s m = refl

find-known : (a b : Outside) (n : List ℕ) (o : Option Meaning) (e f : Found) → unsigned_found e ≡ unsigned_found f → unsigned_found (known_or a n o e) ≡ unsigned_found (known_or b n o f)
find-known a b n None e f h = h
find-known a b n (Some m) e f h = ap Here (signed (is_routine_class m.class) (a.heading n) m ∙ sym (signed (is_routine_class m.class) (b.heading n) m))

find-later : (o : Option Class) (e f : Found) → unsigned_found e ≡ unsigned_found f → unsigned_found (later_or o e) ≡ unsigned_found (later_or o f)
find-later None e f h = h
find-later (Some c) e f h = refl

find-field : (o : Option (Typed × Bool)) (e f : Found) → unsigned_found e ≡ unsigned_found f → unsigned_found (field_or o e) ≡ unsigned_found (field_or o f)
find-field None e f h = h
find-field (Some t) e f h = refl

pub find-alike : (a b : Outside) → MeanAlike a b → FindAlike unsigned_found a b
unfolding find
find-alike a b h l n =
    find-field (entry_of l.fields n) _ _ (find-known a b n (entry_of l.known n) _ _ (find-later (entry_of l.names n) (a.means n) (b.means n) (h n)))

alike-law : AlikeLaw
alike-law a b l f c h = (decorate-alike unsigned_found same-unsigned a b l f c (find-alike a b h), behind-alike unsigned_found same-unsigned a b l f c (find-alike a b h))

alike-node : AlikeNodeLaw
unfolding decorate place_behind
alike-node a b l t c h =
    let both = alike-law a b l (Cons t.kind t.word t.notes t.kids Nil) c h in
    (ap (λ (m : Marked). first m) both.0, both.1)

completed-alike : (rs : List Routine) (n : List ℕ) (f : Found) → unsigned_found f ≡ unsigned_found (completed_by rs n f)
completed-alike rs n (Here m) = ap Here (sym (signed (is_routine_class m.class) (signature_named rs m.owner n) m))
completed-alike rs n (Later c) = refl
completed-alike rs n (Component t p) = refl
completed-alike rs n (Required m) = refl
completed-alike rs n Missing = refl

outsides-alike : OutsidesAlikeLaw
unfolding outside_of
outsides-alike rs r = ((λ n. completed-alike rs n (r.means n)), (λ n. completed-alike rs n (r.means n)))

after-alike : (a b : Outside) (l : Local) (ts : List Plain) → AllOfKind is_declaring (forest_of ts) → MeanAlike a b → here.place_after a l ts ≡ here.place_after b l ts
after-alike a b l [] c h = refl
after-alike a b l (t ∷ ts) c h =
    after-alike a b (here.place_behind a l t) ts c.2 h ∙ ap (λ (z : Local). here.place_after b z ts) (alike-node a b l t (c.0, c.1, tt) h).1

alike-row : AlikeRowLaw
alike-row a b l ts c h = (
  ap (all_faded unsigned_found) (sym (decorate-forest_of a l ts)) ∙ (alike-law a b l (forest_of ts) c h).0 ∙ ap (all_faded unsigned_found) (decorate-forest_of b l ts),
  after-alike a b l ts c h,
)

own-declaring : (b : Forest) → IsOwn b → AllOfKind is_declaring (declarations_of b)
own-declaring b (inl e) = subst (λ (x : Forest). AllOfKind is_declaring (declarations_of x)) (sym e) tt
own-declaring b (inr x) = subst (λ (y : Forest). AllOfKind is_declaring (declarations_of y)) (sym x.4) (declaring-law x.0 x.1 x.2 x.3)

alike-routine : RoutineAlikeLaw
alike-routine t q rs l proper i =
    alike-law (bare q.means) (outside_of rs q) l (declarations_of q.block) (own-declaring q.block (each-one HasOwn (routines_of t) q i (routines-own t proper))) (outsides-alike rs q).0

pub unsigned-law : UnsignedLaw
unsigned-law = record {
  alike = alike-law;
  node = alike-node;
  row = alike-row;
  declaring = declaring-law;
  outsides = outsides-alike;
  routine = alike-routine;
}
