-- No two routines that are the first of their names in one block have one name.
use Rattle.std.specs.Prelude.{ℕ, suc, ◌≡◌, ◌≤◌, Bool, true, false, not, ◌&&◌, ◌==◌, List, [], ◌∷◌, length, Option, ◌++◌, ◌⊎◌}
use Rattle.std.proofs.Common.{refl, ap, sym, ◌∙◌, true≢false, inl, inr, arith, append_assoc}
use Rattle.std.proofs.lemmas.Bool.{and_parts}
use Rattle.pc_syntax.specs.declared.kind.Kind.{Kind}
use Rattle.pc_syntax.specs.declared.kind.Kind.TheVariants as kind
use Rattle.pc_syntax.specs.declared.class.Class.TheVariants as class
use Rattle.pc_syntax.specs.Classes.{has}
use Rattle.pc_syntax.specs.Fits.{takes_from}
use Rattle.pc_syntax.specs.Plain.{Forest, Nil, Cons, Plain, kinds}
use Rattle.pc_syntax.specs.WellFormed.{WellFormed, IsProper}
use Rattle.pc_syntax.specs.Words.{is_among}
use Rattle.pc_scope.specs.Headings.{Heading, first_name, heading_of, headings_in}
use Rattle.pc_rules.specs.Attributes.{Attributes, first}
use Rattle.pc_rules.specs.Declarations.{head_or, heading_here, rest_of, is_later_declaration}
use Rattle.pc_rules.specs.Decorated.{decorate}
use Rattle.pc_rules.specs.Meanings.{Found, Local, find}
use Rattle.pc_rules.specs.OwnBlock.{own}
use Rattle.pc_rules.specs.Places.{inner, beside}
use Rattle.pc_rules.specs.RoutineList.{Forwarded, routine_of, key_of, forwarded_by, ARoutine, NoRoutine, part_of, routines_in, routines_below, program_routine}
use Rattle.pc_rules.specs.Routines.{Routine, bare, start_of}
use Rattle.pc_needs.specs.Unaffected.{IsOneOf}
use Rattle.pc_needs.proofs.Lists.{Each, each-append, each-map, each-one}
use Rattle.pc_needs.proofs.ParameterLemmas.{not-none}
use Rattle.pc_needs.proofs.PlaceLemmas.{of-part}
use Rattle.pc_needs.proofs.UniqueRoutines.{NoRoutines, hole-ahead, no-list, list-takes, list-ahead, block-no-routines}
use Rattle.pc_needs.proofs.WaitingLemmas.{define_all-keeps, routine-passed, routine-ahead, name-defined}
use Rattle.pc_program_laws.proofs.HomeLemmas.{around, around-kid}

-- ---- places that go on from one

head-or : List ℕ → ℕ
head-or [] = 0
head-or (i ∷ is) = i

tail-or : List ℕ → List ℕ
tail-or [] = []
tail-or (i ∷ is) = is

is-nothing : List ℕ → Bool
is-nothing [] = true
is-nothing (i ∷ is) = false

same-kid : (p : List ℕ) (i j : ℕ) (is js : List ℕ) → p ++ i ∷ is ≡ p ++ j ∷ js → i ≡ j
unfolding head-or tail-or
same-kid [] i j is js e = ap head-or e
same-kid (a ∷ p) i j is js e = same-kid p i j is js (ap tail-or e)

longer : (p : List ℕ) (i : ℕ) (is : List ℕ) → p ≡ p ++ i ∷ is → ⊥
unfolding tail-or is-nothing
longer [] i is e = true≢false (ap is-nothing e)
longer (a ∷ p) i is e = longer p i is (ap tail-or e)

-- a place further down than a list of a block isn't that block's routine
further : (e p q : List ℕ) (i c j : ℕ) (js : List ℕ) → p ≡ e ++ i ∷ c ∷ [] → q ≡ e → q ≡ p ++ j ∷ js → ⊥
further e p q i c j js h f g =
    longer e i (c ∷ j ∷ js) (sym f ∙ g ∙ ap (λ (x : List ℕ). x ++ j ∷ js) h ∙ append_assoc e (i ∷ c ∷ []) (j ∷ js))

-- ---- two routines

-- two routines are not both the first of one name in one block
abbrev pub Unlike : Routine → Routine → Type 0
Unlike x y = x.is_first ≡ true → y.is_first ≡ true → around x.place ≡ around y.place → x.name ≡ y.name → ⊥

-- no two of these are
abbrev pub AllUnlike : List Routine → Type 0
AllUnlike [] = Unit {0}
AllUnlike (x ∷ xs) = Each (Unlike x) xs × AllUnlike xs

append-unlike : (xs ys : List Routine) → AllUnlike xs → AllUnlike ys → Each (λ x. Each (Unlike x) ys) xs → AllUnlike (xs ++ ys)
append-unlike [] ys h g d = g
append-unlike (x ∷ xs) ys h g d = (each-append (Unlike x) xs ys h.0 d.0, append-unlike xs ys h.1 g d.1)

-- a routine is inside one at a place, however far
abbrev pub IsWithin : List ℕ → Routine → Type 0
IsWithin p z = (js : List ℕ) × (around z.place ≡ p ++ js)

-- a routine stands in a list of a block, from a kid on, and its name doesn't stand before; or it is inside one that does
abbrev IsNew : List (List ℕ) → List ℕ → List ℕ → ℕ → Routine → Type 0
IsNew passed e p c z =
    ((around z.place ≡ e) × (z.is_first ≡ true → is_among passed z.name ≡ false)) ⊎ ((j : ℕ) × (c ≤ j) × (js : List ℕ) × (around z.place ≡ p ++ j ∷ js))

-- it is that kid, and its name stands before what is behind; or it is inside that
abbrev IsOld : List (List ℕ) → List ℕ → List ℕ → ℕ → Routine → Type 0
IsOld passed e p c z = ((around z.place ≡ e) × (z.is_first ≡ true → is_among passed z.name ≡ true)) ⊎ ((js : List ℕ) × (around z.place ≡ p ++ c ∷ js))

old-new : (passed : List (List ℕ)) (e p : List ℕ) (i n c : ℕ) (x y : Routine) → p ≡ e ++ i ∷ n ∷ [] → IsOld passed e p c x → IsNew passed e p (suc c) y → Unlike x y
old-new passed e p i n c x y h (inl a) (inl b) f g same name = true≢false (sym (a.1 f) ∙ ap (is_among passed) name ∙ b.1 g)
old-new passed e p i n c x y h (inl a) (inr b) f g same name = further e p (around x.place) i n b.0 b.2 h a.0 (same ∙ b.3)
old-new passed e p i n c x y h (inr a) (inl b) f g same name = further e p (around y.place) i n c a.0 h b.0 (sym same ∙ a.1)
old-new passed e p i n c x y h (inr a) (inr b) f g same name =
    let s = same-kid p c b.0 a.0 b.2 (sym a.1 ∙ same ∙ b.3) in absurd (omega (arith, b.1, s))

-- a routine and one inside it
home-inside : (e p : List ℕ) (i n c : ℕ) (x y : Routine) → p ≡ e ++ i ∷ n ∷ [] → around x.place ≡ e → IsWithin (p ++ c ∷ []) y → Unlike x y
home-inside e p i n c x y h a b f g same name = further e p (around x.place) i n c b.0 h a (same ∙ b.1 ∙ append_assoc p (c ∷ []) b.0)

inside-old : (passed : List (List ℕ)) (e p : List ℕ) (c : ℕ) (y : Routine) → IsWithin (p ++ c ∷ []) y → IsOld passed e p c y
inside-old passed e p c y b = inr (b.0, b.1 ∙ append_assoc p (c ∷ []) b.0)

inside-new : (passed : List (List ℕ)) (e p : List ℕ) (c : ℕ) (y : Routine) → IsWithin (p ++ c ∷ []) y → IsNew passed e p c y
inside-new passed e p c y b = inr (c, omega arith, b.0, b.1 ∙ append_assoc p (c ∷ []) b.0)

behind-new : (before passed : List (List ℕ)) (e p : List ℕ) (c : ℕ) (y : Routine) → ((n : List ℕ) → is_among passed n ≡ false → is_among before n ≡ false) →
    IsNew passed e p (suc c) y → IsNew before e p c y
behind-new before passed e p c y k (inl a) = inl (a.0, λ f. k y.name (a.1 f))
behind-new before passed e p c y k (inr b) = inr (b.0, omega (arith, b.1), b.2, b.3)

-- all in a list of a block are inside its routine
new-within : (passed : List (List ℕ)) (e p : List ℕ) (i n c : ℕ) (z : Routine) → p ≡ e ++ i ∷ n ∷ [] → IsNew passed e p c z → IsWithin e z
new-within passed e p i n c z h (inl a) = ([], a.0 ∙ sym (nothing e)) where
  nothing : (q : List ℕ) → q ++ [] ≡ q
  nothing [] = refl
  nothing (j ∷ q) = ap (λ (x : List ℕ). j ∷ x) (nothing q)
new-within passed e p i n c z h (inr b) =
    (i ∷ n ∷ b.0 ∷ b.2, b.3 ∙ ap (λ (x : List ℕ). x ++ b.0 ∷ b.2) h ∙ append_assoc e (i ∷ n ∷ []) (b.0 ∷ b.2))

-- a routine in its list, those inside it, and those behind
joined-unlike : (before passed : List (List ℕ)) (e p : List ℕ) (i n c : ℕ) (r : Routine) (bs ts : List Routine) → p ≡ e ++ i ∷ n ∷ [] → around r.place ≡ e →
    (r.is_first ≡ true → is_among before r.name ≡ false) → (r.is_first ≡ true → is_among passed r.name ≡ true) →
    ((m : List ℕ) → is_among passed m ≡ false → is_among before m ≡ false) →
    AllUnlike bs × Each (IsWithin (p ++ c ∷ [])) bs → AllUnlike ts × Each (IsNew passed e p (suc c)) ts →
    AllUnlike ((r ∷ bs) ++ ts) × Each (IsNew before e p c) ((r ∷ bs) ++ ts)
joined-unlike before passed e p i n c r bs ts h home new old keeps inner behind = (
  append-unlike (r ∷ bs) ts
      (each-map (IsWithin (p ++ c ∷ [])) (Unlike r) bs (λ y b. home-inside e p i n c r y h home b) inner.1, inner.0)
      behind.0
      (each-map (IsOld passed e p c) (λ x. Each (Unlike x) ts) (r ∷ bs)
      (λ x a. each-map (IsNew passed e p (suc c)) (Unlike x) ts (λ y b. old-new passed e p i n c x y h a b) behind.1)
      (inl (home, old), each-map (IsWithin (p ++ c ∷ [])) (IsOld passed e p c) bs (λ y b. inside-old passed e p c y b) inner.1)),
  each-append (IsNew before e p c) (r ∷ bs) ts
      (inl (home, new), each-map (IsWithin (p ++ c ∷ [])) (IsNew before e p c) bs (λ y b. inside-new before e p c y b) inner.1)
      (each-map (IsNew passed e p (suc c)) (IsNew before e p c) ts (λ y b. behind-new before passed e p c y keeps b) behind.1),
)

-- ---- one routine

first-parts : (later none among : Bool) → (not later && not none && not among) ≡ true → (later ≡ false) × (none ≡ false) × (among ≡ false)
first-parts true none among e = absurd (true≢false (sym e))
first-parts false true among e = absurd (true≢false (sym e))
first-parts false false true e = absurd (true≢false (sym e))
first-parts false false false e = (refl, refl, refl)

contra : (x y : List (List ℕ)) (n : List ℕ) → (is_among x n ≡ true → is_among y n ≡ true) → is_among y n ≡ false → is_among x n ≡ false
contra x y n h e = which (is_among x n) refl where
  which : (b : Bool) → is_among x n ≡ b → b ≡ false
  which true q = absurd (true≢false (sym (h q) ∙ e))
  which false q = refl

-- what stood before a routine stands before what is behind it
routine-keeps : (l : Local) (k : Kind) (a : Attributes) (n : List ℕ) → part_of k ≡ ARoutine → is_among (beside l k a).passed n ≡ false → is_among l.passed n ≡ false
routine-keeps l k a n part =
    contra l.passed (beside l k a).passed n (λ q. ap (λ (ns : List (List ℕ)). is_among ns n) (routine-passed l k a part) ∙ define_all-keeps l a.defines n q)

-- behind a hole in a list of routines the same names stand before
hole-passed : (l : Local) (k : Kind) (a : Attributes) → has class.Routine k ≡ true → part_of k ≡ NoRoutine → (beside l k a).passed ≡ l.passed
hole-passed l (kind.Hole s) a h p = refl
hole-passed l kind.Procedure a h p = absurd (not-none (sym p))
hole-passed l kind.Function a h p = absurd (not-none (sym p))
hole-passed l kind.Funbody a h p = absurd (not-none (sym p))
hole-passed l k a h p = absurd (true≢false (sym h))

-- the name of a routine that is the first of it stands before what is behind
first-passed : (m : List ℕ → Found) (l : Local) (fs : List Forwarded) (p : List ℕ) (key : Option (List (List ℕ))) (k : Kind) (v : List ℕ) (ns : List (List ℕ)) (ks : Forest) (hs : List Heading)
    (m' : List ℕ → Found) → part_of k ≡ ARoutine → l.ahead ≡ heading_of k ks ∷ hs → (routine_of m' l fs p key k ks).is_first ≡ true →
    is_among (beside l k (first (decorate (bare m) l (own (Cons k v ns ks Nil))))).passed (heading_here l).name ≡ true
first-passed m l fs p key k v ns ks hs m' part ahead e =
    let parts = first-parts (is_later_declaration l) (length (heading_here l).name == 0) (is_among l.passed (heading_here l).name) e in
    let same : (heading_here l).name ≡ first_name ks = ap (λ (h : List Heading). (head_or h).name) ahead in
    let a : Attributes = first (decorate (bare m) l (own (Cons k v ns ks Nil))) in
    ap (λ (n : List ℕ). is_among (beside l k a).passed n) same
    ∙ ap (λ (z : List (List ℕ)). is_among z (first_name ks)) (routine-passed l k a part)
    ∙ name-defined m l k v ns ks part parts.0 (ap (λ (n : List ℕ). length n == 0) (sym same) ∙ parts.1)

-- ---- all routines of a list, of a block, of a routine

mutual
  unfolding routines_in

  unlike-list : (m : List ℕ → Found) (l : Local) (fs : List Forwarded) (p : List ℕ) (key : Option (List (List ℕ))) (f : Forest) (e : List ℕ) (i c n : ℕ) →
      WellFormed f → takes_from kind.Routines n (kinds f) ≡ true → l.ahead ≡ headings_in f → p ≡ e ++ i ∷ c ∷ [] →
      AllUnlike (routines_in m l fs p key f) × Each (IsNew l.passed e p l.kid) (routines_in m l fs p key f)
  unlike-list m l fs p key Nil e i c n w t ahead h = (tt, tt)
  unlike-list m l fs p key (Cons k v ns ks ts) e i c n w t ahead h =
      let a : Attributes = first (decorate (bare m) l (own (Cons k v ns ks Nil))) in
      let after : Local = beside l k a in
      let m' : List ℕ → Found = find (bare m) after in
      let q : List ℕ = p ++ l.kid ∷ [] in
      let r : Routine = routine_of m' l fs q key k ks in
      let takes = and_parts (has class.Routine k) (takes_from kind.Routines (suc n) (kinds ts)) t in
      of-part (λ rs. AllUnlike rs × Each (IsNew l.passed e p l.kid) rs) (part_of k) _ _ _
      (λ part. joined-unlike l.passed after.passed e p i c l.kid r (routines_below r 1 ks) _ h (around-kid e p i c l.kid h)
      (λ g. (first-parts (is_later_declaration l) (length (heading_here l).name == 0) (is_among l.passed (heading_here l).name) g).2)
      (first-passed m l fs q key k v ns ks (headings_in ts) m' part ahead)
      (λ z. routine-keeps l k a z part)
      (unlike-below r 1 ks w.3)
      (unlike-list m after (forwarded_by l r fs) p key ts e i c (suc n) w.4 takes.1 (routine-ahead l k a part ∙ ap rest_of ahead) h))
      (λ part. absurd (no-list k takes.0 part))
      (λ part.
      let rest = unlike-list m after fs p key ts e i c (suc n) w.4 takes.1 (hole-ahead l k a takes.0 part ∙ ap rest_of ahead) h in (
        rest.0,
        each-map (IsNew after.passed e p (suc l.kid)) (IsNew l.passed e p l.kid) _
            (λ y b. behind-new l.passed after.passed e p l.kid y (λ z g. ap (λ (x : List (List ℕ)). is_among x z) (sym (hole-passed l k a takes.0 part)) ∙ g) b) rest.1,
      ))

  unlike-block : (m : List ℕ → Found) (l : Local) (fs : List Forwarded) (p : List ℕ) (key : Option (List (List ℕ))) (f : Forest) (e : List ℕ) (i : ℕ) →
      WellFormed f → NoRoutines f → p ≡ e ++ i ∷ [] → AllUnlike (routines_in m l fs p key f) × Each (IsWithin e) (routines_in m l fs p key f)
  unlike-block m l fs p key Nil e i w free h = (tt, tt)
  unlike-block m l fs p key (Cons k v ns ks ts) e i w free h =
      let a : Attributes = first (decorate (bare m) l (own (Cons k v ns ks Nil))) in
      of-part (λ rs. AllUnlike rs × Each (IsWithin e) rs) (part_of k) _ _ _
      (λ part. absurd (free.0 part))
      (λ part.
      let g : p ++ l.kid ∷ [] ≡ e ++ i ∷ l.kid ∷ [] = ap (λ (q : List ℕ). q ++ l.kid ∷ []) h ∙ append_assoc e (i ∷ []) (l.kid ∷ []) in
      let list = unlike-list m (inner l k ks) [] (p ++ l.kid ∷ []) key ks e i l.kid 0 w.3 (list-takes k v ks part w.0) (list-ahead l k ks part) g in
      (list.0, each-map (IsNew (inner l k ks).passed e (p ++ l.kid ∷ []) 1) (IsWithin e) _ (λ z b. new-within (inner l k ks).passed e (p ++ l.kid ∷ []) i l.kid 1 z g b) list.1))
      (λ part. unlike-block m (beside l k a) fs p key ts e i w.4 free.1 h)

  pub unlike-below : (r : Routine) (i : ℕ) (f : Forest) → WellFormed f → AllUnlike (routines_below r i f) × Each (IsWithin r.place) (routines_below r i f)
  unlike-below r i Nil w = (tt, tt)
  unlike-below r i (Cons kind.Block v ns ks ts) w = unlike-block r.means (start_of r) [] (r.place ++ i ∷ []) (key_of r.owner) ks r.place i w.3 (block-no-routines v ks w.0) refl
  unlike-below r i (Cons k v ns ks ts) w = unlike-below r (suc i) ts w.4

-- two that are the first of one name in one block are one
pub one-first : (rs : List Routine) (a b : Routine) → AllUnlike rs → IsOneOf rs a → IsOneOf rs b → a.is_first ≡ true → b.is_first ≡ true → around a.place ≡ around b.place →
    a.name ≡ b.name → a ≡ b
one-first [] a b h i j f g p n = absurd i
one-first (x ∷ xs) a b h (inl i) (inl j) f g p n = sym i ∙ j
one-first (x ∷ xs) a b h (inl i) (inr j) f g p n =
    absurd (each-one (Unlike x) xs b j h.0 (ap (λ (r : Routine). r.is_first) i ∙ f) g (ap (λ (r : Routine). around r.place) i ∙ p) (ap (λ (r : Routine). r.name) i ∙ n))
one-first (x ∷ xs) a b h (inr i) (inl j) f g p n =
    absurd (each-one (Unlike x) xs a i h.0 (ap (λ (r : Routine). r.is_first) j ∙ g) f (ap (λ (r : Routine). around r.place) j ∙ sym p) (ap (λ (r : Routine). r.name) j ∙ sym n))
one-first (x ∷ xs) a b h (inr i) (inr j) f g p n = one-first xs a b h.1 i j f g p n

pub routines-unlike : (t : Plain) → IsProper t → AllUnlike (routines_below (program_routine t) 1 t.kids)
routines-unlike t proper = (unlike-below (program_routine t) 1 t.kids proper.sound.3).0
