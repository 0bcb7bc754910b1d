-- All routines of a well-formed program: a key names one, but for a forward heading and its later declaration.
use Rattle.std.specs.Prelude.{ℕ, suc, ◌≡◌, Bool, true, false, List, [], ◌∷◌, Option, Some, ◌++◌, ◌⊎◌}
use Rattle.std.proofs.Common.{refl, ap, sym, subst, ◌∙◌, true≢false, inl, inr}
use Rattle.std.proofs.lemmas.Bool.{and_parts}
use Rattle.pc_syntax.specs.declared.kind.Kind.{Kind}
use Rattle.pc_syntax.specs.declared.kind.Kind.TheVariants as kind
use Rattle.pc_syntax.specs.declared.class.Class.{Class}
use Rattle.pc_syntax.specs.declared.class.Class.TheVariants as class
use Rattle.pc_syntax.specs.declared.item.Item.TheVariants.{Kid}
use Rattle.pc_syntax.specs.Classes.{has}
use Rattle.pc_syntax.specs.Fits.{takes_count, takes_from, word_fits}
use Rattle.pc_syntax.specs.FitsLayoutLaws.{layout-forest}
use Rattle.pc_syntax.specs.Layout.{layout}
use Rattle.pc_syntax.specs.Plain.{Forest, Nil, Cons, Plain, count, kinds}
use Rattle.pc_syntax.specs.WellFormed.{WellFormed, fits, fits_some, IsProper}
use Rattle.pc_syntax.specs.Words.{is_among}
use Rattle.pc_types.specs.Shapes.{Owner, Keyed}
use Rattle.pc_scope.specs.Headings.{ends_forward, headings_in}
use Rattle.pc_rules.specs.Attributes.{Attributes, first}
use Rattle.pc_rules.specs.Declarations.{heading_here, rest_of}
use Rattle.pc_rules.specs.Decorated.{decorate}
use Rattle.pc_rules.specs.Errors.{is_program}
use Rattle.pc_rules.specs.Meanings.{Found, Local, find}
use Rattle.pc_rules.specs.OwnBlock.{own}
use Rattle.pc_rules.specs.Places.{inner, beside}
use Rattle.pc_rules.specs.RoutineList.{Forwarded, routine_of, key_of, forwarded_by, Part, ARoutine, AllRoutines, NoRoutine, part_of, routines_in, routines_below, program_routine, routines_of}
use Rattle.pc_rules.specs.Routines.{Routine, bare, start_of}
use Rattle.pc_needs.specs.Answers.{has_block}
use Rattle.pc_needs.specs.Keys.{KeysLaw}
use Rattle.pc_needs.specs.Unaffected.{IsOneOf}
use Rattle.pc_needs.proofs.KeyLemmas.{Key, key_or, ExtendsHeading, forwarded-waits}
use Rattle.pc_needs.proofs.Lists.{Each, each-append, each-map, each-both, each-one}
use Rattle.pc_needs.proofs.Owners.{inner-owner, beside-owner}
use Rattle.pc_needs.proofs.ParameterLemmas.{not-none, not-all}
use Rattle.pc_needs.proofs.PlaceLemmas.{of-part, block-heading, below-block}
use Rattle.pc_needs.proofs.UniqueLemmas.{NotBoth, forward-heading, behind-not-both, last-not-both, routine-not-both, key-longer, Differ, AllDiffer, append-differ, StandsUnder, IsFresh, HasName, IsPassed, differ-behind, passed-by, before-then, apart-then, own-name, own-fresh, inside-name, inside-fresh, inside-differ, behind-fresh}
use Rattle.pc_needs.proofs.WaitingLemmas.{name-defined, routine-ahead, Waits, WaitApart}

-- ---- nodes of a list of routines, and of a block

is-none : Part → Bool
is-none NoRoutine = true
is-none _ = false

none-all : NoRoutine ≡ AllRoutines → ⊥
unfolding is-none
none-all e = true≢false (ap is-none e)

-- an element of such a list that is no routine is a hole
pub hole-ahead : (l : Local) (k : Kind) (a : Attributes) → has class.Routine k ≡ true → part_of k ≡ NoRoutine → (beside l k a).ahead ≡ rest_of l.ahead
hole-ahead l (kind.Hole s) a h p = refl
hole-ahead l kind.Procedure a h p = absurd (not-none (sym p))
hole-ahead l kind.Function a h p = absurd (not-none (sym p))
hole-ahead l kind.Funbody a h p = absurd (not-none (sym p))
hole-ahead l k a h p = absurd (true≢false (sym h))

hole-passed : (l : Local) (k : Kind) (a : Attributes) → has class.Routine k ≡ true → part_of k ≡ NoRoutine → (beside l k a).passed ≡ l.passed
hole-passed l (kind.Hole s) a h p = refl
hole-passed l kind.Procedure a h p = absurd (not-none (sym p))
hole-passed l kind.Function a h p = absurd (not-none (sym p))
hole-passed l kind.Funbody a h p = absurd (not-none (sym p))
hole-passed l k a h p = absurd (true≢false (sym h))

-- and it is no list
pub no-list : (k : Kind) → has class.Routine k ≡ true → part_of k ≡ AllRoutines → ⊥
no-list kind.Routines h p = true≢false (sym h)
no-list kind.Procedure h p = not-all (sym p)
no-list kind.Function h p = not-all (sym p)
no-list kind.Funbody h p = not-all (sym p)
no-list k h p = none-all p

-- the elements of a list of routines
pub list-takes : (k : Kind) (w : List ℕ) (f : Forest) → part_of k ≡ AllRoutines → fits_some (layout k w (count f)) (kinds f) ≡ true → takes_from kind.Routines 0 (kinds f) ≡ true
list-takes kind.Routines w f p e =
    let fit = and_parts (word_fits kind.Routines w) _ (sym (layout-forest kind.Routines w f) ∙ e) in
    (and_parts (takes_count kind.Routines (count f)) _ fit.1).1
list-takes kind.Procedure w f p e = absurd (not-all (sym p))
list-takes kind.Function w f p e = absurd (not-all (sym p))
list-takes kind.Funbody w f p e = absurd (not-all (sym p))
list-takes k w f p e = absurd (none-all p)

pub list-ahead : (l : Local) (k : Kind) (f : Forest) → part_of k ≡ AllRoutines → (inner l k f).ahead ≡ headings_in f
list-ahead l kind.Routines f p = refl
list-ahead l kind.Procedure f p = absurd (not-all (sym p))
list-ahead l kind.Function f p = absurd (not-all (sym p))
list-ahead l kind.Funbody f p = absurd (not-all (sym p))
list-ahead l k f p = absurd (none-all p)

-- no node of a block is a routine itself
abbrev pub NoRoutines : Forest → Type 0
NoRoutines Nil = Unit {0}
NoRoutines (Cons k w ns ks ts) = (part_of k ≡ ARoutine → ⊥) × NoRoutines ts

not-routine : (c : Class) (k : Kind) → has c kind.Procedure ≡ false → has c kind.Function ≡ false → has c kind.Funbody ≡ false → has c k ≡ true → part_of k ≡ ARoutine → ⊥
not-routine c kind.Procedure p f b h e = true≢false (sym h ∙ p)
not-routine c kind.Function p f b h e = true≢false (sym h ∙ f)
not-routine c kind.Funbody p f b h e = true≢false (sym h ∙ b)
not-routine c kind.Routines p f b h e = not-all e
not-routine c k p f b h e = not-none e

pub block-no-routines : (w : List ℕ) (f : Forest) → fits_some (layout kind.Block w (count f)) (kinds f) ≡ true → NoRoutines f
block-no-routines (b ∷ w) f e = absurd (true≢false (sym e))
block-no-routines [] Nil e = tt
block-no-routines [] (Cons a v1 n1 k1 Nil) e = (not-routine class.Consts a refl refl refl (and_parts (has class.Consts a) _ e).0, tt)
block-no-routines [] (Cons a v1 n1 k1 (Cons b v2 n2 k2 Nil)) e =
    let x = and_parts (has class.Consts a) _ e in
    (not-routine class.Consts a refl refl refl x.0, (not-routine class.Types b refl refl refl (and_parts (has class.Types b) _ x.1).0, tt))
block-no-routines [] (Cons a v1 n1 k1 (Cons b v2 n2 k2 (Cons c v3 n3 k3 Nil))) e =
    let x = and_parts (has class.Consts a) _ e in
    let y = and_parts (has class.Types b) _ x.1 in
    (not-routine class.Consts a refl refl refl x.0, (not-routine class.Types b refl refl refl y.0, (not-routine class.Vars c refl refl refl (and_parts (has class.Vars c) _ y.1).0, tt)))
block-no-routines [] (Cons a v1 n1 k1 (Cons b v2 n2 k2 (Cons c v3 n3 k3 (Cons d v4 n4 k4 Nil)))) e =
    let x = and_parts (has class.Consts a) _ e in
    let y = and_parts (has class.Types b) _ x.1 in
    let z = and_parts (has class.Vars c) _ y.1 in (
      not-routine class.Consts a refl refl refl x.0,
      (
        not-routine class.Types b refl refl refl y.0,
        (
          not-routine class.Vars c refl refl refl z.0,
          (not-routine class.Routines d refl refl refl (and_parts (has class.Routines d) _ z.1).0, tt),
        ),
      ),
    )
block-no-routines [] (Cons a v1 n1 k1 (Cons b v2 n2 k2 (Cons c v3 n3 k3 (Cons d v4 n4 k4 (Cons j v5 n5 k5 ts))))) e =
    let x = and_parts (has class.Consts a) _ e in
    let y = and_parts (has class.Types b) _ x.1 in
    let z = and_parts (has class.Vars c) _ y.1 in
    let u = and_parts (has class.Routines d) _ z.1 in
    let v = and_parts (has class.Body j) _ u.1 in (
      not-routine class.Consts a refl refl refl x.0,
      (
        not-routine class.Types b refl refl refl y.0,
        (
          not-routine class.Vars c refl refl refl z.0,
          (not-routine class.Routines d refl refl refl u.0, (not-routine class.Body j refl refl refl v.0, none ts v.1)),
        ),
      ),
    ) where
      none : (f : Forest) → fits [] (kinds f) ≡ true → NoRoutines f
      none Nil e = tt
      none (Cons k w ns ks ts) e = absurd (true≢false (sym e))

-- ---- all routines of a list, of a block, of a routine

-- a routine, those inside it, and those behind it
joined-differ : (key : Option Key) (l : Local) (fs : List Forwarded) (after : Local) (gs : List Forwarded) (n : List ℕ) (ks : Forest) (r : Routine) (bs ts : List Routine) →
    IsPassed after gs n ks r → HasName key n ks r r → Each (HasName key n ks r) bs → Each (Differ r) bs → IsFresh l fs key r → Each (IsFresh l fs key) bs → AllDiffer bs →
    ((y : Routine) → IsFresh after gs key y → IsFresh l fs key y) → AllDiffer ts → Each (IsFresh after gs key) ts →
    AllDiffer ((r ∷ bs) ++ ts) × Each (IsFresh l fs key) ((r ∷ bs) ++ ts)
joined-differ key l fs after gs n ks r bs ts passed own names apart fresh fresh-in differ-in lift differ-behind-it fresh-behind = (
  append-differ (r ∷ bs) ts (apart, differ-in) differ-behind-it
      (each-map (HasName key n ks r) (λ x. Each (Differ x) ts) (r ∷ bs)
      (λ x h. each-map (IsFresh after gs key) (Differ x) ts (λ y g. differ-behind key n ks r x y after gs passed h g) fresh-behind) (own, names)),
  each-append (IsFresh l fs key) (r ∷ bs) ts (fresh, fresh-in) (each-map (IsFresh after gs key) (IsFresh l fs key) ts lift fresh-behind),
)

under-fresh : (l : Local) (fs : List Forwarded) (key : Option Key) (x : Routine) → IsFresh l fs key x → StandsUnder key x
under-fresh l fs key x h k e = let y = h k e in (y.0, y.1, y.2, y.3, y.4)

-- freshness says only which names stand before
fresh-same : (l m : Local) (fs : List Forwarded) (key : Option Key) (x : Routine) → l.passed ≡ m.passed → IsFresh l fs key x → IsFresh m fs key x
fresh-same l m fs key x e h k q =
    let y = h k q in
    (y.0, y.1, y.2, y.3, y.4, subst (λ (ns : List (List ℕ)). (is_among ns y.1 ≡ false) ⊎ (Waits fs y.1 × (y.2 ≡ [] → ends_forward x.heading ≡ false))) e y.5)

mutual
  unfolding routines_in

  pub differ-list : (m : List ℕ → Found) (l : Local) (fs : List Forwarded) (p : List ℕ) (key : Option Key) (f : Forest) (i : ℕ) →
      WellFormed f → takes_from kind.Routines i (kinds f) ≡ true → l.ahead ≡ headings_in f → key ≡ key_of l.owner → Each (ExtendsHeading key) fs →
      ((n : List ℕ) → Waits fs n → is_among l.passed n ≡ true) → WaitApart fs →
      AllDiffer (routines_in m l fs p key f) × Each (IsFresh l fs key) (routines_in m l fs p key f)
  differ-list m l fs p key Nil i c t ahead e w before apart = (tt, tt)
  differ-list m l fs p key (Cons k v ns ks ts) i c t ahead e w before apart =
      let a : Attributes = first (decorate (bare m) l (own (Cons k v ns ks Nil))) in
      let after : Local = beside l k a in
      let m' : List ℕ → Found = find (bare m) after in
      let r : Routine = routine_of m' l fs (p ++ l.kid ∷ []) key k ks in
      let q : List ℕ = p ++ l.kid ∷ [] in
      let takes = and_parts (has class.Routine k) (takes_from kind.Routines (suc i) (kinds ts)) t in
      let e' : key ≡ key_of after.owner = e ∙ ap key_of (sym (beside-owner l k a)) in
      of-part (λ rs. AllDiffer rs × Each (IsFresh l fs key) rs) (part_of k) _ _ _
      (λ part.
      let never = routine-not-both k v ks part c.0 in
      let defined = name-defined m l k v ns ks part in
      let below = differ-below r 1 ks c.3 in
      let behind = differ-list m after (forwarded_by l r fs) p key ts (suc i) c.4 takes.1 (routine-ahead l k a part ∙ ap rest_of ahead) e' (forwarded-waits m' l fs q key k ks e w)
      (before-then m' l fs q key k ks (headings_in ts) a part ahead e w before apart never defined)
      (apart-then m' l fs q key k ks (headings_in ts) a part ahead e w before apart never defined) in
      joined-differ key l fs after (forwarded_by l r fs) (heading_here l).name ks r (routines_below r 1 ks) (routines_in m after (forwarded_by l r fs) p key ts)
      (passed-by m' l fs q key k ks (headings_in ts) a part ahead e w before apart never defined)
      (own-name m' l fs q key k ks (headings_in ts) a part ahead e w before apart never defined)
      (each-map (λ b. (has_block ks ≡ true) × StandsUnder (key_of r.owner) b) (HasName key (heading_here l).name ks r) (routines_below r 1 ks)
      (λ b h. inside-name m' l fs q key k ks (headings_in ts) a part ahead e w before apart never defined b h.0 h.1)
      (each-both (λ b. has_block ks ≡ true) (StandsUnder (key_of r.owner)) (routines_below r 1 ks) (below-block r 1 ks) below.1))
      (each-map (StandsUnder (key_of r.owner)) (Differ r) (routines_below r 1 ks) (inside-differ m' l fs q key k ks (headings_in ts) a part ahead e w before apart never defined) below.1)
      (own-fresh m' l fs q key k ks (headings_in ts) a part ahead e w before apart never defined)
      (each-map (StandsUnder (key_of r.owner)) (IsFresh l fs key) (routines_below r 1 ks) (inside-fresh m' l fs q key k ks (headings_in ts) a part ahead e w before apart never defined) below.1)
      below.0 (behind-fresh m' l fs q key k ks (headings_in ts) a part ahead e w before apart never defined) behind.0 behind.1)
      (λ part. absurd (no-list k takes.0 part))
      (λ part.
      let same : after.passed ≡ l.passed = hole-passed l k a takes.0 part in
      let rest = differ-list m after fs p key ts (suc i) c.4 takes.1 (hole-ahead l k a takes.0 part ∙ ap rest_of ahead) e' w
      (λ n x. ap (λ (ns : List (List ℕ)). is_among ns n) same ∙ before n x) apart in
      (rest.0, each-map (IsFresh after fs key) (IsFresh l fs key) (routines_in m after fs p key ts) (λ y h. fresh-same after l fs key y same h) rest.1))

  pub differ-block : (m : List ℕ → Found) (l : Local) (fs : List Forwarded) (p : List ℕ) (key : Option Key) (f : Forest) →
      WellFormed f → NoRoutines f → key ≡ key_of l.owner → AllDiffer (routines_in m l fs p key f) × Each (StandsUnder key) (routines_in m l fs p key f)
  differ-block m l fs p key Nil c h e = (tt, tt)
  differ-block m l fs p key (Cons k v ns ks ts) c h e =
      let a : Attributes = first (decorate (bare m) l (own (Cons k v ns ks Nil))) in
      let after : Local = beside l k a in
      of-part (λ rs. AllDiffer rs × Each (StandsUnder key) rs) (part_of k) _ _ _
      (λ part. absurd (h.0 part))
      (λ part.
      let list = differ-list m (inner l k ks) [] (p ++ l.kid ∷ []) key ks 0 c.3 (list-takes k v ks part c.0) (list-ahead l k ks part)
      (e ∙ ap key_of (sym (inner-owner l k ks))) tt (λ n x. absurd x) tt in
      (list.0, each-map (IsFresh (inner l k ks) [] key) (StandsUnder key) (routines_in m (inner l k ks) [] (p ++ l.kid ∷ []) key ks) (under-fresh (inner l k ks) [] key) list.1))
      (λ part. differ-block m after fs p key ts c.4 h.1 (e ∙ ap key_of (sym (beside-owner l k a))))

  pub differ-below : (r : Routine) (i : ℕ) (f : Forest) → WellFormed f → AllDiffer (routines_below r i f) × Each (StandsUnder (key_of r.owner)) (routines_below r i f)
  differ-below r i Nil c = (tt, tt)
  differ-below r i (Cons kind.Block v ns ks ts) c = differ-block r.means (start_of r) [] (r.place ++ i ∷ []) (key_of r.owner) ks c.3 (block-no-routines v ks c.0) refl
  differ-below r i (Cons k v ns ks ts) c = differ-below r (suc i) ts c.4

-- ---- headings

-- no heading of a routine stands before both a block and the word `forward`
abbrev pub IsOneHeading : Routine → Type 0
IsOneHeading r = NotBoth r.heading

mutual
  unfolding routines_in

  pub headings-in : (m : List ℕ → Found) (l : Local) (fs : List Forwarded) (p : List ℕ) (key : Option Key) (f : Forest) → WellFormed f → Each IsOneHeading (routines_in m l fs p key f)
  headings-in m l fs p key Nil c = tt
  headings-in m l fs p key (Cons k v ns ks ts) c =
      let a : Attributes = first (decorate (bare m) l (own (Cons k v ns ks Nil))) in
      let after : Local = beside l k a in
      let r : Routine = routine_of (find (bare m) after) l fs (p ++ l.kid ∷ []) key k ks in
      of-part (Each IsOneHeading) (part_of k) _ _ _
      (λ part. each-append IsOneHeading (r ∷ routines_below r 1 ks) _
      ((λ b g. routine-not-both k v ks part c.0 (sym (block-heading ks) ∙ b) (sym (forward-heading ks) ∙ g)), headings-below r 1 ks c.3)
      (headings-in m after (forwarded_by l r fs) p key ts c.4))
      (λ part. headings-in m (inner l k ks) [] (p ++ l.kid ∷ []) key ks c.3)
      (λ part. headings-in m after fs p key ts c.4)

  pub headings-below : (r : Routine) (i : ℕ) (f : Forest) → WellFormed f → Each IsOneHeading (routines_below r i f)
  headings-below r i Nil c = tt
  headings-below r i (Cons kind.Block v ns ks ts) c = headings-in r.means (start_of r) [] (r.place ++ i ∷ []) (key_of r.owner) ks c.3
  headings-below r i (Cons k v ns ks ts) c = headings-below r (suc i) ts c.4

program-not-both : (k : Kind) (w : List ℕ) (f : Forest) → is_program k ≡ true → fits_some (layout k w (count f)) (kinds f) ≡ true → NotBoth f
program-not-both kind.Program [] f p e =
    behind-not-both class.Name (Kid class.Heads ∷ Kid class.Block ∷ []) f refl refl (λ g. behind-not-both class.Heads (Kid class.Block ∷ []) g refl refl last-not-both) e
program-not-both kind.Program (b ∷ w) f p e = absurd (true≢false (sym e))
program-not-both k w f p e = absurd (true≢false (sym p))

pub one-heading : (t : Plain) → IsProper t → is_program t.kind ≡ true → Each IsOneHeading (routines_of t)
unfolding routines_of
one-heading t proper p = (
  (λ b g. program-not-both t.kind t.word t.kids p proper.sound.0 (sym (block-heading t.kids) ∙ b) (sym (forward-heading t.kids) ∙ g)),
  headings-below (program_routine t) 1 t.kids proper.sound.3,
)

-- ---- a program

pub routines-differ : (t : Plain) → IsProper t → AllDiffer (routines_of t)
unfolding routines_of
routines-differ t proper =
    let below = differ-below (program_routine t) 1 t.kids proper.sound.3 in (
      each-map (StandsUnder (Some [])) (Differ (program_routine t)) (routines_below (program_routine t) 1 t.kids)
          (λ x h k p q same. let y = h k q in
          let i : y.0 ≡ k = ap (key_or y.0) (sym y.3) ∙ ap (λ (o : Owner). key_or k (key_of o)) p in
          key-longer y.0 y.1 y.2 (i ∙ y.4)) below.1,
      below.0,
    )

-- two routines of one key that are both forward headings, or both not, are one
pub one-of-key : (rs : List Routine) (a b : Routine) (k : Key) → AllDiffer rs → IsOneOf rs a → IsOneOf rs b → a.owner ≡ Keyed k → b.owner ≡ Keyed k →
    ends_forward a.heading ≡ ends_forward b.heading → a ≡ b
one-of-key [] a b k h i j p q e = absurd i
one-of-key (x ∷ xs) a b k h (inl i) (inl j) p q e = sym i ∙ j
one-of-key (x ∷ xs) a b k h (inl i) (inr j) p q e =
    absurd (each-one (Differ x) xs b j h.0 k (ap (λ (r : Routine). r.owner) i ∙ p) q (ap (λ (r : Routine). ends_forward r.heading) i ∙ e))
one-of-key (x ∷ xs) a b k h (inr i) (inl j) p q e =
    absurd (each-one (Differ x) xs a i h.0 k (ap (λ (r : Routine). r.owner) j ∙ q) p (ap (λ (r : Routine). ends_forward r.heading) j ∙ sym e))
one-of-key (x ∷ xs) a b k h (inr i) (inr j) p q e = one-of-key xs a b k h.1 i j p q e

pub keys-law : KeysLaw
keys-law t a b key proper i j p q e = one-of-key (routines_of t) a b key (routines-differ t proper) i j p q e
