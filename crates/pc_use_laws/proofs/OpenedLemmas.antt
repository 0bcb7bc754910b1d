-- Which accesses are open at a node, from those that are open at the node above.
use Rattle.std.specs.Prelude.{ℕ, zero, suc, ◌≡◌, true, false, List, [], ◌∷◌, ◌++◌, Option, Some, None, slice_get}
use Rattle.std.specs.Option.{option_and_then, option_map_or}
use Rattle.std.proofs.Common.{refl, ap, sym, subst, ◌∙◌, true≢false, append_assoc}
use Rattle.std.proofs.lemmas.Bool.{and_parts}
use Rattle.pc_syntax.specs.declared.kind.Kind.{Kind}
use Rattle.pc_syntax.specs.declared.kind.Kind.TheVariants as kind
use Rattle.pc_syntax.specs.declared.class.Class.TheVariants as class
use Rattle.pc_syntax.specs.Classes.{has, is_accesses}
use Rattle.pc_syntax.specs.Layout.{layout}
use Rattle.pc_syntax.specs.Parts.{kid_at}
use Rattle.pc_syntax.specs.Places.{at}
use Rattle.pc_syntax.specs.Plain.{Forest, Nil, Cons, Plain, count, kinds, trees_of, kids_of}
use Rattle.pc_syntax.specs.WellFormed.{WellFormed, IsWellFormed, IsProper, fits_some}
use Rattle.pc_decl.specs.Uses.{opened_by, opened_on, opened_at}
use Rattle.pc_use_laws.specs.OpenedSteps.{opens_nothing, KidLaw, StatementLaw, AccessesLaw, AccessLaw}

-- ---- the kids of a `with`

-- its accesses and a statement
abbrev pub WithKids : Forest → Type 0
WithKids (Cons k w ns ks (Cons j v ms js Nil)) = is_accesses k ≡ true
WithKids f = ⊥

pub with-kids : (w : List ℕ) (f : Forest) → fits_some (layout kind.With w (count f)) (kinds f) ≡ true → WithKids f
with-kids (b ∷ w) f e = absurd (true≢false (sym e))
with-kids [] Nil e = true≢false (sym e)
with-kids [] (Cons k w ns ks Nil) e = true≢false (sym (and_parts (is_accesses k) false e).1)
with-kids [] (Cons k w ns ks (Cons j v ms js Nil)) e = (and_parts (is_accesses k) _ e).0
with-kids [] (Cons k w ns ks (Cons j v ms js (Cons i u os is ts))) e =
    true≢false (sym (and_parts (has class.Statement j) false (and_parts (is_accesses k) _ e).1).1)

second-kid : (f : Forest) → WithKids f → (i : ℕ) (x : Plain) → slice_get (trees_of f) i ≡ Some x → is_accesses x.kind ≡ false → i ≡ 1
second-kid (Cons k w ns ks (Cons j v ms js Nil)) h zero x e n =
    let same : k ≡ x.kind = cc e in
    absurd (true≢false (sym h ∙ ap is_accesses same ∙ n))
second-kid (Cons k w ns ks (Cons j v ms js Nil)) h (suc zero) x e n = refl
second-kid (Cons k w ns ks (Cons j v ms js Nil)) h (suc (suc i)) x e n = cc e
second-kid f h i x e n = absurd h

first-kid : (f : Forest) → WithKids f → (x : Plain) → slice_get (trees_of f) 0 ≡ Some x → is_accesses x.kind ≡ true
first-kid (Cons k w ns ks (Cons j v ms js Nil)) h x e =
    let same : k ≡ x.kind = cc e in
    sym (ap is_accesses same) ∙ h
first-kid f h x e = absurd h

pub kid-well : (f : Forest) (i : ℕ) (x : Plain) → WellFormed f → slice_get (trees_of f) i ≡ Some x → IsWellFormed x
kid-well Nil i x well e = cc e
kid-well (Cons k w ns ks ts) zero x well e =
    let same : (record { kind = k; word = w; notes = ns; kids = ks }) ≡ x = cc e in
    subst IsWellFormed same (well.0, well.1, well.2, well.3, tt)
kid-well (Cons k w ns ks ts) (suc i) x well e = kid-well ts i x well.4 e

at-well : (t x : Plain) (p : List ℕ) → IsWellFormed t → at p t ≡ Some x → IsWellFormed x
unfolding kids_of
at-well t x [] well e =
    let same : t ≡ x = cc e in
    subst IsWellFormed same well
at-well t x (zero ∷ p) well e = cc e
at-well t x (suc i ∷ p) well e = by (λ y f g. at-well y x p (kid-well t.kids i y well.3 f) g) (slice_get (trees_of t.kids) i) refl e where
  by : ((y : Plain) → slice_get (trees_of t.kids) i ≡ Some y → at p y ≡ Some x → IsWellFormed x) → (o : Option Plain) → slice_get (trees_of t.kids) i ≡ o → option_and_then (at p) o ≡ Some x → IsWellFormed x
  by next None f g = cc g
  by next (Some y) f g = next y f g

-- ---- what is open below a node

one-more : (k : Kind) (ks : Forest) (p : List ℕ) (i j : ℕ) (way wax : List ℕ) → opened_by k ks p (i ∷ j ∷ way) ≡ opened_by k ks p (i ∷ j ∷ wax)
one-more kind.With ks p i j way wax = refl
one-more _ ks p i j way wax = refl

-- at the statement of a `with` and below it the same are open
at-second : (k : Kind) (ks : Forest) (p : List ℕ) (i j : ℕ) (way : List ℕ) → (k ≡ kind.With → i ≡ 2) → opened_by k ks p (i ∷ j ∷ way) ≡ opened_by k ks p (i ∷ [])
at-second kind.With ks p i j way h = ap (λ (n : ℕ). opened_by kind.With ks p (n ∷ j ∷ way)) (h refl) ∙ ap (λ (n : ℕ). opened_by kind.With ks p (n ∷ [])) (sym (h refl))
at-second _ ks p i j way h = refl

with-number : (t x : Plain) (i : ℕ) → IsWellFormed t → kid_at t i ≡ Some x → is_accesses x.kind ≡ false → t.kind ≡ kind.With → i ≡ 2
unfolding kids_of
with-number t x zero well e n w = cc e
with-number t x (suc i) well e n w =
    ap suc (second-kid t.kids (with-kids t.word t.kids (subst (λ (k : Kind). fits_some (layout k t.word (count t.kids)) (kinds t.kids) ≡ true) w well.0)) i x e n)

no-more : (p : List ℕ) → p ++ [] ≡ p
no-more [] = refl
no-more (i ∷ p) = ap (λ (q : List ℕ). i ∷ q) (no-more p)

kid-well-at : (t y : Plain) (i : ℕ) → IsWellFormed t → kid_at t i ≡ Some y → IsWellFormed y
unfolding kids_of
kid-well-at t y zero well e = cc e
kid-well-at t y (suc i) well e = kid-well t.kids i y well.3 e

-- what is open this way below the node to which a path leads
opened-below : (t x : Plain) (b : List ℕ) (o : List (List ℕ)) (p : List ℕ) (i : ℕ) (way : List ℕ) → IsWellFormed t → at p t ≡ Some x → is_accesses x.kind ≡ false →
    opened_on b o (p ++ i ∷ way) t ≡ opened_on (b ++ p) (opened_on b o p t) (i ∷ way) x
opened-below t x b o [] i way well e n =
    let same : t ≡ x = cc e in
    (λ z. opened_on (sym (no-more b) z) o (i ∷ way) (same z))
opened-below t x b o (j ∷ []) i way well e n = by (kid_at t j) refl e where
  by : (k : Option Plain) → kid_at t j ≡ k → option_and_then (λ (y : Plain). Some y) k ≡ Some x →
      option_map_or (opened_on (b ++ j ∷ []) (opened_by t.kind t.kids b (j ∷ i ∷ way) ++ o) (i ∷ way)) k (opened_by t.kind t.kids b (j ∷ i ∷ way) ++ o)
      ≡ opened_on (b ++ j ∷ []) (option_map_or (opened_on (b ++ j ∷ []) (opened_by t.kind t.kids b (j ∷ []) ++ o) []) k (opened_by t.kind t.kids b (j ∷ []) ++ o)) (i ∷ way) x
  by None f g = cc g
  by (Some y) f g =
      let same : y ≡ x = cc g in
      (λ z. opened_on (b ++ j ∷ []) (at-second t.kind t.kids b j i way (with-number t x j well (f ∙ g) n) z ++ o) (i ∷ way) (same z))
opened-below t x b o (j ∷ m ∷ p) i way well e n = by (λ y f g. opened-below y x (b ++ j ∷ []) (opened_by t.kind t.kids b (j ∷ m ∷ p) ++ o) (m ∷ p) i way (kid-well-at t y j well f) g n) (kid_at t j) refl e where
  by : ((y : Plain) → kid_at t j ≡ Some y → at (m ∷ p) y ≡ Some x →
      opened_on (b ++ j ∷ []) (opened_by t.kind t.kids b (j ∷ m ∷ p) ++ o) (m ∷ p ++ i ∷ way) y
      ≡ opened_on ((b ++ j ∷ []) ++ m ∷ p) (opened_on (b ++ j ∷ []) (opened_by t.kind t.kids b (j ∷ m ∷ p) ++ o) (m ∷ p) y) (i ∷ way) x) →
      (k : Option Plain) → kid_at t j ≡ k → option_and_then (at (m ∷ p)) k ≡ Some x →
      option_map_or (opened_on (b ++ j ∷ []) (opened_by t.kind t.kids b (j ∷ m ∷ p ++ i ∷ way) ++ o) (m ∷ p ++ i ∷ way)) k (opened_by t.kind t.kids b (j ∷ m ∷ p ++ i ∷ way) ++ o)
      ≡ opened_on (b ++ j ∷ m ∷ p)
      (option_map_or (opened_on (b ++ j ∷ []) (opened_by t.kind t.kids b (j ∷ m ∷ p) ++ o) (m ∷ p)) k (opened_by t.kind t.kids b (j ∷ m ∷ p) ++ o)) (i ∷ way) x
  by next None f g = cc g
  by next (Some y) f g =
      (λ z. opened_on (b ++ j ∷ []) (one-more t.kind t.kids b j m (p ++ i ∷ way) p z ++ o) (m ∷ p ++ i ∷ way) y)
      ∙ next y f g
      ∙ (λ z. opened_on (append_assoc b (j ∷ []) (m ∷ p) z) (opened_on (b ++ j ∷ []) (opened_by t.kind t.kids b (j ∷ m ∷ p) ++ o) (m ∷ p) y) (i ∷ way) x)

pub at-below : (t x : Plain) (p : List ℕ) (i : ℕ) (way : List ℕ) → IsProper t → at p t ≡ Some x → is_accesses x.kind ≡ false →
    opened_at t (p ++ i ∷ way) ≡ opened_on p (opened_at t p) (i ∷ way) x
unfolding opened_at
at-below t x p i way proper e n = opened-below t x [] [] p i way proper.sound e n

-- ---- one step

pub nothing-accesses : (k : Kind) → opens_nothing k ≡ true → is_accesses k ≡ false
nothing-accesses kind.Accesses e = absurd (true≢false (sym e))
nothing-accesses _ e = refl

pub nothing-opened : (k : Kind) (ks : Forest) (p way : List ℕ) → opens_nothing k ≡ true → opened_by k ks p way ≡ []
nothing-opened kind.With ks p way e = absurd (true≢false (sym e))
nothing-opened _ ks p way e = refl

either-kid : (q : List ℕ) (o : List (List ℕ)) (k : Option Plain) → option_map_or (opened_on q o []) k o ≡ o
either-kid q o None = refl
either-kid q o (Some y) = refl

-- a way of one step
one-step : (p : List ℕ) (o : List (List ℕ)) (i : ℕ) (x : Plain) → opened_on p o (i ∷ []) x ≡ opened_by x.kind x.kids p (i ∷ []) ++ o
one-step p o i x = either-kid (p ++ i ∷ []) (opened_by x.kind x.kids p (i ∷ []) ++ o) (kid_at x i)

pub kid-law : KidLaw
kid-law t x p i proper e n =
    at-below t x p i [] proper e (nothing-accesses x.kind n)
    ∙ one-step p (opened_at t p) i x
    ∙ ap (λ (q : List (List ℕ)). q ++ opened_at t p) (nothing-opened x.kind x.kids p (i ∷ []) n)

with-no-list : (k : Kind) → k ≡ kind.With → is_accesses k ≡ false
with-no-list k e = ap is_accesses e

pub statement-law : StatementLaw
statement-law t x p proper e w =
    at-below t x p 2 [] proper e (with-no-list x.kind w)
    ∙ one-step p (opened_at t p) 2 x
    ∙ ap (λ (k : Kind). opened_by k x.kids p (2 ∷ []) ++ opened_at t p) w

pub accesses-law : AccessesLaw
accesses-law t x p proper e w =
    at-below t x p 1 [] proper e (with-no-list x.kind w)
    ∙ one-step p (opened_at t p) 1 x
    ∙ ap (λ (k : Kind). opened_by k x.kids p (1 ∷ []) ++ opened_at t p) w

list-opens : (k : Kind) (ks : Forest) (p way : List ℕ) → is_accesses k ≡ true → opened_by k ks p way ≡ []
list-opens kind.Accesses ks p way e = refl
list-opens _ ks p way e = absurd (true≢false (sym e))

pub access-law : AccessLaw
unfolding kids_of
access-law t x p j proper e w =
    at-below t x p 1 (j ∷ []) proper e (with-no-list x.kind w)
    ∙ below (kid_at x 1) refl
    ∙ ap (λ (k : Kind). opened_by k x.kids p (1 ∷ j ∷ []) ++ opened_at t p) w where
      o : List (List ℕ)
      o = opened_by x.kind x.kids p (1 ∷ j ∷ []) ++ opened_at t p

      kids : WithKids x.kids
      kids = with-kids x.word x.kids (subst (λ (k : Kind). fits_some (layout k x.word (count x.kids)) (kinds x.kids) ≡ true) w (at-well t x p proper.sound e).0)

      below : (k : Option Plain) → kid_at x 1 ≡ k → option_map_or (opened_on (p ++ 1 ∷ []) o (j ∷ [])) k o ≡ o
      below None f = refl
      below (Some y) f =
          one-step (p ++ 1 ∷ []) o j y
          ∙ ap (λ (q : List (List ℕ)). q ++ o) (list-opens y.kind y.kids (p ++ 1 ∷ []) (j ∷ []) (first-kid x.kids kids y f))
