-- The innermost routine around a place of a routine's own block is that routine.
use Rattle.std.specs.Prelude.{ℕ, suc, ◌≡◌, Bool, true, false, ◌&&◌, ◌==◌, if◌then◌else◌, List, [], ◌∷◌, Option, Some, None, ◌++◌}
use Rattle.std.specs.Option.{option_and_then, option_or}
use Rattle.std.proofs.Common.{refl, ap, sym, subst, ◌∙◌, true≢false, inl, inr}
use Rattle.std.proofs.lemmas.Bool.{eqb-true, eq-eqb, false_from_ne_true}
use Rattle.pc_syntax.specs.declared.kind.Kind.{Kind}
use Rattle.pc_syntax.specs.declared.kind.Kind.TheVariants as kind
use Rattle.pc_syntax.specs.Layout.{layout}
use Rattle.pc_syntax.specs.Plain.{Forest, Nil, Cons, Plain, count, kinds}
use Rattle.pc_syntax.specs.WellFormed.{WellFormed, IsProper, fits_some}
use Rattle.pc_rules.specs.RoutineList.{Part, ARoutine, NoRoutine, part_of, routines_below, routines_of}
use Rattle.pc_rules.specs.Routines.{Routine}
use Rattle.pc_decl.specs.Annotated.{Annotation, annotated}
use Rattle.pc_decl.specs.Found.{found_on, found_below, leads_below, innermost, routine_around, found_in, attributes_at}
use Rattle.pc_decl.specs.Nodes.{way_from}
use Rattle.pc_needs.specs.Inside.{is_below, inside}
use Rattle.pc_needs.specs.Unaffected.{IsOneOf}
use Rattle.pc_needs.proofs.BodyPaths.{InRow, InBelow, IsUnder, stand-below, none-not}
use Rattle.pc_needs.proofs.BodyRows.{BlockRow, block-row}
use Rattle.pc_needs.proofs.BodyTwins.{front-part}
use Rattle.pc_needs.proofs.Lists.{Each, each-one}
use Rattle.pc_needs.proofs.PlaceLemmas.{number-same}
use Rattle.pc_program_laws.proofs.InsideLemmas.{inside-law}
use Rattle.pc_decl_laws.specs.OwnTypes.{IsAmong}
use Rattle.pc_decl_laws.proofs.TypeLemmas.{IsKnown, annotations-known, each-among}
use Rattle.pc_use_laws.specs.OwnPlaces.{AroundLaw, FoundLaw, OwnPlaceLaw}
use Rattle.pc_use_laws.proofs.OrderLemmas.{IsBehind, AllInOrder, annotations-order}
use Rattle.pc_use_laws.proofs.SeatLemmas.{IsSeated, annotations-seated}

-- ---- the routines of a block stand in its fourth kid

no-routine : (q : Part) → q ≡ NoRoutine → q ≡ ARoutine → ⊥
no-routine q e h = cc (e, h)

skip : (c : ℕ) (k : Kind) (w : List ℕ) (ns : List (List ℕ)) (ks ts : Forest) (j : ℕ) (js : List ℕ) (n : ℕ) → part_of k ≡ NoRoutine → InRow c (Cons k w ns ks ts) j js n → InRow (suc c) ts j js n
skip c k w ns ks ts j [] n e (inl h) = absurd (no-routine (part_of k) e h.0)
skip c k w ns ks ts j [] n e (inr h) = h.1
skip c k w ns ks ts j (a ∷ more) n e (inl h) = absurd (no-routine (part_of k) e h.0)
skip c k w ns ks ts j (a ∷ more) n e (inr (inl h)) = absurd (none-not (part_of k) e h.0)
skip c k w ns ks ts j (a ∷ more) n e (inr (inr h)) = h.1

in-list : (c : ℕ) (w : List ℕ) (ns : List (List ℕ)) (ks ts : Forest) (j : ℕ) (js : List ℕ) (n : ℕ) → InRow c (Cons kind.Routines w ns ks ts) j js n → c ≡ j
in-list c w ns ks ts j [] n (inl h) = absurd (cc (h.0))
in-list c w ns ks ts j [] n (inr h) = absurd (h.0 refl)
in-list c w ns ks ts j (a ∷ more) n (inl h) = h.1
in-list c w ns ks ts j (a ∷ more) n (inr (inl h)) = h.1
in-list c w ns ks ts j (a ∷ more) n (inr (inr h)) = absurd (h.0 refl)

fourth : (w : List ℕ) (f : Forest) (j : ℕ) (js : List ℕ) (n : ℕ) → fits_some (layout kind.Block w (count f)) (kinds f) ≡ true → WellFormed f → InRow 1 f j js n → 4 ≡ j
fourth w f j js n e well h =
    let r : BlockRow f = block-row w f e well in
    let five = Cons r.j r.v5 r.n5 r.k5 Nil in
    let four = Cons kind.Routines r.v4 r.n4 r.k4 five in
    let three = Cons r.c r.v3 r.n3 r.k3 four in
    let two = Cons r.b r.v2 r.n2 r.k2 three in
    let g : InRow 1 (Cons r.a r.v1 r.n1 r.k1 two) j js n = subst (λ (x : Forest). InRow 1 x j js n) r.is h in
    in-list 4 r.v4 r.n4 r.k4 five j js n
    (skip 3 r.c r.v3 r.n3 r.k3 four j js n (front-part r.c r.front_c)
    (skip 2 r.b r.v2 r.n2 r.k2 three j js n (front-part r.b r.front_b) (skip 1 r.a r.v1 r.n1 r.k1 two j js n (front-part r.a r.front_a) g)))

-- the path of a routine below another goes on by the fourth kid of its block
abbrev ByFourth : List ℕ → Type 0
ByFourth [] = ⊥
ByFourth (j ∷ js) = 4 ≡ j

by-fourth : (i : ℕ) (f : Forest) (a : ℕ) (more : List ℕ) (n : ℕ) → WellFormed f → InBelow i f a more n → ByFourth more
by-fourth i Nil a more n well h = absurd h
by-fourth i (Cons kind.Block w ns ks ts) a [] n well h = absurd h
by-fourth i (Cons kind.Block w ns ks ts) a (b ∷ more) n well h = fourth w ks b more n well.0 well.3 h.1
by-fourth i (Cons k w ns ks ts) a more n well h = by-fourth (suc i) ts a more n well.4 h

-- ---- which routines are around a place of the block

not-on : (p : List ℕ) (b j a : ℕ) (way more : List ℕ) → ByFourth more → (j ≡ 4 → ⊥) → leads_below (way_from (p ++ a ∷ more) (p ++ b ∷ j ∷ way)) ≡ true → ⊥
not-on [] b j a way [] h n e = h
not-on [] b j a way (c ∷ more) h n e = by (a == b) e where
  inner : (z : Bool) → (c == j) ≡ z → leads_below (if z then way_from more way else None) ≡ true → ⊥
  inner true f e = n (sym (eqb-true c j f) ∙ sym h)
  inner false f e = true≢false (sym e)

  by : (z : Bool) → leads_below (if z then way_from (c ∷ more) (j ∷ way) else None) ≡ true → ⊥
  by true e = inner (c == j) refl e
  by false e = true≢false (sym e)
not-on (x ∷ p) b j a way more h n e =
    not-on p b j a way more h n (sym (ap (λ (z : Bool). leads_below (if z then way_from (p ++ a ∷ more) (p ++ b ∷ j ∷ way) else None)) (number-same x)) ∙ e)

-- a place on the way to one below another, that isn't below it, is at or above it
above-or-at : (x r rest : List ℕ) → is_below r x ≡ false → leads_below (way_from x (r ++ rest)) ≡ true → way_from x r ≡ None → ⊥
above-or-at [] r rest n e none = cc none
above-or-at (i ∷ x) [] rest n e none = true≢false n
above-or-at (i ∷ x) (k ∷ r) rest n e none = by (above-or-at x r rest) (i == k) refl e none where
  by : (is_below r x ≡ false → leads_below (way_from x (r ++ rest)) ≡ true → way_from x r ≡ None → ⊥) → (z : Bool) → (i == k) ≡ z → leads_below (if z then way_from x (r ++ rest) else None) ≡ true →
      (if z then way_from x r else None) ≡ None → ⊥
  by next true f e none =
      let same : (k == i) ≡ true = eq-eqb k i (sym (eqb-true i k f)) in
      next (sym (ap (λ (z : Bool). z && is_below r x) same) ∙ n) e none
  by next false f e none = true≢false (sym e)

-- a routine around a place of the block of another is that or around it
module _ (t : Plain) (proper : IsProper t) (r : Annotation) (s : IsSeated t r.routine) (k : IsKnown t r) (j : ℕ) (way : List ℕ) (other : j ≡ 4 → ⊥) where
  abbrev q : List ℕ
  q = r.routine.place ++ r.routine.block_kid ∷ j ∷ way

  one-inside : (x : Routine) (xs : List Routine) → IsOneOf xs x → is_below r.routine.place x.place ≡ true → IsOneOf (inside r.routine xs) x
  one-inside x [] i e = absurd i
  one-inside x (y ∷ ys) i e = which (one-inside x ys) (is_below r.routine.place y.place) refl i where
    which : (IsOneOf ys x → is_below r.routine.place x.place ≡ true → IsOneOf (inside r.routine ys) x) → (z : Bool) → is_below r.routine.place y.place ≡ z → IsOneOf (y ∷ ys) x →
        IsOneOf (if z then y ∷ inside r.routine ys else inside r.routine ys) x
    which rest true f (inl same) = inl same
    which rest true f (inr h) = inr (rest h e)
    which rest false f (inl same) = absurd (true≢false (sym e ∙ ap (λ (u : Routine). is_below r.routine.place u.place) (sym same) ∙ f))
    which rest false f (inr h) = rest h e

  not-inside : (x : Routine) → IsOneOf (routines_of t) x → is_below r.routine.place x.place ≡ true → leads_below (way_from x.place q) ≡ true → ⊥
  not-inside x i below e =
      let l : inside r.routine (routines_of t) ≡ routines_below r.routine 1 s.node.kids = inside-law.below t s.node r.routine k.among s.here in
      let u : IsUnder r.routine.place 1 s.node.kids x =
      each-one (IsUnder r.routine.place 1 s.node.kids) (routines_below r.routine 1 s.node.kids) x (subst (λ (xs : List Routine). IsOneOf xs x) l (one-inside x (routines_of t) i below)) (stand-below r.routine 1 s.node.kids) in
      not-on r.routine.place r.routine.block_kid j u.0 way u.1 (by-fourth 1 s.node.kids u.0 u.1 x.block_kid s.well u.3) other
      (sym (ap (λ (p : List ℕ). leads_below (way_from p q)) u.2) ∙ e)

  around-or-not : (x : Annotation) → IsKnown t x → IsBehind r.routine x.routine → leads_below (way_from x.routine.place q) ≡ false
  around-or-not x h behind =
      false_from_ne_true (leads_below (way_from x.routine.place q)) (λ e. which (is_below r.routine.place x.routine.place) refl e) where
        which : (z : Bool) → is_below r.routine.place x.routine.place ≡ z → leads_below (way_from x.routine.place q) ≡ true → ⊥
        which true f e = not-inside x.routine h.among f e
        which false f e = above-or-at x.routine.place r.routine.place (r.routine.block_kid ∷ j ∷ way) f e behind

  none-behind : (xs : List Annotation) → Each (IsKnown t) xs → Each (λ (y : Annotation). IsBehind r.routine y.routine) xs → innermost xs q ≡ None
  none-behind [] h b = refl
  none-behind (x ∷ xs) h b = λ i. option_or (none-behind xs h.1 b.1 i) (if around-or-not x h.0 b.0 i then Some x else None)

way-on : (p rest : List ℕ) → way_from p (p ++ rest) ≡ Some rest
way-on [] rest = refl
way-on (i ∷ p) rest = ap (λ (z : Bool). if z then way_from p (p ++ rest) else None) (number-same i) ∙ way-on p rest

innermost-is : (t : Plain) (r : Annotation) (j : ℕ) (way : List ℕ) (xs : List Annotation) → IsProper t → IsSeated t r.routine → IsKnown t r → (j ≡ 4 → ⊥) →
    IsAmong xs r → Each (IsKnown t) xs → AllInOrder xs → innermost xs (r.routine.place ++ r.routine.block_kid ∷ j ∷ way) ≡ Some r
innermost-is t r j way [] proper s k other a h o = absurd a
innermost-is t r j way (x ∷ xs) proper s k other (inl same) h o =
    let q : List ℕ = r.routine.place ++ r.routine.block_kid ∷ j ∷ way in
    let behind : Each (λ (y : Annotation). IsBehind r.routine y.routine) xs = subst (λ (z : Annotation). Each (λ (y : Annotation). IsBehind z.routine y.routine) xs) same o.0 in
    (λ i. option_or (none-behind t proper r s k j way other xs h.1 behind i) (if leads_below (way_from (same i).routine.place q) then Some (same i) else None))
    ∙ ap (λ (w : Option (List ℕ)). if leads_below w then Some r else None) (way-on r.routine.place (r.routine.block_kid ∷ j ∷ way))
innermost-is t r j way (x ∷ xs) proper s k other (inr a) h o =
    let q : List ℕ = r.routine.place ++ r.routine.block_kid ∷ j ∷ way in
    ap (λ (w : Option Annotation). option_or w (if leads_below (way_from x.routine.place q) then Some x else None)) (innermost-is t r j way xs proper s k other a h.1 o.1)

pub around-law : AroundLaw
unfolding routine_around
around-law t r j way proper a other =
    let all = (annotated t).routines in
    innermost-is t r j way all proper (each-among (λ (x : Annotation). IsSeated t x.routine) all r a (annotations-seated t proper)) (each-among (IsKnown t) all r a (annotations-known t proper))
    other a (annotations-known t proper) (annotations-order t)

pub found-law : FoundLaw
unfolding attributes_at
found-law t r j way proper a other =
    let q : List ℕ = r.routine.place ++ r.routine.block_kid ∷ j ∷ way in
    ap (λ (o : Option Annotation). option_and_then (found_in q) o) (around-law t r j way proper a other)
    ∙ ap (λ (o : Option (List ℕ)). option_and_then (found_below r) o) (way-on r.routine.place (r.routine.block_kid ∷ j ∷ way))
    ∙ ap (λ (z : Bool). if z then found_on (j ∷ way) r.block else found_on (r.routine.block_kid ∷ j ∷ way) r.heading) (number-same r.routine.block_kid)

pub own-place-law : OwnPlaceLaw
own-place-law = record { around = around-law; found = found-law }
