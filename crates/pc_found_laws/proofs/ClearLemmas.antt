-- No routine that comes behind another in the list is around what stands in the statement part of that.
use Rattle.std.specs.Prelude.{ℕ, suc, ◌≡◌, ◌<◌, Bool, true, false, ◌==◌, if◌then◌else◌, List, [], ◌∷◌, ◌++◌, Option, Some, None}
use Rattle.std.proofs.Common.{refl, ap, sym, subst, ◌∙◌, true≢false, arith, append_assoc, append-nil}
use Rattle.std.proofs.lemmas.Bool.{and_parts, eqb-true, ne_eqb}
use Rattle.pc_syntax.specs.declared.kind.Kind.TheVariants as kind
use Rattle.pc_syntax.specs.Plain.{Forest, Nil, Cons, Plain}
use Rattle.pc_syntax.specs.Layout.{layout}
use Rattle.pc_syntax.specs.Plain.{count, kinds}
use Rattle.pc_syntax.specs.WellFormed.{WellFormed, IsProper, fits_some}
use Rattle.pc_syntax.specs.declared.kind.Kind.{Kind}
use Rattle.pc_scope.specs.Blocks.{block_kids, kid_count, routines_among}
use Rattle.pc_decl.specs.Found.{leads_below}
use Rattle.pc_decl.specs.Nodes.{way_from}
use Rattle.pc_rules.specs.Attributes.{Attributes, first}
use Rattle.pc_rules.specs.Decorated.{decorate}
use Rattle.pc_rules.specs.Errors.{is_program}
use Rattle.pc_rules.specs.Meanings.{Found, Local, find}
use Rattle.pc_rules.specs.OwnBlock.{own}
use Rattle.pc_rules.specs.Places.{inner, beside}
use Rattle.pc_rules.specs.RoutineList.{Forwarded, routine_of, key_of, forwarded_by, part_of, routines_in, routines_below, program_routine, routines_of}
use Rattle.pc_rules.specs.Routines.{Routine, bare, start_of}
use Rattle.pc_needs.specs.Inside.{is_below}
use Rattle.pc_needs.proofs.BodyPaths.{IsAt, stand-in, row-least}
use Rattle.pc_needs.proofs.Lists.{Each, each-append, each-map}
use Rattle.pc_needs.proofs.PlaceLemmas.{of-part, number-same, StandsBelow, places-in, places-below}
use Rattle.pc_program_laws.specs.Routines.{has_heading, routines_start}
use Rattle.pc_program_laws.proofs.RoutineLemmas.{routines-law}
use Rattle.pc_found_laws.proofs.NodeLemmas.{part-headed, program-headed}

-- ---- ways between places

-- on from a place
pub way-on : (p q : List ℕ) → way_from p (p ++ q) ≡ Some q
way-on [] q = refl
way-on (i ∷ p) q = ap (λ (b : Bool). if b then way_from p (p ++ q) else None) (number-same i) ∙ way-on p q

-- a place below the fourth kid of a kid isn't above one below the fifth
other-part : (p : List ℕ) (n m : ℕ) (z way : List ℕ) → is_below (p ++ n ∷ 4 ∷ []) z ≡ true → leads_below (way_from z (p ++ m ∷ 5 ∷ way)) ≡ false
other-part [] n m [] way e = absurd (true≢false (sym e))
other-part [] n m (a ∷ []) way e = absurd (true≢false (sym (and_parts (n == a) false e).1))
other-part [] n m (a ∷ b ∷ z) way e =
    let both = and_parts (n == a) _ e in
    let four : 4 ≡ b = eqb-true 4 b (and_parts (4 == b) (is_below [] z) both.1).0 in
    let no : (b == 5) ≡ false = ap (λ (i : ℕ). i == 5) (sym four) in
    ap (λ (c : Bool). leads_below (if a == m then (if c then way_from z way else None) else None)) no ∙ none (a == m) where
      none : (c : Bool) → leads_below (if c then (if false then way_from z way else None) else None) ≡ false
      none true = refl
      none false = refl
other-part (i ∷ p) n m [] way e = absurd (true≢false (sym e))
other-part (i ∷ p) n m (j ∷ z) way e =
    let both = and_parts (i == j) (is_below (p ++ n ∷ 4 ∷ []) z) e in
    deeper (j == i) (other-part p n m z way both.1) where
      deeper : (c : Bool) → leads_below (way_from z (p ++ m ∷ 5 ∷ way)) ≡ false → leads_below (if c then way_from z (p ++ m ∷ 5 ∷ way) else None) ≡ false
      deeper true h = h
      deeper false h = refl

-- a place at or below a later kid isn't above one at or below an earlier kid
later-kid : (p : List ℕ) (c j : ℕ) (js tail : List ℕ) → c < j → leads_below (way_from (p ++ j ∷ js) (p ++ c ∷ tail)) ≡ false
later-kid [] c j js tail h = ap (λ (b : Bool). leads_below (if b then way_from js tail else None)) (ne_eqb j c (λ e. absurd (omega (arith, e, h))))
later-kid (i ∷ p) c j js tail h = ap (λ (b : Bool). leads_below (if b then way_from (p ++ j ∷ js) (p ++ c ∷ tail) else None)) (number-same i) ∙ later-kid p c j js tail h

-- what is below a place goes on from it
below-on : (p q : List ℕ) → is_below p q ≡ true → (rest : List ℕ) × (q ≡ p ++ rest)
below-on [] q e = (q, refl)
below-on (i ∷ p) [] e = absurd (true≢false (sym e))
below-on (i ∷ p) (j ∷ q) e =
    let both = and_parts (i == j) (is_below p q) e in
    let more = below-on p q both.1 in
    let same : j ≡ i = sym (eqb-true i j both.0) in
    (more.0, λ z. same z ∷ more.1 z)

-- ---- routines in a list

-- the second isn't around what stands in the statement part of the first
abbrev pub Clears : Routine → Routine → Type 0
Clears x y = (way : List ℕ) → leads_below (way_from y.place (x.place ++ x.block_kid ∷ 5 ∷ way)) ≡ false

-- so of each and all behind it
abbrev pub AllClear : List Routine → Type 0
AllClear [] = Unit {0}
AllClear (x ∷ xs) = Each (Clears x) xs × AllClear xs

clear-append : (xs ys : List Routine) → AllClear xs → AllClear ys → Each (λ x. Each (Clears x) ys) xs → AllClear (xs ++ ys)
clear-append [] ys h g a = g
clear-append (x ∷ xs) ys h g a = (each-append (Clears x) xs ys h.0 a.0, clear-append xs ys h.1 g a.1)

-- those inside a routine stand in its list of routines
inside-clear : (r : Routine) (k : Kind) (w : List ℕ) (ks : Forest) → has_heading k ≡ true → fits_some (layout k w (count ks)) (kinds ks) ≡ true → WellFormed ks → Each (Clears r) (routines_below r 1 ks)
inside-clear r k w ks headed fits well =
    subst (Each (Clears r)) (sym (routines-law.inside r k w ks headed fits well))
    (each-map (StandsBelow (r.place ++ kid_count ks ∷ 4 ∷ [])) (Clears r) _ (λ y b way. other-part r.place (kid_count ks) r.block_kid y.place way b)
    (places-in r.means (routines_start r.means (start_of r) (block_kids ks)) [] (r.place ++ kid_count ks ∷ 4 ∷ []) (key_of r.owner) (routines_among (block_kids ks))))

-- those behind a kid don't stand around what is at or below it
behind-clear : (p rest : List ℕ) (c : ℕ) (f : Forest) (x y : Routine) → x.place ≡ (p ++ c ∷ []) ++ rest → IsAt p (suc c) f y → Clears x y
behind-clear p rest c f x y e h way =
    let least = row-least (suc c) f h.0 h.1 y.block_kid h.3 in
    let tail : List ℕ = rest ++ x.block_kid ∷ 5 ∷ way in
    let from : x.place ++ x.block_kid ∷ 5 ∷ way ≡ p ++ c ∷ tail =
    ap (λ (q : List ℕ). q ++ x.block_kid ∷ 5 ∷ way) e ∙ append_assoc (p ++ c ∷ []) rest (x.block_kid ∷ 5 ∷ way) ∙ append_assoc p (c ∷ []) tail in
    (λ i. leads_below (way_from (h.2 i) (from i))) ∙ later-kid p c h.0 h.1 tail (omega (arith, least))

mutual
  unfolding routines_in

  clear-in : (m : List ℕ → Found) (l : Local) (fs : List Forwarded) (p : List ℕ) (key : Option (List (List ℕ))) (f : Forest) → WellFormed f → AllClear (routines_in m l fs p key f)
  clear-in m l fs p key Nil well = tt
  clear-in m l fs p key (Cons k w ns ks ts) well =
      let a : Attributes = first (decorate (bare m) l (own (Cons k w ns ks Nil))) in
      let after : Local = beside l k a in
      let r : Routine = routine_of (find (bare m) after) l fs (p ++ l.kid ∷ []) key k ks in
      let later : List Routine = routines_in m after (forwarded_by l r fs) p key ts in
      let all = stand-in m after (forwarded_by l r fs) p key ts in
      let behind = λ (x : Routine) (rest : List ℕ) (e : x.place ≡ (p ++ l.kid ∷ []) ++ rest). each-map (IsAt p (suc l.kid) ts) (Clears x) later (λ y h. behind-clear p rest l.kid ts x y e h) all in
      of-part AllClear (part_of k) _ _ _
      (λ e. clear-append (r ∷ routines_below r 1 ks) later (inside-clear r k w ks (part-headed k e) well.0 well.3, clear-below r 1 ks well.3) (clear-in m after (forwarded_by l r fs) p key ts well.4) (
        behind r [] (sym (append-nil (p ++ l.kid ∷ []))),
        each-map (StandsBelow (p ++ l.kid ∷ [])) (λ x. Each (Clears x) later) (routines_below r 1 ks) (λ x b. let on = below-on (p ++ l.kid ∷ []) x.place b in behind x on.0 on.1) (places-below r 1 ks),
      ))
      (λ e. clear-in m (inner l k ks) [] (p ++ l.kid ∷ []) key ks well.3)
      (λ e. clear-in m after fs p key ts well.4)

  clear-below : (r : Routine) (i : ℕ) (f : Forest) → WellFormed f → AllClear (routines_below r i f)
  clear-below r i Nil well = tt
  clear-below r i (Cons kind.Block w ns ks ts) well = clear-in r.means (start_of r) [] (r.place ++ i ∷ []) (key_of r.owner) ks well.3
  clear-below r i (Cons k w ns ks ts) well = clear-below r (suc i) ts well.4

pub routines-clear : (t : Plain) → IsProper t → is_program t.kind ≡ true → AllClear (routines_of t)
unfolding routines_of
routines-clear t proper e = (
  inside-clear (program_routine t) t.kind t.word t.kids (program-headed t.kind e) proper.sound.0 proper.sound.3,
  clear-below (program_routine t) 1 t.kids proper.sound.3,
)
