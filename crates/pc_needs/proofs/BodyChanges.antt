-- Another node in a statement part changes nothing but the own block of one routine.
use Rattle.std.specs.Prelude.{ℕ, suc, ◌≡◌, ◌⊎◌, ◌+◌, ◌≤◌, true, false, ◌==◌, if◌then◌else◌, List, [], ◌∷◌, ◌++◌}
use Rattle.std.proofs.Common.{refl, ap, sym, subst, subst₂, ◌∙◌, inl, inr, arith, append_assoc}
use Rattle.std.proofs.lemmas.Bool.{or_right, eq-eqb, ne_eqb}
use Rattle.pc_syntax.specs.declared.kind.Kind.{Kind}
use Rattle.pc_syntax.specs.declared.kind.Kind.TheVariants as kind
use Rattle.pc_syntax.specs.Layout.{layout}
use Rattle.pc_syntax.specs.Plain.{Forest, Nil, Cons, Plain, count, kinds}
use Rattle.pc_syntax.specs.WellFormed.{WellFormed, fits_some}
use Rattle.pc_scope.specs.Blocks.{block_kids, kid_count}
use Rattle.pc_scope.specs.Headings.{is_routine_kind}
use Rattle.pc_rules.specs.OwnBlock.{own, bare_heading}
use Rattle.pc_rules.specs.RoutineList.{ARoutine, AllRoutines, NoRoutine, part_of}
use Rattle.pc_needs.specs.Bodies.{without_bodies}
use Rattle.pc_needs.proofs.BodyKinds.{Passes}
use Rattle.pc_needs.proofs.HeadingKinds.{is_the_block, is_of_heading, heading-row, is_front, is_element, list-row, routine-has-heading, routine-part}
use Rattle.pc_needs.proofs.BodyRows.{without-routine, by-block, block-next, bare-without, by-element, own-routine, own-other, BlockRow, block-row}
use Rattle.pc_needs.proofs.BodyTwins.{front-part}
use Rattle.pc_needs.proofs.BodyPaths.{none-not, blocks_in, blocks_below, blocks-routine, blocks-none, blocks-next, InRow, InBelow, below-further, row-least, below-least}
use Rattle.pc_needs.proofs.Changed.{changed, changed-behind, changed-within}
use Rattle.pc_needs.proofs.ParameterLemmas.{not-all}
use Rattle.pc_needs.proofs.UniqueLemmas.{routine-kind}
use Rattle.pc_needs.proofs.BodyParts.{SameBut, same-itself, same-append, block-last, front-frame, list-frame, heading-frame, block-frame, head-change}

-- ---- all levels

-- a row of a block, or a list of routines
abbrev pub RowOK : Forest → Type 0
RowOK Nil = Unit {0}
RowOK (Cons k w ns ks ts) = ((is_element k ≡ true) × RowOK ts) ⊎ (k ≡ kind.Routines)

list-ok : (f : Forest) → Passes is_element f → RowOK f
list-ok Nil p = tt
list-ok (Cons k w ns ks ts) p = inl (p.0, list-ok ts p.1)

block-ok : (f : Forest) → BlockRow f → RowOK f
block-ok f r =
    let element = λ (k : Kind) (e : is_front k ≡ true). or_right (is_routine_kind k) (is_front k) e in
    subst RowOK (sym r.is) (inl (element r.a r.front_a, inl (element r.b r.front_b, inl (element r.c r.front_c, inr refl))))

-- two rows that are the same but for the own block of the routine at a place
pub record OneRow (z : List ℕ) (c : ℕ) (p : List ℕ) (f g : Forest) : Type 0 where
  pub frame : without_bodies f ≡ without_bodies g
  pub own_same : own f ≡ own g
  pub blocks : SameBut z (blocks_in c p f) (blocks_in c p g)

own-behind : (k : Kind) (w : List ℕ) (ns : List (List ℕ)) (ks ts us : Forest) → own ts ≡ own us → own (Cons k w ns ks ts) ≡ own (Cons k w ns ks us)
unfolding own
own-behind k w ns ks ts us e = ap (Cons k w ns (if is_routine_kind k then bare_heading ks else own ks)) e

-- what stands behind a node
behind-one : (z : List ℕ) (c : ℕ) (p : List ℕ) (k : Kind) (w : List ℕ) (ns : List (List ℕ)) (ks ts us : Forest) → is_element k ≡ true → OneRow z (suc c) p ts us →
    OneRow z c p (Cons k w ns ks ts) (Cons k w ns ks us)
behind-one z c p k w ns ks ts us e o =
    by-element (OneRow z c p (Cons k w ns ks ts) (Cons k w ns ks us)) k e
    (λ r.
    let head = (p ++ c ∷ [], own (block_kids ks)) ∷ blocks_below (p ++ c ∷ []) 1 ks in
    record {
      frame = without-routine k w ns ks ts r ∙ ap (Cons k w ns (without_bodies ks)) o.frame ∙ sym (without-routine k w ns ks us r);
      own_same = own-behind k w ns ks ts us o.own_same;
      blocks = subst₂ (SameBut z) (sym (blocks-routine c p k w ns ks ts (routine-part k r))) (sym (blocks-routine c p k w ns ks us (routine-part k r)))
          (same-append z head head _ _ (same-itself z head) o.blocks);
    })
    (λ r f. record {
      frame = front-frame k w ns ks ts us f o.frame;
      own_same = own-behind k w ns ks ts us o.own_same;
      blocks = subst₂ (SameBut z) (sym (blocks-none c p k w ns ks ts (front-part k f))) (sym (blocks-none c p k w ns ks us (front-part k f))) o.blocks;
    })

-- a routine
routine-one : (z : List ℕ) (c : ℕ) (p : List ℕ) (k : Kind) (w : List ℕ) (ns : List (List ℕ)) (ks js ts : Forest) → is_routine_kind k ≡ true → Passes is_of_heading ks → Passes is_of_heading js →
    without_bodies ks ≡ without_bodies js → ((p ++ c ∷ [] ≡ z) ⊎ (own (block_kids ks) ≡ own (block_kids js))) →
    SameBut z (blocks_below (p ++ c ∷ []) 1 ks) (blocks_below (p ++ c ∷ []) 1 js) → OneRow z c p (Cons k w ns ks ts) (Cons k w ns js ts)
routine-one z c p k w ns ks js ts r h g e b s = record {
  frame = without-routine k w ns ks ts r ∙ ap (λ (x : Forest). Cons k w ns x (without_bodies ts)) e ∙ sym (without-routine k w ns js ts r);
  own_same = own-routine k w ns ks ts r ∙ ap (λ (x : Forest). Cons k w ns x (own ts)) (sym (bare-without ks h) ∙ ap bare_heading e ∙ bare-without js g) ∙ sym (own-routine k w ns js ts r);
  blocks = subst₂ (SameBut z) (sym (blocks-routine c p k w ns ks ts (routine-part k r))) (sym (blocks-routine c p k w ns js ts (routine-part k r)))
      (same-append z ((p ++ c ∷ [], own (block_kids ks)) ∷ blocks_below (p ++ c ∷ []) 1 ks) ((p ++ c ∷ [], own (block_kids js)) ∷ blocks_below (p ++ c ∷ []) 1 js) _ _ (b, s) (same-itself z (blocks_in (suc c) p ts)));
}

-- the routines of a block
list-one : (z : List ℕ) (c : ℕ) (p : List ℕ) (w : List ℕ) (ns : List (List ℕ)) (ks js ts : Forest) → OneRow z 1 (p ++ c ∷ []) ks js → OneRow z c p (Cons kind.Routines w ns ks ts) (Cons kind.Routines w ns js ts)
list-one z c p w ns ks js ts o = record {
  frame = list-frame w ns ks js ts ts o.frame refl;
  own_same = own-other kind.Routines w ns ks ts refl ∙ ap (λ (x : Forest). Cons kind.Routines w ns x (own ts)) o.own_same ∙ sym (own-other kind.Routines w ns js ts refl);
  blocks = o.blocks;
}

-- the kids of a routine that are the same but for the own block of a routine inside
pub record OneBelow (z q : List ℕ) (i : ℕ) (f g : Forest) : Type 0 where
  pub frame : without_bodies f ≡ without_bodies g
  pub own_same : own (block_kids f) ≡ own (block_kids g)
  pub blocks : SameBut z (blocks_below q i f) (blocks_below q i g)

next-one : (z q : List ℕ) (i : ℕ) (k : Kind) (w : List ℕ) (ns : List (List ℕ)) (ks ts us : Forest) → is_of_heading k ≡ true → is_the_block k ≡ false → OneBelow z q (suc i) ts us →
    OneBelow z q i (Cons k w ns ks ts) (Cons k w ns ks us)
next-one z q i k w ns ks ts us h n o = record {
  frame = heading-frame k w ns ks ts us h n o.frame;
  own_same = ap own (block-next k w ns ks ts n) ∙ o.own_same ∙ ap own (sym (block-next k w ns ks us n));
  blocks = subst₂ (SameBut z) (sym (blocks-next q i k w ns ks ts n)) (sym (blocks-next q i k w ns ks us n)) o.blocks;
}

routine-not-list : (k : Kind) → part_of k ≡ ARoutine → k ≡ kind.Routines → ⊥
routine-not-list k e h = not-all (ap part_of (sym h) ∙ e)

element-routine : (k : Kind) (w : List ℕ) (ns : List (List ℕ)) (ks ts : Forest) → part_of k ≡ ARoutine → is_routine_kind k ≡ true
element-routine k w ns ks ts e = routine-kind k e

-- a path to the node itself goes into it, and one behind it goes on
here-number : (c j : ℕ) → c ≡ j → (c == j) ≡ true
here-number c j e = eq-eqb c j e

behind-number : (c j : ℕ) → suc c ≤ j → (c == j) ≡ false
behind-number c j l = ne_eqb c j (λ x. absurd (omega (arith, l, x)))

behind-element : (k : Kind) (P : Type 0) → (part_of k ≡ AllRoutines → ⊥) → (is_element k ≡ true) × P ⊎ (k ≡ kind.Routines) → (is_element k ≡ true) × P
behind-element k P other (inl h) = h
behind-element k P other (inr e) = absurd (other (ap part_of e))

all-list : (k : Kind) → part_of k ≡ AllRoutines → k ≡ kind.Routines
all-list kind.Routines e = refl
all-list kind.Procedure e = absurd (not-all (sym e))
all-list kind.Function e = absurd (not-all (sym e))
all-list kind.Funbody e = absurd (not-all (sym e))
all-list _ e = absurd (none-not NoRoutine refl e)

mutual
  pub row-change : (c : ℕ) (p : List ℕ) (f : Forest) (j : ℕ) (js : List ℕ) (n : ℕ) (rest : List ℕ) (y : Plain) → RowOK f → WellFormed f → WellFormed (changed c j (js ++ n ∷ 5 ∷ rest) y f) →
      InRow c f j js n → OneRow (p ++ j ∷ js) c p f (changed c j (js ++ n ∷ 5 ∷ rest) y f)
  row-change c p Nil j js n rest y ok u v h = absurd h
  row-change c p (Cons k w ns ks ts) j [] n rest y ok u v (inl h) =
      let r = routine-kind k h.0 in
      let new = changed 1 n (5 ∷ rest) y ks in
      let g : changed c j (n ∷ 5 ∷ rest) y (Cons k w ns ks ts) ≡ Cons k w ns new ts = changed-within c j n (5 ∷ rest) y k w ns ks ts (here-number c j h.1) in
      let v' = subst WellFormed g v in
      let head = heading-row k w ks (routine-has-heading k r) u.0 in
      let count : n + 1 ≡ 1 + kid_count ks = let e = h.2 in omega (arith, e) in
      let one = head-change (p ++ c ∷ []) 1 n rest y ks count head (block-last k w ks (routine-has-heading k r) u.0) u.3 v'.3 in
      subst (λ (x : Forest). OneRow (p ++ j ∷ []) c p (Cons k w ns ks ts) x) (sym g)
      (routine-one (p ++ j ∷ []) c p k w ns ks new ts r head (heading-row k w new (routine-has-heading k r) v'.0) one.0 (inl (ap (λ (m : ℕ). p ++ m ∷ []) h.1))
      (subst (SameBut (p ++ j ∷ []) (blocks_below (p ++ c ∷ []) 1 ks)) one.1 (same-itself (p ++ j ∷ []) (blocks_below (p ++ c ∷ []) 1 ks))))
  row-change c p (Cons k w ns ks ts) j [] n rest y ok u v (inr h) =
      let g : changed c j (n ∷ 5 ∷ rest) y (Cons k w ns ks ts) ≡ Cons k w ns ks (changed (suc c) j (n ∷ 5 ∷ rest) y ts) =
      changed-behind c j (n ∷ 5 ∷ rest) y k w ns ks ts (behind-number c j (row-least (suc c) ts j [] n h.1)) in
      let o = behind-element k (RowOK ts) h.0 ok in
      subst (λ (x : Forest). OneRow (p ++ j ∷ []) c p (Cons k w ns ks ts) x) (sym g)
      (behind-one (p ++ j ∷ []) c p k w ns ks ts (changed (suc c) j (n ∷ 5 ∷ rest) y ts) o.0 (row-change (suc c) p ts j [] n rest y o.1 u.4 (subst WellFormed g v).4 h.1))
  row-change c p (Cons k w ns ks ts) j (a ∷ more) n rest y ok u v (inl h) =
      let r = routine-kind k h.0 in
      let path = more ++ n ∷ 5 ∷ rest in
      let new = changed 1 a path y ks in
      let g : changed c j (a ∷ path) y (Cons k w ns ks ts) ≡ Cons k w ns new ts = changed-within c j a path y k w ns ks ts (here-number c j h.1) in
      let v' = subst WellFormed g v in
      let head = heading-row k w ks (routine-has-heading k r) u.0 in
      let deep : (p ++ c ∷ []) ++ a ∷ more ≡ p ++ j ∷ a ∷ more = append_assoc p (c ∷ []) (a ∷ more) ∙ ap (λ (m : ℕ). p ++ m ∷ a ∷ more) h.1 in
      let one = below-change (p ++ c ∷ []) 1 ks a more n rest y head u.3 v'.3 h.2 in
      subst (λ (x : Forest). OneRow (p ++ j ∷ a ∷ more) c p (Cons k w ns ks ts) x) (sym g)
      (routine-one (p ++ j ∷ a ∷ more) c p k w ns ks new ts r head (heading-row k w new (routine-has-heading k r) v'.0) one.frame (inr one.own_same)
      (subst (λ (z : List ℕ). SameBut z (blocks_below (p ++ c ∷ []) 1 ks) (blocks_below (p ++ c ∷ []) 1 new)) deep one.blocks))
  row-change c p (Cons k w ns ks ts) j (a ∷ more) n rest y ok u v (inr (inl h)) =
      let path = more ++ n ∷ 5 ∷ rest in
      let new = changed 1 a path y ks in
      let g : changed c j (a ∷ path) y (Cons k w ns ks ts) ≡ Cons k w ns new ts = changed-within c j a path y k w ns ks ts (here-number c j h.1) in
      let v' = subst WellFormed g v in
      let is : k ≡ kind.Routines = all-list k h.0 in
      let row = list-ok ks (list-row w ks (subst (λ (i : Kind). fits_some (layout i w (count ks)) (kinds ks) ≡ true) is u.0)) in
      let deep : (p ++ c ∷ []) ++ a ∷ more ≡ p ++ j ∷ a ∷ more = append_assoc p (c ∷ []) (a ∷ more) ∙ ap (λ (m : ℕ). p ++ m ∷ a ∷ more) h.1 in
      let one = row-change 1 (p ++ c ∷ []) ks a more n rest y row u.3 v'.3 h.2 in
      subst (λ (x : Forest). OneRow (p ++ j ∷ a ∷ more) c p (Cons k w ns ks ts) x) (sym g)
      (subst (λ (i : Kind). OneRow (p ++ j ∷ a ∷ more) c p (Cons i w ns ks ts) (Cons i w ns new ts)) (sym is)
      (list-one (p ++ j ∷ a ∷ more) c p w ns ks new ts (subst (λ (z : List ℕ). OneRow z 1 (p ++ c ∷ []) ks new) deep one)))
  row-change c p (Cons k w ns ks ts) j (a ∷ more) n rest y ok u v (inr (inr h)) =
      let path = a ∷ (more ++ n ∷ 5 ∷ rest) in
      let g : changed c j path y (Cons k w ns ks ts) ≡ Cons k w ns ks (changed (suc c) j path y ts) =
      changed-behind c j path y k w ns ks ts (behind-number c j (row-least (suc c) ts j (a ∷ more) n h.1)) in
      let o = behind-element k (RowOK ts) h.0 ok in
      subst (λ (x : Forest). OneRow (p ++ j ∷ a ∷ more) c p (Cons k w ns ks ts) x) (sym g)
      (behind-one (p ++ j ∷ a ∷ more) c p k w ns ks ts (changed (suc c) j path y ts) o.0 (row-change (suc c) p ts j (a ∷ more) n rest y o.1 u.4 (subst WellFormed g v).4 h.1))

  pub below-change : (q : List ℕ) (i : ℕ) (f : Forest) (a : ℕ) (more : List ℕ) (n : ℕ) (rest : List ℕ) (y : Plain) → Passes is_of_heading f → WellFormed f →
      WellFormed (changed i a (more ++ n ∷ 5 ∷ rest) y f) → InBelow i f a more n → OneBelow (q ++ a ∷ more) q i f (changed i a (more ++ n ∷ 5 ∷ rest) y f)
  below-change q i Nil a more n rest y head u v h = absurd h
  below-change q i (Cons k w ns ks ts) a [] n rest y head u v h =
      by-block (λ m. is_of_heading m ≡ true → WellFormed (Cons m w ns ks ts) → WellFormed (changed i a ([] ++ n ∷ 5 ∷ rest) y (Cons m w ns ks ts)) → InBelow i (Cons m w ns ks ts) a [] n →
      OneBelow (q ++ a ∷ []) q i (Cons m w ns ks ts) (changed i a ([] ++ n ∷ 5 ∷ rest) y (Cons m w ns ks ts))) k
      (λ l x z g. absurd g)
      (λ e l x z g.
      let path = [] ++ n ∷ 5 ∷ rest in
      let b = below-further i k w ns ks ts a [] n e g in
      let s : changed i a path y (Cons k w ns ks ts) ≡ Cons k w ns ks (changed (suc i) a path y ts) = changed-behind i a path y k w ns ks ts (behind-number i a (below-least (suc i) ts a [] n b)) in
      subst (λ (x : Forest). OneBelow (q ++ a ∷ []) q i (Cons k w ns ks ts) x) (sym s)
      (next-one (q ++ a ∷ []) q i k w ns ks ts (changed (suc i) a path y ts) l e (below-change q (suc i) ts a [] n rest y head.1 u.4 (subst WellFormed s z).4 b)))
      head.0 u v h
  below-change q i (Cons k w ns ks ts) a (c ∷ more) n rest y head u v h =
      by-block (λ m. is_of_heading m ≡ true → WellFormed (Cons m w ns ks ts) → WellFormed (changed i a ((c ∷ more) ++ n ∷ 5 ∷ rest) y (Cons m w ns ks ts)) → InBelow i (Cons m w ns ks ts) a (c ∷ more) n →
      OneBelow (q ++ a ∷ (c ∷ more)) q i (Cons m w ns ks ts) (changed i a ((c ∷ more) ++ n ∷ 5 ∷ rest) y (Cons m w ns ks ts))) k
      (λ l x z g.
      let path = more ++ n ∷ 5 ∷ rest in
      let new = changed 1 c path y ks in
      let s : changed i a (c ∷ path) y (Cons kind.Block w ns ks ts) ≡ Cons kind.Block w ns new ts = changed-within i a c path y kind.Block w ns ks ts (here-number i a g.0) in
      let deep : (q ++ i ∷ []) ++ c ∷ more ≡ q ++ a ∷ c ∷ more = append_assoc q (i ∷ []) (c ∷ more) ∙ ap (λ (m : ℕ). q ++ m ∷ c ∷ more) g.0 in
      let one = row-change 1 (q ++ i ∷ []) ks c more n rest y (block-ok ks (block-row w ks x.0 x.3)) x.3 (subst WellFormed s z).3 g.1 in
      subst (λ (x : Forest). OneBelow (q ++ a ∷ c ∷ more) q i (Cons kind.Block w ns ks ts) x) (sym s)
      (record { frame = block-frame w ns ks new ts one.frame; own_same = one.own_same; blocks = subst (λ (z : List ℕ). SameBut z (blocks_in 1 (q ++ i ∷ []) ks) (blocks_in 1 (q ++ i ∷ []) new)) deep one.blocks }))
      (λ e l x z g.
      let path = (c ∷ more) ++ n ∷ 5 ∷ rest in
      let b = below-further i k w ns ks ts a (c ∷ more) n e g in
      let s : changed i a path y (Cons k w ns ks ts) ≡ Cons k w ns ks (changed (suc i) a path y ts) = changed-behind i a path y k w ns ks ts (behind-number i a (below-least (suc i) ts a (c ∷ more) n b)) in
      subst (λ (x : Forest). OneBelow (q ++ a ∷ (c ∷ more)) q i (Cons k w ns ks ts) x) (sym s)
      (next-one (q ++ a ∷ (c ∷ more)) q i k w ns ks ts (changed (suc i) a path y ts) l e (below-change q (suc i) ts a (c ∷ more) n rest y head.1 u.4 (subst WellFormed s z).4 b)))
      head.0 u v h
