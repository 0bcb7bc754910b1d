-- Another node in the statement part of a routine changes neither the frame of its kids nor the own blocks of the routines in it.
use Rattle.std.specs.Prelude.{ℕ, suc, ◌≡◌, ◌⊎◌, ◌+◌, true, false, ◌==◌, if◌then◌else◌, List, [], ◌∷◌, ◌++◌, slice_get}
use Rattle.std.proofs.Common.{refl, ap, sym, subst, ◌∙◌, true≢false, inr, arith}
use Rattle.std.proofs.lemmas.Bool.{and_parts, eq-eqb, ne_eqb}
use Rattle.pc_syntax.specs.declared.kind.Kind.{Kind}
use Rattle.pc_syntax.specs.declared.kind.Kind.TheVariants as kind
use Rattle.pc_syntax.specs.declared.class.Class.{Class}
use Rattle.pc_syntax.specs.declared.class.Class.TheVariants as class
use Rattle.pc_syntax.specs.declared.item.Item.{Item}
use Rattle.pc_syntax.specs.declared.item.Item.TheVariants.{Kid}
use Rattle.pc_syntax.specs.Classes.{has, is_body}
use Rattle.pc_syntax.specs.Fits.{takes, takes_from}
use Rattle.pc_syntax.specs.Layout.{layout}
use Rattle.pc_syntax.specs.Plain.{Forest, Nil, Cons, Plain, count, kinds}
use Rattle.pc_syntax.specs.Slots.{is_list, places_of, class_from}
use Rattle.pc_syntax.specs.WellFormed.{WellFormed, fits_some, fits}
use Rattle.pc_scope.specs.Blocks.{kid_count}
use Rattle.pc_needs.specs.Bodies.{without_bodies}
use Rattle.pc_needs.proofs.BodyKinds.{Passes, node-takes}
use Rattle.pc_needs.proofs.HeadingKinds.{is_the_block, is_of_heading, has_heading, is_front}
use Rattle.pc_needs.proofs.BodyRows.{without-front, without-heading, without-body, by-block, BlockRow, block-row}
use Rattle.pc_needs.proofs.BodyTwins.{front-part}
use Rattle.pc_needs.proofs.BodyPaths.{Entry, blocks_in, blocks_below, blocks-none, blocks-next}
use Rattle.pc_needs.proofs.Changed.{changed, changed_below, changed-here, changed-behind, changed-within}

-- ---- own blocks, one by one, the same but at a place
abbrev pub SameBut : List ℕ → List Entry → List Entry → Type 0
SameBut z [] [] = Unit {0}
SameBut z [] (f ∷ fs) = ⊥
SameBut z (e ∷ es) [] = ⊥
SameBut z (e ∷ es) (f ∷ fs) = ((e.0 ≡ z) ⊎ (e.1 ≡ f.1)) × SameBut z es fs

pub same-itself : (z : List ℕ) (es : List Entry) → SameBut z es es
same-itself z [] = tt
same-itself z (e ∷ es) = (inr refl, same-itself z es)

pub same-append : (z : List ℕ) (es fs us vs : List Entry) → SameBut z es fs → SameBut z us vs → SameBut z (es ++ us) (fs ++ vs)
same-append z [] [] us vs h g = g
same-append z [] (f ∷ fs) us vs h g = absurd h
same-append z (e ∷ es) [] us vs h g = absurd h
same-append z (e ∷ es) (f ∷ fs) us vs h g = (h.0, same-append z es fs us vs h.1 g)

-- ---- the last kid of a routine

-- the last kid may be a block, and no other is one
abbrev pub BlockLast : Forest → Type 0
BlockLast Nil = ⊥
BlockLast (Cons k w ns ks Nil) = has class.Block k ≡ true
BlockLast (Cons k w ns ks (Cons j v ms js ts)) = (is_the_block k ≡ false) × BlockLast (Cons j v ms js ts)

not-block : (c : Class) (k : Kind) → has c kind.Block ≡ false → has c k ≡ true → is_the_block k ≡ false
not-block c kind.Block n e = absurd (true≢false (sym e ∙ n))
not-block c _ n e = refl

last-here : (f : Forest) → fits (Kid class.Block ∷ []) (kinds f) ≡ true → BlockLast f
last-here Nil e = true≢false (sym e)
last-here (Cons k w ns ks Nil) e = (and_parts (has class.Block k) true e).0
last-here (Cons k w ns ks (Cons j v ms js ts)) e = absurd (true≢false (sym (and_parts (has class.Block k) false e).1))

last-behind : (c : Class) (is : List Item) (f : Forest) → has c kind.Block ≡ false → ((g : Forest) → fits is (kinds g) ≡ true → BlockLast g) → fits (Kid c ∷ is) (kinds f) ≡ true → BlockLast f
last-behind c is Nil n h e = true≢false (sym e)
last-behind c is (Cons k w ns ks Nil) n h e = absurd (h Nil (and_parts (has c k) (fits is []) e).1)
last-behind c is (Cons k w ns ks (Cons j v ms js ts)) n h e =
    let both = and_parts (has c k) (fits is (kinds (Cons j v ms js ts))) e in
    (not-block c k n both.0, h (Cons j v ms js ts) both.1)

pub block-last : (k : Kind) (w : List ℕ) (f : Forest) → has_heading k ≡ true → fits_some (layout k w (count f)) (kinds f) ≡ true → BlockLast f
block-last kind.Program [] f h e = last-behind class.Name (Kid class.Heads ∷ Kid class.Block ∷ []) f refl (λ g. last-behind class.Heads (Kid class.Block ∷ []) g refl last-here) e
block-last kind.Procedure [] f h e = last-behind class.Name (Kid class.Params ∷ Kid class.Block ∷ []) f refl (λ g. last-behind class.Params (Kid class.Block ∷ []) g refl last-here) e
block-last kind.Function [] f h e =
    last-behind class.Name (Kid class.Params ∷ Kid class.Name ∷ Kid class.Block ∷ []) f refl
    (λ g. last-behind class.Params (Kid class.Name ∷ Kid class.Block ∷ []) g refl (λ i. last-behind class.Name (Kid class.Block ∷ []) i refl last-here)) e
block-last kind.Funbody [] f h e = last-behind class.Name (Kid class.Block ∷ []) f refl last-here e
block-last kind.Program (b ∷ w) f h e = absurd (true≢false (sym e))
block-last kind.Procedure (b ∷ w) f h e = absurd (true≢false (sym e))
block-last kind.Function (b ∷ w) f h e = absurd (true≢false (sym e))
block-last kind.Funbody (b ∷ w) f h e = absurd (true≢false (sym e))
block-last k w f h e = absurd (true≢false (sym h))

-- in place of a block nothing has kids
leaf-places : (k : Kind) → has class.Block k ≡ true → is_the_block k ≡ false → places_of k ≡ []
leaf-places kind.Block h e = absurd (true≢false e)
leaf-places kind.Forward h e = refl
leaf-places (kind.Hole s) h e = refl
leaf-places _ h e = absurd (true≢false (sym h))

no-kids : (k : Kind) (f : Forest) → places_of k ≡ [] → takes_from k 0 (kinds f) ≡ true → f ≡ Nil
no-kids k Nil e t = refl
no-kids k (Cons j w ns ks ts) e t =
    let both = and_parts (takes (class_from k 0) j) (takes_from k 1 (kinds ts)) t in
    absurd (true≢false (sym (subst (λ (cs : List Class). takes (slice_get cs (if is_list k then 0 else 0)) j ≡ true) e both.0)))

-- ---- the statement part of a block

body-class : (w : List ℕ) (a b c d j : Kind) (w1 w2 w3 w4 w5 : List ℕ) (n1 n2 n3 n4 n5 : List (List ℕ)) (k1 k2 k3 k4 k5 : Forest) →
    fits_some (layout kind.Block w 5) (a ∷ b ∷ c ∷ d ∷ j ∷ []) ≡ true → is_body j ≡ true
body-class (x ∷ w) a b c d j w1 w2 w3 w4 w5 n1 n2 n3 n4 n5 k1 k2 k3 k4 k5 e = absurd (true≢false (sym e))
body-class [] a b c d j w1 w2 w3 w4 w5 n1 n2 n3 n4 n5 k1 k2 k3 k4 k5 e =
    let x = and_parts (has class.Consts a) _ e in
    let y = and_parts (has class.Types b) _ x.1 in
    let z = and_parts (has class.Vars c) _ y.1 in
    let u = and_parts (has class.Routines d) _ z.1 in
    (and_parts (has class.Body j) _ u.1).0

-- two blocks that differ in the statement part alone
record OneBlock (q : List ℕ) (f g : Forest) : Type 0 where
  pub frame : without_bodies f ≡ without_bodies g
  pub blocks : blocks_in 1 q f ≡ blocks_in 1 q g

front-blocks : (c : ℕ) (p : List ℕ) (k : Kind) (w : List ℕ) (ns : List (List ℕ)) (ks ts us : Forest) → is_front k ≡ true → blocks_in (suc c) p ts ≡ blocks_in (suc c) p us →
    blocks_in c p (Cons k w ns ks ts) ≡ blocks_in c p (Cons k w ns ks us)
front-blocks c p k w ns ks ts us f e = blocks-none c p k w ns ks ts (front-part k f) ∙ e ∙ sym (blocks-none c p k w ns ks us (front-part k f))

pub front-frame : (k : Kind) (w : List ℕ) (ns : List (List ℕ)) (ks ts us : Forest) → is_front k ≡ true → without_bodies ts ≡ without_bodies us →
    without_bodies (Cons k w ns ks ts) ≡ without_bodies (Cons k w ns ks us)
front-frame k w ns ks ts us f e = without-front k w ns ks ts f ∙ ap (Cons k w ns ks) e ∙ sym (without-front k w ns ks us f)

pub list-frame : (w : List ℕ) (ns : List (List ℕ)) (ks js ts us : Forest) → without_bodies ks ≡ without_bodies js → without_bodies ts ≡ without_bodies us →
    without_bodies (Cons kind.Routines w ns ks ts) ≡ without_bodies (Cons kind.Routines w ns js us)
unfolding without_bodies
list-frame w ns ks js ts us e h = λ i. Cons kind.Routines w ns (e i) (h i)

fifth : (q : List ℕ) (w : List ℕ) (rest : List ℕ) (y : Plain) (f : Forest) → BlockRow f → fits_some (layout kind.Block w (count (changed 1 5 rest y f))) (kinds (changed 1 5 rest y f)) ≡ true →
    OneBlock q f (changed 1 5 rest y f)
fifth q w rest y f r e =
    let body = changed_below rest y (record { kind = r.j; word = r.v5; notes = r.n5; kids = r.k5 }) in
    let five = Cons r.j r.v5 r.n5 r.k5 Nil in
    let new = Cons body.kind body.word body.notes body.kids Nil in
    let four = Cons kind.Routines r.v4 r.n4 r.k4 five in
    let three = Cons r.c r.v3 r.n3 r.k3 four in
    let two = Cons r.b r.v2 r.n2 r.k2 three in
    let g = Cons r.a r.v1 r.n1 r.k1 (Cons r.b r.v2 r.n2 r.k2 (Cons r.c r.v3 r.n3 r.k3 (Cons kind.Routines r.v4 r.n4 r.k4 new))) in
    let e5 : changed 5 5 rest y five ≡ new = changed-here 5 5 rest y r.j r.v5 r.n5 r.k5 Nil refl in
    let e4 : changed 4 5 rest y four ≡ Cons kind.Routines r.v4 r.n4 r.k4 new = changed-behind 4 5 rest y kind.Routines r.v4 r.n4 r.k4 five refl ∙ ap (Cons kind.Routines r.v4 r.n4 r.k4) e5 in
    let e3 : changed 3 5 rest y three ≡ Cons r.c r.v3 r.n3 r.k3 (Cons kind.Routines r.v4 r.n4 r.k4 new) = changed-behind 3 5 rest y r.c r.v3 r.n3 r.k3 four refl ∙ ap (Cons r.c r.v3 r.n3 r.k3) e4 in
    let e2 : changed 2 5 rest y two ≡ Cons r.b r.v2 r.n2 r.k2 (Cons r.c r.v3 r.n3 r.k3 (Cons kind.Routines r.v4 r.n4 r.k4 new)) = changed-behind 2 5 rest y r.b r.v2 r.n2 r.k2 three refl ∙ ap (Cons r.b r.v2 r.n2 r.k2) e3 in
    let e1 : changed 1 5 rest y f ≡ g = ap (changed 1 5 rest y) r.is ∙ changed-behind 1 5 rest y r.a r.v1 r.n1 r.k1 two refl ∙ ap (Cons r.a r.v1 r.n1 r.k1) e2 in
    let fit : fits_some (layout kind.Block w (count g)) (kinds g) ≡ true = subst (λ (h : Forest). fits_some (layout kind.Block w (count h)) (kinds h) ≡ true) e1 e in
    let is_new : is_body body.kind ≡ true = body-class w r.a r.b r.c kind.Routines body.kind r.v1 r.v2 r.v3 r.v4 body.word r.n1 r.n2 r.n3 r.n4 body.notes r.k1 r.k2 r.k3 r.k4 body.kids fit in
    let f5 : without_bodies five ≡ without_bodies new = without-body r.j r.v5 r.n5 r.k5 Nil r.body ∙ sym (without-body body.kind body.word body.notes body.kids Nil is_new) in
    let m4 = Cons kind.Routines r.v4 r.n4 r.k4 new in
    let m3 = Cons r.c r.v3 r.n3 r.k3 m4 in
    let m2 = Cons r.b r.v2 r.n2 r.k2 m3 in
    let f4 : without_bodies four ≡ without_bodies m4 = list-frame r.v4 r.n4 r.k4 r.k4 five new refl f5 in
    let f3 : without_bodies three ≡ without_bodies m3 = front-frame r.c r.v3 r.n3 r.k3 four m4 r.front_c f4 in
    let f2 : without_bodies two ≡ without_bodies m2 = front-frame r.b r.v2 r.n2 r.k2 three m3 r.front_b f3 in
    let b4 : blocks_in 4 q four ≡ blocks_in 4 q m4 = refl in
    let b3 : blocks_in 3 q three ≡ blocks_in 3 q m3 = front-blocks 3 q r.c r.v3 r.n3 r.k3 four m4 r.front_c b4 in
    let b2 : blocks_in 2 q two ≡ blocks_in 2 q m2 = front-blocks 2 q r.b r.v2 r.n2 r.k2 three m3 r.front_b b3 in
    record {
      frame = ap without_bodies r.is ∙ front-frame r.a r.v1 r.n1 r.k1 two m2 r.front_a f2 ∙ ap without_bodies (sym e1);
      blocks = ap (blocks_in 1 q) r.is ∙ front-blocks 1 q r.a r.v1 r.n1 r.k1 two m2 r.front_a b2 ∙ ap (blocks_in 1 q) (sym e1);
    }

-- ---- a routine whose statement part it is

-- the kids of two routines that differ in their own statement parts alone
abbrev pub OneRoutine : List ℕ → ℕ → Forest → Forest → Type 0
OneRoutine q i f g = (without_bodies f ≡ without_bodies g) × (blocks_below q i f ≡ blocks_below q i g)

pub heading-frame : (k : Kind) (w : List ℕ) (ns : List (List ℕ)) (ks ts us : Forest) → is_of_heading k ≡ true → is_the_block k ≡ false → without_bodies ts ≡ without_bodies us →
    without_bodies (Cons k w ns ks ts) ≡ without_bodies (Cons k w ns ks us)
heading-frame k w ns ks ts us h n e = without-heading k w ns ks ts h n ∙ ap (Cons k w ns ks) e ∙ sym (without-heading k w ns ks us h n)

pub block-frame : (w : List ℕ) (ns : List (List ℕ)) (ks js ts : Forest) → without_bodies ks ≡ without_bodies js → without_bodies (Cons kind.Block w ns ks ts) ≡ without_bodies (Cons kind.Block w ns js ts)
unfolding without_bodies
block-frame w ns ks js ts e = λ i. Cons kind.Block w ns (e i) (without_bodies ts)

next-blocks : (q : List ℕ) (i : ℕ) (k : Kind) (w : List ℕ) (ns : List (List ℕ)) (ks ts us : Forest) → is_the_block k ≡ false → blocks_below q (suc i) ts ≡ blocks_below q (suc i) us →
    blocks_below q i (Cons k w ns ks ts) ≡ blocks_below q i (Cons k w ns ks us)
next-blocks q i k w ns ks ts us n e = blocks-next q i k w ns ks ts n ∙ e ∙ sym (blocks-next q i k w ns ks us n)

pub head-change : (q : List ℕ) (i n : ℕ) (rest : List ℕ) (y : Plain) (f : Forest) → n + 1 ≡ i + kid_count f → Passes is_of_heading f → BlockLast f → WellFormed f →
    WellFormed (changed i n (5 ∷ rest) y f) → OneRoutine q i f (changed i n (5 ∷ rest) y f)
head-change q i n rest y Nil e h l c d = absurd l
head-change q i n rest y (Cons k w ns ks Nil) e h l c d =
    let here : (i == n) ≡ true = eq-eqb i n (omega (arith, e)) in
    let g : changed i n (5 ∷ rest) y (Cons k w ns ks Nil) ≡ Cons k w ns (changed 1 5 rest y ks) Nil = changed-within i n 5 rest y k w ns ks Nil here in
    subst (λ (x : Forest). OneRoutine q i (Cons k w ns ks Nil) x) (sym g)
    (by-block (λ j. has class.Block j ≡ true → WellFormed (Cons j w ns ks Nil) → WellFormed (Cons j w ns (changed 1 5 rest y ks) Nil) → OneRoutine q i (Cons j w ns ks Nil) (Cons j w ns (changed 1 5 rest y ks) Nil)) k
    (λ m u v. let one = fifth (q ++ i ∷ []) w rest y ks (block-row w ks u.0 u.3) v.0 in (block-frame w ns ks (changed 1 5 rest y ks) Nil one.frame, one.blocks))
    (λ b m u v.
    let none : ks ≡ Nil = no-kids k ks (leaf-places k m b) (node-takes k w ks u.0) in
    subst (λ (x : Forest). OneRoutine q i (Cons k w ns x Nil) (Cons k w ns (changed 1 5 rest y x) Nil)) (sym none) (refl, refl))
    l c (subst WellFormed g d))
head-change q i n rest y (Cons k w ns ks (Cons j v ms js ts)) e h l c d =
    let behind : (i == n) ≡ false = ne_eqb i n (λ x. absurd (omega (arith, e, x))) in
    let us = Cons j v ms js ts in
    let g : changed i n (5 ∷ rest) y (Cons k w ns ks us) ≡ Cons k w ns ks (changed (suc i) n (5 ∷ rest) y us) = changed-behind i n (5 ∷ rest) y k w ns ks us behind in
    let next : n + 1 ≡ suc i + kid_count us = omega (arith, e) in
    let deeper = head-change q (suc i) n rest y (Cons j v ms js ts) next h.1 l.1 c.4 (subst WellFormed g d).4 in
    subst (λ (x : Forest). OneRoutine q i (Cons k w ns ks us) x) (sym g)
    (heading-frame k w ns ks us (changed (suc i) n (5 ∷ rest) y us) h.0 l.0 deeper.0, next-blocks q i k w ns ks us (changed (suc i) n (5 ∷ rest) y us) l.0 deeper.1)
