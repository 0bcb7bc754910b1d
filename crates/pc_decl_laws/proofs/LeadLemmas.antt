-- Where a path leads from some trees, and which routine is the last on the way that the node at its end is inside.
use Rattle.std.specs.Prelude.{ℕ, zero, suc, ◌≡◌, ◌≤◌, ◌+◌, Bool, true, false, if◌then◌else◌, List, [], ◌∷◌, Some, ◌++◌, ◌⊎◌, slice_get}
use Rattle.std.specs.Option.{option_and_then}
use Rattle.std.proofs.Common.{refl, ap, sym, subst, ◌∙◌, inl, inr, arith, append_assoc}
use Rattle.pc_syntax.specs.declared.kind.Kind.{Kind}
use Rattle.pc_syntax.specs.Places.{at}
use Rattle.pc_syntax.specs.Plain.{Forest, Nil, Cons, Plain, trees_of, kids_of}
use Rattle.pc_scope.specs.Headings.{is_routine_kind}

-- the node of these
abbrev pub tree_of : Kind → List ℕ → List (List ℕ) → Forest → Plain
tree_of k w ns ks = record { kind = k; word = w; notes = ns; kids = ks }

-- the routine around the nodes at the end of a way below a node: a routine's own name belongs to the routine around it
abbrev pub home_in : Kind → List ℕ → List ℕ → List ℕ → List ℕ
home_in k b q [] = b
home_in k b q (m ∷ ms) = if is_routine_kind k then q else b

-- the way leads from trees below a place, the first of which has this number, to a node that is inside this routine; the one around the
-- trees comes first
abbrev pub Leads : List ℕ → List ℕ → ℕ → Forest → ℕ → List ℕ → Plain → List ℕ → Type 0
Leads b p c Nil j js x h = ⊥
Leads b p c (Cons k w ns is ts) j [] x h = ((c ≡ j) × (tree_of k w ns is ≡ x) × (b ≡ h)) ⊎ Leads b p (suc c) ts j [] x h
Leads b p c (Cons k w ns is ts) j (a ∷ more) x h =
    ((c ≡ j) × Leads (home_in k b (p ++ c ∷ []) more) (p ++ c ∷ []) 1 is a more x h) ⊎ Leads b p (suc c) ts j (a ∷ more) x h

pub leads-behind : (b p : List ℕ) (c : ℕ) (k : Kind) (w : List ℕ) (ns : List (List ℕ)) (is ts : Forest) (j : ℕ) (js : List ℕ) (x : Plain) (h : List ℕ) →
    Leads b p (suc c) ts j js x h → Leads b p c (Cons k w ns is ts) j js x h
leads-behind b p c k w ns is ts j [] x h l = inr l
leads-behind b p c k w ns is ts j (a ∷ more) x h l = inr l

leads-least : (b p : List ℕ) (c : ℕ) (f : Forest) (j : ℕ) (js : List ℕ) (x : Plain) (h : List ℕ) → Leads b p c f j js x h → c ≤ j
leads-least b p c Nil j js x h l = absurd l
leads-least b p c (Cons k w ns is ts) j [] x h (inl l) = let e = l.0 in omega (arith, e)
leads-least b p c (Cons k w ns is ts) j [] x h (inr l) = let m = leads-least b p (suc c) ts j [] x h l in omega (arith, m)
leads-least b p c (Cons k w ns is ts) j (a ∷ more) x h (inl l) = let e = l.0 in omega (arith, e)
leads-least b p c (Cons k w ns is ts) j (a ∷ more) x h (inr l) = let m = leads-least b p (suc c) ts j (a ∷ more) x h l in omega (arith, m)

-- it leads to the node at that path
leads-at : (b p : List ℕ) (c i : ℕ) (f : Forest) (j : ℕ) (js : List ℕ) (x : Plain) (h : List ℕ) → c + i ≡ j → Leads b p c f j js x h →
    option_and_then (at js) (slice_get (trees_of f) i) ≡ Some x
unfolding kids_of
leads-at b p c i Nil j js x h s l = absurd l
leads-at b p c zero (Cons k w ns is ts) j [] x h s (inl l) = ap (λ (y : Plain). Some y) l.1
leads-at b p c zero (Cons k w ns is ts) j [] x h s (inr l) = let m = leads-least b p (suc c) ts j [] x h l in absurd (omega (arith, m, s))
leads-at b p c zero (Cons k w ns is ts) j (zero ∷ more) x h s (inl l) =
    let m = leads-least (home_in k b (p ++ c ∷ []) more) (p ++ c ∷ []) 1 is zero more x h l.1 in absurd (omega (arith, m))
leads-at b p c zero (Cons k w ns is ts) j (suc a ∷ more) x h s (inl l) = leads-at (home_in k b (p ++ c ∷ []) more) (p ++ c ∷ []) 1 a is (suc a) more x h (omega arith) l.1
leads-at b p c zero (Cons k w ns is ts) j (a ∷ more) x h s (inr l) = let m = leads-least b p (suc c) ts j (a ∷ more) x h l in absurd (omega (arith, m, s))
leads-at b p c (suc i) (Cons k w ns is ts) j [] x h s (inl l) = let q = l.0 in absurd (omega (arith, q, s))
leads-at b p c (suc i) (Cons k w ns is ts) j (a ∷ more) x h s (inl l) = let q = l.0 in absurd (omega (arith, q, s))
leads-at b p c (suc i) (Cons k w ns is ts) j [] x h s (inr l) = leads-at b p (suc c) i ts j [] x h (omega (arith, s)) l
leads-at b p c (suc i) (Cons k w ns is ts) j (a ∷ more) x h s (inr l) = leads-at b p (suc c) i ts j (a ∷ more) x h (omega (arith, s)) l

-- and what is at its end is inside one routine alone
leads-home : (b p : List ℕ) (c : ℕ) (f : Forest) (j : ℕ) (js : List ℕ) (x y : Plain) (h g : List ℕ) → Leads b p c f j js x h → Leads b p c f j js y g → h ≡ g
leads-home b p c Nil j js x y h g l m = absurd l
leads-home b p c (Cons k w ns is ts) j [] x y h g (inl l) (inl m) = sym l.2 ∙ m.2
leads-home b p c (Cons k w ns is ts) j [] x y h g (inl l) (inr m) = let q = l.0 in let n = leads-least b p (suc c) ts j [] y g m in absurd (omega (arith, q, n))
leads-home b p c (Cons k w ns is ts) j [] x y h g (inr l) (inl m) = let q = m.0 in let n = leads-least b p (suc c) ts j [] x h l in absurd (omega (arith, q, n))
leads-home b p c (Cons k w ns is ts) j [] x y h g (inr l) (inr m) = leads-home b p (suc c) ts j [] x y h g l m
leads-home b p c (Cons k w ns is ts) j (a ∷ more) x y h g (inl l) (inl m) = leads-home (home_in k b (p ++ c ∷ []) more) (p ++ c ∷ []) 1 is a more x y h g l.1 m.1
leads-home b p c (Cons k w ns is ts) j (a ∷ more) x y h g (inl l) (inr m) = let q = l.0 in let n = leads-least b p (suc c) ts j (a ∷ more) y g m in absurd (omega (arith, q, n))
leads-home b p c (Cons k w ns is ts) j (a ∷ more) x y h g (inr l) (inl m) = let q = m.0 in let n = leads-least b p (suc c) ts j (a ∷ more) x h l in absurd (omega (arith, q, n))
leads-home b p c (Cons k w ns is ts) j (a ∷ more) x y h g (inr l) (inr m) = leads-home b p (suc c) ts j (a ∷ more) x y h g l m

-- ---- a program

-- the path leads to this node, which is inside this routine
abbrev pub InProgram : Plain → List ℕ → Plain → List ℕ → Type 0
InProgram t [] x h = ⊥
InProgram t (j ∷ js) x h = Leads [] [] 1 t.kids j js x h

pub program-at : (t : Plain) (q : List ℕ) (x : Plain) (h : List ℕ) → InProgram t q x h → at q t ≡ Some x
unfolding kids_of
program-at t [] x h l = absurd l
program-at t (zero ∷ js) x h l = let m = leads-least [] [] 1 t.kids zero js x h l in absurd (omega (arith, m))
program-at t (suc i ∷ js) x h l = leads-at [] [] 1 i t.kids (suc i) js x h (omega arith) l

pub program-home : (t : Plain) (q : List ℕ) (x y : Plain) (h g : List ℕ) → InProgram t q x h → InProgram t q y g → h ≡ g
program-home t [] x y h g l m = absurd l
program-home t (j ∷ js) x y h g l m = leads-home [] [] 1 t.kids j js x y h g l m

-- ---- what a path from some trees leads to, it leads to in the program

-- from trees whose routine around is this; to the trees themselves alone; and to nodes further down
abbrev pub Lifts : Plain → List ℕ → List ℕ → ℕ → Forest → Type 0
Lifts t b p c f = (j : ℕ) (js : List ℕ) (x : Plain) (h : List ℕ) → Leads b p c f j js x h → InProgram t (p ++ j ∷ js) x h

abbrev pub LiftsFirst : Plain → List ℕ → List ℕ → ℕ → Forest → Type 0
LiftsFirst t b p c f = (j : ℕ) (x : Plain) (h : List ℕ) → Leads b p c f j [] x h → InProgram t (p ++ j ∷ []) x h

abbrev pub LiftsBelow : Plain → List ℕ → List ℕ → ℕ → Forest → Type 0
LiftsBelow t b p c f = (j a : ℕ) (more : List ℕ) (x : Plain) (h : List ℕ) → Leads b p c f j (a ∷ more) x h → InProgram t (p ++ j ∷ a ∷ more) x h

-- a place below a kid
deeper : (t : Plain) (p : List ℕ) (c j : ℕ) (js : List ℕ) (x : Plain) (h : List ℕ) → InProgram t (p ++ c ∷ j ∷ js) x h → InProgram t ((p ++ c ∷ []) ++ j ∷ js) x h
deeper t p c j js x h l = subst (λ (q : List ℕ). InProgram t q x h) (sym (append_assoc p (c ∷ []) (j ∷ js))) l

-- behind the first tree
pub lifts-behind : (t : Plain) (b p : List ℕ) (c : ℕ) (k : Kind) (w : List ℕ) (ns : List (List ℕ)) (ks ts : Forest) → Lifts t b p c (Cons k w ns ks ts) → Lifts t b p (suc c) ts
lifts-behind t b p c k w ns ks ts f j js x h l = f j js x h (leads-behind b p c k w ns ks ts j js x h l)

pub first-behind : (t : Plain) (b p : List ℕ) (c : ℕ) (k : Kind) (w : List ℕ) (ns : List (List ℕ)) (ks ts : Forest) → LiftsFirst t b p c (Cons k w ns ks ts) → LiftsFirst t b p (suc c) ts
first-behind t b p c k w ns ks ts f j x h l = f j x h (inr l)

pub below-behind : (t : Plain) (b p : List ℕ) (c : ℕ) (k : Kind) (w : List ℕ) (ns : List (List ℕ)) (ks ts : Forest) → LiftsBelow t b p c (Cons k w ns ks ts) → LiftsBelow t b p (suc c) ts
below-behind t b p c k w ns ks ts f j a more x h l = f j a more x h (inr l)

-- below a tree that is no routine
pub home-same : (k : Kind) (b q js : List ℕ) → is_routine_kind k ≡ false → home_in k b q js ≡ b
home-same k b q [] e = refl
home-same k b q (m ∷ ms) e = ap (λ (z : Bool). if z then q else b) e

pub below-kids : (t : Plain) (b p : List ℕ) (c : ℕ) (k : Kind) (w : List ℕ) (ns : List (List ℕ)) (ks ts : Forest) → is_routine_kind k ≡ false →
    LiftsBelow t b p c (Cons k w ns ks ts) → Lifts t b (p ++ c ∷ []) 1 ks
below-kids t b p c k w ns ks ts e f j js x h l =
    deeper t p c j js x h (f c j js x h (inl (refl, subst (λ (a : List ℕ). Leads a (p ++ c ∷ []) 1 ks j js x h) (sym (home-same k b (p ++ c ∷ []) js e)) l)))

pub lifts-kids : (t : Plain) (b p : List ℕ) (c : ℕ) (k : Kind) (w : List ℕ) (ns : List (List ℕ)) (ks ts : Forest) → is_routine_kind k ≡ false →
    Lifts t b p c (Cons k w ns ks ts) → Lifts t b (p ++ c ∷ []) 1 ks
lifts-kids t b p c k w ns ks ts e f = below-kids t b p c k w ns ks ts e (λ j a more x h l. f j (a ∷ more) x h l)

-- the kids of any tree themselves
pub kids-first : (t : Plain) (b p : List ℕ) (c : ℕ) (k : Kind) (w : List ℕ) (ns : List (List ℕ)) (ks ts : Forest) → Lifts t b p c (Cons k w ns ks ts) → LiftsFirst t b (p ++ c ∷ []) 1 ks
kids-first t b p c k w ns ks ts f j x h l = deeper t p c j [] x h (f c (j ∷ []) x h (inl (refl, l)))

-- what is below the kids of a routine is inside that
pub kids-below : (t : Plain) (b p : List ℕ) (c : ℕ) (k : Kind) (w : List ℕ) (ns : List (List ℕ)) (ks ts : Forest) → is_routine_kind k ≡ true →
    Lifts t b p c (Cons k w ns ks ts) → LiftsBelow t (p ++ c ∷ []) (p ++ c ∷ []) 1 ks
kids-below t b p c k w ns ks ts e f j a more x h l =
    deeper t p c j (a ∷ more) x h
    (f c (j ∷ a ∷ more) x h (inl (refl, subst (λ (q : List ℕ). Leads q (p ++ c ∷ []) 1 ks j (a ∷ more) x h) (sym (ap (λ (z : Bool). if z then p ++ c ∷ [] else b) e)) l)))
