-- The node at a path of some trees, by its kids; and places that are below others, or aren't.
use Rattle.std.specs.Prelude.{ℕ, zero, suc, ◌≡◌, ◌≤◌, ◌+◌, false, ◌&&◌, List, [], ◌∷◌, Option, Some, None, ◌++◌, ◌⊎◌, slice_get}
use Rattle.std.specs.Option.{option_and_then, option_map_or, is_some}
use Rattle.std.proofs.Common.{refl, ap, sym, subst, ◌∙◌, true≢false, inl, inr, arith, ne_eqb}
use Rattle.pc_syntax.specs.declared.kind.Kind.{Kind}
use Rattle.pc_syntax.specs.Places.{at}
use Rattle.pc_syntax.specs.Plain.{Forest, Nil, Cons, Plain, trees_of, kids_of}
use Rattle.pc_syntax.specs.WellFormed.{WellFormed}
use Rattle.pc_needs.specs.Inside.{is_below}
use Rattle.pc_needs.proofs.PlaceLemmas.{number-same}

-- these are the kids of the node to which a path leads from some trees, the first of which has this number
abbrev pub HoldsAt : ℕ → Forest → ℕ → List ℕ → Forest → Type 0
HoldsAt c Nil j js ks = ⊥
HoldsAt c (Cons k w ns is ts) j [] ks = ((c ≡ j) × (is ≡ ks)) ⊎ HoldsAt (suc c) ts j [] ks
HoldsAt c (Cons k w ns is ts) j (a ∷ more) ks = ((c ≡ j) × HoldsAt 1 is a more ks) ⊎ HoldsAt (suc c) ts j (a ∷ more) ks

pub holds-behind : (c : ℕ) (k : Kind) (w : List ℕ) (ns : List (List ℕ)) (is ts : Forest) (j : ℕ) (js : List ℕ) (ks : Forest) → HoldsAt (suc c) ts j js ks → HoldsAt c (Cons k w ns is ts) j js ks
holds-behind c k w ns is ts j [] ks h = inr h
holds-behind c k w ns is ts j (a ∷ more) ks h = inr h

holds-least : (c : ℕ) (f : Forest) (j : ℕ) (js : List ℕ) (ks : Forest) → HoldsAt c f j js ks → c ≤ j
holds-least c Nil j js ks h = absurd h
holds-least c (Cons k w ns is ts) j [] ks (inl h) = let e = h.0 in omega (arith, e)
holds-least c (Cons k w ns is ts) j [] ks (inr h) = let l = holds-least (suc c) ts j [] ks h in omega (arith, l)
holds-least c (Cons k w ns is ts) j (a ∷ more) ks (inl h) = let e = h.0 in omega (arith, e)
holds-least c (Cons k w ns is ts) j (a ∷ more) ks (inr h) = let l = holds-least (suc c) ts j (a ∷ more) ks h in omega (arith, l)

-- it is well formed where the trees are
pub holds-well : (c : ℕ) (f : Forest) (j : ℕ) (js : List ℕ) (ks : Forest) → HoldsAt c f j js ks → WellFormed f → WellFormed ks
holds-well c Nil j js ks h g = absurd h
holds-well c (Cons k w ns is ts) j [] ks (inl h) g = subst WellFormed h.1 g.3
holds-well c (Cons k w ns is ts) j [] ks (inr h) g = holds-well (suc c) ts j [] ks h g.4
holds-well c (Cons k w ns is ts) j (a ∷ more) ks (inl h) g = holds-well 1 is a more ks h.1 g.3
holds-well c (Cons k w ns is ts) j (a ∷ more) ks (inr h) g = holds-well (suc c) ts j (a ∷ more) ks h g.4

-- the kids of a node, if there is one
abbrev pub kids_or : Forest → Option Plain → Forest
kids_or f o = option_map_or (λ (x : Plain). x.kids) o f

pub none-some : (x : Plain) → None ≡ Some x → ⊥
none-some x e = true≢false (sym (ap is_some e))

-- and it is the one at that path
pub holds-at : (c i : ℕ) (f : Forest) (j : ℕ) (js : List ℕ) (ks : Forest) (x : Plain) → c + i ≡ j → HoldsAt c f j js ks → option_and_then (at js) (slice_get (trees_of f) i) ≡ Some x →
    x.kids ≡ ks
unfolding kids_of
holds-at c i Nil j js ks x s h e = absurd h
holds-at c zero (Cons k w ns is ts) j [] ks x s (inl h) e = ap (kids_or x.kids) (sym e) ∙ h.1
holds-at c zero (Cons k w ns is ts) j [] ks x s (inr h) e = let l = holds-least (suc c) ts j [] ks h in absurd (omega (arith, l, s))
holds-at c zero (Cons k w ns is ts) j (zero ∷ more) ks x s (inl h) e = absurd (none-some x e)
holds-at c zero (Cons k w ns is ts) j (suc a ∷ more) ks x s (inl h) e = holds-at 1 a is (suc a) more ks x (omega arith) h.1 e
holds-at c zero (Cons k w ns is ts) j (a ∷ more) ks x s (inr h) e = let l = holds-least (suc c) ts j (a ∷ more) ks h in absurd (omega (arith, l, s))
holds-at c (suc i) (Cons k w ns is ts) j [] ks x s (inl h) e = let q = h.0 in absurd (omega (arith, q, s))
holds-at c (suc i) (Cons k w ns is ts) j (a ∷ more) ks x s (inl h) e = let q = h.0 in absurd (omega (arith, q, s))
holds-at c (suc i) (Cons k w ns is ts) j [] ks x s (inr h) e = holds-at (suc c) i ts j [] ks x (omega (arith, s)) h e
holds-at c (suc i) (Cons k w ns is ts) j (a ∷ more) ks x s (inr h) e = holds-at (suc c) i ts j (a ∷ more) ks x (omega (arith, s)) h e

-- ---- places

-- a place isn't below itself, nor below one further down
pub not-itself : (p : List ℕ) → is_below p p ≡ false
not-itself [] = refl
not-itself (i ∷ p) = ap (λ b. b && is_below p p) (number-same i) ∙ not-itself p

pub not-above : (p : List ℕ) (i : ℕ) (is : List ℕ) → is_below (p ++ i ∷ is) p ≡ false
not-above [] i is = refl
not-above (a ∷ p) i is = ap (λ b. b && is_below (p ++ i ∷ is) p) (number-same a) ∙ not-above p i is

-- of two different kids none is below the other
pub not-beside : (p : List ℕ) (i j : ℕ) (is js : List ℕ) → (i ≡ j → ⊥) → is_below (p ++ i ∷ is) (p ++ j ∷ js) ≡ false
not-beside [] i j is js h = ap (λ b. b && is_below is js) (ne_eqb i j h)
not-beside (a ∷ p) i j is js h = ap (λ b. b && is_below (p ++ i ∷ is) (p ++ j ∷ js)) (number-same a) ∙ not-beside p i j is js h
