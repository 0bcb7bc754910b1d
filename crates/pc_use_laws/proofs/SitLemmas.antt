-- Where the nodes of some trees stand in a program, by their paths.
use Rattle.std.specs.Prelude.{ℕ, suc, ◌≡◌, ◌+◌, List, [], ◌∷◌, ◌++◌, Option, Some, None, slice_get}
use Rattle.std.specs.Option.{option_and_then, option_map_or}
use Rattle.std.proofs.Common.{refl, ap, ◌∙◌, arith}
use Rattle.pc_syntax.specs.declared.kind.Kind.TheVariants as kind
use Rattle.pc_syntax.specs.Parts.{kid_at}
use Rattle.pc_syntax.specs.Places.{at}
use Rattle.pc_syntax.specs.Plain.{Forest, Nil, Cons, Plain, trees_of, kids_of}
use Rattle.pc_decl.specs.Nodes.{kind_at, kids_at}
use Rattle.pc_decl_laws.proofs.LeadLemmas.{tree_of}

some-itself : (o : Option Plain) → option_and_then (λ (x : Plain). Some x) o ≡ o
some-itself None = refl
some-itself (Some x) = refl

-- the kid of the node at a place
pub at-kid : (t : Plain) (q : List ℕ) (x : Plain) (j : ℕ) → at q t ≡ Some x → at (q ++ j ∷ []) t ≡ kid_at x j
at-kid t [] x j e = some-itself (kid_at t j) ∙ ap (λ (y : Plain). kid_at y j) same where
  same : t ≡ x
  same = cc e
at-kid t (i ∷ is) x j e = by (λ k f. at-kid k is x j f) (kid_at t i) e where
  by : ((k : Plain) → at is k ≡ Some x → at (is ++ j ∷ []) k ≡ kid_at x j) → (o : Option Plain) → option_and_then (at is) o ≡ Some x → option_and_then (at (is ++ j ∷ [])) o ≡ kid_at x j
  by next None f = cc f
  by next (Some k) f = next k f

-- the trees stand below a place, the first of them with this number
abbrev pub Sits : Plain → List ℕ → ℕ → Forest → Type 0
Sits t p c Nil = Unit {0}
Sits t p c (Cons k w ns ks ts) = (at (p ++ c ∷ []) t ≡ Some (tree_of k w ns ks)) × Sits t p (suc c) ts

no-more : (i : ℕ) → i ≡ i + 0
no-more i = omega arith

one-on : (i n : ℕ) → suc i + n ≡ i + suc n
one-on i n = omega arith

from-none : (n : ℕ) → 0 + n ≡ n
from-none n = omega arith

sits-from : (t : Plain) (q : List ℕ) (x : Plain) (i : ℕ) (f : Forest) → at q t ≡ Some x → ((n : ℕ) → slice_get (trees_of x.kids) (i + n) ≡ slice_get (trees_of f) n) →
    Sits t q (suc i) f
unfolding kids_of
sits-from t q x i Nil e s = tt
sits-from t q x i (Cons k w ns ks ts) e s = (
  at-kid t q x (suc i) e ∙ ap (slice_get (trees_of x.kids)) (no-more i) ∙ s 0,
  sits-from t q x (suc i) ts e (λ n. ap (slice_get (trees_of x.kids)) (one-on i n) ∙ s (suc n)),
)

-- the kids of the node at a place
pub sits-kids : (t : Plain) (q : List ℕ) (x : Plain) → at q t ≡ Some x → Sits t q 1 x.kids
sits-kids t q x e = sits-from t q x 0 x.kids e (λ n. ap (slice_get (trees_of x.kids)) (from-none n))

-- the kind and the kids of what stands at a place
pub kind-of : (t : Plain) (q : List ℕ) (x : Plain) → at q t ≡ Some x → kind_at t q ≡ x.kind
kind-of t q x e = ap (λ (o : Option Plain). option_map_or (λ (n : Plain). n.kind) o kind.Empty) e

pub kids-of : (t : Plain) (q : List ℕ) (x : Plain) → at q t ≡ Some x → kids_at t q ≡ x.kids
kids-of t q x e = ap (λ (o : Option Plain). option_map_or (λ (n : Plain). n.kids) o Nil) e
