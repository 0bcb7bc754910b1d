-- The chains of blocks that were begun one after another.
use Rattle.std.proofs.Common.{◌≡◌, ℕ, ◌+◌, ◌<◌, zero, suc, List, [], ◌∷◌, ◌++◌, length, fold, Option, Some, None, refl, ap, sym, ◌∙◌, subst, arith, length-append, slice_get, inl, inr, ◌⊎◌}
use Rattle.std.specs.Option.{unwrap_or, ForSome, IfSome}
use Rattle.pc_names.specs.Chains.{chain_of, chain_around, with_block, chains_of, IsNested, AreBelow}

slice_get-left : {X : Type 0} (xs ys : List X) (i : ℕ) → i < length xs → slice_get (xs ++ ys) i ≡ slice_get xs i
slice_get-left [] ys i lt = absurd (omega arith)
slice_get-left (x ∷ xs) ys zero lt = refl
slice_get-left (x ∷ xs) ys (suc i) lt = slice_get-left xs ys i (omega arith)

slice_get-end : {X : Type 0} (xs : List X) (y : X) → slice_get (xs ++ y ∷ []) (length xs) ≡ Some y
slice_get-end [] y = refl
slice_get-end (x ∷ xs) y = slice_get-end xs y

-- an element of a list
pub element : {X : Type 0} (xs : List X) (i : ℕ) → i < length xs → (x : X) × (slice_get xs i ≡ Some x)
element [] i lt = absurd (omega arith)
element (x ∷ xs) zero lt = (x, refl)
element (x ∷ xs) (suc i) lt = element xs i (omega arith)

-- ---- how many there are

pub length-with_block : (cs : List (List ℕ)) (o : Option ℕ) → length (with_block cs o) ≡ length cs + 1
length-with_block cs o = length-append cs ((length cs ∷ chain_around cs o) ∷ [])

length-grown : (cs : List (List ℕ)) (os : List (Option ℕ)) → length (fold with_block cs os) ≡ length cs + length os
length-grown cs [] = omega arith
length-grown cs (o ∷ os) = omega (arith, length-grown (with_block cs o) os, length-with_block cs o)

-- as many chains as blocks
pub length-chains_of : (os : List (Option ℕ)) → length (chains_of os) ≡ length os
length-chains_of os = omega (arith, length-grown [] os)

-- ---- one more block

grown-end : (cs : List (List ℕ)) (os : List (Option ℕ)) (o : Option ℕ) → fold with_block cs (os ++ o ∷ []) ≡ with_block (fold with_block cs os) o
grown-end cs [] o = refl
grown-end cs (p ∷ os) o = grown-end (with_block cs p) os o

-- the chains with that of one more block
pub chains_of-end : (os : List (Option ℕ)) (o : Option ℕ) → chains_of (os ++ o ∷ []) ≡ with_block (chains_of os) o
chains_of-end os o = grown-end [] os o

-- ---- the chain of a block

-- the block, if there is one, has a smaller number
abbrev IsBelowIf : ℕ → Option ℕ → Type 0
IsBelowIf n None = Unit {0}
IsBelowIf n (Some a) = a < n

nested-below : (os : List (Option ℕ)) → IsNested os → (b : ℕ) (o : Option ℕ) → slice_get os b ≡ Some o → IsBelowIf b o
nested-below os nested b None at = tt
nested-below os nested b (Some a) at = nested b a at

grown-left : (cs : List (List ℕ)) (os : List (Option ℕ)) (i : ℕ) → i < length cs → slice_get (fold with_block cs os) i ≡ slice_get cs i
grown-left cs [] i lt = refl
grown-left cs (o ∷ os) i lt =
    grown-left (with_block cs o) os i (omega (arith, length-with_block cs o)) ∙ slice_get-left cs ((length cs ∷ chain_around cs o) ∷ []) i lt

around-grown : (cs : List (List ℕ)) (os : List (Option ℕ)) (o : Option ℕ) → IsBelowIf (length cs) o → chain_around (fold with_block cs os) o ≡ chain_around cs o
around-grown cs os None below = refl
around-grown cs os (Some a) below = ap (λ (r : Option (List ℕ)). unwrap_or r []) (grown-left cs os a below)

start-grown : (cs : List (List ℕ)) (p : Option ℕ) (os : List (Option ℕ)) → IsBelowIf (length cs) p →
    slice_get (fold with_block cs (p ∷ os)) (length cs) ≡ Some (length cs ∷ chain_around (fold with_block cs (p ∷ os)) p)
start-grown cs p os below =
    grown-left (with_block cs p) os (length cs) (omega (arith, length-with_block cs p)) ∙ slice_get-end cs (length cs ∷ chain_around cs p)
    ∙ ap (λ (c : List ℕ). Some (length cs ∷ c)) (sym (around-grown cs (p ∷ os) p below))

chain-grown : (cs : List (List ℕ)) (os : List (Option ℕ)) (k n : ℕ) (o : Option ℕ) → n ≡ length cs + k → slice_get os k ≡ Some o → IsBelowIf n o →
    slice_get (fold with_block cs os) n ≡ Some (n ∷ chain_around (fold with_block cs os) o)
chain-grown cs [] k n o is at below = cc
chain-grown cs (p ∷ os) zero n o is at below =
    let same : p ≡ o = cc in
    let first : n ≡ length cs = omega arith in
    subst (λ (m : ℕ). slice_get (fold with_block cs (p ∷ os)) m ≡ Some (m ∷ chain_around (fold with_block cs (p ∷ os)) o)) (sym first)
    (subst (λ (q : Option ℕ). slice_get (fold with_block cs (p ∷ os)) (length cs) ≡ Some (length cs ∷ chain_around (fold with_block cs (p ∷ os)) q)) same
    (start-grown cs p os (subst (λ (q : Option ℕ). IsBelowIf (length cs) q) (sym same) (subst (λ (m : ℕ). IsBelowIf m o) first below))))
chain-grown cs (p ∷ os) (suc k) n o is at below = chain-grown (with_block cs p) os k n o (omega (arith, length-with_block cs p)) at below

-- the chain of a block begins with it, and goes on with that of the block that it stands in
pub chain_of-chains_of : (os : List (Option ℕ)) → IsNested os → (b : ℕ) (o : Option ℕ) → slice_get os b ≡ Some o → chain_of (chains_of os) b ≡ b ∷ chain_around (chains_of os) o
chain_of-chains_of os nested b o at =
    ap (λ (r : Option (List ℕ)). unwrap_or r []) (chain-grown [] os b b o (omega arith) at (nested-below os nested b o at))

-- ---- the numbers of a chain

around-below : (cs : List (List ℕ)) (n b : ℕ) (o : Option ℕ) → IsBelowIf b o → ((a : ℕ) → a < b → AreBelow n (chain_of cs a)) → AreBelow n (chain_around cs o)
around-below cs n b None less each = tt
around-below cs n b (Some a) less each = each a less

chain-below : (fuel : ℕ) (os : List (Option ℕ)) → IsNested os → (n b : ℕ) → b < fuel → b < length os → b < n → AreBelow n (chain_of (chains_of os) b)
chain-below zero os nested n b fueled within below = absurd (omega arith)
chain-below (suc fuel) os nested n b fueled within below =
    let e : (o : Option ℕ) × (slice_get os b ≡ Some o) = element os b within in
    subst (AreBelow n) (sym (chain_of-chains_of os nested b e.0 e.1))
    (below, around-below (chains_of os) n b e.0 (nested-below os nested b e.0 e.1) (λ a less. chain-below fuel os nested n a (omega arith) (omega arith) (omega arith)))

-- the chain of a block has no larger numbers
pub AreBelow-chain_around : (os : List (Option ℕ)) → IsNested os → (n : ℕ) (o : Option ℕ) → ((a : ℕ) → o ≡ Some a → (a < n) × (a < length os)) → AreBelow n (chain_around (chains_of os) o)
AreBelow-chain_around os nested n None within = tt
AreBelow-chain_around os nested n (Some a) within = chain-below (suc a) os nested n a (omega arith) (within a refl).1 (within a refl).0

-- an element of a list with one more at its end is one of the list, or that one
end-cases : {X : Type 0} (xs : List X) (y x : X) (i : ℕ) → slice_get (xs ++ y ∷ []) i ≡ Some x → (slice_get xs i ≡ Some x) ⊎ ((i ≡ length xs) × (y ≡ x))
end-cases [] y x zero at = inr (refl, cc)
end-cases [] y x (suc i) at = cc
end-cases (z ∷ xs) y x zero at = inl at
end-cases (z ∷ xs) y x (suc i) at = elim (end-cases xs y x i at) [ inl h ↦ inl h | inr h ↦ inr (ap suc h.0, h.1) ]

-- one more block, that stands in one of those before
pub IsNested-end : (os : List (Option ℕ)) → IsNested os → (o : Option ℕ) → ((a : ℕ) → o ≡ Some a → a < length os) → IsNested (os ++ o ∷ [])
IsNested-end os nested o within b a at =
    elim (end-cases os o (Some a) b at) [ inl h ↦ nested b a h | inr h ↦ subst (λ (m : ℕ). a < m) (sym h.0) (within a h.1) ]

-- the block that a block stands in has a smaller number
pub less-if-some : (os : List (Option ℕ)) → IsNested os → (b : ℕ) (o : Option ℕ) → slice_get os b ≡ Some o → IfSome o (λ (a : ℕ). a < b)
less-if-some os nested b None at = tt
less-if-some os nested b (Some a) at = nested b a at

-- the chain of the block that a new block stands in has smaller numbers
pub below-begun : (os : List (Option ℕ)) → IsNested os → (cs : List (List ℕ)) → chains_of os ≡ cs → (o : Option ℕ) → ForSome o (λ (a : ℕ). a < length cs) →
    AreBelow (length cs) (chain_around cs o)
below-begun os nested cs is o within =
    subst (λ (v : List (List ℕ)). AreBelow (length cs) (chain_around v o)) is
    (AreBelow-chain_around os nested (length cs) o (λ a e. let less : a < length cs = within a e in (less, omega (arith, length-chains_of os, ap length is))))
