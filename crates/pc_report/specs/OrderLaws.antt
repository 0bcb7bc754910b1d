-- The order of two entries: lemmas.
use Rattle.std.specs.Prelude.{◌≡◌, ℕ, Bool, true, false, nat_lt, List, [], ◌∷◌}
use Rattle.std.proofs.Common.{refl, arith}
use Rattle.std.proofs.lemmas.Bool.Decides.{nat_tests}
use Rattle.std.proofs.lemmas.Grind.{common_steps}
use Rattle.std.specs.Cmp.{IsStrictWeakOrder}
use Rattle.std.specs.Cmp.Lexicographic.{slice_cmp}
use Rattle.std.specs.Ordering.{is_lt, ordering_then, nat_cmp}
use Rattle.pc_rules.specs.Errors.{comes_first}
use Rattle.pc_report.specs.Order.{is_before}

-- of two places none stands before the other where that one stands before it
comes_first-one_way : (p q : List ℕ) (s t : Bool) → (s ≡ true → t ≡ false) → comes_first p q s ≡ true → comes_first q p t ≡ false
comes_first-one_way [] [] s t h e = h e
comes_first-one_way [] (j ∷ q) s t h e = refl
comes_first-one_way (i ∷ p) [] s t h e = grind (arith, common_steps)
comes_first-one_way (i ∷ p) (j ∷ q) s t h e = let k = comes_first-one_way p q s t h in grind (arith, nat_tests, k)

-- what does not stand before a second place, which does not stand before a third one, does not stand before the third
comes_first-chain : (p q r : List ℕ) (s t u : Bool) → (s ≡ false → t ≡ false → u ≡ false) → comes_first p q s ≡ false → comes_first q r t ≡ false → comes_first p r u ≡ false
comes_first-chain [] [] [] s t u h e f = h e f
comes_first-chain [] [] (k ∷ r) s t u h e f = grind (arith, common_steps)
comes_first-chain [] (j ∷ q) r s t u h e f = grind (arith, common_steps)
comes_first-chain (i ∷ p) q [] s t u h e f = refl
comes_first-chain (i ∷ p) [] (k ∷ r) s t u h e f = grind (arith, common_steps)
comes_first-chain (i ∷ p) (j ∷ q) (k ∷ r) s t u h e f = let g = comes_first-chain p q r s t u h in grind (arith, nat_tests, g)

-- any two entries compare
pub is_before-IsStrictWeakOrder : IsStrictWeakOrder is_before
is_before-IsStrictWeakOrder = record {
  one_way = λ e f is. comes_first-one_way e.place f.place (nat_lt e.row f.row) (nat_lt f.row e.row) (λ h. grind (arith, nat_tests)) is;
  chain = λ e f g is so. comes_first-chain e.place f.place g.place (nat_lt e.row f.row) (nat_lt f.row g.row) (nat_lt e.row g.row) (λ h k. grind (arith, nat_tests)) is so;
}

-- what comparisons of places and rows tell
pub is_lt-places : (p q : List ℕ) (m n : ℕ) → is_lt (ordering_then (slice_cmp nat_cmp p q) (nat_cmp m n)) ≡ comes_first p q (nat_lt m n)
is_lt-places [] [] m n = grind (arith, nat_tests)
is_lt-places [] (j ∷ q) m n = refl
is_lt-places (i ∷ p) [] m n = refl
is_lt-places (i ∷ p) (j ∷ q) m n = let e = is_lt-places p q m n in grind (arith, nat_tests, e)

pub ruleset comparing = (is_lt-places, nat_tests)
