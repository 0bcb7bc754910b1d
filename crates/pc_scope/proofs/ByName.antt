-- Maps from names, as a change at one name tells them.
use Rattle.std.proofs.Common.{◌≡◌, ℕ, Bool, true, false, List, refl, ap, sym, ◌∙◌, subst}
use Rattle.std.specs.Prelude.{Option, if◌then◌else◌}
use Rattle.std.specs.HashMap.{HashMap, get_by, UpdatesBy}
use Rattle.std.specs.Map.{lookup, IsKeyTest, AreApart, KeepsOthers}
use Rattle.std.specs.Str.{bytes_eq}
use Rattle.pc_scope.proofs.Firsts.{bytes-same, bytes-other, bytes-not}

module _ {K : Type 0} (eq : K → K → Bool) (test : K → Bool) where
  other-entries : {X : Type 0} (old new : List (K × X)) → KeepsOthers eq test old new → (other : K → Bool) → IsKeyTest eq other → AreApart test other → lookup other new ≡ lookup other old
  unfolding KeepsOthers
  other-entries old new h = h

module _ {K X S : Type 0} (f : K → List ℕ) (m n : HashMap K X S) (name : List ℕ) (w : Option X) (h : UpdatesBy (λ x y. bytes_eq (f x) (f y)) (λ k. bytes_eq name (f k)) m n w) where
  updates-by : (q : List ℕ) (b : Bool) → bytes_eq name q ≡ b → get_by (λ k. bytes_eq q (f k)) n ≡ (if b then w else get_by (λ k. bytes_eq q (f k)) m)
  updates-by q true e =
      let P : List ℕ → Type 0 = λ l. get_by (λ k. bytes_eq l (f k)) n ≡ w in
      subst P (bytes-same name q e) h.1
  updates-by q false e =
      other-entries (λ x y. bytes_eq (f x) (f y)) (λ k. bytes_eq name (f k)) m.entries n.entries h.3 (λ k. bytes_eq q (f k))
      (λ x y t. ap (λ l. bytes_eq l (f y)) (bytes-same q (f x) t))
      (λ k t. bytes-not q (f k) (λ s. bytes-other name q e (bytes-same name (f k) t ∙ sym s)))

  -- what is at each name then
  pub updates : (q : List ℕ) → get_by (λ k. bytes_eq q (f k)) n ≡ (if bytes_eq name q then w else get_by (λ k. bytes_eq q (f k)) m)
  updates q = updates-by q (bytes_eq name q) refl
