-- Lists that ascend by an order: lemmas.
use Rattle.std.specs.Prelude.{◌≡◌, ℕ, ◌<◌, ◌≤◌, Bool, true, false, List, [], ◌∷◌, length, suc, cond, filter}
use Rattle.std.proofs.Common.{refl, ap, sym, ◌∙◌, get_or, arith}
use Rattle.std.specs.Cmp.{IsStrictWeakOrder}
use Rattle.std.specs.List.Sorted.{ties}

module _ {X : Type 0} (lt : X → X → Bool) where
  -- no element of the list comes before this one
  abbrev pub IsFirst : X → List X → Type 0
  IsFirst x [] = Unit {0}
  IsFirst x (y ∷ ys) = (lt y x ≡ false) × IsFirst x ys

  -- no element comes before one that stands earlier
  abbrev pub Ascends : List X → Type 0
  Ascends [] = Unit {0}
  Ascends (x ∷ xs) = IsFirst x xs × Ascends xs

  IsFirst-far : (x : X) (xs : List X) → ((j : ℕ) → j < length xs → lt (get_or xs j x) x ≡ false) → IsFirst x xs
  IsFirst-far x [] far = tt
  IsFirst-far x (y ∷ ys) far = (far 0 (omega arith), IsFirst-far x ys (λ j h. far (suc j) (omega arith)))

  -- a list as a sort leaves it
  pub Ascends-far : (xs : List X) → ((i j : ℕ) (d : X) → i ≤ j → j < length xs → lt (get_or xs j d) (get_or xs i d) ≡ false) → Ascends xs
  Ascends-far [] far = tt
  Ascends-far (x ∷ xs) far = (IsFirst-far x xs (λ j h. far 0 (suc j) x (omega arith) (omega arith)), Ascends-far xs (λ i j d h k. far (suc i) (suc j) d (omega arith) (omega arith)))

module _ {X : Type 0} (lt : X → X → Bool) (order : IsStrictWeakOrder lt) where
  not_itself : (x : X) → lt x x ≡ false
  not_itself x = elim (lt x x) as (λ b. lt x x ≡ b → lt x x ≡ false) [ true ↦ λ e. order.one_way x x e | false ↦ λ e. e ] refl

  ties-itself : (x : X) → ties lt x x ≡ true
  ties-itself x = grind (arith, not_itself x)

  -- two elements that tie with a third one tie
  pub ties-both : (x y z : X) → ties lt z x ≡ true → ties lt z y ≡ true → lt x y ≡ false
  ties-both x y z e f = order.chain x z y (grind arith) (grind arith)

  -- an element of a list, at the head of what the list has of some elements, comes before none that is first
  not_before_first : (test : X → Bool) (x y : X) (xs rest : List X) → IsFirst lt y xs → x ∷ rest ≡ filter test xs → lt x y ≡ false
  not_before_first test x y [] rest first e = cc
  not_before_first test x y (z ∷ xs) rest first e =
      elim (test z) as (λ b. x ∷ rest ≡ cond b (z ∷ filter test xs) (filter test xs) → lt x y ≡ false) [
        | true ↦ λ h. let same : x ≡ z = cc in rw (sym same) at first.0
        | false ↦ λ h. not_before_first test x y xs rest first.1 h
      ] e

  -- two lists that ascend and have the same elements in each class of those that tie, in the same order, are one
  pub Ascends-unique : (xs ys : List X) → Ascends lt xs → Ascends lt ys → ((x : X) → filter (ties lt x) xs ≡ filter (ties lt x) ys) → xs ≡ ys
  Ascends-unique [] [] up vp same = refl
  Ascends-unique [] (y ∷ ys) up vp same = let e = same y in let t = ties-itself y in grind arith
  Ascends-unique (x ∷ xs) [] up vp same = let e = same x in let t = ties-itself x in grind arith
  Ascends-unique (x ∷ xs) (y ∷ ys) up vp same =
      let t = ties-itself x in
      let u = ties-itself y in
      let e : x ∷ filter (ties lt x) xs ≡ filter (ties lt x) (y ∷ ys) = sym (ap (λ b. cond b (x ∷ filter (ties lt x) xs) (filter (ties lt x) xs)) t) ∙ same x in
      let f : y ∷ filter (ties lt y) ys ≡ filter (ties lt y) (x ∷ xs) = sym (ap (λ b. cond b (y ∷ filter (ties lt y) ys) (filter (ties lt y) ys)) u) ∙ sym (same y) in
      let a = not_before_first (ties lt x) x y (y ∷ ys) (filter (ties lt x) xs) (not_itself y, vp.0) e in
      let b = not_before_first (ties lt y) y x (x ∷ xs) (filter (ties lt y) ys) (not_itself x, up.0) f in
      let tie : ties lt x y ≡ true = grind (arith, a, b) in
      let heads : x ≡ y = grind (arith, tie, e) in
      let below : (z : X) → filter (ties lt z) xs ≡ filter (ties lt z) ys = λ z. let g = same z in let h = ap (ties lt z) heads in grind (arith, g, h, heads) in
      let tails = Ascends-unique xs ys up.1 vp.1 below in
      cc
