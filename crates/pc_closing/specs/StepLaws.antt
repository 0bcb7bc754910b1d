-- The steps of the loop that finds all that leads to a type that was found.
use Rattle.std.proofs.Common.{◌≡◌, ℕ, ◌+◌, ◌-◌, ◌<◌, ◌≤◌, Bool, true, false, List, [], ◌∷◌, Some, None, get_or, length, slice_get, sym, ◌∙◌, ap, subst, arith, inl, inr}
use Rattle.std.proofs.lemmas.Option.{slice_get_cases, slice_get_within, get_or_from_slice_get, none-some}
use Rattle.pc_closing.specs.Search.{Marks, enter_all, trues}
use Rattle.pc_closing.specs.SpreadLaws.{spreads-more}
use Rattle.pc_closing.specs.Searched.{Spreads}

pub spread-step : (us : List (List ℕ)) (m n o : Marks) (at part : ℕ) (is : List ℕ) → slice_get n.found at ≡ Some part → is ≡ get_or us part [] → o ≡ enter_all is n → Spreads us m n at →
    Spreads us m o (at + 1)
spread-step us m n o at part is e f g s =
    let same : get_or n.found at 0 ≡ part = get_or_from_slice_get n.found at part 0 e in
    let users : get_or us (get_or n.found at 0) [] ≡ is = ap (λ (k : ℕ). get_or us k []) same ∙ sym f in
    subst (λ (p : Marks). Spreads us m p (at + 1)) (ap (λ (l : List ℕ). enter_all l n) users ∙ sym g) (spreads-more us m n at (slice_get_within n.found at part e) s)

-- there are not more types that count as whole than types
trues-few : (xs : List Bool) → trues xs ≤ length xs
trues-few [] = omega arith
trues-few (true ∷ xs) = omega (arith, trues-few xs)
trues-few (false ∷ xs) = omega (arith, trues-few xs)

pub spread-within : (us : List (List ℕ)) (m n : Marks) (at part : ℕ) → slice_get n.found at ≡ Some part → Spreads us m n at → at < length n.whole
spread-within us m n at part e s = omega (arith, slice_get_within n.found at part e, s.count)

pub spread-smaller : (us : List (List ℕ)) (m n o : Marks) (at part : ℕ) → slice_get n.found at ≡ Some part → Spreads us m n at → Spreads us m o (at + 1) →
    length o.whole - (at + 1) < length n.whole - at
spread-smaller us m n o at part e s t = omega (arith, spread-within us m n at part e s, s.marks, t.marks)

pub spread-end : (us : List (List ℕ)) (m n : Marks) (at : ℕ) → slice_get n.found at ≡ None → Spreads us m n at → Spreads us m n (length n.found)
spread-end us m n at e s = elim (slice_get_cases n.found at).1 [
  | inl p ↦ absurd (none-some p.0 (sym e ∙ p.2))
  | inr p ↦
      let same : at ≡ length n.found = omega (arith, p.0, s.within) in
      subst (Spreads us m n) same s
]
