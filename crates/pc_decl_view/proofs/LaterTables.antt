-- The table of later declarations, from the last routine on.
use Rattle.std.proofs.Common.{◌≡◌, ℕ, ◌-◌, ◌+◌, ◌<◌, ◌≤◌, Bool, true, false, cond, List, ◌∷◌, length, get_or, drop, sym, ap, ◌∙◌, arith, Option, Some, None}
use Rattle.std.specs.Prelude.{slice_get}
use Rattle.std.specs.Option.{option_and_then}
use Rattle.std.specs.List.{find}
use Rattle.std.proofs.lemmas.List.{drop_more}
use Rattle.std.proofs.lemmas.Option.{slice_get-get_or}

-- a table leads to the first of some elements that passes
abbrev pub LeadsTo : {X : Type 0} → (ℕ → X → Bool) → List X → List (Option ℕ) → List X → Type 0
LeadsTo test whole table xs = (n : ℕ) → option_and_then (slice_get whole) (get_or table n None) ≡ find (test n) xs

-- the element before them counts where it passes
pub leads-more : {X : Type 0} (test : ℕ → X → Bool) (whole : List X) (table table' : List (Option ℕ)) (i : ℕ) (x : X) → 0 < i → i ≤ length whole → x ≡ get_or whole (i - 1) x →
    ((n : ℕ) → get_or table' n None ≡ cond (test n x) (Some (i - 1)) (get_or table n None)) → LeadsTo test whole table (drop i whole) → LeadsTo test whole table' (drop (i - 1) whole)
leads-more {X} test whole table table' i x some within is put before n =
    let less : i - 1 < length whole = omega (arith, some, within) in
    let next : (i - 1) + 1 ≡ i = omega (arith, some) in
    let first : drop (i - 1) whole ≡ x ∷ drop i whole =
    drop_more whole (i - 1) x less ∙ ap (λ (y : X). y ∷ drop ((i - 1) + 1) whole) (sym is) ∙ ap (λ (m : ℕ). x ∷ drop m whole) next in
    let here : slice_get whole (i - 1) ≡ Some x = slice_get-get_or whole (i - 1) x less ∙ ap Some (sym is) in
    ap (option_and_then (slice_get whole)) (put n) ∙ which (test n x) here (before n) ∙ sym (ap (find (test n)) first) where
      which : (z : Bool) → slice_get whole (i - 1) ≡ Some x → option_and_then (slice_get whole) (get_or table n None) ≡ find (test n) (drop i whole) →
          option_and_then (slice_get whole) (cond z (Some (i - 1)) (get_or table n None)) ≡ cond z (Some x) (find (test n) (drop i whole))
      which true here rest = here
      which false here rest = rest
