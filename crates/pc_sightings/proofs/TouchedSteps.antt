-- The last place of each variable that was touched.
use Rattle.std.proofs.Common.{◌≡◌, ◌++◌, ℕ, zero, suc, Bool, true, false, ◌&&◌, ◌||◌, nat_eq, nat_le, List, [], ◌∷◌, length, Option, Some, None, refl, ap, sym, ◌∙◌, arith, if◌then◌else◌}
use Rattle.std.proofs.lemmas.Bool.Decides.{nat_tests}
use Rattle.std.specs.Map.{lookup}
use Rattle.pc_sightings.specs.TouchedLog.{is_variable, stands_in, stands_since, place_or, last_place, HasLast}

turned : (a b : ℕ) → nat_eq a b ≡ nat_eq b a
turned a b = grind (arith, nat_tests)

is_variable-turned : (v w : ℕ × ℕ) → is_variable v w ≡ is_variable w v
is_variable-turned v w = λ i. turned v.0 w.0 i && turned v.1 w.1 i

-- ---- one more variable

place-end : (b c : Bool) (k : ℕ) (o p : Option ℕ) → p ≡ (if b then Some k else o) → place_or p c ≡ (if b then Some (suc k) else place_or o c)
place-end true c k o p e = ap (λ (q : Option ℕ). place_or q c) e
place-end false c k o p e = ap (λ (q : Option ℕ). place_or q c) e

last_place-end : (ws : List (ℕ × ℕ)) (v q : ℕ × ℕ) → last_place (ws ++ v ∷ []) q ≡ (if is_variable v q then Some (length ws) else last_place ws q)
last_place-end [] v q = ap (λ (b : Bool). if b then Some 0 else None) (is_variable-turned q v)
last_place-end (w ∷ ws) v q = place-end (is_variable v q) (is_variable q w) (length ws) (last_place ws q) (last_place (ws ++ v ∷ []) q) (last_place-end ws v q)

-- the last places are kept where the new one is noted
pub HasLast-end : (ws more : List (ℕ × ℕ)) (entries new : List ((ℕ × ℕ) × ℕ)) (v : ℕ × ℕ) (k : ℕ) → HasLast ws entries → more ≡ ws ++ v ∷ [] → k ≡ length ws →
    ((q : ℕ × ℕ) → lookup (is_variable q) new ≡ (if is_variable v q then Some k else lookup (is_variable q) entries)) → HasLast more new
HasLast-end ws more entries new v k has grown place changes q =
    changes q
    ∙ ap (λ (j : ℕ). if is_variable v q then Some j else lookup (is_variable q) entries) place
    ∙ ap (λ (o : Option ℕ). if is_variable v q then Some (length ws) else o) (has q)
    ∙ sym (last_place-end ws v q)
    ∙ ap (λ (xs : List (ℕ × ℕ)). last_place xs q) (sym grown)

-- ---- since a mark

-- whether a place is not before a mark
abbrev is_since : ℕ → Option ℕ → Bool
is_since mark None = false
is_since mark (Some i) = nat_le mark i

since-first : (b s : Bool) (o : Option ℕ) → s ≡ is_since 0 o → (b || s) ≡ is_since 0 (place_or o b)
since-first true s (Some i) e = let t : nat_le 0 (suc i) ≡ true = grind (arith, nat_tests) in sym t
since-first false s (Some i) e = let t : nat_le 0 (suc i) ≡ true = grind (arith, nat_tests) in let u : nat_le 0 i ≡ true = grind (arith, nat_tests) in e ∙ u ∙ sym t
since-first true s None e = let t : nat_le 0 0 ≡ true = grind (arith, nat_tests) in sym t
since-first false s None e = e

since-later : (b : Bool) (mark : ℕ) (o : Option ℕ) → is_since mark o ≡ is_since (suc mark) (place_or o b)
since-later b mark (Some i) = grind (arith, nat_tests)
since-later true mark None = grind (arith, nat_tests)
since-later false mark None = refl

stands_since-place : (mark : ℕ) (ws : List (ℕ × ℕ)) (v : ℕ × ℕ) → stands_since mark ws v ≡ is_since mark (last_place ws v)
stands_since-place zero [] v = refl
stands_since-place (suc mark) [] v = refl
stands_since-place zero (w ∷ ws) v = since-first (is_variable v w) (stands_in ws v) (last_place ws v) (stands_since-place zero ws v)
stands_since-place (suc mark) (w ∷ ws) v = stands_since-place mark ws v ∙ since-later (is_variable v w) mark (last_place ws v)

-- a variable with a last place was touched since the mark where that is not before it
pub since-some : (mark : ℕ) (ws log : List (ℕ × ℕ)) (entries : List ((ℕ × ℕ) × ℕ)) (v : ℕ × ℕ) (i : ℕ) → HasLast ws entries → ws ≡ log → lookup (is_variable v) entries ≡ Some i →
    nat_le mark i ≡ stands_since mark log v
since-some mark ws log entries v i has same at =
    sym (stands_since-place mark log v ∙ ap (λ (xs : List (ℕ × ℕ)). is_since mark (last_place xs v)) (sym same) ∙ ap (is_since mark) (sym (has v) ∙ at))

-- one without was not touched
pub since-none : (mark : ℕ) (ws log : List (ℕ × ℕ)) (entries : List ((ℕ × ℕ) × ℕ)) (v : ℕ × ℕ) → HasLast ws entries → ws ≡ log → lookup (is_variable v) entries ≡ None →
    false ≡ stands_since mark log v
since-none mark ws log entries v has same at =
    sym (stands_since-place mark log v ∙ ap (λ (xs : List (ℕ × ℕ)). is_since mark (last_place xs v)) (sym same) ∙ ap (is_since mark) (sym (has v) ∙ at))
