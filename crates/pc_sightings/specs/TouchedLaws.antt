-- Variables that were touched, by their numbers and as the rules have them: lemmas.
use Rattle.std.proofs.Common.{◌≡◌, ◌++◌, ℕ, ◌<◌, Bool, true, false, ◌&&◌, ◌||◌, nat_eq, List, [], ◌∷◌, length, get_or, slice_get, Option, None, Some, refl, ap, sym, ◌∙◌, subst, arith}
use Rattle.std.specs.Str.{bytes_eq}
use Rattle.std.proofs.lemmas.Bool.Decides.{nat_tests}
use Rattle.std.proofs.lemmas.List.{drop_at}
use Rattle.std.proofs.lemmas.Slice.Eq.{bytes_eq-Decides}
use Rattle.pc_types.specs.Sameness.{same_owner}
use Rattle.pc_types.specs.Shapes.{Owner}
use Rattle.pc_types.specs.Table.{nobody}
use Rattle.pc_rules.specs.ForStatements.{stands_among}
use Rattle.pc_names.specs.Numbers.{AreDistinct}
use Rattle.pc_facts.specs.Known.{Known}
use Rattle.pc_facts.specs.Shows.{ShowsVariable}
use Rattle.pc_facts.specs.declared.sighting.Variable.{Variable}
use Rattle.pc_sightings.specs.TouchedLog.{noted, stands_since, stands_in, ShowsVariableAt, ShowsTouched, AreApart}

same-name : (names : List (List ℕ)) → AreDistinct names → (i j : ℕ) (n m : List ℕ) → slice_get names i ≡ Some n → slice_get names j ≡ Some m → bytes_eq m n ≡ nat_eq i j
same-name names apart i j n m at bt = by (bytes_eq m n) (nat_eq i j) refl refl
  where
    by : (b c : Bool) → bytes_eq m n ≡ b → nat_eq i j ≡ c → bytes_eq m n ≡ nat_eq i j
    by true true e f = e ∙ sym f
    by false false e f = e ∙ sym f
    by true false e f =
        let same : m ≡ n = (bytes_eq-Decides m n).0 e in
        let equal : i ≡ j = apart i j n at (subst (λ (x : List ℕ). slice_get names j ≡ Some x) same bt) in absurd (grind (arith, nat_tests))
    by false true e f =
        let equal : i ≡ j = grind (arith, nat_tests) in
        let both : Some m ≡ Some n = sym bt ∙ ap (slice_get names) (sym equal) ∙ at in
        let same : m ≡ n = cc in
        let t : bytes_eq m n ≡ true = (bytes_eq-Decides m n).1 same in cc

turned : (i j : ℕ) → nat_eq i j ≡ nat_eq j i
turned i j = grind (arith, nat_tests)

same-owner : (owners : List Owner) → AreApart owners → (i j : ℕ) (a b : Owner) → get_or owners i nobody ≡ a → i < length owners → get_or owners j nobody ≡ b → j < length owners →
    same_owner b a ≡ nat_eq i j
same-owner owners apart i j a b at within bt after =
    (λ q. same_owner (sym bt q) (sym at q)) ∙ apart j i after within ∙ turned j i

-- a variable stands among those that were touched exactly where its numbers stand among theirs
pub stands_among-numbers : (owners : List Owner) (names : List (List ℕ)) → AreApart owners → AreDistinct names → (vs : List (ℕ × ℕ)) (ws : List (Owner × List ℕ)) → ShowsTouched owners names vs ws →
    (v : ℕ × ℕ) (w : Owner × List ℕ) → ShowsVariableAt owners names v w → stands_among ws w.0 w.1 ≡ stands_in vs v
stands_among-numbers owners names apart distinct [] [] shown v w is = refl
stands_among-numbers owners names apart distinct (x ∷ vs) (y ∷ ws) shown v w is =
    let one : same_owner y.0 w.0 ≡ nat_eq v.0 x.0 = same-owner owners apart v.0 x.0 w.0 y.0 is.0 is.1 shown.0.0 shown.0.1 in
    let other : bytes_eq y.1 w.1 ≡ nat_eq v.1 x.1 = same-name names distinct v.1 x.1 w.1 y.1 is.2 shown.0.2 in
    let rest : stands_among ws w.0 w.1 ≡ stands_in vs v = stands_among-numbers owners names apart distinct vs ws shown.1 v w is in
    (λ i. (one i && other i) || rest i)
stands_among-numbers owners names apart distinct [] (y ∷ ws) shown v w is = absurd shown
stands_among-numbers owners names apart distinct (x ∷ vs) [] shown v w is = absurd shown

-- ---- a log as it grows

-- no variable
pub ShowsTouched-none : (owners : List Owner) (names : List (List ℕ)) → ShowsTouched owners names [] []
ShowsTouched-none owners names = tt

-- the variable that a node names, if it names one
pub ShowsTouched-noted : (k : Known) (o : Option Variable) (ws : List (Owner × List ℕ)) → ShowsVariable k o ws → ShowsTouched k.table.owners k.names (noted o) ws
ShowsTouched-noted k None [] is = tt
ShowsTouched-noted k (Some v) (w ∷ []) is = (is, tt)
ShowsTouched-noted k o ws is = absurd is

-- variables behind others
pub ShowsTouched-append : (owners : List Owner) (names : List (List ℕ)) (vs : List (ℕ × ℕ)) (ws : List (Owner × List ℕ)) (xs : List (ℕ × ℕ)) (ys : List (Owner × List ℕ)) →
    ShowsTouched owners names vs ws → ShowsTouched owners names xs ys → ShowsTouched owners names (vs ++ xs) (ws ++ ys)
ShowsTouched-append owners names [] [] xs ys one other = other
ShowsTouched-append owners names (v ∷ vs) (w ∷ ws) xs ys one other = (one.0, ShowsTouched-append owners names vs ws xs ys one.1 other)
ShowsTouched-append owners names [] (w ∷ ws) xs ys one other = absurd one
ShowsTouched-append owners names (v ∷ vs) [] xs ys one other = absurd one

-- since a mark only what stands behind it counts
pub stands_since-behind : (before behind : List (ℕ × ℕ)) (v : ℕ × ℕ) → stands_since (length before) (before ++ behind) v ≡ stands_in behind v
stands_since-behind before behind v = ap (λ (xs : List (ℕ × ℕ)). stands_in xs v) (drop_at before behind (length before) refl)
