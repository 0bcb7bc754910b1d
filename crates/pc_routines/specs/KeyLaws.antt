-- What a table has for a heading, once more is put into it, and as more names get numbers: lemmas.
use Rattle.std.proofs.Common.{◌≡◌, ◌<◌, ◌≤◌, ℕ, Bool, true, false, ◌&&◌, nat_eq, suc, List, [], ◌∷◌, ◌++◌, length, Option, Some, None, refl, ap, sym, ◌∙◌, arith, if◌then◌else◌}
use Rattle.std.proofs.lemmas.Bool.Decides.{nat_tests}
use Rattle.std.proofs.lemmas.Option.{slice_get_within}
use Rattle.std.specs.Option.{option_and_then, option_map}
use Rattle.std.specs.Str.{bytes_eq}
use Rattle.pc_names.specs.Numbers.{number_of}
use Rattle.pc_names.specs.TableLaws.{slice_get-number_of}
use Rattle.pc_names.specs.declared.id.NameId.{NameId}
use Rattle.pc_scope.specs.Headings.{Heading, pairs}
use Rattle.pc_growth.specs.Grows.{Begins}
use Rattle.pc_places.specs.NumberingLaws.{number_of-begins}
use Rattle.pc_routines.specs.Heads.{ShowsHeadName, side, numbered, found_for, found_at}
use Rattle.pc_routines.specs.PairsLaws.{pairs-unnamed, key-pairs, unnumbered-pairs, Alike, alike}

-- ---- what a table has for a heading

named-case : {X : Type 0} (has : ℕ → ℕ → Option X) (names : List (List ℕ)) (h : Heading) (n : List ℕ) → h.name ≡ n → found_for has names h ≡ option_and_then (λ i. has i (side h.is_function)) (numbered names n)
named-case {X} has names h n e = ap (λ (q : List ℕ). option_and_then (λ i. has i (side h.is_function)) (numbered names q)) e

-- a table for headings, after one thing was put at a key
pub found_for-put : {X : Type 0} (old new : ℕ → ℕ → Option X) (v : Option X) (names : List (List ℕ)) (g h : Heading) (j : ℕ) →
    ((i s : ℕ) → new i s ≡ (if nat_eq j i && nat_eq (side g.is_function) s then v else old i s)) → number_of names g.name ≡ Some j →
    found_for new names h ≡ (if pairs h g then v else found_for old names h)
found_for-put {X} old new v names g h j put is = by h.name refl
  where
    at : (n : List ℕ) → (c : ℕ) (cs : List ℕ) → n ≡ c ∷ cs → h.name ≡ n → (o : Option ℕ) → number_of names n ≡ o →
        option_and_then (λ i. new i (side h.is_function)) o ≡ (if pairs h g then v else option_and_then (λ i. old i (side h.is_function)) o)
    at n c cs cons e None none =
        sym (ap (λ (b : Bool). if b then v else None) (unnumbered-pairs names h g j (ap (number_of names) e ∙ none) is))
    at n c cs cons e (Some i) some =
        put i (side h.is_function) ∙ ap (λ (b : Bool). if b then v else old i (side h.is_function)) (key-pairs names h g c cs i j (e ∙ cons) (ap (number_of names) e ∙ some) is)

    by : (n : List ℕ) → h.name ≡ n → found_for new names h ≡ (if pairs h g then v else found_for old names h)
    by [] e =
        named-case new names h [] e ∙ sym (named-case old names h [] e) ∙ sym (ap (λ (b : Bool). if b then v else found_for old names h) (pairs-unnamed h g e))
    by (c ∷ cs) e =
        named-case new names h (c ∷ cs) e ∙ at (c ∷ cs) c cs refl e (number_of names (c ∷ cs)) refl
        ∙ ap (λ (o : Option X). if pairs h g then v else o) (sym (named-case old names h (c ∷ cs) e))

-- a table that has nothing at numbers that no name has has nothing there after it either
pub within-put : {X : Type 0} (old new : ℕ → ℕ → Option X) (v : Option X) (names : List (List ℕ)) (n : List ℕ) (j t : ℕ) →
    ((i s : ℕ) → new i s ≡ (if nat_eq j i && nat_eq t s then v else old i s)) → number_of names n ≡ Some j → ((i s : ℕ) → length names ≤ i → old i s ≡ None) →
    (i s : ℕ) → length names ≤ i → new i s ≡ None
within-put {X} old new v names n j t put is within i s far =
    let near : j < length names = slice_get_within names j n (slice_get-number_of names n j is) in
    let apart : nat_eq j i ≡ false = grind (arith, nat_tests) in
    put i s ∙ ap (λ (b : Bool). if b && nat_eq t s then v else old i s) apart ∙ within i s far

-- a heading that pairs with one that has a number is found there
pub found_for-paired : {X : Type 0} (has : ℕ → ℕ → Option X) (names : List (List ℕ)) (h g : Heading) → pairs h g ≡ true → found_for has names h ≡ found_for has names g
found_for-paired {X} has names h g e =
    let a : Alike h g = alike h g e in
    λ i. option_and_then (λ k. has k (side (a.side_is i))) (numbered names (a.name i))

-- a heading by numbers is found where the heading is
pub found_at-is : {X : Type 0} (has : ℕ → ℕ → Option X) (names : List (List ℕ)) (x : Option NameId) (h : Heading) → ShowsHeadName names x h.name → found_at has x h.is_function ≡ found_for has names h
found_at-is {X} has names x h shows = by x h.name shows
  where
    by : (y : Option NameId) (n : List ℕ) → ShowsHeadName names y n → found_at has y h.is_function ≡ option_and_then (λ i. has i (side h.is_function)) (numbered names n)
    by None n e = sym (ap (λ (q : List ℕ). option_and_then (λ i. has i (side h.is_function)) (numbered names q)) e)
    by (Some i) [] e = absurd e
    by (Some i) (c ∷ cs) e = sym (ap (option_and_then (λ k. has k (side h.is_function))) e)

-- ---- as more names get numbers

pub ShowsHeadName-grows : (ms ns : List (List ℕ)) (x : Option NameId) (n : List ℕ) → Begins ms ns → ShowsHeadName ms x n → ShowsHeadName ns x n
ShowsHeadName-grows ms ns None n b e = e
ShowsHeadName-grows ms ns (Some i) [] b e = e
ShowsHeadName-grows ms ns (Some i) (c ∷ cs) b e = number_of-begins ms ns (c ∷ cs) i.0 b e

-- a name that gets a number gets one behind those that were there
behind-those : (ms more : List (List ℕ)) (n : List ℕ) (i : ℕ) → number_of ms n ≡ None → number_of (ms ++ more) n ≡ Some i → length ms ≤ i
behind-those [] more n i none some = omega arith
behind-those (m ∷ ms) more n i none some = by (bytes_eq n m) (number_of ms n) (number_of (ms ++ more) n) i (λ k a b. behind-those ms more n k a b) none some
  where
    by : (b : Bool) (o p : Option ℕ) (k : ℕ) → ((q : ℕ) → o ≡ None → p ≡ Some q → length ms ≤ q) → (if b then Some 0 else option_map suc o) ≡ None → (if b then Some 0 else option_map suc p) ≡ Some k →
        length (m ∷ ms) ≤ k
    by true o p k rest e f = cc
    by false (Some q) p k rest e f = cc
    by false None None k rest e f = cc
    by false None (Some q) k rest e f = let less : length ms ≤ q = rest q refl refl in let same : suc q ≡ k = cc in omega arith

-- a table that has nothing at numbers that no name had has the same for each heading
pub found_for-grows : {X : Type 0} (has : ℕ → ℕ → Option X) (ms ns : List (List ℕ)) (h : Heading) → Begins ms ns → ((i s : ℕ) → length ms ≤ i → has i s ≡ None) → found_for has ns h ≡ found_for has ms h
found_for-grows {X} has ms ns h b within = by h.name
  where
    at : (n : List ℕ) (o p : Option ℕ) → number_of ms n ≡ o → number_of ns n ≡ p → option_and_then (λ i. has i (side h.is_function)) p ≡ option_and_then (λ i. has i (side h.is_function)) o
    at n (Some i) p e f = ap (option_and_then (λ k. has k (side h.is_function))) (sym f ∙ number_of-begins ms ns n i b e)
    at n None None e f = refl
    at n None (Some i) e f = within i (side h.is_function) (behind-those ms b.more n i e (ap (λ (xs : List (List ℕ)). number_of xs n) (sym b.is) ∙ f))

    by : (n : List ℕ) → option_and_then (λ i. has i (side h.is_function)) (numbered ns n) ≡ option_and_then (λ i. has i (side h.is_function)) (numbered ms n)
    by [] = refl
    by (c ∷ cs) = at (c ∷ cs) (number_of ms (c ∷ cs)) (number_of ns (c ∷ cs)) refl refl
