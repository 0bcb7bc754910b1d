-- Names by their numbers, as a set in order of insertion tells them.
use Rattle.std.proofs.Common.{◌≡◌, ℕ, ◌+◌, ◌<◌, Bool, true, false, not, ◌||◌, cond, suc, List, [], ◌∷◌, ◌++◌, length, map, position, nat_lt, Option, Some, None, refl, ap, ◌∙◌, arith, if◌then◌else◌, slice_get, inl, inr, ◌⊎◌, zero, sym}
use Rattle.std.proofs.lemmas.Bool.Decides.{nat_tests}
use Rattle.std.specs.List.{position_or_len, list_any}
use Rattle.std.proofs.lemmas.Slice.Eq.{bytes_eq-Decides}
use Rattle.indexmap.specs.IndexSet.{insert_key}
use Rattle.std.specs.Option.{option_map}
use Rattle.std.specs.Str.{bytes_eq}
use Rattle.pc_names.specs.Numbers.{number_of, with_name, with_name_if, AreDistinct}

-- the place that is one further on, as far as it lies within
next-place : (m n : ℕ) → cond (nat_lt (1 + m) (suc n)) (Some (1 + m)) None ≡ option_map suc (cond (nat_lt m n) (Some m) None)
next-place m n = by (nat_lt m n) refl
  where
    by : (b : Bool) → nat_lt m n ≡ b → cond (nat_lt (1 + m) (suc n)) (Some (1 + m)) None ≡ option_map suc (cond b (Some m) None)
    by true e = let t : nat_lt (1 + m) (suc n) ≡ true = grind (arith, nat_tests) in let s : 1 + m ≡ suc m = omega arith in ap (λ (c : Bool). cond c (Some (1 + m)) None) t ∙ ap Some s
    by false e = let t : nat_lt (1 + m) (suc n) ≡ false = grind (arith, nat_tests) in ap (λ (c : Bool). cond c (Some (1 + m)) None) t

-- the place, where a first element with this test stands before elements with a place and a length
abbrev place_after : Bool → ℕ → ℕ → Option ℕ
place_after b m n = let k : ℕ = cond (not b) (1 + m) 0 in cond (nat_lt k (suc n)) (Some k) None

place_after-is : (b : Bool) (m n : ℕ) → place_after b m n ≡ (if b then Some 0 else option_map suc (cond (nat_lt m n) (Some m) None))
place_after-is true m n = let t : nat_lt 0 (suc n) ≡ true = grind (arith, nat_tests) in ap (λ (c : Bool). cond {A = Option ℕ} c (Some 0) None) t
place_after-is false m n = next-place m n

position-cons : {K : Type 0} (p : K → Bool) (k : K) (ks : List K) → position p (k ∷ ks) ≡ (if p k then Some 0 else option_map suc (position p ks))
position-cons p k ks = place_after-is (p k) (position_or_len p ks) (length ks)

-- the place of a name among keys, each seen as a name
pub position-number_of : {K : Type 0} (f : K → List ℕ) (ks : List K) (n : List ℕ) → position (λ k. bytes_eq n (f k)) ks ≡ number_of (map f ks) n
position-number_of f [] n = refl
position-number_of {K} f (k ∷ ks) n =
    position-cons (λ (x : K). bytes_eq n (f x)) k ks
    ∙ ap (λ (o : Option ℕ). if bytes_eq n (f k) then Some 0 else option_map suc o) (position-number_of f ks n)

-- ---- one more name

-- a name is the same as itself
pub bytes_eq-same : (n : List ℕ) → bytes_eq n n ≡ true
bytes_eq-same n = (bytes_eq-Decides n n).1 refl

none-later : (b : Bool) (o : Option ℕ) → (if b then Some 0 else option_map suc o) ≡ None → (b ≡ false) × (o ≡ None)
none-later true o e = cc
none-later false None e = (refl, refl)
none-later false (Some i) e = cc

-- the number of a name that wasn't met is the next one
pub number_of-end : (ms : List (List ℕ)) (n : List ℕ) → number_of ms n ≡ None → number_of (ms ++ n ∷ []) n ≡ Some (length ms)
number_of-end [] n e = ap (λ (b : Bool). if b then Some 0 else None) (bytes_eq-same n)
number_of-end (m ∷ ms) n e =
    let later : (bytes_eq n m ≡ false) × (number_of ms n ≡ None) = none-later (bytes_eq n m) (number_of ms n) e in
    ap (λ (b : Bool). if b then Some 0 else option_map suc (number_of (ms ++ n ∷ []) n)) later.0 ∙ ap (option_map suc) (number_of-end ms n later.1)

-- a name that wasn't met is no key
pub list_any-number_of : {K : Type 0} (f : K → List ℕ) (ks : List K) (n : List ℕ) → number_of (map f ks) n ≡ None → list_any (λ k. bytes_eq n (f k)) ks ≡ false
list_any-number_of f [] n e = refl
list_any-number_of {K} f (k ∷ ks) n e =
    let later : (bytes_eq n (f k) ≡ false) × (number_of (map f ks) n ≡ None) = none-later (bytes_eq n (f k)) (number_of (map f ks) n) e in
    ap (λ (b : Bool). b || list_any (λ (x : K). bytes_eq n (f x)) ks) later.0 ∙ list_any-number_of f ks n later.1

map-end : {K : Type 0} (f : K → List ℕ) (ks : List K) (k : K) → map f (ks ++ k ∷ []) ≡ map f ks ++ f k ∷ []
map-end f [] k = refl
map-end f (j ∷ ks) k = ap (λ (xs : List (List ℕ)). f j ∷ xs) (map-end f ks k)

-- a set of keys with one more that wasn't met
pub insert-number_of : {K : Type 0} (f : K → List ℕ) (ks new : List K) (k : K) (n : List ℕ) → f k ≡ n → number_of (map f ks) n ≡ None →
    new ≡ insert_key (λ x y. bytes_eq (f x) (f y)) ks k → map f new ≡ map f ks ++ n ∷ []
insert-number_of {K} f ks new k n is none inserted =
    ap (map f) inserted
    ∙ ap (λ (b : Bool). map f (if b then ks else ks ++ k ∷ []))
    (ap (λ (m : List ℕ). list_any (λ (x : K). bytes_eq m (f x)) ks) is ∙ list_any-number_of f ks n none)
    ∙ map-end f ks k ∙ ap (λ (m : List ℕ). map f ks ++ m ∷ []) is

less-by : (b : Bool) (o : Option ℕ) (i k : ℕ) → (if b then Some 0 else option_map suc o) ≡ Some i → ((j : ℕ) → o ≡ Some j → j < k) → i < suc k
less-by true o i k e less = let z : 0 ≡ i = cc in omega arith
less-by false None i k e less = cc
less-by false (Some j) i k e less = let z : suc j ≡ i = cc in let l : j < k = less j refl in omega arith

-- a number that a name has is one of the list's
pub number_of-less : (ms : List (List ℕ)) (n : List ℕ) (i : ℕ) → number_of ms n ≡ Some i → i < length ms
number_of-less [] n i e = cc
number_of-less (m ∷ ms) n i e = less-by (bytes_eq n m) (number_of ms n) i (length ms) e (λ j is. number_of-less ms n j is)

-- as many names as keys
pub length-names : {K : Type 0} (f : K → List ℕ) (ks : List K) → length (map f ks) ≡ length ks
length-names f [] = refl
length-names f (k ∷ ks) = ap suc (length-names f ks)

-- ---- no two names are equal

-- a name of the list has a number
none-at : (b : Bool) (o : Option ℕ) → (if b then Some 0 else option_map suc o) ≡ None → b ≡ true → ⊥
none-at true o e t = cc
none-at false o e t = cc

pub number_of-some : (ms : List (List ℕ)) (i : ℕ) (n : List ℕ) → slice_get ms i ≡ Some n → number_of ms n ≡ None → ⊥
number_of-some [] i n at none = cc
number_of-some (m ∷ ms) zero n at none =
    let same : n ≡ m = cc in none-at (bytes_eq n m) (number_of ms n) none ((bytes_eq-Decides n m).1 same)
number_of-some (m ∷ ms) (suc i) n at none = number_of-some ms i n at (none-later (bytes_eq n m) (number_of ms n) none).1

end-cases : (ms : List (List ℕ)) (w n : List ℕ) (i : ℕ) → slice_get (ms ++ w ∷ []) i ≡ Some n → (slice_get ms i ≡ Some n) ⊎ ((i ≡ length ms) × (w ≡ n))
end-cases [] w n zero at = inr (refl, cc)
end-cases [] w n (suc i) at = cc
end-cases (m ∷ ms) w n zero at = inl at
end-cases (m ∷ ms) w n (suc i) at = elim (end-cases ms w n i at) [ inl h ↦ inl h | inr h ↦ inr (ap suc h.0, h.1) ]

-- a name that wasn't met leaves them so
pub AreDistinct-end : (ms : List (List ℕ)) (w : List ℕ) → number_of ms w ≡ None → AreDistinct ms → AreDistinct (ms ++ w ∷ [])
AreDistinct-end ms w none distinct i j n first second =
    elim (end-cases ms w n i first) [
      | inl a ↦
          elim (end-cases ms w n j second) [
            | inl b ↦ distinct i j n a b
            | inr b ↦ absurd (number_of-some ms i n a (ap (number_of ms) (sym b.1) ∙ none))
          ]
      | inr a ↦
          elim (end-cases ms w n j second) [
            | inl b ↦ absurd (number_of-some ms j n b (ap (number_of ms) (sym a.1) ∙ none))
            | inr b ↦ a.0 ∙ sym b.0
          ]
    ]

with-distinct : (o : Option ℕ) (ms : List (List ℕ)) (w : List ℕ) → number_of ms w ≡ o → AreDistinct ms → AreDistinct (with_name_if o ms w)
with-distinct (Some i) ms w is distinct = distinct
with-distinct None ms w is distinct = AreDistinct-end ms w is distinct

-- a name among them leaves them so
pub AreDistinct-with_name : (ms : List (List ℕ)) (w : List ℕ) → AreDistinct ms → AreDistinct (with_name ms w)
AreDistinct-with_name ms w distinct = with-distinct (number_of ms w) ms w refl distinct
