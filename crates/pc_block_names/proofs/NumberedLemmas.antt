-- The same names have a number as are in a list, also with one name more.
use Rattle.std.proofs.Common.{◌≡◌, ℕ, suc, Bool, true, false, ◌||◌, if◌then◌else◌, List, [], ◌∷◌, ◌++◌, Option, None, Some, refl, ap, sym, ◌∙◌}
use Rattle.std.specs.Option.{is_some, option_map}
use Rattle.std.specs.Str.{bytes_eq}
use Rattle.std.proofs.lemmas.Slice.Eq.{bytes_eq-Decides}
use Rattle.pc_syntax.specs.Words.{is_among}
use Rattle.pc_names.specs.Numbers.{number_of, with_name, with_name_if}
use Rattle.pc_names.specs.StandingLaws.{is_among-end}
use Rattle.pc_own_names.specs.OwnKinds.{HasSame}

-- ---- numbers

some-next : (o : Option ℕ) → is_some (option_map suc o) ≡ is_some o
some-next None = refl
some-next (Some i) = refl

some-by : (b : Bool) (o p : Option ℕ) (c : Bool) → is_some o ≡ (is_some p || c) → is_some (if b then Some 0 else option_map suc o) ≡ (is_some (if b then Some 0 else option_map suc p) || c)
some-by true o p c e = refl
some-by false o p c e = some-next o ∙ e ∙ ap (λ (x : Bool). x || c) (sym (some-next p))

some-last : (b : Bool) → is_some {T = ℕ} (if b then Some 0 else None) ≡ b
some-last true = refl
some-last false = refl

-- behind some names a last one has a number too
some-end : (ms : List (List ℕ)) (w n : List ℕ) → is_some (number_of (ms ++ w ∷ []) n) ≡ (is_some (number_of ms n) || bytes_eq n w)
some-end [] w n = some-last (bytes_eq n w)
some-end (m ∷ ms) w n = some-by (bytes_eq n m) (number_of (ms ++ w ∷ []) n) (number_of ms n) (bytes_eq n w) (some-end ms w n)

-- ---- with one name more

turned : (a b : List ℕ) → bytes_eq a b ≡ bytes_eq b a
turned a b = by (bytes_eq a b) (bytes_eq b a) refl refl
  where
    by : (x y : Bool) → bytes_eq a b ≡ x → bytes_eq b a ≡ y → bytes_eq a b ≡ bytes_eq b a
    by true y e f = e ∙ sym ((bytes_eq-Decides b a).1 (sym ((bytes_eq-Decides a b).0 e)))
    by false false e f = e ∙ sym f
    by false true e f = (bytes_eq-Decides a b).1 (sym ((bytes_eq-Decides b a).0 f)) ∙ sym f

or-none : (a : Bool) → a ≡ (a || false)
or-none true = refl
or-none false = refl

or-same : (a b : Bool) → (b ≡ true → a ≡ true) → a ≡ (a || b)
or-same a true h = h refl ∙ sym (ap (λ (x : Bool). x || true) (h refl))
or-same a false h = or-none a

-- they have, with one more that is given a number, if it has none
pub HasSame-more : (ms ns : List (List ℕ)) (w : List ℕ) → HasSame ms ns → HasSame (with_name ms w) (ns ++ w ∷ [])
HasSame-more ms ns w h = λ n. by n (number_of ms w) refl
  where
    by : (n : List ℕ) (o : Option ℕ) → number_of ms w ≡ o → is_some (number_of (with_name_if o ms w) n) ≡ is_among (ns ++ w ∷ []) n
    by n None e = some-end ms w n ∙ (λ i. h n i || turned n w i) ∙ sym (is_among-end ns w n)
    by n (Some i) e =
        let there : bytes_eq w n ≡ true → is_among ns n ≡ true = λ same. sym (h n) ∙ ap (λ (m : List ℕ). is_some (number_of ms m)) (sym ((bytes_eq-Decides w n).0 same)) ∙ ap is_some e in
        h n ∙ or-same (is_among ns n) (bytes_eq w n) there ∙ sym (is_among-end ns w n)
