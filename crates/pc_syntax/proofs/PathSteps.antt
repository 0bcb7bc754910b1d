-- The parts of a word that is read as a path or a key, one by one.
use Rattle.std.proofs.Common.{◌≡◌, ℕ, zero, suc, ◌+◌, ◌<◌, false, List, [], ◌∷◌, ◌++◌, Option, Some, None, Ok, Err, Bor, map, take, length, get_or, inl, inr, refl, ◌∙◌, arith}
use Rattle.std.specs.List.{list_all}
use Rattle.std.proofs.lemmas.List.{take_more, map-append}
use Rattle.std.proofs.lemmas.List.Folds.{list_all_at, list_all-map}
use Rattle.pc_syntax.specs.Paths.{ReadsAs, parts_behind, step_of, step_and, steps_of, path_of, is_small_name, key_of}
use Rattle.pc_syntax.specs.declared.error.ReadError.TheVariants.{BadForm}

-- what stands at a place that is passed on as a slice
abbrev pub bytes_of : List (Bor (List ℕ)) → List (List ℕ)
bytes_of parts = map (λ part. part.now) parts

-- an answer that isn't an error is the value that was wanted
pub wanted_is : {T : Type 0} (wanted : Option T) (value : T) → ReadsAs wanted (Ok value) → wanted ≡ Some value
wanted_is None value (inl err) = cc
wanted_is None value (inr err) = cc
wanted_is (Some x) value (inl err) = cc
wanted_is (Some x) value (inr is) = cc

none_and : (step : Option ℕ) → step_and step None ≡ None
none_and None = refl
none_and (Some step) = refl

and_push : (first : Option ℕ) (old new : Option (List ℕ)) (steps : List ℕ) (step : ℕ) → ((rest : List ℕ) → old ≡ Some rest → new ≡ Some (rest ++ step ∷ [])) →
    step_and first old ≡ Some steps → step_and first new ≡ Some (steps ++ step ∷ [])
and_push None old new steps step more is = cc
and_push (Some first) None new steps step more is = cc
and_push (Some first) (Some rest) new steps step more is =
    let same : steps ≡ first ∷ rest = cc in
    rw (same, more rest refl) refl

steps_of-push : (parts : List (List ℕ)) (part steps : List ℕ) (step : ℕ) → steps_of parts ≡ Some steps → step_of part ≡ Some step →
    steps_of (parts ++ part ∷ []) ≡ Some (steps ++ step ∷ [])
steps_of-push [] part steps step all one = let none : steps ≡ [] = cc in rw (none, one) refl
steps_of-push (first ∷ parts) part steps step all one =
    and_push (step_of first) (steps_of parts) (steps_of (parts ++ part ∷ [])) steps step (λ rest is. steps_of-push parts part rest step is one) all

-- one more part is a step
pub steps_of-more : (parts : List (Bor (List ℕ))) (i : ℕ) (d : Bor (List ℕ)) (steps : List ℕ) (step : ℕ) → i < length parts →
    steps_of (bytes_of (take i parts)) ≡ Some steps → step_of (get_or parts i d).now ≡ Some step →
    steps_of (bytes_of (take (i + 1) parts)) ≡ Some (steps ++ step ∷ [])
steps_of-more parts i d steps step below all one =
    rw (take_more parts i d below, map-append) (steps_of-push (bytes_of (take i parts)) (get_or parts i d).now steps step all one)

-- a part is no step
steps_of-none : (parts : List (Bor (List ℕ))) (i : ℕ) (d : Bor (List ℕ)) → i < length parts → step_of (get_or parts i d).now ≡ None → steps_of (bytes_of parts) ≡ None
steps_of-none [] i d below none = absurd (omega arith)
steps_of-none (part ∷ parts) zero d below none = rw none refl
steps_of-none (part ∷ parts) (suc i) d below none = rw (steps_of-none parts i d (omega arith) none) (none_and (step_of part.now))

pub path_of-none : (word : List ℕ) (parts : List (Bor (List ℕ))) (i : ℕ) (d : Bor (List ℕ)) → ReadsAs (parts_behind 47 word) (Ok (bytes_of parts)) →
    i < length parts → step_of (get_or parts i d).now ≡ None → ReadsAs (path_of word) (Err BadForm)
unfolding path_of
path_of-none word parts i d behind below none =
    inr (rw (wanted_is (parts_behind 47 word) (bytes_of parts) behind, steps_of-none parts i d below none) refl)

-- a part is no name
pub key_of-none : (word : List ℕ) (parts : List (Bor (List ℕ))) (i : ℕ) (d : Bor (List ℕ)) → ReadsAs (parts_behind 46 word) (Ok (bytes_of parts)) →
    i < length parts → is_small_name (get_or parts i d).now ≡ false → ReadsAs (key_of word) (Err BadForm)
unfolding key_of
key_of-none word parts i d behind below none =
    let fails : list_all is_small_name (bytes_of parts) ≡ false =
    list_all-map is_small_name (λ part. part.now) parts ∙ list_all_at (λ part. is_small_name part.now) parts i d below none in
    inr (rw (wanted_is (parts_behind 46 word) (bytes_of parts) behind, fails) refl)
