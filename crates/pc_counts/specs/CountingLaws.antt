-- How often names stood before in a block, by a table of counts: laws.
use Rattle.std.proofs.Common.{◌≡◌, ◌<◌, ◌≤◌, ◌+◌, ℕ, Bool, true, false, suc, nat_eq, List, [], ◌∷◌, ◌++◌, length, slice_get, Option, Some, None, refl, ap, sym, ◌∙◌, subst, if◌then◌else◌, arith}
use Rattle.std.proofs.lemmas.Bool.Decides.{nat_tests}
use Rattle.std.proofs.lemmas.List.{map-append}
use Rattle.std.proofs.lemmas.Option.{slice_get_within}
use Rattle.std.proofs.lemmas.Slice.Eq.{bytes_eq-Decides}
use Rattle.std.specs.Map.{lookup}
use Rattle.std.specs.Option.{option_map, unwrap_or}
use Rattle.std.specs.Str.{bytes_eq}
use Rattle.pc_names.specs.Numbers.{number_of}
use Rattle.pc_names.specs.TableLaws.{nat_eq-number_of, slice_get-number_of}
use Rattle.pc_rules.specs.Meanings.{Meaning}
use Rattle.pc_rules.specs.Places.{times_in}
use Rattle.pc_facts.specs.Known.{Known}
use Rattle.pc_facts.specs.declared.sighting.Declared.{Declared}
use Rattle.pc_growth.specs.Grows.{Begins}
use Rattle.pc_growth.specs.GrowsLaws.{length-begins}
use Rattle.pc_places.specs.NumberingLaws.{number_of-begins, number_of-slice_get}
use Rattle.pc_places.specs.Parameters.{ShowsParameters}
use Rattle.pc_places.specs.declared.parameter.Parameter.{Parameter}
use Rattle.pc_counts.specs.Counting.{times_of, times_at, AreCounted, all_names, CountsParameters}

-- ---- no name

none-at : (o : Option ℕ) → 0 ≡ times_at [] o
none-at None = refl
none-at (Some i) = refl

pub AreCounted-none : (names : List (List ℕ)) → AreCounted [] names []
AreCounted-none names = record { counted = λ n. none-at (number_of names n); within = λ i past. refl }

-- ---- more names have numbers

past-by : (b : Bool) (o p : Option ℕ) (k i : ℕ) → ((j : ℕ) → o ≡ None → p ≡ Some j → k ≤ j) → (if b then Some 0 else option_map suc o) ≡ None → (if b then Some 0 else option_map suc p) ≡ Some i → suc k ≤ i
past-by true o p k i rest none e = cc
past-by false (Some j) p k i rest none e = cc
past-by false None None k i rest none e = cc
past-by false None (Some j) k i rest none e =
    let same : suc j ≡ i = cc in
    let le : k ≤ j = rest j refl refl in omega (arith, same, le)

-- a name that had no number has one past those that there were
past-names : (ms more : List (List ℕ)) (n : List ℕ) (i : ℕ) → number_of ms n ≡ None → number_of (ms ++ more) n ≡ Some i → length ms ≤ i
past-names [] more n i none e = omega arith
past-names (m ∷ ms) more n i none e = past-by (bytes_eq n m) (number_of ms n) (number_of (ms ++ more) n) (length ms) i (λ j f g. past-names ms more n j f g) none e

same-times : (c : List (ℕ × ℕ)) (o p : Option ℕ) (k : ℕ) → ((i : ℕ) → k ≤ i → times_of c i ≡ 0) → ((i : ℕ) → o ≡ Some i → p ≡ Some i) → ((i : ℕ) → o ≡ None → p ≡ Some i → k ≤ i) →
    times_at c o ≡ times_at c p
same-times c (Some i) p k within stays past = sym (ap (times_at c) (stays i refl))
same-times c None None k within stays past = refl
same-times c None (Some i) k within stays past = sym (within i (past i refl refl))

pub AreCounted-begins : (c : List (ℕ × ℕ)) (old new passed : List (List ℕ)) → Begins old new → AreCounted c old passed → AreCounted c new passed
AreCounted-begins c old new passed g h = record {
  counted = λ n. h.counted n ∙ same-times c (number_of old n) (number_of new n) (length old) h.within (λ i e. number_of-begins old new n i g e)
      (λ i none e. past-names old g.more n i none (ap (λ (ms : List (List ℕ)). number_of ms n) (sym g.is) ∙ e));
  within = λ i past. h.within i (let le = length-begins old new g in omega (arith, le, past));
}

-- ---- one name more

more-by : (b c : Bool) (x y : ℕ) → y ≡ (if c then suc x else x) → (if b then suc y else y) ≡ (if c then suc (if b then suc x else x) else (if b then suc x else x))
more-by true true x y e = ap suc e
more-by true false x y e = ap suc e
more-by false true x y e = e
more-by false false x y e = e

pub times_in-end : (ms : List (List ℕ)) (n m : List ℕ) → times_in (ms ++ n ∷ []) m ≡ (if bytes_eq n m then suc (times_in ms m) else times_in ms m)
times_in-end [] n m = refl
times_in-end (p ∷ ms) n m = more-by (bytes_eq p m) (bytes_eq n m) (times_in ms m) (times_in (ms ++ n ∷ []) m) (times_in-end ms n m)

apart : (i j x : ℕ) → i < j → (if nat_eq i j then suc x else x) ≡ x
apart i j x less = by (nat_eq i j) refl
  where
    by : (b : Bool) → nat_eq i j ≡ b → (if b then suc x else x) ≡ x
    by true e = let same : i ≡ j = (let t : nat_eq i j ≡ true = e in grind (arith, nat_tests)) in absurd (omega (arith, less, same))
    by false e = refl

same-name : (names : List (List ℕ)) (n m : List ℕ) (i : ℕ) → number_of names n ≡ Some i → number_of names m ≡ None → bytes_eq n m ≡ false
same-name names n m i number none = by (bytes_eq n m) refl
  where
    by : (b : Bool) → bytes_eq n m ≡ b → b ≡ false
    by true e = let wrong : Some i ≡ None = sym number ∙ ap (number_of names) ((bytes_eq-Decides n m).0 e) ∙ none in cc
    by false e = refl

-- the name with this number is counted once more
pub AreCounted-one : (c d : List (ℕ × ℕ)) (names passed : List (List ℕ)) (n : List ℕ) (i : ℕ) → number_of names n ≡ Some i →
    ((j : ℕ) → times_of d j ≡ (if nat_eq i j then suc (times_of c j) else times_of c j)) → AreCounted c names passed → AreCounted d names (passed ++ n ∷ [])
AreCounted-one c d names passed n i number more h = record {
  counted = λ m. times_in-end passed n m ∙ by m (number_of names m) refl (h.counted m);
  within = λ j past.
      let there = slice_get_within names i n (slice_get-number_of names n i number) in
      more j ∙ apart i j (times_of c j) (omega (arith, there, past)) ∙ h.within j past;
}
  where
    by : (m : List ℕ) (o : Option ℕ) → number_of names m ≡ o → times_in passed m ≡ times_at c o → (if bytes_eq n m then suc (times_in passed m) else times_in passed m) ≡ times_at d o
    by m (Some j) e t = (λ k. if sym (nat_eq-number_of names n m i j number e) k then suc (t k) else t k) ∙ sym (more j)
    by m None e t = ap (λ (b : Bool). if b then suc (times_in passed m) else times_in passed m) (same-name names n m i number e) ∙ t

-- the counts, where one of them is one more
pub times-added : (c d : List (ℕ × ℕ)) (i v : ℕ) → ((j : ℕ) → lookup (nat_eq j) d ≡ (if nat_eq i j then Some v else lookup (nat_eq j) c)) → v ≡ times_of c i + 1 →
    (j : ℕ) → times_of d j ≡ (if nat_eq i j then suc (times_of c j) else times_of c j)
times-added c d i v added is j = ap (λ (o : Option ℕ). unwrap_or o 0) (added j) ∙ by (nat_eq i j) refl
  where
    by : (b : Bool) → nat_eq i j ≡ b → unwrap_or (if b then Some v else lookup (nat_eq j) c) 0 ≡ (if b then suc (times_of c j) else times_of c j)
    by true e =
        let same : i ≡ j = (let t : nat_eq i j ≡ true = e in grind (arith, nat_tests)) in
        let next : times_of c i + 1 ≡ suc (times_of c i) = omega arith in
        is ∙ next ∙ ap (λ (k : ℕ). suc (times_of c k)) same
    by false e = refl

-- ---- parameters

-- all but the last of some parameters, and that one
record ShowsLast (k : Known) (ds : List Declared) (ps : List Parameter) (p : Parameter) (es : List (List ℕ × Meaning)) : Type 0 where
  pub firsts : List (List ℕ × Meaning)
  pub last : List ℕ × Meaning
  pub all : es ≡ firsts ++ last ∷ []
  pub shows : ShowsParameters k ds ps firsts
  pub name : slice_get k.names p.name.0 ≡ Some last.0

shows-last : (k : Known) (ds : List Declared) (ps : List Parameter) (p : Parameter) (es : List (List ℕ × Meaning)) → ShowsParameters k ds (ps ++ p ∷ []) es → ShowsLast k ds ps p es
shows-last k ds [] p [] h = absurd h
shows-last k ds [] p (e ∷ []) h = record { firsts = []; last = e; all = refl; shows = tt; name = h.0 }
shows-last k ds [] p (e ∷ f ∷ es) h = absurd h.2
shows-last k ds (q ∷ ps) p [] h = absurd h
shows-last k ds (q ∷ ps) p (e ∷ es) h =
    let rest = shows-last k ds ps p es h.2 in
    record { firsts = e ∷ rest.firsts; last = rest.last; all = ap (λ (xs : List (List ℕ × Meaning)). e ∷ xs) rest.all; shows = (h.0, h.1, rest.shows); name = rest.name }

pub CountsParameters-none : (k : Known) (ds : List Declared) (c : List (ℕ × ℕ)) → CountsParameters k ds [] c c
CountsParameters-none k ds c [] distinct shows h = h
CountsParameters-none k ds c (e ∷ es) distinct shows h = absurd shows

-- one parameter more
pub CountsParameters-end : (k : Known) (ds : List Declared) (ps : List Parameter) (p : Parameter) (c0 c d : List (ℕ × ℕ)) →
    ((j : ℕ) → times_of d j ≡ (if nat_eq p.name.0 j then suc (times_of c j) else times_of c j)) → CountsParameters k ds ps c0 c → CountsParameters k ds (ps ++ p ∷ []) c0 d
CountsParameters-end k ds ps p c0 c d more h = λ es distinct shows start.
    let x = shows-last k ds ps p es shows in
    let number = number_of-slice_get k.names x.last.0 p.name.0 distinct x.name in
    let here = AreCounted-one c d k.names (all_names x.firsts) x.last.0 p.name.0 number more (h x.firsts distinct x.shows start) in
    subst (AreCounted d k.names) (sym (ap all_names x.all ∙ map-append (λ (e : List ℕ × Meaning). e.0) x.firsts (x.last ∷ []))) here
