-- The names that are noted are the first of equal ones.
use Rattle.std.proofs.Common.{◌≡◌, ℕ, suc, Bool, true, false, ◌||◌, if◌then◌else◌, List, [], ◌∷◌, ◌++◌, map, Option, Some, None, refl, ap, sym, ◌∙◌, true≢false}
use Rattle.std.proofs.lemmas.Slice.Eq.{bytes_eq-Decides}
use Rattle.std.specs.Option.{is_some, option_map}
use Rattle.std.specs.Str.{bytes_eq}
use Rattle.pc_syntax.specs.declared.kind.Kind.{Kind}
use Rattle.pc_syntax.specs.Words.{is_among}
use Rattle.pc_scope.specs.Declarations.{Declared}
use Rattle.pc_names.specs.Numbers.{number_of, with_name, with_name_if}
use Rattle.pc_own_names.specs.Noting.{new_among, kept}
use Rattle.pc_own_names.specs.OwnKinds.{first_kinds, AreDeclared, HasSame}
use Rattle.pc_own_names.proofs.Placed.{unplaced}

-- ---- one more name has a number

bytes_eq-sym : (n q : List ℕ) → bytes_eq n q ≡ bytes_eq q n
bytes_eq-sym n q = by (bytes_eq n q) (bytes_eq q n) refl refl where
  by : (a b : Bool) → bytes_eq n q ≡ a → bytes_eq q n ≡ b → a ≡ b
  by true true e f = refl
  by false false e f = refl
  by true false e f = absurd (true≢false (sym ((bytes_eq-Decides q n).1 (sym ((bytes_eq-Decides n q).0 e))) ∙ f))
  by false true e f = absurd (true≢false (sym ((bytes_eq-Decides n q).1 (sym ((bytes_eq-Decides q n).0 f))) ∙ e))

some-map : (o : Option ℕ) → is_some (option_map suc o) ≡ is_some o
some-map None = refl
some-map (Some i) = refl

some-if : (b : Bool) (o : Option ℕ) → is_some (if b then Some 0 else option_map suc o) ≡ (b || is_some o)
some-if true o = refl
some-if false o = some-map o

or-assoc : (a b c : Bool) → (a || (b || c)) ≡ ((a || b) || c)
or-assoc true b c = refl
or-assoc false b c = refl

or-false : (a : Bool) → (a || false) ≡ a
or-false true = refl
or-false false = refl

or-comm : (a b : Bool) → (a || b) ≡ (b || a)
or-comm true true = refl
or-comm true false = refl
or-comm false true = refl
or-comm false false = refl

number-end : (ms : List (List ℕ)) (n q : List ℕ) → is_some (number_of (ms ++ n ∷ []) q) ≡ (is_some (number_of ms q) || bytes_eq q n)
number-end [] n q = some-if (bytes_eq q n) None ∙ or-false (bytes_eq q n)
number-end (m ∷ ms) n q =
    some-if (bytes_eq q m) (number_of (ms ++ n ∷ []) q)
    ∙ ap (λ (b : Bool). bytes_eq q m || b) (number-end ms n q)
    ∙ or-assoc (bytes_eq q m) (is_some (number_of ms q)) (bytes_eq q n)
    ∙ ap (λ (b : Bool). b || bytes_eq q n) (sym (some-if (bytes_eq q m) (number_of ms q)))

-- a name without a number gets the last one
with-none : (o : Option ℕ) (ms : List (List ℕ)) (n : List ℕ) → is_some o ≡ false → with_name_if o ms n ≡ ms ++ n ∷ []
with-none None ms n e = refl
with-none (Some i) ms n e = absurd (true≢false e)

same-more : (ms before : List (List ℕ)) (n : List ℕ) → HasSame ms before → is_some (number_of ms n) ≡ false → HasSame (with_name ms n) (n ∷ before)
same-more ms before n same new q =
    ap (λ (ns : List (List ℕ)). is_some (number_of ns q)) (with-none (number_of ms n) ms n new)
    ∙ number-end ms n q
    ∙ (λ i. same q i || bytes_eq-sym q n i)
    ∙ or-comm (is_among before q) (bytes_eq n q)

-- ---- what is kept of the names are the first of equal ones

pub kept-first : (ms before : List (List ℕ)) (ds : List (Declared × Kind)) → HasSame ms before → AreDeclared (map kept (new_among ms (map unplaced ds))) (first_kinds before ds)
kept-first ms before [] same = tt
kept-first ms before (d ∷ ds) same =
    by (is_some (number_of ms d.0.name)) (is_among before d.0.name) refl (same d.0.name) (kept-first ms before ds same)
    (λ e. kept-first (with_name ms d.0.name) (d.0.name ∷ before) ds (same-more ms before d.0.name same e)) where
      by : (a b : Bool) → is_some (number_of ms d.0.name) ≡ a → a ≡ b → AreDeclared (map kept (new_among ms (map unplaced ds))) (first_kinds before ds) →
          (is_some (number_of ms d.0.name) ≡ false → AreDeclared (map kept (new_among (with_name ms d.0.name) (map unplaced ds))) (first_kinds (d.0.name ∷ before) ds)) →
          AreDeclared (map kept (if a then new_among ms (map unplaced ds) else unplaced d ∷ new_among (with_name ms d.0.name) (map unplaced ds)))
          (if b then first_kinds before ds else d ∷ first_kinds (d.0.name ∷ before) ds)
      by true true is e old new = old
      by false false is e old new = (record { name = refl; kind = refl }, new is)
      by true false is e old new = absurd (true≢false e)
      by false true is e old new = absurd (true≢false (sym e))
