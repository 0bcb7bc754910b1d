-- Variables are declared before the denoter of their type, and told again behind it, when their type is known.
use Rattle.std.proofs.Common.{◌≡◌, ℕ, Bool, true, false, not, ◌||◌, List, [], ◌∷◌, ◌++◌, Option, Some, None, refl, ap, sym, ◌∙◌, subst, if◌then◌else◌}
use Rattle.std.proofs.lemmas.Slice.Eq.{bytes_eq-Decides}
use Rattle.std.specs.Str.{bytes_eq}
use Rattle.pc_syntax.specs.Words.{is_among}
use Rattle.pc_rules.specs.DeclaringNames.{all_as}
use Rattle.pc_rules.specs.Meanings.{Meaning, Local, entry_of, define, define_all}
use Rattle.pc_names.specs.StandingLaws.{is_among-end, entry_of-end, first_of}
use Rattle.pc_places.specs.TellingLaws.{telling}
use Rattle.pc_definitions.specs.DefineLaws.{SaysAlike, is_there, is_new, new_names, telling_all}

-- the second place says what the first one does, but for some names of which it says this
pub record TellsApart (S : List ℕ → Bool) (m : Meaning) (a b : Local) : Type 0 where
  pub names : (n : List ℕ) → entry_of b.names n ≡ entry_of a.names n
  pub passed : (n : List ℕ) → is_among b.passed n ≡ is_among a.passed n
  pub known : (n : List ℕ) → entry_of b.known n ≡ (if S n then Some m else entry_of a.known n)

pub tells-none : (m : Meaning) (a : Local) → TellsApart (λ n. false) m a a
tells-none m a = record { names = λ n. refl; passed = λ n. refl; known = λ n. refl }

passed-more : (p q : List (List ℕ)) (d n : List ℕ) → ((m : List ℕ) → is_among q m ≡ is_among p m) → is_among (q ++ d ∷ []) n ≡ is_among (p ++ d ∷ []) n
passed-more p q d n same = is_among-end q d n ∙ ap (λ (b : Bool). b || bytes_eq d n) (same n) ∙ sym (is_among-end p d n)

-- ---- other declarations

first-apart : (s : Bool) (m : Meaning) (o p : Option Meaning) → first_of (if s then Some m else o) p ≡ (if s then Some m else first_of o p)
first-apart true m o p = refl
first-apart false m o p = refl

known-both : (S : List ℕ → Bool) (m e : Meaning) (p q : List (List ℕ × Meaning)) (d x : List ℕ) (b : Bool) → ((n : List ℕ) → entry_of q n ≡ (if S n then Some m else entry_of p n)) →
    entry_of (if b then q else q ++ (d, e) ∷ []) x ≡ (if S x then Some m else entry_of (if b then p else p ++ (d, e) ∷ []) x)
known-both S m e p q d x true same = same x
known-both S m e p q d x false same =
    entry_of-end q d e x
    ∙ ap (λ (o : Option Meaning). first_of o (if bytes_eq d x then Some e else None)) (same x)
    ∙ first-apart (S x) m (entry_of p x) (if bytes_eq d x then Some e else None)
    ∙ ap (λ (o : Option Meaning). if S x then Some m else o) (sym (entry_of-end p d e x))

tells-define : (S : List ℕ → Bool) (m : Meaning) (a b : Local) (d : List ℕ) (e : Meaning) → TellsApart S m a b → TellsApart S m (define a d e) (define b d e)
tells-define S m a b d e t = record {
  names = t.names;
  passed = λ x. passed-more a.passed b.passed d x t.passed;
  known = λ x.
      ap (λ (c : Bool). entry_of (if c then b.known else b.known ++ (d, e) ∷ []) x) (t.passed d)
      ∙ known-both S m e a.known b.known d x (is_among a.passed d) t.known;
}

tells-all : (S : List ℕ → Bool) (m : Meaning) (ds : List (List ℕ × Meaning)) (a b : Local) → TellsApart S m a b → TellsApart S m (define_all a ds) (define_all b ds)
tells-all S m [] a b t = t
tells-all S m (d ∷ ds) a b t = tells-all S m ds (define a d.0 d.1) (define b d.0 d.1) (tells-define S m a b d.0 d.1 t)

-- ---- the names themselves

or-false : (b : Bool) → (b || false) ≡ b
or-false true = refl
or-false false = refl

or-three : (a b c : Bool) → ((a || b) || c) ≡ (a || (b || c))
or-three true b c = refl
or-three false b c = refl

no-way : true ≡ false → ⊥
no-way e = subst (λ (c : Bool). elim c as (λ _. Type 0) [ true ↦ Unit {0} | false ↦ ⊥ ]) e tt

-- a name that is declared first, with either meaning
new-known : (s e : Bool) (m0 m : Meaning) (o : Option Meaning) → (e ≡ true → is_there o ≡ false) →
    first_of (if s then Some m else o) (if e then Some m else None) ≡ (if s || e then Some m else first_of o (if e then Some m0 else None))
new-known true e m0 m o h = refl
new-known false true m0 m None h = refl
new-known false true m0 m (Some x) h = absurd (no-way (h refl))
new-known false false m0 m o h = refl

-- one that isn't
old-known : (s e : Bool) (m0 m : Meaning) (o : Option Meaning) → (e ≡ true → is_there o ≡ true) →
    first_of (if s then Some m else o) (if e then Some m else None) ≡ (if s then Some m else first_of o (if e then Some m0 else None))
old-known true e m0 m o h = refl
old-known false e m0 m (Some x) h = refl
old-known false false m0 m None h = refl
old-known false true m0 m None h = absurd (no-way (sym (h refl)))

-- what is known of a name is known of the same name
there-at : (p : List (List ℕ × Meaning)) (n x : List ℕ) (b : Bool) → is_there (entry_of p n) ≡ b → bytes_eq n x ≡ true → is_there (entry_of p x) ≡ b
there-at p n x b h e = subst (λ (y : List ℕ). is_there (entry_of p y) ≡ b) ((bytes_eq-Decides n x).0 e) h

new-parts : (a b : Bool) → not (a || b) ≡ true → (a ≡ false) × (b ≡ false)
new-parts true b e = absurd (no-way (sym e))
new-parts false true e = absurd (no-way (sym e))
new-parts false false e = (refl, refl)

old-parts : (a b : Bool) → not (a || b) ≡ false → a ≡ false → b ≡ true
old-parts a true e f = refl
old-parts true false e f = absurd (no-way f)
old-parts false false e f = absurd (no-way e)

tells-new : (S : List ℕ → Bool) (m0 m : Meaning) (a b : Local) (n : List ℕ) → is_new a n ≡ true → TellsApart S m a b → TellsApart (λ q. S q || bytes_eq n q) m (define a n m0) (define b n m)
tells-new S m0 m a b n new t =
    let parts = new-parts (is_among a.passed n) (is_there (entry_of a.known n)) new in
    record {
      names = t.names;
      passed = λ x. passed-more a.passed b.passed n x t.passed;
      known = λ x.
          ap (λ (c : Bool). entry_of (if c then b.known else b.known ++ (n, m) ∷ []) x) (t.passed n ∙ parts.0)
          ∙ entry_of-end b.known n m x
          ∙ ap (λ (o : Option Meaning). first_of o (if bytes_eq n x then Some m else None)) (t.known x)
          ∙ new-known (S x) (bytes_eq n x) m0 m (entry_of a.known x) (λ e. there-at a.known n x false parts.1 e)
          ∙ ap (λ (o : Option Meaning). if S x || bytes_eq n x then Some m else o) (sym (entry_of-end a.known n m0 x))
          ∙ ap (λ (c : Bool). if S x || bytes_eq n x then Some m else entry_of (if c then a.known else a.known ++ (n, m0) ∷ []) x) (sym parts.0);
    }

old-both : (S : List ℕ → Bool) (m0 m : Meaning) (p q : List (List ℕ × Meaning)) (n x : List ℕ) (c : Bool) → (c ≡ false → is_there (entry_of p n) ≡ true) →
    ((y : List ℕ) → entry_of q y ≡ (if S y then Some m else entry_of p y)) →
    entry_of (if c then q else q ++ (n, m) ∷ []) x ≡ (if S x then Some m else entry_of (if c then p else p ++ (n, m0) ∷ []) x)
old-both S m0 m p q n x true there same = same x
old-both S m0 m p q n x false there same =
    entry_of-end q n m x
    ∙ ap (λ (o : Option Meaning). first_of o (if bytes_eq n x then Some m else None)) (same x)
    ∙ old-known (S x) (bytes_eq n x) m0 m (entry_of p x) (λ e. there-at p n x true (there refl) e)
    ∙ ap (λ (o : Option Meaning). if S x then Some m else o) (sym (entry_of-end p n m0 x))

tells-old : (S : List ℕ → Bool) (m0 m : Meaning) (a b : Local) (n : List ℕ) → is_new a n ≡ false → TellsApart S m a b → TellsApart S m (define a n m0) (define b n m)
tells-old S m0 m a b n old t = record {
  names = t.names;
  passed = λ x. passed-more a.passed b.passed n x t.passed;
  known = λ x.
      ap (λ (c : Bool). entry_of (if c then b.known else b.known ++ (n, m) ∷ []) x) (t.passed n)
      ∙ old-both S m0 m a.known b.known n x (is_among a.passed n) (old-parts (is_among a.passed n) (is_there (entry_of a.known n)) old) t.known;
}

tells-moved : (S R : List ℕ → Bool) (m : Meaning) (a b : Local) → ((q : List ℕ) → S q ≡ R q) → TellsApart S m a b → TellsApart R m a b
tells-moved S R m a b same t = record {
  names = t.names;
  passed = t.passed;
  known = λ x. t.known x ∙ ap (λ (c : Bool). if c then Some m else entry_of a.known x) (same x);
}

tells-names : (S : List ℕ → Bool) (m0 m : Meaning) (ns : List (List ℕ)) (a b : Local) → TellsApart S m a b →
    TellsApart (λ q. S q || is_among (new_names a m0 ns) q) m (define_all a (all_as m0 ns)) (define_all b (all_as m ns))
tells-names S m0 m [] a b t = tells-moved S (λ q. S q || false) m a b (λ q. sym (or-false (S q))) t
tells-names S m0 m (n ∷ ns) a b t = by (λ R x y u. tells-names R m0 m ns x y u) (is_new a n) refl
  where
    by : ((R : List ℕ → Bool) (x y : Local) → TellsApart R m x y → TellsApart (λ q. R q || is_among (new_names x m0 ns) q) m (define_all x (all_as m0 ns)) (define_all y (all_as m ns))) →
        (c : Bool) → is_new a n ≡ c → TellsApart (λ q. S q || is_among (new_names a m0 (n ∷ ns)) q) m (define_all (define a n m0) (all_as m0 ns)) (define_all (define b n m) (all_as m ns))
    by rest true e =
        tells-moved (λ q. (S q || bytes_eq n q) || is_among (new_names (define a n m0) m0 ns) q) (λ q. S q || is_among (new_names a m0 (n ∷ ns)) q) m _ _
        (λ q. or-three (S q) (bytes_eq n q) (is_among (new_names (define a n m0) m0 ns) q)
        ∙ ap (λ (c : Bool). S q || is_among (if c then n ∷ new_names (define a n m0) m0 ns else new_names (define a n m0) m0 ns) q) (sym e))
        (rest (λ q. S q || bytes_eq n q) (define a n m0) (define b n m) (tells-new S m0 m a b n e t))
    by rest false e =
        tells-moved (λ q. S q || is_among (new_names (define a n m0) m0 ns) q) (λ q. S q || is_among (new_names a m0 (n ∷ ns)) q) m _ _
        (λ q. ap (λ (c : Bool). S q || is_among (if c then n ∷ new_names (define a n m0) m0 ns else new_names (define a n m0) m0 ns) q) (sym e))
        (rest S (define a n m0) (define b n m) (tells-old S m0 m a b n e t))

-- ---- names that are told again

again-by : (b c : Bool) (o p : Option Meaning) → (if c then o else (if b then o else p)) ≡ (if b || c then o else p)
again-by true true o p = refl
again-by true false o p = refl
again-by false c o p = refl

pub telling-known : (l : Local) (ns : List (List ℕ)) (m : Meaning) (q : List ℕ) → entry_of (telling_all l ns m).known q ≡ (if is_among ns q then Some m else entry_of l.known q)
telling-known l [] m q = refl
telling-known l (n ∷ ns) m q = telling-known (telling l n m) ns m q ∙ again-by (bytes_eq n q) (is_among ns q) (Some m) (entry_of l.known q)

pub telling-passed : (l : Local) (ns : List (List ℕ)) (m : Meaning) → (telling_all l ns m).passed ≡ l.passed
telling-passed l [] m = refl
telling-passed l (n ∷ ns) m = telling-passed (telling l n m) ns m

pub telling-names : (l : Local) (ns : List (List ℕ)) (m : Meaning) → (telling_all l ns m).names ≡ l.names
telling-names l [] m = refl
telling-names l (n ∷ ns) m = telling-names (telling l n m) ns m

append-defined : (l : Local) (ds es : List (List ℕ × Meaning)) → define_all l (ds ++ es) ≡ define_all (define_all l ds) es
append-defined l [] es = refl
append-defined l (d ∷ ds) es = append-defined (define l d.0 d.1) ds es

-- variables that were declared with one meaning before other declarations, and of which those that were first are told again with
-- another one behind these, are declared with that
pub told-again : (l : Local) (m0 m : Meaning) (ns : List (List ℕ)) (ds : List (List ℕ × Meaning)) →
    SaysAlike (telling_all (define_all (define_all l (all_as m0 ns)) ds) (new_names l m0 ns) m) (define_all l (all_as m ns ++ ds))
told-again l m0 m ns ds =
    let before = define_all (define_all l (all_as m0 ns)) ds in
    let news = new_names l m0 ns in
    let t = tells-all (λ q. false || is_among news q) m ds (define_all l (all_as m0 ns)) (define_all l (all_as m ns)) (tells-names (λ q. false) m0 m ns l l (tells-none m l)) in
    let whole = append-defined l (all_as m ns) ds in
    record {
      names = λ n. ap (λ (x : Local). entry_of x.names n) whole ∙ t.names n ∙ sym (ap (λ (es : List (List ℕ × _)). entry_of es n) (telling-names before news m));
      passed = λ n. ap (λ (x : Local). is_among x.passed n) whole ∙ t.passed n ∙ sym (ap (λ (p : List (List ℕ)). is_among p n) (telling-passed before news m));
      known = λ n. ap (λ (x : Local). entry_of x.known n) whole ∙ t.known n ∙ sym (telling-known before news m n);
    }
