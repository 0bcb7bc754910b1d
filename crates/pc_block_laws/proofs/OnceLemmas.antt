-- Behind a declaration, and where types are closed, each name is known once, and stands before.
use Rattle.std.proofs.Common.{◌≡◌, ℕ, Bool, true, false, if◌then◌else◌, List, [], ◌∷◌, ◌++◌, Option, Some, None, map, refl, sym, ◌∙◌, ap}
use Rattle.std.proofs.lemmas.Bool.{true≢false, or_left, or_right}
use Rattle.std.proofs.lemmas.Slice.Eq.{bytes_eq-Decides}
use Rattle.std.specs.Str.{bytes_eq}
use Rattle.pc_syntax.specs.Words.{is_among}
use Rattle.pc_types.specs.Shapes.{Domain}
use Rattle.pc_rules.specs.ClosedTypes.{own_domains, carried, close_type, close_types}
use Rattle.pc_rules.specs.Meanings.{Meaning, Local, entry_of, define, define_all}
use Rattle.pc_rule_laws.specs.Standing.{or_else, entry_of-append, is_among-append}
use Rattle.pc_carrying.specs.LaterLaws.{closed-name}
use Rattle.pc_block_laws.specs.Block.{OnceEach}
use Rattle.pc_block_laws.specs.Once.{KnowsOnce}

-- ---- names

-- a name that isn't another
pub other-name : (a b : List ℕ) → bytes_eq a b ≡ false → bytes_eq b a ≡ false
other-name a b e = by (bytes_eq b a) refl where
  by : (x : Bool) → bytes_eq b a ≡ x → x ≡ false
  by true f = absurd (true≢false (sym ((bytes_eq-Decides a b).1 (sym ((bytes_eq-Decides b a).0 f))) ∙ e))
  by false f = refl

pub among-front : (xs ys : List (List ℕ)) (n : List ℕ) → is_among xs n ≡ true → is_among (xs ++ ys) n ≡ true
among-front xs ys n e = is_among-append xs ys n ∙ or_left (is_among xs n) (is_among ys n) e

pub among-back : (xs ys : List (List ℕ)) (n : List ℕ) → is_among ys n ≡ true → is_among (xs ++ ys) n ≡ true
among-back xs ys n e = is_among-append xs ys n ∙ or_right (is_among xs n) (is_among ys n) e

-- ---- one more declaration

none-parts : (d : List ℕ × Meaning) (ds : List (List ℕ × Meaning)) (n : List ℕ) → entry_of (d ∷ ds) n ≡ None → (bytes_eq d.0 n ≡ false) × (entry_of ds n ≡ None)
none-parts d ds n e = by (bytes_eq d.0 n) e where
  by : (b : Bool) → (if b then Some d.1 else entry_of ds n) ≡ None → (b ≡ false) × (entry_of ds n ≡ None)
  by true f = absurd (cc f)
  by false f = (refl, f)

once-more : (ds : List (List ℕ × Meaning)) (n : List ℕ) (m : Meaning) → entry_of ds n ≡ None → OnceEach ds → OnceEach (ds ++ (n, m) ∷ [])
once-more [] n m e h = (refl, tt)
once-more (d ∷ ds) n m e h =
    let p = none-parts d ds n e in (
      entry_of-append {X = Meaning} ds ((n, m) ∷ []) d.0 ∙ (λ i. or_else (h.0 i) (if other-name d.0 n p.0 i then Some m else None)),
      once-more ds n m p.1 h.1,
    )

pub define-once : (l : Local) (n : List ℕ) (m : Meaning) → KnowsOnce l → KnowsOnce (define l n m)
define-once l n m h = by (is_among l.passed n) refl where
  new : (x : List ℕ) (r : Meaning) (o : Option Meaning) (b : Bool) → entry_of l.known x ≡ o → bytes_eq n x ≡ b → or_else o (if b then Some m else None) ≡ Some r → is_among (l.passed ++ n ∷ []) x ≡ true
  new x r (Some y) b e f q = among-front l.passed (n ∷ []) x (h.passed x y e)
  new x r None true e f q = among-back l.passed (n ∷ []) x (or_left (bytes_eq n x) false f)
  new x r None false e f q = absurd (cc q)

  none : (o : Option Meaning) → entry_of l.known n ≡ o → is_among l.passed n ≡ false → o ≡ None
  none None e q = refl
  none (Some r) e q = absurd (true≢false (sym (h.passed n r e) ∙ q))

  by : (b : Bool) → is_among l.passed n ≡ b → KnowsOnce (record l { passed = l.passed ++ n ∷ []; known = if b then l.known else l.known ++ (n, m) ∷ [] })
  by true e = record { once = h.once; passed = λ x r q. among-front l.passed (n ∷ []) x (h.passed x r q) }
  by false e = record {
    once = once-more l.known n m (none (entry_of l.known n) refl e) h.once;
    passed = λ x r q. new x r (entry_of l.known x) (bytes_eq n x) refl refl (sym (entry_of-append {X = Meaning} l.known ((n, m) ∷ []) x) ∙ q);
  }

pub all-once : (l : Local) (ds : List (List ℕ × Meaning)) → KnowsOnce l → KnowsOnce (define_all l ds)
all-once l [] h = h
all-once l (d ∷ ds) h = all-once (define l d.0 d.1) ds (define-once l d.0 d.1 h)

-- ---- closed types

-- what isn't declared isn't there closed
none-closed : (table : List Domain) (ds : List (List ℕ × Meaning)) (n : List ℕ) → entry_of ds n ≡ None → entry_of (map (close_type table) ds) n ≡ None
none-closed table [] n e = refl
none-closed table (d ∷ ds) n e =
    let p = none-parts d ds n e in
    ap (λ (x : List ℕ). if bytes_eq x n then Some (close_type table d).1 else entry_of (map (close_type table) ds) n) (closed-name table d)
    ∙ ap (λ (b : Bool). if b then Some (close_type table d).1 else entry_of (map (close_type table) ds) n) p.0
    ∙ none-closed table ds n p.1

once-closed : (table : List Domain) (ds : List (List ℕ × Meaning)) → OnceEach ds → OnceEach (map (close_type table) ds)
once-closed table [] h = tt
once-closed table (d ∷ ds) h = (
  ap (entry_of (map (close_type table) ds)) (closed-name table d) ∙ none-closed table ds d.0 h.0,
  once-closed table ds h.1,
)

pub closed-once : (l : Local) → KnowsOnce l → KnowsOnce (close_types l)
closed-once l h = record { once = once-closed table l.known h.once; passed = λ n m e. by n m (entry_of l.known n) refl e } where
  table : List Domain
  table = own_domains l.known ++ carried l.known

  by : (n : List ℕ) (m : Meaning) (o : Option Meaning) → entry_of l.known n ≡ o → entry_of (map (close_type table) l.known) n ≡ Some m → is_among l.passed n ≡ true
  by n m (Some r) e q = h.passed n r e
  by n m None e q = absurd (none-some (sym (none-closed table l.known n e) ∙ q)) where
    none-some : None ≡ Some m → ⊥
    none-some f = cc f
