-- Names that pass before they are complete, and names that are told again: what a place says of each name in the end.
use Rattle.std.proofs.Common.{◌≡◌, ℕ, Bool, true, false, not, ◌||◌, List, [], ◌∷◌, ◌++◌, Option, Some, None, refl, ap, sym, ◌∙◌, subst, if◌then◌else◌}
use Rattle.std.proofs.lemmas.Slice.Eq.{bytes_eq-Decides}
use Rattle.std.proofs.lemmas.Bool.{true≢false}
use Rattle.std.specs.Str.{bytes_eq}
use Rattle.pc_syntax.specs.Words.{is_among}
use Rattle.pc_rules.specs.Meanings.{Meaning, Local, entry_of, define, define_all}
use Rattle.pc_names.specs.Table.{Table, slot_named}
use Rattle.pc_names.specs.Standing.{IsKnown, StandsFor}
use Rattle.pc_names.specs.StandingLaws.{is_among-end, entry_of-end, first_of, passing, knowing}
use Rattle.pc_names.specs.StandingChanges.{StandsFor-retold}
use Rattle.pc_places.specs.TellingLaws.{telling}

-- two places say the same of each name
pub record SaysAlike (a b : Local) : Type 0 where
  pub names : (n : List ℕ) → entry_of b.names n ≡ entry_of a.names n
  pub passed : (n : List ℕ) → is_among b.passed n ≡ is_among a.passed n
  pub known : (n : List ℕ) → entry_of b.known n ≡ entry_of a.known n

pub SaysAlike-same : (a : Local) → SaysAlike a a
SaysAlike-same a = record { names = λ n. refl; passed = λ n. refl; known = λ n. refl }

-- a block that stands for one stands for the other
pub StandsFor-alike : (D : ℕ → Meaning → Type 0) (t : Table) (block : ℕ) (a b : Local) → SaysAlike a b → StandsFor D t block a → StandsFor D t block b
StandsFor-alike D t block a b s stands =
    StandsFor-retold D D t block a b s.names s.passed (λ n h. subst (IsKnown D (slot_named t block n).known) (sym (s.known n)) h) stands

-- one of two, where both are the same
either-alike : {X : Type 0} (b c : Bool) (x y : X) → b ≡ c → (if b then x else y) ≡ (if c then x else y)
either-alike b c x y e = ap (λ (d : Bool). if d then x else y) e

passed-alike : (p q : List (List ℕ)) (d n : List ℕ) → ((m : List ℕ) → is_among q m ≡ is_among p m) → is_among (q ++ d ∷ []) n ≡ is_among (p ++ d ∷ []) n
passed-alike p q d n same = is_among-end q d n ∙ ap (λ (b : Bool). b || bytes_eq d n) (same n) ∙ sym (is_among-end p d n)

-- ---- a name that is complete only behind other names

swapped : (o : Option Meaning) (a b : Bool) (u v : Meaning) → (a ≡ true → b ≡ true → ⊥) →
    first_of (first_of o (if a then Some u else None)) (if b then Some v else None) ≡ first_of (first_of o (if b then Some v else None)) (if a then Some u else None)
swapped (Some x) a b u v apart = refl
swapped None true true u v apart = absurd (apart refl refl)
swapped None true false u v apart = refl
swapped None false true u v apart = refl
swapped None false false u v apart = refl

apart-names : (p : List (List ℕ)) (d n x : List ℕ) → is_among p n ≡ true → is_among p d ≡ false → bytes_eq n x ≡ true → bytes_eq d x ≡ true → ⊥
apart-names p d n x here there e f =
    let one : n ≡ x = (bytes_eq-Decides n x).0 e in
    let other : d ≡ x = (bytes_eq-Decides d x).0 f in
    true≢false (sym here ∙ ap (is_among p) (one ∙ sym other) ∙ there)

late-known : (p q : List (List ℕ × Meaning)) (before : List (List ℕ)) (d n x : List ℕ) (e m : Meaning) (b : Bool) → is_among before d ≡ b → is_among before n ≡ true →
    ((y : List ℕ) → entry_of q y ≡ entry_of (p ++ (n, m) ∷ []) y) →
    entry_of (if b then q else q ++ (d, e) ∷ []) x ≡ entry_of ((if b then p else p ++ (d, e) ∷ []) ++ (n, m) ∷ []) x
late-known p q before d n x e m true was here same = same x
late-known p q before d n x e m false was here same =
    entry_of-end q d e x
    ∙ ap (λ (o : Option Meaning). first_of o (if bytes_eq d x then Some e else None)) (same x ∙ entry_of-end p n m x)
    ∙ swapped (entry_of p x) (bytes_eq n x) (bytes_eq d x) m e (apart-names before d n x here was)
    ∙ sym (ap (λ (o : Option Meaning). first_of o (if bytes_eq n x then Some m else None)) (entry_of-end p d e x))
    ∙ sym (entry_of-end (p ++ (d, e) ∷ []) n m x)

late-define : (p q : Local) (n d : List ℕ) (m e : Meaning) → is_among p.passed n ≡ true → SaysAlike (knowing p n m) q → SaysAlike (knowing (define p d e) n m) (define q d e)
late-define p q n d m e here s = record {
  names = s.names;
  passed = λ x. passed-alike p.passed q.passed d x s.passed;
  known = λ x.
      ap (λ (b : Bool). entry_of (if b then q.known else q.known ++ (d, e) ∷ []) x) (s.passed d)
      ∙ late-known p.known q.known p.passed d n x e m (is_among p.passed d) refl here s.known;
}

still-among : (p : List (List ℕ)) (d n : List ℕ) → is_among p n ≡ true → is_among (p ++ d ∷ []) n ≡ true
still-among p d n here = is_among-end p d n ∙ ap (λ (b : Bool). b || bytes_eq d n) here

late-all : (p q : Local) (n : List ℕ) (m : Meaning) (ds : List (List ℕ × Meaning)) → is_among p.passed n ≡ true → SaysAlike (knowing p n m) q → SaysAlike (knowing (define_all p ds) n m) (define_all q ds)
late-all p q n m [] here s = s
late-all p q n m (d ∷ ds) here s = late-all (define p d.0 d.1) (define q d.0 d.1) n m ds (still-among p.passed d.0 n here) (late-define p q n d.0 m d.1 here s)

among-last : (p : List (List ℕ)) (n : List ℕ) → is_among (p ++ n ∷ []) n ≡ true
among-last p n = is_among-end p n n ∙ ap (λ (b : Bool). is_among p n || b) ((bytes_eq-Decides n n).1 refl) ∙ or-true (is_among p n) where
  or-true : (b : Bool) → (b || true) ≡ true
  or-true true = refl
  or-true false = refl

first-defined : (l : Local) (n : List ℕ) (m : Meaning) (b : Bool) → b ≡ false →
    SaysAlike (knowing (passing l n) n m) (record l { passed = l.passed ++ n ∷ []; known = if b then l.known else l.known ++ (n, m) ∷ [] })
first-defined l n m true e = absurd (true≢false e)
first-defined l n m false e = SaysAlike-same (knowing (passing l n) n m)

-- a name that stood before its definition and all that was declared in it, and is complete behind these, is declared at its definition
pub declared-late : (l : Local) (n : List ℕ) (m : Meaning) (ds : List (List ℕ × Meaning)) → is_among l.passed n ≡ false →
    SaysAlike (knowing (define_all (passing l n) ds) n m) (define_all (define l n m) ds)
declared-late l n m ds first = late-all (passing l n) (define l n m) n m ds (among-last l.passed n) (first-defined l n m (is_among l.passed n) first)

-- a second one only stands before
pub declared-second : (l : Local) (n : List ℕ) (m : Meaning) (ds : List (List ℕ × Meaning)) → is_among l.passed n ≡ true → define_all (passing l n) ds ≡ define_all (define l n m) ds
declared-second l n m ds second =
    ap (λ (b : Bool). define_all (record l { passed = l.passed ++ n ∷ []; known = if b then l.known else l.known ++ (n, m) ∷ [] }) ds) (sym second)

-- ---- names that are told again

-- some names are told again, with one meaning: what counts is what is said last of each
abbrev pub telling_all : Local → List (List ℕ) → Meaning → Local
telling_all l [] m = l
telling_all l (n ∷ ns) m = telling_all (telling l n m) ns m

pub telling_all-end : (l : Local) (ns : List (List ℕ)) (n : List ℕ) (m : Meaning) → telling_all l (ns ++ n ∷ []) m ≡ telling (telling_all l ns m) n m
telling_all-end l [] n m = refl
telling_all-end l (k ∷ ns) n m = telling_all-end (telling l k m) ns n m

-- whether there is something
abbrev pub is_there : {X : Type 0} → Option X → Bool
is_there None = false
is_there (Some x) = true

-- whether a declaration of the name here would be the first one
abbrev pub is_new : Local → List ℕ → Bool
is_new l n = not (is_among l.passed n || is_there (entry_of l.known n))

-- those names of a list that are first declared by it, with this meaning
abbrev pub new_names : Local → Meaning → List (List ℕ) → List (List ℕ)
new_names l m [] = []
new_names l m (n ∷ ns) = if is_new l n then n ∷ new_names (define l n m) m ns else new_names (define l n m) m ns
