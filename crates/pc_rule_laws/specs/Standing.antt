-- One name, where it stands: which of the declarations before a place a Local knows, and what both look-ups make of that.
use Rattle.std.proofs.Common.{Bool, List, None, Option, Some, [], ap, bytes_eq, false, if◌then◌else◌, is_some, not, option_map, refl, subst, sym, true, ℕ, ◌&&◌, ◌++◌, ◌||◌, ◌∙◌, ◌∷◌, ◌≡◌}
use Rattle.std.proofs.lemmas.Slice.Eq.{bytes_eq-Decides}
use Rattle.std.specs.Option.{option_map_or}
use Rattle.pc_rule_laws.specs.Agreement.{Agrees, seen_among}
use Rattle.pc_rule_laws.specs.Roles.{keys, keys-append}
use Rattle.pc_rules.specs.Places.{pass}
use Rattle.pc_rules.specs.Meanings.{Class, Found, Local, Meaning, Outside, define, define_all, entry_of, field_or, find, is_routine_class, known_or, later_or, with_signature}
use Rattle.pc_scope.specs.Declarations.{Declared, HereAt, LaterAt, Meant}
use Rattle.pc_scope.specs.Places.{in_definition, is_before}
use Rattle.pc_scope.specs.Around.{first_declared}
use Rattle.pc_scope.specs.Lookup.{seen_from}
use Rattle.pc_syntax.specs.Words.{is_among}
use Rattle.pc_types.specs.Sameness.{same}
use Rattle.pc_types.specs.Shapes.{Typed}

-- a declaration with its class
pub record Classed : Type 0 where
  pub at : Declared
  pub class : Class

-- the first declaration of a name
abbrev pub first_of : List Classed → List ℕ → Option Classed
first_of [] n = None
first_of (e ∷ es) n = if bytes_eq e.at.name n then Some e else first_of es n

abbrev pub class_of : Option Classed → Option Class
class_of None = None
class_of (Some e) = Some e.class

-- whether a declaration stands before a place, and the place not in it
abbrev pub is_here : List ℕ → Declared → Bool
is_here q d = not (is_before q d.place) && not (in_definition d.definition q)

abbrev pub visible : List ℕ → Option Classed → Option Class
visible q None = None
visible q (Some e) = if is_here q e.at then Some e.class else None

-- each declaration of a list counts for a place, or none does
abbrev pub AllAre : Bool → List ℕ → List Classed → Type 0
AllAre b q [] = Unit {0}
AllAre b q (e ∷ es) = (is_here q e.at ≡ b) × AllAre b q es

-- of these declarations, those of a name that stand before a place are what a Local has passed, and the first of them, if it counts, is
-- what the Local knows
pub record Knows (q n : List ℕ) (l : Local) (es : List Classed) : Type 0 where
  pub passed : is_among l.passed n ≡ is_some (first_of es n)
  pub known : entry_of (keys l.known) n ≡ visible q (first_of es n)

-- ---- lists

abbrev pub or_else : {X : Type 0} → Option X → Option X → Option X
or_else None o = o
or_else (Some x) o = Some x

pub entry_of-append : {X : Type 0} (xs ys : List (List ℕ × X)) (n : List ℕ) → entry_of (xs ++ ys) n ≡ or_else (entry_of xs n) (entry_of ys n)
entry_of-append [] ys n = refl
entry_of-append {X} (x ∷ xs) ys n = elim (bytes_eq x.0 n) as (λ (b : Bool). (if b then Some x.1 else entry_of (xs ++ ys) n) ≡ or_else (if b then Some x.1 else entry_of xs n) (entry_of ys n)) [ true ↦ refl | false ↦ entry_of-append xs ys n ]

pub first_of-append : (xs ys : List Classed) (n : List ℕ) → first_of (xs ++ ys) n ≡ or_else (first_of xs n) (first_of ys n)
first_of-append [] ys n = refl
first_of-append (x ∷ xs) ys n = elim (bytes_eq x.at.name n) as (λ (b : Bool). (if b then Some x else first_of (xs ++ ys) n) ≡ or_else (if b then Some x else first_of xs n) (first_of ys n)) [ true ↦ refl | false ↦ first_of-append xs ys n ]

pub is_among-append : (xs ys : List (List ℕ)) (n : List ℕ) → is_among (xs ++ ys) n ≡ (is_among xs n || is_among ys n)
is_among-append [] ys n = refl
is_among-append (x ∷ xs) ys n = elim (bytes_eq x n) as (λ (b : Bool). (b || is_among (xs ++ ys) n) ≡ ((b || is_among xs n) || is_among ys n)) [ true ↦ refl | false ↦ is_among-append xs ys n ]

pub entry_of-keys : (ds : List (List ℕ × Meaning)) (n : List ℕ) → entry_of (keys ds) n ≡ option_map (λ (m : Meaning). m.class) (entry_of ds n)
entry_of-keys [] n = refl
entry_of-keys (d ∷ ds) n = elim (bytes_eq d.0 n) as (λ (b : Bool). (if b then Some d.1.class else entry_of (keys ds) n) ≡ option_map (λ (m : Meaning). m.class) (if b then Some d.1 else entry_of ds n)) [ true ↦ refl | false ↦ entry_of-keys ds n ]

pub first_of-all : (b : Bool) (q n : List ℕ) (es : List Classed) (e : Classed) → AllAre b q es → first_of es n ≡ Some e → is_here q e.at ≡ b
first_of-all b q n [] e all is = cc
first_of-all b q n (x ∷ es) e all is =
    let by : (if bytes_eq x.at.name n then Some x else first_of es n) ≡ Some e → is_here q e.at ≡ b = elim (bytes_eq x.at.name n) as (λ (t : Bool). (if t then Some x else first_of es n) ≡ Some e → is_here q e.at ≡ b) [ true ↦ (λ is. cc (is, all.0)) | false ↦ (λ is. first_of-all b q n es e all.1 is) ] in by is

-- ---- declaring

pub equal : (x n : List ℕ) → bytes_eq x n ≡ true → x ≡ n
equal x n e = (bytes_eq-Decides x n).0 e

-- what a Local knows of one name after one more declaration, and after some
abbrev pub known_after : Bool → Option Class → Option Class → Option Class
known_after true o c = o
known_after false o c = or_else o c

or-false : (a b : Bool) → (a || (b || false)) ≡ (a || b)
or-false true b = refl
or-false false true = refl
or-false false false = refl

or-nothing : (a : Bool) → (a || false) ≡ a
or-nothing true = refl
or-nothing false = refl

or-some : (a b : Bool) (c : Class) (o : Option Class) → ((a || b) || is_some o) ≡ (a || is_some (if b then Some c else o))
or-some true b c o = refl
or-some false true c o = refl
or-some false false c o = refl

or_else-none : {X : Type 0} (o : Option X) → or_else o None ≡ o
or_else-none None = refl
or_else-none (Some x) = refl

pub known_after-none : (b : Bool) (o : Option Class) → known_after b o None ≡ o
known_after-none true o = refl
known_after-none false o = or_else-none o

twice : (a b : Bool) (o : Option Class) (c : Class) (p : Option Class) →
    known_after (a || b) (known_after a o (if b then Some c else None)) p ≡ known_after a o (if b then Some c else p)
twice true b o c p = refl
twice false true None c p = refl
twice false true (Some d) c p = refl
twice false false None c p = refl
twice false false (Some d) c p = refl

-- one more declaration
put-passed : (l : Local) (x : List ℕ) (m : Meaning) (n : List ℕ) → is_among (define l x m).passed n ≡ (is_among l.passed n || bytes_eq x n)
put-passed l x m n = is_among-append l.passed (x ∷ []) n ∙ or-false (is_among l.passed n) (bytes_eq x n)

put-known : (l : Local) (x : List ℕ) (m : Meaning) (n : List ℕ) →
    entry_of (keys (define l x m).known) n ≡ known_after (is_among l.passed n) (entry_of (keys l.known) n) (if bytes_eq x n then Some m.class else None)
put-known l x m n = two (bytes_eq x n) (is_among l.passed x) (is_among l.passed n) refl (λ e. ap (is_among l.passed) (equal x n e)) where
  add : (b : Bool) → bytes_eq x n ≡ b → entry_of (keys (l.known ++ (x, m) ∷ [])) n ≡ or_else (entry_of (keys l.known) n) (if b then Some m.class else None)
  add b e =
      ap (λ ks. entry_of ks n) (keys-append l.known ((x, m) ∷ [])) ∙ entry_of-append (keys l.known) ((x, m.class) ∷ []) n
      ∙ ap (λ t. or_else (entry_of (keys l.known) n) (if t then Some m.class else None)) e

  two : (b s t : Bool) → bytes_eq x n ≡ b → (b ≡ true → s ≡ t) →
      entry_of (keys (if s then l.known else l.known ++ (x, m) ∷ [])) n ≡ known_after t (entry_of (keys l.known) n) (if b then Some m.class else None)
  two true true true e same = refl
  two true true false e same = cc (same refl)
  two true false true e same = cc (same refl)
  two true false false e same = add true e
  two false true true e same = refl
  two false true false e same = sym (or_else-none (entry_of (keys l.known) n))
  two false false true e same = add false e ∙ or_else-none (entry_of (keys l.known) n)
  two false false false e same = add false e

all-passed : (l : Local) (ds : List (List ℕ × Meaning)) (n : List ℕ) → is_among (define_all l ds).passed n ≡ (is_among l.passed n || is_some (entry_of (keys ds) n))
all-passed l [] n = sym (or-nothing (is_among l.passed n))
all-passed l (d ∷ ds) n =
    all-passed (define l d.0 d.1) ds n ∙ ap (λ b. b || is_some (entry_of (keys ds) n)) (put-passed l d.0 d.1 n)
    ∙ or-some (is_among l.passed n) (bytes_eq d.0 n) d.1.class (entry_of (keys ds) n)

pub all-known : (l : Local) (ds : List (List ℕ × Meaning)) (n : List ℕ) →
    entry_of (keys (define_all l ds).known) n ≡ known_after (is_among l.passed n) (entry_of (keys l.known) n) (entry_of (keys ds) n)
all-known l [] n = sym (known_after-none (is_among l.passed n) (entry_of (keys l.known) n))
all-known l (d ∷ ds) n =
    all-known (define l d.0 d.1) ds n
    ∙ (λ i. known_after (put-passed l d.0 d.1 n i) (put-known l d.0 d.1 n i) (entry_of (keys ds) n))
    ∙ twice (is_among l.passed n) (bytes_eq d.0 n) (entry_of (keys l.known) n) d.1.class (entry_of (keys ds) n)

-- ---- the declarations before a place

visible-more : (q n : List ℕ) (es fs : List Classed) (t : Bool) (o : Option Class) →
    t ≡ is_some (first_of es n) → o ≡ visible q (first_of es n) → AllAre true q fs → known_after t o (class_of (first_of fs n)) ≡ visible q (first_of (es ++ fs) n)
visible-more q n es fs t o p k all = by (first_of es n) (first_of fs n) t o p k refl ∙ ap (visible q) (sym (first_of-append es fs n)) where
  by : (x y : Option Classed) (t : Bool) (o : Option Class) → t ≡ is_some x → o ≡ visible q x → first_of fs n ≡ y → known_after t o (class_of y) ≡ visible q (or_else x y)
  by (Some e) y true o p k is = k
  by (Some e) y false o p k is = cc p
  by None y true o p k is = cc p
  by None None false o p k is = ap (λ z. or_else z None) k
  by None (Some f) false o p k is =
      ap (λ z. or_else z (Some f.class)) k ∙ sym (ap (λ b. if b then Some f.class else None) (first_of-all true q n fs f all is))

pub is_some-class : (o : Option Classed) → is_some (class_of o) ≡ is_some o
is_some-class None = refl
is_some-class (Some e) = refl

is_some-or : (x y : Option Classed) → (is_some x || is_some y) ≡ is_some (or_else x y)
is_some-or None y = refl
is_some-or (Some e) y = refl

-- behind some declarations that count for a place
pub Knows-all : (q n : List ℕ) (l : Local) (ds : List (List ℕ × Meaning)) (es fs : List Classed) →
    Knows q n l es → entry_of (keys ds) n ≡ class_of (first_of fs n) → AllAre true q fs → Knows q n (define_all l ds) (es ++ fs)
Knows-all q n l ds es fs k same all = record {
  passed =
      all-passed l ds n ∙ (λ i. k.passed i || is_some (same i)) ∙ ap (λ b. is_some (first_of es n) || b) (is_some-class (first_of fs n))
      ∙ is_some-or (first_of es n) (first_of fs n) ∙ ap is_some (sym (first_of-append es fs n));
  known =
      all-known l ds n ∙ ap (λ o. known_after (is_among l.passed n) (entry_of (keys l.known) n) o) same
      ∙ visible-more q n es fs (is_among l.passed n) (entry_of (keys l.known) n) k.passed k.known all;
}

-- another place that has the same names
pub Knows-moved : (q n : List ℕ) (l k : Local) (es : List Classed) → k.passed ≡ l.passed → entry_of (keys k.known) n ≡ entry_of (keys l.known) n → Knows q n l es → Knows q n k es
Knows-moved q n l k es p e h = record { passed = ap (λ ps. is_among ps n) p ∙ h.passed; known = e ∙ h.known }

hidden-more : (q n : List ℕ) (es fs : List Classed) (o : Option Class) →
    o ≡ visible q (first_of es n) → AllAre false q fs → o ≡ visible q (first_of (es ++ fs) n)
hidden-more q n es fs o k all = by (first_of es n) (first_of fs n) k refl ∙ ap (visible q) (sym (first_of-append es fs n)) where
  by : (x y : Option Classed) → o ≡ visible q x → first_of fs n ≡ y → o ≡ visible q (or_else x y)
  by (Some e) y k is = k
  by None None k is = k
  by None (Some f) k is = k ∙ sym (ap (λ b. if b then Some f.class else None) (first_of-all false q n fs f all is))

-- in a definition of a constant or a type
pub Knows-pass : (q : List ℕ) (b : ℕ) (bs : List ℕ) (l : Local) (x : List ℕ) (es fs : List Classed) →
    Knows q (b ∷ bs) l es → bytes_eq x (b ∷ bs) ≡ is_some (first_of fs (b ∷ bs)) → AllAre false q fs → Knows q (b ∷ bs) (pass l x) (es ++ fs)
Knows-pass q b bs l [] es fs k same all = record {
  passed =
      k.passed ∙ sym (or-nothing (is_some (first_of es (b ∷ bs)))) ∙ ap (λ t. is_some (first_of es (b ∷ bs)) || t) same
      ∙ is_some-or (first_of es (b ∷ bs)) (first_of fs (b ∷ bs)) ∙ ap is_some (sym (first_of-append es fs (b ∷ bs)));
  known = hidden-more q (b ∷ bs) es fs _ k.known all;
}
Knows-pass q b bs l (c ∷ cs) es fs k same all = record {
  passed =
      is_among-append l.passed ((c ∷ cs) ∷ []) (b ∷ bs) ∙ or-false (is_among l.passed (b ∷ bs)) (bytes_eq (c ∷ cs) (b ∷ bs))
      ∙ (λ i. k.passed i || same i) ∙ is_some-or (first_of es (b ∷ bs)) (first_of fs (b ∷ bs)) ∙ ap is_some (sym (first_of-append es fs (b ∷ bs)));
  known = hidden-more q (b ∷ bs) es fs _ k.known all;
}

-- ---- both look-ups

some_same : (c d : Class) → Some c ≡ Some d → c ≡ d
some_same c d e = cc e

abbrev pub places_in : List Classed → List Declared
places_in [] = []
places_in (e ∷ es) = e.at ∷ places_in es

-- the class of each declaration is that of its place
abbrev pub AllClassed : (List ℕ → Class → Type 0) → List Classed → Type 0
AllClassed T [] = Unit {0}
AllClassed T (e ∷ es) = T e.at.place e.class × AllClassed T es

abbrev judged_at : List ℕ → Option Classed → Meant → Meant
judged_at q None outer = outer
judged_at q (Some e) outer = if is_here q e.at then HereAt e.at.place else LaterAt e.at.place

seen_among-first : (q : List ℕ) (es : List Classed) (n : List ℕ) (outer : Meant) → seen_among q (places_in es) n outer ≡ judged_at q (first_of es n) outer
seen_among-first q [] n outer = refl
seen_among-first q (e ∷ es) n outer =
    elim (bytes_eq e.at.name n) as (λ (b : Bool).
    option_map_or (λ (d : Declared). seen_from q d) (if b then Some e.at else first_declared n (places_in es)) outer ≡ judged_at q (if b then Some e else first_of es n) outer) [
      | true ↦ refl
      | false ↦ seen_among-first q es n outer
    ]

classed-first : (T : List ℕ → Class → Type 0) (es : List Classed) (n : List ℕ) (e : Classed) → AllClassed T es → first_of es n ≡ Some e → T e.at.place e.class
classed-first T [] n e all is = cc
classed-first T (x ∷ es) n e all is =
    let by : (if bytes_eq x.at.name n then Some x else first_of es n) ≡ Some e → T e.at.place e.class =
    elim (bytes_eq x.at.name n) as (λ (t : Bool). (if t then Some x else first_of es n) ≡ Some e → T e.at.place e.class) [
      | true ↦ (λ is. let same : x ≡ e = cc is in subst (λ (y : Classed). T y.at.place y.class) same all.0)
      | false ↦ (λ is. classed-first T es n e all.1 is)
    ] in by is

-- the signature of a routine doesn't change its class
signature-class : (out : Outside) (n : List ℕ) (m : Meaning) → (with_signature out n m).class ≡ m.class
signature-class out n m =
    elim (is_routine_class m.class) as (λ (b : Bool). (if b then record m { signature = out.heading n } else m).class ≡ m.class) [ true ↦ refl | false ↦ refl ]

-- what both make of the first declaration
settled : (T : List ℕ → Class → Type 0) (out : Outside) (n p : List ℕ) (c : Class) (b : Bool) (m : Option Meaning) (o : Option Class) →
    option_map (λ (x : Meaning). x.class) m ≡ (if b then Some c else None) → o ≡ Some c → T p c →
    Agrees T (known_or out n m (later_or o (out.means n))) (if b then HereAt p else LaterAt p)
settled T out n p c true None o k e t = cc k
settled T out n p c true (Some m) o k e t =
    let same : c ≡ (with_signature out n m).class = sym (signature-class out n m ∙ some_same m.class c k) in
    subst (λ (x : Class). T p x) same t
settled T out n p c false (Some m) o k e t = cc k
settled T out n p c false None None k e t = cc e
settled T out n p c false None (Some d) k e t =
    let same : c ≡ d = sym (some_same d c e) in
    subst (λ (x : Class). T p x) same t

-- the look-ups agree where a Local knows what stands before a place, and the other declarations of the block don't count there
module _ (T : List ℕ → Class → Type 0) (q n : List ℕ) (out : Outside) (l : Local) (outer : Meant) where
  by_first : (x y : Option Classed) (m : Option Meaning) (o : Option Class) → option_map (λ (m : Meaning). m.class) m ≡ visible q x → o ≡ class_of (or_else x y) →
      ((e : Classed) → or_else x y ≡ Some e → T e.at.place e.class) → ((f : Classed) → y ≡ Some f → is_here q f.at ≡ false) → Agrees T (out.means n) outer →
      Agrees T (known_or out n m (later_or o (out.means n))) (judged_at q (or_else x y) outer)
  by_first (Some e) y m o k c t f a = settled T out n e.at.place e.class (is_here q e.at) m o k c (t e refl)
  by_first None None (Some m) o k c t f a = cc k
  by_first None None None (Some d) k c t f a = cc c
  by_first None None None None k c t f a = a
  by_first None (Some e) m o k c t f a =
      settled T out n e.at.place e.class (is_here q e.at) m o (k ∙ ap (λ b. if b then Some e.class else None) (sym (f e refl))) c (t e refl)

  pub Knows-agrees : (es fs : List Classed) → Knows q n l es → AllAre false q fs → entry_of l.names n ≡ class_of (first_of (es ++ fs) n) → AllClassed T (es ++ fs) →
      entry_of l.fields n ≡ None → Agrees T (out.means n) outer → Agrees T (find out l n) (seen_among q (places_in (es ++ fs)) n outer)
  unfolding find
  Knows-agrees es fs k later names all none a =
      let both : first_of (es ++ fs) n ≡ or_else (first_of es n) (first_of fs n) = first_of-append es fs n in
      let same : seen_among q (places_in (es ++ fs)) n outer ≡ judged_at q (or_else (first_of es n) (first_of fs n)) outer =
      seen_among-first q (es ++ fs) n outer ∙ ap (λ x. judged_at q x outer) both in
      let found : Found = known_or out n (entry_of l.known n) (later_or (entry_of l.names n) (out.means n)) in
      let plain : Agrees T found (seen_among q (places_in (es ++ fs)) n outer) =
      subst (λ (m : Meant). Agrees T found m) (sym same)
      (by_first (first_of es n) (first_of fs n) (entry_of l.known n) (entry_of l.names n) (sym (entry_of-keys l.known n) ∙ k.known) (names ∙ ap class_of both)
      (λ e is. classed-first T (es ++ fs) n e all (both ∙ is)) (λ f is. first_of-all false q n fs f later is) a) in
      subst (λ (o : Option (Typed × Bool)). Agrees T (field_or o found) (seen_among q (places_in (es ++ fs)) n outer)) (sym none) plain
