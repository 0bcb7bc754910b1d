-- Lists of declarations with one more: lemmas.
use Rattle.std.proofs.Common.{◌≡◌, ℕ, Bool, true, false, ◌||◌, if◌then◌else◌, List, [], ◌∷◌, ◌++◌, Option, Some, None, option_map, refl, ap, sym, ◌∙◌}
use Rattle.std.specs.Option.{option_and_then}
use Rattle.std.specs.Str.{bytes_eq}
use Rattle.std.proofs.lemmas.Slice.Eq.{bytes_eq-Decides}
use Rattle.pc_syntax.specs.Words.{is_among}
use Rattle.pc_types.specs.Shapes.{Typed}
use Rattle.pc_rules.specs.DeclaringNames.{all_as}
use Rattle.pc_rules.specs.Headings.{formals_in}
use Rattle.pc_rules.specs.Meanings.{Meaning, Formal}
use Rattle.pc_rules.specs.NameClasses.{is_reference_class}
use Rattle.pc_rules.specs.Routines.{firsts}
use Rattle.pc_headings.specs.Listing.{names_of, with_formal}

-- ---- names that stand before

pub or-assoc : (a b c : Bool) → ((a || b) || c) ≡ (a || (b || c))
or-assoc true b c = refl
or-assoc false b c = refl

or-middle : (a b c : Bool) → ((a || b) || c) ≡ (b || (a || c))
or-middle true true c = refl
or-middle true false c = refl
or-middle false b c = refl

pub or-none : (a : Bool) → (a || false) ≡ a
or-none true = refl
or-none false = refl

pub among-append : (xs ys : List (List ℕ)) (n : List ℕ) → is_among (xs ++ ys) n ≡ (is_among xs n || is_among ys n)
among-append [] ys n = refl
among-append (x ∷ xs) ys n = ap (λ (b : Bool). bytes_eq x n || b) (among-append xs ys n) ∙ sym (or-assoc (bytes_eq x n) (is_among xs n) (is_among ys n))

-- one name more, at the end or before
pub among-moved : (n : List ℕ) (xs ys : List (List ℕ)) (w : List ℕ) → is_among ((n ∷ xs) ++ ys) w ≡ is_among (xs ++ n ∷ ys) w
among-moved n xs ys w =
    ap (λ (b : Bool). bytes_eq n w || b) (among-append xs ys w)
    ∙ sym (or-assoc (bytes_eq n w) (is_among xs w) (is_among ys w))
    ∙ or-middle (bytes_eq n w) (is_among xs w) (is_among ys w)
    ∙ sym (among-append xs (n ∷ ys) w)

pub names_of-append : (ds es : List (List ℕ × Meaning)) → names_of (ds ++ es) ≡ names_of ds ++ names_of es
names_of-append [] es = refl
names_of-append (d ∷ ds) es = ap (λ (ns : List (List ℕ)). d.0 ∷ ns) (names_of-append ds es)

pub names_of-all_as : (m : Meaning) (ns : List (List ℕ)) → names_of (all_as m ns) ≡ ns
names_of-all_as m [] = refl
names_of-all_as m (n ∷ ns) = ap (λ (ms : List (List ℕ)). n ∷ ms) (names_of-all_as m ns)

pub all_as-append : (m : Meaning) (ns ms : List (List ℕ)) → all_as m (ns ++ ms) ≡ all_as m ns ++ all_as m ms
all_as-append m [] ms = refl
all_as-append m (n ∷ ns) ms = ap (λ (ds : List (List ℕ × Meaning)). (n, m) ∷ ds) (all_as-append m ns ms)

same-among : (x y : List ℕ) (before : List (List ℕ)) → bytes_eq x y ≡ true → is_among before x ≡ is_among before y
same-among x y before e = ap (is_among before) ((bytes_eq-Decides x y).0 e)

-- ---- the first of each name

hidden-by : (b c r : Bool) (d : List ℕ × Meaning) (p q : List (List ℕ × Meaning)) (B : Bool) → (c ≡ true → b ≡ B) → b ≡ true → p ≡ q ++ (if B || r then [] else d ∷ []) → p ≡ q ++ (if B || (c || r) then [] else d ∷ [])
hidden-by b true r d p q B same is e = let t : B ≡ true = sym (same refl) ∙ is in e ∙ ap (λ (z : Bool). q ++ (if z || r then [] else d ∷ [])) t ∙ sym (ap (λ (z : Bool). q ++ (if z || true then [] else d ∷ [])) t)
hidden-by b false r d p q B same is e = e

firsts-by : (b : Bool) (e d : List ℕ × Meaning) (es : List (List ℕ × Meaning)) (before : List (List ℕ)) → is_among before e.0 ≡ b →
    firsts before (es ++ d ∷ []) ≡ firsts before es ++ (if is_among before d.0 || is_among (names_of es) d.0 then [] else d ∷ []) →
    firsts (e.0 ∷ before) (es ++ d ∷ []) ≡ firsts (e.0 ∷ before) es ++ (if is_among (e.0 ∷ before) d.0 || is_among (names_of es) d.0 then [] else d ∷ []) →
    (if b then firsts before (es ++ d ∷ []) else e ∷ firsts (e.0 ∷ before) (es ++ d ∷ [])) ≡
    (if b then firsts before es else e ∷ firsts (e.0 ∷ before) es) ++ (if is_among before d.0 || (bytes_eq e.0 d.0 || is_among (names_of es) d.0) then [] else d ∷ [])
firsts-by true e d es before is one two =
    hidden-by (is_among before e.0) (bytes_eq e.0 d.0) (is_among (names_of es) d.0) d (firsts before (es ++ d ∷ [])) (firsts before es) (is_among before d.0) (same-among e.0 d.0 before) is one
firsts-by false e d es before is one two =
    ap (λ (ds : List (List ℕ × Meaning)). e ∷ ds) two
    ∙ ap (λ (z : Bool). (e ∷ firsts (e.0 ∷ before) es) ++ (if z then [] else d ∷ [])) (or-middle (bytes_eq e.0 d.0) (is_among before d.0) (is_among (names_of es) d.0))

firsts-end : (before : List (List ℕ)) (es : List (List ℕ × Meaning)) (d : List ℕ × Meaning) →
    firsts before (es ++ d ∷ []) ≡ firsts before es ++ (if is_among before d.0 || is_among (names_of es) d.0 then [] else d ∷ [])
firsts-end before [] d = ap (λ (z : Bool). if z then [] else d ∷ []) (sym (or-none (is_among before d.0)))
firsts-end before (e ∷ es) d = firsts-by (is_among before e.0) e d es before refl (firsts-end before es d) (firsts-end (e.0 ∷ before) es d)

-- one declaration more is the first of its name unless that stands before
pub firsts-more : (es : List (List ℕ × Meaning)) (d : List ℕ × Meaning) → firsts [] (es ++ d ∷ []) ≡ firsts [] es ++ (if is_among (names_of es) d.0 then [] else d ∷ [])
firsts-more es d = firsts-end [] es d

-- ---- formal parameters

formals-by : (t u : Option Typed) (fs : Option (List Formal)) (x : List ℕ) (b : Bool) (n : List ℕ) (c : Bool) →
    option_and_then (λ (s : Typed). option_map (λ (gs : List Formal). record { name = x; by_place = b; type = s } ∷ gs) (with_formal fs n c u)) t ≡
    with_formal (option_and_then (λ (s : Typed). option_map (λ (gs : List Formal). record { name = x; by_place = b; type = s } ∷ gs) fs) t) n c u
formals-by None None fs x b n c = refl
formals-by None (Some u) fs x b n c = refl
formals-by (Some t) None None x b n c = refl
formals-by (Some t) None (Some gs) x b n c = refl
formals-by (Some t) (Some u) None x b n c = refl
formals-by (Some t) (Some u) (Some gs) x b n c = refl

formal-alone : (t : Option Typed) (n : List ℕ) (b : Bool) →
    option_and_then (λ (s : Typed). option_map (λ (gs : List Formal). record { name = n; by_place = b; type = s } ∷ gs) (Some [])) t ≡ with_formal (Some []) n b t
formal-alone None n b = refl
formal-alone (Some t) n b = refl

pub formals-more : (es : List (List ℕ × Meaning)) (n : List ℕ) (m : Meaning) → formals_in (es ++ (n, m) ∷ []) ≡ with_formal (formals_in es) n (is_reference_class m.class) m.type
formals-more [] n m = formal-alone m.type n (is_reference_class m.class)
formals-more (e ∷ es) n m =
    ap (λ (x : Option (List Formal)). option_and_then (λ (s : Typed). option_map (λ (gs : List Formal). record { name = e.0; by_place = is_reference_class e.1.class; type = s } ∷ gs) x) e.1.type) (formals-more es n m)
    ∙ formals-by e.1.type m.type (formals_in es) e.0 (is_reference_class e.1.class) n (is_reference_class m.class)
