-- The names of the fields of a record, and row 3 at them: laws.
use Rattle.std.specs.Prelude.{◌≡◌, ◌+◌, ℕ, Bool, true, false, ◌||◌, if◌then◌else◌, List, [], ◌∷◌, ◌++◌, suc, length, get_or, Some, codes}
use Rattle.std.specs.Str.{bytes_eq}
use Rattle.std.proofs.Common.{refl, ap, sym, ◌∙◌, arith, append_assoc, append-nil}
use Rattle.pc_syntax.specs.Classes.{has}
use Rattle.pc_syntax.specs.Plain.{Plain, kids_of}
use Rattle.pc_syntax.specs.Sorts.{is_hole}
use Rattle.pc_syntax.specs.WellFormed.{IsProper}
use Rattle.pc_syntax.specs.Words.{lowered, is_among}
use Rattle.pc_syntax.specs.declared.class.Class.TheVariants as class
use Rattle.pc_syntax.specs.declared.kind.Kind.{Kind}
use Rattle.pc_syntax.specs.declared.kind.Kind.TheVariants as kind
use Rattle.pc_forms.specs.CountLaws.{fixed_length}
use Rattle.pc_forms.specs.FormClasses.{Every, HasKids, fixed_count}
use Rattle.pc_rules.specs.Attributes.{Entry, Node, nodes, missing, at_kid, kids_below}
use Rattle.pc_rules.specs.DeclaringNames.{names_in, repeats}
use Rattle.pc_rules.specs.Entries.{note_if, quoted}
use Rattle.pc_rules.specs.Meanings.{Local, Outside}
use Rattle.pc_rules.specs.StructuredTypes.{field_names, field_repeats}
use Rattle.pc_environment.specs.Decorating.{place_behind, marks_of}
use Rattle.pc_places.specs.Places.{node_at}
use Rattle.pc_denoters.specs.ArrayMakes.{kids-classes}
use Rattle.pc_denoters.specs.EnumMakes.{names-kind, list-names, list-repeats}
use Rattle.pc_denoters.specs.FieldNaming.{field_trees, first_kids, all_field_names, AreTwice, NamedSoFar}
use Rattle.pc_denoters.specs.FieldRows.{twice_of}
use Rattle.pc_denoters.specs.FormsAt.{first_place, kids-of-kind}
use Rattle.pc_denoters.specs.Passing.{names_of, repeats_of, any_hole_of}
use Rattle.pc_denoters.specs.PassingLaws.{names_of-end, name-of-name, name-of-hole, repeats_of-end, hole_of-end, twice_entry, last_twice}
use Rattle.pc_denoters.specs.declared.fields.FieldFound.{FieldFound}
use Rattle.pc_denoters.specs.declared.fields.FieldNames.{FieldNames}

-- ---- one more name of a list

or-false : (b : Bool) → (b || false) ≡ b
or-false true = refl
or-false false = refl

or-true : (b : Bool) → (b || true) ≡ true
or-true true = refl
or-true false = refl

pub named-none : (old : List (List ℕ)) (f : FieldNames) → f.names.items ≡ [] → f.twice.items ≡ [] → f.hole ≡ false → NamedSoFar old old [] f
named-none old f n t h = record { before = sym (append-nil old); names = n; twice = t; hole = h }

pub named-name : (old mid new : List (List ℕ)) (ts : List Plain) (t : Plain) (f g : FieldNames) (twice : Bool) → is_hole t.kind ≡ false → NamedSoFar old mid ts f → new ≡ mid ++ lowered t.word ∷ [] → twice ≡ is_among mid (lowered t.word) →
    g.names.items ≡ f.names.items ++ lowered t.word ∷ [] → g.twice.items ≡ f.twice.items ++ twice_entry (1 + length ts) twice t.word → g.hole ≡ f.hole → NamedSoFar old new (ts ++ t ∷ []) g
named-name old mid new ts t f g twice no_hole so more was n e h =
    let w = lowered t.word in
    let names : names_of (ts ++ t ∷ []) ≡ names_of ts ++ w ∷ [] = names_of-end ts t ∙ ap (λ (ms : List (List ℕ)). names_of ts ++ ms) (name-of-name t no_hole) in
    record {
      before = more ∙ ap (λ (ms : List (List ℕ)). ms ++ w ∷ []) so.before ∙ append_assoc old (names_of ts) (w ∷ []) ∙ ap (λ (ms : List (List ℕ)). old ++ ms) (sym names);
      names = n ∙ ap (λ (ms : List (List ℕ)). ms ++ w ∷ []) so.names ∙ sym names;
      twice = e ∙ ap (λ (es : List Entry). es ++ twice_entry (1 + length ts) twice t.word) so.twice
          ∙ ap (λ (b : Bool). repeats_of old 1 ts ++ twice_entry (1 + length ts) b t.word) (was ∙ ap (λ (ms : List (List ℕ)). is_among ms w) so.before)
          ∙ ap (λ (b : Bool). repeats_of old 1 ts ++ last_twice b (1 + length ts) (is_among (old ++ names_of ts) w) t.word) (sym no_hole)
          ∙ sym (repeats_of-end old 1 ts t);
      hole = h ∙ so.hole ∙ sym (or-false (any_hole_of ts)) ∙ ap (λ (b : Bool). any_hole_of ts || b) (sym no_hole) ∙ sym (hole_of-end ts t);
    }

pub named-hole : (old mid : List (List ℕ)) (ts : List Plain) (t : Plain) (f g : FieldNames) → is_hole t.kind ≡ true → NamedSoFar old mid ts f → g.names.items ≡ f.names.items → g.twice.items ≡ f.twice.items → g.hole ≡ true →
    NamedSoFar old mid (ts ++ t ∷ []) g
named-hole old mid ts t f g is so n e h =
    let names : names_of (ts ++ t ∷ []) ≡ names_of ts = names_of-end ts t ∙ ap (λ (ms : List (List ℕ)). names_of ts ++ ms) (name-of-hole t is) ∙ append-nil (names_of ts) in
    record {
      before = so.before ∙ ap (λ (ms : List (List ℕ)). old ++ ms) (sym names);
      names = n ∙ so.names ∙ sym names;
      twice = e ∙ so.twice ∙ sym (append-nil (repeats_of old 1 ts))
          ∙ ap (λ (b : Bool). repeats_of old 1 ts ++ last_twice b (1 + length ts) (is_among (old ++ names_of ts) (lowered t.word)) t.word) (sym is)
          ∙ sym (repeats_of-end old 1 ts t);
      hole = h ∙ sym (or-true (any_hole_of ts)) ∙ ap (λ (b : Bool). any_hole_of ts || b) (sym is) ∙ sym (hole_of-end ts t);
    }

-- ---- one more list

pub all_field_names-end : (ts : List Plain) (t : Plain) → all_field_names (ts ++ t ∷ []) ≡ all_field_names ts ++ names_of (field_trees t)
all_field_names-end [] t = append-nil (names_of (field_trees t))
all_field_names-end (u ∷ ts) t =
    ap (λ (ms : List (List ℕ)). names_of (field_trees u) ++ ms) (all_field_names-end ts t) ∙ sym (append_assoc (names_of (field_trees u)) (all_field_names ts) (names_of (field_trees t)))

pub twice-end : (before : List (List ℕ)) (fs : List FieldFound) (ts : List Plain) (f : FieldFound) (t : Plain) → AreTwice before fs ts → f.twice.items ≡ repeats_of (before ++ all_field_names ts) 1 (field_trees t) → AreTwice before (fs ++ f ∷ []) (ts ++ t ∷ [])
twice-end before [] [] f t h e = (e ∙ ap (λ (b : List (List ℕ)). repeats_of b 1 (field_trees t)) (append-nil before), tt)
twice-end before (g ∷ fs) (u ∷ ts) f t h e =
    (h.0, twice-end (before ++ names_of (field_trees u)) fs ts f t h.1 (e ∙ ap (λ (b : List (List ℕ)). repeats_of b 1 (field_trees t)) (sym (append_assoc before (names_of (field_trees u)) (all_field_names ts)))))
twice-end before [] (u ∷ ts) f t h e = absurd h
twice-end before (g ∷ fs) [] f t h e = absurd h

-- ---- the order of names is nothing to row 3

-- row 3 at one name
abbrev note_twice : Bool → List ℕ → List Entry
note_twice twice w = note_if twice 3 (quoted (codes "declared twice") w)

alike-by : (b : Bool) (c d : Bool) (i : ℕ) (w : List ℕ) (rest more rest' more' : List Entry) → c ≡ d → rest ≡ rest' → more ≡ more' →
    (if b then rest else at_kid i (note_twice c w) ++ more) ≡ (if b then rest' else at_kid i (note_twice d w) ++ more')
alike-by true c d i w rest more rest' more' e f g = f
alike-by false c d i w rest more rest' more' e f g = ap (λ (x : Bool). at_kid i (note_twice x w) ++ more) e ∙ ap (λ (es : List Entry). at_kid i (note_twice d w) ++ es) g

repeats_of-alike : (b c : List (List ℕ)) (i : ℕ) (ts : List Plain) → ((q : List ℕ) → is_among b q ≡ is_among c q) → repeats_of b i ts ≡ repeats_of c i ts
repeats_of-alike b c i [] h = refl
repeats_of-alike b c i (t ∷ ts) h =
    let w = lowered t.word in
    alike-by (is_hole t.kind) (is_among b w) (is_among c w) i t.word (repeats_of b (suc i) ts) (repeats_of (w ∷ b) (suc i) ts) (repeats_of c (suc i) ts) (repeats_of (w ∷ c) (suc i) ts) (h w)
    (repeats_of-alike b c (suc i) ts h) (repeats_of-alike (w ∷ b) (w ∷ c) (suc i) ts (λ q. ap (λ (x : Bool). bytes_eq w q || x) (h q)))

or-assoc : (a b c : Bool) → (a || (b || c)) ≡ ((a || b) || c)
or-assoc true b c = refl
or-assoc false b c = refl

is_among-append : (xs ys : List (List ℕ)) (q : List ℕ) → is_among (xs ++ ys) q ≡ (is_among xs q || is_among ys q)
is_among-append [] ys q = refl
is_among-append (x ∷ xs) ys q = ap (λ (b : Bool). bytes_eq x q || b) (is_among-append xs ys q) ∙ or-assoc (bytes_eq x q) (is_among xs q) (is_among ys q)

or-swap : (a b : Bool) → (a || b) ≡ (b || a)
or-swap true true = refl
or-swap true false = refl
or-swap false true = refl
or-swap false false = refl

-- names behind others or before them
among-turned : (b c ns : List (List ℕ)) (q : List ℕ) → is_among b q ≡ is_among c q → is_among (b ++ ns) q ≡ is_among (ns ++ c) q
among-turned b c ns q h = is_among-append b ns q ∙ ap (λ (x : Bool). x || is_among ns q) h ∙ or-swap (is_among c q) (is_among ns q) ∙ sym (is_among-append ns c q)

-- ---- lists of fields where they stand

field-parts-by : (out : Outside) (l : Local) (t : Plain) (k : Kind) (ks : List Plain) (before : List (List ℕ)) → t.kind ≡ k → kids_of t ≡ ks → has class.Field k ≡ true → HasKids k ks → ((n : ℕ) → fixed_count k ≡ Some n → length ks ≡ n) →
    (repeats before 1 (field_names (node_at out l t)) ≡ repeats_of before 1 (first_kids ks)) × (names_in (field_names (node_at out l t)) ≡ names_of (first_kids ks))
field-parts-by out l t k [] before e f is h n =
    let none : kids_below (node_at out l t) ≡ [] = kids-of-kind out l t k e ∙ ap (λ (us : List Plain). nodes (marks_of out (first_place l k us) us)) f in
    (ap (λ (ns : List Node). repeats before 1 (kids_below (get_or ns 0 missing))) none, ap (λ (ns : List Node). names_in (kids_below (get_or ns 0 missing))) none)
field-parts-by out l t kind.Field (x ∷ ks) before e f is h n =
    let l1 = first_place l kind.Field (x ∷ ks) in
    let some : kids_below (node_at out l t) ≡ node_at out l1 x ∷ nodes (marks_of out (place_behind out l1 x) ks) = kids-of-kind out l t kind.Field e ∙ ap (λ (us : List Plain). nodes (marks_of out (first_place l kind.Field us) us)) f in
    let ex = names-kind x.kind h.0 in (
      ap (λ (ns : List Node). repeats before 1 (kids_below (get_or ns 0 missing))) some ∙ list-repeats out l1 x before ex,
      ap (λ (ns : List Node). names_in (kids_below (get_or ns 0 missing))) some ∙ list-names out l1 x ex,
    )
field-parts-by out l t (kind.Hole s) (x ∷ ks) before e f is h n = absurd (let m : suc (length ks) ≡ 0 = n 0 refl in omega (arith, m))
field-parts-by out l t k (x ∷ ks) before e f is h n = cc

-- the names of a list of fields, and row 3 at them
pub field-parts : (out : Outside) (l : Local) (t : Plain) (before : List (List ℕ)) → IsProper t → has class.Field t.kind ≡ true →
    (repeats before 1 (field_names (node_at out l t)) ≡ repeats_of before 1 (field_trees t)) × (names_in (field_names (node_at out l t)) ≡ names_of (field_trees t))
field-parts out l t before proper is = field-parts-by out l t t.kind (kids_of t) before refl refl is (kids-classes t t.kind proper refl) (λ n e. fixed_length t n proper e)

-- row 3 at the fields of a record
pub field_repeats-are : (out : Outside) (l : Local) (b c : List (List ℕ)) (i : ℕ) (fs : List FieldFound) (ts : List Plain) → Every IsProper ts → Every (λ u. has class.Field u.kind ≡ true) ts → ((q : List ℕ) → is_among b q ≡ is_among c q) →
    AreTwice b fs ts → twice_of i fs ≡ field_repeats c i (nodes (marks_of out l ts))
field_repeats-are out l b c i [] [] proper is alike h = refl
field_repeats-are out l b c i (f ∷ fs) (t ∷ ts) proper is alike h =
    let n = node_at out l t in
    let m = place_behind out l t in
    let rest = nodes (marks_of out m ts) in
    let ns = names_of (field_trees t) in
    let parts = field-parts out l t c proper.0 is.0 in
    ap (λ (es : List Entry). at_kid i (at_kid 1 es) ++ twice_of (suc i) fs) (h.0 ∙ repeats_of-alike b c 1 (field_trees t) alike ∙ sym parts.0)
    ∙ ap (λ (es : List Entry). at_kid i (at_kid 1 (repeats c 1 (field_names n))) ++ es)
    (field_repeats-are out m (b ++ ns) (ns ++ c) (suc i) fs ts proper.1 is.1 (λ q. among-turned b c ns q (alike q)) h.1
    ∙ ap (λ (ms : List (List ℕ)). field_repeats (ms ++ c) (suc i) rest) (sym parts.1))
field_repeats-are out l b c i [] (t ∷ ts) proper is alike h = absurd h
field_repeats-are out l b c i (f ∷ fs) [] proper is alike h = absurd h
