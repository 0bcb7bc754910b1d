-- The names of a group of parameters, one after the other: lemmas.
use Rattle.std.proofs.Common.{◌≡◌, ℕ, ◌+◌, Bool, true, false, if◌then◌else◌, List, [], ◌∷◌, ◌++◌, length, codes, refl, ap, sym, subst, ◌∙◌, append-nil, append_assoc}
use Rattle.pc_syntax.specs.Plain.{Plain}
use Rattle.pc_syntax.specs.Sorts.{is_hole}
use Rattle.pc_syntax.specs.Words.{lowered, is_among}
use Rattle.pc_names.specs.Standing.{meant}
use Rattle.pc_rules.specs.Attributes.{Entry, at_kid}
use Rattle.pc_rules.specs.DeclaringNames.{names_in, repeats, all_as}
use Rattle.pc_rules.specs.Entries.{note_if, quoted}
use Rattle.pc_rules.specs.Meanings.{Meaning, is_routine_class}
use Rattle.pc_places.specs.Places.{known, Keeps}
use Rattle.pc_places.specs.MovesLaws.{Keeps-same, Keeps-then}
use Rattle.pc_places.specs.declared.tables.Tables.{Tables}
use Rattle.pc_headings.specs.declared.listed.Group.{Group}
use Rattle.pc_headings.specs.declared.listed.Listed.{Listed}
use Rattle.pc_headings.specs.Listing.{names_of, AreListed, ShowsListed, ShowsGroup, named_node, named_nodes, repeat_at, AddsName, AddsNames}
use Rattle.pc_headings.specs.ListLaws.{names_of-append, names_of-all_as, all_as-append}
use Rattle.pc_headings.specs.NameListLaws.{names_in-append, named_nodes-more, repeats-more}
use Rattle.pc_headings.specs.ListedLaws.{ShowsGroup-grows}

-- what is listed, at another way to write the declarations
at-list : (t : Tables) (l : Listed) (es fs : List (List ℕ × Meaning)) → es ≡ fs → ShowsListed (known t) t.declarations.items l es → ShowsListed (known t) t.declarations.items l fs
at-list t l es fs e s = subst (λ (qs : List (List ℕ × Meaning)). ShowsListed (known t) t.declarations.items l qs) e s

-- ---- one name

pub AddsName-hole : (a : Tables) (g : Group) (x : Listed) (i : ℕ) (t : Plain) (had : List Entry) → is_hole t.kind ≡ true → AddsName a a g x x i t had had
AddsName-hole a g x i t had hole = record {
  keeps = Keeps-same a;
  shows = λ es m s h. (
    sym (append-nil had) ∙ ap (λ (xs : List Entry). had ++ xs) (sym (none es)),
    at-list a x es (es ++ all_as m (names_in (named_node t ∷ []))) (sym (append-nil es) ∙ ap (λ (ns : List (List ℕ)). es ++ all_as m ns) (sym no-name)) s,
  );
  declared = λ class before. before;
}
  where
    none : (es : List (List ℕ × Meaning)) → repeat_at (names_of es) i (named_node t) ≡ []
    none es = ap (λ (b : Bool). if b then [] else at_kid i (note_if (is_among (names_of es) (lowered t.word)) 3 (quoted (codes "declared twice") t.word))) hole

    no-name : names_in (named_node t ∷ []) ≡ []
    no-name = ap (λ (b : Bool). if b then [] else lowered t.word ∷ []) hole

pub AddsName-name : (a b : Tables) (g : Group) (x y : Listed) (i : ℕ) (t : Plain) (had has : List Entry) (twice : Bool) → is_hole t.kind ≡ false → Keeps a b →
    has ≡ had ++ at_kid i (note_if twice 3 (quoted (codes "declared twice") t.word)) →
    ((es : List (List ℕ × Meaning)) (m : Meaning) → ShowsListed (known a) a.declarations.items x es → ShowsGroup (known a) g m →
    (twice ≡ is_among (names_of es) (lowered t.word)) × ShowsListed (known b) b.declarations.items y (es ++ (lowered t.word, m) ∷ [])) →
    (is_routine_class (meant g.class) ≡ false → AreListed a x → AreListed b y) → AddsName a b g x y i t had has
AddsName-name a b g x y i t had has twice named keeps grown told declared = record {
  keeps = keeps;
  shows = λ es m s h.
      let told = told es m s h in (
        grown ∙ ap (λ (c : Bool). had ++ at_kid i (note_if c 3 (quoted (codes "declared twice") t.word))) told.0 ∙ ap (λ (xs : List Entry). had ++ xs) (sym (one es)),
        at-list b y (es ++ (lowered t.word, m) ∷ []) (es ++ all_as m (names_in (named_node t ∷ []))) (ap (λ (ns : List (List ℕ)). es ++ all_as m ns) (sym one-name)) told.1,
      );
  declared = declared;
}
  where
    one : (es : List (List ℕ × Meaning)) → repeat_at (names_of es) i (named_node t) ≡ at_kid i (note_if (is_among (names_of es) (lowered t.word)) 3 (quoted (codes "declared twice") t.word))
    one es = ap (λ (b : Bool). if b then [] else at_kid i (note_if (is_among (names_of es) (lowered t.word)) 3 (quoted (codes "declared twice") t.word))) named

    one-name : names_in (named_node t ∷ []) ≡ lowered t.word ∷ []
    one-name = ap (λ (b : Bool). if b then [] else lowered t.word ∷ []) named

-- ---- names in a row

pub AddsNames-none : (a : Tables) (g : Group) (x : Listed) → AddsNames a a g x x [] []
AddsNames-none a g x = record {
  keeps = Keeps-same a;
  shows = λ es m s h. (refl, at-list a x es (es ++ []) (sym (append-nil es)) s);
  declared = λ class before. before;
}

all-more : (m : Meaning) (es : List (List ℕ × Meaning)) (ts : List Plain) (t : Plain) →
    (es ++ all_as m (names_in (named_nodes ts))) ++ all_as m (names_in (named_node t ∷ [])) ≡ es ++ all_as m (names_in (named_nodes (ts ++ t ∷ [])))
all-more m es ts t =
    append_assoc es (all_as m (names_in (named_nodes ts))) (all_as m (names_in (named_node t ∷ [])))
    ∙ ap (λ (qs : List (List ℕ × Meaning)). es ++ qs)
    (sym (all_as-append m (names_in (named_nodes ts)) (names_in (named_node t ∷ [])))
    ∙ ap (all_as m) (sym (names_in-append (named_nodes ts) (named_node t ∷ [])) ∙ ap names_in (sym (named_nodes-more ts t))))

pub AddsNames-more : (a b c : Tables) (g : Group) (x y z : Listed) (ts : List Plain) (t : Plain) (i : ℕ) (had has : List Entry) → i ≡ 1 + length ts → AddsNames a b g x y ts had → AddsName b c g y z i t had has →
    AddsNames a c g x z (ts ++ t ∷ []) has
AddsNames-more a b c g x y z ts t i had has number row one = record {
  keeps = Keeps-then a b c row.keeps one.keeps;
  shows = λ es m s h.
      let ns = names_in (named_nodes ts) in
      let first = row.shows es m s h in
      let second = one.shows (es ++ all_as m ns) m first.1 (ShowsGroup-grows (known a) (known b) g m row.keeps.grows h) in
      let names : names_of (es ++ all_as m ns) ≡ names_of es ++ ns = names_of-append es (all_as m ns) ∙ ap (λ (ms : List (List ℕ)). names_of es ++ ms) (names_of-all_as m ns) in (
        second.0
            ∙ ap (λ (xs : List Entry). xs ++ repeat_at (names_of (es ++ all_as m ns)) i (named_node t)) first.0
            ∙ ap (λ (ms : List (List ℕ)). repeats (names_of es) 1 (named_nodes ts) ++ repeat_at ms i (named_node t)) names
            ∙ ap (λ (j : ℕ). repeats (names_of es) 1 (named_nodes ts) ++ repeat_at (names_of es ++ ns) j (named_node t)) number
            ∙ sym (repeats-more (names_of es) ts t),
        at-list c z ((es ++ all_as m ns) ++ all_as m (names_in (named_node t ∷ []))) (es ++ all_as m (names_in (named_nodes (ts ++ t ∷ [])))) (all-more m es ts t) second.1,
      );
  declared = λ class before. one.declared class (row.declared class before);
}
