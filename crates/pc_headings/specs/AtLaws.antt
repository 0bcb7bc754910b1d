-- What is found at a node where it stands, and at names that aren't used: lemmas.
use Rattle.std.proofs.Common.{◌≡◌, ℕ, suc, Bool, true, false, ◌||◌, if◌then◌else◌, List, [], ◌∷◌, ◌++◌, codes, refl, ap, sym, subst, ◌∙◌}
use Rattle.pc_syntax.specs.Classes.{has, is_name}
use Rattle.pc_syntax.specs.Plain.{Plain, Forest, forest_of, kids_of}
use Rattle.pc_syntax.specs.PartsLaws.{forest_of-kids_of}
use Rattle.pc_syntax.specs.Sorts.{is_hole}
use Rattle.pc_syntax.specs.Fits.{word_fits}
use Rattle.pc_syntax.specs.WellFormed.{IsProper}
use Rattle.pc_syntax.specs.Words.{lowered, is_among, is_identifier}
use Rattle.pc_syntax.specs.declared.class.Class.TheVariants as class
use Rattle.pc_syntax.specs.declared.kind.Kind.{Kind}
use Rattle.pc_syntax.specs.declared.kind.Kind.TheVariants as kind
use Rattle.pc_forms.specs.Form.{PlainForm, form_from, form_of}
use Rattle.pc_forms.specs.FormClasses.{Every, HasKids}
use Rattle.pc_forms.specs.FormKids.{kids_in}
use Rattle.pc_forms.specs.FormKind.{kind_in}
use Rattle.pc_forms.specs.FormLaws.{kind_in-form_of, kids_in-form_of, classes-form_of, fits-word}
use Rattle.pc_rules.specs.Attributes.{Attributes, Node, Entry, nodes, missing, at_kid}
use Rattle.pc_rules.specs.DeclaringNames.{names_in, repeats}
use Rattle.pc_rules.specs.Decorated.{seen, rule, rule_of, with_kind, decorate}
use Rattle.pc_rules.specs.Entries.{note_if, quoted}
use Rattle.pc_rules.specs.HandedOn.{any_hole}
use Rattle.pc_rules.specs.ListRuleLaws.{rule-kind, rule-word}
use Rattle.pc_rules.specs.Meanings.{Local, Outside}
use Rattle.pc_rules.specs.Places.{inner}
use Rattle.pc_environment.specs.Decorating.{attributes_at, below_at, place_behind, marks_of}
use Rattle.pc_environment.specs.DecoratingLaws.{at-node, at-kids, decorate-forest_of}
use Rattle.pc_places.specs.Places.{node_at}
use Rattle.pc_headings.specs.Groups.{AreNames}
use Rattle.pc_headings.specs.Listing.{named_nodes}
use Rattle.pc_headings.specs.PlaceLaws.{AllNamed}

-- the word and the kind of a node
pub at-word : (out : Outside) (l : Local) (t : Plain) → (attributes_at out l t).word ≡ t.word
at-word out l t = ap (λ (a : Attributes). a.word) (at-node out l t) ∙ rule-word l t.kind t.word (seen out l t.kind t.word) (below_at out l t)

pub at-kind : (out : Outside) (l : Local) (t : Plain) → (attributes_at out l t).kind ≡ t.kind
at-kind out l t = ap (λ (a : Attributes). a.kind) (at-node out l t) ∙ rule-kind l t.kind t.word (seen out l t.kind t.word) (below_at out l t)

-- where the first kid stands
abbrev pub first_place : Local → Kind → List Plain → Local
first_place l k ks = inner l k (forest_of ks)

-- the kids of a node whose kind is known
pub kids-at : (out : Outside) (l : Local) (t : Plain) (k : Kind) → t.kind ≡ k → nodes (below_at out l t) ≡ nodes (marks_of out (first_place l k (kids_of t)) (kids_of t))
kids-at out l t k e =
    ap nodes (ap (λ (ks : Forest). decorate out (inner l t.kind ks) ks) (sym (forest_of-kids_of t)) ∙ decorate-forest_of out (first_place l t.kind (kids_of t)) (kids_of t))
    ∙ ap (λ (j : Kind). nodes (marks_of out (first_place l j (kids_of t)) (kids_of t))) e

-- a node whose form is known
pub at-form : (out : Outside) (l : Local) (t : Plain) (f : PlainForm) → IsProper t → f ≡ form_of t →
    attributes_at out l t ≡ with_kind (kind_in f) t.word (rule_of l (seen out l (kind_in f) t.word) (form_from (kind_in f) t.word (nodes (marks_of out (first_place l (kind_in f) (kids_in f)) (kids_in f))) missing))
unfolding rule
at-form out l t f proper e = at-kids out l t (kind_in f) (kids_in f) (sym (kind_in-form_of t) ∙ ap kind_in (sym e)) (sym (kids_in-form_of t proper) ∙ ap kids_in (sym e))

pub kind-form : (t : Plain) (f : PlainForm) → f ≡ form_of t → t.kind ≡ kind_in f
kind-form t f e = sym (kind_in-form_of t) ∙ ap kind_in (sym e)

pub kids-form : (t : Plain) (f : PlainForm) → IsProper t → f ≡ form_of t → kids_of t ≡ kids_in f
kids-form t f proper e = sym (kids_in-form_of t proper) ∙ ap kids_in (sym e)

pub classes-form : (t : Plain) (f : PlainForm) → IsProper t → f ≡ form_of t → HasKids (kind_in f) (kids_in f)
classes-form t f proper e = subst (λ (g : PlainForm). HasKids (kind_in g) (kids_in g)) (sym e) (classes-form_of t proper)

-- the kids of a list
pub list-kids : (t : Plain) (k : Kind) → IsProper t → t.kind ≡ k → HasKids k (kids_of t)
list-kids t k proper e = subst (λ (ks : List Plain). HasKids k ks) (kids_in-form_of t proper) (subst (λ (j : Kind). HasKids j (kids_in (form_of t))) (kind_in-form_of t ∙ e) (classes-form_of t proper))

-- ---- names that aren't used

name-hole : (out : Outside) (l : Local) (t : Plain) → t.kind ≡ kind.Name → (attributes_at out l t).hole ≡ false
unfolding rule
name-hole out l t e = ap (λ (a : Attributes). a.hole) (at-node out l t) ∙ (λ i. (rule l (e i) t.word (seen out l (e i) t.word) (below_at out l t)).hole)

hole-by : (out : Outside) (l : Local) (t : Plain) (k : Kind) → t.kind ≡ k → is_name k ≡ true → (attributes_at out l t).hole ≡ is_hole k
unfolding rule
hole-by out l t kind.Name e is = name-hole out l t e
hole-by out l t (kind.Hole s) e is = ap (λ (a : Attributes). a.hole) (at-node out l t) ∙ (λ i. (rule l (e i) t.word (seen out l (e i) t.word) (below_at out l t)).hole)
hole-by out l t k e is = cc

pub hole-at : (out : Outside) (l : Local) (t : Plain) → is_name t.kind ≡ true → (attributes_at out l t).hole ≡ is_hole t.kind
hole-at out l t is = hole-by out l t t.kind refl is

names-at : (out : Outside) (l : Local) (ts : List Plain) → names_in (nodes (marks_of out l ts)) ≡ names_in (named_nodes ts)
names-at out l [] = refl
names-at out l (t ∷ ts) =
    (λ i. if is_hole (at-kind out l t i) then names_in (nodes (marks_of out (place_behind out l t) ts)) else lowered (at-word out l t i) ∷ names_in (nodes (marks_of out (place_behind out l t) ts)))
    ∙ ap (λ (ns : List (List ℕ)). if is_hole t.kind then ns else lowered t.word ∷ ns) (names-at out (place_behind out l t) ts)

abbrev repeat_step : Bool → List ℕ → List (List ℕ) → ℕ → List Node → List Entry
repeat_step h w before i rest =
    if h then repeats before (suc i) rest else at_kid i (note_if (is_among before (lowered w)) 3 (quoted (codes "declared twice") w)) ++ repeats (lowered w ∷ before) (suc i) rest

repeat-rest : (h : Bool) (w : List ℕ) (before : List (List ℕ)) (i : ℕ) (ks bs : List Node) → ((c : List (List ℕ)) (j : ℕ) → repeats c j ks ≡ repeats c j bs) → repeat_step h w before i ks ≡ repeat_step h w before i bs
repeat-rest true w before i ks bs rest = rest before (suc i)
repeat-rest false w before i ks bs rest = ap (λ (es : List Entry). at_kid i (note_if (is_among before (lowered w)) 3 (quoted (codes "declared twice") w)) ++ es) (rest (lowered w ∷ before) (suc i))

repeats-at : (out : Outside) (l : Local) (ts : List Plain) (before : List (List ℕ)) (i : ℕ) → repeats before i (nodes (marks_of out l ts)) ≡ repeats before i (named_nodes ts)
repeats-at out l [] before i = refl
repeats-at out l (t ∷ ts) before i =
    (λ j. repeat_step (is_hole (at-kind out l t j)) (at-word out l t j) before i (nodes (marks_of out (place_behind out l t) ts)))
    ∙ repeat-rest (is_hole t.kind) t.word before i (nodes (marks_of out (place_behind out l t) ts)) (named_nodes ts) (λ c j. repeats-at out (place_behind out l t) ts c j)

holes-at : (out : Outside) (l : Local) (ts : List Plain) → Every (λ t. is_name t.kind ≡ true) ts → any_hole (nodes (marks_of out l ts)) ≡ any_hole (named_nodes ts)
holes-at out l [] h = refl
holes-at out l (t ∷ ts) h =
    ap (λ (b : Bool). b || any_hole (nodes (marks_of out (place_behind out l t) ts))) (hole-at out l t h.0)
    ∙ ap (λ (b : Bool). is_hole t.kind || b) (holes-at out (place_behind out l t) ts h.1)

list-hole : (out : Outside) (l : Local) (t : Plain) → t.kind ≡ kind.Names → (attributes_at out l t).hole ≡ any_hole (nodes (below_at out l t))
unfolding rule
list-hole out l t e = ap (λ (a : Attributes). a.hole) (at-node out l t) ∙ (λ i. (rule l (e i) t.word (seen out l (e i) t.word) (below_at out l t)).hole)

pub names-kind : (k : Kind) → has class.Names k ≡ true → k ≡ kind.Names
names-kind kind.Names e = refl
names-kind k e = cc

-- the names of a list
pub are-names : (out : Outside) (l : Local) (t : Plain) → IsProper t → has class.Names t.kind ≡ true → AreNames (kids_of t) (node_at out l t)
are-names out l t proper is =
    let e = names-kind t.kind is in
    let kids = kids-at out l t kind.Names e in
    let l1 = first_place l kind.Names (kids_of t) in
    record {
      names = ap names_in kids ∙ names-at out l1 (kids_of t);
      repeated = λ before. ap (repeats before 1) kids ∙ repeats-at out l1 (kids_of t) before 1;
      hole = list-hole out l t e ∙ ap any_hole kids ∙ holes-at out l1 (kids_of t) (list-kids t kind.Names proper e);
    }

identifier-named : (w : List ℕ) → is_identifier w ≡ true → AllNamed (lowered w ∷ [])
unfolding is_identifier
identifier-named [] e = cc
identifier-named (c ∷ cs) e = tt

more-named : (w : List ℕ) (ns : List (List ℕ)) → AllNamed (w ∷ []) → AllNamed ns → AllNamed (w ∷ ns)
more-named [] ns h g = absurd h
more-named (c ∷ cs) ns h g = g

named-by : (t : Plain) (ns : List (List ℕ)) (k : Kind) → t.kind ≡ k → IsProper t → is_name k ≡ true → AllNamed ns → AllNamed (if is_hole k then ns else lowered t.word ∷ ns)
named-by t ns kind.Name e proper is h =
    more-named (lowered t.word) ns (identifier-named t.word (subst (λ (k : Kind). word_fits k t.word ≡ true) e (fits-word t proper))) h
named-by t ns (kind.Hole s) e proper is h = h
named-by t ns k e proper is h = cc

-- no name is empty
pub all-named : (ts : List Plain) → Every IsProper ts → Every (λ t. is_name t.kind ≡ true) ts → AllNamed (names_in (named_nodes ts))
all-named [] h g = tt
all-named (t ∷ ts) h g = named-by t (names_in (named_nodes ts)) t.kind refl h.0 g.0 (all-named ts h.1 g.1)
