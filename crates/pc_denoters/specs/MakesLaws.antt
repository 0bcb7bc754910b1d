-- What is made of a node from what is made of its kids: laws.
use Rattle.std.specs.Prelude.{◌≡◌, ℕ, true, List, [], ◌∷◌, ◌++◌}
use Rattle.std.proofs.Common.{refl, ap, sym, ◌∙◌, subst}
use Rattle.pc_syntax.specs.Plain.{Plain, kids_of}
use Rattle.pc_syntax.specs.WellFormed.{IsProper}
use Rattle.pc_syntax.specs.declared.kind.Kind.{Kind}
use Rattle.pc_forms.specs.Form.{PlainForm, form_of}
use Rattle.pc_forms.specs.FormClasses.{Every}
use Rattle.pc_forms.specs.FormKids.{kids_in}
use Rattle.pc_forms.specs.FormKind.{kind_in}
use Rattle.pc_forms.specs.FormLaws.{kind_in-form_of, kids_in-form_of}
use Rattle.pc_rules.specs.Attributes.{Node, nodes, kids_below}
use Rattle.pc_rules.specs.HandedOn.{all_defines}
use Rattle.pc_rules.specs.Meanings.{Local, Outside}
use Rattle.pc_environment.specs.Decorating.{place_behind, place_after, marks_of}
use Rattle.pc_facts.specs.Known.{Known}
use Rattle.pc_facts.specs.Shows.{ShowsNode, AllShow}
use Rattle.pc_facts.specs.declared.facts.Facts.{Facts}
use Rattle.pc_growth.specs.Grows.{Grows}
use Rattle.pc_places.specs.MovesLaws.{Moves-then}
use Rattle.pc_places.specs.Places.{known, IsPlace, Moves, Makes, node_at}
use Rattle.pc_places.specs.declared.tables.Tables.{Tables}
use Rattle.pc_denoters.specs.FormsAt.{first_place, found_at, at-form, kids-of-kind, nodes-one-more, place-one-more, AllShow-one-more}
use Rattle.pc_denoters.specs.Cores.{IsPlace-core}
use Rattle.pc_denoters.specs.Kinds.{is_denoting, core-inner}
use Rattle.pc_denoters.specs.Goings.{ShowsFacts, MakesRow}
use Rattle.pc_denoters.specs.GoingsLaws.{core-node}

-- the block stands for the place of the first kid too
pub first-place : (t : Tables) (block owner : ℕ) (out : Outside) (l : Local) (k : Kind) (ks : List Plain) → is_denoting k ≡ true → IsPlace t block owner out l → IsPlace t block owner out (first_place l k ks)
first-place t block owner out l k ks one h = IsPlace-core t block owner out l (first_place l k ks) (sym (core-inner l k _ one)) h

-- a node that declares what its kids do, given what its rule makes of them
pub makes-form : (At : Tables → Local → Type 0) (block owner : ℕ) (t0 t1 : Tables) (t : Plain) (f : PlainForm) (k : Kind) (ks : List Plain) (r : Facts) → IsProper t → f ≡ form_of t → kind_in f ≡ k → kids_in f ≡ ks →
    is_denoting k ≡ true → Every (λ u. is_denoting u.kind ≡ true) ks →
    ((out : Outside) (l : Local) → (found_at out l k t.word ks).defines ≡ all_defines (nodes (marks_of out (first_place l k ks) ks))) → Moves block t0 t1 →
    ((out : Outside) (l : Local) → IsPlace t0 block owner out l → At t0 l → IsPlace t1 block owner out (place_after out (first_place l k ks) ks)) →
    ((out : Outside) (l : Local) → IsPlace t0 block owner out l → At t0 l → ShowsNode (known t1) r (found_at out l k t.word ks)) → Makes ShowsFacts At block owner t0 t1 t r
makes-form At block owner t0 t1 t f k ks r proper e is kids one all ds moves behind shows = record {
  moves = moves;
  shows = λ out l place at.
      subst (ShowsNode (known t1) r) (sym (at-form out l t f proper e ∙ ap (λ (j : Kind). found_at out l j t.word (kids_in f)) is ∙ ap (λ (xs : List Plain). found_at out l k t.word xs) kids))
      (shows out l place at);
  behind = λ out l place at.
      IsPlace-core t1 block owner out (place_after out (first_place l k ks) ks) (place_behind out l t) (core-node out l t f k ks proper e is kids one all (ds out l)) (behind out l place at);
}

-- a list, given what was made of its elements
pub makes-list : {X : Type 0} (S : Known → X → Node → Type 0) (At Each : Tables → Local → Type 0) (block owner : ℕ) (t0 t1 : Tables) (t : Plain) (k : Kind) (xs : List X) → IsProper t → t.kind ≡ k →
    is_denoting k ≡ true → Every (λ u. is_denoting u.kind ≡ true) (kids_of t) →
    ((out : Outside) (l : Local) → (found_at out l k t.word (kids_of t)).defines ≡ all_defines (nodes (marks_of out (first_place l k (kids_of t)) (kids_of t)))) →
    ((l : Local) → At t0 l → Each t0 (first_place l k (kids_of t))) → MakesRow S Each block owner t0 t1 (kids_of t) xs →
    Makes (λ (n : Known) (ys : List X) (m : Node). AllShow (S n) ys (kids_below m)) At block owner t0 t1 t xs
makes-list S At Each block owner t0 t1 t k xs proper e one all ds at row = record {
  moves = row.moves;
  shows = λ out l place here.
      subst (λ (ns : List Node). AllShow (S (known t1)) xs ns) (sym (kids-of-kind out l t k e))
      (row.shows out (first_place l k (kids_of t)) (first-place t0 block owner out l k (kids_of t) one place) (at l here));
  behind = λ out l place here.
      IsPlace-core t1 block owner out (place_after out (first_place l k (kids_of t)) (kids_of t)) (place_behind out l t)
      (core-node out l t (form_of t) k (kids_of t) proper refl (kind_in-form_of t ∙ e) (kids_in-form_of t proper) one all (ds out l))
      (row.behind out (first_place l k (kids_of t)) (first-place t0 block owner out l k (kids_of t) one place) (at l here));
}

-- ---- nodes in a row

all-with : {X : Type 0} (S T : X → Node → Type 0) → ((x : X) (n : Node) → S x n → T x n) → (xs : List X) (ns : List Node) → AllShow S xs ns → AllShow T xs ns
all-with S T more [] [] all = tt
all-with S T more (x ∷ xs) (n ∷ ns) all = (more x n all.0, all-with S T more xs ns all.1)
all-with S T more [] (n ∷ ns) all = absurd all
all-with S T more (x ∷ xs) [] all = absurd all

-- one more node behind those so far, by a relation that stays as more is numbered
pub row-one-more : {X : Type 0} (S : Known → X → Node → Type 0) (At Next : Tables → Local → Type 0) (block owner : ℕ) (t0 t1 t2 : Tables) (ts : List Plain) (t : Plain) (xs : List X) (x : X) →
    ((a b : Known) (y : X) (n : Node) → Grows a b → S a y n → S b y n) →
    ((out : Outside) (l : Local) → At t0 l → Next t1 (place_after out l ts)) → MakesRow S At block owner t0 t1 ts xs → Makes S Next block owner t1 t2 t x →
    MakesRow S At block owner t0 t2 (ts ++ t ∷ []) (xs ++ x ∷ [])
row-one-more S At Next block owner t0 t1 t2 ts t xs x grow next row one = record {
  moves = Moves-then block t0 t1 t2 row.moves one.moves;
  shows = λ out l place at.
      subst (λ (ns : List Node). AllShow (S (known t2)) (xs ++ x ∷ []) ns) (sym (nodes-one-more out l ts t))
      (AllShow-one-more (S (known t2)) xs (nodes (marks_of out l ts)) x (node_at out (place_after out l ts) t)
      (all-with (S (known t1)) (S (known t2)) (λ y n. grow (known t1) (known t2) y n one.moves.grows) xs (nodes (marks_of out l ts)) (row.shows out l place at))
      (one.shows out (place_after out l ts) (row.behind out l place at) (next out l at)));
  behind = λ out l place at.
      subst (λ (m : Local). IsPlace t2 block owner out m) (sym (place-one-more out l ts t)) (one.behind out (place_after out l ts) (row.behind out l place at) (next out l at));
}
