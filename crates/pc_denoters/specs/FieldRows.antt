-- What is found at the lists of fields of a record, together.
use Rattle.std.specs.Prelude.{◌≡◌, ◌+◌, ℕ, Bool, true, false, ◌||◌, List, [], ◌∷◌, ◌++◌, suc, length}
use Rattle.std.proofs.Common.{refl, ap, sym, ◌∙◌, arith, append_assoc, append-nil}
use Rattle.pc_rules.specs.Attributes.{Entry, Node, at_kid, kids_below}
use Rattle.pc_facts.specs.Known.{Known}
use Rattle.pc_facts.specs.Shows.{AllShow}
use Rattle.pc_type_rules.specs.Records.{ShowsFields}
use Rattle.pc_type_rules.specs.declared.records.FieldList.{FieldList}
use Rattle.pc_denoters.specs.declared.fields.FieldFound.{FieldFound}

-- what was found at a list of fields is what the rules find there, but for row 3
pub record ShowsField (k : Known) (f : FieldFound) (n : Node) : Type 0 where
  pub list : ShowsFields k.table f.list n
  pub hole : f.hole ≡ n.at.hole
  pub below : f.below.items ≡ n.at.as_value.entries

-- the same of all lists
abbrev pub ShowsFieldLists : Known → List FieldFound → Node → Type 0
ShowsFieldLists k fs n = AllShow (ShowsField k) fs (kids_below n)

abbrev pub lists_of : List FieldFound → List FieldList
lists_of [] = []
lists_of (f ∷ fs) = f.list ∷ lists_of fs

-- whether a hole stands in one of them
abbrev pub any_open_field : List FieldFound → Bool
any_open_field [] = false
any_open_field (f ∷ fs) = f.hole || any_open_field fs

-- their entries, as seen from the node of all, the first of which is kid i
abbrev pub below_of : ℕ → List FieldFound → List Entry
below_of i [] = []
below_of i (f ∷ fs) = at_kid i f.below.items ++ below_of (suc i) fs

-- those of row 3 at their names, likewise
abbrev pub twice_of : ℕ → List FieldFound → List Entry
twice_of i [] = []
twice_of i (f ∷ fs) = at_kid i (at_kid 1 f.twice.items) ++ twice_of (suc i) fs

-- ---- one more list at the end

pub lists_of-end : (fs : List FieldFound) (f : FieldFound) → lists_of (fs ++ f ∷ []) ≡ lists_of fs ++ f.list ∷ []
lists_of-end [] f = refl
lists_of-end (g ∷ fs) f = ap (λ (v : List FieldList). g.list ∷ v) (lists_of-end fs f)

or-last : (b : Bool) → (b || false) ≡ b
or-last true = refl
or-last false = refl

or-group : (a b c : Bool) → (a || (b || c)) ≡ ((a || b) || c)
or-group true b c = refl
or-group false b c = refl

pub open_field-end : (fs : List FieldFound) (f : FieldFound) → any_open_field (fs ++ f ∷ []) ≡ (any_open_field fs || f.hole)
open_field-end [] f = or-last f.hole
open_field-end (g ∷ fs) f = ap (λ (b : Bool). g.hole || b) (open_field-end fs f) ∙ or-group g.hole (any_open_field fs) f.hole

pub below_of-end : (i : ℕ) (fs : List FieldFound) (f : FieldFound) → below_of i (fs ++ f ∷ []) ≡ below_of i fs ++ at_kid (i + length fs) f.below.items
below_of-end i [] f = append-nil (at_kid i f.below.items) ∙ ap (λ k. at_kid k f.below.items) (let e : i ≡ i + 0 = omega arith in e)
below_of-end i (g ∷ fs) f =
    ap (λ (es : List Entry). at_kid i g.below.items ++ es) (below_of-end (suc i) fs f ∙ ap (λ k. below_of (suc i) fs ++ at_kid k f.below.items) (let e : suc i + length fs ≡ i + suc (length fs) = omega arith in e))
    ∙ sym (append_assoc (at_kid i g.below.items) (below_of (suc i) fs) (at_kid (i + suc (length fs)) f.below.items))

pub twice_of-end : (i : ℕ) (fs : List FieldFound) (f : FieldFound) → twice_of i (fs ++ f ∷ []) ≡ twice_of i fs ++ at_kid (i + length fs) (at_kid 1 f.twice.items)
twice_of-end i [] f = append-nil (at_kid i (at_kid 1 f.twice.items)) ∙ ap (λ k. at_kid k (at_kid 1 f.twice.items)) (let e : i ≡ i + 0 = omega arith in e)
twice_of-end i (g ∷ fs) f =
    ap (λ (es : List Entry). at_kid i (at_kid 1 g.twice.items) ++ es)
    (twice_of-end (suc i) fs f ∙ ap (λ k. twice_of (suc i) fs ++ at_kid k (at_kid 1 f.twice.items)) (let e : suc i + length fs ≡ i + suc (length fs) = omega arith in e))
    ∙ sym (append_assoc (at_kid i (at_kid 1 g.twice.items)) (twice_of (suc i) fs) (at_kid (i + suc (length fs)) (at_kid 1 f.twice.items)))
