-- Headings of later declarations: lemmas.
use Rattle.std.proofs.Common.{◌≡◌, ℕ, ◌+◌, Bool, true, false, if◌then◌else◌, List, [], ◌∷◌, ◌++◌, length, get_or, refl, ap, sym, ◌∙◌, append-nil}
use Rattle.pc_syntax.specs.Classes.{has}
use Rattle.pc_syntax.specs.Plain.{Plain, forest_of, kids_of}
use Rattle.pc_syntax.specs.Sorts.{is_hole}
use Rattle.pc_syntax.specs.WellFormed.{IsProper}
use Rattle.pc_syntax.specs.declared.class.Class.TheVariants as class
use Rattle.pc_syntax.specs.declared.kind.Kind.{Kind}
use Rattle.pc_syntax.specs.declared.kind.Kind.TheVariants as kind
use Rattle.pc_syntax.specs.declared.sort.Sort.{Sort}
use Rattle.pc_types.specs.Shapes.{Owner}
use Rattle.pc_forms.specs.Form.{form_of}
use Rattle.pc_forms.specs.FormClasses.{Every}
use Rattle.pc_forms.specs.declared.form.Form.TheVariants as form
use Rattle.pc_rules.specs.Attributes.{Node, Entry, nodes, missing, at_kid, each_kid, second_below, kids_below}
use Rattle.pc_rules.specs.Denoters.{type_name_entries}
use Rattle.pc_rules.specs.Headings.{entries_of_heading, repeated_entries}
use Rattle.pc_rules.specs.Meanings.{Found, Local, Outside}
use Rattle.pc_rules.specs.Routines.{bare}
use Rattle.pc_environment.specs.Decorating.{below_at, place_behind, place_after, marks_of}
use Rattle.pc_places.specs.Places.{node_at}
use Rattle.pc_headings.specs.AtLaws.{first_place, at-kind, kids-at, kids-form, names-kind}
use Rattle.pc_headings.specs.GroupLaws.{value-parts, reference-parts}
use Rattle.pc_headings.specs.Groups.{IsHeadingPlace, IsParameter}
use Rattle.pc_headings.specs.HeadLaws.{params-at, function-params-at, result-at}
use Rattle.pc_headings.specs.WholeLaws.{behind_name, place-of, place-list}
use Rattle.pc_headings.specs.Headed.{marks_in}
use Rattle.pc_headings.specs.Parts.{HasParameters, HasResultType}
use Rattle.pc_headings.specs.PlaceLaws.{place-params, place-valparam, place-varparam, place-names}
use Rattle.pc_headings.specs.RowLaws.{each-more, goes-on}
use Rattle.pc_headings.specs.AddsLaws.{params-kind}

-- ---- a group

-- where the type's name of a group stands
abbrev pub type_place : Outside → Local → Kind → Plain → Plain → Local
type_place out l k names of = place_behind out (first_place l k (names ∷ of ∷ [])) names

repeated-at : (out : Outside) (l : Local) (t names of : Plain) (k : Kind) → t.kind ≡ k → is_hole k ≡ false → kids_of t ≡ names ∷ of ∷ [] →
    repeated_entries (node_at out l t) ≡ at_kid 2 (type_name_entries (node_at out (type_place out l k names of) of))
repeated-at out l t names of k e not_hole kids =
    ap (λ (b : Bool). if b then [] else at_kid 2 (type_name_entries (second_below (node_at out l t)))) (ap is_hole (at-kind out l t ∙ e) ∙ not_hole)
    ∙ ap (λ (ns : List Node). at_kid 2 (type_name_entries (get_or ns 1 missing))) (kids-at out l t k e ∙ ap (λ (ks : List Plain). nodes (marks_of out (first_place l k ks) ks)) kids)

-- a group of value parameters, given the entries of its type's name wherever that may stand in a heading
pub repeated-value : (means : List ℕ → Found) (o : Owner) (l : Local) (t names of : Plain) (es : List Entry) → IsProper t → t.kind ≡ kind.Valparam → form.Valparam names of ≡ form_of t → IsHeadingPlace o l →
    ((m : Local) → IsHeadingPlace o m → m.using ≡ true → es ≡ type_name_entries (node_at (bare means) m of)) → at_kid 2 es ≡ repeated_entries (node_at (bare means) l t)
repeated-value means o l t names of es proper e f place told =
    let out = bare means in
    let parts = value-parts t names of proper f in
    let li = first_place l kind.Valparam (names ∷ of ∷ []) in
    ap (at_kid 2) (told (place_behind out li names) (place-names out o li names (names-kind names.kind parts.names_are) (place-valparam o l (forest_of (names ∷ of ∷ [])) place)) refl)
    ∙ sym (repeated-at out l t names of kind.Valparam e refl (kids-form t (form.Valparam names of) proper f))

pub repeated-reference : (means : List ℕ → Found) (o : Owner) (l : Local) (t names of : Plain) (es : List Entry) → IsProper t → t.kind ≡ kind.Varparam → form.Varparam names of ≡ form_of t → IsHeadingPlace o l →
    ((m : Local) → IsHeadingPlace o m → m.using ≡ true → es ≡ type_name_entries (node_at (bare means) m of)) → at_kid 2 es ≡ repeated_entries (node_at (bare means) l t)
repeated-reference means o l t names of es proper e f place told =
    let out = bare means in
    let parts = reference-parts t names of proper f in
    let li = first_place l kind.Varparam (names ∷ of ∷ []) in
    ap (at_kid 2) (told (place_behind out li names) (place-names out o li names (names-kind names.kind parts.names_are) (place-varparam o l (forest_of (names ∷ of ∷ [])) place)) refl)
    ∙ sym (repeated-at out l t names of kind.Varparam e refl (kids-form t (form.Varparam names of) proper f))

pub repeated-hole : (out : Outside) (l : Local) (t : Plain) (s : Sort) → t.kind ≡ kind.Hole s → [] ≡ repeated_entries (node_at out l t)
repeated-hole out l t s e = sym (ap (λ (b : Bool). if b then [] else at_kid 2 (type_name_entries (second_below (node_at out l t)))) (ap is_hole (at-kind out l t ∙ e)))

-- ---- groups in a row

pub repeated-more : (means : List ℕ → Found) (o : Owner) (l : Local) (ts : List Plain) (t : Plain) (i : ℕ) (had own has : List Entry) → Every IsParameter ts → IsHeadingPlace o l → i ≡ 1 + length ts →
    had ≡ each_kid repeated_entries 1 (nodes (marks_of (bare means) l ts)) → ((m : Local) → IsHeadingPlace o m → own ≡ repeated_entries (node_at (bare means) m t)) → has ≡ had ++ at_kid i own →
    has ≡ each_kid repeated_entries 1 (nodes (marks_of (bare means) l (ts ++ t ∷ [])))
repeated-more means o l ts t i had own has params place number before one grown =
    let out = bare means in
    grown
    ∙ ap (λ (es : List Entry). es ++ at_kid i own) before
    ∙ ap (λ (es : List Entry). each_kid repeated_entries 1 (nodes (marks_of out l ts)) ++ at_kid i es) (one (place_after out l ts) (goes-on out o l ts params place).place)
    ∙ ap (λ (j : ℕ). each_kid repeated_entries 1 (nodes (marks_of out l ts)) ++ at_kid j (repeated_entries (node_at out (place_after out l ts) t))) number
    ∙ sym (each-more repeated_entries out l ts t)

-- a whole list
pub repeated-list : (means : List ℕ → Found) (o : Owner) (l : Local) (t : Plain) (es : List Entry) → has class.Params t.kind ≡ true → IsHeadingPlace o l →
    ((m : Local) → IsHeadingPlace o m → es ≡ each_kid repeated_entries 1 (nodes (marks_of (bare means) m (kids_of t)))) → es ≡ each_kid repeated_entries 1 (nodes (below_at (bare means) l t))
repeated-list means o l t es is place told =
    told (first_place l kind.Params (kids_of t)) (place-params o l (forest_of (kids_of t)) place) ∙ ap (each_kid repeated_entries 1) (sym (kids-at (bare means) l t kind.Params (params-kind t.kind is)))

-- ---- the heading

pub later-procedure : (means : List ℕ → Found) (o : Owner) (t params : Plain) (own es : List Entry) → t.kind ≡ kind.Procedure → HasParameters t params →
    ((l : Local) → IsHeadingPlace o l → own ≡ each_kid repeated_entries 1 (nodes (below_at (bare means) l params))) → es ≡ at_kid 2 own → es ≡ entries_of_heading t.kind true (marks_in means o t)
later-procedure means o t params own es e parts told grown =
    grown
    ∙ ap (at_kid 2) (told (behind_name means o parts.name) (place-of means o parts.name parts.name_is))
    ∙ ap (λ (n : Node). at_kid 2 (each_kid repeated_entries 1 (kids_below n))) (sym (params-at means o t params parts))
    ∙ ap (λ (k : Kind). entries_of_heading k true (marks_in means o t)) (sym e)

pub later-function : (means : List ℕ → Found) (o : Owner) (t params of : Plain) (own used es : List Entry) → t.kind ≡ kind.Function → HasResultType t params of →
    ((l : Local) → IsHeadingPlace o l → own ≡ each_kid repeated_entries 1 (nodes (below_at (bare means) l params))) →
    ((l : Local) → IsHeadingPlace o l → l.using ≡ true → used ≡ type_name_entries (node_at (bare means) l of)) → es ≡ at_kid 2 own ++ at_kid 3 used →
    es ≡ entries_of_heading t.kind true (marks_in means o t)
later-function means o t params of own used es e parts told type grown =
    let out = bare means in
    let l = behind_name means o parts.name in
    let place = place-of means o parts.name parts.name_is in
    let lt = place_behind out l params in
    let p = function-params-at means o t params of parts in
    let q = result-at means o t params of parts in
    grown
    ∙ ap (λ (xs : List Entry). at_kid 2 xs ++ at_kid 3 used) (told l place)
    ∙ ap (λ (xs : List Entry). at_kid 2 (each_kid repeated_entries 1 (nodes (below_at out l params))) ++ at_kid 3 xs) (type lt (place-list out o l params parts.params_are place) refl ∙ sym (append-nil _))
    ∙ sym (λ i. at_kid 2 (each_kid repeated_entries 1 (kids_below (p i))) ++ at_kid 3 (type_name_entries (q i) ++ []))
    ∙ ap (λ (k : Kind). entries_of_heading k true (marks_in means o t)) (sym e)

-- no other routine has entries in its heading
pub later-funbody : (means : List ℕ → Found) (o : Owner) (t : Plain) → t.kind ≡ kind.Funbody → [] ≡ entries_of_heading t.kind true (marks_in means o t)
later-funbody means o t e = ap (λ (k : Kind). entries_of_heading k true (marks_in means o t)) (sym e)
