-- The list of names of a variable declaration where it stands: whether a hole is among them, and row 3 at them.
use Rattle.std.specs.Prelude.{◌≡◌, ℕ, Bool, true, ◌||◌, List, [], ◌∷◌}
use Rattle.std.proofs.Common.{refl, ap, sym, ◌∙◌, subst}
use Rattle.pc_syntax.specs.Classes.{has}
use Rattle.pc_syntax.specs.Plain.{Plain, forest_of, kids_of}
use Rattle.pc_syntax.specs.Sorts.{is_hole}
use Rattle.pc_syntax.specs.WellFormed.{IsProper}
use Rattle.pc_syntax.specs.declared.class.Class.TheVariants as class
use Rattle.pc_syntax.specs.declared.kind.Kind.{Kind}
use Rattle.pc_syntax.specs.declared.kind.Kind.TheVariants as kind
use Rattle.pc_forms.specs.FormClasses.{Every}
use Rattle.pc_rules.specs.Attributes.{Attributes, Entry, nodes, kids_below}
use Rattle.pc_rules.specs.DeclaringNames.{repeats}
use Rattle.pc_rules.specs.HandedOn.{any_hole}
use Rattle.pc_rules.specs.Meanings.{Local, Outside}
use Rattle.pc_rules.specs.Places.{inner}
use Rattle.pc_environment.specs.Decorating.{attributes_at, place_behind, marks_of}
use Rattle.pc_places.specs.Places.{node_at}
use Rattle.pc_denoters.specs.FormsAt.{first_place, at-kind-of}
use Rattle.pc_definitions.specs.RuleLaws.{hole-at-name}
use Rattle.pc_definitions.specs.Rows.{kids-classes}
use Rattle.pc_definitions.specs.VariableNames.{any_hole_at, repeats_at}
use Rattle.pc_definitions.specs.VariableNamesLaws.{repeats-found}

-- a list of names
names-list : (k : Kind) → has class.Names k ≡ true → k ≡ kind.Names
names-list kind.Names e = refl
names-list k e = cc

holes-found : (out : Outside) (l : Local) (ts : List Plain) → Every (λ t. has class.Name t.kind ≡ true) ts → any_hole (nodes (marks_of out l ts)) ≡ any_hole_at (forest_of ts)
holes-found out l [] h = refl
holes-found out l (t ∷ ts) h =
    ap (λ (b : Bool). b || any_hole (nodes (marks_of out (place_behind out l t) ts))) (hole-at-name out l t h.0)
    ∙ ap (λ (b : Bool). is_hole t.kind || b) (holes-found out (place_behind out l t) ts h.1)

-- whether a hole is among the names
pub hole-at-names : (out : Outside) (l : Local) (t : Plain) → IsProper t → has class.Names t.kind ≡ true → (attributes_at out l t).hole ≡ any_hole_at (forest_of (kids_of t))
hole-at-names out l t proper is =
    let e = names-list t.kind is in
    ap (λ (a : Attributes). a.hole) (at-kind-of out l t kind.Names e) ∙ holes-found out (first_place l kind.Names (kids_of t)) (kids_of t) (kids-classes t kind.Names proper e)

-- row 3 at them
pub entries-at-names : (out : Outside) (l : Local) (t : Plain) (before : List (List ℕ)) → repeats before 1 (kids_below (node_at out l t)) ≡ repeats_at before 1 t.kids
entries-at-names out l t before = repeats-found out (inner l t.kind t.kids) before 1 t.kids
