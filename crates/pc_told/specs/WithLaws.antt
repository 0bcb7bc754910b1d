-- The records that are open at a kid of a node: lemmas.
use Rattle.std.specs.Prelude.{◌≡◌, ◌∷◌, [], ℕ, Bool, true, false, List, take}
use Rattle.std.proofs.Common.{refl, ap, sym, ◌∙◌, subst, append-nil}
use Rattle.pc_syntax.specs.Plain.{Plain, forest_of, kids_of}
use Rattle.pc_syntax.specs.WellFormed.{IsProper}
use Rattle.pc_syntax.specs.declared.kind.Kind.{Kind}
use Rattle.pc_syntax.specs.declared.kind.Kind.TheVariants as kind
use Rattle.pc_types.specs.Shapes.{Typed}
use Rattle.pc_forms.specs.Form.{form_of}
use Rattle.pc_forms.specs.FormKids.{kids_in}
use Rattle.pc_forms.specs.FormLaws.{kids_in-form_of}
use Rattle.pc_forms.specs.declared.form.Form.TheVariants as form
use Rattle.pc_rules.specs.Attributes.{Attributes, nodes}
use Rattle.pc_rules.specs.HandedOn.{all_opens}
use Rattle.pc_rules.specs.Meanings.{Local, Outside}
use Rattle.pc_rules.specs.Places.{inner, opens_records}
use Rattle.pc_environment.specs.Decorating.{attributes_at, below_at, place_after, place_behind, marks_of}
use Rattle.pc_environment.specs.RowLaws.{SeesFrom, sees-after}
use Rattle.pc_environment.specs.Sight.{Sight, is_body, sight_of}
use Rattle.pc_environment.specs.SightLaws.{sight-inner}
use Rattle.pc_sightings.specs.WithLaws.{SeesWith-after, SeesWith-behind, SeesWith-inner}
use Rattle.pc_sightings.specs.Withs.{SeesWith, opened_sight}
use Rattle.pc_bodies.specs.AtFormLaws.{kind-form}
use Rattle.pc_bodies.specs.ListLaws.{take-body}
use Rattle.pc_bodies.specs.NodesAt.{first_place}
use Rattle.pc_bodies.specs.Resolved.{known, Stands}
use Rattle.pc_bodies.specs.RowsLaws.{kids-of-kind}
use Rattle.pc_bodies.specs.SeesLaws.{classes-at}
use Rattle.pc_bodies.specs.WholeLaws.{kids-body}
use Rattle.pc_bodies.specs.declared.body.Body.{Body}
use Rattle.pc_bodies.specs.declared.body.Going.{Going}
use Rattle.pc_statements.specs.ListKinds.{accesses-kind}
use Rattle.pc_statements.specs.Opens.{FindsOpened}
use Rattle.pc_statements.specs.WithStatementLaws.{accesses-rule}
use Rattle.pc_told.specs.Opens.{Opens}
use Rattle.pc_told.specs.Tells.{StandsAt}
use Rattle.pc_told.specs.Told.{kid_place}

-- a statement part stands for what is seen from there
stands-there : (b : Body) (g : Going) (out : Outside) (l : Local) (s : Sight) → sight_of out l ≡ s → Stands b (known b g) g.opened.items s → StandsAt b g out l
stands-there b g out l s e stands = subst (λ (z : Sight). Stands b (known b g) g.opened.items z) (sym e) stands

-- a node that is neither a with nor a list of accesses opens no records
pub opens-none : (k : Kind) → (k ≡ kind.With → ⊥) → (k ≡ kind.Accesses → ⊥) → opens_records k ≡ false
opens-none kind.With with list = absurd (with refl)
opens-none kind.Accesses with list = absurd (list refl)
opens-none k with list = refl

-- at a kid of such a node the same records are open
pub stands-kid : (b : Body) (g : Going) (t : Plain) (i : ℕ) → IsProper t → is_body t.kind ≡ true → opens_records t.kind ≡ false →
    (out : Outside) (l : Local) → StandsAt b g out l → StandsAt b g out (kid_place out l t i)
stands-kid b g t i proper body closed out l stands =
    let first : SeesFrom out (inner l t.kind t.kids) (sight_of out l) = record { sight = sight-inner out l t.kind t.kids body; closed = closed } in
    let there = sees-after out (inner l t.kind t.kids) (sight_of out l) (take i (kids_of t)) (take-body i (kids_of t) (kids-body t proper body)) first in
    stands-there b g out (kid_place out l t i) (sight_of out l) there.sight stands

-- at the first kid of any node they are
pub stands-first : (b : Body) (g : Going) (t : Plain) (i : ℕ) → i ≡ 0 → is_body t.kind ≡ true → (out : Outside) (l : Local) → StandsAt b g out l → StandsAt b g out (kid_place out l t i)
stands-first b g t i e body out l stands =
    subst (λ (n : ℕ). StandsAt b g out (kid_place out l t n)) (sym e) (stands-there b g out (inner l t.kind t.kids) (sight_of out l) (sight-inner out l t.kind t.kids body) stands)

-- where the first kid of a with or of a list of accesses stands
sees-inside : (out : Outside) (l : Local) (s : Sight) (t : Plain) → is_body t.kind ≡ true → opens_records t.kind ≡ true → sight_of out l ≡ s → SeesWith out (inner l t.kind t.kids) [] s
sees-inside out l s t body opens e = record { sight = sight-inner out l t.kind t.kids body ∙ e; opening = opens }

-- at an access of a with the records of those before it are open
pub stands-access : (b : Body) (g0 g1 : Going) (t : Plain) (i : ℕ) → IsProper t → t.kind ≡ kind.Accesses → Opens b g0 g1 (take i (kids_of t)) →
    (out : Outside) (l : Local) → StandsAt b g0 out l → StandsAt b g1 out (kid_place out l t i)
stands-access b g0 g1 t i proper is opens out l stands =
    let s = sight_of out l in
    let ts = take i (kids_of t) in
    let body : is_body t.kind ≡ true = ap is_body is in
    let l1 = inner l t.kind t.kids in
    let sees = sees-inside out l s t body (ap opens_records is) refl in
    let there = (SeesWith-after out l1 [] s ts (take-body i (kids_of t) (kids-body t proper body)) sees).sight
    ∙ ap (λ (fs : List (List ℕ × (Typed × Bool))). opened_sight fs s) (append-nil (all_opens (nodes (marks_of out l1 ts)))) in
    stands-there b g1 out (place_after out l1 ts) (opened_sight (all_opens (nodes (marks_of out l1 ts))) s) there (opens.row.found out l1 s sees stands).stands

-- behind all of them
stands-behind : (b : Body) (g0 g1 : Going) (records : Plain) → records.kind ≡ kind.Accesses → Opens b g0 g1 (kids_of records) → (out : Outside) (l : Local) (s : Sight) → SeesWith out l [] s →
    Stands b (known b g0) g0.opened.items s → StandsAt b g1 out (place_behind out l records)
stands-behind b g0 g1 records is opens out l s sees stands =
    let ks = kids_of records in
    let ns = nodes (below_at out l records) in
    let o = opens.opening in
    let inside : SeesWith out (first_place l kind.Accesses ks) [] s = SeesWith-inner out l [] s (forest_of ks) sees in
    let found : FindsOpened b g0 g1 o s ns = subst (FindsOpened b g0 g1 o s) (sym (kids-of-kind out l records kind.Accesses is)) (opens.row.found out (first_place l kind.Accesses ks) s inside stands) in
    let sight = (SeesWith-behind out l [] s records (ap is_body is) sees).sight
    ∙ ap (λ (fs : List (List ℕ × (Typed × Bool))). opened_sight fs s) (append-nil (attributes_at out l records).opens ∙ ap (λ (a : Attributes). a.opens) (accesses-rule out l records is)) in
    stands-there b g1 out (place_behind out l records) (opened_sight (all_opens ns) s) sight found.stands

-- at the statement of a with all its records are open
pub stands-inside : (b : Body) (g0 g1 : Going) (t records body : Plain) (i : ℕ) → IsProper t → form.With records body ≡ form_of t → i ≡ 1 → Opens b g0 g1 (kids_of records) →
    (out : Outside) (l : Local) → StandsAt b g0 out l → StandsAt b g1 out (kid_place out l t i)
stands-inside b g0 g1 t records body i proper e one opens out l stands =
    let s = sight_of out l in
    let l1 = inner l t.kind t.kids in
    let is = kind-form t (form.With records body) e in
    let kids : kids_of t ≡ records ∷ body ∷ [] = sym (kids_in-form_of t proper) ∙ ap kids_in (sym e) in
    let place : kid_place out l t i ≡ place_behind out l1 records =
    ap (λ (n : ℕ). place_after out l1 (take n (kids_of t))) one ∙ ap (λ (ks : List Plain). place_after out l1 (take 1 ks)) kids in
    let list = accesses-kind records.kind (classes-at t (form.With records body) proper e).0 in
    subst (StandsAt b g1 out) (sym place) (stands-behind b g0 g1 records list opens out l1 s (sees-inside out l s t (ap is_body is) (ap opens_records is) refl) stands)
