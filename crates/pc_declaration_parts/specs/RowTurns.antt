-- What is made of the variable declarations of a list, one after the other: laws.
use Rattle.std.specs.Prelude.{◌≡◌, ◌+◌, ◌++◌, ℕ, true, List, [], ◌∷◌, take}
use Rattle.std.proofs.Common.{refl, ap, sym, ◌∙◌, subst}
use Rattle.pc_syntax.specs.Plain.{Plain, forest_of, kids_of}
use Rattle.pc_syntax.specs.PartsLaws.{forest_of-kids_of}
use Rattle.pc_syntax.specs.WellFormed.{IsProper}
use Rattle.pc_syntax.specs.declared.class.Class.TheVariants as class
use Rattle.pc_syntax.specs.declared.kind.Kind.TheVariants as kind
use Rattle.pc_syntax.specs.declared.sort.Sort.{Sort}
use Rattle.pc_forms.specs.Form.{form_of}
use Rattle.pc_forms.specs.declared.form.Form.TheVariants as form
use Rattle.pc_scope.specs.Headings.{names_of}
use Rattle.pc_rules.specs.Attributes.{Attributes, Node, nodes}
use Rattle.pc_rules.specs.Decorated.{with_kind, hole_rule}
use Rattle.pc_rules.specs.HandedOn.{all_defines, handed_on}
use Rattle.pc_rules.specs.Meanings.{Meaning, Local, Outside, define_all}
use Rattle.pc_rules.specs.Places.{first_of_names}
use Rattle.pc_environment.specs.Decorating.{attributes_at, place_behind, place_after, marks_of}
use Rattle.pc_facts.specs.Known.{Known}
use Rattle.pc_facts.specs.Shows.{ShowsNode, AllShow}
use Rattle.pc_facts.specs.declared.facts.Facts.{Facts}
use Rattle.pc_growth.specs.GrowsLaws.{AllShow-with, ShowsNode-grows}
use Rattle.pc_pointers.specs.Good.{Targets}
use Rattle.pc_carrying.specs.Parts.{is_variable}
use Rattle.pc_targets.specs.Blocks.{HidingLaw}
use Rattle.pc_places.specs.ChangesLaws.{Changes-same, Changes-then}
use Rattle.pc_places.specs.Places.{known, node_at}
use Rattle.pc_places.specs.declared.tables.Tables.{Tables}
use Rattle.pc_denoters.specs.Cores.{core, IsPlace-core, core-defined}
use Rattle.pc_denoters.specs.FormsAt.{first_place, at-form, kind-form, nodes-one-more, place-one-more, AllShow-one-more}
use Rattle.pc_denoters.specs.Goings.{ShowsFacts}
use Rattle.pc_definitions.specs.DefiningKinds.{is_defining, core-behind, core-after, core-part}
use Rattle.pc_definitions.specs.Numbered.{IsNumbered, AtNumber, AtDefinition, defined_name}
use Rattle.pc_definitions.specs.Rows.{every-defining, kids-classes, part-at, shows-declarations}
use Rattle.pc_domains.specs.Told.{Told}
use Rattle.pc_declaration_parts.specs.CarriedLaws.{carried-core, carried-behind}
use Rattle.pc_declaration_parts.specs.Turning.{StandsTold, Turns, TurnsRow, TurnsForm}

-- a hole in place of a declaration: the same is known behind it, and nothing is found at it
pub turns-hole : HidingLaw → (At : Tables → Local → Type 0) (block owner : ℕ) (d : Told) (t0 : Tables) (s : Sort) (r : Facts) → ((k : Known) (w : List ℕ) → ShowsNode k r (with_kind (kind.Hole s) w hole_rule)) →
    TurnsForm At block owner d d t0 t0 (form.Hole s) r
turns-hole law At block owner d t0 s r rule = λ t proper e.
    let at = λ (out : Outside) (l : Local). at-form out l t (form.Hole s) proper e in
    let is : t.kind ≡ kind.Hole s = kind-form t (form.Hole s) e in
    record {
      changes = Changes-same block t0;
      shows = λ targets out l h at_l. subst (ShowsNode (known t0) r) (sym (at out l)) (rule (known t0) t.word);
      behind = λ targets out l h at_l. record {
        place =
            IsPlace-core t0 block owner out l (place_behind out l t)
            (ap (λ (ds : List (List ℕ × Meaning)). core (define_all l ds)) (sym (ap (λ (a : Attributes). a.defines) (at out l))) ∙ sym (core-behind out l t (ap is_defining is))) h.place;
        carried = carried-behind law targets out l t (ap is_variable is) proper.sound h.carried;
        told = h.told;
        none = h.none;
      };
    }

-- ---- in a row

-- none
pub turns-none : (At : Tables → Local → Type 0) (block owner : ℕ) (d : Told) (t : Tables) (xs : List Facts) → xs ≡ [] → TurnsRow At block owner d d t t [] xs
turns-none At block owner d t xs none =
    subst (λ (fs : List Facts). TurnsRow At block owner d d t t [] fs) (sym none)
    (record { changes = Changes-same block t; shows = λ targets out l h at. tt; behind = λ targets out l h at. h })

one-more : (At Next : Tables → Local → Type 0) (block owner : ℕ) (d e f : Told) (t0 t1 t2 : Tables) (ts : List Plain) (t : Plain) (xs : List Facts) (x : Facts) →
    ((out : Outside) (l : Local) → At t0 l → Next t1 (place_after out l ts)) → TurnsRow At block owner d e t0 t1 ts xs → Turns Next block owner e f t1 t2 t x →
    TurnsRow At block owner d f t0 t2 (ts ++ t ∷ []) (xs ++ x ∷ [])
one-more At Next block owner d e f t0 t1 t2 ts t xs x next row one = record {
  changes = Changes-then block t0 t1 t2 row.changes one.changes;
  shows = λ targets out l h at.
      let m = place_after out l ts in
      let rest = row.behind targets out l h at in
      subst (λ (ns : List Node). AllShow (ShowsFacts (known t2)) (xs ++ x ∷ []) ns) (sym (nodes-one-more out l ts t))
      (AllShow-one-more (ShowsFacts (known t2)) xs (nodes (marks_of out l ts)) x (node_at out m t)
      (AllShow-with (ShowsFacts (known t1)) (ShowsFacts (known t2)) (λ g n s. ShowsNode-grows (known t1) (known t2) g n.at one.changes.grows s) xs (nodes (marks_of out l ts)) (row.shows targets out l h at))
      (one.shows targets out m rest (next out l at)));
  behind = λ targets out l h at.
      subst (λ (p : Local). StandsTold targets f t2 block owner out p) (sym (place-one-more out l ts t)) (one.behind targets out (place_after out l ts) (row.behind targets out l h at) (next out l at));
}

-- one more behind those so far
pub turns-next : (At Next : Tables → Local → Type 0) (block owner : ℕ) (d e f : Told) (t0 t1 t2 : Tables) (kids : List Plain) (i : ℕ) (kid read : Plain) (xs ys : List Facts) (x : Facts) → kid ≡ read →
    take (i + 1) kids ≡ take i kids ++ read ∷ [] → ys ≡ xs ++ x ∷ [] → ((out : Outside) (l : Local) → At t0 l → Next t1 (place_after out l (take i kids))) →
    TurnsRow At block owner d e t0 t1 (take i kids) xs → Turns Next block owner e f t1 t2 kid x → TurnsRow At block owner d f t0 t2 (take (i + 1) kids) ys
turns-next At Next block owner d e f t0 t1 t2 kids i kid read xs ys x same taken grown next row one =
    let whole : take (i + 1) kids ≡ take i kids ++ kid ∷ [] = taken ∙ ap (λ k. take i kids ++ k ∷ []) (sym same) in
    subst (λ (ts : List Plain). TurnsRow At block owner d f t0 t2 ts ys) (sym whole)
    (subst (λ (fs : List Facts). TurnsRow At block owner d f t0 t2 (take i kids ++ kid ∷ []) fs) (sym grown) (one-more At Next block owner d e f t0 t1 t2 (take i kids) kid xs x next row one))

-- ---- their list

pub turns-list : (At Each : Tables → Local → Type 0) (block owner : ℕ) (d e : Told) (t0 t1 : Tables) (t : Plain) (xs : List Facts) (r : Facts) → IsProper t → t.kind ≡ kind.Vars →
    ((l : Local) → At t0 l → Each t0 (first_place l kind.Vars (kids_of t))) → TurnsRow Each block owner d e t0 t1 (kids_of t) xs →
    ((n : Known) (w : List ℕ) (ns : List Node) → AllShow (ShowsFacts n) xs ns → ShowsNode n r (with_kind kind.Vars w (handed_on ns))) → Turns At block owner d e t0 t1 t r
turns-list At Each block owner d e t0 t1 t xs r proper is each row rule =
    let ks = kids_of t in
    let all = every-defining class.Vardef ks refl (kids-classes t kind.Vars proper is) in
    let first = λ (targets : Targets) (out : Outside) (l : Local) (h : StandsTold targets d t0 block owner out l).
    let l1 = first_place l kind.Vars ks in
    let same = sym (core-part l kind.Vars (forest_of ks) refl) in
    let begun : StandsTold targets d t0 block owner out l1 =
    record { place = IsPlace-core t0 block owner out l l1 same h.place; carried = carried-core targets out l l1 same h.carried; told = h.told; none = h.none } in begun in
    record {
      changes = row.changes;
      shows = λ targets out l h at_l.
          let l1 = first_place l kind.Vars ks in
          let ns = nodes (marks_of out l1 ks) in
          subst (ShowsNode (known t1) r) (sym (part-at out l t kind.Vars is refl))
          (shows-declarations (known t1) r kind.Vars t.word ns (rule (known t1) t.word ns (row.shows targets out l1 (first targets out l h) (each l at_l))));
      behind = λ targets out l h at_l.
          let l1 = first_place l kind.Vars ks in
          let ds = all_defines (nodes (marks_of out l1 ks)) in
          let m = place_after out l1 ks in
          let same : core m ≡ core (place_behind out l t) =
          core-after out l1 ks all ∙ core-defined l1 l ds (core-part l kind.Vars (forest_of ks) refl)
          ∙ ap (λ (xs : List (List ℕ × Meaning)). core (define_all l xs)) (sym (ap (λ (a : Attributes). a.defines) (part-at out l t kind.Vars is refl)))
          ∙ sym (core-behind out l t (ap is_defining is)) in
          let last = row.behind targets out l1 (first targets out l h) (each l at_l) in
          record {
            place = IsPlace-core t1 block owner out m (place_behind out l t) same last.place;
            carried = carried-core targets out m (place_behind out l t) same last.carried;
            told = last.told;
            none = last.none;
          };
    }

-- ---- a declaration as the node of a list

-- by the first of its names
pub turns-node : (block owner kid before : ℕ) (d e : Told) (t0 t1 : Tables) (t names den : Plain) (r : Facts) → IsProper t → form.Vardef names den ≡ form_of t → names ∷ den ∷ [] ≡ kids_of t →
    TurnsForm (AtNumber kid before (first_of_names (names_of names.kids))) block owner d e t0 t1 (form.Vardef names den) r → Turns (AtDefinition kind.Vardef kid before t) block owner d e t0 t1 t r
turns-node block owner kid before d e t0 t1 t names den r proper eq kids made =
    let named : first_of_names (names_of names.kids) ≡ defined_name kind.Vardef t.kids = ap (defined_name kind.Vardef) (ap forest_of kids ∙ forest_of-kids_of t) in
    let is : t.kind ≡ kind.Vardef = kind-form t (form.Vardef names den) eq in
    let whole = made t proper eq in
    record {
      changes = whole.changes;
      shows = λ targets out l h at. whole.shows targets out l h (subst (λ (n : List ℕ). IsNumbered kid before n l) (sym named) (at is));
      behind = λ targets out l h at. whole.behind targets out l h (subst (λ (n : List ℕ). IsNumbered kid before n l) (sym named) (at is));
    }
