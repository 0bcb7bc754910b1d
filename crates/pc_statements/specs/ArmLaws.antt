-- Arms of case statements and their labels: lemmas.
use Rattle.std.specs.Prelude.{◌≡◌, ℕ, true, List, [], ◌∷◌, ◌++◌, map, get_or}
use Rattle.std.proofs.Common.{refl, ap, sym, ◌∙◌, subst, append-nil}
use Rattle.pc_syntax.specs.Classes.{is_arm}
use Rattle.pc_syntax.specs.Plain.{Plain, kids_of}
use Rattle.pc_syntax.specs.WellFormed.{IsProper}
use Rattle.pc_syntax.specs.declared.class.Class.TheVariants as class
use Rattle.pc_syntax.specs.declared.kind.Kind.{Kind}
use Rattle.pc_syntax.specs.declared.kind.Kind.TheVariants as kind
use Rattle.pc_syntax.specs.declared.sort.Sort.{Sort}
use Rattle.pc_types.specs.Shapes.{Owner}
use Rattle.pc_forms.specs.Form.{form_of}
use Rattle.pc_forms.specs.FormKids.{kids_in}
use Rattle.pc_forms.specs.FormLaws.{kids_in-form_of}
use Rattle.pc_forms.specs.declared.form.Form.TheVariants as form
use Rattle.pc_rules.specs.Attributes.{Attributes, Node, nodes, missing, kids_below, first_below}
use Rattle.pc_rules.specs.CaseStatements.{labels_of}
use Rattle.pc_rules.specs.Decorated.{seen, rule, with_kind, hole_rule}
use Rattle.pc_rules.specs.HandedOn.{all_touches, handed_on}
use Rattle.pc_rules.specs.Meanings.{Local, Outside}
use Rattle.pc_environment.specs.Decorating.{attributes_at, below_at, place_behind, marks_of}
use Rattle.pc_environment.specs.DecoratingLaws.{at-node}
use Rattle.pc_environment.specs.RowLaws.{sees-behind}
use Rattle.pc_environment.specs.Sight.{is_body}
use Rattle.pc_facts.specs.Known.{Known}
use Rattle.pc_facts.specs.Shows.{AllShow, ShowsArm, ShowsLabels, ShowsNode}
use Rattle.pc_facts.specs.declared.facts.Arm.{Arm}
use Rattle.pc_facts.specs.declared.facts.Facts.{Facts}
use Rattle.pc_call_rules.specs.Parameters.{Logs}
use Rattle.pc_growth.specs.GrowsLaws.{Begins-same, Begins-then, ShowsNode-grows, ShowsLabels-grows, Logs-none}
use Rattle.pc_bodies.specs.declared.body.Body.{Body}
use Rattle.pc_bodies.specs.declared.body.Going.{Going}
use Rattle.pc_bodies.specs.AtFormLaws.{at-form, kind-form}
use Rattle.pc_bodies.specs.BodyLaws.{class-body}
use Rattle.pc_bodies.specs.NodesAt.{node_at, first_place}
use Rattle.pc_bodies.specs.Resolved.{known, ShowsFacts, ResolvesAs, ResolvesRow}
use Rattle.pc_bodies.specs.RowsLaws.{kids-of-kind, kids-at}
use Rattle.pc_bodies.specs.SeesLaws.{classes-at, known-grows, stands-kept, sees-first, logs-two}
use Rattle.pc_statements.specs.Labelled.{ShowsLabelled}
use Rattle.pc_statements.specs.Walked.{WalksAs, Walks}
use Rattle.pc_statements.specs.WalkLaws.{walks-of}
use Rattle.pc_statements.specs.declared.arms.Labels.{Labels}

-- ---- labels

labels-rule : (out : Outside) (l : Local) (t : Plain) → t.kind ≡ kind.Labels → attributes_at out l t ≡ with_kind kind.Labels t.word (handed_on (nodes (below_at out l t)))
unfolding rule
labels-rule out l t e = at-node out l t ∙ (λ i. rule l (e i) t.word (seen out l (e i) t.word) (below_at out l t))

-- the values of constants that were gone through
values-shown : (k : Known) (fs : List Facts) (ns : List Node) → AllShow (ShowsFacts k) fs ns → ShowsLabels k (map (λ f. f.constant) fs) ns
values-shown k [] [] all = tt
values-shown k (f ∷ fs) (n ∷ ns) all = (all.0.constant, values-shown k fs ns all.1)
values-shown k [] (n ∷ ns) all = absurd all
values-shown k (f ∷ fs) [] all = absurd all

-- labels whose constants were gone through
pub resolves-labels : (b : Body) (g0 g1 : Going) (t : Plain) (fs : List Facts) (x : Labels) → t.kind ≡ kind.Labels → ResolvesRow b g0 g1 (kids_of t) fs → x.values.items ≡ map (λ f. f.constant) fs →
    ((k : Known) (w : List ℕ) (ns : List Node) → AllShow (λ g n. ShowsNode k g n.at) fs ns → ShowsNode k x.at (with_kind kind.Labels w (handed_on ns))) → ResolvesAs ShowsLabelled b g0 g1 t x
resolves-labels b g0 g1 t fs x is row values made = record {
  shows = λ out l s sees stands.
      let ks = kids_of t in
      let l1 = first_place l kind.Labels ks in
      let ns = nodes (below_at out l t) in
      let all : AllShow (ShowsFacts (known b g1)) fs ns =
      subst (λ ms. AllShow (ShowsFacts (known b g1)) fs ms) (sym (kids-of-kind out l t kind.Labels is)) (row.shows out l1 s (sees-first out l s kind.Labels ks refl refl sees) stands) in
      record {
        at = subst (ShowsNode (known b g1) x.at) (sym (labels-rule out l t is)) (made (known b g1) t.word ns all);
        values = subst (λ vs. ShowsLabels (known b g1) vs ns) (sym values) (values-shown (known b g1) fs ns all);
      };
  touched = λ out l s sees stands.
      let ks = kids_of t in
      subst (Logs (known b g1) g0.touched.items g1.touched.items) (sym (ap (λ (a : Attributes). a.touches) (labels-rule out l t is) ∙ ap all_touches (kids-of-kind out l t kind.Labels is)))
      (row.touched out (first_place l kind.Labels ks) s (sees-first out l s kind.Labels ks refl refl sees) stands);
  opened = row.opened;
  texts = row.texts;
}

-- ---- arms

-- an arm is one, or a hole
pub arm-kind : (k : Kind) → is_arm k ≡ true → (k ≡ kind.Arm → ⊥) → ((s : Sort) → k ≡ kind.Hole s → ⊥) → ⊥
arm-kind kind.Arm e arm hole = arm refl
arm-kind (kind.Hole s) e arm hole = hole s refl
arm-kind k e arm hole = cc

-- an arm whose labels and statement were gone through
pub walks-arm : (b : Body) (g0 g1 g2 : Going) (o0 o1 : List (ℕ × ℕ)) (t labels inner : Plain) (x : Labels) (f : Facts) (g : Arm) → IsProper t → form.Arm labels inner ≡ form_of t → ResolvesAs ShowsLabelled b g0 g1 labels x →
    Walks b g1 g2 o0 o1 inner f → g.labels ≡ x.values →
    ((k : Known) (w : List ℕ) (m n : Node) → ShowsNode k x.at m.at → ShowsNode k f n.at → ShowsNode k g.at (with_kind kind.Arm w (handed_on (m ∷ n ∷ [])))) → WalksAs ShowsArm b g0 g2 o0 o1 t g
walks-arm b g0 g1 g2 o0 o1 t labels inner x f g proper e r w same made = record {
  found = λ out l s sees stands index.
      let ks = labels ∷ inner ∷ [] in
      let l1 = first_place l kind.Arm ks in
      let l2 = place_behind out l1 labels in
      let m = node_at out l1 labels in
      let n = node_at out l2 inner in
      let see1 = sees-first out l s kind.Arm ks refl refl sees in
      let body : is_body labels.kind ≡ true = class-body class.Labels labels.kind refl (classes-at t (form.Arm labels inner) proper e).0 in
      let one = (walks-of ShowsLabelled b g0 g1 o0 labels x r).found out l1 s see1 stands index in
      let two = w.found out l2 s (sees-behind out l1 s labels body see1) (stands-kept b g0 g1 s r.opened r.texts stands) one.index in
      let grows = known-grows b g1 g2 w.texts in
      let at = at-form out l t (form.Arm labels inner) proper e in
      let kids : nodes (below_at out l t) ≡ m ∷ n ∷ [] =
      kids-of-kind out l t kind.Arm (kind-form t (form.Arm labels inner) e) ∙ ap (λ (us : List Plain). nodes (marks_of out (first_place l kind.Arm us) us)) (sym (kids_in-form_of t proper) ∙ ap kids_in (sym e)) in
      let first : first_below (node_at out l t) ≡ m = ap (λ (ns : List Node). get_or ns 0 missing) kids in
      record {
        shows = record {
          at = subst (ShowsNode (known b g2) g.at) (sym at) (made (known b g2) t.word m n (ShowsNode-grows (known b g1) (known b g2) x.at m.at grows one.shows.at) two.shows);
          labels = subst (λ vs. ShowsLabels (known b g2) vs (labels_of (node_at out l t))) (sym (ap (λ vs. vs.items) same))
              (subst (λ (u : Node). ShowsLabels (known b g2) x.values.items (kids_below u)) (sym first) (ShowsLabels-grows (known b g1) (known b g2) x.values.items (kids_below m) grows one.shows.values));
        };
        touched = subst (λ (a : Attributes). Logs (known b g2) g0.touched.items g2.touched.items a.touches) (sym at)
            (subst (λ (vs : List (Owner × List ℕ)). Logs (known b g2) g0.touched.items g2.touched.items (m.at.touches ++ vs)) (sym (append-nil n.at.touches))
            (logs-two b g0 g1 g2 m.at.touches n.at.touches w.texts one.touched two.touched));
        index = two.index;
      };
  opened = w.opened ∙ r.opened;
  texts = Begins-then g0.texts.items g1.texts.items g2.texts.items r.texts w.texts;
}

hole-rule : (out : Outside) (l : Local) (t : Plain) (s : Sort) → t.kind ≡ kind.Hole s → attributes_at out l t ≡ with_kind (kind.Hole s) t.word hole_rule
unfolding rule
hole-rule out l t s e = at-node out l t ∙ (λ i. rule l (e i) t.word (seen out l (e i) t.word) (below_at out l t))

-- a hole for an arm
pub walks-arm-hole : (b : Body) (g : Going) (o : List (ℕ × ℕ)) (t : Plain) (s : Sort) (x : Arm) → t.kind ≡ kind.Hole s → kids_of t ≡ [] → x.labels.items ≡ [] →
    ((k : Known) (w : List ℕ) → ShowsNode k x.at (with_kind (kind.Hole s) w hole_rule)) → WalksAs ShowsArm b g g o o t x
walks-arm-hole b g o t s x is none labels made = record {
  found = λ out l z sees stands index.
      let at = hole-rule out l t s is in
      let kids : nodes (below_at out l t) ≡ [] = kids-at out l t ∙ ap (λ (us : List Plain). nodes (marks_of out (first_place l t.kind us) us)) none in
      let first : first_below (node_at out l t) ≡ missing = ap (λ (ns : List Node). get_or ns 0 missing) kids in
      record {
        shows = record {
          at = subst (ShowsNode (known b g) x.at) (sym at) (made (known b g) t.word);
          labels = subst (λ vs. ShowsLabels (known b g) vs (labels_of (node_at out l t))) (sym labels) (subst (λ (u : Node). ShowsLabels (known b g) [] (kids_below u)) (sym first) tt);
        };
        touched = subst (λ (a : Attributes). Logs (known b g) g.touched.items g.touched.items a.touches) (sym at) (Logs-none (known b g) g.touched.items);
        index = index;
      };
  opened = refl;
  texts = Begins-same g.texts.items;
}
