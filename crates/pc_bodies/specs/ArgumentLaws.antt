-- Arguments of calls: lemmas.
use Rattle.std.specs.Prelude.{◌≡◌, ℕ, ◌+◌, Bool, true, false, List, [], ◌∷◌, Option, Some, slice_get, get_or, sum_by}
use Rattle.std.proofs.Common.{refl, ap, sym, ◌∙◌, subst}
use Rattle.pc_syntax.specs.Classes.{has, is_argument, is_expression}
use Rattle.pc_syntax.specs.Plain.{Plain, kids_of}
use Rattle.pc_syntax.specs.WellFormed.{IsProper, size_of}
use Rattle.pc_syntax.specs.Words.{lowered}
use Rattle.pc_syntax.specs.declared.class.Class.TheVariants as class
use Rattle.pc_syntax.specs.declared.kind.Kind.{Kind}
use Rattle.pc_syntax.specs.declared.kind.Kind.TheVariants as kind
use Rattle.pc_types.specs.declared.operand.Operand.{Operand}
use Rattle.pc_forms.specs.Form.{PlainForm, form_of}
use Rattle.pc_forms.specs.FormClasses.{HasKids}
use Rattle.pc_forms.specs.FormKids.{kids_in}
use Rattle.pc_forms.specs.FormLaws.{kids_in-form_of, kind_in-form_of, classes-form_of, size-form_of}
use Rattle.pc_forms.specs.declared.form.Form.TheVariants as form
use Rattle.pc_rules.specs.Attributes.{Attributes, Node, nodes, missing, first_below, second_below}
use Rattle.pc_rules.specs.Arguments.{is_width}
use Rattle.pc_rules.specs.HandedOn.{handed_on}
use Rattle.pc_rules.specs.Decorated.{with_kind}
use Rattle.pc_rules.specs.Meanings.{Local, Outside}
use Rattle.pc_rules.specs.RequiredFunctions.{is_reference}
use Rattle.pc_environment.specs.Decorating.{attributes_at, below_at, place_behind, marks_of}
use Rattle.pc_environment.specs.RowLaws.{SeesFrom, sees-behind}
use Rattle.pc_environment.specs.Sight.{Sight, is_body}
use Rattle.pc_facts.specs.Shows.{ShowsArgument, ShowsFound, ShowsName, ShowsNode, ShowsType, value_of}
use Rattle.pc_facts.specs.declared.facts.Argument.{Argument}
use Rattle.pc_facts.specs.declared.facts.Facts.{Facts}
use Rattle.pc_facts.specs.declared.sighting.Named.{Named}
use Rattle.pc_facts.specs.declared.sighting.Sighting.{Sighting}
use Rattle.pc_facts.specs.declared.sighting.Variable.{Variable}
use Rattle.pc_call_rules.specs.Parameters.{Logs}
use Rattle.pc_growth.specs.Grows.{Begins}
use Rattle.pc_growth.specs.GrowsLaws.{Begins-then, ShowsNode-grows, Logs-grows}
use Rattle.pc_bodies.specs.declared.body.Body.{Body}
use Rattle.pc_bodies.specs.declared.body.Going.{Going}
use Rattle.pc_bodies.specs.AtFormLaws.{at-form, kind-form}
use Rattle.pc_bodies.specs.BodyLaws.{class-body}
use Rattle.pc_bodies.specs.ListLaws.{every-at}
use Rattle.pc_bodies.specs.NodesAt.{node_at, first_place}
use Rattle.pc_bodies.specs.Resolved.{known, ResolvesAs, Resolves, Stands}
use Rattle.pc_bodies.specs.RowsLaws.{kids-of-kind, at-kind}
use Rattle.pc_bodies.specs.SeesLaws.{sees-first, known-grows, stands-kept, begins-kept, logs-kids, classes-at}

-- the list of arguments has its kind
pub args-kind : (k : Kind) → has class.Args k ≡ true → k ≡ kind.Args
args-kind kind.Args e = refl
args-kind k e = cc

-- an element of a list of arguments is an argument
pub args-kid : (t k : Plain) (i : ℕ) → IsProper t → t.kind ≡ kind.Args → slice_get (kids_of t) i ≡ Some k → is_argument k.kind ≡ true
args-kid t k i proper e at =
    let h : HasKids kind.Args (kids_of t) =
    subst (λ (ks : List Plain). HasKids kind.Args ks) (kids_in-form_of t proper) (subst (λ (j : Kind). HasKids j (kids_in (form_of t))) (kind_in-form_of t ∙ e) (classes-form_of t proper)) in
    every-at (λ u. is_argument u.kind ≡ true) (kids_of t) i k h at

-- an expression may be an argument
pub expression-argument : (k : Kind) → is_expression k ≡ true → is_argument k ≡ true
expression-argument kind.Width e = refl
expression-argument k e = e

-- a value with a width has one node more than both
pub width-size : (t x y : Plain) → IsProper t → form.Width x y ≡ form_of t → size_of t ≡ 1 + sum_by size_of (x ∷ y ∷ [])
width-size t x y proper e = size-form_of t proper ∙ ap (λ (f : PlainForm). 1 + sum_by size_of (kids_in f)) (sym e)

width-kids : (out : Outside) (l : Local) (t x y : Plain) → IsProper t → form.Width x y ≡ form_of t →
    nodes (below_at out l t) ≡ node_at out (first_place l kind.Width (x ∷ y ∷ [])) x ∷ node_at out (place_behind out (first_place l kind.Width (x ∷ y ∷ [])) x) y ∷ []
width-kids out l t x y proper e =
    kids-of-kind out l t kind.Width (kind-form t (form.Width x y) e)
    ∙ ap (λ (ks : List Plain). nodes (marks_of out (first_place l kind.Width ks) ks)) (sym (kids_in-form_of t proper) ∙ ap kids_in (sym e))

no-reference : (k : Kind) → k ≡ kind.Width → is_reference k ≡ false
no-reference k e = ap is_reference e

false-true : (b : Bool) → b ≡ false → b ≡ true → ⊥
false-true true e f = cc
false-true false e f = cc

-- a value with a width, both of which were gone through, given what the rule makes of them
pub shows-width : (b : Body) (g0 g1 g2 : Going) (t x y : Plain) (f1 f2 : Facts) (g : Argument) → IsProper t → form.Width x y ≡ form_of t → Resolves b g0 g1 x f1 → Resolves b g1 g2 y f2 →
    g.first ≡ (value_of f1.judgement).of → g.second ≡ (value_of f2.judgement).of →
    ((m n : Node) → ShowsNode (known b g2) f1 m.at → ShowsNode (known b g2) f2 n.at → ShowsNode (known b g2) g.at (with_kind kind.Width t.word (handed_on (m ∷ n ∷ [])))) →
    ResolvesAs ShowsArgument b g0 g2 t g
shows-width b g0 g1 g2 t x y f1 f2 g proper e r1 r2 o p rule = record {
  shows = λ out l s sees stands.
      let l1 = first_place l kind.Width (x ∷ y ∷ []) in
      let l2 = place_behind out l1 x in
      let n = node_at out l t in
      let first = sees-first out l s kind.Width (x ∷ y ∷ []) refl refl sees in
      let body : is_body x.kind ≡ true = class-body class.Expression x.kind refl (classes-at t (form.Width x y) proper e).0 in
      let kids = width-kids out l t x y proper e in
      let one : first_below n ≡ node_at out l1 x = ap (λ (ns : List Node). get_or ns 0 missing) kids in
      let two : second_below n ≡ node_at out l2 y = ap (λ (ns : List Node). get_or ns 1 missing) kids in
      let s1 : ShowsNode (known b g2) f1 (attributes_at out l1 x) = ShowsNode-grows (known b g1) (known b g2) f1 (attributes_at out l1 x) (known-grows b g1 g2 r2.texts) (r1.shows out l1 s first stands) in
      let s2 : ShowsNode (known b g2) f2 (attributes_at out l2 y) = r2.shows out l2 s (sees-behind out l1 s x body first) (stands-kept b g0 g1 s r1.opened r1.texts stands) in
      record {
        at = subst (λ (a : Attributes). ShowsNode (known b g2) g.at a) (sym (at-form out l t (form.Width x y) proper e)) (rule (node_at out l1 x) (node_at out l2 y) s1 s2);
        name = λ is. absurd (false-true _ (ap is_reference (at-kind out l t) ∙ no-reference t.kind (kind-form t (form.Width x y) e)) is);
        first = λ is. subst (λ (m : Node). ShowsType (known b g2).table g.first m.at.as_value.type) (sym one) (subst (λ (q : Option Operand). ShowsType (known b g2).table q (attributes_at out l1 x).as_value.type) (sym o) s1.value.type);
        second = λ is. subst (λ (m : Node). ShowsType (known b g2).table g.second m.at.as_value.type) (sym two) (subst (λ (q : Option Operand). ShowsType (known b g2).table q (attributes_at out l2 y).as_value.type) (sym p) s2.value.type);
      };
  touched = λ out l s sees stands.
      let body : is_body x.kind ≡ true = class-body class.Expression x.kind refl (classes-at t (form.Width x y) proper e).0 in
      subst (Logs (known b g2) g0.touched.items g2.touched.items) (sym (ap (λ (a : Attributes). a.touches) (at-form out l t (form.Width x y) proper e)))
      (logs-kids b g0 g1 g2 x y kind.Width refl refl body r1.opened r1.texts r2.texts r1.touched r2.touched out l s sees stands);
  opened = r2.opened ∙ r1.opened;
  texts = Begins-then g0.texts.items g1.texts.items g2.texts.items r1.texts r2.texts;
}

no-width : (k : Kind) → (k ≡ kind.Width → ⊥) → is_width k ≡ false
no-width kind.Width isnt = absurd (isnt refl)
no-width k isnt = refl

no-ref : (k : Kind) → (k ≡ kind.Ref → ⊥) → is_reference k ≡ false
no-ref kind.Ref isnt = absurd (isnt refl)
no-ref k isnt = refl

-- an argument that is neither a name alone nor has a width
pub shows-plain : (b : Body) (g0 g1 : Going) (t : Plain) (g : Argument) → (t.kind ≡ kind.Width → ⊥) → (t.kind ≡ kind.Ref → ⊥) → Resolves b g0 g1 t g.at → ResolvesAs ShowsArgument b g0 g1 t g
shows-plain b g0 g1 t g width ref r = record {
  shows = λ out l s sees stands.
      record {
        at = r.shows out l s sees stands;
        name = λ is. absurd (false-true _ (ap is_reference (at-kind out l t) ∙ no-ref t.kind ref) is);
        first = λ is. absurd (false-true _ (ap is_width (at-kind out l t) ∙ no-width t.kind width) is);
        second = λ is. absurd (false-true _ (ap is_width (at-kind out l t) ∙ no-width t.kind width) is);
      };
  touched = r.touched;
  opened = r.opened;
  texts = r.texts;
}

-- an argument that is a name alone
pub shows-reference : (b : Body) (g0 g1 g2 : Going) (t x : Plain) (m : Named) (g : Argument) → IsProper t → form.Ref x ≡ form_of t → Resolves b g0 g1 t g.at →
    ((out : Outside) (l : Local) (s : Sight) → SeesFrom out l s → l.using ≡ true → Stands b (known b g1) g1.opened.items s → ShowsName (known b g2) m (attributes_at out l x)) →
    g2.opened.items ≡ g1.opened.items → g2.texts.items ≡ g1.texts.items → g2.touched.items ≡ g1.touched.items → g.name ≡ m.sighting → ResolvesAs ShowsArgument b g0 g2 t g
shows-reference b g0 g1 g2 t x m g proper e r named opened texts touched same = record {
  shows = λ out l s sees stands.
      let l1 = first_place l kind.Ref (x ∷ []) in
      let n = node_at out l t in
      let kids : nodes (below_at out l t) ≡ node_at out l1 x ∷ [] =
      kids-of-kind out l t kind.Ref (kind-form t (form.Ref x) e) ∙ ap (λ (ks : List Plain). nodes (marks_of out (first_place l kind.Ref ks) ks)) (sym (kids_in-form_of t proper) ∙ ap kids_in (sym e)) in
      let one : first_below n ≡ node_at out l1 x = ap (λ (ns : List Node). get_or ns 0 missing) kids in
      let first = sees-first out l s kind.Ref (x ∷ []) refl refl sees in
      let shown = named out l1 s first refl (stands-kept b g0 g1 s r.opened r.texts stands) in
      let none : is_width (attributes_at out l t).kind ≡ false = ap is_width (at-kind out l t ∙ kind-form t (form.Ref x) e) in
      record {
        at = ShowsNode-grows (known b g1) (known b g2) g.at (attributes_at out l t) (known-grows b g1 g2 (begins-kept g1.texts.items g2.texts.items texts)) (r.shows out l s sees stands);
        name = λ is. subst (λ (q : Node). ShowsFound (known b g2) (lowered q.at.word) g.name q.at.found) (sym one)
            (subst (λ (y : Sighting). ShowsFound (known b g2) (lowered (attributes_at out l1 x).word) y (attributes_at out l1 x).found) (sym same) shown.found);
        first = λ is. absurd (false-true _ none is);
        second = λ is. absurd (false-true _ none is);
      };
  touched = λ out l s sees stands.
      let ws = (attributes_at out l t).touches in
      subst (λ (vs : List Variable). Logs (known b g2) g0.touched.items vs ws) (sym touched)
      (Logs-grows (known b g1) (known b g2) g0.touched.items g1.touched.items ws (known-grows b g1 g2 (begins-kept g1.texts.items g2.texts.items texts)) (r.touched out l s sees stands));
  opened = opened ∙ r.opened;
  texts = subst (Begins g0.texts.items) (sym texts) r.texts;
}
