-- Members of a set constructor: lemmas.
use Rattle.std.specs.Prelude.{◌≡◌, ℕ, ◌+◌, Bool, true, false, List, [], ◌∷◌, Some, slice_get, get_or, sum_by}
use Rattle.std.proofs.Common.{refl, ap, sym, ◌∙◌, subst}
use Rattle.pc_syntax.specs.Classes.{has, is_member}
use Rattle.pc_syntax.specs.Plain.{Plain, kids_of}
use Rattle.pc_syntax.specs.WellFormed.{IsProper, size_of}
use Rattle.pc_syntax.specs.declared.class.Class.TheVariants as class
use Rattle.pc_syntax.specs.declared.kind.Kind.{Kind}
use Rattle.pc_syntax.specs.declared.kind.Kind.TheVariants as kind
use Rattle.pc_forms.specs.Form.{PlainForm, form_of}
use Rattle.pc_forms.specs.FormClasses.{HasKids}
use Rattle.pc_forms.specs.FormKids.{kids_in}
use Rattle.pc_forms.specs.FormLaws.{kids_in-form_of, kind_in-form_of, classes-form_of, size-form_of}
use Rattle.pc_forms.specs.declared.form.Form.TheVariants as form
use Rattle.pc_rules.specs.Attributes.{Attributes, Node, nodes, missing, first_below, second_below}
use Rattle.pc_rules.specs.HandedOn.{any_hole}
use Rattle.pc_rules.specs.Meanings.{Local, Outside}
use Rattle.pc_rules.specs.SetConstructors.{is_span}
use Rattle.pc_environment.specs.Decorating.{attributes_at, below_at, place_behind, marks_of}
use Rattle.pc_environment.specs.RowLaws.{sees-behind}
use Rattle.pc_environment.specs.Sight.{is_body}
use Rattle.pc_expression_rules.specs.Members.{AllHandOn}
use Rattle.pc_facts.specs.Known.{Known}
use Rattle.pc_facts.specs.Shows.{AllShow, ShowsMember, ShowsNode}
use Rattle.pc_facts.specs.declared.facts.Facts.{Facts}
use Rattle.pc_facts.specs.declared.facts.Member.{Member}
use Rattle.pc_facts.specs.declared.facts.Member.TheVariants as member
use Rattle.pc_call_rules.specs.Parameters.{Logs}
use Rattle.pc_growth.specs.Grows.{Grows}
use Rattle.pc_growth.specs.GrowsLaws.{Begins-then, ShowsNode-grows, ShowsMember-grows}
use Rattle.pc_bodies.specs.declared.body.Body.{Body}
use Rattle.pc_bodies.specs.declared.body.Going.{Going}
use Rattle.pc_bodies.specs.AtFormLaws.{at-form, kind-form}
use Rattle.pc_bodies.specs.BodyLaws.{class-body}
use Rattle.pc_bodies.specs.Held.{ShowsHeld}
use Rattle.pc_bodies.specs.ListLaws.{every-at}
use Rattle.pc_bodies.specs.NodesAt.{node_at, first_place}
use Rattle.pc_bodies.specs.Resolved.{known, ResolvesAs, Resolves}
use Rattle.pc_bodies.specs.RowsLaws.{kids-of-kind, at-kind}
use Rattle.pc_bodies.specs.SeesLaws.{sees-first, known-grows, stands-kept, logs-kids, classes-at}

-- the list of members has its kind
pub members-kind : (k : Kind) → has class.Members k ≡ true → k ≡ kind.Members
members-kind kind.Members e = refl
members-kind k e = cc

-- an element of a list of members is a member
pub members-kid : (t k : Plain) (i : ℕ) → IsProper t → t.kind ≡ kind.Members → slice_get (kids_of t) i ≡ Some k → is_member k.kind ≡ true
members-kid t k i proper e at =
    let h : HasKids kind.Members (kids_of t) =
    subst (λ (ks : List Plain). HasKids kind.Members ks) (kids_in-form_of t proper) (subst (λ (j : Kind). HasKids j (kids_in (form_of t))) (kind_in-form_of t ∙ e) (classes-form_of t proper)) in
    every-at (λ u. is_member u.kind ≡ true) (kids_of t) i k h at

-- a span has one node more than its ends
pub span-size : (t x y : Plain) → IsProper t → form.Span x y ≡ form_of t → size_of t ≡ 1 + sum_by size_of (x ∷ y ∷ [])
span-size t x y proper e = size-form_of t proper ∙ ap (λ (f : PlainForm). 1 + sum_by size_of (kids_in f)) (sym e)

-- the kids of a span
span-kids : (out : Outside) (l : Local) (t x y : Plain) → IsProper t → form.Span x y ≡ form_of t →
    nodes (below_at out l t) ≡ node_at out (first_place l kind.Span (x ∷ y ∷ [])) x ∷ node_at out (place_behind out (first_place l kind.Span (x ∷ y ∷ [])) x) y ∷ []
span-kids out l t x y proper e =
    kids-of-kind out l t kind.Span (kind-form t (form.Span x y) e)
    ∙ ap (λ (ks : List Plain). nodes (marks_of out (first_place l kind.Span ks) ks)) (sym (kids_in-form_of t proper) ∙ ap kids_in (sym e))

-- a span whose ends were gone through
pub shows-span : (b : Body) (g0 g1 g2 : Going) (t x y : Plain) (f1 f2 : Facts) → IsProper t → form.Span x y ≡ form_of t → Resolves b g0 g1 x f1 → Resolves b g1 g2 y f2 →
    ResolvesAs ShowsHeld b g0 g2 t (member.Span f1 f2)
shows-span b g0 g1 g2 t x y f1 f2 proper e r1 r2 = record {
  shows = λ out l s sees stands.
      let l1 = first_place l kind.Span (x ∷ y ∷ []) in
      let l2 = place_behind out l1 x in
      let n = node_at out l t in
      let first = sees-first out l s kind.Span (x ∷ y ∷ []) refl refl sees in
      let body : is_body x.kind ≡ true = class-body class.Expression x.kind refl (classes-at t (form.Span x y) proper e).0 in
      let kids = span-kids out l t x y proper e in
      let one : first_below n ≡ node_at out l1 x = ap (λ (ns : List Node). get_or ns 0 missing) kids in
      let two : second_below n ≡ node_at out l2 y = ap (λ (ns : List Node). get_or ns 1 missing) kids in
      let shows_one : ShowsNode (known b g2) f1 (attributes_at out l1 x) = ShowsNode-grows (known b g1) (known b g2) f1 (attributes_at out l1 x) (known-grows b g1 g2 r2.texts) (r1.shows out l1 s first stands) in
      let shows_two : ShowsNode (known b g2) f2 (attributes_at out l2 y) = r2.shows out l2 s (sees-behind out l1 s x body first) (stands-kept b g0 g1 s r1.opened r1.texts stands) in (
        (
          ap is_span (at-kind out l t ∙ kind-form t (form.Span x y) e),
          subst (λ (m : Node). ShowsNode (known b g2) f1 m.at) (sym one) shows_one,
          subst (λ (m : Node). ShowsNode (known b g2) f2 m.at) (sym two) shows_two,
        ),
        λ is. ap (λ (a : Attributes). a.hole) (at-form out l t (form.Span x y) proper e) ∙ sym (ap (λ (m : Node). any_hole (m ∷ second_below n ∷ [])) one ∙ ap (λ (m : Node). any_hole (node_at out l1 x ∷ m ∷ [])) two),
      );
  touched = λ out l s sees stands.
      let body : is_body x.kind ≡ true = class-body class.Expression x.kind refl (classes-at t (form.Span x y) proper e).0 in
      subst (Logs (known b g2) g0.touched.items g2.touched.items) (sym (ap (λ (a : Attributes). a.touches) (at-form out l t (form.Span x y) proper e)))
      (logs-kids b g0 g1 g2 x y kind.Span refl refl body r1.opened r1.texts r2.texts r1.touched r2.touched out l s sees stands);
  opened = r2.opened ∙ r1.opened;
  texts = Begins-then g0.texts.items g1.texts.items g2.texts.items r1.texts r2.texts;
}

no-span : (k : Kind) → (k ≡ kind.Span → ⊥) → is_span k ≡ false
no-span kind.Span isnt = absurd (isnt refl)
no-span k isnt = refl

false-true : (b : Bool) → b ≡ false → b ≡ true → ⊥
false-true true e f = cc
false-true false e f = cc

-- a member that is one value
pub shows-value : (b : Body) (g0 g1 : Going) (t : Plain) (f : Facts) → (t.kind ≡ kind.Span → ⊥) → Resolves b g0 g1 t f → ResolvesAs ShowsHeld b g0 g1 t (member.One f)
shows-value b g0 g1 t f isnt r = record {
  shows = λ out l s sees stands.
      let none : is_span (attributes_at out l t).kind ≡ false = ap is_span (at-kind out l t) ∙ no-span t.kind isnt in
      ((none, r.shows out l s sees stands), λ is. absurd (false-true _ none is));
  touched = r.touched;
  opened = r.opened;
  texts = r.texts;
}

-- what is held of a member stays as more is numbered
pub ShowsHeld-grows : (a c : Known) (m : Member) (n : Node) → Grows a c → ShowsHeld a m n → ShowsHeld c m n
ShowsHeld-grows a c m n g h = (ShowsMember-grows a c m n g h.0, h.1)

-- what is held of members, apart
pub all-held : (k : Known) (ms : List Member) (ns : List Node) → AllShow (ShowsHeld k) ms ns → AllShow (ShowsMember k) ms ns × AllHandOn ns
all-held k [] [] all = (tt, tt)
all-held k (m ∷ ms) (n ∷ ns) all = let more = all-held k ms ns all.1 in ((all.0.0, more.0), (all.0.1, more.1))
all-held k [] (n ∷ ns) all = absurd all
all-held k (m ∷ ms) [] all = absurd all
