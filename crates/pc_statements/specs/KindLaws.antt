-- A statement from its kids, which were gone through: lemmas.
use Rattle.std.specs.Prelude.{◌≡◌, ℕ, List, [], ◌++◌, true, false}
use Rattle.std.proofs.Common.{refl, ap, sym, ◌∙◌, subst}
use Rattle.pc_syntax.specs.Plain.{Plain}
use Rattle.pc_syntax.specs.WellFormed.{IsProper}
use Rattle.pc_syntax.specs.declared.kind.Kind.{Kind}
use Rattle.pc_types.specs.Shapes.{Owner}
use Rattle.pc_forms.specs.Form.{PlainForm, form_of}
use Rattle.pc_forms.specs.FormKids.{kids_in}
use Rattle.pc_forms.specs.FormKind.{kind_in}
use Rattle.pc_rules.specs.Attributes.{Attributes, Node, nodes}
use Rattle.pc_rules.specs.HandedOn.{all_touches}
use Rattle.pc_rules.specs.Meanings.{Local, Outside}
use Rattle.pc_rules.specs.Places.{opens_records}
use Rattle.pc_environment.specs.Decorating.{attributes_at, marks_of}
use Rattle.pc_environment.specs.Sight.{is_body}
use Rattle.pc_facts.specs.Shows.{AllShow, ShowsNode}
use Rattle.pc_facts.specs.declared.facts.Facts.{Facts}
use Rattle.pc_call_rules.specs.Parameters.{Logs}
use Rattle.pc_growth.specs.Grows.{Begins}
use Rattle.pc_growth.specs.GrowsLaws.{Begins-same, Begins-then, AllShow-with, Logs-none}
use Rattle.pc_bodies.specs.declared.body.Body.{Body}
use Rattle.pc_bodies.specs.declared.body.Going.{Going}
use Rattle.pc_bodies.specs.AtFormLaws.{at-form}
use Rattle.pc_bodies.specs.NodesAt.{first_place, found_at}
use Rattle.pc_bodies.specs.Resolved.{known, ShowsFacts}
use Rattle.pc_bodies.specs.SeesLaws.{known-grows, sees-first, logs-two}
use Rattle.pc_statements.specs.Walked.{Finds, Walks, WalksRow, WalksKind}
use Rattle.pc_statements.specs.WalkLaws.{facts-stay, index-logs}

-- the kids of a node where it stands
abbrev pub kids_from : Outside → Local → Kind → List Plain → List Node
kids_from out l k ks = nodes (marks_of out (first_place l k ks) ks)

-- a node of a kind, given what its rule makes of its kids, and which variables it touches beside theirs
pub walks-kind : (b : Body) (g0 g1 g2 : Going) (o0 o1 : List (ℕ × ℕ)) (k : Kind) (ks : List Plain) (fs : List Facts) (r : Facts) (own : List Node → List (Owner × List ℕ)) →
    is_body k ≡ true → opens_records k ≡ false → g2.opened.items ≡ g1.opened.items → Begins g1.texts.items g2.texts.items → WalksRow b g0 g1 o0 o1 ks fs →
    ((w : List ℕ) (out : Outside) (l : Local) → AllShow (ShowsFacts (known b g2)) fs (kids_from out l k ks) → ShowsNode (known b g2) r (found_at out l k w ks)) →
    ((out : Outside) (l : Local) → AllShow (ShowsFacts (known b g2)) fs (kids_from out l k ks) → Logs (known b g2) g1.touched.items g2.touched.items (own (kids_from out l k ks))) →
    ((w : List ℕ) (out : Outside) (l : Local) → (found_at out l k w ks).touches ≡ all_touches (kids_from out l k ks) ++ own (kids_from out l k ks)) → WalksKind b g0 g2 o0 o1 k ks r
walks-kind b g0 g1 g2 o0 o1 k ks fs r own body opens o t row rule logs touches = record {
  found = λ w out l s sees stands index.
      let first = row.found out (first_place l k ks) s (sees-first out l s k ks body opens sees) stands index in
      let ns = kids_from out l k ks in
      let all : AllShow (ShowsFacts (known b g2)) fs ns =
      AllShow-with (ShowsFacts (known b g1)) (ShowsFacts (known b g2)) (λ f n h. facts-stay (known b g1) (known b g2) f n (known-grows b g1 g2 t) h) fs ns first.shows in
      let more = logs out l all in
      record {
        shows = rule w out l all;
        touched = subst (Logs (known b g2) g0.touched.items g2.touched.items) (sym (touches w out l)) (logs-two b g0 g1 g2 (all_touches ns) (own ns) t first.touched more);
        index = index-logs (known b g2) o1 g1 g2 (own ns) first.index more;
      };
  opened = o ∙ row.opened;
  texts = Begins-then g0.texts.items g1.texts.items g2.texts.items row.texts t;
}

-- one that touches no others
pub walks-quiet : (b : Body) (g0 g1 : Going) (o0 o1 : List (ℕ × ℕ)) (k : Kind) (ks : List Plain) (fs : List Facts) (r : Facts) → is_body k ≡ true → opens_records k ≡ false → WalksRow b g0 g1 o0 o1 ks fs →
    ((w : List ℕ) (out : Outside) (l : Local) → AllShow (ShowsFacts (known b g1)) fs (kids_from out l k ks) → ShowsNode (known b g1) r (found_at out l k w ks)) →
    ((w : List ℕ) (out : Outside) (l : Local) → (found_at out l k w ks).touches ≡ all_touches (kids_from out l k ks) ++ []) → WalksKind b g0 g1 o0 o1 k ks r
walks-quiet b g0 g1 o0 o1 k ks fs r body opens row rule touches =
    walks-kind b g0 g1 g1 o0 o1 k ks fs r (λ ns. []) body opens refl (Begins-same g1.texts.items) row rule (λ out l all. Logs-none (known b g1) g1.touched.items) touches

-- a node whose form is known
pub walks-form : (b : Body) (g0 g1 : Going) (o0 o1 : List (ℕ × ℕ)) (t : Plain) (f : PlainForm) (k : Kind) (ks : List Plain) (r : Facts) → IsProper t → f ≡ form_of t → kind_in f ≡ k → kids_in f ≡ ks →
    WalksKind b g0 g1 o0 o1 k ks r → Walks b g0 g1 o0 o1 t r
walks-form b g0 g1 o0 o1 t f k ks r proper e is kids h = record {
  found = λ out l s sees stands index.
      let at : attributes_at out l t ≡ found_at out l k t.word ks =
      at-form out l t f proper e ∙ ap (λ (j : Kind). found_at out l j t.word (kids_in f)) is ∙ ap (λ (us : List Plain). found_at out l k t.word us) kids in
      subst (λ (a : Attributes). Finds b g0 g1 o1 a.touches (ShowsNode (known b g1) r a)) (sym at) (h.found t.word out l s sees stands index);
  opened = h.opened;
  texts = h.texts;
}
