-- Accesses of a with, gone through one after the other: lemmas.
use Rattle.std.specs.Prelude.{◌≡◌, ℕ, Bool, true, List, [], ◌∷◌, ◌++◌}
use Rattle.std.proofs.Common.{refl, ap, sym, ◌∙◌, subst, append-nil}
use Rattle.pc_syntax.specs.Classes.{is_access}
use Rattle.pc_syntax.specs.Plain.{Plain}
use Rattle.pc_syntax.specs.WellFormed.{IsProper}
use Rattle.pc_types.specs.Rows.{seen as tables}
use Rattle.pc_types.specs.Shapes.{Typed}
use Rattle.pc_types.specs.declared.operand.Operand.{Operand}
use Rattle.pc_forms.specs.FormClasses.{Every}
use Rattle.pc_rules.specs.Attributes.{Attributes, Node, nodes}
use Rattle.pc_rules.specs.HandedOn.{all_opens, all_touches}
use Rattle.pc_rules.specs.Meanings.{Local, Outside}
use Rattle.pc_rules.specs.Variables.{opened_by}
use Rattle.pc_environment.specs.Decorating.{place_after, marks_of}
use Rattle.pc_environment.specs.Sight.{Sight, sight_of, is_body}
use Rattle.pc_pointers.specs.Good.{IsGoodAt, AllOpenedGood}
use Rattle.pc_sightings.specs.Opened.{pushed}
use Rattle.pc_sightings.specs.WithLaws.{opened_sight-append, SeesWith-after}
use Rattle.pc_sightings.specs.Withs.{SeesWith, opened_sight}
use Rattle.pc_facts.specs.Known.{Known}
use Rattle.pc_facts.specs.Shows.{ShowsNode, place_of}
use Rattle.pc_facts.specs.declared.facts.Facts.{Facts}
use Rattle.pc_statement_rules.specs.Handed as handed
use Rattle.pc_statement_rules.specs.declared.accesses.Opening.{Opening}
use Rattle.pc_call_rules.specs.Parameters.{Logs}
use Rattle.pc_growth.specs.Grows.{Begins}
use Rattle.pc_growth.specs.GrowsLaws.{Begins-same, Begins-then, Begins-append, Logs-none}
use Rattle.pc_bodies.specs.declared.body.Body.{Body}
use Rattle.pc_bodies.specs.declared.body.Going.{Going}
use Rattle.pc_bodies.specs.NodesAt.{node_at}
use Rattle.pc_bodies.specs.Resolved.{known, Stands, Resolves}
use Rattle.pc_bodies.specs.RowsLaws.{nodes-more, all_touches-more}
use Rattle.pc_bodies.specs.SeesLaws.{stands-kept, logs-two}
use Rattle.pc_statements.specs.OpeningLaws.{closed_place, at-closed, sees-closed}
use Rattle.pc_statements.specs.Opens.{OpensRow}
use Rattle.pc_statements.specs.AccessLaws.{opens-at, all_opens-more, good-at, stands-opened}

-- no access
pub opens-none : (b : Body) (g : Going) (o : Opening) → ((k : Known) → handed.ShowsOpened k o []) → OpensRow b g g [] o
opens-none b g o start = record {
  found = λ out l s sees stands. record { shows = start (known b g); touched = Logs-none (known b g) g.touched.items; stands = stands };
  outer = Begins-same g.opened.items;
  texts = Begins-same g.texts.items;
}

-- what is seen behind accesses
sees-opened : (out : Outside) (l : Local) (s : Sight) (ts : List Plain) → Every (λ t. is_body t.kind ≡ true) ts → SeesWith out l [] s → sight_of out (place_after out l ts) ≡ opened_sight (all_opens (nodes (marks_of out l ts))) s
sees-opened out l s ts bodies sees =
    (SeesWith-after out l [] s ts bodies sees).sight ∙ ap (λ (fs : List (List ℕ × (Typed × Bool))). opened_sight fs s) (append-nil (all_opens (nodes (marks_of out l ts))))

-- one more access, whose record is opened behind it
pub opens-more : (b : Body) (g0 g1 g2 g3 : Going) (ts : List Plain) (t : Plain) (o1 o2 : Opening) (f : Facts) → Every (λ u. is_body u.kind ≡ true) ts → IsProper t → is_body t.kind ≡ true → is_access t.kind ≡ true →
    OpensRow b g0 g1 ts o1 → Resolves b g1 g2 t f →
    ((k : Known) (ns : List Node) (n : Node) → k.table ≡ tables b.types.now → handed.ShowsOpened k o1 ns → ShowsNode k f n.at → handed.ShowsOpened k o2 (ns ++ n ∷ [])) →
    g3.opened.items ≡ g2.opened.items ++ pushed (place_of f.judgement).of → g3.texts.items ≡ g2.texts.items → g3.touched.items ≡ g2.touched.items → OpensRow b g0 g3 (ts ++ t ∷ []) o2
opens-more b g0 g1 g2 g3 ts t o1 o2 f bodies proper body access row one add opened texts touched = record {
  found = λ out l s sees stands.
      let before = row.found out l s sees stands in
      let ns = nodes (marks_of out l ts) in
      let l2 = place_after out l ts in
      let n = node_at out l2 t in
      let s2 = opened_sight (all_opens ns) s in
      let there = sees-closed out l2 s2 (sees-opened out l s ts bodies sees) in
      let same = at-closed out l2 t body in
      let shown : ShowsNode (known b g2) f n.at = subst (ShowsNode (known b g2) f) same (one.shows out (closed_place l2) s2 there before.stands) in
      let logs : Logs (known b g2) g1.touched.items g2.touched.items n.at.touches =
      subst (λ (a : Attributes). Logs (known b g2) g1.touched.items g2.touched.items a.touches) same (one.touched out (closed_place l2) s2 there before.stands) in
      let kept : Stands b (known b g2) g2.opened.items s2 = stands-kept b g1 g2 s2 one.opened one.texts before.stands in
      let good : IsGoodAt kept.targets n.at = subst (IsGoodAt kept.targets) same (good-at b (known b g2) g2.opened.items out (closed_place l2) s2 t proper body there kept) in
      let opens = opens-at out l2 t access in
      let all : all_opens (nodes (marks_of out l (ts ++ t ∷ []))) ≡ opened_by n.at.as_place.type ++ all_opens ns =
      ap all_opens (nodes-more out l ts t) ∙ all_opens-more ns n ∙ ap (λ (fs : List (List ℕ × (Typed × Bool))). fs ++ all_opens ns) opens in
      let longer : Stands b (known b g2) (g2.opened.items ++ pushed (place_of f.judgement).of) (opened_sight (opened_by n.at.as_place.type) s2) =
      stands-opened b (known b g2) g2.opened.items s2 (place_of f.judgement).of n.at.as_place.type shown.place.type kept (subst (AllOpenedGood kept.targets) opens good.opened) in
      let k : known b g2 ≡ known b g3 = ap (λ (ts : List (List ℕ)). record (known b g2) { texts = ts }) (sym texts) in
      record {
        shows = subst (handed.ShowsOpened (known b g3) o2) (sym (nodes-more out l ts t)) (add (known b g2) ns n refl before.shows shown);
        touched = subst (λ (q : Known). Logs q g0.touched.items g3.touched.items (all_touches (nodes (marks_of out l (ts ++ t ∷ []))))) k
            (subst (λ vs. Logs (known b g2) g0.touched.items vs (all_touches (nodes (marks_of out l (ts ++ t ∷ []))))) (sym touched)
            (subst (Logs (known b g2) g0.touched.items g2.touched.items) (sym (ap all_touches (nodes-more out l ts t) ∙ all_touches-more ns n))
            (logs-two b g0 g1 g2 (all_touches ns) n.at.touches one.texts before.touched logs)));
        stands = subst (λ (fs : List (List ℕ × (Typed × Bool))). Stands b (known b g3) g3.opened.items (opened_sight fs s)) (sym all)
            (subst (λ (z : Sight). Stands b (known b g3) g3.opened.items z) (opened_sight-append (opened_by n.at.as_place.type) (all_opens ns) s)
            (subst (λ (q : Known). Stands b q g3.opened.items (opened_sight (opened_by n.at.as_place.type) s2)) k
            (subst (λ (os : List Operand). Stands b (known b g2) os (opened_sight (opened_by n.at.as_place.type) s2)) (sym opened) longer)));
      };
  outer = Begins-then g0.opened.items g1.opened.items g3.opened.items row.outer
      (subst (Begins g1.opened.items) (sym (opened ∙ ap (λ os. os ++ pushed (place_of f.judgement).of) one.opened)) (Begins-append g1.opened.items (pushed (place_of f.judgement).of)));
  texts = Begins-then g0.texts.items g1.texts.items g3.texts.items row.texts (subst (Begins g1.texts.items) (sym texts) one.texts);
}
