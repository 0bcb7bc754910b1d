-- A with whose accesses and whose statement were gone through.
use Rattle.std.specs.Prelude.{◌≡◌, ℕ, Bool, List, [], ◌∷◌, ◌++◌, true, take, length, map}
use Rattle.std.proofs.Common.{refl, ap, sym, ◌∙◌, subst, append-nil}
use Rattle.std.proofs.lemmas.List.{take_at}
use Rattle.pc_syntax.specs.Plain.{Plain, kids_of, forest_of}
use Rattle.pc_syntax.specs.declared.kind.Kind.TheVariants as kind
use Rattle.pc_types.specs.Shapes.{Owner, Typed}
use Rattle.pc_types.specs.declared.operand.Operand.{Operand}
use Rattle.pc_rules.specs.Attributes.{Attributes, Node, nodes}
use Rattle.pc_rules.specs.Decorated.{seen, rule, with_kind}
use Rattle.pc_rules.specs.HandedOn.{all_opens, handed_on}
use Rattle.pc_rules.specs.Meanings.{Local, Outside}
use Rattle.pc_rules.specs.Statements.{records_rule}
use Rattle.pc_environment.specs.Decorating.{attributes_at, below_at, place_behind}
use Rattle.pc_environment.specs.DecoratingLaws.{at-node}
use Rattle.pc_environment.specs.Sight.{Sight, sight_of, is_body}
use Rattle.pc_sightings.specs.WithLaws.{SeesWith-first, SeesWith-inner, SeesWith-behind}
use Rattle.pc_sightings.specs.Withs.{SeesWith, opened_sight}
use Rattle.pc_sightings.specs.TouchedLog.{numbers_of}
use Rattle.pc_facts.specs.Known.{Known}
use Rattle.pc_facts.specs.Shows.{ShowsNode}
use Rattle.pc_facts.specs.declared.facts.Facts.{Facts}
use Rattle.pc_statement_rules.specs.Handed as handed
use Rattle.pc_statement_rules.specs.declared.accesses.Opening.{Opening}
use Rattle.pc_call_rules.specs.Parameters.{Logs}
use Rattle.pc_growth.specs.Grows.{Begins}
use Rattle.pc_growth.specs.GrowsLaws.{Begins-then, ShowsNode-grows}
use Rattle.pc_bodies.specs.declared.body.Body.{Body}
use Rattle.pc_bodies.specs.declared.body.Going.{Going}
use Rattle.pc_bodies.specs.NodesAt.{node_at, first_place, found_at}
use Rattle.pc_bodies.specs.Resolved.{known, Stands}
use Rattle.pc_bodies.specs.RowsLaws.{kids-of-kind}
use Rattle.pc_bodies.specs.SeesLaws.{known-grows, logs-two}
use Rattle.pc_statements.specs.OpeningLaws.{closed_place, at-closed, sees-closed}
use Rattle.pc_statements.specs.Opens.{FindsOpened, OpensRow}
use Rattle.pc_statements.specs.Walked.{Walks, WalksKind}
use Rattle.pc_statements.specs.WalkLaws.{index-logs}

-- the list of accesses is one
pub accesses-rule : (out : Outside) (l : Local) (t : Plain) → t.kind ≡ kind.Accesses → attributes_at out l t ≡ with_kind kind.Accesses t.word (records_rule (nodes (below_at out l t)))
unfolding rule
accesses-rule out l t e = at-node out l t ∙ (λ i. rule l (e i) t.word (seen out l (e i) t.word) (below_at out l t))

-- the stack behind a with is the one before it
pub cut-back : (old new : List Operand) → Begins old new → take (length old) new ≡ old
cut-back old new h = ap (take (length old)) h.is ∙ take_at old h.more (length old) refl

-- what is found at the accesses of a with, and where its statement stands
record FindsRecords (b : Body) (g0 g1 : Going) (out : Outside) (l : Local) (s : Sight) (records : Plain) (f : Facts) : Type 0 where
  shows : ShowsNode (known b g1) f (attributes_at out l records)
  touched : Logs (known b g1) g0.touched.items g1.touched.items (attributes_at out l records).touches
  opens : List (List ℕ × (Typed × Bool))
  sight : sight_of out (place_behind out l records) ≡ opened_sight opens s
  stands : Stands b (known b g1) g1.opened.items (opened_sight opens s)

find-records : (b : Body) (g0 g1 : Going) (out : Outside) (l : Local) (s : Sight) (records : Plain) (o : Opening) (f : Facts) → records.kind ≡ kind.Accesses → OpensRow b g0 g1 (kids_of records) o →
    ((k : Known) (w : List ℕ) (ns : List Node) → handed.ShowsOpened k o ns → ShowsNode k f (with_kind kind.Accesses w (records_rule ns))) → SeesWith out l [] s → Stands b (known b g0) g0.opened.items s →
    FindsRecords b g0 g1 out l s records f
find-records b g0 g1 out l s records o f is row finish sees stands =
    let ks = kids_of records in
    let ns = nodes (below_at out l records) in
    let inside : SeesWith out (first_place l kind.Accesses ks) [] s = SeesWith-inner out l [] s (forest_of ks) sees in
    let found : FindsOpened b g0 g1 o s ns = subst (FindsOpened b g0 g1 o s) (sym (kids-of-kind out l records kind.Accesses is)) (row.found out (first_place l kind.Accesses ks) s inside stands) in
    let at = accesses-rule out l records is in
    record {
      shows = subst (ShowsNode (known b g1) f) (sym at) (finish (known b g1) records.word ns found.shows);
      touched = subst (λ (a : Attributes). Logs (known b g1) g0.touched.items g1.touched.items a.touches) (sym at) found.touched;
      opens = all_opens ns;
      sight = (SeesWith-behind out l [] s records (ap is_body is) sees).sight
          ∙ ap (λ (fs : List (List ℕ × (Typed × Bool))). opened_sight fs s) (append-nil (attributes_at out l records).opens ∙ ap (λ (a : Attributes). a.opens) at);
      stands = found.stands;
    }

-- the accesses were gone through, and then the statement with their records open
pub walks-with : (b : Body) (g0 g1 g2 g3 : Going) (o0 o1 : List (ℕ × ℕ)) (records body : Plain) (o : Opening) (f1 f2 r : Facts) → records.kind ≡ kind.Accesses → is_body body.kind ≡ true → OpensRow b g0 g1 (kids_of records) o →
    ((k : Known) (w : List ℕ) (ns : List Node) → handed.ShowsOpened k o ns → ShowsNode k f1 (with_kind kind.Accesses w (records_rule ns))) → Walks b g1 g2 o0 o1 body f2 →
    ((k : Known) (w : List ℕ) (m n : Node) → ShowsNode k f1 m.at → ShowsNode k f2 n.at → ShowsNode k r (with_kind kind.With w (handed_on (m ∷ n ∷ [])))) →
    g3.opened.items ≡ take (length g0.opened.items) g2.opened.items → g3.texts.items ≡ g2.texts.items → g3.touched.items ≡ g2.touched.items → WalksKind b g0 g3 o0 o1 kind.With (records ∷ body ∷ []) r
walks-with b g0 g1 g2 g3 o0 o1 records body o f1 f2 r is isb row finish inner made opened texts touched = record {
  found = λ w out l s sees stands index.
      let l1 = first_place l kind.With (records ∷ body ∷ []) in
      let l2 = place_behind out l1 records in
      let one = find-records b g0 g1 out l1 s records o f1 is row finish (SeesWith-first out l s (forest_of (records ∷ body ∷ [])) sees) stands in
      let s2 = opened_sight one.opens s in
      let m = node_at out l1 records in
      let n = node_at out l2 body in
      let two = inner.found out (closed_place l2) s2 (sees-closed out l2 s2 one.sight) one.stands (index-logs (known b g1) o0 g0 g1 m.at.touches index one.touched) in
      let same = at-closed out l2 body isb in
      let shown : ShowsNode (known b g2) f2 n.at = subst (ShowsNode (known b g2) f2) same two.shows in
      let logs : Logs (known b g2) g1.touched.items g2.touched.items n.at.touches = subst (λ (a : Attributes). Logs (known b g2) g1.touched.items g2.touched.items a.touches) same two.touched in
      let k : known b g2 ≡ known b g3 = ap (λ (ts : List (List ℕ)). record (known b g2) { texts = ts }) (sym texts) in
      let ws = m.at.touches ++ (n.at.touches ++ []) in
      let both : Logs (known b g2) g0.touched.items g2.touched.items ws =
      subst (λ (vs : List (Owner × List ℕ)). Logs (known b g2) g0.touched.items g2.touched.items (m.at.touches ++ vs)) (sym (append-nil n.at.touches))
      (logs-two b g0 g1 g2 m.at.touches n.at.touches inner.texts one.touched logs) in
      record {
        shows = subst (λ (q : Known). ShowsNode q r (found_at out l kind.With w (records ∷ body ∷ []))) k
            (made (known b g2) w m n (ShowsNode-grows (known b g1) (known b g2) f1 m.at (known-grows b g1 g2 inner.texts) one.shows) shown);
        touched = subst (λ (q : Known). Logs q g0.touched.items g3.touched.items ws) k (subst (λ vs. Logs (known b g2) g0.touched.items vs ws) (sym touched) both);
        index = subst (λ vs. Begins o1 (map numbers_of vs)) (sym touched) two.index;
      };
  opened = opened ∙ ap (take (length g0.opened.items)) inner.opened ∙ cut-back g0.opened.items g1.opened.items row.outer;
  texts = subst (Begins g0.texts.items) (sym texts) (Begins-then g0.texts.items g1.texts.items g2.texts.items row.texts inner.texts);
}
