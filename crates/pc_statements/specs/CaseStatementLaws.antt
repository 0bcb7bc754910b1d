-- Case statements from their parts: lemmas.
use Rattle.std.specs.Prelude.{◌≡◌, ℕ, true, List, [], ◌∷◌, ◌++◌, map}
use Rattle.std.proofs.Common.{refl, ap, sym, ◌∙◌, subst, append-nil}
use Rattle.pc_syntax.specs.Plain.{Plain, kids_of}
use Rattle.pc_syntax.specs.declared.kind.Kind.TheVariants as kind
use Rattle.pc_types.specs.Shapes.{Owner}
use Rattle.pc_rules.specs.Attributes.{Attributes, Node, nodes, kids_below}
use Rattle.pc_rules.specs.CaseStatements.{case_rule, labels_of}
use Rattle.pc_rules.specs.Decorated.{seen, rule, with_kind}
use Rattle.pc_rules.specs.HandedOn.{all_touches, handed_on}
use Rattle.pc_rules.specs.Meanings.{Local, Outside}
use Rattle.pc_environment.specs.Decorating.{attributes_at, below_at, place_behind}
use Rattle.pc_environment.specs.DecoratingLaws.{at-node}
use Rattle.pc_environment.specs.RowLaws.{sees-behind}
use Rattle.pc_environment.specs.Sight.{is_body}
use Rattle.pc_facts.specs.Known.{Known}
use Rattle.pc_facts.specs.Shows.{AllShow, ShowsArm, ShowsLabels, ShowsNode}
use Rattle.pc_facts.specs.declared.facts.Arm.{Arm}
use Rattle.pc_facts.specs.declared.facts.Facts.{Facts}
use Rattle.pc_statement_rules.specs.Given.{ShowsArmLabels}
use Rattle.pc_call_rules.specs.Parameters.{Logs}
use Rattle.pc_growth.specs.GrowsLaws.{Begins-then, ShowsNode-grows}
use Rattle.pc_bodies.specs.declared.body.Body.{Body}
use Rattle.pc_bodies.specs.declared.body.Going.{Going}
use Rattle.pc_bodies.specs.NodesAt.{node_at, first_place}
use Rattle.pc_bodies.specs.Resolved.{known, ShowsFacts, Resolves}
use Rattle.pc_bodies.specs.RowsLaws.{kids-of-kind}
use Rattle.pc_bodies.specs.SeesLaws.{known-grows, stands-kept, sees-first, logs-two}
use Rattle.pc_statements.specs.Walked.{WalkAs, WalksKind}
use Rattle.pc_statements.specs.WalkLaws.{walks-of}

arms-rule : (out : Outside) (l : Local) (t : Plain) → t.kind ≡ kind.Arms → attributes_at out l t ≡ with_kind kind.Arms t.word (handed_on (nodes (below_at out l t)))
unfolding rule
arms-rule out l t e = at-node out l t ∙ (λ i. rule l (e i) t.word (seen out l (e i) t.word) (below_at out l t))

-- what is found at arms, and the values of their labels
arms-facts : (k : Known) (gs : List Arm) (ns : List Node) → AllShow (ShowsArm k) gs ns → AllShow (ShowsFacts k) (map (λ g. g.at) gs) ns
arms-facts k [] [] all = tt
arms-facts k (g ∷ gs) (n ∷ ns) all = (all.0.at, arms-facts k gs ns all.1)
arms-facts k [] (n ∷ ns) all = absurd all
arms-facts k (g ∷ gs) [] all = absurd all

arms-labelled : (k : Known) (gs hs : List Arm) (ns : List Node) → map (λ g. g.labels) hs ≡ map (λ g. g.labels) gs → AllShow (ShowsArm k) gs ns → AllShow (ShowsArmLabels k) hs ns
arms-labelled k [] [] [] e all = tt
arms-labelled k (g ∷ gs) (h ∷ hs) (n ∷ ns) e all =
    let same : h.labels ≡ g.labels = cc in
    let rest : map (λ g. g.labels) hs ≡ map (λ g. g.labels) gs = cc in
    (subst (λ vs. ShowsLabels k vs.items (labels_of n)) (sym same) all.0.labels, arms-labelled k gs hs ns rest all.1)
arms-labelled k [] (h ∷ hs) ns e all = cc
arms-labelled k (g ∷ gs) [] ns e all = cc
arms-labelled k [] [] (n ∷ ns) e all = absurd all
arms-labelled k (g ∷ gs) hs [] e all = absurd all

-- a case statement whose expression and arms were gone through
pub walks-case : (b : Body) (g0 g1 g2 : Going) (o0 o1 : List (ℕ × ℕ)) (selector list : Plain) (f1 f2 r : Facts) (gs hs : List Arm) (fs : List Facts) → is_body selector.kind ≡ true → list.kind ≡ kind.Arms → Resolves b g0 g1 selector f1 →
    WalkAs ShowsArm b g1 g2 o0 o1 (kids_of list) gs → fs ≡ map (λ g. g.at) gs → map (λ g. g.labels) hs ≡ map (λ g. g.labels) gs →
    ((k : Known) (w : List ℕ) (ns : List Node) → AllShow (λ g n. ShowsNode k g n.at) fs ns → ShowsNode k f2 (with_kind kind.Arms w (handed_on ns))) →
    ((w : List ℕ) (m n : Node) → ShowsNode (known b g2) f1 m.at → AllShow (ShowsArmLabels (known b g2)) hs (kids_below n) → ShowsNode (known b g2) f2 n.at → ShowsNode (known b g2) r (with_kind kind.Case w (case_rule m n))) →
    WalksKind b g0 g2 o0 o1 kind.Case (selector ∷ list ∷ []) r
walks-case b g0 g1 g2 o0 o1 selector list f1 f2 r gs hs fs body is r1 row facts labels handed made = record {
  found = λ w out l s sees stands index.
      let ks = selector ∷ list ∷ [] in
      let l1 = first_place l kind.Case ks in
      let l2 = place_behind out l1 selector in
      let l3 = first_place l2 kind.Arms (kids_of list) in
      let m = node_at out l1 selector in
      let n = node_at out l2 list in
      let k = known b g2 in
      let see1 = sees-first out l s kind.Case ks refl refl sees in
      let see2 = sees-behind out l1 s selector body see1 in
      let one = (walks-of ShowsFacts b g0 g1 o0 selector f1 r1).found out l1 s see1 stands index in
      let two = row.found out l3 s (sees-first out l2 s kind.Arms (kids_of list) refl refl see2) (stands-kept b g0 g1 s r1.opened r1.texts stands) one.index in
      let same = kids-of-kind out l2 list kind.Arms is in
      let all : AllShow (ShowsArm k) gs (kids_below n) = subst (λ ns. AllShow (ShowsArm k) gs ns) (sym same) two.shows in
      let at = arms-rule out l2 list is in
      let arms : ShowsNode k f2 n.at =
      subst (ShowsNode k f2) (sym at) (handed k list.word (kids_below n) (subst (λ hs. AllShow (ShowsFacts k) hs (kids_below n)) (sym facts) (arms-facts k gs (kids_below n) all))) in
      let logs : Logs k g1.touched.items g2.touched.items n.at.touches =
      subst (Logs k g1.touched.items g2.touched.items) (sym (ap (λ (a : Attributes). a.touches) at ∙ ap all_touches same)) two.touched in
      record {
        shows = made w m n (ShowsNode-grows (known b g1) k f1 m.at (known-grows b g1 g2 row.texts) one.shows) (arms-labelled k gs hs (kids_below n) labels all) arms;
        touched = subst (Logs k g0.touched.items g2.touched.items)
            (ap (λ (vs : List (Owner × List ℕ)). m.at.touches ++ vs) (sym (append-nil n.at.touches)) ∙ sym (append-nil (m.at.touches ++ (n.at.touches ++ []))))
            (logs-two b g0 g1 g2 m.at.touches n.at.touches row.texts one.touched logs);
        index = two.index;
      };
  opened = row.opened ∙ r1.opened;
  texts = Begins-then g0.texts.items g1.texts.items g2.texts.items r1.texts row.texts;
}
