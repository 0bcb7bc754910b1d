-- A for statement whose parts were gone through.
use Rattle.std.specs.Prelude.{◌≡◌, ℕ, Bool, List, [], ◌∷◌, ◌++◌, true, false, Option, map, length, get_or, option_to_list, if◌then◌else◌}
use Rattle.std.proofs.Common.{refl, ap, sym, ◌∙◌, subst, append-nil}
use Rattle.pc_syntax.specs.Classes.{has}
use Rattle.pc_syntax.specs.Plain.{Plain}
use Rattle.pc_syntax.specs.Words.{lowered}
use Rattle.pc_syntax.specs.Sorts.{is_hole}
use Rattle.pc_syntax.specs.declared.class.Class.TheVariants as class
use Rattle.pc_syntax.specs.declared.kind.Kind.TheVariants as kind
use Rattle.pc_types.specs.Rows.{seen as tables}
use Rattle.pc_types.specs.Table.{nobody}
use Rattle.pc_types.specs.declared.operand.Operand.{Operand}
use Rattle.pc_names.specs.Numbers.{number_of}
use Rattle.pc_rules.specs.Attributes.{Node}
use Rattle.pc_rules.specs.Decorated.{with_kind}
use Rattle.pc_rules.specs.ForStatements.{for_rule, stands_among}
use Rattle.pc_rules.specs.HandedOn.{all_touches}
use Rattle.pc_rules.specs.Meanings.{Found, Local, Outside}
use Rattle.pc_rules.specs.Variables.{variable_of}
use Rattle.pc_environment.specs.Decorating.{attributes_at, place_behind}
use Rattle.pc_environment.specs.RowLaws.{SeesFrom, sees-behind}
use Rattle.pc_environment.specs.Sight.{Sight, is_body}
use Rattle.pc_sightings.specs.TouchedLog.{numbers_of}
use Rattle.pc_facts.specs.Known.{Known}
use Rattle.pc_facts.specs.Shows.{ShowsFound, ShowsName, ShowsNode, ShowsVariable}
use Rattle.pc_facts.specs.declared.facts.Facts.{Facts}
use Rattle.pc_facts.specs.declared.sighting.Named.{Named}
use Rattle.pc_facts.specs.declared.sighting.Variable.{Variable}
use Rattle.pc_call_rules.specs.Parameters.{Logs}
use Rattle.pc_growth.specs.Grows.{Begins}
use Rattle.pc_growth.specs.GrowsLaws.{Begins-same, Begins-then, ShowsName-grows, ShowsNode-grows, Logs-then}
use Rattle.pc_bodies.specs.declared.body.Body.{Body}
use Rattle.pc_bodies.specs.declared.body.Going.{Going}
use Rattle.pc_bodies.specs.BodyLaws.{class-body}
use Rattle.pc_bodies.specs.CallLaws.{NamedAt}
use Rattle.pc_bodies.specs.NodesAt.{node_at, first_place}
use Rattle.pc_bodies.specs.Resolved.{known, Stands, ShowsFacts, Resolves}
use Rattle.pc_bodies.specs.RowsLaws.{at-word, at-kind, name-logs}
use Rattle.pc_bodies.specs.SeesLaws.{known-grows, stands-kept, sees-first, logs-two}
use Rattle.pc_statements.specs.ForLaws.{changed_since, changed-among, changed-at}
use Rattle.pc_statements.specs.StatementLaws.{logs-variable}
use Rattle.pc_statements.specs.Walked.{IsIndex, Walks, WalksKind}
use Rattle.pc_statements.specs.WalkLaws.{index-logs, walks-of}

-- ---- what was made of the parts of a for statement

-- what was answered of each part, and of the control variable
pub record ForParts (b : Body) (g0 g1 g2 g3 g4 g5 : Going) (o0 o1 o2 : List (ℕ × ℕ)) (control first last body : Plain) (m : Named) (f1 f2 f3 : Facts) (v : Option Variable) (name : Option ℕ) (inside by_body : Bool) : Type 0 where
  pub is_control : has class.Name control.kind ≡ true
  pub is_first : is_body first.kind ≡ true
  pub is_last : is_body last.kind ≡ true
  pub opened : g1.opened.items ≡ g0.opened.items
  pub texts : Begins g0.texts.items g1.texts.items
  pub touched : g1.touched.items ≡ g0.touched.items
  pub named : NamedAt b g0 g1 control m
  pub at_first : Resolves b g1 g2 first f1
  pub at_last : Resolves b g2 g3 last f2
  pub at_body : Walks b g3 g4 o0 o1 body f3
  pub caught : IsIndex o1 g4 → o2 ≡ map numbers_of g4.touched.items
  pub number : number_of b.names.now.texts (lowered control.word) ≡ name
  pub changed_inside : inside ≡ (if m.hole then false else changed_since b.mark b.inside.now b.owner.0 name)
  pub changed_by_body : by_body ≡ changed_since (length g3.touched.items) o2 b.owner.0 name
  pub variable : (k : Known) (n : List ℕ) (f : Found) → ShowsFound k n m.sighting f → ShowsVariable k v (variable_of n f)
  pub opened_behind : g5.opened.items ≡ g4.opened.items
  pub texts_behind : g5.texts.items ≡ g4.texts.items
  pub touched_behind : g5.touched.items ≡ g4.touched.items ++ option_to_list v
  pub known_behind : known b g4 ≡ known b g5

-- ---- what is found

inside-at : (b : Body) (k j : Known) (os : List Operand) (m : Named) (out : Outside) (l : Local) (s : Sight) (t : Plain) (name : Option ℕ) (inside : Bool) → has class.Name t.kind ≡ true → l.using ≡ true → SeesFrom out l s →
    Stands b k os s → ShowsName j m (attributes_at out l t) → number_of b.names.now.texts (lowered t.word) ≡ name →
    inside ≡ (if m.hole then false else changed_since b.mark b.inside.now b.owner.0 name) → inside ≡ (attributes_at out l t).changed
inside-at b k j os m out l s t name inside is using sees stands shown number e =
    let n = lowered t.word in
    let hole : m.hole ≡ is_hole t.kind = shown.hole ∙ ap is_hole (at-kind out l t) in
    let same : changed_since b.mark b.inside.now b.owner.0 name ≡ out.touched n =
    ap (changed_since b.mark b.inside.now b.owner.0) (sym number) ∙ sym (stands.inside n) ∙ sym (ap (λ (x : Sight). x.touched n) sees.sight) in
    e ∙ (λ i. if hole i then false else same i) ∙ sym (changed-at out l t is using)

-- the for statement, given what its rule makes of its parts
pub walks-for : (b : Body) (g0 g1 g2 g3 g4 g5 : Going) (o0 o1 o2 : List (ℕ × ℕ)) (control first last body : Plain) (m : Named) (f1 f2 f3 r : Facts) (v : Option Variable) (name : Option ℕ) (inside by_body : Bool) →
    ForParts b g0 g1 g2 g3 g4 g5 o0 o1 o2 control first last body m f1 f2 f3 v name inside by_body →
    ((w : List ℕ) (l : Local) (c a e s : Node) → c.at.word ≡ control.word → ShowsName (known b g4) m c.at → inside ≡ c.at.changed → by_body ≡ stands_among s.at.touches l.owner (lowered c.at.word) →
    get_or (tables b.types.now).owners b.owner.0 nobody ≡ l.owner → ShowsNode (known b g4) f1 a.at → ShowsNode (known b g4) f2 e.at → ShowsNode (known b g4) f3 s.at →
    ShowsNode (known b g4) r (with_kind kind.For w (for_rule l c a e s))) → WalksKind b g0 g5 o0 o2 kind.For (control ∷ first ∷ last ∷ body ∷ []) r
walks-for b g0 g1 g2 g3 g4 g5 o0 o1 o2 control first last body m f1 f2 f3 r v name inside by_body p made = record {
  found = λ w out l s sees stands index.
      let ks = control ∷ first ∷ last ∷ body ∷ [] in
      let k = known b g4 in
      let l1 = first_place l kind.For ks in
      let l2 = place_behind out l1 control in
      let l3 = place_behind out l2 first in
      let l4 = place_behind out l3 last in
      let c = node_at out l1 control in
      let a = node_at out l2 first in
      let e = node_at out l3 last in
      let n = node_at out l4 body in
      let see1 = sees-first out l s kind.For ks refl refl sees in
      let see2 = sees-behind out l1 s control (class-body class.Name control.kind refl p.is_control) see1 in
      let see3 = sees-behind out l2 s first p.is_first see2 in
      let see4 = sees-behind out l3 s last p.is_last see3 in
      let st1 = stands-kept b g0 g1 s p.opened p.texts stands in
      let st2 = stands-kept b g1 g2 s p.at_first.opened p.at_first.texts st1 in
      let st3 = stands-kept b g2 g3 s p.at_last.opened p.at_last.texts st2 in
      let t24 = Begins-then g2.texts.items g3.texts.items g4.texts.items p.at_last.texts p.at_body.texts in
      let t14 = Begins-then g1.texts.items g2.texts.items g4.texts.items p.at_first.texts t24 in
      let logs0 : Logs (known b g1) g0.touched.items g1.touched.items c.at.touches = name-logs b g0 g1 control p.is_control p.touched out l1 s see1 stands in
      let x1 = (walks-of ShowsFacts b g1 g2 o0 first f1 p.at_first).found out l2 s see2 st1 (index-logs (known b g1) o0 g0 g1 c.at.touches index logs0) in
      let x2 = (walks-of ShowsFacts b g2 g3 o0 last f2 p.at_last).found out l3 s see3 st2 x1.index in
      let x3 = p.at_body.found out l4 s see4 st3 x2.index in
      let shown : ShowsName k m c.at = ShowsName-grows (known b g1) k m c.at (known-grows b g1 g4 t14) (p.named out l1 s see1 refl stands) in
      let word : c.at.word ≡ control.word = at-word out l1 control in
      let owner : get_or (tables b.types.now).owners b.owner.0 nobody ≡ l.owner = stands.owner ∙ sym (ap (λ (x : Sight). x.owner) sees.sight) in
      let caught = p.caught x3.index in
      let changed : by_body ≡ stands_among n.at.touches l.owner (lowered c.at.word) =
      p.changed_by_body ∙ ap (λ (us : List (ℕ × ℕ)). changed_since (length g3.touched.items) us b.owner.0 name) caught
      ∙ changed-among k b.owner.0 l.owner (lowered control.word) g3.touched.items g4.touched.items n.at.touches name stands.apart stands.distinct owner stands.there p.number x3.touched
      ∙ ap (λ (u : List ℕ). stands_among n.at.touches l.owner (lowered u)) (sym word) in
      let facts = made w l c a e n word shown (inside-at b (known b g0) (known b g1) g0.opened.items m out l1 s control name inside p.is_control refl see1 stands (p.named out l1 s see1 refl stands) p.number p.changed_inside) changed owner
      (ShowsNode-grows (known b g2) k f1 a.at (known-grows b g2 g4 t24) x1.shows) (ShowsNode-grows (known b g3) k f2 e.at (known-grows b g3 g4 p.at_body.texts) x2.shows) x3.shows in
      let last_two : Logs k g2.touched.items g4.touched.items (e.at.touches ++ (n.at.touches ++ [])) =
      logs-two b g2 g3 g4 e.at.touches (n.at.touches ++ []) p.at_body.texts x2.touched (subst (Logs k g3.touched.items g4.touched.items) (sym (append-nil n.at.touches)) x3.touched) in
      let all : Logs k g0.touched.items g4.touched.items (all_touches (c ∷ a ∷ e ∷ n ∷ [])) =
      logs-two b g0 g1 g4 c.at.touches (a.at.touches ++ (e.at.touches ++ (n.at.touches ++ []))) t14 logs0 (logs-two b g1 g2 g4 a.at.touches (e.at.touches ++ (n.at.touches ++ [])) t24 x1.touched last_two) in
      let own = variable_of (lowered c.at.word) c.at.found in
      let noted : Logs k g4.touched.items g5.touched.items own = logs-variable k g4.touched.items g5.touched.items v own p.touched_behind (p.variable k (lowered c.at.word) c.at.found shown.found) in
      let ws = all_touches (c ∷ a ∷ e ∷ n ∷ []) ++ own in
      let logs : Logs k g0.touched.items g5.touched.items ws = Logs-then k g0.touched.items g4.touched.items g5.touched.items (all_touches (c ∷ a ∷ e ∷ n ∷ [])) own all noted in
      record {
        shows = subst (λ (q : Known). ShowsNode q r (with_kind kind.For w (for_rule l c a e n))) p.known_behind facts;
        touched = subst (λ (q : Known). Logs q g0.touched.items g5.touched.items ws) p.known_behind logs;
        index = index-logs k o2 g4 g5 own (subst (λ (us : List (ℕ × ℕ)). Begins us (map numbers_of g4.touched.items)) (sym caught) (Begins-same (map numbers_of g4.touched.items))) noted;
      };
  opened = p.opened_behind ∙ p.at_body.opened ∙ p.at_last.opened ∙ p.at_first.opened ∙ p.opened;
  texts =
      let t34 = p.at_body.texts in
      let t24 = Begins-then g2.texts.items g3.texts.items g4.texts.items p.at_last.texts t34 in
      let t14 = Begins-then g1.texts.items g2.texts.items g4.texts.items p.at_first.texts t24 in
      subst (Begins g0.texts.items) (sym p.texts_behind) (Begins-then g0.texts.items g1.texts.items g4.texts.items p.texts t14);
}
