-- Statements from their parts: lists of statements, assignments and procedure statements.
use Rattle.std.specs.Prelude.{◌≡◌, ℕ, List, [], ◌∷◌, ◌++◌, true, Option, Some, None, option_to_list}
use Rattle.std.proofs.Common.{refl, ap, sym, ◌∙◌, subst}
use Rattle.pc_syntax.specs.Classes.{has}
use Rattle.pc_syntax.specs.Plain.{Plain, kids_of}
use Rattle.pc_syntax.specs.declared.class.Class.TheVariants as class
use Rattle.pc_syntax.specs.declared.kind.Kind.TheVariants as kind
use Rattle.pc_types.specs.Rows.{seen as tables}
use Rattle.pc_types.specs.Shapes.{Owner}
use Rattle.pc_rules.specs.Attributes.{Attributes, Node, nodes, kids_below}
use Rattle.pc_rules.specs.Decorated.{seen, rule, with_kind}
use Rattle.pc_rules.specs.HandedOn.{all_touches, handed_on}
use Rattle.pc_rules.specs.Meanings.{Local, Outside}
use Rattle.pc_rules.specs.RequiredProcedures.{procedure_rule}
use Rattle.pc_rules.specs.Statements.{assign_rule}
use Rattle.pc_environment.specs.Decorating.{attributes_at, below_at, place_behind, marks_of}
use Rattle.pc_environment.specs.DecoratingLaws.{at-node}
use Rattle.pc_environment.specs.Sight.{is_body}
use Rattle.pc_facts.specs.Known.{Known}
use Rattle.pc_facts.specs.Shows.{AllShow, ShowsArgument, ShowsNode, ShowsVariable}
use Rattle.pc_facts.specs.declared.facts.Argument.{Argument}
use Rattle.pc_facts.specs.declared.facts.Facts.{Facts}
use Rattle.pc_facts.specs.declared.sighting.Named.{Named}
use Rattle.pc_facts.specs.declared.sighting.Variable.{Variable}
use Rattle.pc_call_rules.specs.Calls.{ShowsCall, procedure_touches}
use Rattle.pc_call_rules.specs.Parameters.{Logs}
use Rattle.pc_growth.specs.Grows.{Begins}
use Rattle.pc_growth.specs.GrowsLaws.{Begins-then, Logs-then}
use Rattle.pc_bodies.specs.declared.body.Body.{Body}
use Rattle.pc_bodies.specs.declared.body.Going.{Going}
use Rattle.pc_bodies.specs.BodyLaws.{class-body}
use Rattle.pc_bodies.specs.CallLaws.{NamedAt, called-at}
use Rattle.pc_bodies.specs.NodesAt.{node_at, first_place}
use Rattle.pc_bodies.specs.Resolved.{known, ShowsFacts, ResolveAs, Resolves}
use Rattle.pc_bodies.specs.RowsLaws.{kids-of-kind, at-word, args-hole, args-logs, name-logs}
use Rattle.pc_bodies.specs.SeesLaws.{sees-first, logs-kids}
use Rattle.pc_statements.specs.TouchLaws.{procedure-touches}
use Rattle.pc_statements.specs.Walked.{Finds, Walks, WalksRow, WalksKind}
use Rattle.pc_statements.specs.KindLaws.{walks-kind}
use Rattle.pc_statements.specs.WalkLaws.{index-logs, row-two, walks-of}

-- the log has grown by a variable, if there is one
pub logs-variable : (k : Known) (old new : List Variable) (v : Option Variable) (ws : List (Owner × List ℕ)) → new ≡ old ++ option_to_list v → ShowsVariable k v ws → Logs k old new ws
logs-variable k old new None [] e is = ([], e, tt)
logs-variable k old new (Some v) (w ∷ []) e is = (v ∷ [], e, (is, tt))
logs-variable k old new v ws e is = absurd is

-- ---- lists of statements

stmts-rule : (out : Outside) (l : Local) (t : Plain) → t.kind ≡ kind.Stmts → attributes_at out l t ≡ with_kind kind.Stmts t.word (handed_on (nodes (below_at out l t)))
unfolding rule
stmts-rule out l t e = at-node out l t ∙ (λ i. rule l (e i) t.word (seen out l (e i) t.word) (below_at out l t))

-- a list whose statements were gone through
pub walks-list : (b : Body) (g0 g1 : Going) (o0 o1 : List (ℕ × ℕ)) (t : Plain) (fs : List Facts) (r : Facts) → t.kind ≡ kind.Stmts → WalksRow b g0 g1 o0 o1 (kids_of t) fs →
    ((k : Known) (w : List ℕ) (ns : List Node) → AllShow (λ g n. ShowsNode k g n.at) fs ns → ShowsNode k r (with_kind kind.Stmts w (handed_on ns))) → Walks b g0 g1 o0 o1 t r
walks-list b g0 g1 o0 o1 t fs r is row made = record {
  found = λ out l s sees stands index.
      let ks = kids_of t in
      let l1 = first_place l kind.Stmts ks in
      let all = row.found out l1 s (sees-first out l s kind.Stmts ks refl refl sees) stands index in
      let at : attributes_at out l t ≡ with_kind kind.Stmts t.word (handed_on (nodes (marks_of out l1 ks))) =
      stmts-rule out l t is ∙ ap (λ (ns : List Node). with_kind kind.Stmts t.word (handed_on ns)) (kids-of-kind out l t kind.Stmts is) in
      subst (λ (a : Attributes). Finds b g0 g1 o1 a.touches (ShowsNode (known b g1) r a)) (sym at)
      (record { shows = made (known b g1) t.word (nodes (marks_of out l1 ks)) all.shows; touched = all.touched; index = all.index });
  opened = row.opened;
  texts = row.texts;
}

-- ---- assignments

-- the variable that the first of some nodes names as a whole
abbrev pub first_variable : List Node → List (Owner × List ℕ)
first_variable [] = []
first_variable (n ∷ ns) = n.at.variable

-- an assignment whose target and value were gone through, and whose target is noted if it is a variable as a whole
pub walks-assign : (b : Body) (g0 g1 g2 g3 : Going) (o : List (ℕ × ℕ)) (target value : Plain) (f1 f2 r : Facts) → is_body target.kind ≡ true → Resolves b g0 g1 target f1 → Resolves b g1 g2 value f2 →
    g3.opened.items ≡ g2.opened.items → Begins g2.texts.items g3.texts.items → g3.touched.items ≡ g2.touched.items ++ option_to_list f1.variable →
    ((w : List ℕ) (m n : Node) → ShowsNode (known b g3) f1 m.at → ShowsNode (known b g3) f2 n.at → ShowsNode (known b g3) r (with_kind kind.Assign w (assign_rule m n))) →
    WalksKind b g0 g3 o o kind.Assign (target ∷ value ∷ []) r
walks-assign b g0 g1 g2 g3 o target value f1 f2 r body r1 r2 opened texts touched made =
    let ks = target ∷ value ∷ [] in
    walks-kind b g0 g2 g3 o o kind.Assign ks (f1 ∷ f2 ∷ []) r first_variable refl refl opened texts
    (row-two b g0 g1 g2 o o o target value f1 f2 body (walks-of ShowsFacts b g0 g1 o target f1 r1) (walks-of ShowsFacts b g1 g2 o value f2 r2))
    (λ w out l all.
    let l1 = first_place l kind.Assign ks in
    made w (node_at out l1 target) (node_at out (place_behind out l1 target) value) all.0 all.1.0)
    (λ out l all. logs-variable (known b g3) g2.touched.items g3.touched.items f1.variable (attributes_at out (first_place l kind.Assign ks) target).variable touched all.0.variable)
    (λ w out l. refl)

-- ---- procedure statements

-- a procedure statement whose name and arguments were gone through, given what its rule makes of them
pub walks-called : (b : Body) (g0 g1 g2 g3 : Going) (o : List (ℕ × ℕ)) (name list : Plain) (m : Named) (gs : List Argument) (r : Facts) → has class.Name name.kind ≡ true → list.kind ≡ kind.Args →
    g1.opened.items ≡ g0.opened.items → Begins g0.texts.items g1.texts.items → g1.touched.items ≡ g0.touched.items → NamedAt b g0 g1 name m → ResolveAs ShowsArgument b g1 g2 (kids_of list) gs →
    g3.opened.items ≡ g2.opened.items → g3.texts.items ≡ g2.texts.items → known b g2 ≡ known b g3 →
    ((w : List ℕ) (n a : Node) → n.at.word ≡ name.word → ShowsCall (known b g2) (tables b.types.now) m gs n a → ShowsNode (known b g2) r (with_kind kind.Proc w (procedure_rule n a))) →
    ((n a : Node) → n.at.word ≡ name.word → ShowsCall (known b g2) (tables b.types.now) m gs n a → Logs (known b g2) g2.touched.items g3.touched.items (procedure_touches n.at.found (kids_below a))) →
    WalksKind b g0 g3 o o kind.Proc (name ∷ list ∷ []) r
walks-called b g0 g1 g2 g3 o name list m gs r isn is o1 t1 same named row opened texts k made logged = record {
  found = λ w out l s sees stands index.
      let ks = name ∷ list ∷ [] in
      let l1 = first_place l kind.Proc ks in
      let n = node_at out l1 name in
      let a = node_at out (place_behind out l1 name) list in
      let isb = class-body class.Name name.kind refl isn in
      let call = called-at b g0 g1 g2 kind.Proc kind.Args name list m gs refl refl refl refl (λ l. refl) isb is (λ out l. args-hole out l list is) o1 t1 named row out l s sees stands in
      let word = at-word out l1 name in
      let own = logged n a word call in
      let logs : Logs (known b g2) g0.touched.items g3.touched.items (procedure_rule n a).touches =
      subst (Logs (known b g2) g0.touched.items g3.touched.items) (sym (procedure-touches n a))
      (Logs-then (known b g2) g0.touched.items g2.touched.items g3.touched.items (all_touches (n ∷ a ∷ [])) (procedure_touches n.at.found (kids_below a))
      (logs-kids b g0 g1 g2 name list kind.Proc refl refl isb o1 t1 row.texts (name-logs b g0 g1 name isn same) (args-logs ShowsArgument b g1 g2 list gs is row) out l s sees stands) own) in
      subst (λ (q : Known). Finds b g0 g3 o (procedure_rule n a).touches (ShowsNode q r (with_kind kind.Proc w (procedure_rule n a)))) k
      (record {
        shows = made w n a word call;
        touched = subst (λ (q : Known). Logs q g0.touched.items g3.touched.items (procedure_rule n a).touches) k logs;
        index = index-logs (known b g2) o g0 g3 (procedure_rule n a).touches index logs;
      });
  opened = opened ∙ row.opened ∙ o1;
  texts = Begins-then g0.texts.items g1.texts.items g3.texts.items t1 (subst (Begins g1.texts.items) (sym texts) row.texts);
}
