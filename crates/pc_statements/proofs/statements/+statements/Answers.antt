use Rattle.std.proofs.Common.{◌≡◌, ◌≤◌, ◌+◌, ◌++◌, true, [], ◌∷◌, Some, slice_get, take, map, length, option_map, refl, sym, subst, ap, ◌∙◌, arith, append-nil}
use Rattle.std.proofs.lemmas.List.{take_more, take_all}
use Rattle.std.proofs.lemmas.Option.{slice_get_read}
use Rattle.pc_syntax.specs.Plain.{Plain, kids_of}
use Rattle.pc_syntax.specs.PartsLaws.{size_of-kid}
use Rattle.pc_syntax.specs.WellFormed.{size_of}
use Rattle.pc_syntax.specs.Words.{lowered}
use Rattle.pc_names.specs.Numbers.{number_of}
use Rattle.pc_rules.specs.Variables.{variable_entries}
use Rattle.pc_sightings.specs.TouchedLog.{numbers_of}
use Rattle.pc_syntax.specs.declared.class.Class.TheVariants as class
use Rattle.pc_syntax.specs.declared.kind.Kind.TheVariants as kind
use Rattle.pc_syntax.specs.declared.sort.Sort.TheVariants as sort
use Rattle.pc_forms.specs.FormClasses.{Every}
use Rattle.pc_forms.specs.declared.form.Form.TheVariants as form
use Rattle.pc_environment.specs.Decorating.{place_behind}
use Rattle.pc_environment.specs.Sight.{is_body}
use Rattle.pc_facts.specs.Shows.{AllShow, ShowsArm}
use Rattle.pc_growth.specs.Grows.{Begins}
use Rattle.pc_growth.specs.GrowsLaws.{ShowsArm-grows}
use Rattle.pc_bodies.specs.BodyLaws.{class-body}
use Rattle.pc_bodies.specs.ListLaws.{take-body}
use Rattle.pc_bodies.specs.NodesAt.{node_at, first_place}
use Rattle.pc_bodies.specs.Resolved.{known, ShowsFacts}
use Rattle.pc_bodies.specs.SeesLaws.{begins-kept, classes-at}
use Rattle.pc_bodies.specs.WholeLaws.{kids-body}
use Rattle.pc_statements.specs.ListKinds.{stmts-kind, stmts-kid, accesses-kind, arms-kind, arms-kid, arm-size, hole-bare}
use Rattle.pc_statements.specs.ForLaws.{changed_since}
use Rattle.pc_statements.specs.StatementLaws.{walks-list}
use Rattle.pc_statements.specs.WithStatementLaws.{walks-with}
use Rattle.pc_statements.specs.ForStatementLaws.{walks-for}
use Rattle.pc_statements.specs.ArmLaws.{walks-arm, walks-arm-hole}
use Rattle.pc_statements.specs.CaseStatementLaws.{walks-case}
use Rattle.pc_statements.specs.Walked.{Walks, WalkAs, WalksRow}
use Rattle.pc_statements.specs.KindLaws.{kids_from, walks-form, walks-quiet}
use Rattle.pc_statements.specs.WalkLaws.{facts-stay, row-one, row-two, row-three, walk-more, walk-none, walks-of}
use Rattle.pc_statements.proofs.statements.+statements.Goals as goal

-- ---- walk

pub walk-returns-in-Empty : goal.walk-returns-in-Empty
walk-returns-in-Empty t c =
    let b = c.args.body.now in
    let g = c.args.going.now in
    let o = c.args.own.now in
    let found = c.plain.result in
    walks-form b g g o o c.args.node.now form.Empty kind.Empty [] found c.in-Empty.ensures.proper c.in-Empty.ensures.value refl refl
    (walks-quiet b g g o o kind.Empty [] [] found refl refl (walk-none ShowsFacts b g o) (λ w out l all. c.plain.ensures (known b g) w) (λ w out l. refl))

pub walk-returns-in-Hole : goal.walk-returns-in-Hole
walk-returns-in-Hole t c =
    let b = c.args.body.now in
    let g = c.args.going.now in
    let o = c.args.own.now in
    let found = c.hole.result in
    walks-form b g g o o c.args.node.now (form.Hole sort.Statement) (kind.Hole sort.Statement) [] found c.in-Hole.ensures.proper c.in-Hole.ensures.value refl refl
    (walks-quiet b g g o o (kind.Hole sort.Statement) [] [] found refl refl (walk-none ShowsFacts b g o) (λ w out l all. c.hole.ensures (known b g) w) (λ w out l. refl))

pub walk-assign-requires : goal.walk-assign-requires
walk-assign-requires t c =
    let f = form.Assign c.in-Assign.target c.in-Assign.value in
    record { block = c.requires; target = class-body class.Access c.in-Assign.target.kind refl (classes-at c.args.node.now f c.in-Assign.ensures.proper c.in-Assign.ensures.value).0 }

pub walk-returns-in_ok-found-in-Assign : goal.walk-returns-in_ok-found-in-Assign
walk-returns-in_ok-found-in-Assign t c =
    let target = c.in-Assign.target in
    let value = c.in-Assign.value in
    let o = c.args.own.now in
    walks-form c.args.body.now c.args.going.now c.assign.new.going o o c.args.node.now (form.Assign target value) kind.Assign (target ∷ value ∷ []) c.in_ok-found-in-Assign.found
    c.in-Assign.ensures.proper c.in-Assign.ensures.value refl refl (c.in_ok-found-in-Assign.ensures o)

pub walk-called-requires : goal.walk-called-requires
walk-called-requires t c =
    let classes = classes-at c.args.node.now (form.Proc c.in-Proc.name.now c.in-Proc.args.now) c.in-Proc.ensures.proper c.in-Proc.ensures.value in
    record { block = c.requires; name = classes.0; args = classes.1.0 }

pub walk-returns-in_ok-found-in-Proc : goal.walk-returns-in_ok-found-in-Proc
walk-returns-in_ok-found-in-Proc t c =
    let name = c.in-Proc.name.now in
    let args = c.in-Proc.args.now in
    let o = c.args.own.now in
    walks-form c.args.body.now c.args.going.now c.called.new.going o o c.args.node.now (form.Proc name args) kind.Proc (name ∷ args ∷ []) c.in_ok-found-in-Proc.found
    c.in-Proc.ensures.proper c.in-Proc.ensures.value refl refl (c.in_ok-found-in-Proc.ensures o)

pub walk-returns-in_ok-found-in-Compound : goal.walk-returns-in_ok-found-in-Compound
walk-returns-in_ok-found-in-Compound t c =
    let b = c.args.body.now in
    let g0 = c.args.going.now in
    let g1 = c.statements.new.going in
    let o0 = c.args.own.now in
    let o1 = c.statements.new.own in
    let stmts = c.in-Compound.stmts in
    let f1 = c.in_ok-stmts-in-Compound.stmts in
    let found = c.in_ok-found-in-Compound.found in
    let one : Walks b g0 g1 o0 o1 stmts f1 = subst (λ (q : Plain). Walks b g0 g1 o0 o1 q f1) c.tree.ensures.value c.in_ok-stmts-in-Compound.ensures in
    walks-form b g0 g1 o0 o1 c.args.node.now (form.Compound stmts) kind.Compound (stmts ∷ []) found c.in-Compound.ensures.proper c.in-Compound.ensures.value refl refl
    (walks-quiet b g0 g1 o0 o1 kind.Compound (stmts ∷ []) (f1 ∷ []) found refl refl (row-one b g0 g1 o0 o1 stmts f1 one)
    (λ w out l all.
    let ns = kids_from out l kind.Compound (stmts ∷ []) in
    c.in_ok-found-in-Compound.ensures (known b g1) w ns (subst (λ fs. AllShow (ShowsFacts (known b g1)) fs ns) (sym c.in_ok-kids-in-Compound.ensures) all))
    (λ w out l. sym (append-nil _)))

pub walk-returns-in_ok-found-in-If : goal.walk-returns-in_ok-found-in-If
walk-returns-in_ok-found-in-If t c =
    let b = c.args.body.now in
    let g0 = c.args.going.now in
    let g1 = c.expression.new.going in
    let g2 = c.walk.new.going in
    let o0 = c.args.own.now in
    let o1 = c.walk.new.own in
    let node = c.args.node.now in
    let test = c.in-If.test in
    let inner = c.in-If.inner in
    let ks = test ∷ inner ∷ [] in
    let f1 = c.in_ok-test-in-If.test in
    let f2 = c.in_ok-inner-in-If.inner in
    let found = c.in_ok-found-in-If.found in
    let proper = c.in-If.ensures.proper in
    let f = form.If test inner in
    let isb = class-body class.Expression test.kind refl (classes-at node f proper c.in-If.ensures.value).0 in
    walks-form b g0 g2 o0 o1 node f kind.If ks found proper c.in-If.ensures.value refl refl
    (walks-quiet b g0 g2 o0 o1 kind.If ks (f1 ∷ f2 ∷ []) found refl refl
    (row-two b g0 g1 g2 o0 o0 o1 test inner f1 f2 isb (walks-of ShowsFacts b g0 g1 o0 test f1 c.in_ok-test-in-If.ensures) c.in_ok-inner-in-If.ensures)
    (λ w out l all.
    let l1 = first_place l kind.If ks in
    let n = node_at out (place_behind out l1 test) inner in
    c.in_ok-found-in-If.ensures (known b g2) w (node_at out l1 test) (n ∷ []) refl all.0 (subst (λ fs. AllShow (ShowsFacts (known b g2)) fs (n ∷ [])) (sym c.in_ok-kids-in-If.ensures) all.1))
    (λ w out l. refl))

pub walk-returns-in_ok-found-in-While : goal.walk-returns-in_ok-found-in-While
walk-returns-in_ok-found-in-While t c =
    let b = c.args.body.now in
    let g0 = c.args.going.now in
    let g1 = c.expression-in-While.new.going in
    let g2 = c.walk-in-While.new.going in
    let o0 = c.args.own.now in
    let o1 = c.walk-in-While.new.own in
    let node = c.args.node.now in
    let test = c.in-While.test in
    let inner = c.in-While.inner in
    let ks = test ∷ inner ∷ [] in
    let f1 = c.in_ok-test-in-While.test in
    let f2 = c.in_ok-inner-in-While.inner in
    let found = c.in_ok-found-in-While.found in
    let proper = c.in-While.ensures.proper in
    let f = form.While test inner in
    let isb = class-body class.Expression test.kind refl (classes-at node f proper c.in-While.ensures.value).0 in
    walks-form b g0 g2 o0 o1 node f kind.While ks found proper c.in-While.ensures.value refl refl
    (walks-quiet b g0 g2 o0 o1 kind.While ks (f1 ∷ f2 ∷ []) found refl refl
    (row-two b g0 g1 g2 o0 o0 o1 test inner f1 f2 isb (walks-of ShowsFacts b g0 g1 o0 test f1 c.in_ok-test-in-While.ensures) c.in_ok-inner-in-While.ensures)
    (λ w out l all.
    let l1 = first_place l kind.While ks in
    let n = node_at out (place_behind out l1 test) inner in
    c.in_ok-found-in-While.ensures (known b g2) w (node_at out l1 test) (n ∷ []) refl all.0 (subst (λ fs. AllShow (ShowsFacts (known b g2)) fs (n ∷ [])) (sym c.in_ok-kids-in-While.ensures) all.1))
    (λ w out l. refl))

pub walk-returns-in_ok-found-in-Ifelse : goal.walk-returns-in_ok-found-in-Ifelse
walk-returns-in_ok-found-in-Ifelse t c =
    let b = c.args.body.now in
    let g0 = c.args.going.now in
    let g1 = c.expression-in-Ifelse.new.going in
    let g2 = c.walk-in-Ifelse.new.going in
    let g3 = c.walk-in-Ifelse-2.new.going in
    let o0 = c.args.own.now in
    let o1 = c.walk-in-Ifelse.new.own in
    let o2 = c.walk-in-Ifelse-2.new.own in
    let node = c.args.node.now in
    let test = c.in-Ifelse.test in
    let inner = c.in-Ifelse.inner in
    let otherwise = c.in-Ifelse.otherwise in
    let ks = test ∷ inner ∷ otherwise ∷ [] in
    let f1 = c.in_ok-test-in-Ifelse.test in
    let f2 = c.in_ok-inner-in-Ifelse.inner in
    let f3 = c.in_ok-otherwise-in-Ifelse.otherwise in
    let found = c.in_ok-found-in-Ifelse.found in
    let proper = c.in-Ifelse.ensures.proper in
    let f = form.Ifelse test inner otherwise in
    let classes = classes-at node f proper c.in-Ifelse.ensures.value in
    let k = known b g3 in
    walks-form b g0 g3 o0 o2 node f kind.Ifelse ks found proper c.in-Ifelse.ensures.value refl refl
    (walks-quiet b g0 g3 o0 o2 kind.Ifelse ks (f1 ∷ f2 ∷ f3 ∷ []) found refl refl
    (row-three b g0 g1 g2 g3 o0 o0 o1 o2 test inner otherwise f1 f2 f3 (class-body class.Expression test.kind refl classes.0) (class-body class.Statement inner.kind refl classes.1.0)
    (walks-of ShowsFacts b g0 g1 o0 test f1 c.in_ok-test-in-Ifelse.ensures) c.in_ok-inner-in-Ifelse.ensures c.in_ok-otherwise-in-Ifelse.ensures)
    (λ w out l all.
    let l1 = first_place l kind.Ifelse ks in
    let l2 = place_behind out l1 test in
    let ns = node_at out l2 inner ∷ node_at out (place_behind out l2 inner) otherwise ∷ [] in
    c.in_ok-found-in-Ifelse.ensures k w (node_at out l1 test) ns refl all.0 (subst (λ fs. AllShow (ShowsFacts k) fs ns) (sym c.in_ok-kids-in-Ifelse.ensures) all.1))
    (λ w out l. refl))

pub walk-returns-in_ok-found-in-Repeat : goal.walk-returns-in_ok-found-in-Repeat
walk-returns-in_ok-found-in-Repeat t c =
    let b = c.args.body.now in
    let g0 = c.args.going.now in
    let g1 = c.statements-in-Repeat.new.going in
    let g2 = c.expression-in-Repeat.new.going in
    let o0 = c.args.own.now in
    let o1 = c.statements-in-Repeat.new.own in
    let node = c.args.node.now in
    let stmts = c.in-Repeat.stmts in
    let test = c.in-Repeat.test in
    let ks = stmts ∷ test ∷ [] in
    let f1 = c.in_ok-stmts-in-Repeat.stmts in
    let f2 = c.in_ok-test-in-Repeat.test in
    let found = c.in_ok-found-in-Repeat.found in
    let proper = c.in-Repeat.ensures.proper in
    let f = form.Repeat stmts test in
    let isb = class-body class.Stmts stmts.kind refl (classes-at node f proper c.in-Repeat.ensures.value).0 in
    let one : Walks b g0 g1 o0 o1 stmts f1 = subst (λ (q : Plain). Walks b g0 g1 o0 o1 q f1) c.tree-in-Repeat.ensures.value c.in_ok-stmts-in-Repeat.ensures in
    walks-form b g0 g2 o0 o1 node f kind.Repeat ks found proper c.in-Repeat.ensures.value refl refl
    (walks-quiet b g0 g2 o0 o1 kind.Repeat ks (f1 ∷ f2 ∷ []) found refl refl (row-two b g0 g1 g2 o0 o1 o1 stmts test f1 f2 isb one (walks-of ShowsFacts b g1 g2 o1 test f2 c.in_ok-test-in-Repeat.ensures))
    (λ w out l all.
    let l1 = first_place l kind.Repeat ks in
    c.in_ok-found-in-Repeat.ensures (known b g2) w (node_at out l1 stmts) (node_at out (place_behind out l1 stmts) test) refl all.0 all.1.0)
    (λ w out l. refl))

pub walk-returns-in_ok-found-in-For : goal.walk-returns-in_ok-found-in-For
walk-returns-in_ok-found-in-For t c =
    let control = c.in-For.control.now in
    let first = c.in-For.first in
    let last = c.in-For.last in
    let inner = c.in-For.inner in
    walks-form c.args.body.now c.args.going.now c.counted.new.going c.args.own.now c.counted.new.own c.args.node.now (form.For control first _ last inner) kind.For (control ∷ first ∷ last ∷ inner ∷ []) c.in_ok-found-in-For.found
    c.in-For.ensures.proper c.in-For.ensures.value refl refl c.in_ok-found-in-For.ensures

pub walk-returns-in_ok-found-in-With : goal.walk-returns-in_ok-found-in-With
walk-returns-in_ok-found-in-With t c =
    let records = c.in-With.records.now in
    let inner = c.in-With.inner in
    walks-form c.args.body.now c.args.going.now c.with.new.going c.args.own.now c.with.new.own c.args.node.now (form.With records inner) kind.With (records ∷ inner ∷ []) c.in_ok-found-in-With.found
    c.in-With.ensures.proper c.in-With.ensures.value refl refl c.in_ok-found-in-With.ensures

pub walk-returns-in_ok-found-in-Case : goal.walk-returns-in_ok-found-in-Case
walk-returns-in_ok-found-in-Case t c =
    let selector = c.in-Case.selector in
    let arms = c.in-Case.arms.now in
    walks-form c.args.body.now c.args.going.now c.cased.new.going c.args.own.now c.cased.new.own c.args.node.now (form.Case selector arms) kind.Case (selector ∷ arms ∷ []) c.in_ok-found-in-Case.found
    c.in-Case.ensures.proper c.in-Case.ensures.value refl refl c.in_ok-found-in-Case.ensures

pub walk-counted-requires : goal.walk-counted-requires
walk-counted-requires t c =
    let classes = classes-at c.args.node.now (form.For c.in-For.control.now c.in-For.first _ c.in-For.last c.in-For.inner) c.in-For.ensures.proper c.in-For.ensures.value in
    (omega (arith, c.in-For.ensures.size, c.decreases), (c.requires, (classes.0, (class-body class.Expression c.in-For.first.kind refl classes.1.0, class-body class.Expression c.in-For.last.kind refl classes.1.1.0))))

pub walk-with-requires : goal.walk-with-requires
walk-with-requires t c =
    let classes = classes-at c.args.node.now (form.With c.in-With.records.now c.in-With.inner) c.in-With.ensures.proper c.in-With.ensures.value in
    (omega (arith, c.in-With.ensures.size, c.decreases), (c.requires, (classes.0, class-body class.Statement c.in-With.inner.kind refl classes.1.0)))

pub walk-cased-requires : goal.walk-cased-requires
walk-cased-requires t c =
    let classes = classes-at c.args.node.now (form.Case c.in-Case.selector c.in-Case.arms.now) c.in-Case.ensures.proper c.in-Case.ensures.value in
    (omega (arith, c.in-Case.ensures.size, c.decreases), (c.requires, (class-body class.Expression c.in-Case.selector.kind refl classes.0, classes.1.0)))

-- ---- lists of statements

pub statements-walk-requires : goal.statements-walk-requires
statements-walk-requires t c =
    let d : size_of c.kid-item.result + 1 ≤ size_of c.args.list.now =
    size_of-kid c.args.list.now c.loop-kid.kid-index c.kid-item.result (rw c.kid_slice-kid-items.ensures.value at c.loop-kid-test.true) (rw c.kid_slice-kid-items.ensures.value at (sym c.kid-item.is)) in
    (omega (arith, d, c.decreases, ap size_of c.new.ensures), c.requires.block)

pub statements-new-requires : goal.statements-new-requires
statements-new-requires t c =
    let at : slice_get (kids_of c.args.list.now) c.loop-kid.kid-index ≡ Some c.kid-item.result =
    subst (λ ks. slice_get ks c.loop-kid.kid-index ≡ Some c.kid-item.result) c.kid_slice-kid-items.ensures.value
    (slice_get_read c.kid_slice-kid-items.result.now _ c.loop-kid.kid-index c.kid-item.result refl c.loop-kid-test.true c.kid-item.is) in
    stmts-kid c.args.list.now c.kid-item.result c.loop-kid.kid-index c.kid_slice-kid-items.ensures.proper (stmts-kind c.args.list.now.kind c.requires.list) at

pub statements-loop-kid-init : goal.statements-loop-kid-init
statements-loop-kid-init t c =
    subst (λ fs. WalksRow c.args.body.now c.args.going.now c.args.going.now c.args.own.now c.args.own.now [] fs) (sym c.new-kids.ensures.items) (walk-none ShowsFacts c.args.body.now c.args.going.now c.args.own.now)

pub statements-loop-kid-preserved : goal.statements-loop-kid-preserved
statements-loop-kid-preserved t c =
    let b = c.args.body.now in
    let kids = c.kid_slice-kid-items.result.now in
    let i = c.loop-kid.kid-index in
    let list = c.args.list.now in
    let g0 = c.args.going.now in
    let g1 = c.loop-kid.going in
    let g2 = c.walk.new.going in
    let o0 = c.args.own.now in
    let o1 = c.loop-kid.own in
    let o2 = c.walk.new.own in
    let kid = c.kid-item.result in
    let f = c.in_ok-one.one in
    let bodies = take-body i kids (subst (λ ks. Every (λ u. is_body u.kind ≡ true) ks) (sym c.kid_slice-kid-items.ensures.value)
    (kids-body list c.kid_slice-kid-items.ensures.proper (class-body class.Stmts list.kind refl c.requires.list))) in
    let one : Walks b g1 g2 o1 o2 kid f = subst (λ (q : Plain). Walks b g1 g2 o1 o2 q f) c.new.ensures c.in_ok-one.ensures in
    let more = walk-more ShowsFacts facts-stay b g0 g1 g2 o0 o1 o2 (take i kids) kid c.loop-kid.kids.items f bodies c.loop-kid.invariant one in
    let taken : take (i + 1) kids ≡ take i kids ++ kid ∷ [] = take_more kids i kid c.loop-kid-test.true ∙ ap (λ k. take i kids ++ k ∷ []) (sym c.kid-item.is) in
    subst (λ ts. WalksRow b g0 g2 o0 o2 ts c.push.new.self.items) (sym taken) (subst (λ xs. WalksRow b g0 g2 o0 o2 (take i kids ++ kid ∷ []) xs) (sym c.in_ok-push.ensures.items) more)

pub statements-returns : goal.statements-returns
statements-returns t c =
    let list = c.args.list.now in
    let ks = c.kid_slice-kid-items.result.now in
    let n = c.loop-kid.kid-index in
    let all : take n ks ≡ kids_of list = take_all n ks c.loop-kid-test.false ∙ c.kid_slice-kid-items.ensures.value in
    walks-list c.args.body.now c.args.going.now c.loop-kid.going c.args.own.now c.loop-kid.own list c.loop-kid.kids.items c.in_ok-found.found (stmts-kind list.kind c.requires.list)
    (subst (λ ts. WalksRow c.args.body.now c.args.going.now c.loop-kid.going c.args.own.now c.loop-kid.own ts c.loop-kid.kids.items) all c.loop-kid.invariant) c.in_ok-found.ensures

-- ---- with

pub with-returns : goal.with-returns
with-returns t c =
    let b = c.args.body.now in
    let outer : c.len-outer.result ≡ length c.args.going.now.opened.items = omega (arith, c.len-outer.ensures, c.args.going.now.opened.ok.0) in
    let records = c.args.records.now in
    let inner = c.args.inner.now in
    walks-with b c.args.going.now c.accesses.new.going c.walk.new.going _ c.args.own.now c.walk.new.own records inner c.in_ok-opening.opening c.finish-records.result c.in_ok-inner.inner c.in_ok-found.found
    (accesses-kind records.kind c.requires.list) c.requires.inner c.in_ok-opening.ensures c.finish-records.ensures c.in_ok-inner.ensures c.in_ok-found.ensures
    (c.truncate.ensures.items ∙ ap (λ n. take n c.walk.new.going.opened.items) outer) refl refl

-- ---- for

pub counted-returns : goal.counted-returns
counted-returns t c =
    let b = c.args.body.now in
    let g0 = c.args.going.now in
    let g1 = c.used_name.new.going in
    let g2 = c.expression.new.going in
    let g3 = c.expression-2.new.going in
    let g4 = c.walk.new.going in
    let control = c.args.control.now in
    let named = c.in_ok-named.ensures in
    let k = known b g4 in
    let mark : c.len-mark.result ≡ length g3.touched.items = omega (arith, c.len-mark.ensures, g3.touched.ok.0) in
    walks-for b g0 g1 g2 g3 g4 _ c.args.own.now c.walk.new.own c.catch_up.new.own control c.args.first.now c.args.last.now c.args.inner.now c.in_ok-named.named c.in_ok-first.first c.in_ok-last.last c.in_ok-inner.inner c.in_ok-found.found
    c.variable_of.result (option_map (λ i. i.0) c.in_ok-name.name) c.is_changed_inside-inside.result c.is_changed_since-by_body.result
    (record {
      is_control = c.requires.name;
      is_first = c.requires.first;
      is_last = c.requires.last;
      opened = ap (λ v. v.items) named.opened;
      texts = begins-kept g0.texts.items g1.texts.items (ap (λ v. v.items) named.texts);
      touched = ap (λ v. v.items) named.touched;
      named = λ out l s sees using stands. named.shows out l s c.requires.name sees.sight using stands;
      at_first = c.in_ok-first.ensures;
      at_last = c.in_ok-last.ensures;
      at_body = c.in_ok-inner.ensures;
      caught = λ index. c.in_ok-catch_up.ensures (subst (λ vs. Begins c.walk.new.own (map numbers_of vs)) (sym c.as_slice.ensures.value) index) ∙ ap (map numbers_of) c.as_slice.ensures.value;
      number = ap (λ w. number_of b.names.now.texts (lowered w)) (sym c.word-2.ensures) ∙ c.in_ok-name.ensures;
      changed_inside = c.is_changed_inside-inside.ensures;
      changed_by_body = c.is_changed_since-by_body.ensures ∙ ap (λ n. changed_since n c.catch_up.new.own b.owner.0 (option_map (λ i. i.0) c.in_ok-name.name)) mark;
      variable = c.variable_of.ensures;
      opened_behind = refl;
      texts_behind = refl;
      touched_behind = c.in_ok-add_variable.ensures;
      known_behind = refl;
    })
    (λ w l m n o p word shown inside by owner one two three.
    c.in_ok-found.ensures k w l m n o p refl (c.word-3.ensures ∙ sym word) shown inside
    (c.in_ok-add_variable_entries.ensures k m shown (word ∙ sym c.word.ensures) ∙ ap (λ es. es ++ variable_entries m) c.new-entries.ensures.items) by owner one two three)

-- ---- case

pub cased-returns : goal.cased-returns
cased-returns t c =
    let b = c.args.body.now in
    let g2 = c.arms_of.new.going in
    let selector = c.args.selector.now in
    let list = c.args.list.now in
    walks-case b c.args.going.now c.expression.new.going g2 c.args.own.now c.arms_of.new.own selector list c.in_ok-selector.selector c.in_ok-at.at c.in_ok-found.found c.in_ok-arms.arms.items c.in_ok-kids.labels.items c.in_ok-kids.kids.items
    c.requires.selector (arms-kind list.kind c.requires.list) c.in_ok-selector.ensures c.in_ok-arms.ensures c.in_ok-kids.ensures.kids c.in_ok-kids.ensures.labels c.in_ok-at.ensures
    (λ w m n one labels two. c.in_ok-found.ensures (known b g2) w m n refl (sym c.as_slice.ensures.value) one labels two)

pub arms_of-arm-requires : goal.arms_of-arm-requires
arms_of-arm-requires t c =
    let d : size_of c.kid-item.result + 1 ≤ size_of c.args.list.now =
    size_of-kid c.args.list.now c.loop-kid.kid-index c.kid-item.result (rw c.kid_slice-kid-items.ensures.value at c.loop-kid-test.true) (rw c.kid_slice-kid-items.ensures.value at (sym c.kid-item.is)) in
    let at : slice_get (kids_of c.args.list.now) c.loop-kid.kid-index ≡ Some c.kid-item.result =
    subst (λ ks. slice_get ks c.loop-kid.kid-index ≡ Some c.kid-item.result) c.kid_slice-kid-items.ensures.value
    (slice_get_read c.kid_slice-kid-items.result.now _ c.loop-kid.kid-index c.kid-item.result refl c.loop-kid-test.true c.kid-item.is) in
    (omega (arith, d, c.decreases), (c.requires.block, arms-kid c.args.list.now c.kid-item.result c.loop-kid.kid-index c.kid_slice-kid-items.ensures.proper (arms-kind c.args.list.now.kind c.requires.list) at))

pub arms_of-loop-kid-init : goal.arms_of-loop-kid-init
arms_of-loop-kid-init t c =
    subst (λ fs. WalkAs ShowsArm c.args.body.now c.args.going.now c.args.going.now c.args.own.now c.args.own.now [] fs) (sym c.new-found.ensures.items) (walk-none ShowsArm c.args.body.now c.args.going.now c.args.own.now)

pub arms_of-loop-kid-preserved : goal.arms_of-loop-kid-preserved
arms_of-loop-kid-preserved t c =
    let b = c.args.body.now in
    let kids = c.kid_slice-kid-items.result.now in
    let i = c.loop-kid.kid-index in
    let list = c.args.list.now in
    let g0 = c.args.going.now in
    let g2 = c.arm.new.going in
    let o0 = c.args.own.now in
    let o2 = c.arm.new.own in
    let kid = c.kid-item.result in
    let bodies = take-body i kids (subst (λ ks. Every (λ u. is_body u.kind ≡ true) ks) (sym c.kid_slice-kid-items.ensures.value)
    (kids-body list c.kid_slice-kid-items.ensures.proper (class-body class.Arms list.kind refl c.requires.list))) in
    let more = walk-more ShowsArm ShowsArm-grows b g0 c.loop-kid.going g2 o0 c.loop-kid.own o2 (take i kids) kid c.loop-kid.found.items c.in_ok-one.one bodies c.loop-kid.invariant c.in_ok-one.ensures in
    let taken : take (i + 1) kids ≡ take i kids ++ kid ∷ [] = take_more kids i kid c.loop-kid-test.true ∙ ap (λ k. take i kids ++ k ∷ []) (sym c.kid-item.is) in
    subst (λ ts. WalkAs ShowsArm b g0 g2 o0 o2 ts c.push.new.self.items) (sym taken) (subst (λ xs. WalkAs ShowsArm b g0 g2 o0 o2 (take i kids ++ kid ∷ []) xs) (sym c.in_ok-push.ensures.items) more)

pub arms_of-returns : goal.arms_of-returns
arms_of-returns t c =
    let list = c.args.list.now in
    let ks = c.kid_slice-kid-items.result.now in
    let n = c.loop-kid.kid-index in
    let all : take n ks ≡ kids_of list = take_all n ks c.loop-kid-test.false ∙ c.kid_slice-kid-items.ensures.value in
    subst (λ ts. WalkAs ShowsArm c.args.body.now c.args.going.now c.loop-kid.going c.args.own.now c.loop-kid.own ts c.loop-kid.found.items) all c.loop-kid.invariant

pub arm-labels_of-requires : goal.arm-labels_of-requires
arm-labels_of-requires t c =
    record { block = c.requires.block; list = (classes-at c.args.node.now (form.Arm c.arm_parts-inner.result.0.now c.arm_parts-inner.result.1) c.kind.ensures.proper c.arm_parts-inner.ensures).0 }

pub arm-walk-requires : goal.arm-walk-requires
arm-walk-requires t c =
    let size = arm-size c.args.node.now c.arm_parts-inner.result.0.now c.arm_parts-inner.result.1 c.kind.ensures.proper c.arm_parts-inner.ensures in
    (omega (arith, size, c.decreases), c.requires.block)

pub arm-returns-in_ok-at-in-Arm : goal.arm-returns-in_ok-at-in-Arm
arm-returns-in_ok-at-in-Arm t c =
    walks-arm c.args.body.now c.args.going.now c.labels_of.new.going c.walk.new.going c.args.own.now c.walk.new.own c.args.node.now c.arm_parts-inner.result.0.now c.arm_parts-inner.result.1 c.in_ok-labels-in-Arm.labels c.in_ok-inner-in-Arm.inner _
    c.kind.ensures.proper c.arm_parts-inner.ensures c.in_ok-labels-in-Arm.ensures c.in_ok-inner-in-Arm.ensures refl c.in_ok-at-in-Arm.ensures

pub arm-returns-in-Hole : goal.arm-returns-in-Hole
arm-returns-in-Hole t c =
    let node = c.args.node.now in
    let is = sym c.kind.ensures.value ∙ c.in-Hole.is in
    walks-arm-hole c.args.body.now c.args.going.now c.args.own.now node c.in-Hole.sort _ is (hole-bare node c.in-Hole.sort c.kind.ensures.proper is) c.new.ensures.items (λ k w. c.hole.ensures k w)
