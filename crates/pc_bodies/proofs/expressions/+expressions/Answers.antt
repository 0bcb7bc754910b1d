use Rattle.std.proofs.Common.{◌≡◌, ◌≤◌, ◌+◌, ◌++◌, true, [], ◌∷◌, Some, List, option_copied, slice_get, take, refl, sym, subst, ap, ◌∙◌, arith}
use Rattle.pc_syntax.specs.WellFormed.{size_of}
use Rattle.pc_syntax.specs.PartsLaws.{size_of-kid}
use Rattle.pc_forms.specs.FormClasses.{Every}
use Rattle.pc_syntax.specs.Plain.{Plain, kids_of}
use Rattle.std.proofs.lemmas.List.{take_more}
use Rattle.std.proofs.lemmas.Option.{slice_get_read}
use Rattle.pc_rules.specs.Attributes.{Node, kids_below}
use Rattle.pc_environment.specs.RowLaws.{sees-behind}
use Rattle.pc_environment.specs.Sight.{Sight, is_body}
use Rattle.pc_access_rules.specs.Selves.{ShowsSelf}
use Rattle.pc_syntax.specs.declared.class.Class.TheVariants as class
use Rattle.pc_syntax.specs.declared.kind.Kind.TheVariants as kind
use Rattle.pc_syntax.specs.declared.sort.Sort.TheVariants as sort
use Rattle.pc_forms.specs.declared.form.Form.TheVariants as form
use Rattle.pc_rules.specs.Operators as rule
use Rattle.pc_rules.specs.Operators.{binary_rule, number_expression, text_expression}
use Rattle.pc_rules.specs.Decorated.{with_kind}
use Rattle.pc_environment.specs.Decorating.{place_behind}
use Rattle.pc_facts.specs.Shows.{ShowsNode, ShowsName, ShowsArgument, AllShow}
use Rattle.pc_syntax.specs.Sorts as sorts
use Rattle.pc_bodies.specs.AtFormLaws.{mul-word, add-word, rel-word, number-word, text-word}
use Rattle.pc_bodies.specs.NodesAt.{node_at, first_place}
use Rattle.pc_bodies.specs.BodyLaws.{class-body}
use Rattle.pc_bodies.specs.CallLaws.{call-touches, called-at}
use Rattle.pc_bodies.specs.DeclarationLaws.{ShowsSelf-grows}
use Rattle.pc_facts.specs.declared.facts.Argument.{Argument}
use Rattle.pc_facts.specs.declared.facts.Facts.{Facts}
use Rattle.pc_facts.specs.declared.facts.Member.{Member}
use Rattle.pc_bodies.specs.Resolved.{known, ShowsFacts, ResolvesAs, ResolveAs}
use Rattle.pc_call_rules.specs.Calls.{call_touches}
use Rattle.pc_call_rules.specs.Parameters.{Logs, ShowsRoutine}
use Rattle.pc_growth.specs.GrowsLaws.{Begins-same, Begins-then, ShowsNode-grows, ShowsArgument-grows, Logs-then}
use Rattle.pc_types.specs.declared.operand.Operand.{Operand}
use Rattle.pc_rules.specs.Arguments.{function_signature}
use Rattle.pc_rules.specs.HandedOn.{all_touches}
use Rattle.pc_bodies.specs.RowsLaws.{row-more, kids-of-kind, at-word, at-kind, exprs-hole, members-hole, exprs-logs, members-logs, name-logs}
use Rattle.pc_syntax.specs.Words.{lowered}
use Rattle.pc_forms.specs.Form.{form_of}
use Rattle.pc_name_rules.specs.Uses.{used_entries}
use Rattle.pc_name_rules.specs.declared.allowed.Allowed.TheVariants as allowed
use Rattle.pc_bodies.specs.ArgumentLaws.{expression-argument, width-size, shows-width, shows-reference, shows-plain}
use Rattle.pc_bodies.specs.Held.{ShowsHeld}
use Rattle.pc_bodies.specs.MemberLaws.{members-kind, members-kid, span-size, shows-span, shows-value, ShowsHeld-grows, all-held}
use Rattle.pc_bodies.specs.ListLaws.{exprs-kind, exprs-kid, field-hole, take-body}
use Rattle.pc_bodies.specs.WholeLaws.{kids-body}
use Rattle.pc_bodies.specs.LeadLaws.{leads-at}
use Rattle.pc_bodies.specs.SeesLaws.{classes-at, proper-kid, known-grows, begins-kept, stands-kept, sees-first, logs-kept, logs-kid, logs-kids, shows-form, shows-none, shows-one, shows-two}
use Rattle.pc_bodies.proofs.expressions.+expressions.Goals as goal

pub expression-returns-in_ok-found-in-Number : goal.expression-returns-in_ok-found-in-Number
expression-returns-in_ok-found-in-Number t c =
    let k = known c.args.body.now c.args.going.now in
    let node = c.args.node.now in
    let found = c.in_ok-found-in-Number.found in
    let word = c.in-Number.word.now in
    shows-none c.args.body.now c.args.going.now node (form.Number word) found c.in-Number.ensures.proper c.in-Number.ensures.value
    (λ out l. subst (λ w. ShowsNode k found (with_kind kind.Number node.word (number_expression w))) (sym (number-word node word c.in-Number.ensures.value)) (c.in_ok-found-in-Number.ensures k node.word refl)) (λ out l. refl)

pub expression-returns-in_ok-found-in-Text : goal.expression-returns-in_ok-found-in-Text
expression-returns-in_ok-found-in-Text t c =
    let k = known c.args.body.now c.args.going.now in
    let node = c.args.node.now in
    let found = c.in_ok-found-in-Text.found in
    let word = c.in-Text.word.now in
    shows-none c.args.body.now c.args.going.now node (form.Text word) found c.in-Text.ensures.proper c.in-Text.ensures.value
    (λ out l. subst (λ w. ShowsNode k found (with_kind kind.Text node.word (text_expression w))) (sym (text-word node word c.in-Text.ensures.value)) (c.in_ok-found-in-Text.ensures k node.word refl)) (λ out l. refl)

pub expression-returns-in-Nil : goal.expression-returns-in-Nil
expression-returns-in-Nil t c =
    let k = known c.args.body.now c.args.going.now in
    let node = c.args.node.now in
    shows-none c.args.body.now c.args.going.now node form.Nil c.nil.result c.in-Nil.ensures.proper c.in-Nil.ensures.value (λ out l. c.nil.ensures k node.word refl) (λ out l. refl)

pub expression-returns-in-Hole : goal.expression-returns-in-Hole
expression-returns-in-Hole t c =
    let k = known c.args.body.now c.args.going.now in
    let node = c.args.node.now in
    shows-none c.args.body.now c.args.going.now node (form.Hole sort.Expression) c.hole.result c.in-Hole.ensures.proper c.in-Hole.ensures.value (λ out l. c.hole.ensures k node.word) (λ out l. refl)

pub expression-returns-in_ok-found-in-Parens : goal.expression-returns-in_ok-found-in-Parens
expression-returns-in_ok-found-in-Parens t c =
    let new = c.expression-in-Parens.new.going in
    let node = c.args.node.now in
    let kid = c.in-Parens.inner in
    shows-one c.args.body.now c.args.going.now new node kid (form.Parens c.in-Parens.inner) kind.Parens c.in_ok-inner-in-Parens.inner c.in_ok-found-in-Parens.found c.in-Parens.ensures.proper c.in-Parens.ensures.value refl refl refl refl
    c.in_ok-inner-in-Parens.ensures
    (λ out l h. c.in_ok-found-in-Parens.ensures (known c.args.body.now new) node.word (node_at out (first_place l kind.Parens (kid ∷ [])) kid) h)
    (λ out l. refl)

pub expression-returns-in_ok-found-in-Not : goal.expression-returns-in_ok-found-in-Not
expression-returns-in_ok-found-in-Not t c =
    let new = c.expression-in-Not.new.going in
    let node = c.args.node.now in
    let kid = c.in-Not.operand in
    shows-one c.args.body.now c.args.going.now new node kid (form.Not c.in-Not.operand) kind.Not c.in_ok-operand-in-Not.operand c.in_ok-found-in-Not.found c.in-Not.ensures.proper c.in-Not.ensures.value refl refl refl refl
    c.in_ok-operand-in-Not.ensures
    (λ out l h. c.in_ok-found-in-Not.ensures (known c.args.body.now new) node.word (node_at out (first_place l kind.Not (kid ∷ [])) kid) refl h)
    (λ out l. refl)

pub expression-returns-in_ok-found-in-Sign : goal.expression-returns-in_ok-found-in-Sign
expression-returns-in_ok-found-in-Sign t c =
    let new = c.expression-in-Sign.new.going in
    let node = c.args.node.now in
    let kid = c.in-Sign.operand in
    shows-one c.args.body.now c.args.going.now new node kid (form.Sign c.in-Sign.sign c.in-Sign.operand) kind.Sign c.in_ok-operand-in-Sign.operand c.in_ok-found-in-Sign.found c.in-Sign.ensures.proper c.in-Sign.ensures.value refl refl refl refl
    c.in_ok-operand-in-Sign.ensures
    (λ out l h. c.in_ok-found-in-Sign.ensures (known c.args.body.now new) node.word (node_at out (first_place l kind.Sign (kid ∷ [])) kid) refl h)
    (λ out l. refl)

pub expression-returns-in_ok-found-in-Mul : goal.expression-returns-in_ok-found-in-Mul
expression-returns-in_ok-found-in-Mul t c =
    let b = c.args.body.now in
    let new = c.expression-in-Mul-2.new.going in
    let node = c.args.node.now in
    let left = c.in-Mul.left in
    let right = c.in-Mul.right in
    let o = c.in-Mul.operator in
    let found = c.in_ok-found-in-Mul.found in
    let f = form.Mul left o right in
    shows-two b c.args.going.now c.expression-in-Mul.new.going new node left right f kind.Mul c.in_ok-left-in-Mul.left c.in_ok-right-in-Mul.right found c.in-Mul.ensures.proper c.in-Mul.ensures.value refl refl refl refl
    (class-body class.Term left.kind refl (classes-at node f c.in-Mul.ensures.proper c.in-Mul.ensures.value).0)
    c.in_ok-left-in-Mul.ensures c.in_ok-right-in-Mul.ensures
    (λ out l h i.
    let l1 = first_place l kind.Mul (left ∷ right ∷ []) in
    let p = node_at out l1 left in
    let q = node_at out (place_behind out l1 left) right in
    subst (λ op. ShowsNode (known b new) found (with_kind kind.Mul node.word (binary_rule (rule.multiplied op) p q))) (sym (mul-word node left right o c.in-Mul.ensures.value))
    (c.in_ok-found-in-Mul.ensures (known b new) node.word p q refl h i))
    (λ out l. refl)

pub expression-returns-in_ok-found-in-Add : goal.expression-returns-in_ok-found-in-Add
expression-returns-in_ok-found-in-Add t c =
    let b = c.args.body.now in
    let new = c.expression-in-Add-2.new.going in
    let node = c.args.node.now in
    let left = c.in-Add.left in
    let right = c.in-Add.right in
    let o = c.in-Add.operator in
    let found = c.in_ok-found-in-Add.found in
    let f = form.Add left o right in
    shows-two b c.args.going.now c.expression-in-Add.new.going new node left right f kind.Add c.in_ok-left-in-Add.left c.in_ok-right-in-Add.right found c.in-Add.ensures.proper c.in-Add.ensures.value refl refl refl refl
    (class-body class.Simple left.kind refl (classes-at node f c.in-Add.ensures.proper c.in-Add.ensures.value).0)
    c.in_ok-left-in-Add.ensures c.in_ok-right-in-Add.ensures
    (λ out l h i.
    let l1 = first_place l kind.Add (left ∷ right ∷ []) in
    let p = node_at out l1 left in
    let q = node_at out (place_behind out l1 left) right in
    subst (λ op. ShowsNode (known b new) found (with_kind kind.Add node.word (binary_rule (rule.added op) p q))) (sym (add-word node left right o c.in-Add.ensures.value))
    (c.in_ok-found-in-Add.ensures (known b new) node.word p q refl h i))
    (λ out l. refl)

pub expression-returns-in_ok-found-in-Rel : goal.expression-returns-in_ok-found-in-Rel
expression-returns-in_ok-found-in-Rel t c =
    let b = c.args.body.now in
    let new = c.expression-in-Rel-2.new.going in
    let node = c.args.node.now in
    let left = c.in-Rel.left in
    let right = c.in-Rel.right in
    let o = c.in-Rel.operator in
    let found = c.in_ok-found-in-Rel.found in
    let f = form.Rel left o right in
    shows-two b c.args.going.now c.expression-in-Rel.new.going new node left right f kind.Rel c.in_ok-left-in-Rel.left c.in_ok-right-in-Rel.right found c.in-Rel.ensures.proper c.in-Rel.ensures.value refl refl refl refl
    (class-body class.Simple left.kind refl (classes-at node f c.in-Rel.ensures.proper c.in-Rel.ensures.value).0)
    c.in_ok-left-in-Rel.ensures c.in_ok-right-in-Rel.ensures
    (λ out l h i.
    let l1 = first_place l kind.Rel (left ∷ right ∷ []) in
    let p = node_at out l1 left in
    let q = node_at out (place_behind out l1 left) right in
    subst (λ op. ShowsNode (known b new) found (with_kind kind.Rel node.word (binary_rule (rule.compared op) p q))) (sym (rel-word node left right o c.in-Rel.ensures.value))
    (c.in_ok-found-in-Rel.ensures (known b new) node.word p q refl h i))
    (λ out l. refl)

pub expression-expressions-requires : goal.expression-expressions-requires
expression-expressions-requires t c =
    let node = c.args.node.now in
    let f = form.Index c.in-Index.array c.in-Index.indexes.now in
    (omega (arith, c.in-Index.ensures.size, c.decreases), (c.requires, (classes-at node f c.in-Index.ensures.proper c.in-Index.ensures.value).1.0))

pub expression-returns-in_ok-found-in-Ref : goal.expression-returns-in_ok-found-in-Ref
expression-returns-in_ok-found-in-Ref t c =
    let b = c.args.body.now in
    let g0 = c.args.going.now in
    let g1 = c.used_name.new.going in
    let node = c.args.node.now in
    let name = c.in-Ref.name.now in
    let f = form.Ref name in
    let named = c.in_ok-named-in-Ref in
    let o = ap (λ v. v.items) named.ensures.opened in
    let x = begins-kept g0.texts.items g1.texts.items (ap (λ v. v.items) named.ensures.texts) in
    shows-form b g0 g1 node f c.in_ok-found-in-Ref.found c.in-Ref.ensures.proper c.in-Ref.ensures.value o x
    (λ out l s sees stands.
    let l1 = first_place l kind.Ref (name ∷ []) in
    let first = sees-first out l s kind.Ref (name ∷ []) refl refl sees in
    let own : ShowsSelf (known b g1) b.own_function l.self = ShowsSelf-grows (known b g0) (known b g1) b.own_function l.self (known-grows b g0 g1 x) (subst (λ z. ShowsSelf (known b g0) b.own_function z) (sym (ap (λ (y : Sight). y.self) sees.sight)) stands.own) in
    c.in_ok-found-in-Ref.ensures (known b g1) node.word l (node_at out l1 name) refl refl stands.distinct own
    (named.ensures.shows out l1 s (classes-at node f c.in-Ref.ensures.proper c.in-Ref.ensures.value).0 first.sight refl stands)
    (at-word out l1 name ∙ sym c.word.ensures))
    (λ out l s sees stands. logs-kept b g0 g1 (ap (λ v. v.items) named.ensures.touched))

pub expression-returns-in_ok-found-in-Index : goal.expression-returns-in_ok-found-in-Index
expression-returns-in_ok-found-in-Index t c =
    let b = c.args.body.now in
    let g0 = c.args.going.now in
    let g1 = c.expression.new.going in
    let g2 = c.expressions.new.going in
    let node = c.args.node.now in
    let array = c.in-Index.array in
    let indexes = c.in-Index.indexes.now in
    let f = form.Index array indexes in
    let r1 = c.in_ok-array-in-Index.ensures in
    let r2 = c.in_ok-indexes-in-Index.ensures in
    let classes = classes-at node f c.in-Index.ensures.proper c.in-Index.ensures.value in
    let is = exprs-kind indexes.kind classes.1.0 in
    let isx = class-body class.Access array.kind refl classes.0 in
    shows-form b g0 g2 node f c.in_ok-found-in-Index.found c.in-Index.ensures.proper c.in-Index.ensures.value (◌∙◌ {A = List Operand} r2.opened r1.opened) (Begins-then g0.texts.items g1.texts.items g2.texts.items r1.texts r2.texts)
    (λ out l s sees stands.
    let l1 = first_place l kind.Index (array ∷ indexes ∷ []) in
    let l2 = place_behind out l1 array in
    let first = sees-first out l s kind.Index (array ∷ indexes ∷ []) refl refl sees in
    let second = sees-behind out l1 s array isx first in
    let l3 = first_place l2 kind.Exprs (kids_of indexes) in
    let third = sees-first out l2 s kind.Exprs (kids_of indexes) refl refl second in
    c.in_ok-found-in-Index.ensures (known b g2) node.word (node_at out l1 array) (node_at out l2 indexes) refl
    (ShowsNode-grows (known b g1) (known b g2) c.in_ok-array-in-Index.array (node_at out l1 array).at (known-grows b g1 g2 r2.texts) (r1.shows out l1 s first stands))
    (subst (λ ns. AllShow (ShowsFacts (known b g2)) c.in_ok-indexes-in-Index.indexes.items ns) (sym (kids-of-kind out l2 indexes kind.Exprs is)) (r2.shows out l3 s third (stands-kept b g0 g1 s r1.opened r1.texts stands)))
    (exprs-hole out l2 indexes is))
    (logs-kids b g0 g1 g2 array indexes kind.Index refl refl isx r1.opened r1.texts r2.texts r1.touched (exprs-logs ShowsFacts b g1 g2 indexes c.in_ok-indexes-in-Index.indexes.items is r2))

pub expression-returns-in_ok-found-in-Select : goal.expression-returns-in_ok-found-in-Select
expression-returns-in_ok-found-in-Select t c =
    let b = c.args.body.now in
    let g0 = c.args.going.now in
    let g1 = c.expression-in-Select.new.going in
    let node = c.args.node.now in
    let whole = c.in-Select.whole in
    let field = c.in-Select.field.now in
    let f = form.Select whole field in
    let r1 = c.in_ok-whole-in-Select.ensures in
    let classes = classes-at node f c.in-Select.ensures.proper c.in-Select.ensures.value in
    shows-form b g0 g1 node f c.in_ok-found-in-Select.found c.in-Select.ensures.proper c.in-Select.ensures.value r1.opened r1.texts
    (λ out l s sees stands.
    let l1 = first_place l kind.Select (whole ∷ field ∷ []) in
    let l2 = place_behind out l1 whole in
    let first = sees-first out l s kind.Select (whole ∷ field ∷ []) refl refl sees in
    c.in_ok-found-in-Select.ensures (known b g1) node.word (node_at out l1 whole) (node_at out l2 field) refl (r1.shows out l1 s first stands)
    (field-hole out l2 field classes.1.0 ∙ sym c.is_hole.ensures) (ap sorts.is_hole (at-kind out l2 field) ∙ sym c.is_hole.ensures) (at-word out l2 field ∙ sym c.word-in-Select.ensures))
    (logs-kids b g0 g1 g1 whole field kind.Select refl refl (class-body class.Access whole.kind refl classes.0) r1.opened r1.texts (Begins-same g1.texts.items) r1.touched (name-logs b g1 g1 field classes.1.0 refl))

pub expression-returns-in_ok-found-in-Deref : goal.expression-returns-in_ok-found-in-Deref
expression-returns-in_ok-found-in-Deref t c =
    let b = c.args.body.now in
    let g0 = c.args.going.now in
    let g1 = c.expression-in-Deref.new.going in
    let node = c.args.node.now in
    let pointer = c.in-Deref.pointer in
    let f = form.Deref pointer in
    let proper = c.in-Deref.ensures.proper in
    let r1 = c.in_ok-pointer-in-Deref.ensures in
    let body = class-body class.Access pointer.kind refl (classes-at node f proper c.in-Deref.ensures.value).0 in
    shows-form b g0 g1 node f c.in_ok-found-in-Deref.found proper c.in-Deref.ensures.value r1.opened r1.texts
    (λ out l s sees stands.
    let l1 = first_place l kind.Deref (pointer ∷ []) in
    let first = sees-first out l s kind.Deref (pointer ∷ []) refl refl sees in
    c.in_ok-found-in-Deref.ensures (known b g1) stands.targets node.word (node_at out l1 pointer) refl stands.told
    (leads-at b (known b g0) g0.opened.items out l1 s pointer (proper-kid node f proper c.in-Deref.ensures.value).0 body first stands)
    (r1.shows out l1 s first stands))
    (logs-kid b g0 g1 pointer kind.Deref refl refl r1.touched)

pub expressions-new-requires : goal.expressions-new-requires
expressions-new-requires t c =
    exprs-kid c.args.list.now c.kid-item.result c.loop-kid.kid-index c.kid_slice-kid-items.ensures.proper (exprs-kind c.args.list.now.kind c.requires.list)
    (subst (λ ks. slice_get ks c.loop-kid.kid-index ≡ Some c.kid-item.result) c.kid_slice-kid-items.ensures.value
    (slice_get_read c.kid_slice-kid-items.result.now _ c.loop-kid.kid-index c.kid-item.result refl c.loop-kid-test.true c.kid-item.is))

pub expressions-expression-requires : goal.expressions-expression-requires
expressions-expression-requires t c =
    let d : size_of c.kid-item.result + 1 ≤ size_of c.args.list.now =
    size_of-kid c.args.list.now c.loop-kid.kid-index c.kid-item.result (rw c.kid_slice-kid-items.ensures.value at c.loop-kid-test.true) (rw c.kid_slice-kid-items.ensures.value at (sym c.kid-item.is)) in
    let same : size_of c.new.result ≡ size_of c.kid-item.result = ap size_of c.new.ensures in
    (omega (arith, d, same, c.decreases), c.requires.block)

pub expressions-loop-kid-preserved : goal.expressions-loop-kid-preserved
expressions-loop-kid-preserved t c =
    let b = c.args.body.now in
    let kids = c.kid_slice-kid-items.result.now in
    let i = c.loop-kid.kid-index in
    let list = c.args.list.now in
    let bodies = take-body i kids (subst (λ ks. Every (λ u. is_body u.kind ≡ true) ks) (sym {A = List Plain} c.kid_slice-kid-items.ensures.value)
    (kids-body list c.kid_slice-kid-items.ensures.proper (class-body class.Exprs list.kind refl c.requires.list))) in
    let more = row-more ShowsFacts (λ x y f n. ShowsNode-grows x y f n.at) b c.args.going.now c.loop-kid.going c.expression.new.going (take i kids) c.kid-item.result c.loop-kid.found.items c.in_ok-one.one bodies c.loop-kid.invariant
    (subst (λ (q : Plain). ResolvesAs ShowsFacts b c.loop-kid.going c.expression.new.going q c.in_ok-one.one) c.new.ensures c.in_ok-one.ensures) in
    let taken : take (i + 1) kids ≡ take i kids ++ c.kid-item.result ∷ [] = take_more kids i c.kid-item.result c.loop-kid-test.true ∙ ap (λ k. take i kids ++ k ∷ []) (sym c.kid-item.is) in
    subst (λ ts. ResolveAs ShowsFacts b c.args.going.now c.expression.new.going ts c.push.new.self.items) (sym taken)
    (subst (λ xs. ResolveAs ShowsFacts b c.args.going.now c.expression.new.going (take i kids ++ c.kid-item.result ∷ []) xs) (sym {A = List Facts} c.in_ok-push.ensures.items) more)

pub expression-members_of-requires : goal.expression-members_of-requires
expression-members_of-requires t c =
    (omega (arith, c.in-Setcon.ensures.size, c.decreases), (c.requires, (classes-at c.args.node.now (form.Setcon c.in-Setcon.members.now) c.in-Setcon.ensures.proper c.in-Setcon.ensures.value).0))

pub expression-returns-in_ok-found-in-Setcon : goal.expression-returns-in_ok-found-in-Setcon
expression-returns-in_ok-found-in-Setcon t c =
    let b = c.args.body.now in
    let g1 = c.members_of.new.going in
    let node = c.args.node.now in
    let list = c.in-Setcon.members.now in
    let f = form.Setcon list in
    let proper = c.in-Setcon.ensures.proper in
    let r = c.in_ok-members-in-Setcon.ensures in
    let is = members-kind list.kind (classes-at node f proper c.in-Setcon.ensures.value).0 in
    let ms = c.in_ok-members-in-Setcon.members.items in
    shows-form b c.args.going.now g1 node f c.in_ok-found-in-Setcon.found proper c.in-Setcon.ensures.value r.opened r.texts
    (λ out l s sees stands.
    let l1 = first_place l kind.Setcon (list ∷ []) in
    let l2 = first_place l1 kind.Members (kids_of list) in
    let first = sees-first out l s kind.Setcon (list ∷ []) refl refl sees in
    let second = sees-first out l1 s kind.Members (kids_of list) refl refl first in
    let all = subst (λ ns. AllShow (ShowsHeld (known b g1)) ms ns) (sym (kids-of-kind out l1 list kind.Members is)) (r.shows out l2 s second stands) in
    let apart = all-held (known b g1) ms _ all in
    c.in_ok-found-in-Setcon.ensures (known b g1) node.word (node_at out l1 list) refl apart.0 apart.1 (members-hole out l1 list is))
    (logs-kid b c.args.going.now g1 list kind.Setcon refl refl (members-logs ShowsHeld b c.args.going.now g1 list ms is r))

pub member-expression-requires : goal.member-expression-requires
member-expression-requires t c =
    let size = span-size c.args.node.now c.ends-low.result.0 c.ends-low.result.1 c.kind.ensures.proper c.ends-low.ensures in
    (omega (arith, size, c.decreases), c.requires.block)

pub member-expression-requires-in-Span : goal.member-expression-requires-in-Span
member-expression-requires-in-Span t c =
    let size = span-size c.args.node.now c.ends-low.result.0 c.ends-low.result.1 c.kind.ensures.proper c.ends-low.ensures in
    (omega (arith, size, c.decreases), c.requires.block)

pub member-returns-in_ok-high-in-Span : goal.member-returns-in_ok-high-in-Span
member-returns-in_ok-high-in-Span t c =
    shows-span c.args.body.now c.args.going.now c.expression.new.going c.expression-in-Span.new.going c.args.node.now c.ends-low.result.0 c.ends-low.result.1 c.in_ok-low-in-Span.low c.in_ok-high-in-Span.high
    c.kind.ensures.proper c.ends-low.ensures c.in_ok-low-in-Span.ensures c.in_ok-high-in-Span.ensures

pub member-returns-in_ok-one-in_default : goal.member-returns-in_ok-one-in_default
member-returns-in_ok-one-in_default t c =
    shows-value c.args.body.now c.args.going.now c.expression-in_default.new.going c.args.node.now c.in_ok-one-in_default.one (λ e. c.in_default.not-Span (c.kind.ensures.value ∙ e))
    (subst (λ (q : Plain). ResolvesAs ShowsFacts c.args.body.now c.args.going.now c.expression-in_default.new.going q c.in_ok-one-in_default.one) c.new.ensures c.in_ok-one-in_default.ensures)

pub members_of-member-requires : goal.members_of-member-requires
members_of-member-requires t c =
    let d : size_of c.kid-item.result + 1 ≤ size_of c.args.list.now =
    size_of-kid c.args.list.now c.loop-kid.kid-index c.kid-item.result (rw c.kid_slice-kid-items.ensures.value at c.loop-kid-test.true) (rw c.kid_slice-kid-items.ensures.value at (sym c.kid-item.is)) in
    let at : slice_get (kids_of c.args.list.now) c.loop-kid.kid-index ≡ Some c.kid-item.result =
    subst (λ ks. slice_get ks c.loop-kid.kid-index ≡ Some c.kid-item.result) c.kid_slice-kid-items.ensures.value
    (slice_get_read c.kid_slice-kid-items.result.now _ c.loop-kid.kid-index c.kid-item.result refl c.loop-kid-test.true c.kid-item.is) in
    (omega (arith, d, c.decreases), (c.requires.block, members-kid c.args.list.now c.kid-item.result c.loop-kid.kid-index c.kid_slice-kid-items.ensures.proper (members-kind c.args.list.now.kind c.requires.list) at))

pub members_of-loop-kid-preserved : goal.members_of-loop-kid-preserved
members_of-loop-kid-preserved t c =
    let b = c.args.body.now in
    let kids = c.kid_slice-kid-items.result.now in
    let i = c.loop-kid.kid-index in
    let list = c.args.list.now in
    let bodies = take-body i kids (subst (λ ks. Every (λ u. is_body u.kind ≡ true) ks) (sym {A = List Plain} c.kid_slice-kid-items.ensures.value)
    (kids-body list c.kid_slice-kid-items.ensures.proper (class-body class.Members list.kind refl c.requires.list))) in
    let more = row-more ShowsHeld ShowsHeld-grows b c.args.going.now c.loop-kid.going c.member.new.going (take i kids) c.kid-item.result c.loop-kid.found.items c.in_ok-one.one bodies c.loop-kid.invariant c.in_ok-one.ensures in
    let taken : take (i + 1) kids ≡ take i kids ++ c.kid-item.result ∷ [] = take_more kids i c.kid-item.result c.loop-kid-test.true ∙ ap (λ k. take i kids ++ k ∷ []) (sym c.kid-item.is) in
    subst (λ ts. ResolveAs ShowsHeld b c.args.going.now c.member.new.going ts c.push.new.self.items) (sym taken)
    (subst (λ xs. ResolveAs ShowsHeld b c.args.going.now c.member.new.going (take i kids ++ c.kid-item.result ∷ []) xs) (sym {A = List Member} c.in_ok-push.ensures.items) more)

pub argument-expression-requires : goal.argument-expression-requires
argument-expression-requires t c =
    let size = width-size c.args.node.now c.parts-value.result.0 c.parts-value.result.1 c.kind.ensures.proper c.parts-value.ensures in
    (omega (arith, size, c.decreases), c.requires.block)

pub argument-expression-requires-in-Width : goal.argument-expression-requires-in-Width
argument-expression-requires-in-Width t c =
    let size = width-size c.args.node.now c.parts-value.result.0 c.parts-value.result.1 c.kind.ensures.proper c.parts-value.ensures in
    (omega (arith, size, c.decreases), c.requires.block)

pub argument-returns-in_ok-at-in-Width : goal.argument-returns-in_ok-at-in-Width
argument-returns-in_ok-at-in-Width t c =
    let node = c.args.node.now in
    shows-width c.args.body.now c.args.going.now c.expression.new.going c.expression-in-Width.new.going node c.parts-value.result.0 c.parts-value.result.1 c.in_ok-value-in-Width.value c.in_ok-width-in-Width.width _
    c.kind.ensures.proper c.parts-value.ensures c.in_ok-value-in-Width.ensures c.in_ok-width-in-Width.ensures c.value_type-first.ensures c.value_type-second.ensures
    (λ m n a b. c.in_ok-at-in-Width.ensures (known c.args.body.now c.expression-in-Width.new.going) node.word m n a b)

pub argument-returns-in_ok-named-in-Ref : goal.argument-returns-in_ok-named-in-Ref
argument-returns-in_ok-named-in-Ref t c =
    let b = c.args.body.now in
    let node = c.args.node.now in
    let name = c.reference_name.result.now in
    let g1 = c.expression-in-Ref.new.going in
    let named = c.in_ok-named-in-Ref.ensures in
    let e : form.Ref name ≡ form_of node = c.reference_name.ensures in
    shows-reference b c.args.going.now g1 c.used_name.new.going node name c.in_ok-named-in-Ref.named _ c.kind.ensures.proper e
    (subst (λ (q : Plain). ResolvesAs ShowsFacts b c.args.going.now g1 q c.in_ok-at-in-Ref.at) c.new.ensures c.in_ok-at-in-Ref.ensures)
    (λ out l s sees using stands. named.shows out l s (classes-at node (form.Ref name) c.kind.ensures.proper e).0 sees.sight using stands)
    (ap (λ v. v.items) named.opened) (ap (λ v. v.items) named.texts) (ap (λ v. v.items) named.touched) refl

pub argument-returns-in_ok-at-in_default : goal.argument-returns-in_ok-at-in_default
argument-returns-in_ok-at-in_default t c =
    let g1 = c.expression-in_default.new.going in
    shows-plain c.args.body.now c.args.going.now g1 c.args.node.now _ (λ e. c.in_default.not-Width (c.kind.ensures.value ∙ e)) (λ e. c.in_default.not-Ref (c.kind.ensures.value ∙ e))
    (subst (λ (q : Plain). ResolvesAs ShowsFacts c.args.body.now c.args.going.now g1 q c.in_ok-at-in_default.at) c.new-in_default.ensures c.in_ok-at-in_default.ensures)

pub arguments_of-argument-requires : goal.arguments_of-argument-requires
arguments_of-argument-requires t c =
    let d : size_of c.kid-item.result + 1 ≤ size_of c.args.list.now =
    size_of-kid c.args.list.now c.loop-kid.kid-index c.kid-item.result (rw c.kid_slice-kid-items.ensures.value at c.loop-kid-test.true) (rw c.kid_slice-kid-items.ensures.value at (sym c.kid-item.is)) in
    let at : slice_get (kids_of c.args.list.now) c.loop-kid.kid-index ≡ Some c.kid-item.result =
    subst (λ ks. slice_get ks c.loop-kid.kid-index ≡ Some c.kid-item.result) c.kid_slice-kid-items.ensures.value
    (slice_get_read c.kid_slice-kid-items.result.now _ c.loop-kid.kid-index c.kid-item.result refl c.loop-kid-test.true c.kid-item.is) in
    (omega (arith, d, c.decreases), (c.requires.block, expression-argument c.kid-item.result.kind (exprs-kid c.args.list.now c.kid-item.result c.loop-kid.kid-index c.kid_slice-kid-items.ensures.proper (exprs-kind c.args.list.now.kind c.requires.list) at)))

pub arguments_of-loop-kid-preserved : goal.arguments_of-loop-kid-preserved
arguments_of-loop-kid-preserved t c =
    let b = c.args.body.now in
    let kids = c.kid_slice-kid-items.result.now in
    let i = c.loop-kid.kid-index in
    let list = c.args.list.now in
    let bodies = take-body i kids (subst (λ ks. Every (λ u. is_body u.kind ≡ true) ks) (sym {A = List Plain} c.kid_slice-kid-items.ensures.value)
    (kids-body list c.kid_slice-kid-items.ensures.proper (class-body class.Exprs list.kind refl c.requires.list))) in
    let more = row-more ShowsArgument ShowsArgument-grows b c.args.going.now c.loop-kid.going c.argument.new.going (take i kids) c.kid-item.result c.loop-kid.found.items c.in_ok-one.one bodies c.loop-kid.invariant c.in_ok-one.ensures in
    let taken : take (i + 1) kids ≡ take i kids ++ c.kid-item.result ∷ [] = take_more kids i c.kid-item.result c.loop-kid-test.true ∙ ap (λ k. take i kids ++ k ∷ []) (sym c.kid-item.is) in
    subst (λ ts. ResolveAs ShowsArgument b c.args.going.now c.argument.new.going ts c.push.new.self.items) (sym taken)
    (subst (λ xs. ResolveAs ShowsArgument b c.args.going.now c.argument.new.going (take i kids ++ c.kid-item.result ∷ []) xs) (sym {A = List Argument} c.in_ok-push.ensures.items) more)

pub expression-arguments_of-requires : goal.expression-arguments_of-requires
expression-arguments_of-requires t c =
    (omega (arith, c.in-Call.ensures.size, c.decreases), (c.requires, (classes-at c.args.node.now (form.Call c.in-Call.name.now c.in-Call.args.now) c.in-Call.ensures.proper c.in-Call.ensures.value).1.0))

pub expression-returns-in_ok-found-in-Call : goal.expression-returns-in_ok-found-in-Call
expression-returns-in_ok-found-in-Call t c =
    let b = c.args.body.now in
    let g0 = c.args.going.now in
    let g1 = c.used_name-in-Call.new.going in
    let g2 = c.arguments_of.new.going in
    let node = c.args.node.now in
    let name = c.in-Call.name.now in
    let list = c.in-Call.args.now in
    let f = form.Call name list in
    let proper = c.in-Call.ensures.proper in
    let classes = classes-at node f proper c.in-Call.ensures.value in
    let named = c.in_ok-named-in-Call.ensures in
    let o = ap (λ v. v.items) named.opened in
    let x = begins-kept g0.texts.items g1.texts.items (ap (λ v. v.items) named.texts) in
    let r = c.in_ok-args-in-Call.ensures in
    let is = exprs-kind list.kind classes.1.0 in
    let gs = c.in_ok-args-in-Call.args.items in
    let isn = class-body class.Name name.kind refl classes.0 in
    let k = known b g2 in
    let called = called-at b g0 g1 g2 kind.Call kind.Exprs name list c.in_ok-named-in-Call.named gs refl refl refl refl (λ l. refl) isn is (λ out l. exprs-hole out l list is) o x
    (λ out l s sees using stands. named.shows out l s classes.0 sees.sight using stands) r in
    let routine : (n : Node) → ShowsName k c.in_ok-named-in-Call.named n.at → ShowsRoutine k (option_copied c.function_signature-signature.result) (function_signature n.at.found) =
    λ n shown. c.function_signature-signature.ensures k (lowered n.at.word) n.at.found refl shown.found in
    shows-form b g0 _ node f c.in_ok-found-in-Call.found proper c.in-Call.ensures.value (◌∙◌ {A = List Operand} r.opened o) (Begins-then g0.texts.items g1.texts.items g2.texts.items x r.texts)
    (λ out l s sees stands.
    let l1 = first_place l kind.Call (name ∷ list ∷ []) in
    let n = node_at out l1 name in
    let call = called out l s sees stands in
    c.in_ok-found-in-Call.ensures.found k node.word n (node_at out (place_behind out l1 name) list) call
    (c.in_ok-add_name_entries-in-Call.ensures k n call.name (at-word out l1 name ∙ sym c.word-in-Call.ensures) ∙ ap (λ es. es ++ used_entries allowed.Function n) c.new-entries.ensures.items)
    (routine n call.name))
    (λ out l s sees stands.
    let l1 = first_place l kind.Call (name ∷ list ∷ []) in
    let n = node_at out l1 name in
    let a = node_at out (place_behind out l1 name) list in
    let call = called out l s sees stands in
    subst (Logs k g0.touched.items c.call.new.touched.items) (sym (call-touches n a))
    (Logs-then k g0.touched.items g2.touched.items c.call.new.touched.items (all_touches (n ∷ a ∷ [])) (call_touches n.at.found (kids_below a))
    (logs-kids b g0 g1 g2 name list kind.Call refl refl isn o x r.texts (name-logs b g0 g1 name classes.0 (ap (λ v. v.items) named.touched)) (exprs-logs ShowsArgument b g1 g2 list gs is r) out l s sees stands)
    (c.in_ok-found-in-Call.ensures.logged k n a call (routine n call.name))))
