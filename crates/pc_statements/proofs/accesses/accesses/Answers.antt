use Rattle.std.proofs.Common.{◌≡◌, ◌+◌, ◌++◌, true, [], ◌∷◌, Some, slice_get, take, refl, sym, subst, ap, ◌∙◌}
use Rattle.std.proofs.lemmas.List.{take_more, take_all}
use Rattle.std.proofs.lemmas.Option.{slice_get_read}
use Rattle.pc_syntax.specs.Plain.{Plain, kids_of}
use Rattle.pc_syntax.specs.declared.class.Class.TheVariants as class
use Rattle.pc_forms.specs.FormClasses.{Every}
use Rattle.pc_environment.specs.Sight.{is_body}
use Rattle.pc_sightings.specs.Opened.{pushed}
use Rattle.pc_bodies.specs.BodyLaws.{class-body}
use Rattle.pc_bodies.specs.ListLaws.{take-body, every-at}
use Rattle.pc_bodies.specs.Resolved.{Resolves}
use Rattle.pc_bodies.specs.WholeLaws.{kids-body}
use Rattle.pc_statements.specs.OpensLaws.{opens-none, opens-more}
use Rattle.pc_statements.specs.ListKinds.{accesses-kind, accesses-kid, access-expression, proper-at}
use Rattle.pc_statements.specs.Opens.{OpensRow}
use Rattle.pc_statements.proofs.accesses.accesses.Goals as goal

pub loop-kid-init : goal.loop-kid-init
loop-kid-init c = opens-none c.args.body.now c.args.going.now c.new-opening.result c.new-opening.ensures

pub new-requires : goal.new-requires
new-requires c =
    let at : slice_get (kids_of c.args.list.now) c.loop-kid.kid-index ≡ Some c.kid-item.result =
    subst (λ ks. slice_get ks c.loop-kid.kid-index ≡ Some c.kid-item.result) c.kid_slice-kid-items.ensures.value
    (slice_get_read c.kid_slice-kid-items.result.now _ c.loop-kid.kid-index c.kid-item.result refl c.loop-kid-test.true c.kid-item.is) in
    access-expression c.kid-item.result.kind (accesses-kid c.args.list.now c.kid-item.result c.loop-kid.kid-index c.kid_slice-kid-items.ensures.proper (accesses-kind c.args.list.now.kind c.requires.list) at)

pub loop-kid-preserved : goal.loop-kid-preserved
loop-kid-preserved c =
    let b = c.args.body.now in
    let kids = c.kid_slice-kid-items.result.now in
    let i = c.loop-kid.kid-index in
    let list = c.args.list.now in
    let g0 = c.args.going.now in
    let kid = c.kid-item.result in
    let f = c.in_ok-access.access in
    let g2 = c.expression.new.going in
    let is = accesses-kind list.kind c.requires.list in
    let every : Every (λ u. is_body u.kind ≡ true) kids = subst (λ ks. Every (λ u. is_body u.kind ≡ true) ks) (sym c.kid_slice-kid-items.ensures.value)
    (kids-body list c.kid_slice-kid-items.ensures.proper (class-body class.Accesses list.kind refl c.requires.list)) in
    let here : slice_get kids i ≡ Some kid = slice_get_read kids _ i kid refl c.loop-kid-test.true c.kid-item.is in
    let at : slice_get (kids_of list) i ≡ Some kid = subst (λ ks. slice_get ks i ≡ Some kid) c.kid_slice-kid-items.ensures.value here in
    let proper = proper-at list kid i c.kid_slice-kid-items.ensures.proper at in
    let access = accesses-kid list kid i c.kid_slice-kid-items.ensures.proper is at in
    let one : Resolves b c.loop-kid.going g2 kid f = subst (λ (q : Plain). Resolves b c.loop-kid.going g2 q f) c.new.ensures c.in_ok-access.ensures in
    let g3 = record g2 { opened = c.open.new.opened } in
    let more = opens-more b g0 c.loop-kid.going g2 g3 (take i kids) kid c.loop-kid.opening c.add.new.self f (take-body i kids every) proper (every-at (λ u. is_body u.kind ≡ true) kids i kid every here) access c.loop-kid.invariant one
    c.in_ok-add.ensures (c.in_ok-open.ensures.types ∙ ap (λ o. g2.opened.items ++ pushed o) c.place_type-of.ensures) refl refl in
    let taken : take (i + 1) kids ≡ take i kids ++ kid ∷ [] = take_more kids i kid c.loop-kid-test.true ∙ ap (λ k. take i kids ++ k ∷ []) (sym c.kid-item.is) in
    subst (λ ts. OpensRow b g0 g3 ts c.add.new.self) (sym taken) more

pub returns : goal.returns
returns c =
    let list = c.args.list.now in
    let ks = c.kid_slice-kid-items.result.now in
    let n = c.loop-kid.kid-index in
    let all : take n ks ≡ kids_of list = take_all n ks c.loop-kid-test.false ∙ c.kid_slice-kid-items.ensures.value in
    subst (λ ts. OpensRow c.args.body.now c.args.going.now c.loop-kid.going ts c.loop-kid.opening) all c.loop-kid.invariant
