use Rattle.std.proofs.Common.{◌≡◌, ◌+◌, ◌++◌, true, [], ◌∷◌, take, refl, sym, subst, ap, ◌∙◌, arith, ℕ}
use Rattle.std.proofs.lemmas.List.{take_more}
use Rattle.pc_syntax.specs.Plain.{kids_of}
use Rattle.pc_forms.specs.FormClasses.{Every}
use Rattle.pc_environment.specs.Sight.{is_body}
use Rattle.pc_sightings.specs.Opened.{pushed}
use Rattle.pc_bodies.specs.ListLaws.{take-body, every-at}
use Rattle.pc_bodies.specs.WholeLaws.{kids-body}
use Rattle.pc_statements.specs.ListKinds.{proper-at}
use Rattle.pc_statements.specs.Opens.{OpensRow}
use Rattle.pc_statements.specs.OpensLaws.{opens-none, opens-more}
use Rattle.pc_told.proofs.Got.{read, within}
use Rattle.pc_told.proofs.opening.open_first.Goals as goal

pub loop-i-init : goal.loop-i-init
loop-i-init c = opens-none c.args.body.now c.args.going.now c.new-opening.result c.new-opening.ensures

pub loop-i-preserved : goal.loop-i-preserved
loop-i-preserved c =
    let b = c.args.body.now in
    let list = c.args.list.now in
    let kids = kids_of list in
    let i = c.loop-i.i in
    let g0 = c.args.going.now in
    let kid = c.access_at.result in
    let f = c.in_ok-access.access in
    let g2 = c.expression.new.going in
    let at = c.access_at.ensures.found in
    let proper = c.access_at.ensures.proper in
    let every : Every (λ u. is_body u.kind ≡ true) kids = kids-body list proper (ap is_body c.requires.list) in
    let g3 = record g2 { opened = c.open.new.opened } in
    let more = opens-more b g0 c.loop-i.going g2 g3 (take i kids) kid c.loop-i.opening c.add.new.self f (take-body i kids every) (proper-at list kid i proper at)
    (every-at (λ u. is_body u.kind ≡ true) kids i kid every at) c.access_at.ensures.access c.loop-i.invariant c.in_ok-access.ensures
    c.in_ok-add.ensures (c.in_ok-open.ensures.types ∙ ap (λ o. g2.opened.items ++ pushed o) c.place_type-of.ensures) refl refl in
    let taken : take (i + 1) kids ≡ take i kids ++ kid ∷ [] = take_more kids i kid (within kids i kid at) ∙ ap (λ k. take i kids ++ k ∷ []) (read kids i kid kid at) in
    subst (λ ts. OpensRow b g0 g3 ts c.add.new.self) (sym taken) more

pub returns : goal.returns
returns c =
    let b = c.args.body.now in
    let ks = kids_of c.args.list.now in
    let end : c.loop-i.i ≡ c.args.count = omega arith in
    record { opening = c.loop-i.opening; row = subst (λ (n : ℕ). OpensRow b c.args.going.now c.loop-i.going (take n ks) c.loop-i.opening) end c.loop-i.invariant }
