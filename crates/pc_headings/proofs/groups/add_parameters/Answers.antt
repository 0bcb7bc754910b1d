use Rattle.std.proofs.Common.{◌≡◌, ◌+◌, List, ◌∷◌, [], ◌++◌, take, length, refl, ap, sym, ◌∙◌, subst}
use Rattle.std.proofs.lemmas.List.{take_more}
use Rattle.std.proofs.lemmas.Option.{slice_get_read}
use Rattle.pc_syntax.specs.Plain.{Plain}
use Rattle.pc_forms.specs.FormClasses.{Every}
use Rattle.pc_headings.specs.Groups.{AddsRow, IsParameter}
use Rattle.pc_headings.specs.AddsLaws.{AddsRow-more, are-parameters, every-at, take-every}
use Rattle.pc_headings.proofs.LoopSteps.{count-next, count-more}
use Rattle.pc_headings.proofs.groups.add_parameters.Goals as goal

pub add_node-requires-clause-class : goal.add_node-requires-clause-class
add_node-requires-clause-class c =
    let kids = c.kid_slice-kid-items.result.now in
    let list = c.args.list.now in
    let params = subst (λ (ts : List Plain). Every IsParameter ts) (sym c.kid_slice-kid-items.ensures.value) (are-parameters list c.kid_slice-kid-items.ensures.proper c.requires.class) in
    (every-at IsParameter kids c.loop-kid.kid-index c.kid-item.result params (slice_get_read kids (length kids) c.loop-kid.kid-index c.kid-item.result refl c.loop-kid-test.true c.kid-item.is)).class_is

pub loop-kid-preserved : goal.loop-kid-preserved
loop-kid-preserved c =
    let kids = c.kid_slice-kid-items.result.now in
    let list = c.args.list.now in
    let i = c.loop-kid.kid-index in
    let kid = c.kid-item.result in
    let a = c.args.tables.now in
    let block = c.args.outer.0 in
    let owner = c.args.owner.0 in
    let new = c.add_node.new.tables in
    let part = c.in_ok-part.part in
    let hole = c.either-hole.result in
    let has = c.add_kid.new.entries.items in
    let row = c.loop-kid.invariant in
    let count = c.in_ok-count.count in
    let params = take-every IsParameter i kids (subst (λ (ts : List Plain). Every IsParameter ts) (sym c.kid_slice-kid-items.ensures.value) (are-parameters list c.kid_slice-kid-items.ensures.proper c.requires.class)) in
    let taken : take (i + 1) kids ≡ take i kids ++ kid ∷ [] = take_more kids i kid c.loop-kid-test.true ∙ ap (λ k. take i kids ++ k ∷ []) (sym c.kid-item.is) in (
      subst (λ (ts : List Plain). AddsRow a new block owner c.args.listed.now c.add_node.new.listed ts hole has) (sym taken)
          (AddsRow-more a c.loop-kid.tables new block owner c.args.listed.now c.loop-kid.listed c.add_node.new.listed (take i kids) kid part count c.loop-kid.hole hole c.loop-kid.entries.items has params c.requires.there
          (count-next (take i kids) c.loop-kid.count count row.1 c.in_ok-count.ensures) row.0 c.in_ok-part.ensures c.either-hole.ensures c.in_ok-add_kid.ensures),
      subst (λ (ts : List Plain). count ≡ length ts) (sym taken) (count-more (take i kids) kid c.loop-kid.count count row.1 c.in_ok-count.ensures),
    )
