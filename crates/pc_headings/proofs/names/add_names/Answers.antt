use Rattle.std.proofs.Common.{◌≡◌, ◌+◌, List, ◌∷◌, [], ◌++◌, take, length, ap, sym, ◌∙◌, subst}
use Rattle.std.proofs.lemmas.List.{take_more}
use Rattle.pc_syntax.specs.Plain.{Plain}
use Rattle.pc_headings.specs.Listing.{AddsNames}
use Rattle.pc_headings.specs.NamesLaws.{AddsNames-more}
use Rattle.pc_headings.proofs.LoopSteps.{count-next, count-more}
use Rattle.pc_headings.proofs.names.add_names.Goals as goal

pub loop-kid-preserved : goal.loop-kid-preserved
loop-kid-preserved c =
    let kids = c.kid_slice-kid-items.result.now in
    let i = c.loop-kid.kid-index in
    let kid = c.kid-item.result in
    let a = c.args.tables.now in
    let new = c.add_name.new.tables in
    let has = c.add_name.new.entries.items in
    let row = c.loop-kid.invariant in
    let count = c.in_ok-count.count in
    let taken : take (i + 1) kids ≡ take i kids ++ kid ∷ [] = take_more kids i kid c.loop-kid-test.true ∙ ap (λ k. take i kids ++ k ∷ []) (sym c.kid-item.is) in (
      subst (λ (ts : List Plain). AddsNames a new c.args.group c.args.listed.now c.add_name.new.listed ts has) (sym taken)
          (AddsNames-more a c.loop-kid.tables new c.args.group c.args.listed.now c.loop-kid.listed c.add_name.new.listed (take i kids) kid count c.loop-kid.entries.items has
          (count-next (take i kids) c.loop-kid.count count row.1 c.in_ok-count.ensures) row.0 c.in_ok-add_name.ensures),
      subst (λ (ts : List Plain). count ≡ length ts) (sym taken) (count-more (take i kids) kid c.loop-kid.count count row.1 c.in_ok-count.ensures),
    )
