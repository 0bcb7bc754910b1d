use Rattle.std.proofs.Common.{◌≡◌, ◌+◌, List, ◌∷◌, [], ◌++◌, take, length, ap, sym, ◌∙◌, subst}
use Rattle.std.proofs.lemmas.List.{take_more}
use Rattle.pc_syntax.specs.Plain.{Plain}
use Rattle.pc_rules.specs.Attributes.{each_kid}
use Rattle.pc_rules.specs.Headings.{program_parameter_entries}
use Rattle.pc_headings.specs.Listing.{named_nodes}
use Rattle.pc_headings.specs.ProgramLaws.{files-more}
use Rattle.pc_headings.proofs.LoopSteps.{count-next, count-more}
use Rattle.pc_headings.proofs.program.file_entries.Goals as goal

pub loop-kid-preserved : goal.loop-kid-preserved
loop-kid-preserved c =
    let kids = c.kid_slice-kid-items.result.now in
    let i = c.loop-kid.kid-index in
    let kid = c.kid-item.result in
    let has = c.add_kid.new.entries.items in
    let row = c.loop-kid.invariant in
    let count = c.in_ok-count.count in
    let taken : take (i + 1) kids ≡ take i kids ++ kid ∷ [] = take_more kids i kid c.loop-kid-test.true ∙ ap (λ k. take i kids ++ k ∷ []) (sym c.kid-item.is) in (
      subst (λ (ts : List Plain). has ≡ each_kid program_parameter_entries 1 (named_nodes ts)) (sym taken)
          (files-more (take i kids) kid count c.loop-kid.entries.items c.in_ok-own.own.items has (count-next (take i kids) c.loop-kid.count count row.1 c.in_ok-count.ensures) row.0 c.in_ok-own.ensures c.in_ok-add_kid.ensures),
      subst (λ (ts : List Plain). count ≡ length ts) (sym taken) (count-more (take i kids) kid c.loop-kid.count count row.1 c.in_ok-count.ensures),
    )
