use Rattle.std.proofs.Common.{◌≡◌, ◌+◌, ◌++◌, ◌∷◌, [], take, sym, ap, ◌∙◌, subst}
use Rattle.std.proofs.lemmas.List.{take_more, take_all}
use Rattle.pc_counts.specs.Counted.{Counted}
use Rattle.pc_counts.specs.CountedLaws.{Counted-then}
use Rattle.pc_counts.specs.Counting.{if_listed}
use Rattle.pc_counts.specs.NamesLaws.{all_listed, listed-end, listed-kids}
use Rattle.pc_counts.proofs.counting.count_names.Goals as goal

pub loop-name-preserved : goal.loop-name-preserved
loop-name-preserved c =
    let kids = c.kid_slice-name-items.result.now in
    let i = c.loop-name.name-index in
    let k = c.name-item.result in
    let taken : take (i + 1) kids ≡ take i kids ++ k ∷ [] = take_more kids i k c.loop-name-test.true ∙ ap (λ x. take i kids ++ x ∷ []) (sym c.name-item.is) in
    subst (λ ns. Counted ns c.args.counts.now c.count_listed.new.counts c.args.tables.now c.count_listed.new.tables) (sym (ap all_listed taken ∙ listed-end (take i kids) k))
    (Counted-then (all_listed (take i kids)) (if_listed k) c.args.counts.now c.loop-name.counts c.count_listed.new.counts c.args.tables.now c.loop-name.tables c.count_listed.new.tables
    c.loop-name.invariant c.in_ok-count_listed.ensures)

pub returns : goal.returns
returns c =
    let kids = c.kid_slice-name-items.result.now in
    let all : take c.loop-name.name-index kids ≡ kids = take_all c.loop-name.name-index kids c.loop-name-test.false in
    subst (λ ns. Counted ns c.args.counts.now c.loop-name.counts c.args.tables.now c.loop-name.tables)
    (ap all_listed (all ∙ c.kid_slice-name-items.ensures.value) ∙ sym (listed-kids c.args.list.now)) c.loop-name.invariant
