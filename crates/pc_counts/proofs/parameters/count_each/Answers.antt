use Rattle.std.proofs.Common.{◌≡◌, ◌+◌, ◌++◌, ◌∷◌, [], take, slice_index_or, sym, subst}
use Rattle.std.proofs.lemmas.List.{take_more, take_all}
use Rattle.pc_places.specs.declared.parameter.Parameter.{Parameter}
use Rattle.pc_counts.specs.Counting.{CountsParameters}
use Rattle.pc_counts.specs.CountingLaws.{CountsParameters-none, CountsParameters-end}
use Rattle.pc_counts.proofs.parameters.count_each.Goals as goal

nobody : Parameter
nobody = record { name = record { 0 = 0 }; declaration = record { 0 = 0 } }

pub loop-parameter-init : goal.loop-parameter-init
loop-parameter-init c = λ k ds. CountsParameters-none k ds c.args.counts.now

pub loop-parameter-preserved : goal.loop-parameter-preserved
unfolding nobody
loop-parameter-preserved c = λ k ds.
    let ps = c.args.parameters.now in
    let i = c.loop-parameter.parameter-index in
    let p = slice_index_or ps i nobody in
    let taken : take (i + 1) ps ≡ take i ps ++ p ∷ [] = take_more ps i nobody c.loop-parameter-test.true in
    subst (λ qs. CountsParameters k ds qs c.args.counts.now c.add.new.self) (sym taken)
    (CountsParameters-end k ds (take i ps) p c.args.counts.now c.loop-parameter.counts c.add.new.self c.in_ok-add.ensures (c.loop-parameter.invariant k ds))

pub returns : goal.returns
returns c = λ k ds.
    let ps = c.args.parameters.now in
    let all : take c.loop-parameter.parameter-index ps ≡ ps = take_all c.loop-parameter.parameter-index ps c.loop-parameter-test.false in
    subst (λ qs. CountsParameters k ds qs c.args.counts.now c.loop-parameter.counts) all (c.loop-parameter.invariant k ds)
