use Rattle.std.proofs.Common.{◌≡◌, ◌+◌, ◌++◌, ◌∷◌, [], take, sym, ap, ◌∙◌, subst}
use Rattle.std.proofs.lemmas.List.{take_more, take_all}
use Rattle.pc_forms.specs.FormClasses.{Every}
use Rattle.pc_openings.specs.Declaring.{all_declared}
use Rattle.pc_counts.specs.BeforeLaws.{TellsBefore-none, TellsBefore-end, Counted-end}
use Rattle.pc_counts.specs.Counted.{Counted, TellsBefore}
use Rattle.pc_counts.specs.CountedLaws.{Counted-none}
use Rattle.pc_counts.specs.Counting.{all_names}
use Rattle.pc_counts.specs.PassedLaws.{IsPart, list-part, part-nodes, every-taken}
use Rattle.pc_counts.proofs.parts.count_part.Goals as goal

pub loop-kid-init : goal.loop-kid-init
loop-kid-init c =
    (TellsBefore-none c.args.counts.now c.args.tables.now.names.texts c.new-before.result.items c.new-before.ensures.items, Counted-none c.args.counts.now c.args.tables.now)

pub loop-kid-preserved : goal.loop-kid-preserved
loop-kid-preserved c =
    let kids = c.kid_slice-kid-items.result.now in
    let i = c.loop-kid.kid-index in
    let k = c.kid-item.result in
    let c0 = c.args.counts.now in
    let t0 = c.args.tables.now in
    let part : IsPart c.args.list.now = list-part c.args.list.now c.kid_slice-kid-items.ensures.proper c.requires.part in
    let parts : Every IsPart (take i kids) = every-taken i kids (subst (Every IsPart) (sym c.kid_slice-kid-items.ensures.value) (part-nodes c.args.list.now part)) in
    let taken : take (i + 1) kids ≡ take i kids ++ k ∷ [] = take_more kids i k c.loop-kid-test.true ∙ ap (λ x. take i kids ++ x ∷ []) (sym c.kid-item.is) in
    let told = TellsBefore-end (take i kids) k c0 c.loop-kid.counts t0 c.loop-kid.tables c.loop-kid.before.items c.in_ok-times.times parts c.loop-kid.invariant.0 c.loop-kid.invariant.1
    c.in_ok-times.ensures.times in
    let counted = Counted-end (take i kids) k c0 c.loop-kid.counts c.count_own.new.counts c.count_below.new.counts t0 c.loop-kid.tables c.times_before.new.tables c.count_own.new.tables
    c.count_below.new.tables c.loop-kid.invariant.1 c.in_ok-times.ensures.keeps c.in_ok-count_own.ensures c.in_ok-count_below.ensures.counted in (
      subst (λ bs. TellsBefore (take (i + 1) kids) c0 t0.names.texts bs) (sym c.in_ok-push.ensures.items) (subst (λ ts. TellsBefore ts c0 t0.names.texts (c.loop-kid.before.items ++ c.in_ok-times.times ∷ [])) (sym taken) told),
      subst (λ ts. Counted (all_names (all_declared ts)) c0 c.count_below.new.counts t0 c.count_below.new.tables) (sym taken) counted,
    )

pub returns-clause-before : goal.returns-clause-before
returns-clause-before c =
    let kids = c.kid_slice-kid-items.result.now in
    let all : take c.loop-kid.kid-index kids ≡ kids = take_all c.loop-kid.kid-index kids c.loop-kid-test.false in
    subst (λ ts. TellsBefore ts c.args.counts.now c.args.tables.now.names.texts c.loop-kid.before.items) (all ∙ c.kid_slice-kid-items.ensures.value) c.loop-kid.invariant.0

pub returns-clause-counted : goal.returns-clause-counted
returns-clause-counted c =
    let kids = c.kid_slice-kid-items.result.now in
    let all : take c.loop-kid.kid-index kids ≡ kids = take_all c.loop-kid.kid-index kids c.loop-kid-test.false in
    subst (λ ts. Counted (all_names (all_declared ts)) c.args.counts.now c.loop-kid.counts c.args.tables.now c.loop-kid.tables) (all ∙ c.kid_slice-kid-items.ensures.value) c.loop-kid.invariant.1
