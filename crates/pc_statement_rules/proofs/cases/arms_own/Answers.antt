use Rattle.std.proofs.Common.{◌≡◌, List, subst, sym, ◌∙◌}
use Rattle.std.proofs.lemmas.Iterator.Consumers.{YieldsList-end}
use Rattle.std.proofs.lemmas.Iterator.Adapters.{YieldsList-from_vec}
use Rattle.pc_facts.specs.Shows.{AllShow}
use Rattle.pc_facts.specs.declared.facts.Arm.{Arm}
use Rattle.pc_statement_rules.specs.Given.{ShowsArmLabels}
use Rattle.pc_statement_rules.proofs.HandedSteps.{map-same}
use Rattle.pc_statement_rules.proofs.CaseSteps.{arms-none, arms-more}
use Rattle.pc_statement_rules.proofs.cases.arms_own.Goals as goal

pub loop-arm-init : goal.loop-arm-init
loop-arm-init c = λ k t ns s all. arms-none k _ _ t ns c.new-entries.ensures.items (c.new-given.ensures k) all

pub loop-arm-preserved-in_ok-add_labels : goal.loop-arm-preserved-in_ok-add_labels
loop-arm-preserved-in_ok-add_labels c = λ k t ns s all.
    arms-more k c.loop-arm.yielded c.in-Some.arm _ _ _ c.loop-arm.given c.labels_own.new.given c.loop-arm.count _ t ns
    (λ ms before. c.loop-arm.invariant k t ms s before)
    (λ vs ms given h. c.in_ok-own.ensures k t vs ms s given h)
    c.in_ok-count.ensures c.in_ok-add_labels.ensures all

pub loop-arm-preserved : goal.loop-arm-preserved
loop-arm-preserved c = λ k t ns s all.
    arms-more k c.loop-arm.yielded c.in-Some.arm _ _ _ c.loop-arm.given c.labels_own.new.given c.loop-arm.count _ t ns
    (λ ms before. c.loop-arm.invariant k t ms s before)
    (λ vs ms given h. c.in_ok-own.ensures k t vs ms s given h)
    c.in_ok-count.ensures c.in_ok-add_labels.ensures all

pub returns : goal.returns
returns c = λ k t ns s all.
    let given = c.into_iter-arm-iterator.ensures.into_iter_gives in
    let end = YieldsList-end (YieldsList-from_vec {s = c.into_iter-arm-iterator.result} c.args.arms.items given.0 (given.1 ∙ c.args.arms.ok.0)) c.loop-arm.yielded c.loop-arm.arm-iterator c.loop-arm.yielded_by _ c.next.new.self c.in-None.is c.next.ensures.steps in
    let are : c.args.arms.items ≡ c.loop-arm.yielded = sym end.0 ∙ map-same c.loop-arm.yielded in
    let P : List Arm → Type 0 = λ xs. AllShow (ShowsArmLabels k) xs ns in
    (c.loop-arm.invariant k t ns s (subst P are all)).entries
