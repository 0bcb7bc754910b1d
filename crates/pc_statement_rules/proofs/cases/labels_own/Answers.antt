use Rattle.std.proofs.Common.{◌≡◌, List, Option, subst, sym, ◌∙◌}
use Rattle.std.proofs.lemmas.Iterator.Consumers.{YieldsList-end}
use Rattle.std.proofs.lemmas.Iterator.Adapters.{YieldsList-from_vec}
use Rattle.pc_facts.specs.Shows.{ShowsValues, AllShow}
use Rattle.pc_facts.specs.declared.sighting.Value.{Value}
use Rattle.pc_statement_rules.proofs.HandedSteps.{map-same}
use Rattle.pc_statement_rules.proofs.CaseSteps.{labels-row, labels-none, labels-more}
use Rattle.pc_statement_rules.proofs.cases.labels_own.Goals as goal

pub loop-value-init : goal.loop-value-init
loop-value-init c = λ k t vs ns s g all. labels-none k _ _ t vs ns c.new-entries.ensures.items g all

pub loop-value-preserved : goal.loop-value-preserved
loop-value-preserved c = λ k t vs ns s g all.
    labels-more k c.loop-value.yielded c.in-Some.value _ _ _ c.loop-value.given c.label_own.new.given c.loop-value.count _ t vs ns
    (λ ms before. c.loop-value.invariant k t vs ms s g before)
    (λ ws v given h. c.in_ok-own.ensures k t ws v s given h)
    c.in_ok-count.ensures c.in_ok-add_kid.ensures all

pub returns : goal.returns
returns c = λ k t vs ns s g all.
    let given = c.into_iter-value-iterator.ensures.into_iter_gives in
    let end = YieldsList-end (YieldsList-from_vec {s = c.into_iter-value-iterator.result} c.args.values.items given.0 (given.1 ∙ c.args.values.ok.0)) c.loop-value.yielded c.loop-value.value-iterator c.loop-value.yielded_by _ c.next.new.self c.in-None.is c.next.ensures.steps in
    let are : c.args.values.items ≡ c.loop-value.yielded = sym end.0 ∙ map-same c.loop-value.yielded in
    let P : List (Option Value) → Type 0 = λ xs. AllShow (λ v n. ShowsValues k v n.at.constant) xs ns in
    let r = c.loop-value.invariant k t vs ns s g (subst P are (labels-row k c.args.values.items ns all)) in
    record { entries = r.entries; given = r.given }
