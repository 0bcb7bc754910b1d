use Rattle.std.proofs.Common.{List, take, ◌++◌, ◌∷◌, [], subst, sym}
use Rattle.std.proofs.lemmas.List.{take_all}
use Rattle.pc_facts.specs.Shows.{ShowsArgument, AllShow}
use Rattle.pc_facts.specs.declared.facts.Argument.{Argument}
use Rattle.pc_call_rules.proofs.TouchSteps.{taken, read_variables-more}
use Rattle.pc_call_rules.proofs.lists.read_variables.Goals as goal

pub loop-passed-preserved : goal.loop-passed-preserved
loop-passed-preserved c = λ k ns shown.
    read_variables-more k (take c.loop-passed.passed-index c.args.args.now) c.passed-item.result _ _ _ (λ ms h. c.loop-passed.invariant k ms h) (λ ws h. c.in_ok-touch_if.ensures k ws h) ns
    (subst (λ (x : List Argument). AllShow (ShowsArgument k) x ns) (taken c.args.args.now c.loop-passed.passed-index c.passed-item.result c.loop-passed-test.true c.passed-item.is) shown)

pub returns : goal.returns
returns c = λ k ns shown.
    c.loop-passed.invariant k ns
    (subst (λ (x : List Argument). AllShow (ShowsArgument k) x ns) (sym (take_all c.loop-passed.passed-index c.args.args.now c.loop-passed-test.false)) shown)
