use Rattle.std.proofs.Common.{List, take, ◌++◌, ◌∷◌, [], subst}
use Rattle.pc_facts.specs.Shows.{ShowsArgument, AllShow}
use Rattle.pc_facts.specs.declared.facts.Argument.{Argument}
use Rattle.pc_call_rules.proofs.TouchSteps.{taken, any_hole-more}
use Rattle.pc_call_rules.proofs.lists.any_hole.Goals as goal

pub loop-passed-preserved : goal.loop-passed-preserved
loop-passed-preserved c = λ k ns shown.
    any_hole-more k (take c.loop-passed.passed-index c.args.args.now) c.passed-item.result _ _ (λ ms h. c.loop-passed.invariant k ms h) c.either-hole.ensures ns
    (subst (λ (x : List Argument). AllShow (ShowsArgument k) x ns) (taken c.args.args.now c.loop-passed.passed-index c.passed-item.result c.loop-passed-test.true c.passed-item.is) shown)
