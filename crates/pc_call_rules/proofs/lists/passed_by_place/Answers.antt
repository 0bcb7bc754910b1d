use Rattle.std.proofs.Common.{◌≡◌, ◌≤◌, ℕ, List, take, length, ◌++◌, ◌∷◌, [], ◌∙◌, ap, sym, subst, arith}
use Rattle.std.proofs.lemmas.List.{length-take-le, take_all}
use Rattle.pc_facts.specs.Shows.{ShowsArgument, AllShow}
use Rattle.pc_facts.specs.declared.facts.Argument.{Argument}
use Rattle.pc_call_rules.proofs.TouchSteps.{taken, passed_by_place-more}
use Rattle.pc_call_rules.proofs.lists.passed_by_place.Goals as goal

pub loop-passed-preserved : goal.loop-passed-preserved
loop-passed-preserved c = record {
  counted = omega (arith, c.in_ok-number.ensures, c.loop-passed.invariant.counted);
  found = λ k fs ns formals shown.
      let h : c.loop-passed.passed-index ≤ length c.args.args.now = omega (arith, c.loop-passed-test.true) in
      let counted : c.loop-passed.number ≡ length (take c.loop-passed.passed-index c.args.args.now) = c.loop-passed.invariant.counted ∙ sym (length-take-le c.loop-passed.passed-index c.args.args.now h) in
      passed_by_place-more k c.args.formals.now fs (take c.loop-passed.passed-index c.args.args.now) c.passed-item.result c.loop-passed.number c.formal_at.result c.is_by_place.result _ _ _
      counted c.formal_at.ensures c.is_by_place.ensures formals (λ ms h. c.loop-passed.invariant.found k fs ms formals h) (λ ws h. c.in_ok-touch_if.ensures k ws h) ns
      (subst (λ (x : List Argument). AllShow (ShowsArgument k) x ns) (taken c.args.args.now c.loop-passed.passed-index c.passed-item.result c.loop-passed-test.true c.passed-item.is) shown);
}

pub returns : goal.returns
returns c = λ k fs ns formals shown.
    c.loop-passed.invariant.found k fs ns formals
    (subst (λ (x : List Argument). AllShow (ShowsArgument k) x ns) (sym (take_all c.loop-passed.passed-index c.args.args.now c.loop-passed-test.false)) shown)
