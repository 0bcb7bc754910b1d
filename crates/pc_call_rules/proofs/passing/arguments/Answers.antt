use Rattle.std.proofs.Common.{arith, subst, sym, Option}
use Rattle.std.proofs.lemmas.List.{length_push}
use Rattle.pc_call_rules.proofs.ListSteps.{arguments-more}
use Rattle.pc_facts.specs.declared.sighting.Formal.{Formal}
use Rattle.pc_call_rules.specs.Parameters.{ShowsFormal}
use Rattle.pc_call_rules.proofs.passing.arguments.Goals as goal

pub loop-passed-preserved : goal.loop-passed-preserved
loop-passed-preserved c = record {
  counted = omega (arith, length_push c.loop-passed.yielded c.in-Some.passed, c.in_ok-number.ensures, c.loop-passed.invariant.counted);
  found = λ k fs ns same formals shown.
      arguments-more k c.args.formals.now fs c.loop-passed.yielded c.in-Some.passed c.loop-passed.number c.in_ok-number.number c.loop-passed.entries.items _ _
      c.loop-passed.invariant.counted c.in_ok-number.ensures formals (λ ms h. c.loop-passed.invariant.found k fs ms same formals h)
      (λ f n g h. c.in_ok-of_one.ensures k f n same (subst (λ (x : Option Formal). ShowsFormal k x f) (sym c.formal_at.ensures) g) h) c.in_ok-add_kid.ensures ns shown;
}
