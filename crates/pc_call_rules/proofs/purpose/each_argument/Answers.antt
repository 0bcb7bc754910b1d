use Rattle.std.proofs.Common.{arith}
use Rattle.std.proofs.lemmas.List.{length_push}
use Rattle.pc_call_rules.specs.Purposes.{entries_by}
use Rattle.pc_call_rules.proofs.ListSteps.{each_kid-next}
use Rattle.pc_call_rules.proofs.purpose.each_argument.Goals as goal

pub loop-passed-preserved : goal.loop-passed-preserved
loop-passed-preserved c = record {
  counted = omega (arith, length_push c.loop-passed.yielded c.in-Some.passed, c.in_ok-number.ensures, c.loop-passed.invariant.counted);
  found = λ k ns same shown.
      each_kid-next k (entries_by c.args.purpose) c.args.first c.loop-passed.yielded c.in-Some.passed c.loop-passed.number c.loop-passed.entries.items _ _
      c.loop-passed.invariant.counted (λ ms h. c.loop-passed.invariant.found k ms same h) (λ n h. c.in_ok-of_one.ensures k n same h) c.in_ok-add_kid.ensures ns shown;
}
