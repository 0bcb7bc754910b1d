use Rattle.std.proofs.Common.{◌≡◌, List, take}
use Rattle.pc_rules.specs.Attributes.{Node}
use Rattle.pc_rules.specs.Meanings as rules
use Rattle.pc_rules.specs.Arguments as rule
use Rattle.pc_facts.specs.Known.{Known}
use Rattle.pc_facts.specs.Shows.{ShowsFormals, ShowsArgument, AllShow}
use Rattle.pc_call_rules.specs.Parameters.{Logs}
use Rattle.pc_call_rules.proofs.lists.passed_by_place.Given as goal

abbrev pub invariant-loop-passed : goal.invariant-loop-passed
invariant-loop-passed l = record {
  counted : l.number ≡ l.passed-index;
  found : (k : Known) (fs : List rules.Formal) (ns : List Node) → ShowsFormals k l.formals fs → AllShow (ShowsArgument k) (take l.passed-index l.args) ns →
      Logs k l.initial.touched.items l.touched.items (rule.passed_by_place fs ns);
}
