use Rattle.std.proofs.Common.{◌≡◌, List, length}
use Rattle.pc_types.specs.Rows.{seen}
use Rattle.pc_rules.specs.Attributes.{Node}
use Rattle.pc_rules.specs.Meanings as rules
use Rattle.pc_rules.specs.Arguments as rule
use Rattle.pc_facts.specs.Known.{Known}
use Rattle.pc_facts.specs.Shows.{ShowsFormals, ShowsArgument, AllShow}
use Rattle.pc_call_rules.proofs.passing.arguments.Given as goal

abbrev pub invariant-loop-passed : goal.invariant-loop-passed
invariant-loop-passed l = record {
  counted : l.number ≡ length l.yielded;
  found : (k : Known) (fs : List rules.Formal) (ns : List Node) → k.table ≡ seen l.types → ShowsFormals k l.formals fs → AllShow (ShowsArgument k) l.yielded ns → l.entries.items ≡ rule.arguments_entries fs 1 ns;
}
