use Rattle.std.proofs.Common.{◌≡◌, ◌+◌, List, length}
use Rattle.pc_types.specs.Rows.{seen}
use Rattle.pc_rules.specs.Attributes.{Node, each_kid}
use Rattle.pc_facts.specs.Known.{Known}
use Rattle.pc_facts.specs.Shows.{ShowsArgument, AllShow}
use Rattle.pc_call_rules.specs.Purposes.{entries_by}
use Rattle.pc_call_rules.proofs.purpose.each_argument.Given as goal

abbrev pub invariant-loop-passed : goal.invariant-loop-passed
invariant-loop-passed l = record {
  counted : l.number ≡ l.first + length l.yielded;
  found : (k : Known) (ns : List Node) → k.table ≡ seen l.types → AllShow (ShowsArgument k) l.yielded ns → l.entries.items ≡ each_kid (entries_by l.purpose) l.first ns;
}
