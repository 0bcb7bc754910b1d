use Rattle.std.proofs.Common.{◌≡◌, ◌+◌, List, length}
use Rattle.pc_types.specs.Rows.{seen}
use Rattle.pc_rules.specs.Attributes.{Node, each_kid}
use Rattle.pc_rules.specs.StructuredTypes.{index_type_entries}
use Rattle.pc_facts.specs.Known.{Known}
use Rattle.pc_facts.specs.Shows.{AllShow}
use Rattle.pc_type_rules.specs.Arrays.{ShowsAt}
use Rattle.pc_type_rules.proofs.arrays.index_entries.Given as goal

abbrev pub invariant-loop-index : goal.invariant-loop-index
invariant-loop-index l =
    ((k : Known) (nodes : List Node) → k.table ≡ seen l.types → AllShow (ShowsAt k) l.yielded nodes → l.entries.items ≡ each_kid index_type_entries 1 nodes) × (l.i ≡ length l.yielded + 1)
