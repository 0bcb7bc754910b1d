use Rattle.std.proofs.Common.{◌≡◌, List, [], Option}
use Rattle.pc_types.specs.Rows.{seen}
use Rattle.pc_types.specs.Shapes.{Typed}
use Rattle.pc_rules.specs.Attributes.{Node}
use Rattle.pc_facts.specs.Known.{Known}
use Rattle.pc_facts.specs.Shows.{ShowsNode, AllShow}
use Rattle.pc_access_rules.specs.Indexing.{ShowsIndexed}
use Rattle.pc_access_rules.proofs.indexed.index.Given as goal

abbrev pub invariant-loop-index : goal.invariant-loop-index
invariant-loop-index l =
    (k : Known) (t : Option Typed) (ns : List Node) → k.table ≡ seen l.types → ShowsIndexed k l.initial.read t [] → AllShow (λ f n. ShowsNode k f n.at) l.yielded ns → ShowsIndexed k l.read t ns
