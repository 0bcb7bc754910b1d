use Rattle.std.proofs.Common.{◌≡◌, List, take}
use Rattle.pc_rules.specs.Attributes.{Node}
use Rattle.pc_rules.specs.HandedOn as handed
use Rattle.pc_facts.specs.Known.{Known}
use Rattle.pc_facts.specs.Shows.{ShowsArgument, AllShow}
use Rattle.pc_call_rules.proofs.lists.any_hole.Given as goal

abbrev pub invariant-loop-passed : goal.invariant-loop-passed
invariant-loop-passed l = (k : Known) (ns : List Node) → AllShow (ShowsArgument k) (take l.passed-index l.args) ns → l.hole ≡ handed.any_hole ns
