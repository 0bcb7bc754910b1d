use Rattle.std.proofs.Common.{List, ◌++◌}
use Rattle.pc_rules.specs.Attributes.{Node}
use Rattle.pc_facts.specs.Known.{Known}
use Rattle.pc_facts.specs.Shows.{ShowsNode, AllShow}
use Rattle.pc_statement_rules.specs.Handed.{ShowsHanded}
use Rattle.pc_statement_rules.proofs.kids.Handing.add_all.Given as goal

abbrev pub invariant-loop-kid : goal.invariant-loop-kid
invariant-loop-kid l = (k : Known) (ns ms : List Node) → ShowsHanded k l.initial.self ns → AllShow (λ g n. ShowsNode k g n.at) l.yielded ms → ShowsHanded k l.self (ns ++ ms)
