use Rattle.std.proofs.Common.{◌≡◌, List, take}
use Rattle.pc_rules.specs.Attributes.{Node}
use Rattle.pc_rules.specs.RequiredProcedures as procedures
use Rattle.pc_facts.specs.Known.{Known}
use Rattle.pc_facts.specs.Shows.{ShowsArgument, AllShow}
use Rattle.pc_call_rules.specs.Parameters.{Logs}
use Rattle.pc_call_rules.proofs.lists.read_variables.Given as goal

abbrev pub invariant-loop-passed : goal.invariant-loop-passed
invariant-loop-passed l = (k : Known) (ns : List Node) → AllShow (ShowsArgument k) (take l.passed-index l.args) ns → Logs k l.initial.touched.items l.touched.items (procedures.read_variables ns)
