use Rattle.std.proofs.Common.{List, Option}
use Rattle.pc_types.specs.Rows.{seen}
use Rattle.pc_types.specs.Shapes.{Shape}
use Rattle.pc_rules.specs.Attributes.{Node}
use Rattle.pc_facts.specs.Known.{Known}
use Rattle.pc_facts.specs.Shows.{AllShow}
use Rattle.pc_statement_rules.specs.Cases.{IsSelected}
use Rattle.pc_statement_rules.specs.Given.{ShowsArmLabels}
use Rattle.pc_statement_rules.proofs.CaseSteps.{ArmsSoFar}
use Rattle.pc_statement_rules.proofs.cases.arms_own.Given as goal

abbrev pub invariant-loop-arm : goal.invariant-loop-arm
invariant-loop-arm l = (k : Known) (t : Option Shape) (ns : List Node) → IsSelected k (seen l.types) l.texts l.of t →
    AllShow (ShowsArmLabels k) l.yielded ns → ArmsSoFar k l.entries.items l.given l.count t ns
