use Rattle.std.proofs.Common.{List, Option}
use Rattle.pc_types.specs.Rows.{seen}
use Rattle.pc_types.specs.Shapes.{Shape}
use Rattle.pc_rules.specs.Attributes.{Node}
use Rattle.pc_rules.specs.Meanings.{Value as Labelled}
use Rattle.pc_facts.specs.Known.{Known}
use Rattle.pc_facts.specs.Shows.{ShowsValues, AllShow}
use Rattle.pc_statement_rules.specs.Cases.{IsSelected}
use Rattle.pc_statement_rules.specs.Given.{ShowsGiven}
use Rattle.pc_statement_rules.proofs.CaseSteps.{LabelsSoFar}
use Rattle.pc_statement_rules.proofs.cases.labels_own.Given as goal

abbrev pub invariant-loop-value : goal.invariant-loop-value
invariant-loop-value l = (k : Known) (t : Option Shape) (vs : List Labelled) (ns : List Node) → IsSelected k (seen l.types) l.texts l.of t → ShowsGiven k l.initial.given vs →
    AllShow (λ v n. ShowsValues k v n.at.constant) l.yielded ns → LabelsSoFar k l.entries.items l.given l.count t vs ns
