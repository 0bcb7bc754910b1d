-- Arms with the values of their labels.
use Rattle.std.proofs.Common.{List, [], ◌∷◌}
use Rattle.pc_rules.specs.Attributes.{Node}
use Rattle.pc_facts.specs.Known.{Known}
use Rattle.pc_facts.specs.Shows.{ShowsArm, AllShow}
use Rattle.pc_facts.specs.declared.facts.Arm.{Arm}
use Rattle.pc_statement_rules.specs.Given.{ShowsArmLabels}

-- arms that show nodes have the values of their labels
pub arms-labels : (k : Known) (gs : List Arm) (ns : List Node) → AllShow (ShowsArm k) gs ns → AllShow (ShowsArmLabels k) gs ns
arms-labels k [] [] h = tt
arms-labels k [] (n ∷ ns) h = absurd h
arms-labels k (g ∷ gs) [] h = absurd h
arms-labels k (g ∷ gs) (n ∷ ns) h = (h.0.labels, arms-labels k gs ns h.1)
