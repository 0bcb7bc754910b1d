use Rattle.std.proofs.Common.{length}
use Rattle.pc_syntax.specs.Words.{lowered}
use Rattle.pc_types.specs.Rows.{seen}
use Rattle.pc_sightings.proofs.OpenedSteps.{KeepsEntry}
use Rattle.pc_sightings.proofs.opened.field_at.Given as goal

-- what is left has the name as the whole has it
abbrev pub invariant-loop-innermost : goal.invariant-loop-innermost
invariant-loop-innermost l = KeepsEntry (seen l.types) l.opened l.rest (lowered l.word)

abbrev pub decreases-loop-innermost : goal.decreases-loop-innermost
decreases-loop-innermost l = length l.rest
