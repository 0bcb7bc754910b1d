use Rattle.std.proofs.Common.{take}
use Rattle.pc_definitions.specs.Variables.{TellsVariables}
use Rattle.pc_declaration_parts.proofs.telling.tell_variables.Given as goal

abbrev pub invariant-loop-name : goal.invariant-loop-name
invariant-loop-name l = TellsVariables l.block.0 l.owner l.of (take l.name-index l.names) l.initial.tables l.tables
