use Rattle.std.proofs.Common.{take}
use Rattle.pc_own_names.specs.Noting.{Notes}
use Rattle.pc_own_names.specs.Walking.{all_of_kind, names_here}
use Rattle.pc_own_names.proofs.walking.note_names.Given as goal

abbrev pub invariant-loop-name : goal.invariant-loop-name
invariant-loop-name l = Notes (all_of_kind l.kind (names_here (take l.name-index l.name-items))) l.initial.names.texts l.names.texts l.initial.found.items l.found.items
