use Rattle.std.proofs.Common.{◌≡◌, ◌++◌, take, map}
use Rattle.pc_sightings.specs.TouchedLog.{numbers_of}
use Rattle.pc_statement_parts.proofs.noting.note_all.Given as goal

abbrev pub invariant-loop-i : goal.invariant-loop-i
invariant-loop-i l = l.touched ≡ l.initial.touched ++ take l.i (map numbers_of l.variables)
