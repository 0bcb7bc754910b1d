use Rattle.std.proofs.Common.{◌≡◌, take, map}
use Rattle.pc_growth.specs.Grows.{Begins}
use Rattle.pc_sightings.specs.TouchedLog.{numbers_of}
use Rattle.pc_statements.proofs.noting.catch_up.Given as goal

abbrev pub invariant-loop-i : goal.invariant-loop-i
invariant-loop-i l = Begins l.initial.own (map numbers_of l.touched) → l.own ≡ take l.i (map numbers_of l.touched)
