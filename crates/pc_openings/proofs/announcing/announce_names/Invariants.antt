use Rattle.std.proofs.Common.{take}
use Rattle.pc_names.specs.Standing.{meant}
use Rattle.pc_openings.specs.Announced.{Announced}
use Rattle.pc_openings.specs.Declaring.{all_listed}
use Rattle.pc_openings.proofs.announcing.announce_names.Given as goal

abbrev pub invariant-loop-name : goal.invariant-loop-name
invariant-loop-name l = Announced l.block.0 (all_listed (meant l.class) (take l.name-index l.name-items)) l.initial.names l.names
