use Rattle.std.proofs.Common.{◌≤◌, length, drop}
use Rattle.std.specs.Prelude.{reverse}
use Rattle.pc_syntax.specs.Plain.{forest_of}
use Rattle.pc_scope.specs.Headings.{headings_in}
use Rattle.pc_places.specs.Places.{Keeps}
use Rattle.pc_routines.specs.Heads.{ShowsHeads}
use Rattle.pc_routines.specs.Later.{HasLater}
use Rattle.pc_routines.proofs.gathering.heads.Given as goal

abbrev pub invariant-loop-i : goal.invariant-loop-i
invariant-loop-i l = record {
  within : l.i ≤ length l.kids;
  shows : ShowsHeads l.tables.names.texts (reverse l.heads.items) (headings_in (forest_of (drop l.i l.kids)));
  later : HasLater l.tables.names.texts l.later (headings_in (forest_of (drop l.i l.kids)));
  keeps : Keeps l.initial.tables l.tables;
}

abbrev pub decreases-loop-i : goal.decreases-loop-i
decreases-loop-i l = l.i
