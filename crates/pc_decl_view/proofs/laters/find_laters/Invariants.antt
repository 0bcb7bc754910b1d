use Rattle.std.proofs.Common.{◌≤◌, length, drop}
use Rattle.pc_decl_view.specs.KeptLines.{is_later_of}
use Rattle.pc_decl_view.proofs.LaterTables.{LeadsTo}
use Rattle.pc_decl_view.proofs.laters.find_laters.Given as goal

-- the table leads to the first later declaration of each owner among the routines that were passed
abbrev pub invariant-loop-left : goal.invariant-loop-left
invariant-loop-left l = record {
  within : l.left ≤ length l.routines;
  leads : LeadsTo is_later_of l.routines l.laters.items (drop l.left l.routines);
}

abbrev pub decreases-loop-left : goal.decreases-loop-left
decreases-loop-left l = l.left
