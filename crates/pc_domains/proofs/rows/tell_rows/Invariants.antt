use Rattle.std.proofs.Common.{◌≡◌, ◌≤◌, length}
use Rattle.pc_places.specs.Places.{known}
use Rattle.pc_domains.specs.Rows.{TellsRows}
use Rattle.pc_domains.proofs.rows.tell_rows.Given as goal

abbrev pub invariant-loop-i : goal.invariant-loop-i
invariant-loop-i l = record {
  from : l.from ≤ l.i;
  count : l.count ≡ length (known l.fn.tables).table.domains;
  rows : TellsRows l.closed l.types l.from l.i l.fn.tables l.tables;
}
