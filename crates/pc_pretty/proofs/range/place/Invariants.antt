use Rattle.pc_pretty.proofs.LinesAndColumns.{Passed}
use Rattle.pc_pretty.proofs.range.place.Given as goal

abbrev pub invariant-loop-at : goal.invariant-loop-at
invariant-loop-at l = Passed l.text l.line l.column l.on_line l.at_column l.at
