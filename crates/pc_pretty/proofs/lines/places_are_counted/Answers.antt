use Rattle.pc_pretty.proofs.CountedLines.{places_are_counted}
use Rattle.pc_pretty.proofs.lines.places_are_counted.Goals as goal

pub returns : goal.returns
returns c = places_are_counted
