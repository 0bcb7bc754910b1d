use Rattle.pc_places.specs.Places.{known}
use Rattle.pc_counts.proofs.counts.Counts.count_parameters.Goals as goal

pub returns : goal.returns
returns c = λ es distinct shows start. c.in_ok-count_each.ensures (known c.args.tables.now) c.args.tables.now.declarations.items es distinct shows start
