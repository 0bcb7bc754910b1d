use Rattle.pc_pretty.proofs.Back.{tree_reads_back}
use Rattle.pc_pretty.proofs.round_trip.printed_reads_back.Goals as goal

pub returns : goal.returns
returns c = tree_reads_back c.one_tree.ensures c.sorts_are_classes.ensures
