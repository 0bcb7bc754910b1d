use Rattle.pc_parse.proofs.SortClasses.{sorts_are_classes}
use Rattle.pc_parse.proofs.laws.sorts_are_classes.Goals as goal

pub returns : goal.returns
returns c = sorts_are_classes
