use Rattle.pc_scope.proofs.Parts.{none-smaller}
use Rattle.pc_scope.proofs.headings.routines_of.Goals as goal

pub returns-in-None-clause-smaller : goal.returns-in-None-clause-smaller
returns-in-None-clause-smaller c = none-smaller c.args.tree.now
