use Rattle.pc_environment.specs.RowLaws.{sees-after}
use Rattle.pc_environment.proofs.laws.statement_parts_see_alike.Goals as goal

pub returns : goal.returns
returns c = sees-after
