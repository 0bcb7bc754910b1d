use Rattle.pc_carrying.specs.RoutineLaws.{routines-inner, routine-behind}
use Rattle.pc_carrying.proofs.laws.routines_keep_names_good.Goals as goal

pub returns : goal.returns
returns c = record { first = routines-inner; behind = routine-behind }
