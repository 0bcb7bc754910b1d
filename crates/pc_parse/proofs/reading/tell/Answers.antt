use Rattle.pc_parse.proofs.Loop.{told_within, told_over, kept_depth, kept_size}
use Rattle.pc_parse.proofs.reading.tell.Goals as goal

pub returns-in-Some : goal.returns-in-Some
returns-in-Some c = λ t e. told_within t c.args.cut e c.in-Some.tree c.in-Some.is

pub returns-in-None : goal.returns-in-None
returns-in-None c = λ t e. (told_over t c.args.cut e c.in-None.is, kept_depth t c.args.cut e, kept_size t c.args.cut e)
