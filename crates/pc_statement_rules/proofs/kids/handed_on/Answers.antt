use Rattle.std.proofs.Common.{[]}
use Rattle.pc_statement_rules.proofs.kids.handed_on.Goals as goal

pub returns : goal.returns
returns c = λ k w ns all. c.finish.ensures k w ns (c.in_ok-add_all.ensures k [] ns (c.new-handing.ensures k) all)
