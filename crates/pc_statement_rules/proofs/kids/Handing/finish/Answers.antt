use Rattle.std.proofs.Common.{[], sym}
use Rattle.pc_rules.specs.HandedOn.{kid_entries}
use Rattle.pc_statement_rules.proofs.HandedSteps.{hands_on}
use Rattle.pc_statement_rules.proofs.kids.Handing.finish.Goals as goal

pub returns : goal.returns
returns c = λ k w ns s. hands_on k _ _ w ns (c.statement.ensures k w ns (kid_entries 1 ns) [] (sym s.hole) s.entries)
