use Rattle.std.proofs.Common.{[], sym}
use Rattle.pc_rules.specs.Attributes.{each_kid}
use Rattle.pc_rules.specs.Statements.{opened_entries}
use Rattle.pc_statement_rules.proofs.HandedSteps.{opens_on}
use Rattle.pc_statement_rules.proofs.accesses.Opening.finish.Goals as goal

pub returns : goal.returns
returns c = λ k w ns s. opens_on k _ _ w ns (c.statement.ensures k w ns (each_kid opened_entries 1 ns) [] (sym s.hole) s.entries)
