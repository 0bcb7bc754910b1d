use Rattle.pc_rules.specs.Statements.{opened_entries}
use Rattle.pc_statement_rules.proofs.accesses.Opening.add.Goals as goal

pub returns : goal.returns
returns c = λ k ns n same s h. c.in_ok-add_part.ensures opened_entries ns n s h.hole (c.in_ok-part.ensures k n same h)
