use Rattle.pc_statement_rules.proofs.accesses.Opening.new.Goals as goal

pub returns : goal.returns
returns c = λ k. let s = c.new.ensures k in record { hole = s.hole; entries = s.entries; count = s.count }
