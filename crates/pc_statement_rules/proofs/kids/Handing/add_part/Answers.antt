use Rattle.pc_statement_rules.proofs.HandedSteps.{hole-more, entries-more, count-more}
use Rattle.pc_statement_rules.proofs.kids.Handing.add_part.Goals as goal

pub returns : goal.returns
returns c = λ of_kid ns n s hole part. record {
  hole = hole-more ns n _ _ _ s.hole hole c.either-self.ensures;
  entries = entries-more of_kid ns n _ _ _ _ _ s.entries part s.count c.in_ok-i.ensures c.in_ok-add_kid.ensures;
  count = count-more ns n _ _ s.count c.in_ok-i.ensures;
}
