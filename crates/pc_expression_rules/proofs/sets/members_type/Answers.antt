use Rattle.std.proofs.Common.{subst, None}
use Rattle.pc_facts.specs.Shows.{AllShow}
use Rattle.pc_expression_rules.specs.Members.{ShowsOrdinal}
use Rattle.pc_expression_rules.proofs.MemberSteps.{first-and-rest}
use Rattle.pc_expression_rules.proofs.sets.members_type.Goals as goal

pub returns-in-len1-up : goal.returns-in-len1-up
returns-in-len1-up c = λ k ns t h.
    c.type_from.ensures k ns t (subst (λ os. AllShow (ShowsOrdinal k.table) os ns) (first-and-rest c.args.of.now None c.in-len1-up.len_at_least) h)
