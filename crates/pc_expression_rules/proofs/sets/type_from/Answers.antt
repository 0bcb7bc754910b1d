use Rattle.std.proofs.Common.{◌∷◌, subst}
use Rattle.pc_facts.specs.Shows.{AllShow}
use Rattle.pc_expression_rules.specs.Members.{ShowsOrdinal}
use Rattle.pc_expression_rules.proofs.MemberSteps.{members-shown, unknown-first}
use Rattle.pc_expression_rules.proofs.sets.type_from.Goals as goal

pub returns-in-Some : goal.returns-in-Some
returns-in-Some c = λ k ns t h.
    members-shown k _ _ c.args.rest.now ns _ _ t (subst (λ o. AllShow (ShowsOrdinal k.table) (o ∷ c.args.rest.now) ns) c.in-Some.is h) c.are_compatible.ensures c.set_where.ensures

pub returns-in-None : goal.returns-in-None
returns-in-None c = λ k ns t h. unknown-first k c.args.rest.now ns (subst (λ o. AllShow (ShowsOrdinal k.table) (o ∷ c.args.rest.now) ns) c.in-None.is h)
