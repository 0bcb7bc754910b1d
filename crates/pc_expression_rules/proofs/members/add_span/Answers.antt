use Rattle.std.proofs.Common.{◌∷◌, [], subst, append_assoc}
use Rattle.pc_facts.specs.Shows.{AllShow}
use Rattle.pc_expression_rules.specs.Members.{ShowsOrdinal}
use Rattle.pc_expression_rules.proofs.MemberSteps.{both-ends}
use Rattle.pc_expression_rules.proofs.members.add_span.Goals as goal

pub returns-clause-entries : goal.returns-clause-entries
returns-clause-entries c = λ k a b t l r.
    both-ends a b _ _ _ _ _ c.new-entries.ensures.items (c.in_ok-first.ensures.entries k a t l) (c.in_ok-second.ensures.entries k b t r) c.in_ok-add_kid.ensures c.in_ok-add_kid-2.ensures

pub returns-clause-types : goal.returns-clause-types
returns-clause-types c = λ k os a b t shown l r.
    subst (AllShow (ShowsOrdinal k.table) _) (append_assoc os (a ∷ []) (b ∷ [])) (c.in_ok-second.ensures.types k _ b t (c.in_ok-first.ensures.types k os a t shown l) r)
