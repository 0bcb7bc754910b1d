use Rattle.std.proofs.Common.{List, [], ◌∷◌, ◌++◌, length, sym, subst}
use Rattle.pc_types.specs.Rows.{Kept, seen, row_domain, IsDomainRow, IsInOrder}
use Rattle.pc_types.specs.Growth.{AddsDomain}
use Rattle.pc_types.specs.declared.types.DomainRow.{DomainRow}
use Rattle.pc_types.specs.contracts.types.Types.{the_view}
use Rattle.pc_types.proofs.GrowthLaws.{in_order-domain, seen-domain, domain-there}
use Rattle.pc_types.proofs.types.Types.push_domain.Goals as goal

pub invariant_of-self-2 : goal.invariant_of-self-2
invariant_of-self-2 c =
    subst (λ (domains : List DomainRow). IsInOrder (record { rows = c.self.inside.rows.items; owners = c.self.inside.owners.items; domains = domains })) (sym c.in_ok-push.ensures.items)
    (in_order-domain (the_view c.self.inside) c.args.row c.self.invariant
    (domain-there (the_view c.self.inside) c.args.row (subst (λ (k : Kept). IsDomainRow (length (seen k).owners) (length (seen k).shapes) c.args.row) (sym c.self.view_is) c.requires)))

pub returns-clause-added : goal.returns-clause-added
returns-clause-added c =
    subst (λ (domains : List DomainRow). AddsDomain (seen c.args.self.now) (seen (record { rows = c.self.inside.rows.items; owners = c.self.inside.owners.items; domains = domains })) (row_domain (seen c.args.self.now).owners (seen c.args.self.now).shapes c.args.row)) (sym c.in_ok-push.ensures.items)
    (subst (λ (k : Kept). AddsDomain (seen k) (seen (record { rows = c.self.inside.rows.items; owners = c.self.inside.owners.items; domains = c.self.inside.domains.items ++ c.args.row ∷ [] })) (row_domain (seen k).owners (seen k).shapes c.args.row)) c.self.view_is
    (seen-domain (the_view c.self.inside) c.args.row c.self.invariant))
