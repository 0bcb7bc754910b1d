use Rattle.std.proofs.Common.{List, [], ◌∷◌, ◌++◌, sym, subst}
use Rattle.pc_types.specs.Rows.{Kept, seen, seen_owner, IsInOrder}
use Rattle.pc_types.specs.Growth.{AddsOwner}
use Rattle.pc_types.specs.declared.owner.Owner.{Owner}
use Rattle.pc_types.specs.contracts.types.Types.{the_view}
use Rattle.pc_types.proofs.GrowthLaws.{in_order-owner, seen-owner}
use Rattle.pc_types.proofs.types.Types.push_owner.Goals as goal

pub invariant_of-self-2 : goal.invariant_of-self-2
invariant_of-self-2 c =
    subst (λ (owners : List Owner). IsInOrder (record { rows = c.self.inside.rows.items; owners = owners; domains = c.self.inside.domains.items })) (sym c.in_ok-push.ensures.items)
    (in_order-owner (the_view c.self.inside) c.args.owner c.self.invariant)

pub returns-clause-added : goal.returns-clause-added
returns-clause-added c =
    subst (λ (owners : List Owner). AddsOwner (seen c.args.self.now) (seen (record { rows = c.self.inside.rows.items; owners = owners; domains = c.self.inside.domains.items })) (seen_owner c.args.owner)) (sym c.in_ok-push.ensures.items)
    (subst (λ (k : Kept). AddsOwner (seen k) (seen (record { rows = c.self.inside.rows.items; owners = c.self.inside.owners.items ++ c.args.owner ∷ []; domains = c.self.inside.domains.items })) (seen_owner c.args.owner)) c.self.view_is
    (seen-owner (the_view c.self.inside) c.args.owner c.self.invariant))
