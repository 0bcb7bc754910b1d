use Rattle.std.proofs.Common.{◌<◌, List, length, option_map, sym, subst, arith}
use Rattle.pc_types.specs.Table.{numbered}
use Rattle.pc_types.specs.Rows.{Kept, seen, TargetThere, IsInOrder}
use Rattle.pc_types.specs.Growth.{Retargets}
use Rattle.pc_types.specs.declared.types.DomainRow.{DomainRow}
use Rattle.pc_types.specs.contracts.types.Types.{the_view}
use Rattle.pc_types.proofs.GrowthLaws.{length-domains}
use Rattle.pc_types.proofs.TargetsLaws.{with_target, set-target, in_order-target, seen-target}
use Rattle.pc_types.proofs.types.Types.set_domain.Goals as goal

pub index_mut-requires : goal.index_mut-requires
index_mut-requires c =
    let there : c.args.id.0 < length (seen (the_view c.self.inside)).domains = subst (λ (k : Kept). c.args.id.0 < length (seen k).domains) (sym c.self.view_is) c.requires.there in
    omega (arith, there, length-domains (the_view c.self.inside), c.self.inside.domains.ok.0)

pub invariant_of-self : goal.invariant_of-self
invariant_of-self c =
    let there : c.args.id.0 < length (seen (the_view c.self.inside)).domains = subst (λ (k : Kept). c.args.id.0 < length (seen k).domains) (sym c.self.view_is) c.requires.there in
    subst (λ (ds : List DomainRow). IsInOrder (record { rows = c.self.inside.rows.items; owners = c.self.inside.owners.items; domains = ds }))
    (sym (set-target c.self.inside.domains.items c.args.id.0 c.index_mut.result.now c.args.of (omega (arith, there, length-domains (the_view c.self.inside))) c.index_mut.ensures.value))
    (in_order-target (the_view c.self.inside) c.args.id.0 c.args.of c.self.invariant
    (subst (λ (k : Kept). TargetThere (length (seen k).shapes) (option_map (λ i. i.0) c.args.of)) (sym c.self.view_is) c.requires.target))

pub returns : goal.returns
returns c =
    let there : c.args.id.0 < length (seen (the_view c.self.inside)).domains = subst (λ (k : Kept). c.args.id.0 < length (seen k).domains) (sym c.self.view_is) c.requires.there in
    subst (λ (ds : List DomainRow). Retargets (seen c.args.self.now) (seen (record { rows = c.self.inside.rows.items; owners = c.self.inside.owners.items; domains = ds })) c.args.id.0 (option_map (numbered (seen c.args.self.now).shapes) c.args.of))
    (sym (set-target c.self.inside.domains.items c.args.id.0 c.index_mut.result.now c.args.of (omega (arith, there, length-domains (the_view c.self.inside))) c.index_mut.ensures.value))
    (subst (λ (k : Kept). Retargets (seen k) (seen (record { rows = c.self.inside.rows.items; owners = c.self.inside.owners.items; domains = with_target c.self.inside.domains.items c.args.id.0 c.args.of })) c.args.id.0 (option_map (numbered (seen k).shapes) c.args.of)) c.self.view_is
    (seen-target (the_view c.self.inside) c.args.id.0 c.args.of))
