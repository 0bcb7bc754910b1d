use Rattle.std.proofs.Common.{List, None, length, option_map, refl, subst, ℕ}
use Rattle.pc_names.specs.Chains.{chain_around}
use Rattle.pc_names.specs.declared.id.BlockId.{BlockId}
use Rattle.pc_openings.specs.Opened.{Opens}
use Rattle.pc_places.specs.declared.parameter.Parameter.{Parameter}
use Rattle.pc_own_names.specs.declared.own_name.RoutineNames.{RoutineNames}
use Rattle.pc_resolve.specs.Kept.{KeepsOne}
use Rattle.pc_resolve.proofs.BareShown.{ComesToBare, bare-shown}
use Rattle.pc_resolve.specs.declared.resolver.Resolver.{Resolver}
use Rattle.pc_resolve.proofs.keeping.no_block.Goals as goal

pub returns : goal.returns
returns c =
    let s = c.args.resolver.now in
    let site = c.args.site.now in
    let blocks = chain_around s.tables.names.chains (option_map {T = BlockId} {U = ℕ} (λ b. b.0) c.args.around) in
    let block = c.in_ok-opened.opened.0 in
    let t1 = c.open_block.new.tables in
    let new : Resolver = record s { tables = t1; kept = c.keep.new.kept } in
    let declared = c.in_ok-declared.declared.items in
    let comes : ComesToBare blocks site c.args.node.now block declared s t1 new = record {
      order = c.stays_in_order.ensures;
      declares = c.in_ok-declared.ensures;
      opens = subst (λ (ps : List Parameter). Opens blocks ps None block s.tables t1) c.as_slice.ensures.value c.in_ok-opened.ensures;
      keeps_one =
          subst (λ (xs : List RoutineNames). KeepsOne t1 declared block site (length xs) s.kept.items c.keep.new.kept.items) c.as_slice-index.ensures.value c.in_ok-keep.ensures;
      tables = refl;
      domains = refl;
      touched = refl;
    } in
    bare-shown c.blocks_know_each_name_once.ensures c.routines_are_of_their_block.ensures blocks site c.args.node.now block declared s new t1 comes
