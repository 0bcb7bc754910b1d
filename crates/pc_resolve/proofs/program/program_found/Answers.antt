use Rattle.std.proofs.Common.{length, refl}
use Rattle.pc_resolve.proofs.RootLemmas.{RootLaws, none-found, root-bare, root-found, root-named, root-some}
use Rattle.pc_resolve.proofs.program.program_found.Goals as goal

pub block-requires-clause-node : goal.block-requires-clause-node
block-requires-clause-node c = (c.in-Some.ensures.part (c.in-Some.number, c.in-Some.part) refl).is

pub block-requires-clause-some : goal.block-requires-clause-some
block-requires-clause-some c =
    let laws : RootLaws = record {
      said = c.targets_say_what_blocks_declare.ensures;
      good = c.each_block_is_good.ensures;
      once = c.blocks_know_each_name_once.ensures;
      own = c.known_types_are_own.ensures;
      body = c.bodies_stand_behind_declarations.ensures;
      owners = c.owners_are_new.ensures;
      routines = c.routines_come_in_order.ensures;
    } in
    root-some laws c.args.tree.now c.args.resolver.now c.args.site.now c.in-Some.number c.in-Some.part.now c.requires.proper c.requires.program c.requires.begun c.requires.site
    (c.in-Some.ensures.part (c.in-Some.number, c.in-Some.part) refl)

pub returns-in_ok-found-in-Some : goal.returns-in_ok-found-in-Some
returns-in_ok-found-in-Some c =
    let laws : RootLaws = record {
      said = c.targets_say_what_blocks_declare.ensures;
      good = c.each_block_is_good.ensures;
      once = c.blocks_know_each_name_once.ensures;
      own = c.known_types_are_own.ensures;
      body = c.bodies_stand_behind_declarations.ensures;
      owners = c.owners_are_new.ensures;
      routines = c.routines_come_in_order.ensures;
    } in
    let found =
    root-found laws c.args.tree.now c.args.resolver.now c.block.new.resolver c.args.site.now c.in-Some.number c.in-Some.part.now c.in_ok-found-in-Some.found c.requires.proper c.requires.program c.requires.begun c.requires.site
    (c.in-Some.ensures.part (c.in-Some.number, c.in-Some.part) refl) c.in_ok-found-in-Some.ensures.found in
    record { found = found.0; kept = found.1 }

pub no_block-requires-clause-named : goal.no_block-requires-clause-named
no_block-requires-clause-named c = root-named c.args.site.now (length c.args.resolver.now.tables.names.texts) c.requires.site

pub returns-in_ok-no_block-in-None : goal.returns-in_ok-no_block-in-None
returns-in_ok-no_block-in-None c =
    let laws : RootLaws = record {
      said = c.targets_say_what_blocks_declare.ensures;
      good = c.each_block_is_good.ensures;
      once = c.blocks_know_each_name_once.ensures;
      own = c.known_types_are_own.ensures;
      body = c.bodies_stand_behind_declarations.ensures;
      owners = c.owners_are_new.ensures;
      routines = c.routines_come_in_order.ensures;
    } in
    record {
      found = none-found c.args.tree.now c.no_entries.result c.in-None.ensures.none c.no_entries.ensures.own c.no_entries.ensures.inside;
      kept =
          root-bare laws c.args.tree.now c.args.resolver.now c.no_block.new.resolver c.args.site.now c.requires.proper c.requires.program c.requires.begun c.requires.site c.in-None.ensures.none c.in_ok-no_block-in-None.ensures;
    }
