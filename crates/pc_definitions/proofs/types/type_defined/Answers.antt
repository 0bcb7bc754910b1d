use Rattle.std.proofs.Common.{sym, subst, ◌∙◌, ◌<◌, length, get_or, [], ◌∷◌}
use Rattle.pc_types.specs.Table.{definition_in, nobody}
use Rattle.pc_growth.specs.GrowsLaws.{less-begins}
use Rattle.pc_places.specs.Places.{known}
use Rattle.pc_definitions.specs.Namings.{is_second}
use Rattle.pc_definitions.specs.NamingLaws.{there-grows}
use Rattle.pc_definitions.specs.Numbered.{number_for}
use Rattle.pc_definitions.specs.NumberedLaws.{definition-named}
use Rattle.pc_definitions.specs.Parts.{EntersName}
use Rattle.pc_definitions.specs.RuleLaws.{own-made}
use Rattle.pc_definitions.specs.TypeMakes.{makes-type-definition}
use Rattle.pc_definitions.proofs.types.type_defined.Goals as goal

pub denoter-requires : goal.denoter-requires
denoter-requires c =
    let t0 = c.args.tables.now in
    let t1 = c.enter.new.tables in
    let moves = c.in_ok-naming.ensures.moves in
    let owner = less-begins (known t0).table.owners (known t1).table.owners c.args.owner.0 moves.grows.owners c.requires.owner in
    record {
      there = record {
        block_there = less-begins t0.names.chains t1.names.chains c.args.block.0 moves.chains c.requires.block;
        owner_there = owner;
        here_there = subst (λ o. o.0 < length (known t1).table.owners) (sym c.in_ok-here.ensures.owner) owner;
      };
      denoter = c.requires.denoter;
    }

pub leave-requires : goal.leave-requires
leave-requires c =
    let t0 = c.args.tables.now in
    let t1 = c.enter.new.tables in
    let t2 = c.denoter.new.tables in
    record {
      block = less-begins t1.names.chains t2.names.chains c.args.block.0 c.in_ok-whole.ensures.moves.chains (less-begins t0.names.chains t1.names.chains c.args.block.0 c.in_ok-naming.ensures.moves.chains c.requires.block);
      there = there-grows t1.names.texts t2.names.texts c.in_ok-naming.naming c.in_ok-whole.ensures.moves.grows.names c.in_ok-naming.ensures.there;
    }

pub returns : goal.returns
returns c =
    let t0 = c.args.tables.now in
    let t1 = c.enter.new.tables in
    let t2 = c.denoter.new.tables in
    let t3 = c.leave.new.tables in
    let name = c.args.name.now in
    let naming = c.in_ok-naming.naming in
    let enters : EntersName c.args.block.0 t0 t1 name naming =
    record { shows = c.in_ok-naming.ensures.shows; place = c.in_ok-naming.ensures.place; moves = c.in_ok-naming.ensures.moves } in
    makes-type-definition t0 t1 t2 t3 c.args.block.0 c.args.owner c.args.kid c.args.before c.in_ok-here.here name c.args.whole.now naming c.in_ok-own.own.items c.value_type.result c.in_ok-whole.whole c.in_ok-found.found
    c.requires.name c.requires.denoter enters
    (λ owners.
    definition-named t1.names.texts name naming c.word.result.now (definition_in owners c.in_ok-here.here)
    (λ n. record { owner = get_or owners c.args.owner.0 nobody; name = n; number = number_for naming c.args.kid 0 c.args.before; inside = 2 ∷ [] }) (c.in_ok-here.ensures.definition owners) c.word.ensures enters.shows)
    c.in_ok-whole.ensures c.value_type.ensures (record { place = c.in_ok-leave.ensures.place; moves = c.in_ok-leave.ensures.moves })
    (own-made c.in_ok-own.own.items c.is_second.result (is_second naming) c.word-2.result.now name.word c.in_ok-own.ensures c.is_second.ensures c.word-2.ensures)
    (λ k w a b es ds hole own part. c.in_ok-found.ensures k w a b es ds (hole ∙ sym c.is_nameless.ensures) own part)
