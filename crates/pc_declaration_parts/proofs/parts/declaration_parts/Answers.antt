use Rattle.std.proofs.Common.{◌<◌, ℕ, List, length, sym, subst}
use Rattle.pc_syntax.specs.Plain.{kids_of}
use Rattle.pc_syntax.specs.declared.kind.Kind.TheVariants as kind
use Rattle.pc_environment.specs.Decorating.{place_behind}
use Rattle.pc_growth.specs.GrowsLaws.{less-begins}
use Rattle.pc_places.specs.ChangesLaws.{Changes-moved, Changes-then}
use Rattle.pc_places.specs.MovesLaws.{Moves-kept, Moves-then}
use Rattle.pc_places.specs.Places.{known}
use Rattle.pc_definitions.specs.Numbered.{AtBefore}
use Rattle.pc_definitions.specs.Rows.{types-kind}
use Rattle.pc_domains.specs.ToldLaws.{IsTold-moves}
use Rattle.pc_declaration_parts.specs.PartsLaws.{parts-turned, parts-changed}
use Rattle.pc_declaration_parts.proofs.parts.declaration_parts.Goals as goal

pub constant_definitions-requires : goal.constant_definitions-requires
constant_definitions-requires c =
    let t0 = c.args.tables.now in
    let t1 = c.numbers_before.new.tables in
    record { block = less-begins t0.names.chains t1.names.chains c.args.block.0 c.in_ok-before.ensures.keeps.chains c.requires.block; list = c.requires.constants }

pub type_definitions-requires : goal.type_definitions-requires
type_definitions-requires c =
    let block = c.args.block.0 in
    let t0 = c.args.tables.now in
    let t1 = c.numbers_before.new.tables in
    let t2 = c.constant_definitions.new.tables in
    let moves = Moves-then block t0 t1 t2 (Moves-kept block t0 t1 c.in_ok-before.ensures.keeps) c.in_ok-of_constants.ensures.moves in
    record {
      block = less-begins t0.names.chains t2.names.chains block moves.chains c.requires.block;
      owner = less-begins (known t0).table.owners (known t2).table.owners c.args.owner.0 moves.grows.owners c.requires.owner;
      list = c.requires.types;
    }

pub close-requires : goal.close-requires
close-requires c =
    let block = c.args.block.0 in
    let t0 = c.args.tables.now in
    let t1 = c.numbers_before.new.tables in
    let t2 = c.constant_definitions.new.tables in
    let t3 = c.type_definitions.new.tables in
    let moves = Moves-then block t0 t2 t3 (Moves-then block t0 t1 t2 (Moves-kept block t0 t1 c.in_ok-before.ensures.keeps) c.in_ok-of_constants.ensures.moves) c.in_ok-of_types.ensures.moves in
    record { block = less-begins t0.names.chains t3.names.chains block moves.chains c.requires.block; list = c.requires.types }

pub variable_declarations-requires : goal.variable_declarations-requires
variable_declarations-requires c =
    let block = c.args.block.0 in
    let t0 = c.args.tables.now in
    let t1 = c.numbers_before.new.tables in
    let t2 = c.constant_definitions.new.tables in
    let t3 = c.type_definitions.new.tables in
    let t4 = c.close.new.tables in
    let moves = Moves-then block t0 t2 t3 (Moves-then block t0 t1 t2 (Moves-kept block t0 t1 c.in_ok-before.ensures.keeps) c.in_ok-of_constants.ensures.moves) c.in_ok-of_types.ensures.moves in
    let changes = Changes-then block t0 t3 t4 (Changes-moved block t0 t3 moves) c.in_ok-close.ensures.changes in
    record {
      block = less-begins t0.names.chains t4.names.chains block changes.chains c.requires.block;
      owner = less-begins (known t0).table.owners (known t4).table.owners c.args.owner.0 changes.grows.owners c.requires.owner;
      list = c.requires.variables;
    }

pub returns : goal.returns
returns c =
    let block = c.args.block.0 in
    let owner = c.args.owner.0 in
    let constants = c.args.constants.now in
    let types = c.args.types.now in
    let variables = c.args.variables.now in
    let t0 = c.args.tables.now in
    let t1 = c.numbers_before.new.tables in
    let t2 = c.constant_definitions.new.tables in
    let t3 = c.type_definitions.new.tables in
    let t4 = c.close.new.tables in
    let t5 = c.variable_declarations.new.tables in
    let d = c.args.domains.now in
    let e = c.close.new.self in
    let f = c.variable_declarations.new.domains in
    let before = c.in_ok-before.ensures in
    let moved = Moves-then block t0 t2 t3 (Moves-then block t0 t1 t2 (Moves-kept block t0 t1 before.keeps) c.in_ok-of_constants.ensures.moves) c.in_ok-of_types.ensures.moves in
    record {
      parts = λ targets out l es facts place shown passed apart told program.
          parts-turned c.blocks_see_the_same.ensures block owner c.args.is_program constants types variables _ _ d e f t0 t1 t2 t3 t4 t5 _ (types-kind types.kind c.requires.types) before.keeps c.in_ok-of_constants.ensures c.in_ok-of_types.ensures
          (record { changes = c.in_ok-close.ensures.changes; closes = c.in_ok-close.ensures.closes }) c.in_ok-of_variables.ensures
          (λ targets h. IsTold-moves targets d t0 t3 c.stays_in_order.ensures moved.grows moved.domains h) targets out l facts place
          (subst (λ (bs : List ℕ). AtBefore kind.Types kind.Typedef (kids_of types) bs t0 (place_behind out l constants)) (sym c.as_slice.ensures.value) (before.types out l es place.distinct shown passed))
          (subst (λ (bs : List ℕ). AtBefore kind.Vars kind.Vardef (kids_of variables) bs t0 (place_behind out (place_behind out l constants) types)) (sym c.as_slice-2.ensures.value) (before.variables out l es place.distinct shown passed))
          apart told program;
      changes =
          parts-changed block t0 t1 t2 t3 t4 t5 before.keeps c.in_ok-of_constants.ensures.moves c.in_ok-of_types.ensures.moves c.in_ok-close.ensures.changes c.in_ok-of_variables.ensures.changes;
    }
