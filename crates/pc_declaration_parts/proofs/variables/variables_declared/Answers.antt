use Rattle.std.proofs.Common.{◌≡◌, ◌<◌, ℕ, false, List, length, ap, sym, subst}
use Rattle.pc_syntax.specs.Plain.{kids_of}
use Rattle.pc_scope.specs.Headings.{names_of}
use Rattle.pc_rules.specs.Places.{first_of_names}
use Rattle.pc_names.specs.Table.{Table}
use Rattle.pc_names.specs.declared.id.NameId.{NameId}
use Rattle.pc_growth.specs.GrowsLaws.{less-begins}
use Rattle.pc_places.specs.ChangesLaws.{Changes-moved, Changes-then}
use Rattle.pc_places.specs.MovesLaws.{IsPlace-kept, Moves-kept, Moves-then}
use Rattle.pc_places.specs.Places.{known}
use Rattle.pc_denoters.specs.Goings.{AtHere}
use Rattle.pc_definitions.specs.Numbered.{AtNumber}
use Rattle.pc_definitions.specs.VariableNames.{AreNumbers}
use Rattle.pc_definitions.specs.VariableNamesLaws.{enters-variables, numbers-grow}
use Rattle.pc_definitions.specs.Variables.{TellsVariables}
use Rattle.pc_domains.specs.RetargetedLaws.{Changes-retargeted, IsPlace-retargeted}
use Rattle.pc_domains.specs.ToldLaws.{IsTold-moves}
use Rattle.pc_declaration_parts.specs.DenoterPlaces.{enters-kept, at-denoter, shows-variables}
use Rattle.pc_declaration_parts.specs.VariableTurns.{turns-variables}
use Rattle.pc_declaration_parts.proofs.variables.variables_declared.Goals as goal

pub enter_variables-requires : goal.enter_variables-requires
enter_variables-requires c =
    let t0 = c.args.tables.now in
    let t1 = c.naming_of.new.tables in
    record { block = less-begins t0.names.chains t1.names.chains c.args.block.0 c.in_ok-naming.ensures.keeps.chains c.requires.block; list = c.requires.names }

pub denoter-requires : goal.denoter-requires
denoter-requires c =
    let t0 = c.args.tables.now in
    let t2 = c.enter_variables.new.tables in
    let moves = Moves-then c.args.block.0 t0 c.naming_of.new.tables t2 (Moves-kept c.args.block.0 t0 c.naming_of.new.tables c.in_ok-naming.ensures.keeps) c.in_ok-variables.ensures.moves in
    let owner = less-begins (known t0).table.owners (known t2).table.owners c.args.owner.0 moves.grows.owners c.requires.owner in
    record {
      there = record {
        block_there = less-begins t0.names.chains t2.names.chains c.args.block.0 moves.chains c.requires.block;
        owner_there = owner;
        here_there = subst (λ o. o.0 < length (known t2).table.owners) (sym c.in_ok-here.ensures.owner) owner;
      };
      denoter = c.requires.denoter;
    }

pub tell_variables-requires : goal.tell_variables-requires
tell_variables-requires c =
    let block = c.args.block.0 in
    let t0 = c.args.tables.now in
    let t1 = c.naming_of.new.tables in
    let t2 = c.enter_variables.new.tables in
    let t3 = c.denoter.new.tables in
    let t4 = c.completed.new.tables in
    let begun = Changes-moved block t0 t3 (Moves-then block t0 t2 t3 (Moves-then block t0 t1 t2 (Moves-kept block t0 t1 c.in_ok-naming.ensures.keeps) c.in_ok-variables.ensures.moves) c.in_ok-whole.ensures.moves) in
    let done = Changes-retargeted block t3 t4 c.in_ok-of.ensures.retargeted in
    let all = Changes-then block t0 t3 t4 begun done in
    let first = c.in_ok-variables.variables.first.items in
    record {
      block = less-begins t0.names.chains t4.names.chains block all.chains c.requires.block;
      names =
          subst (λ (is : List NameId). AreNumbers (length t4.names.texts) is) (sym c.as_slice.ensures.value)
          (numbers-grow t3.names.texts t4.names.texts first done.grows.names
          (numbers-grow t2.names.texts t3.names.texts first c.in_ok-whole.ensures.moves.grows.names c.in_ok-variables.ensures.there));
    }

pub returns : goal.returns
returns c =
    let block = c.args.block.0 in
    let o = c.args.owner in
    let t0 = c.args.tables.now in
    let ta = c.naming_of.new.tables in
    let t1 = c.enter_variables.new.tables in
    let t2 = c.denoter.new.tables in
    let t3 = c.completed.new.tables in
    let t4 = c.tell_variables.new.tables in
    let d = c.args.domains.now in
    let e = c.completed.new.self in
    let names = c.args.names.now in
    let den = c.args.whole.now in
    let n = first_of_names (names_of names.kids) in
    let so = c.in_ok-variables.ensures in
    let keeps = c.in_ok-naming.ensures.keeps in
    let enters = enters-kept block o.0 t0 ta t1 names c.in_ok-variables.variables.first.items keeps (enters-variables block o.0 ta t1 names c.in_ok-variables.variables so) in
    let told = subst (λ (is : List NameId). TellsVariables block o c.in_ok-of.of is t3 t4) c.as_slice.ensures.value c.in_ok-tell_variables.ensures in
    let moved = Moves-then block t0 t1 t2 enters.moves c.in_ok-whole.ensures.moves in
    turns-variables c.blocks_see_the_same.ensures (AtNumber c.args.kid c.args.before n) (AtHere c.in_ok-here.here false) d e t0 t1 t2 t3 t4 block o names den c.in_ok-variables.variables.first.items c.value_type.result c.in_ok-of.of c.in_ok-whole.whole
    c.in_ok-found.found c.requires.names c.requires.denoter enters c.in_ok-whole.ensures c.value_type.ensures
    (record {
      changes = Changes-retargeted block t2 t3 c.in_ok-of.ensures.retargeted;
      names = ap (λ (t : Table). t.texts) c.in_ok-of.ensures.retargeted.names;
      place = λ own out l place. IsPlace-retargeted t2 t3 block own out l c.in_ok-of.ensures.retargeted place;
      type = λ targets t none is shown carried. c.in_ok-of.ensures.shows targets t none is shown carried;
    }) told (λ targets h. IsTold-moves targets d t0 t2 c.stays_in_order.ensures moved.grows moved.domains h)
    (λ targets h. IsTold-moves targets e t3 t4 c.stays_in_order-2.ensures told.moves.grows told.moves.domains h)
    (λ out l place owner at.
    at-denoter t1 o c.in_ok-here.here c.in_ok-naming.naming c.args.kid c.args.before _ out l names den c.in_ok-here.ensures.definition c.in_ok-naming.ensures.nameless c.first_word-word.ensures
    (c.in_ok-naming.ensures.fits o.0 out l place) owner at)
    (λ out l w proper place shown.
    shows-variables (known t4) c.in_ok-variables.variables.hole c.in_ok-variables.variables.entries.items c.in_ok-whole.whole c.in_ok-found.found out l names den w c.requires.names proper so.hole
    (so.entries out l (IsPlace-kept t0 ta block o.0 out l keeps place)) (λ v a b es ds hole own part. c.in_ok-found.ensures (known t4) v a b es ds hole own part) shown)
