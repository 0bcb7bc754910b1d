use Rattle.std.proofs.Common.{◌≡◌, ◌+◌, ◌++◌, List, [], ◌∷◌, length, take, slice_index_or, ap, sym, subst}
use Rattle.std.proofs.lemmas.List.{take_more, take_all}
use Rattle.std.proofs.lemmas.Option.{slice_get-get_or}
use Rattle.pc_names.specs.declared.id.NameId.{NameId}
use Rattle.pc_facts.specs.declared.sighting.Declared.{Declared}
use Rattle.pc_growth.specs.GrowsLaws.{less-begins}
use Rattle.pc_places.specs.Places.{known}
use Rattle.pc_places.specs.Scenes.{Declares}
use Rattle.pc_definitions.specs.Variables.{TellsVariables}
use Rattle.pc_declaration_parts.specs.Telling.{number-at, tells-none, tells-next}
use Rattle.pc_declaration_parts.proofs.telling.tell_variables.Goals as goal

no_name : NameId
no_name = record { 0 = 0 }

pub loop-name-init : goal.loop-name-init
loop-name-init c = tells-none c.args.block.0 c.args.owner c.args.of c.args.tables.now

pub retell-requires : goal.retell-requires
unfolding no_name
retell-requires c =
    let t0 = c.args.tables.now in
    let t1 = c.loop-name.tables in
    let moves = c.loop-name.invariant.moves in
    let names = c.args.names.now in
    let i = c.loop-name.name-index in
    let name = slice_index_or names i no_name in
    record {
      block = less-begins t0.names.chains t1.names.chains c.args.block.0 moves.chains c.requires.block;
      name =
          less-begins t0.names.texts t1.names.texts name.0 moves.grows.names
          (number-at (length t0.names.texts) names i name c.requires.names (slice_get-get_or names i no_name c.loop-name-test.true));
      named = ap (λ (x : Declared). x.name) c.variable-declared.ensures;
    }

pub loop-name-preserved : goal.loop-name-preserved
unfolding no_name
loop-name-preserved c =
    let names = c.args.names.now in
    let i = c.loop-name.name-index in
    let name = slice_index_or names i no_name in
    let t0 = c.args.tables.now in
    let t1 = c.loop-name.tables in
    let t2 = c.retell.new.tables in
    let taken : take (i + 1) names ≡ take i names ++ name ∷ [] = take_more names i no_name c.loop-name-test.true in
    subst (λ (is : List NameId). TellsVariables c.args.block.0 c.args.owner c.args.of is t0 t2) (sym taken)
    (tells-next c.args.block.0 c.args.owner c.args.of (take i names) name t0 t1 t2 c.loop-name.invariant
    (λ own out l n m number shows place.
    c.in_ok-retell.ensures.place own out l n m number (subst (λ (x : Declared). Declares (known t1) n x m) (sym c.variable-declared.ensures) shows) place) c.in_ok-retell.ensures.moves)
