use Rattle.std.proofs.Common.{[], refl, sym}
use Rattle.std.proofs.lemmas.List.{append-nil}
use Rattle.pc_names.specs.Bindings.{slot_in, passed}
use Rattle.pc_places.specs.NamingLaws.{IsNamed-kept}
use Rattle.pc_places.specs.Places.{Rebound}
use Rattle.pc_places.specs.ReboundLaws.{IsPlace-passing, Moves-rebound}
use Rattle.pc_places.proofs.steps.pass.Goals as goal

pub returns : goal.returns
returns c =
    let old = c.args.tables.now in
    let new = record old { names = c.pass.new.self } in
    let block = c.args.block.0 in
    let name = c.args.name.0 in
    let slot = passed (slot_in old.names.slots block name) in
    let rebound : Rebound block name slot [] old new =
    record { types = refl; texts = refl; signatures = refl; declarations = sym (append-nil old.declarations.items); names = c.in_ok-pass.ensures.binding } in
    record {
      place = λ owner out l n number at. IsPlace-passing block name owner old new out l n rebound number at;
      moves = Moves-rebound block name slot [] old new rebound (IsNamed-kept block name slot [] old new rebound refl);
    }
