use Rattle.std.proofs.Common.{[], refl, sym}
use Rattle.std.proofs.lemmas.List.{append-nil}
use Rattle.pc_names.specs.Bindings.{slot_in, announced}
use Rattle.pc_places.specs.NamingLaws.{IsNamed-kept}
use Rattle.pc_places.specs.Places.{Rebound}
use Rattle.pc_places.specs.ReboundLaws.{IsPlace-announce, Moves-rebound}
use Rattle.pc_places.proofs.steps.announce.Goals as goal

pub returns : goal.returns
returns c =
    let old = c.args.tables.now in
    let new = record old { names = c.announce.new.self } in
    let block = c.args.block.0 in
    let name = c.args.name.0 in
    let slot = announced (slot_in old.names.slots block name) c.args.class in
    let rebound : Rebound block name slot [] old new =
    record { types = refl; texts = refl; signatures = refl; declarations = sym (append-nil old.declarations.items); names = c.in_ok-announce.ensures.binding } in
    record {
      place = λ owner out l n number at. IsPlace-announce block name owner c.args.class old new out l n rebound number at;
      moves = Moves-rebound block name slot [] old new rebound (IsNamed-kept block name slot [] old new rebound refl);
    }
