use Rattle.std.proofs.Common.{[], ◌∷◌, ap, refl}
use Rattle.pc_names.specs.Bindings.{slot_in, completed}
use Rattle.pc_names.specs.declared.id.NameId.{NameId}
use Rattle.pc_places.specs.NamingLaws.{IsNamed-completed}
use Rattle.pc_places.specs.Places.{Rebound}
use Rattle.pc_places.specs.ReboundLaws.{IsPlace-knowing, Moves-rebound}
use Rattle.pc_places.proofs.steps.complete.Goals as goal

pub returns : goal.returns
returns c =
    let old = c.args.tables.now in
    let new = record old { names = c.complete.new.self; declarations = c.add_declaration.new.declarations } in
    let block = c.args.block.0 in
    let name = c.args.name.0 in
    let d = c.in_ok-id.id in
    let slot = completed (slot_in old.names.slots block name) d in
    let rebound : Rebound block name slot (c.args.declared ∷ []) old new =
    record { types = refl; texts = refl; signatures = refl; declarations = c.in_ok-id.ensures.added; names = c.in_ok-complete.ensures.binding } in
    record {
      place = λ owner out l n m number shows at. IsPlace-knowing block name owner d c.args.declared old new out l n m rebound c.in_ok-id.ensures.number number shows at;
      moves = Moves-rebound block name slot (c.args.declared ∷ []) old new rebound
          (IsNamed-completed block name d c.args.declared old new rebound c.in_ok-id.ensures.number (ap (λ (i : NameId). i.0) c.requires.named));
    }
