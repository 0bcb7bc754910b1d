use Rattle.std.proofs.Common.{◌≡◌, ◌⊎◌, inl, [], ◌∷◌, ap, refl, sym}
use Rattle.std.proofs.lemmas.Option.{same_Some}
use Rattle.std.specs.Prelude.{Some}
use Rattle.pc_names.specs.Bindings.{slot_in, retold}
use Rattle.pc_names.specs.declared.id.DeclarationId.{DeclarationId}
use Rattle.pc_names.specs.declared.id.NameId.{NameId}
use Rattle.pc_places.specs.NamingLaws.{IsNamed-last}
use Rattle.pc_places.specs.Places.{Rebound}
use Rattle.pc_places.specs.ReboundLaws.{Moves-rebound}
use Rattle.pc_places.specs.TellingLaws.{IsPlace-telling}
use Rattle.pc_places.proofs.steps.retell.Goals as goal

pub returns : goal.returns
returns c =
    let old = c.args.tables.now in
    let new = record old { names = c.retell.new.self; declarations = c.add_declaration.new.declarations } in
    let block = c.args.block.0 in
    let name = c.args.name.0 in
    let d = c.in_ok-id.id in
    let slot = retold (slot_in old.names.slots block name) d in
    let rebound : Rebound block name slot (c.args.declared ∷ []) old new =
    record { types = refl; texts = refl; signatures = refl; declarations = c.in_ok-id.ensures.added; names = c.in_ok-retell.ensures.binding } in
    let named = IsNamed-last block name slot d c.args.declared old new rebound c.in_ok-id.ensures.number (ap (λ (i : NameId). i.0) c.requires.named) (λ e is. inl (same_Some e d (sym is))) in
    record {
      place = λ owner out l n m number shows at. IsPlace-telling block name owner d c.args.declared old new out l n m rebound c.in_ok-id.ensures.number number shows named at;
      retold = (d, c.in_ok-id.ensures.number, rebound);
      moves = Moves-rebound block name slot (c.args.declared ∷ []) old new rebound named;
    }
