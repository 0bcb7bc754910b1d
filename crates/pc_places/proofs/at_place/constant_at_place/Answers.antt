use Rattle.std.proofs.Common.{[], refl, sym, subst}
use Rattle.pc_rules.specs.Meanings.{find}
use Rattle.pc_places.specs.Scenes.{SeesNames}
use Rattle.pc_places.specs.NumberingLaws.{Keeps-texts}
use Rattle.pc_places.specs.Places.{known}
use Rattle.pc_places.specs.PlacesLaws.{names-at}
use Rattle.pc_places.proofs.at_place.constant_at_place.Goals as goal

pub returns : goal.returns
returns c =
    let old = c.args.tables.now in
    let new = record old { small = c.constant.new.small; texts = c.constant.new.texts } in
    record {
      shows = λ owner out l at. c.in_ok-found.ensures.shows (known old) out l refl refl (subst (λ ds. SeesNames (known old) old.names ds c.args.block.0 [] (find out l)) (sym c.as_slice.ensures.value) (names-at old c.args.block.0 owner out l at));
      keeps = Keeps-texts old new refl c.in_ok-found.ensures.texts refl refl refl;
    }
