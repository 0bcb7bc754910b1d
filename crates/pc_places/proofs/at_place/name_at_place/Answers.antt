use Rattle.std.proofs.Common.{[], refl, sym, subst}
use Rattle.pc_growth.specs.GrowsLaws.{Begins-same}
use Rattle.pc_rules.specs.Meanings.{find}
use Rattle.pc_places.specs.Scenes.{SeesNames}
use Rattle.pc_places.specs.NumberingLaws.{Keeps-texts}
use Rattle.pc_places.specs.Places.{known}
use Rattle.pc_places.specs.PlacesLaws.{names-at}
use Rattle.pc_places.proofs.at_place.name_at_place.Goals as goal

pub returns : goal.returns
returns c =
    let old = c.args.tables.now in
    let new = record old { small = c.used_name.new.small } in
    record {
      shows = λ owner out l isn using at. c.in_ok-named.ensures (known old) out l isn using refl (subst (λ ds. SeesNames (known old) old.names ds c.args.block.0 [] (find out l)) (sym c.as_slice.ensures.value) (names-at old c.args.block.0 owner out l at));
      keeps = Keeps-texts old new refl (Begins-same old.texts.items) refl refl refl;
    }
