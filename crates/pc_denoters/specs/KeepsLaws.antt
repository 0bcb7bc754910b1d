-- How the tables change as types, texts and a name in small letters are put into them: all else is kept.
use Rattle.std.specs.Prelude.{ℕ}
use Rattle.std.proofs.Common.{[], refl, sym, ◌∙◌}
use Rattle.std.proofs.lemmas.List.{append-nil}
use Rattle.pc_types.specs.Rows.{Kept, seen}
use Rattle.pc_growth.specs.GrowsLaws.{Begins-same}
use Rattle.pc_places.specs.MovesLaws.{Moves-kept, Moves-then}
use Rattle.pc_places.specs.Places.{Keeps, Moves}
use Rattle.pc_places.specs.declared.tables.Tables.{Tables}
use Rattle.pc_type_rules.specs.Extends.{Extends}

-- more types alone
pub keeps-types : (t : Tables) (s : Kept) → Extends (seen t.types) (seen s) → Keeps t (record t { types = s })
keeps-types t s e = record {
  grows = record {
    shapes = record { more = e.more_shapes; is = e.shapes };
    owners = record { more = []; is = e.owners ∙ sym (append-nil (seen t.types).owners) };
    names = Begins-same t.names.texts;
    texts = Begins-same t.texts.items;
    signatures = Begins-same t.signatures.items;
  };
  declarations = Begins-same t.declarations.items;
  chains = Begins-same t.names.chains;
  distinct = λ d. d;
  slots = λ b n. refl;
  domains = record { more = e.more_domains; is = e.domains };
  owners = e.owners;
}

-- more types behind other changes
pub moves-types : (block : ℕ) (t0 t : Tables) (s : Kept) → Moves block t0 t → Extends (seen t.types) (seen s) → Moves block t0 (record t { types = s })
moves-types block t0 t s m e = Moves-then block t0 t (record t { types = s }) m (Moves-kept block t (record t { types = s }) (keeps-types t s e))
