-- What is done when the types of a block are closed (ISO 7185, 6.4.4).
use Rattle.std.specs.Prelude.{◌≡◌, nat_eq, ℕ, Bool, true, false, if◌then◌else◌, get_or, length, max}
use Rattle.pc_syntax.specs.Plain.{Plain}
use Rattle.pc_types.specs.Rows.{IsInOrder, seen}
use Rattle.pc_closing.specs.Whole.{AreFound, AreWhole}
use Rattle.pc_places.specs.Places.{known}
use Rattle.pc_places.specs.declared.tables.Tables.{Tables}
use Rattle.pc_block_laws.specs.Block.{type_names}
use Rattle.pc_domains.specs.Rows.{TellsRows}
use Rattle.pc_domains.specs.Sifting.{Sifts}
use Rattle.pc_domains.specs.Told.{Told}
use Rattle.pc_domains.specs.Types.{OnlyNames, ShowsBlockNames, Enters}
use Rattle.pc_domains.specs.declared.naming.BlockNames.{BlockNames}

-- what a block says is entered under its names, and the domains that name them have their types
pub record Entering (block owner : ℕ) (names : BlockNames) (d e : Told) (a b : Tables) : Type 0 where
  pub closed : e.closed ≡ d.closed
  pub whole : e.whole ≡ d.whole
  pub told : e.told ≡ d.told
  pub enters : Enters a block owner names.required names.ids.items d.types e.types
  pub rows : TellsRows d.closed e.types d.told (length (known a).table.domains) a b
  pub order : IsInOrder b.types

-- all types have flags, given those of some
pub record Settling (d e : Told) (t : Tables) : Type 0 where
  pub closed : e.closed ≡ d.closed
  pub types : e.types ≡ d.types
  pub told : e.told ≡ d.told
  pub right : AreWhole (seen t.types) d.whole → AreFound (seen t.types) → AreWhole (seen t.types) e.whole
  pub count : length e.whole ≡ max (length d.whole) (length (seen t.types).shapes)

-- the types of this owner are closed from now on
pub record ClosesOwner (owner : ℕ) (d e : Told) : Type 0 where
  pub closed : (o : ℕ) → get_or e.closed o false ≡ (if nat_eq owner o then true else get_or d.closed o false)
  pub types : e.types ≡ d.types
  pub whole : e.whole ≡ d.whole
  pub told : e.told ≡ d.told

-- the types of a block are entered as they are, all types get flags, those that are not whole lose their types, and all is entered again
pub record Closing (is_program : Bool) (block owner : ℕ) (list : Plain) (d e : Told) (a z : Tables) : Type 0 where
  pub names : BlockNames
  pub first : Told
  pub second : Told
  pub third : Told
  pub fourth : Told
  pub one : Tables
  pub two : Tables
  pub three : Tables
  pub fresh : get_or d.closed owner false ≡ false
  pub begins : ClosesOwner owner d first
  pub named : OnlyNames a one
  pub shows : ShowsBlockNames one.names.texts is_program (type_names list.kids) names
  pub enters : Entering block owner names first second one two
  pub settles : Settling second third two
  pub sifts : Sifts third.whole block names.ids.items two three
  pub again : Entering block owner names third fourth three z
  pub ends : e ≡ record fourth { told = length (known z).table.domains }
