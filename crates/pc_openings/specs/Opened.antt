-- A block that is begun, with its parameters and all names that it declares somewhere (ISO 7185, 6.2.2, 6.6.3).
use Rattle.std.specs.Prelude.{◌≡◌, ◌<◌, ℕ, false, List, [], ◌∷◌, ◌++◌, Option, Some, None, length, get_or, take}
use Rattle.pc_syntax.specs.Plain.{Forest, Nil, Plain}
use Rattle.pc_syntax.specs.Words.{is_among}
use Rattle.pc_types.specs.Shapes.{Owner}
use Rattle.pc_types.specs.Table.{nobody}
use Rattle.pc_names.specs.Finding.{FindsAlong}
use Rattle.pc_names.specs.Numbers.{AreDistinct}
use Rattle.pc_names.specs.Standing.{StandsFor}
use Rattle.pc_names.specs.StandingLaws.{announce}
use Rattle.pc_names.specs.Table.{Table, slot_named}
use Rattle.pc_rules.specs.Meanings.{Meaning, Local, Outside, define}
use Rattle.pc_rules.specs.OwnBlock.{own}
use Rattle.pc_rules.specs.RequiredMeanings.{required_or_missing}
use Rattle.pc_rules.specs.Routines.{block_start}
use Rattle.pc_facts.specs.Known.{Known}
use Rattle.pc_facts.specs.declared.sighting.Declared.{Declared}
use Rattle.pc_growth.specs.Grows.{Begins}
use Rattle.pc_places.specs.declared.parameter.Parameter.{Parameter}
use Rattle.pc_places.specs.declared.tables.Tables.{Tables}
use Rattle.pc_places.specs.Parameters.{ShowsParameters, HaveNames}
use Rattle.pc_places.specs.Places.{known, IsPlace, IsNamed, Moves}
use Rattle.pc_places.specs.Scenes.{ShowsUnsigned}

-- the nodes of the own block of a node that is a block; there are none where there is no such node
abbrev pub own_block : Option Plain → Forest
own_block None = Nil
own_block (Some t) = own t.kids

-- no name of the list is one of these that stand before, and none stands twice in it
abbrev pub AreFirst : List (List ℕ) → List (List ℕ × Meaning) → Type 0
AreFirst before [] = Unit {0}
AreFirst before (d ∷ ds) = (is_among before d.0 ≡ false) × AreFirst (before ++ d.0 ∷ []) ds

-- a place of a block with one more parameter, which stands before
abbrev pub with_parameter : Local → List ℕ × Meaning → Local
with_parameter l d = define (announce l d.0 d.1.class) d.0 d.1

-- the same with each of these in turn
abbrev pub with_parameters : Local → List (List ℕ × Meaning) → Local
with_parameters l [] = l
with_parameters l (d ∷ ds) = with_parameters (with_parameter l d) ds

-- the block has so many of these parameters from now on, whose declarations are there, and all else stays
pub record Carries (ds : List Declared) (block : ℕ) (ps : List Parameter) (many : ℕ) (old new : Table) : Type 0 where
  pub texts : new.texts ≡ old.texts
  pub chains : new.chains ≡ old.chains
  pub others : (b : ℕ) (n : List ℕ) → (b ≡ block → ⊥) → slot_named new b n ≡ slot_named old b n
  pub named : HaveNames ds ps → IsNamed old ds → IsNamed new ds
  pub stands : (k : Known) (es : List (List ℕ × Meaning)) (l : Local) → AreDistinct old.texts → k.names ≡ old.texts → ShowsParameters k ds ps es →
      StandsFor (ShowsUnsigned k ds) old block l → StandsFor (ShowsUnsigned k ds) new block (with_parameters l (take many es))

-- a block was begun that stands directly in the first of these, with these parameters and the names that a node declares: the tables
-- stand for the place where it begins, for each function whose block it is and whatever names mean around it, and else they only have
-- more names; the declarations of the parameters are to be ones under their names
pub record Opens (around : List ℕ) (ps : List Parameter) (node : Option Plain) (block : ℕ) (old new : Tables) : Type 0 where
  pub number : block ≡ length old.names.chains
  pub chains : new.names.chains ≡ old.names.chains ++ (length old.names.chains ∷ around) ∷ []
  pub names : Begins old.names.texts new.names.texts
  pub types : new.types ≡ old.types
  pub declarations : new.declarations.items ≡ old.declarations.items
  pub signatures : new.signatures.items ≡ old.signatures.items
  pub texts : new.texts.items ≡ old.texts.items
  pub moves : HaveNames old.declarations.items ps → Moves block old new
  pub place : (owner : ℕ) (o : Owner) (self : Option (Owner × List ℕ)) (out : Outside) (es : List (List ℕ × Meaning)) →
      get_or (known old).table.owners owner nobody ≡ o → owner < length (known old).table.owners → AreDistinct old.names.texts →
      FindsAlong (ShowsUnsigned (known old) old.declarations.items) required_or_missing old.names around out.means → ShowsParameters (known old) old.declarations.items ps es → AreFirst [] es →
      IsPlace new block owner out (block_start o self es (own_block node))
