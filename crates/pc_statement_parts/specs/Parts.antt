-- When a statement part is met behind the declarations of its block.
use Rattle.std.specs.Prelude.{◌≡◌, ℕ, false, List, [], Option}
use Rattle.std.specs.Option.{option_map_or}
use Rattle.pc_syntax.specs.Plain.{Plain}
use Rattle.pc_names.specs.Chains.{chain_of}
use Rattle.pc_names.specs.Numbers.{number_of}
use Rattle.pc_rules.specs.Attributes.{Attributes}
use Rattle.pc_rules.specs.Meanings.{Local, find}
use Rattle.pc_rules.specs.Outsides.{signature_named, outside_of}
use Rattle.pc_rules.specs.Routines.{Routine}
use Rattle.pc_environment.specs.Decorating.{attributes_at}
use Rattle.pc_pointers.specs.Good.{Targets, IsGoodFound}
use Rattle.pc_facts.specs.Known.{Known}
use Rattle.pc_facts.specs.Shows.{ShowsNode}
use Rattle.pc_facts.specs.declared.facts.Facts.{Facts}
use Rattle.pc_facts.specs.declared.sighting.Variable.{Variable}
use Rattle.pc_call_rules.specs.Parameters.{Logs}
use Rattle.pc_sightings.specs.TouchedLog.{AreApart, stands_since}
use Rattle.pc_access_rules.specs.Pointers.{AreTold}
use Rattle.pc_access_rules.specs.Selves.{ShowsSelf}
use Rattle.pc_places.specs.Places.{known, IsPlace, IsNamed}
use Rattle.pc_places.specs.declared.tables.Tables.{Tables}
use Rattle.pc_bodies.specs.declared.body.Going.{Going}
use Rattle.pc_standing.specs.Signed.{IsSigned, OwnsRoutines}

-- This holds of what the rules find at the statement part of a block, at each place for which the tables stand: parameters and results of
-- routines included, with the function whose block it is, and with a log that says since a mark what the routines in the block touch.
abbrev pub AtPart : Tables → ℕ → ℕ → Option Variable → List (ℕ × ℕ) → ℕ → Plain → (Attributes → Type 0) → Type 0
AtPart t block owner own log mark node P = (targets : Targets) (all : List Routine) (r : Routine) (l : Local) → IsPlace t block owner (outside_of all r) l → OwnsRoutines r.owner l.known →
    IsNamed t.names t.declarations.items → IsSigned t.names (known t) t.declarations.items (signature_named all) (chain_of t.names.chains block) →
    ShowsSelf (known t) own l.self → AreApart (known t).table.owners → AreTold targets (known t).table → ((n : List ℕ) → IsGoodFound targets (find (outside_of all r) l n)) →
    ((n : List ℕ) → (outside_of all r).touched n ≡ option_map_or (λ i. stands_since mark log (owner, i)) (number_of t.names.texts n) false) →
    P (attributes_at (outside_of all r) l node)

-- the same types, names, declarations and signatures
pub record HasAll (t u : Tables) : Type 0 where
  pub types : u.types ≡ t.types
  pub names : u.names ≡ t.names
  pub declarations : u.declarations.items ≡ t.declarations.items
  pub signatures : u.signatures.items ≡ t.signatures.items

-- what numbers stand for, with these characters of strings
abbrev pub known_with : Tables → List (List ℕ) → Known
known_with t texts = record (known t) { texts = texts }

-- facts are these of the rules, and a list of variables has grown by those that are touched
pub record Finds (k : Known) (f : Facts) (old new : List Variable) (a : Attributes) : Type 0 where
  pub shows : ShowsNode k f a
  pub touched : Logs k old new a.touches

-- The code found this at a statement part, with no record open and the texts that the tables have, behind which there are these: it is what
-- the rules find, by whichever tables are the same otherwise.
abbrev pub FindsAt : Tables → ℕ → ℕ → Option Variable → List (ℕ × ℕ) → ℕ → Going → Going → Plain → Facts → Type 0
FindsAt u block owner own log mark old new node f = (t : Tables) → HasAll t u → old.texts.items ≡ t.texts.items → old.opened.items ≡ [] →
    AtPart t block owner own log mark node (Finds (known_with t new.texts.items) f old.touched.items new.touched.items)
