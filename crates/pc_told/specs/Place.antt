-- When types by their numbers are those that the rules find at the statement part of a block.
use Rattle.std.specs.Prelude.{◌≡◌, ℕ, false, List, [], ◌∷◌, Option}
use Rattle.std.specs.Option.{option_map_or}
use Rattle.pc_syntax.specs.Plain.{Plain}
use Rattle.pc_types.specs.Rows.{seen}
use Rattle.pc_types.specs.Shapes.{Typed}
use Rattle.pc_types.specs.Table.{Table}
use Rattle.pc_types.specs.declared.operand.Operand.{Operand}
use Rattle.pc_names.specs.Chains.{chain_of}
use Rattle.pc_names.specs.Numbers.{number_of}
use Rattle.pc_rules.specs.Meanings.{Local, Outside, find}
use Rattle.pc_rules.specs.Outsides.{signature_named, outside_of}
use Rattle.pc_rules.specs.Routines.{Routine}
use Rattle.pc_pointers.specs.Good.{Targets, IsGoodFound}
use Rattle.pc_facts.specs.Known.{Known}
use Rattle.pc_facts.specs.Shows.{ShowsType}
use Rattle.pc_facts.specs.declared.sighting.Variable.{Variable}
use Rattle.pc_sightings.specs.TouchedLog.{AreApart, stands_since}
use Rattle.pc_access_rules.specs.Pointers.{AreTold}
use Rattle.pc_access_rules.specs.Selves.{ShowsSelf}
use Rattle.pc_places.specs.Places.{known, IsPlace, IsNamed}
use Rattle.pc_places.specs.declared.tables.Tables.{Tables}
use Rattle.pc_bodies.specs.declared.body.Going.{Going}
use Rattle.pc_standing.specs.Signed.{IsSigned, OwnsRoutines}
use Rattle.pc_told.specs.Told.{told_on}

-- This holds of each place of a statement part of a block for which the tables stand, seen from outside: parameters and results of
-- routines included, with the function whose block it is, and with a log that says since a mark what the routines in the block touch.
abbrev pub AtPlace : Tables → ℕ → ℕ → Option Variable → List (ℕ × ℕ) → ℕ → (Outside → Local → Type 0) → Type 0
AtPlace t block owner own log mark P = (targets : Targets) (all : List Routine) (r : Routine) (l : Local) → IsPlace t block owner (outside_of all r) l → OwnsRoutines r.owner l.known →
    IsNamed t.names t.declarations.items → IsSigned t.names (known t) t.declarations.items (signature_named all) (chain_of t.names.chains block) →
    ShowsSelf (known t) own l.self → AreApart (known t).table.owners → AreTold targets (known t).table → ((n : List ℕ) → IsGoodFound targets (find (outside_of all r) l n)) →
    ((n : List ℕ) → (outside_of all r).touched n ≡ option_map_or (λ i. stands_since mark log (owner, i)) (number_of t.names.texts n) false) →
    P (outside_of all r) l

-- types by their numbers are these, one after the other
abbrev pub AllTypes : Table → List (Option Operand) → List (Option Typed) → Type 0
AllTypes t [] [] = Unit {0}
AllTypes t (x ∷ xs) (y ∷ ys) = ShowsType t x y × AllTypes t xs ys
AllTypes t _ _ = ⊥

-- the same by what the numbers of a program stand for
abbrev pub ShowsTypes : Known → List (Option Operand) → List (Option Typed) → Type 0
ShowsTypes k xs ts = AllTypes k.table xs ts

-- the same types, names, declarations and signatures
pub record HasAll (t u : Tables) : Type 0 where
  pub types : u.types ≡ t.types
  pub names : u.names ≡ t.names
  pub declarations : u.declarations.items ≡ t.declarations.items
  pub signatures : u.signatures.items ≡ t.signatures.items

-- The code told these types, with no record open and the texts that the tables have: they are those that the rules find, by whichever
-- tables are the same otherwise.
abbrev pub FindsTypes : Tables → ℕ → ℕ → Option Variable → List (ℕ × ℕ) → ℕ → Going → Plain → List ℕ → List (Option Operand) → Type 0
FindsTypes u block owner own log mark old node way xs = (t : Tables) → HasAll t u → old.texts.items ≡ t.texts.items → old.opened.items ≡ [] →
    AtPlace t block owner own log mark (λ out l. AllTypes (seen u.types) xs (told_on out l node way))
