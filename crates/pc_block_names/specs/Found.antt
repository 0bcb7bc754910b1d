-- What the names of a routine mean where its block ends, by the tables as they stand there (ISO 7185, 6.2.2).
use Rattle.std.specs.Prelude.{◌≡◌, ℕ, List, [], ◌∷◌}
use Rattle.pc_syntax.specs.declared.kind.Kind.{Kind}
use Rattle.pc_syntax.specs.Words.{lowered}
use Rattle.pc_scope.specs.Declarations.{Declared}
use Rattle.pc_names.specs.Chains.{chain_of}
use Rattle.pc_names.specs.Finding.{FindsAlong}
use Rattle.pc_rules.specs.Meanings.{Found}
use Rattle.pc_rules.specs.Outsides.{signature_named, outside_of}
use Rattle.pc_rules.specs.RequiredMeanings.{required_or_missing}
use Rattle.pc_rules.specs.Routines.{Routine}
use Rattle.pc_facts.specs.Shows.{ShowsFound}
use Rattle.pc_facts.specs.declared.sighting.Sighting.{Sighting}
use Rattle.pc_places.specs.Places.{known, IsPlace, IsNamed}
use Rattle.pc_places.specs.declared.tables.Tables.{Tables}
use Rattle.pc_bodies.specs.Resolved.{ShowsDeclaration}
use Rattle.pc_standing.specs.Signed.{IsSigned, OwnsRoutines}
use Rattle.pc_decl.specs.Annotated.{Annotation}
use Rattle.pc_own_names.specs.OwnKinds.{AreDeclared}
use Rattle.pc_own_names.specs.ShowsNames.{ShowsOwnNames}
use Rattle.pc_own_names.specs.declared.own_name.DeclaredName.{DeclaredName}
use Rattle.pc_own_names.specs.declared.own_name.OwnName.{OwnName}
use Rattle.pc_block_names.specs.Small.{AreSmall}

-- the tables stand for the end of the block of a routine among these
pub record EndsBlock (t : Tables) (block owner : ℕ) (all : List Routine) (a : Annotation) : Type 0 where
  pub outside : a.outside ≡ outside_of all a.routine
  pub place : IsPlace t block owner (outside_of all a.routine) a.ending
  pub owns : OwnsRoutines a.routine.owner a.ending.known
  pub named : IsNamed t.names t.declarations.items
  pub signed : IsSigned t.names (known t) t.declarations.items (signature_named all) (chain_of t.names.chains block)

-- a name has this meaning, whichever meanings the tables find from the block outwards
abbrev pub MeansThere : Tables → ℕ → List ℕ → Sighting → Type 0
MeansThere t block n s =
    (means : List ℕ → Found) → FindsAlong (ShowsDeclaration (known t) t.declarations.items) required_or_missing t.names (chain_of t.names.chains block) means → ShowsFound (known t) n s (means n)

-- a name with its meaning is this declared name, and has the meaning that the tables find for it in small letters
pub record IsMeant (t : Tables) (block : ℕ) (d : DeclaredName) (x : OwnName) : Type 0 where
  pub name : x.name ≡ d.name
  pub kind : x.kind ≡ d.kind
  pub meaning : MeansThere t block (lowered d.name) x.meaning

-- so it is with all, in their order
abbrev pub AreMeant : Tables → ℕ → List DeclaredName → List OwnName → Type 0
AreMeant t block [] [] = Unit {0}
AreMeant t block (d ∷ ds) (x ∷ xs) = IsMeant t block d x × AreMeant t block ds xs
AreMeant t block _ _ = ⊥

-- Names with their meanings are what is found where the block of a routine ends: whichever routine of a program it is, and whichever
-- declarations in small letters the names are, if the tables stand for the end of its block.
abbrev pub AtNames : Tables → ℕ → List DeclaredName → List OwnName → Type 0
AtNames t block names xs = (all : List Routine) (a : Annotation) (owner : ℕ) (ds : List (Declared × Kind)) → AreDeclared names ds → AreSmall ds → EndsBlock t block owner all a → ShowsOwnNames (known t) a xs ds
