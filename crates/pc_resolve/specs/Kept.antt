-- What is kept of the routines of a program while it is gone through: the names that each declares, and what they mean where its block ends (ISO 7185, 6.2.1).
use Rattle.std.specs.Prelude.{◌≡◌, ◌<◌, ℕ, true, if◌then◌else◌, List, [], ◌∷◌, ◌++◌, length, get_or, insert}
use Rattle.pc_syntax.specs.declared.kind.Kind.{Kind}
use Rattle.pc_syntax.specs.Plain.{Plain}
use Rattle.pc_syntax.specs.WellFormed.{IsProper}
use Rattle.pc_types.specs.Table.{nobody}
use Rattle.pc_scope.specs.Blocks.{block_kids}
use Rattle.pc_scope.specs.Declarations.{Declared}
use Rattle.pc_names.specs.Chains.{chain_of}
use Rattle.pc_needs.specs.Unaffected.{IsOneOf}
use Rattle.pc_rules.specs.Errors.{is_program}
use Rattle.pc_rules.specs.Meanings.{Local, find}
use Rattle.pc_rules.specs.OwnBlock.{heading_part, own}
use Rattle.pc_rules.specs.Outsides.{outside_of, signature_named}
use Rattle.pc_rules.specs.RoutineList.{key_of, routines_of}
use Rattle.pc_rules.specs.Routines.{Routine}
use Rattle.pc_facts.specs.Known.{Known}
use Rattle.pc_decl.specs.Annotated.{annotation_of}
use Rattle.pc_decl.specs.Declared.{given_names}
use Rattle.pc_decl.specs.Nodes.{kids_at}
use Rattle.pc_decl_laws.specs.Kinds.{kinds_at, parameter_kinds}
use Rattle.pc_own_names.specs.OwnKinds.{first_kinds, own_kinds, AreDeclared}
use Rattle.pc_own_names.specs.ShowsNames.{ShowsOwnNames}
use Rattle.pc_own_names.specs.declared.own_name.DeclaredName.{DeclaredName}
use Rattle.pc_own_names.specs.declared.own_name.RoutineNames.{RoutineNames}
use Rattle.pc_places.specs.Places.{known, IsPlace, IsNamed}
use Rattle.pc_places.specs.declared.tables.Tables.{Tables}
use Rattle.pc_standing.specs.Signed.{IsSigned, OwnsRoutines}
use Rattle.pc_routine_sites.specs.Sites.{StandsAround}
use Rattle.pc_routine_sites.specs.declared.site.RoutineSite.{RoutineSite}

-- the names that a routine declares, each with the kind of its node, from its heading and its own block alone
abbrev pub kinds_of : Routine → List (Declared × Kind)
kinds_of r = first_kinds (given_names r) ((if r.is_later then [] else parameter_kinds r.place r.heading) ++ kinds_at (r.place ++ r.block_kid ∷ []) 1 r.block)

-- what was kept of a routine is what the rules find there
pub record IsKept (all : List Routine) (k : Known) (x : RoutineNames) (r : Routine) : Type 0 where
  pub there : x.owner.0 < length k.table.owners
  pub owner : get_or k.table.owners x.owner.0 nobody ≡ r.owner
  pub key : x.key ≡ key_of r.owner
  pub later : x.is_later ≡ r.is_later
  pub names : ShowsOwnNames k (annotation_of all r) x.names.items (kinds_of r)

-- so it is with routines in a row
abbrev pub AreKept : List Routine → Known → List RoutineNames → List Routine → Type 0
AreKept all k [] [] = Unit {0}
AreKept all k (x ∷ xs) (r ∷ rs) = IsKept all k x r × AreKept all k xs rs
AreKept all k _ _ = ⊥

-- A routine of a program is some node, with this site, and declares these names; and the tables stand for a place at which each name means
-- what it means where the routine's block ends.
pub record IsAtEnd (t : Plain) (r : Routine) (s : Tables) (declared : List DeclaredName) (block : ℕ) (site : RoutineSite) (l : Local) : Type 0 where
  pub node : Plain
  pub kids : kids_at t r.place ≡ node.kids
  pub heading : r.heading ≡ heading_part node.kids
  pub block_is : r.block ≡ own (block_kids node.kids)
  pub later : site.is_later ≡ r.is_later
  pub key : site.key ≡ key_of r.owner
  pub declares : AreDeclared declared (own_kinds t r)
  pub place : IsPlace s block site.owner.0 (outside_of (routines_of t) r) l
  pub owner : get_or (known s).table.owners site.owner.0 nobody ≡ r.owner
  pub owns : OwnsRoutines r.owner l.known
  pub named : IsNamed s.names s.declarations.items
  pub signed : IsSigned s.names (known s) s.declarations.items (signature_named (routines_of t)) (chain_of s.names.chains block)
  pub ends : (n : List ℕ) → find (outside_of (routines_of t) r) l n ≡ find (outside_of (routines_of t) r) (annotation_of (routines_of t) r).ending n

-- whichever routine of whichever program it is, this is what the rules find there
abbrev pub ShowsAtEnd : Tables → List DeclaredName → ℕ → RoutineSite → RoutineNames → Type 0
ShowsAtEnd s declared block site x = (t : Plain) (r : Routine) (l : Local) → IsAtEnd t r s declared block site l → IsKept (routines_of t) (known s) x r

-- these are the names that the routine with this node declares, whichever routine of whichever program it is, if the state stands for where
-- its block begins
abbrev pub DeclaresNames : Tables → RoutineSite → Plain → List DeclaredName → Type 0
DeclaresNames s site node xs = (t : Plain) (r : Routine) (blocks : List ℕ) → IsProper t → is_program t.kind ≡ true → IsOneOf (routines_of t) r → kids_at t r.place ≡ node.kids →
    StandsAround (routines_of t) r s blocks site → AreDeclared xs (own_kinds t r)

-- one routine more is kept, at this index among those that were
pub record KeepsOne (s : Tables) (declared : List DeclaredName) (block : ℕ) (site : RoutineSite) (index : ℕ) (old new : List RoutineNames) : Type 0 where
  pub one : RoutineNames
  pub kept : new ≡ insert old index one
  pub shows : ShowsAtEnd s declared block site one
