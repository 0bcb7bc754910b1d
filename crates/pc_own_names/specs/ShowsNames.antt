-- What was kept of the routines of a program is what the rules find there.
use Rattle.std.specs.Prelude.{◌≡◌, ◌<◌, List, [], ◌∷◌, length, get_or}
use Rattle.std.specs.Option.{is_some}
use Rattle.pc_syntax.specs.declared.kind.Kind.{Kind}
use Rattle.pc_syntax.specs.Plain.{Plain}
use Rattle.pc_types.specs.Table.{nobody}
use Rattle.pc_scope.specs.Declarations.{Declared}
use Rattle.pc_rules.specs.Meanings.{find}
use Rattle.pc_rules.specs.RoutineList.{key_of}
use Rattle.pc_facts.specs.Known.{Known}
use Rattle.pc_facts.specs.Shows.{ShowsFound}
use Rattle.pc_decl.specs.Annotated.{Annotation}
use Rattle.pc_own_names.specs.OwnKinds.{own_kinds}
use Rattle.pc_own_names.specs.declared.own_name.OwnName.{OwnName}
use Rattle.pc_own_names.specs.declared.own_name.RoutineNames.{RoutineNames}

-- a name is this declaration of a routine, and it means what the rules find for it where the routine's block ends
pub record ShowsOwnName (k : Known) (a : Annotation) (x : OwnName) (d : Declared × Kind) : Type 0 where
  pub name : x.name ≡ d.0.name
  pub kind : x.kind ≡ d.1
  pub meaning : ShowsFound k d.0.name x.meaning (find a.outside a.ending d.0.name)

-- so do all, in their order
abbrev pub ShowsOwnNames : Known → Annotation → List OwnName → List (Declared × Kind) → Type 0
ShowsOwnNames k a [] [] = Unit {0}
ShowsOwnNames k a (x ∷ xs) (d ∷ ds) = ShowsOwnName k a x d × ShowsOwnNames k a xs ds
ShowsOwnNames k a _ _ = ⊥

-- what was kept of a routine of a program is what is found there
pub record ShowsRoutine (t : Plain) (k : Known) (x : RoutineNames) (a : Annotation) : Type 0 where
  pub there : x.owner.0 < length k.table.owners
  pub owner : get_or k.table.owners x.owner.0 nobody ≡ a.routine.owner
  pub key : x.key ≡ key_of a.routine.owner
  pub keyed : a.routine.has_key ≡ is_some (key_of a.routine.owner)
  pub later : x.is_later ≡ a.routine.is_later
  pub names : ShowsOwnNames k a x.names.items (own_kinds t a.routine)

-- so it is with all routines, in their order
abbrev pub AllShowRoutines : Plain → Known → List RoutineNames → List Annotation → Type 0
AllShowRoutines t k [] [] = Unit {0}
AllShowRoutines t k (x ∷ xs) (a ∷ more) = ShowsRoutine t k x a × AllShowRoutines t k xs more
AllShowRoutines t k _ _ = ⊥
