-- When the tables of a program, as the declarations of a block left them, stand for its statement part.
use Rattle.std.specs.Prelude.{◌≡◌, ℕ, Bool, true, false, List, []}
use Rattle.std.specs.Option.{option_map_or}
use Rattle.pc_syntax.specs.Plain.{Plain, forest_of}
use Rattle.pc_syntax.specs.WellFormed.{IsProper}
use Rattle.pc_types.specs.Shapes.{Owner}
use Rattle.pc_names.specs.Chains.{chain_of}
use Rattle.pc_names.specs.Numbers.{number_of}
use Rattle.pc_rules.specs.Errors.{is_program}
use Rattle.pc_rules.specs.Meanings.{Local, Outside, find}
use Rattle.pc_rules.specs.Outsides.{signature_named, outside_of}
use Rattle.pc_rules.specs.RoutineList.{routines_of}
use Rattle.pc_rules.specs.Routines.{Routine, start_of}
use Rattle.pc_environment.specs.Decorating.{place_after}
use Rattle.pc_environment.specs.Sight.{sight_of}
use Rattle.pc_pointers.specs.Good.{Targets, IsGoodFound}
use Rattle.pc_needs.specs.Unaffected.{IsOneOf}
use Rattle.pc_sightings.specs.TouchedLog.{AreApart, stands_since}
use Rattle.pc_access_rules.specs.Pointers.{AreTold}
use Rattle.pc_access_rules.specs.Selves.{ShowsSelf}
use Rattle.pc_places.specs.Places as places
use Rattle.pc_places.specs.Places.{IsPlace, IsNamed}
use Rattle.pc_places.specs.declared.tables.Tables.{Tables}
use Rattle.pc_bodies.specs.Resolved.{known, Stands}
use Rattle.pc_bodies.specs.declared.body.Body.{Body}
use Rattle.pc_bodies.specs.declared.body.Going.{Going}
use Rattle.pc_standing.specs.Signed.{IsSigned, HaveNoRoutine, OwnsRoutines, NoRoutines}

-- a statement part has these tables, and no record is opened in it yet
pub record HasTables (t : Tables) (b : Body) (g : Going) : Type 0 where
  pub types : b.types.now ≡ t.types
  pub names : b.names.now ≡ t.names
  pub declarations : b.declarations.now ≡ t.declarations.items
  pub signatures : b.signatures.now ≡ t.signatures.items
  pub texts : g.texts.items ≡ t.texts.items
  pub opened : g.opened.items ≡ []

-- the log of variables that other routines have touched says which variables of the block a routine in it touches
abbrev pub LogsInside : Tables → Body → (List ℕ → Bool) → Type 0
LogsInside t b touched = (n : List ℕ) → touched n ≡ option_map_or (λ i. stands_since b.mark b.inside.now (b.owner.0, i)) (number_of t.names.texts n) false

-- The tables stand for a statement part, if they stand for its place, complete declarations are found under their own names, those of
-- routines in the block and those around have their parameters and results, the routines of the block are its own, owners have one
-- number each, pointers lead to what some targets say, as the table of domains has it, and the log says what the routines in the block touch.
abbrev pub BodyLaw : Type 0
BodyLaw = (targets : Targets) (t : Tables) (all : List Routine) (r : Routine) (l : Local) (b : Body) (g : Going) → HasTables t b g → IsPlace t b.block.0 b.owner.0 (outside_of all r) l →
    OwnsRoutines r.owner l.known → IsNamed t.names t.declarations.items → IsSigned t.names (places.known t) t.declarations.items (signature_named all) (chain_of t.names.chains b.block.0) →
    ShowsSelf (places.known t) b.own_function l.self → AreApart (places.known t).table.owners → AreTold targets (places.known t).table →
    ((n : List ℕ) → IsGoodFound targets (find (outside_of all r) l n)) → LogsInside t b (outside_of all r).touched →
    Stands b (known b g) g.opened.items (sight_of (outside_of all r) l)

-- a place of this block, at which the complete routines are the block's own
abbrev pub Owns : Owner → Local → Type 0
Owns o l = (l.owner ≡ o) × OwnsRoutines o l.known

-- where the block of a routine of a program begins no routine is complete; behind nodes in a row none is where there is none among them;
-- and behind nodes of any kinds those that are complete are the block's own
pub record OwnLaw : Type 0 where
  pub none_start : (t : Plain) (r : Routine) → IsProper t → is_program t.kind ≡ true → IsOneOf (routines_of t) r → NoRoutines (start_of r).known
  pub none_after : (out : Outside) (l : Local) (ts : List Plain) → HaveNoRoutine (forest_of ts) → NoRoutines l.known → NoRoutines (place_after out l ts).known
  pub start : (t : Plain) (r : Routine) → IsProper t → is_program t.kind ≡ true → IsOneOf (routines_of t) r → Owns r.owner (start_of r)
  pub after : (o : Owner) (out : Outside) (l : Local) (ts : List Plain) → Owns o l → Owns o (place_after out l ts)
