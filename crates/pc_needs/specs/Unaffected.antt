-- When a change doesn't affect a routine, and what is the same then.
use Rattle.std.specs.Prelude.{ℕ, ◌≡◌, List, [], ◌∷◌, Option, Some, None, option_map, ◌⊎◌}
use Rattle.pc_syntax.specs.declared.kind.Kind.{Kind}
use Rattle.pc_syntax.specs.Plain.{Forest, Plain}
use Rattle.pc_syntax.specs.WellFormed.{IsProper}
use Rattle.pc_types.specs.Shapes.{Keyed}
use Rattle.pc_rules.specs.Law.{SameFound}
use Rattle.pc_rules.specs.RoutineList.{routines_of}
use Rattle.pc_rules.specs.Routines.{Routine}
use Rattle.pc_needs.specs.Needs.{needs}
use Rattle.pc_needs.specs.UsedNames.{forward_of}

-- the heading of a declaration: its kind; its name, parameters and result type, and whether a block, a hole or the word `forward` stands
-- behind them
pub record WrittenHeading : Type 0 where
  pub kind : Kind
  pub tree : Forest

-- the heading of this declaration
abbrev pub written : Routine → WrittenHeading
written r = record { kind = r.kind; tree = r.heading }

-- a routine is one of these
abbrev pub IsOneOf : List Routine → Routine → Type 0
IsOneOf [] r = ⊥
IsOneOf (x ∷ xs) r = (x ≡ r) ⊎ IsOneOf xs r

-- A change doesn't affect a routine that has a key: in both programs its headings are the same, its own block, with the headings of the
-- routines directly in it, is the same, and each name that it uses means the same.
pub record IsUnaffected (rs us : List Routine) (r u : Routine) : Type 0 where
  pub key : List (List ℕ)
  pub has_key : r.owner ≡ Keyed key
  pub had_key : u.owner ≡ Keyed key
  pub heading : written r ≡ written u
  pub forward : option_map written (forward_of rs r) ≡ option_map written (forward_of us u)
  pub block : r.block ≡ u.block
  pub needs : needs rs r ≡ needs us u

-- the same is found in two forward headings, if there are any
abbrev pub SameForward : List Routine → List Routine → Option Routine → Option Routine → Type 0
SameForward rs us None None = Unit {0}
SameForward rs us (Some f) (Some g) = SameFound rs us f g
SameForward rs us f g = ⊥

-- a routine that a change doesn't affect has the same errors at both its headings and in its block, from its places on, and the same is
-- found at each node of its block
pub record SameRoutine (rs us : List Routine) (r u : Routine) : Type 0 where
  pub declaration : SameFound rs us r u
  pub forward : SameForward rs us (forward_of rs r) (forward_of us u)

-- this holds in any two well-formed programs
abbrev pub NeedsLaw : Type 0
NeedsLaw = (t u : Plain) (r s : Routine) → IsProper t → IsProper u → IsOneOf (routines_of t) r → IsOneOf (routines_of u) s →
    IsUnaffected (routines_of t) (routines_of u) r s → SameRoutine (routines_of t) (routines_of u) r s
