-- A key names one routine (ISO 7185, 6.2.2.7, 6.6.1).
use Rattle.std.specs.Prelude.{ℕ, ◌≡◌, true, false, List, Some}
use Rattle.pc_syntax.specs.Plain.{Plain}
use Rattle.pc_syntax.specs.WellFormed.{IsProper}
use Rattle.pc_types.specs.Shapes.{Keyed}
use Rattle.pc_scope.specs.Headings.{ends_forward}
use Rattle.pc_rules.specs.RoutineList.{routines_of}
use Rattle.pc_rules.specs.Routines.{Routine, parameters_of}
use Rattle.pc_needs.specs.Unaffected.{IsOneOf}
use Rattle.pc_needs.specs.UsedNames.{stands_forward, forward_of}

-- two declarations of routines in a program that have one key are one, unless one of them is a forward heading and the other isn't
abbrev pub KeysLaw : Type 0
KeysLaw = (t : Plain) (a b : Routine) (key : List (List ℕ)) → IsProper t → IsOneOf (routines_of t) a → IsOneOf (routines_of t) b →
    a.owner ≡ Keyed key → b.owner ≡ Keyed key → ends_forward a.heading ≡ ends_forward b.heading → a ≡ b

-- a declaration is the forward heading of a later one: it has no block, the same key, and gives the other its parameters
pub record IsForwardOf (rs : List Routine) (r f : Routine) : Type 0 where
  pub found : forward_of rs r ≡ Some f
  pub among : IsOneOf rs f
  pub owner : f.owner ≡ r.owner
  pub stands : stands_forward f ≡ true
  pub first : f.is_later ≡ false
  pub given : r.given ≡ parameters_of f

-- each later declaration that has a key has one
abbrev pub ForwardLaw : Type 0
ForwardLaw = (t : Plain) (r : Routine) (key : List (List ℕ)) → IsProper t → IsOneOf (routines_of t) r → r.owner ≡ Keyed key → r.is_later ≡ true →
    (f : Routine) × IsForwardOf (routines_of t) r f
