-- The owners of the routines of a program, in text order: each is new, but that of the later declaration of a forward routine with a key
-- (ISO 7185, 6.2.2.7, 6.6.1).
use Rattle.std.specs.Prelude.{◌≡◌, ◌<◌, ◌⊎◌, ℕ, true, false, List, [], ◌∷◌, ◌++◌, get_or, length}
use Rattle.pc_syntax.specs.Plain.{Plain}
use Rattle.pc_syntax.specs.WellFormed.{IsProper}
use Rattle.pc_types.specs.Sameness.{same_owner}
use Rattle.pc_types.specs.Shapes.{Owner, Keyed, Placed}
use Rattle.pc_types.specs.Table.{nobody}
use Rattle.pc_rules.specs.RoutineList.{routines_of}
use Rattle.pc_rules.specs.Routines.{Routine}
use Rattle.pc_needs.specs.Keys.{IsForwardOf}
use Rattle.pc_needs.specs.Unaffected.{IsOneOf}
use Rattle.pc_sightings.specs.TouchedLog.{AreApart}

-- a routine is no later declaration of a forward one, or it has no key
abbrev pub BeginsOwner : Routine → Type 0
BeginsOwner r = (r.is_later ≡ false) ⊎ (r.has_key ≡ false)

-- each owner of a table is that of one of these routines
abbrev pub OwnersAmong : List Owner → List Routine → Type 0
OwnersAmong owners rs = (i : ℕ) → i < length owners → (q : Routine) × IsOneOf rs q × (q.owner ≡ get_or owners i nobody)

-- the owner of such a routine is that of no routine before
abbrev pub FreshLaw : Type 0
FreshLaw = (t : Plain) (before behind : List Routine) (r q : Routine) → IsProper t → routines_of t ≡ before ++ r ∷ behind → BeginsOwner r → IsOneOf before q → same_owner q.owner r.owner ≡ false

-- so a table of owners of routines may get its owner
abbrev pub GrownOwnersLaw : Type 0
GrownOwnersLaw = (t : Plain) (owners : List Owner) (before behind : List Routine) (r : Routine) → IsProper t → routines_of t ≡ before ++ r ∷ behind → BeginsOwner r →
    AreApart owners → OwnersAmong owners before → AreApart (owners ++ r.owner ∷ []) × OwnersAmong (owners ++ r.owner ∷ []) (before ++ r ∷ [])

-- or stay as it is
abbrev pub StayingOwnersLaw : Type 0
StayingOwnersLaw = (owners : List Owner) (before : List Routine) (r : Routine) → OwnersAmong owners before → OwnersAmong owners (before ++ r ∷ [])

-- a later declaration with a key has the owner of its forward heading, which stands before
abbrev pub LaterOwnerLaw : Type 0
LaterOwnerLaw = (t : Plain) (before behind : List Routine) (r : Routine) (key : List (List ℕ)) → IsProper t → routines_of t ≡ before ++ r ∷ behind → r.is_later ≡ true → r.owner ≡ Keyed key →
    (f : Routine) × IsForwardOf (routines_of t) r f × IsOneOf before f

-- each routine is one of the two
abbrev pub EachOwnerLaw : Type 0
EachOwnerLaw = (t : Plain) (before behind : List Routine) (r : Routine) → IsProper t → routines_of t ≡ before ++ r ∷ behind →
    BeginsOwner r ⊎ ((f : Routine) × IsForwardOf (routines_of t) r f × IsOneOf before f)

-- a routine without a key has its place for an owner, and one with a key that key
pub record HasOwner (r : Routine) : Type 0 where
  pub keyed : r.has_key ≡ true → (key : List (List ℕ)) × (r.owner ≡ Keyed key)
  pub placed : r.has_key ≡ false → r.owner ≡ Placed r.place

-- the owners of the routines of a program
pub record OwnersLaw : Type 0 where
  pub owner : (t : Plain) (r : Routine) → IsOneOf (routines_of t) r → HasOwner r
  pub fresh : FreshLaw
  pub grown : GrownOwnersLaw
  pub staying : StayingOwnersLaw
  pub later : LaterOwnerLaw
  pub each : EachOwnerLaw
  -- at the beginning the program alone has an owner
  pub first : (t : Plain) (r : Routine) (behind : List Routine) → routines_of t ≡ r ∷ behind → AreApart (r.owner ∷ []) × OwnersAmong (r.owner ∷ []) (r ∷ [])
