-- How the own block of a routine is made, as far as it matters for its names.
use Rattle.std.proofs.Common.{List, [], if◌then◌else◌, refl, suc, true, ℕ, ◌++◌, ◌∙◌, ◌∷◌, ◌≡◌}
use Rattle.pc_rule_laws.specs.ClassedPlaces.{classed_at, with_class}
use Rattle.pc_rule_laws.specs.Roles.{DeclaresRoutine, DeclaresVariables, DefinesConstant, DefinesType, Gap, Gathers, GathersOne, GathersTwo, ListsElements, Quiet, Role, RoutinePart, TypePart, class_by, is_routine_role, places_by, role}
use Rattle.pc_syntax.specs.Classes.{is_name, is_names}
use Rattle.pc_syntax.specs.Plain.{Cons, Forest, Nil}

abbrev pub IsQuiet : Role → Type 0
IsQuiet Quiet = Unit {0}
IsQuiet Gap = Unit {0}
IsQuiet _ = ⊥

abbrev pub IsNil : Forest → Type 0
IsNil Nil = Unit {0}
IsNil (Cons k w ns ks ts) = ⊥

abbrev pub IsSilent : Role → Forest → Type 0
IsSilent Quiet ks = Unit {0}
IsSilent Gap ks = IsNil ks
IsSilent _ ks = ⊥

-- trees that declare nothing
abbrev pub Silent : Forest → Type 0
Silent Nil = Unit {0}
Silent (Cons k w ns ks ts) = IsSilent (role k) ks × Silent ks × Silent ts

-- names or holes
abbrev pub NameList : Forest → Type 0
NameList Nil = Unit {0}
NameList (Cons k w ns ks ts) = (is_name k ≡ true) × IsNil ks × NameList ts

-- the first tree is a name, or the node of a list of names
abbrev pub HeadName : Forest → Type 0
HeadName Nil = ⊥
HeadName (Cons k w ns ks ts) = (is_name k ≡ true) × IsNil ks

abbrev pub HeadNames : Forest → Type 0
HeadNames Nil = ⊥
HeadNames (Cons k w ns ks ts) = (is_names k ≡ true) × NameList ks

abbrev pub IsSingle : Forest → Type 0
IsSingle Nil = ⊥
IsSingle (Cons k w ns ks ts) = IsNil ts

abbrev pub IsPair : Forest → Type 0
IsPair Nil = ⊥
IsPair (Cons k w ns ks ts) = IsSingle ts

-- routines, or holes
abbrev pub IsRoutineOrGap : Role → Forest → Type 0
IsRoutineOrGap (DeclaresRoutine c) ks = HeadName ks
IsRoutineOrGap Gap ks = IsNil ks
IsRoutineOrGap _ ks = ⊥

abbrev pub RoutineList : Forest → Type 0
RoutineList Nil = Unit {0}
RoutineList (Cons k w ns ks ts) = IsRoutineOrGap (role k) ks × RoutineList ts

-- the kids of a node of a role, where those that are in order themselves are given
abbrev pub InOrder : Role → Forest → Type 0 → Type 0
InOrder Quiet ks rest = Silent ks
InOrder Gap ks rest = IsNil ks
InOrder Gathers ks rest = rest
InOrder GathersOne ks rest = IsSingle ks × rest
InOrder GathersTwo ks rest = IsPair ks × rest
InOrder TypePart ks rest = rest
InOrder RoutinePart ks rest = RoutineList ks
InOrder DefinesConstant ks rest = HeadName ks × Silent ks
InOrder DefinesType ks rest = HeadName ks × IsPair ks × rest
InOrder DeclaresVariables ks rest = HeadNames ks × IsPair ks × rest
InOrder ListsElements ks rest = HeadNames ks × IsSingle ks × Silent ks
InOrder _ ks rest = ⊥

-- parts of an own block
abbrev pub Orderly : Forest → Type 0
Orderly Nil = Unit {0}
Orderly (Cons k w ns ks ts) = InOrder (role k) ks (Orderly ks) × Orderly ts

pub silent-classed : (p : List ℕ) (i : ℕ) (f : Forest) → Silent f → classed_at p i f ≡ []
silent-classed p i Nil h = refl
silent-classed p i (Cons k w ns ks ts) h =
    let e : classed_at p i (Cons k w ns ks ts) ≡ classed_at (p ++ i ∷ []) 1 ks ++ classed_at p (suc i) ts = quiet (role k) h.0 in
    e ∙ (λ j. silent-classed (p ++ i ∷ []) 1 ks h.1 j ++ silent-classed p (suc i) ts h.2 j) where
      quiet : (r : Role) → IsSilent r ks →
          (with_class (class_by r) (places_by r (p ++ i ∷ []) ks) ++ (if is_routine_role r then [] else classed_at (p ++ i ∷ []) 1 ks)) ++ classed_at p (suc i) ts
          ≡ classed_at (p ++ i ∷ []) 1 ks ++ classed_at p (suc i) ts
      quiet Quiet h = refl
      quiet Gap h = refl
      quiet Gathers h = absurd h
      quiet _ h = absurd h

-- such trees are in order
pub silent-orderly : (f : Forest) → Silent f → Orderly f
silent-orderly Nil h = tt
silent-orderly (Cons k w ns ks ts) h = (by (role k) h.0 h.1, silent-orderly ts h.2) where
  by : (r : Role) → IsSilent r ks → Silent ks → InOrder r ks (Orderly ks)
  by Quiet h s = s
  by Gap h s = h
  by Gathers h s = absurd h
  by _ h s = absurd h
