-- What was kept of the routines of a program is what the rules find there: lemmas.
use Rattle.std.proofs.Common.{◌≡◌, zero, suc, List, [], ◌∷◌, Bool, false, true, if◌then◌else◌, map, refl, ap, sym, ◌∙◌, subst, arith}
use Rattle.pc_syntax.specs.Plain.{Plain}
use Rattle.pc_syntax.specs.WellFormed.{IsProper}
use Rattle.pc_syntax.specs.declared.kind.Kind.{Kind}
use Rattle.pc_syntax.specs.declared.kind.Kind.TheVariants as kind
use Rattle.pc_scope.specs.Declarations.{Declared}
use Rattle.pc_types.specs.Shapes.{Owner}
use Rattle.pc_types.specs.Table.{nobody}
use Rattle.pc_rules.specs.Errors.{is_program}
use Rattle.pc_rules.specs.RoutineList.{routines_of}
use Rattle.pc_rules.specs.Routines.{Routine}
use Rattle.pc_facts.specs.Known.{Known}
use Rattle.pc_needs.proofs.Lists.{Each}
use Rattle.pc_sightings.specs.TouchedLog.{AreApart}
use Rattle.pc_decl.specs.Annotated.{Annotation, annotated, annotation_of, routines_in_program}
use Rattle.pc_decl_laws.proofs.RoutineLemmas.{IsRooted, routines-rooted}
use Rattle.pc_own_names.specs.ShowsNames.{AllShowRoutines, ShowsOwnNames, ShowsRoutine}
use Rattle.pc_own_names.specs.declared.own_name.RoutineNames.{RoutineNames}
use Rattle.pc_resolve.specs.Kept.{AreKept, IsKept}
use Rattle.pc_resolve.proofs.OwnKindsLemmas.{own-kinds_of}

-- one routine
shows-routine : (t : Plain) (all : List Routine) (k : Known) (x : RoutineNames) (r : Routine) → IsRooted t r → IsKept all k x r → ShowsRoutine t k x (annotation_of all r)
shows-routine t all k x r s h = record {
  there = h.there;
  owner = h.owner;
  key = h.key;
  keyed = s.keyed;
  later = h.later;
  names =
      subst (λ (ds : List (Declared × Kind)). ShowsOwnNames k (annotation_of all r) x.names.items ds) (sym (own-kinds_of t r s.kids s.here s.heading s.block)) h.names;
}

-- all
all-show : (t : Plain) (all : List Routine) (k : Known) (xs : List RoutineNames) (rs : List Routine) → Each (IsRooted t) rs → AreKept all k xs rs → AllShowRoutines t k xs (map (annotation_of all) rs)
all-show t all k [] [] s h = tt
all-show t all k (x ∷ xs) (r ∷ rs) s h = (shows-routine t all k x r s.0 h.0, all-show t all k xs rs s.1 h.1)
all-show t all k [] (r ∷ rs) s h = absurd h
all-show t all k (x ∷ xs) [] s h = absurd h

annotated-routines : (t : Plain) → (annotated t).routines ≡ map (annotation_of (routines_in_program t)) (routines_in_program t)
unfolding annotated
annotated-routines t = refl

-- of a program
pub program-shown : (t : Plain) (k : Known) (xs : List RoutineNames) → IsProper t → is_program t.kind ≡ true → AreKept (routines_of t) k xs (routines_of t) → AllShowRoutines t k xs (annotated t).routines
program-shown t k xs proper program kept =
    let rs : routines_in_program t ≡ routines_of t = ap (λ (b : Bool). if b then routines_of t else []) program in
    subst (λ (ys : List Annotation). AllShowRoutines t k xs ys) (sym (annotated-routines t ∙ ap (λ (qs : List Routine). map (annotation_of qs) qs) rs)) (all-show t (routines_of t) k xs (routines_of t) (routines-rooted t proper program) kept)

-- a tree that is no program has none
pub none-shown : (t : Plain) (k : Known) (xs : List RoutineNames) → is_program t.kind ≡ false → xs ≡ [] → AllShowRoutines t k xs (annotated t).routines
none-shown t k xs other none =
    let rs : routines_in_program t ≡ [] = ap (λ (b : Bool). if b then routines_of t else []) other in
    subst (λ (p : List RoutineNames × List Annotation). AllShowRoutines t k p.0 p.1) (λ i. (sym none i, sym (annotated-routines t ∙ ap (λ (qs : List Routine). map (annotation_of qs) qs) rs) i)) tt

-- the one owner that there is at first is apart from others
pub first-apart : (os : List Owner) → os ≡ nobody ∷ [] → AreApart os
first-apart os e = subst AreApart (sym e) only where
  only : AreApart (nobody ∷ [])
  only zero zero i j = refl
  only (suc n) m i j = absurd (omega (arith, i))
  only zero (suc m) i j = absurd (omega (arith, j))

-- a tree of another kind is no program
pub other-kind : (k : Kind) → (k ≡ kind.Program → ⊥) → is_program k ≡ false
other-kind kind.Program other = absurd (other refl)
other-kind k other = refl
