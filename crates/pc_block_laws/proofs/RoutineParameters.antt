-- The parameters of the routines of a program: the first of each name, and no types.
use Rattle.std.specs.Prelude.{◌≡◌, ℕ, suc, Bool, true, false, if◌then◌else◌, List, [], ◌∷◌, ◌++◌, Option, Some}
use Rattle.std.specs.Option.{option_map_or}
use Rattle.std.proofs.Common.{refl, sym, subst, true≢false}
use Rattle.pc_syntax.specs.declared.kind.Kind.{Kind}
use Rattle.pc_syntax.specs.declared.kind.Kind.TheVariants as kind
use Rattle.pc_syntax.specs.Layout.{layout}
use Rattle.pc_syntax.specs.Plain.{Forest, Nil, Cons, Plain, count, kinds}
use Rattle.pc_syntax.specs.WellFormed.{WellFormed, fits_some, IsProper}
use Rattle.pc_scope.specs.Headings.{Heading, pairs}
use Rattle.pc_rules.specs.Attributes.{Attributes, first, nodes}
use Rattle.pc_rules.specs.Declarations.{heading_here}
use Rattle.pc_rules.specs.Decorated.{decorate}
use Rattle.pc_rules.specs.Errors.{is_program}
use Rattle.pc_rules.specs.Meanings.{Found, Local, find}
use Rattle.pc_rules.specs.OwnBlock.{own, heading_part}
use Rattle.pc_rules.specs.Places.{inner, beside}
use Rattle.pc_rules.specs.RoutineList.{Forwarded, forwarded_for, without_forwarded, routine_of, key_of, forwarded_by, ARoutine, part_of, routines_in, routines_below, program_routine, routines_of}
use Rattle.pc_rules.specs.Routines.{Routine, bare, heading_start, heading_marks, params_in, parameters_of, start_of}
use Rattle.pc_needs.specs.Unaffected.{IsOneOf}
use Rattle.pc_needs.proofs.Lists.{Each, each-append, each-one}
use Rattle.pc_needs.proofs.ParameterLemmas.{not-none, not-all}
use Rattle.pc_needs.proofs.PlaceLemmas.{of-part}
use Rattle.pc_program_laws.specs.Routines.{has_heading}
use Rattle.pc_block_laws.specs.OwnTypes.{NoTypes}
use Rattle.pc_block_laws.proofs.HeadingLemmas.{heading-typeless}
use Rattle.pc_block_laws.proofs.TypelessLemmas.{no-types, typeless-nodes, typeless-at, marks-typeless}
use Rattle.pc_block_laws.proofs.ParameterLemmas.{Parameters, AreParameters, firsts-once, firsts-typeless}

-- ---- forward headings

abbrev AllWaiting : List Forwarded → Type 0
AllWaiting fs = Each (λ (f : Forwarded). AreParameters f.parameters) fs

given-so : (h : Heading) (fs : List Forwarded) → AllWaiting fs → AreParameters (option_map_or (λ (x : Forwarded). x.parameters) (forwarded_for h fs) [])
given-so h [] w = (tt, tt)
given-so h (f ∷ fs) w = which (given-so h fs w.1) (pairs h f.heading) where
  which : AreParameters (option_map_or (λ (x : Forwarded). x.parameters) (forwarded_for h fs) []) → (b : Bool) →
      AreParameters (option_map_or (λ (x : Forwarded). x.parameters) (if b then Some f else forwarded_for h fs) [])
  which rest true = w.0
  which rest false = rest

without-so : (h : Heading) (fs : List Forwarded) → AllWaiting fs → AllWaiting (without_forwarded h fs)
without-so h [] w = tt
without-so h (f ∷ fs) w = which (without-so h fs w.1) (pairs h f.heading) where
  which : AllWaiting (without_forwarded h fs) → (b : Bool) → AllWaiting (if b then without_forwarded h fs else f ∷ without_forwarded h fs)
  which rest true = rest
  which rest false = (w.0, rest)

forwarded-so : (l : Local) (r : Routine) (fs : List Forwarded) → AreParameters (parameters_of r) → AllWaiting fs → AllWaiting (forwarded_by l r fs)
forwarded-so l r fs h w = which (heading_here l).is_forward where
  which : (b : Bool) → AllWaiting (if b then fs ++ record { heading = heading_here l; key = key_of r.owner; parameters = parameters_of r } ∷ [] else without_forwarded (heading_here l) fs)
  which true = each-append (λ (f : Forwarded). AreParameters f.parameters) fs _ w (h, tt)
  which false = without-so (heading_here l) fs w

-- ---- routines

abbrev HasParameters : Routine → Type 0
HasParameters r = AreParameters (parameters_of r)

either : (b : Bool) (x y : Parameters) → AreParameters x → AreParameters y → AreParameters (if b then x else y)
either true x y h g = h
either false x y h g = g

-- the parameters of a well-formed heading
own-parameters : (r : Routine) (k : Kind) (w : List ℕ) (ks : Forest) → r.heading ≡ heading_part ks → AreParameters r.given → has_heading k ≡ true →
    fits_some (layout k w (count ks)) (kinds ks) ≡ true → WellFormed ks → HasParameters r
unfolding heading_marks
own-parameters r k w ks e h p f g =
    let typeless : NoTypes (params_in (decorate (bare r.means) (heading_start r.owner) (heading_part ks))).defines =
    no-types (params_in (decorate (bare r.means) (heading_start r.owner) (heading_part ks))).defines
    (typeless-at (nodes (decorate (bare r.means) (heading_start r.owner) (heading_part ks))) 1
    (typeless-nodes (decorate (bare r.means) (heading_start r.owner) (heading_part ks)) (marks-typeless (bare r.means) (heading_start r.owner) (heading_part ks) (heading-typeless k w ks p f g)))) in
    either r.is_later r.given _ h
    (firsts-once [] _, firsts-typeless [] _ (subst (λ (x : Forest). NoTypes (params_in (decorate (bare r.means) (heading_start r.owner) x)).defines) (sym e) typeless))

routine-heading : (k : Kind) → part_of k ≡ ARoutine → has_heading k ≡ true
routine-heading kind.Procedure p = refl
routine-heading kind.Function p = refl
routine-heading kind.Funbody p = refl
routine-heading kind.Routines p = absurd (not-all p)
routine-heading k p = absurd (not-none p)

mutual
  unfolding routines_in

  parameters-in : (m : List ℕ → Found) (l : Local) (fs : List Forwarded) (p : List ℕ) (key : Option (List (List ℕ))) (f : Forest) → WellFormed f → AllWaiting fs → Each HasParameters (routines_in m l fs p key f)
  parameters-in m l fs p key Nil c w = tt
  parameters-in m l fs p key (Cons k v ns ks ts) c w =
      let a : Attributes = first (decorate (bare m) l (own (Cons k v ns ks Nil))) in
      let after : Local = beside l k a in
      let r : Routine = routine_of (find (bare m) after) l fs (p ++ l.kid ∷ []) key k ks in
      of-part (Each HasParameters) (part_of k) _ _ _
      (λ part.
      let here : HasParameters r = own-parameters r k v ks refl (given-so (heading_here l) fs w) (routine-heading k part) c.0 c.3 in
      each-append HasParameters (r ∷ routines_below r 1 ks) _ (here, parameters-below r 1 ks c.3) (parameters-in m after (forwarded_by l r fs) p key ts c.4 (forwarded-so l r fs here w)))
      (λ part. parameters-in m (inner l k ks) [] (p ++ l.kid ∷ []) key ks c.3 tt)
      (λ part. parameters-in m after fs p key ts c.4 w)

  parameters-below : (r : Routine) (i : ℕ) (f : Forest) → WellFormed f → Each HasParameters (routines_below r i f)
  parameters-below r i Nil c = tt
  parameters-below r i (Cons kind.Block v ns ks ts) c = parameters-in r.means (start_of r) [] (r.place ++ i ∷ []) (key_of r.owner) ks c.3 tt
  parameters-below r i (Cons k v ns ks ts) c = parameters-below r (suc i) ts c.4

program-heading : (k : Kind) → is_program k ≡ true → has_heading k ≡ true
program-heading kind.Program e = refl
program-heading _ e = absurd (true≢false (sym e))

-- all routines of a program
pub routines-parameters : (t : Plain) → IsProper t → is_program t.kind ≡ true → Each HasParameters (routines_of t)
unfolding routines_of
routines-parameters t proper program = (
  own-parameters (program_routine t) t.kind t.word t.kids refl (tt, tt) (program-heading t.kind program) proper.sound.0 proper.sound.3,
  parameters-below (program_routine t) 1 t.kids proper.sound.3,
)

pub routine-parameters : (t : Plain) (r : Routine) → IsProper t → is_program t.kind ≡ true → IsOneOf (routines_of t) r → AreParameters (parameters_of r)
routine-parameters t r proper program i = each-one HasParameters (routines_of t) r i (routines-parameters t proper program)
