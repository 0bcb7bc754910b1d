-- The parameters that the routines of a program have from forward headings are in small letters.
use Rattle.std.specs.Prelude.{ℕ, suc, Bool, true, false, if◌then◌else◌, List, [], ◌∷◌, ◌++◌, Option, Some}
use Rattle.std.specs.Option.{option_map_or}
use Rattle.pc_syntax.specs.declared.kind.Kind.TheVariants as kind
use Rattle.pc_syntax.specs.Plain.{Forest, Nil, Cons, Plain}
use Rattle.pc_scope.specs.Headings.{Heading, pairs}
use Rattle.pc_rules.specs.Attributes.{Attributes, first}
use Rattle.pc_rules.specs.Declarations.{heading_here}
use Rattle.pc_rules.specs.Decorated.{decorate}
use Rattle.pc_rules.specs.Meanings.{Found, Local, Meaning, find}
use Rattle.pc_rules.specs.OwnBlock.{own}
use Rattle.pc_rules.specs.Places.{inner, beside}
use Rattle.pc_rules.specs.RoutineList.{Forwarded, forwarded_for, without_forwarded, routine_of, key_of, forwarded_by, part_of, routines_in, routines_below, program_routine, routines_of}
use Rattle.pc_rules.specs.Routines.{Routine, bare, firsts, heading_start, heading_marks, params_in, parameters_of, start_of}
use Rattle.pc_needs.specs.Unaffected.{IsOneOf}
use Rattle.pc_needs.proofs.Lists.{Each, each-append, each-one}
use Rattle.pc_needs.proofs.PlaceLemmas.{of-part}
use Rattle.pc_block_names.proofs.NodeLemmas.{SmallMeanings, second-small, firsts-small}

-- ---- forward headings

-- those that wait have parameters in small letters
abbrev AllWaiting : List Forwarded → Type 0
AllWaiting fs = Each (λ (f : Forwarded). SmallMeanings f.parameters) fs

given-so : (h : Heading) (fs : List Forwarded) → AllWaiting fs → SmallMeanings (option_map_or (λ (x : Forwarded). x.parameters) (forwarded_for h fs) [])
given-so h [] w = tt
given-so h (f ∷ fs) w = which (given-so h fs w.1) (pairs h f.heading) where
  which : SmallMeanings (option_map_or (λ (x : Forwarded). x.parameters) (forwarded_for h fs) []) → (b : Bool) →
      SmallMeanings (option_map_or (λ (x : Forwarded). x.parameters) (if b then Some f else forwarded_for h fs) [])
  which rest true = w.0
  which rest false = rest

without-so : (h : Heading) (fs : List Forwarded) → AllWaiting fs → AllWaiting (without_forwarded h fs)
without-so h [] w = tt
without-so h (f ∷ fs) w = which (without-so h fs w.1) (pairs h f.heading) where
  which : AllWaiting (without_forwarded h fs) → (b : Bool) → AllWaiting (if b then without_forwarded h fs else f ∷ without_forwarded h fs)
  which rest true = rest
  which rest false = (w.0, rest)

forwarded-so : (l : Local) (r : Routine) (fs : List Forwarded) → SmallMeanings (parameters_of r) → AllWaiting fs → AllWaiting (forwarded_by l r fs)
forwarded-so l r fs h w = which (heading_here l).is_forward where
  which : (b : Bool) → AllWaiting (if b then fs ++ record { heading = heading_here l; key = key_of r.owner; parameters = parameters_of r } ∷ [] else without_forwarded (heading_here l) fs)
  which true = each-append (λ (f : Forwarded). SmallMeanings f.parameters) fs _ w (h, tt)
  which false = without-so (heading_here l) fs w

-- ---- routines

-- what a routine has from its forward heading is in small letters
abbrev SmallGiven : Routine → Type 0
SmallGiven r = SmallMeanings r.given

either : (b : Bool) (x y : List (List ℕ × Meaning)) → SmallMeanings x → SmallMeanings y → SmallMeanings (if b then x else y)
either true x y h g = h
either false x y h g = g

own-parameters : (r : Routine) → SmallMeanings r.given → SmallMeanings (parameters_of r)
unfolding heading_marks
own-parameters r h =
    either r.is_later r.given (firsts [] (params_in (heading_marks r)).defines) h
    (firsts-small [] (params_in (heading_marks r)).defines (second-small (bare r.means) (heading_start r.owner) r.heading))

mutual
  unfolding routines_in

  small-in : (m : List ℕ → Found) (l : Local) (fs : List Forwarded) (p : List ℕ) (key : Option (List (List ℕ))) (f : Forest) → AllWaiting fs → Each SmallGiven (routines_in m l fs p key f)
  small-in m l fs p key Nil w = tt
  small-in m l fs p key (Cons k v ns ks ts) w =
      let a : Attributes = first (decorate (bare m) l (own (Cons k v ns ks Nil))) in
      let after : Local = beside l k a in
      let r : Routine = routine_of (find (bare m) after) l fs (p ++ l.kid ∷ []) key k ks in
      let here : SmallGiven r = given-so (heading_here l) fs w in
      of-part (Each SmallGiven) (part_of k) _ _ _
      (λ part. each-append SmallGiven (r ∷ routines_below r 1 ks) _ (here, small-below r 1 ks) (small-in m after (forwarded_by l r fs) p key ts (forwarded-so l r fs (own-parameters r here) w)))
      (λ part. small-in m (inner l k ks) [] (p ++ l.kid ∷ []) key ks tt)
      (λ part. small-in m after fs p key ts w)

  small-below : (r : Routine) (i : ℕ) (f : Forest) → Each SmallGiven (routines_below r i f)
  small-below r i Nil = tt
  small-below r i (Cons kind.Block v ns ks ts) = small-in r.means (start_of r) [] (r.place ++ i ∷ []) (key_of r.owner) ks tt
  small-below r i (Cons k v ns ks ts) = small-below r (suc i) ts

-- all routines of a program
routines-small : (t : Plain) → Each SmallGiven (routines_of t)
unfolding routines_of
routines-small t = (tt, small-below (program_routine t) 1 t.kids)

-- one of them
pub given-small : (t : Plain) (r : Routine) → IsOneOf (routines_of t) r → SmallMeanings r.given
given-small t r i = each-one SmallGiven (routines_of t) r i (routines-small t)
