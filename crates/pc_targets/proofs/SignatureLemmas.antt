-- Signatures, and what a forward heading gives to its later declaration: they are good, where the heading is.
use Rattle.std.proofs.Common.{Bool, true, false, not, ◌||◌, if◌then◌else◌, List, [], ◌∷◌, ◌++◌, Option, Some, None}
use Rattle.std.specs.Option.{option_and_then, option_map_or}
use Rattle.pc_syntax.specs.declared.kind.Kind.{Kind}
use Rattle.pc_syntax.specs.declared.kind.Kind.TheVariants as kind
use Rattle.pc_types.specs.Shapes.{Typed}
use Rattle.pc_scope.specs.Headings.{Heading, pairs}
use Rattle.pc_rules.specs.Attributes.{is_empty}
use Rattle.pc_rules.specs.Declarations.{heading_here}
use Rattle.pc_rules.specs.Denoters.{type_of_found}
use Rattle.pc_rules.specs.Headings.{heading_entries, formals_in, with_result, signature_in}
use Rattle.pc_rules.specs.Meanings.{Formal, Local}
use Rattle.pc_rules.specs.RoutineList.{Forwarded, forwarded_for, without_forwarded, key_of, forwarded_by}
use Rattle.pc_rules.specs.Routines.{Routine, heading_marks, params_in, result_in, parameters_of}
use Rattle.pc_rules.specs.Variables.{result_of}
use Rattle.pc_needs.proofs.Lists.{Each, each-append}
use Rattle.pc_pointers.specs.Good.{Targets, IsGoodType}
use Rattle.pc_carrying.specs.Parts.{AllParameters}

-- the parameters that forward headings give are carried and good
abbrev pub AllGiven : Targets → List Forwarded → Type 0
AllGiven targets fs = Each (λ (f : Forwarded). AllParameters targets f.parameters) fs

-- ---- signatures

-- of functions
abbrev pub OnFunction : Kind → Type 0 → Type 0
OnFunction kind.Function X = X
OnFunction _ X = Unit {0}

with-good : (targets : Targets) (k : Kind) (t : Option Typed) (fs : List Formal) → OnFunction k (IsGoodType targets t) → IsGoodType targets (result_of (with_result k t fs))
with-good targets kind.Procedure t fs h = tt
with-good targets kind.Function None fs h = tt
with-good targets kind.Function (Some t) fs h = h
with-good targets k t fs h = tt

pub signature-good : (targets : Targets) (r : Routine) → OnFunction r.kind (IsGoodType targets (type_of_found (result_in (heading_marks r)).found)) → IsGoodType targets (result_of (signature_in r))
signature-good targets r h = by ((params_in (heading_marks r)).hole || not (is_empty (heading_entries r))) where
  t : Option Typed
  t = type_of_found (result_in (heading_marks r)).found

  some : (o : Option (List Formal)) → IsGoodType targets (result_of (option_and_then (with_result r.kind t) o))
  some None = tt
  some (Some fs) = with-good targets r.kind t fs h

  by : (b : Bool) → IsGoodType targets (result_of (if b then None else option_and_then (with_result r.kind t) (formals_in (params_in (heading_marks r)).defines)))
  by true = tt
  by false = some (formals_in (params_in (heading_marks r)).defines)

-- ---- what a forward heading gives

pub given-good : (targets : Targets) (h : Heading) (fs : List Forwarded) → AllGiven targets fs → AllParameters targets (option_map_or (λ (x : Forwarded). x.parameters) (forwarded_for h fs) [])
given-good targets h [] g = tt
given-good targets h (f ∷ fs) g = by (given-good targets h fs g.1) (pairs h f.heading) where
  by : AllParameters targets (option_map_or (λ (x : Forwarded). x.parameters) (forwarded_for h fs) []) → (b : Bool) →
      AllParameters targets (option_map_or (λ (x : Forwarded). x.parameters) (if b then Some f else forwarded_for h fs) [])
  by rest true = g.0
  by rest false = rest

without-given : (targets : Targets) (h : Heading) (fs : List Forwarded) → AllGiven targets fs → AllGiven targets (without_forwarded h fs)
without-given targets h [] g = tt
without-given targets h (f ∷ fs) g = by (without-given targets h fs g.1) (pairs h f.heading) where
  by : AllGiven targets (without_forwarded h fs) → (b : Bool) → AllGiven targets (if b then without_forwarded h fs else f ∷ without_forwarded h fs)
  by rest true = rest
  by rest false = (g.0, rest)

pub given-behind : (targets : Targets) (l : Local) (r : Routine) (fs : List Forwarded) → AllParameters targets (parameters_of r) → AllGiven targets fs → AllGiven targets (forwarded_by l r fs)
given-behind targets l r fs p g = by (heading_here l).is_forward where
  by : (b : Bool) → AllGiven targets (if b then fs ++ record { heading = heading_here l; key = key_of r.owner; parameters = parameters_of r } ∷ [] else without_forwarded (heading_here l) fs)
  by true = each-append (λ (f : Forwarded). AllParameters targets f.parameters) fs _ g (p, tt)
  by false = without-given targets (heading_here l) fs g
