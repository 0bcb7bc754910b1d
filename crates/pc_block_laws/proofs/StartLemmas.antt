-- What a routine's block knows of its declarations, from its start on.
use Rattle.std.specs.Prelude.{◌≡◌, true, List}
use Rattle.pc_syntax.specs.declared.kind.Kind.{Kind}
use Rattle.pc_syntax.specs.Plain.{Forest, Plain}
use Rattle.pc_syntax.specs.WellFormed.{IsProper}
use Rattle.pc_rules.specs.Errors.{is_program}
use Rattle.pc_rules.specs.Meanings.{Outside}
use Rattle.pc_rules.specs.Places.{inner}
use Rattle.pc_rules.specs.RoutineList.{routines_of}
use Rattle.pc_rules.specs.Routines.{Routine, parameters_of, self_of, start_of}
use Rattle.pc_environment.specs.Decorating.{place_after}
use Rattle.pc_needs.specs.Unaffected.{IsOneOf}
use Rattle.pc_block_laws.specs.Block.{OnceEach}
use Rattle.pc_block_laws.specs.Once.{KnowsOnce, OnceLaw}
use Rattle.pc_block_laws.proofs.OnceLemmas.{define-once, all-once, closed-once}
use Rattle.pc_block_laws.proofs.OnceNodes.{types-once, inner-once, beside-once, after-once}
use Rattle.pc_block_laws.proofs.ParameterLemmas.{firsts-once, start-once}
use Rattle.pc_block_laws.proofs.RoutineParameters.{routine-parameters}

pub parameters-once : (t : Plain) (r : Routine) → IsProper t → is_program t.kind ≡ true → IsOneOf (routines_of t) r → OnceEach (parameters_of r)
parameters-once t r proper program i = (routine-parameters t r proper program i).0

pub routine-once : (t : Plain) (r : Routine) → IsProper t → is_program t.kind ≡ true → IsOneOf (routines_of t) r → KnowsOnce (start_of r)
routine-once t r proper program i = start-once r.owner (self_of r) (parameters_of r) r.block (parameters-once t r proper program i)

pub listed-once : (t : Plain) (r : Routine) (out : Outside) (parts routines : List Plain) (k : Kind) (ks : Forest) → IsProper t → is_program t.kind ≡ true → IsOneOf (routines_of t) r →
    KnowsOnce (place_after out (inner (place_after out (start_of r) parts) k ks) routines)
listed-once t r out parts routines k ks proper program i =
    let l = place_after out (start_of r) parts in
    after-once out (inner l k ks) routines (inner-once l k ks (after-once out (start_of r) parts (routine-once t r proper program i)))

pub once-law : OnceLaw
once-law = record {
  firsts = firsts-once;
  start = start-once;
  parameters = parameters-once;
  routine = routine-once;
  define = define-once;
  all = all-once;
  closed = closed-once;
  types = types-once;
  kid = inner-once;
  next = beside-once;
  behind = after-once;
  listed = listed-once;
}
