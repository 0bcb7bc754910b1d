-- Each expression of a program stands in the statement part of the routine around it.
use Rattle.std.specs.Prelude.{ℕ, ◌≡◌, true, List, [], ◌∷◌, Some}
use Rattle.std.proofs.Common.{ap, sym, subst, ◌∙◌, true≢false}
use Rattle.pc_syntax.specs.declared.kind.Kind.{Kind}
use Rattle.pc_syntax.specs.declared.kind.Kind.TheVariants as kind
use Rattle.pc_syntax.specs.Places.{at}
use Rattle.pc_syntax.specs.Plain.{Plain}
use Rattle.pc_syntax.specs.WellFormed.{IsProper}
use Rattle.pc_decl.specs.Nodes.{is_expression}
use Rattle.pc_program_laws.proofs.RoutineLemmas.{routines-law}
use Rattle.pc_rules.specs.Errors.{is_program}
use Rattle.pc_rules.specs.RoutineList.{routines_below, program_routine, routines_of}
use Rattle.pc_rules.specs.Routines.{Routine}
use Rattle.pc_found_laws.specs.Standing.{HasHome, StandingLaw}
use Rattle.pc_found_laws.specs.Ways.{StandsIn}
use Rattle.pc_found_laws.proofs.BlockWays.{kid-way}
use Rattle.pc_found_laws.proofs.FoundLemmas.{found-law}
use Rattle.pc_found_laws.proofs.NodeLemmas.{program-headed}
use Rattle.pc_found_laws.proofs.WayLemmas.{ways-law}
use Rattle.pc_found_laws.proofs.WithinLemmas.{IsIn, within}

-- ---- a program

program-none : (k : Kind) → is_program k ≡ true → is_expression k ≡ true → ⊥
program-none kind.Program e f = true≢false (sym f)
program-none _ e f = true≢false (sym e)

in-program : (t : Plain) (path : List ℕ) (x : Plain) → IsProper t → is_program t.kind ≡ true → at path t ≡ Some x → is_expression x.kind ≡ true → IsIn (routines_of t) path
in-program t [] x proper program e expr = let same : t ≡ x = cc in absurd (program-none t.kind program (subst (λ (y : Plain). is_expression y.kind ≡ true) (sym same) expr))
in-program t (a ∷ js) x proper program e expr =
    let on = kid-way a js t x e in
    subst (λ (rs : List Routine). IsIn rs (a ∷ js)) (sym (routines-law.program t))
    (subst (λ (n : ℕ). IsIn (program_routine t ∷ routines_below (program_routine t) 1 t.kids) (n ∷ js)) (sym on.1)
    (within js on.0 (program_routine t) t.kind t.word t.kids x (program-headed t.kind program) proper.sound.0 proper.sound.3 (sym (routines-law.program_kids t proper program)) expr on.2))

home : (t : Plain) (path : List ℕ) (x : Plain) → IsProper t → is_program t.kind ≡ true → at path t ≡ Some x → IsIn (routines_of t) path → HasHome t path x
home t path x proper program e h =
    let r : Routine = h.0 in
    let there = ways-law.path t r h.2 x (ap (λ (q : List ℕ). at q t) (sym h.3) ∙ e) in
    let stands : StandsIn t r path x there.0 = subst (λ (q : List ℕ). StandsIn t r q x there.0) (sym h.3) there.1 in
    record { routine = r; one = h.1; around = found-law.around t r path x there.0 proper program h.1 stands; place = there.0; stands = stands }

pub standing-law : StandingLaw
standing-law t path x proper program e expr = home t path x proper program e (in-program t path x proper program e expr)
