use Rattle.std.proofs.Common.{sym, ◌∙◌, ◌+◌, ap, Bool, List}
use Rattle.std.specs.Prelude.{Option, if◌then◌else◌}
use Rattle.pc_decl.specs.Roles as roles
use Rattle.pc_facts.specs.declared.sighting.Formal.{Formal}
use Rattle.pc_facts.specs.declared.sighting.Signature.{Signature}
use Rattle.pc_told.specs.Contexts.{formals_in, is_variable}
use Rattle.pc_told.proofs.Got.{got, missed}
use Rattle.pc_told.proofs.roles.parameter_role.Goals as goal

pub returns-in-Some : goal.returns-in-Some
returns-in-Some c =
    let there = got c.args.signatures.now c.args.id.0 c.in-Some.signature.now c.in-Some.ensures.lookup.0 c.in-Some.ensures.lookup.1 in
    let by : List Formal → roles.Role = λ fs. if is_variable fs (c.args.index + 1) then roles.AsVariable else roles.AsValue in
    c.by_place.ensures ∙ ap (λ (b : Bool). if b then roles.AsVariable else roles.AsValue) c.is_by_place.ensures ∙ ap by c.as_slice.ensures.value
    ∙ sym (ap (λ (o : Option Signature). by (formals_in o)) there)

pub returns-in-None : goal.returns-in-None
returns-in-None c =
    let there = missed c.args.signatures.now c.args.id.0 c.in-None.ensures.lookup.0 in
    let by : List Formal → roles.Role = λ fs. if is_variable fs (c.args.index + 1) then roles.AsVariable else roles.AsValue in
    sym (ap (λ (o : Option Signature). by (formals_in o)) there)
