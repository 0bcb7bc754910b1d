use Rattle.std.proofs.Common.{◌≡◌, ◌+◌, ap, ◌∙◌, rules}
use Rattle.pc_scope.specs.Entries.{all_declared}
use Rattle.pc_scope.proofs.SecondKid.{found-at, nothing-at, parameters-none, parameters-some}
use Rattle.pc_scope.proofs.parameters.parameters_at.Goals as goal

pub returns-in_default-get : goal.returns-in_default-get
returns-in_default-get c =
    let number : c.args.number ≡ c.in-Some.i + 1 = search rules in
    ap all_declared c.new-in_default-get.ensures.items
    ∙ parameters-none c.args.at.now c.args.routines.now c.args.number c.in-Some.i number (nothing-at c.args.routines.now c.in-Some.i c.in_default-get.ensures.lookup.0)

pub returns : goal.returns
returns c =
    let number : c.args.number ≡ c.in-Some.i + 1 = search rules in
    let e = parameters-some c.args.at.now c.args.routines.now c.args.number c.in-Some.i c.in-Some-get.routine.now number
    (found-at c.args.routines.now c.in-Some.i c.in-Some-get.routine.now c.in-Some-get.ensures.lookup.0 c.in-Some-get.ensures.lookup.1) in
    rw (← e) (rw c.in_ok-place.ensures at c.parameters_of.ensures)
