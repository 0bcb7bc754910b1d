use Rattle.std.proofs.Common.{◌≡◌, ◌++◌, ◌∷◌, [], true, false, ap, sym, ◌∙◌}
use Rattle.std.specs.Option.{option_copied}
use Rattle.pc_scope.specs.Declarations.{declared_at}
use Rattle.pc_scope.specs.Entries.{all_declared, is_parameters}
use Rattle.pc_scope.proofs.SecondKid.{no-second, second-other, second-list}
use Rattle.pc_scope.proofs.parameters.parameters_of.Goals as goal

pub returns-in_default : goal.returns-in_default
returns-in_default c = ap all_declared c.new-parameters.ensures.items ∙ no-second c.args.at.now c.args.routine.now (ap option_copied (sym c.in_default.is) ∙ c.kid.ensures.value)

pub returns-then-not-is_parameters : goal.returns-then-not-is_parameters
returns-then-not-is_parameters c =
    let e : is_parameters c.in-Some.list.now.kind ≡ false = sym (ap is_parameters c.kind.ensures.value) ∙ sym c.is_parameters.ensures ∙ c.if-not-is_parameters.true in
    ap all_declared c.new-parameters.ensures.items ∙ second-other c.args.at.now c.args.routine.now c.in-Some.list.now (ap option_copied (sym c.in-Some.is) ∙ c.kid.ensures.value) e

pub returns : goal.returns
returns c =
    let e : is_parameters c.in-Some.list.now.kind ≡ true = sym (ap is_parameters c.kind.ensures.value) ∙ sym c.is_parameters.ensures ∙ c.if-not-is_parameters.false in
    rw c.in_ok-place.ensures at c.in_ok-add_below.ensures
    ∙ ap (λ xs. all_declared xs ++ declared_at (c.args.at.now ++ 2 ∷ []) 1 c.in-Some.list.now.kids) c.new-parameters.ensures.items
    ∙ second-list c.args.at.now c.args.routine.now c.in-Some.list.now (ap option_copied (sym c.in-Some.is) ∙ c.kid.ensures.value) e
