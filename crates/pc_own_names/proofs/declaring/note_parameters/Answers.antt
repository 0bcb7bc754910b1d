use Rattle.std.proofs.Common.{◌≡◌, true, false, sym, ap, ◌∙◌, subst}
use Rattle.std.specs.Option.{option_copied}
use Rattle.pc_scope.specs.Entries.{is_parameters}
use Rattle.pc_own_names.specs.Noting.{Notes}
use Rattle.pc_own_names.specs.NotingLaws.{Notes-none}
use Rattle.pc_own_names.specs.WalkingLaws.{no-second, second-other, second-list}
use Rattle.pc_own_names.proofs.declaring.note_parameters.Goals as goal

pub returns-in_default : goal.returns-in_default
returns-in_default c =
    let texts = c.args.names.now.texts in
    let found = c.args.found.now.items in
    subst (λ es. Notes es texts texts found found) (sym (no-second c.args.routine.now (ap option_copied (sym c.in_default.is) ∙ c.kid.ensures.value))) (Notes-none texts found)

pub returns-then-not-is_parameters : goal.returns-then-not-is_parameters
returns-then-not-is_parameters c =
    let texts = c.args.names.now.texts in
    let found = c.args.found.now.items in
    let list = c.in-Some.list.now in
    let other : is_parameters list.kind ≡ false = ap is_parameters (sym c.kind.ensures.value) ∙ sym c.is_parameters.ensures ∙ c.if-not-is_parameters.true in
    subst (λ es. Notes es texts texts found found) (sym (second-other c.args.routine.now list (ap option_copied (sym c.in-Some.is) ∙ c.kid.ensures.value) other)) (Notes-none texts found)

pub returns : goal.returns
returns c =
    let list = c.in-Some.list.now in
    let is : is_parameters list.kind ≡ true = ap is_parameters (sym c.kind.ensures.value) ∙ sym c.is_parameters.ensures ∙ c.if-not-is_parameters.false in
    subst (λ es. Notes es c.args.names.now.texts c.note_below.new.names.texts c.args.found.now.items c.note_below.new.found.items)
    (sym (second-list c.args.routine.now list (ap option_copied (sym c.in-Some.is) ∙ c.kid.ensures.value) is)) c.in_ok-note_below.ensures
