use Rattle.std.proofs.Common.{[], sym, subst, if◌then◌else◌}
use Rattle.pc_own_names.specs.Noting.{Notes}
use Rattle.pc_own_names.specs.NotingLaws.{Notes-none}
use Rattle.pc_own_names.specs.Walking.{in_heading}
use Rattle.pc_own_names.proofs.declaring.note_heading.Goals as goal

pub returns-then-is_later : goal.returns-then-is_later
returns-then-is_later c =
    let texts = c.args.names.now.texts in
    let found = c.args.found.now.items in
    subst (λ b. Notes (if b then [] else in_heading c.args.routine.now.kids) texts texts found found) (sym c.if-is_later.true) (Notes-none texts found)

pub returns : goal.returns
returns c =
    subst (λ b. Notes (if b then [] else in_heading c.args.routine.now.kids) c.args.names.now.texts c.note_parameters.new.names.texts c.args.found.now.items c.note_parameters.new.found.items)
    (sym c.if-is_later.false) c.in_ok-note_parameters.ensures
