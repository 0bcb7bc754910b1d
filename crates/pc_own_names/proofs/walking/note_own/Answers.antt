use Rattle.std.proofs.Common.{sym, ◌∙◌, subst}
use Rattle.pc_own_names.specs.Noting.{Notes}
use Rattle.pc_own_names.specs.NotingLaws.{Notes-none}
use Rattle.pc_own_names.specs.Walking.{all_of_kind}
use Rattle.pc_own_names.specs.WalkingLaws.{one-name, list-names, declares-none}
use Rattle.pc_own_names.proofs.walking.note_own.Goals as goal

pub returns-in_default : goal.returns-in_default
returns-in_default c =
    let texts = c.args.names.now.texts in
    let found = c.args.found.now.items in
    let node = c.args.node.now in
    let is = c.kind.ensures.value in
    subst (λ ns. Notes (all_of_kind node.kind ns) texts texts found found)
    (sym (declares-none node.kind node.kids (λ e. c.in_default.not-Constdef (is ∙ e)) (λ e. c.in_default.not-Typedef (is ∙ e)) (λ e. c.in_default.not-Vardef (is ∙ e)) (λ e. c.in_default.not-Enum (is ∙ e))
    (λ e. c.in_default.not-Valparam (is ∙ e)) (λ e. c.in_default.not-Varparam (is ∙ e)) (λ e. c.in_default.not-Procedure (is ∙ e)) (λ e. c.in_default.not-Function (is ∙ e)) (λ e. c.in_default.not-Funbody (is ∙ e))))
    (Notes-none texts found)

pub returns-in_ok-note_first-in-Constdef : goal.returns-in_ok-note_first-in-Constdef
returns-in_ok-note_first-in-Constdef c =
    let node = c.args.node.now in
    subst (λ ns. Notes (all_of_kind node.kind ns) c.args.names.now.texts c.note_first.new.names.texts c.args.found.now.items c.note_first.new.found.items)
    (sym (one-name node.kind node.kids (rw c.kind.ensures.value at c.in-Constdef.is))) c.in_ok-note_first-in-Constdef.ensures

pub returns-in_ok-note_list-in-Vardef : goal.returns-in_ok-note_list-in-Vardef
returns-in_ok-note_list-in-Vardef c =
    let node = c.args.node.now in
    subst (λ ns. Notes (all_of_kind node.kind ns) c.args.names.now.texts c.note_list.new.names.texts c.args.found.now.items c.note_list.new.found.items)
    (sym (list-names node.kind node.kids (rw c.kind.ensures.value at c.in-Vardef.is))) c.in_ok-note_list-in-Vardef.ensures
