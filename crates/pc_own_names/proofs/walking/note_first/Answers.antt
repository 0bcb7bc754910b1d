use Rattle.std.proofs.Common.{sym, ap, ◌∙◌, subst}
use Rattle.std.specs.Option.{option_copied}
use Rattle.pc_own_names.specs.Noting.{Notes}
use Rattle.pc_own_names.specs.NotingLaws.{Notes-none}
use Rattle.pc_own_names.specs.Walking.{all_of_kind, name_here}
use Rattle.pc_own_names.specs.WalkingLaws.{no-first, first-is}
use Rattle.pc_own_names.proofs.walking.note_first.Goals as goal

pub returns-in_default : goal.returns-in_default
returns-in_default c =
    let node = c.args.node.now in
    let texts = c.args.names.now.texts in
    let found = c.args.found.now.items in
    subst (λ ns. Notes (all_of_kind node.kind ns) texts texts found found) (sym (no-first node (ap option_copied (sym c.in_default.is) ∙ c.kid.ensures.value)).0) (Notes-none texts found)

pub returns : goal.returns
returns c =
    let node = c.args.node.now in
    let texts = c.args.names.now.texts in
    let found = c.args.found.now.items in
    subst (λ ns. Notes (all_of_kind node.kind ns) texts c.note_name.new.names.texts found c.note_name.new.found.items)
    (sym (first-is node c.in-Some.name.now (ap option_copied (sym c.in-Some.is) ∙ c.kid.ensures.value)).0)
    (subst (λ k. Notes (all_of_kind k (name_here c.in-Some.name.now)) texts c.note_name.new.names.texts found c.note_name.new.found.items) c.kind-kind.ensures.value c.in_ok-note_name.ensures)
