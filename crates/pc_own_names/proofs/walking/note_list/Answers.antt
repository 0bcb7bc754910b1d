use Rattle.std.proofs.Common.{sym, ap, ◌∙◌, subst}
use Rattle.std.specs.Option.{option_copied}
use Rattle.pc_scope.specs.Headings.{names_of}
use Rattle.pc_own_names.specs.Noting.{Notes}
use Rattle.pc_own_names.specs.NotingLaws.{Notes-none}
use Rattle.pc_own_names.specs.Walking.{all_of_kind}
use Rattle.pc_own_names.specs.WalkingLaws.{no-first, first-is}
use Rattle.pc_own_names.proofs.walking.note_list.Goals as goal

pub returns-in_default : goal.returns-in_default
returns-in_default c =
    let node = c.args.node.now in
    let texts = c.args.names.now.texts in
    let found = c.args.found.now.items in
    subst (λ ns. Notes (all_of_kind node.kind ns) texts texts found found) (sym (no-first node (ap option_copied (sym c.in_default.is) ∙ c.kid.ensures.value)).1) (Notes-none texts found)

pub returns : goal.returns
returns c =
    let node = c.args.node.now in
    let texts = c.args.names.now.texts in
    let found = c.args.found.now.items in
    subst (λ ns. Notes (all_of_kind node.kind ns) texts c.note_names.new.names.texts found c.note_names.new.found.items)
    (sym (first-is node c.in-Some.list.now (ap option_copied (sym c.in-Some.is) ∙ c.kid.ensures.value)).1)
    (subst (λ k. Notes (all_of_kind k (names_of c.in-Some.list.now.kids)) texts c.note_names.new.names.texts found c.note_names.new.found.items) c.kind-kind.ensures.value c.in_ok-note_names.ensures)
