use Rattle.std.proofs.Common.{◌≡◌, subst, sym}
use Rattle.std.proofs.lemmas.Result.{IfOk-weaker}
use Rattle.pc_pretty.specs.Printed.{printed}
use Rattle.pc_pretty.specs.Laws.{Spelled, ReadsBack}
use Rattle.pc_layout.specs.Noted.{HasNotes}
use Rattle.pc_pretty.specs.Notes.{tree_notes}
use Rattle.pc_pretty.proofs.PrintedSpells.{printed_spelled}
use Rattle.pc_pretty.proofs.ReadsBack.{reads_back}
use Rattle.pc_pretty.proofs.TreeNotes.{has_tree_notes}
use Rattle.pc_pretty.proofs.printing.print.Goals as goal

pub returns-clause-spelled : goal.returns-clause-spelled
returns-clause-spelled c =
    let t = c.args.tree.now in
    IfOk-weaker c.print_whole.result (λ text. text.items ≡ printed t) (λ text. Spelled text.items t) (λ text e. subst (λ bs. Spelled bs t) (sym e) (printed_spelled t c.depth.ensures.proper.sound)) c.print_whole.ensures.value

pub returns-clause-noted : goal.returns-clause-noted
returns-clause-noted c =
    let t = c.args.tree.now in
    IfOk-weaker c.print_whole.result (λ text. text.items ≡ printed t) (λ _. HasNotes t (tree_notes t)) (λ text e. has_tree_notes t c.depth.ensures.proper.sound) c.print_whole.ensures.value

pub returns-clause-read_back : goal.returns-clause-read_back
returns-clause-read_back c =
    let t = c.args.tree.now in
    IfOk-weaker c.print_whole.result (λ text. text.items ≡ printed t) (λ text. ReadsBack text.items t) (λ text e. subst (λ bs. ReadsBack bs t) (sym e) (reads_back t c.depth.ensures.proper)) c.print_whole.ensures.value
