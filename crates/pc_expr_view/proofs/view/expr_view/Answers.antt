use Rattle.std.proofs.lemmas.Result.{IfOk-weaker}
use Rattle.std.specs.Option.{option_copied}
use Rattle.pc_types.specs.Rows.{seen}
use Rattle.pc_views.specs.Limit.{Agrees}
use Rattle.pc_expr_view.specs.ToldText.{text_told}
use Rattle.pc_expr_view.proofs.ToldLaws.{view-told}
use Rattle.pc_expr_view.proofs.view.expr_view.Goals as goal

pub returns : goal.returns
returns c =
    let told : Agrees c.push_found.new.text.items (text_told (seen c.args.types.now) c.args.told.now (option_copied c.at.result)) = rw c.new-text.ensures.items at c.in_ok-push_found.ensures in
    IfOk-weaker c.limited.result _ _
    (λ shown e h. view-told (seen c.args.types.now) c.args.tree.now c.args.place.now c.args.told.now (option_copied c.at.result) c.push_found.new.text.items shown.items c.at.ensures told e h)
    c.limited.ensures
