use Rattle.std.proofs.Common.{◌≡◌}
use Rattle.std.proofs.lemmas.Result.{IfOk-weaker}
use Rattle.pc_types.specs.Rows.{seen}
use Rattle.pc_views.specs.Limit.{limited}
use Rattle.pc_decl_view.proofs.KeptRoutines.{view-shown}
use Rattle.pc_decl_view.proofs.view.decls_view.Goals as goal

pub returns : goal.returns
returns c =
    IfOk-weaker c.limited.result (λ shown. shown.items ≡ limited c.in_ok-text.text.items) _
    (λ shown is. view-shown c.decls_come_routine_by_routine.ensures c.kinds_come_with_declared_names.ensures (seen c.args.types.now) c.args.signatures.now c.args.routines.now shown.items c.in_ok-text.text.items is c.in_ok-text.ensures)
    c.limited.ensures
