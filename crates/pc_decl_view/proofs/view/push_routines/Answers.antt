use Rattle.std.proofs.Common.{arith, inl, refl, ap, ◌∙◌, ◌++◌, Option}
use Rattle.pc_types.specs.Rows.{seen}
use Rattle.pc_own_names.specs.declared.own_name.RoutineNames.{RoutineNames}
use Rattle.pc_decl_view.specs.KeptLines.{kept_lines_among, kept_routine_lines}
use Rattle.pc_decl_view.proofs.Rows.{rows-more, rows-end, rows-stopped, agrees-is}
use Rattle.pc_decl_view.proofs.view.push_routines.Goals as goal

pub loop-routine-init : goal.loop-routine-init
loop-routine-init c = λ laters. inl refl

pub returns-then-len-text_limit : goal.returns-then-len-text_limit
returns-then-len-text_limit c = λ laters.
    rows-stopped (kept_lines_among (seen c.args.types.now) c.args.signatures.now c.args.routines.now) c.loop-routine.text.items _ c.loop-routine.routine-index c.args.routines.now
    (omega (arith, c.if-len-text_limit.true, c.len.ensures, c.text_limit.ensures)) (c.loop-routine.invariant laters)

pub loop-routine-preserved : goal.loop-routine-preserved
loop-routine-preserved c = λ laters.
    rows-more (kept_lines_among (seen c.args.types.now) c.args.signatures.now c.args.routines.now) c.loop-routine.text.items c.push_routine.new.text.items _ c.loop-routine.routine-index c.args.routines.now c.routine-item.result
    c.loop-routine-test.true c.routine-item.is (c.loop-routine.invariant laters)
    (agrees-is _ _ _
    (ap (λ (later : Option RoutineNames). c.loop-routine.text.items ++ kept_routine_lines (seen c.args.types.now) c.args.signatures.now c.routine-item.result later)
    (c.later_of-later.ensures ∙ laters c.routine-item.result.owner.0))
    c.in_ok-push_routine.ensures)

pub returns : goal.returns
returns c = λ laters.
    rows-end (kept_lines_among (seen c.args.types.now) c.args.signatures.now c.args.routines.now) c.loop-routine.text.items _ c.loop-routine.routine-index c.args.routines.now c.loop-routine-test.false (c.loop-routine.invariant laters)
