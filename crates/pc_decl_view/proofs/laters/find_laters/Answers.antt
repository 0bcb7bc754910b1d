use Rattle.std.proofs.Common.{arith}
use Rattle.pc_decl_view.specs.KeptLines.{is_later_of}
use Rattle.pc_decl_view.proofs.LaterTables.{leads-more}
use Rattle.pc_decl_view.proofs.laters.find_laters.Goals as goal

pub loop-left-preserved : goal.loop-left-preserved
loop-left-preserved c = record {
  within = omega (arith, c.loop-left.invariant.within);
  leads =
      leads-more is_later_of c.args.routines.now c.loop-left.laters.items c.note_later.new.laters.items c.loop-left.left c.index-routines-left.result
      (omega (arith, c.loop-left-test.true)) c.loop-left.invariant.within c.index-routines-left.is c.in_ok-note_later.ensures c.loop-left.invariant.leads;
}
