use Rattle.std.proofs.Common.{sym, ◌∙◌}
use Rattle.pc_pretty.proofs.LinesAndColumns.{passed_none, found_here, passed_feed, passed_next, found_none}
use Rattle.pc_pretty.proofs.range.place.Goals as goal
use Rattle.pc_pretty.proofs.range.place.Goals.{then-byte-eq10, else-byte-eq10}

pub loop-at-init : goal.loop-at-init
loop-at-init c = passed_none _ _ _

pub returns-then-is_there-clause-value : goal.returns-then-is_there-clause-value
returns-then-is_there-clause-value c =
    found_here _ _ _ _ _ _ c.loop-at.invariant c.loop-at-test.true (sym c.is_there.ensures ∙ c.if-is_there.true)

pub loop-at-preserved : goal.loop-at-preserved
loop-at-preserved c =
    let test = sym c.is_there.ensures ∙ c.if-is_there.false in
    elim c.if-byte-eq10.branch [
      | then-byte-eq10 w ↦ rw (w.on_line-is, w.at_column-is) (passed_feed _ _ _ _ _ _ c.loop-at.invariant c.loop-at-test.true test w.if-byte-eq10.true)
      | else-byte-eq10 w ↦ rw (w.on_line-is, w.at_column-is) (passed_next _ _ _ _ _ _ c.loop-at.invariant c.loop-at-test.true test w.if-byte-eq10.false)
    ]

pub returns-clause-value : goal.returns-clause-value
returns-clause-value c = found_none _ _ _ _ _ _ c.loop-at.invariant c.loop-at-test.false
