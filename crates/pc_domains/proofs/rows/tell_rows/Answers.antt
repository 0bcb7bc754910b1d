use Rattle.std.proofs.Common.{◌≡◌, ◌≤◌, ◌<◌, ◌+◌, ℕ, length, sym, subst, arith}
use Rattle.pc_places.specs.Places.{known}
use Rattle.pc_domains.specs.Rows.{TellsRows}
use Rattle.pc_domains.specs.RowsLaws.{rows-more}
use Rattle.pc_domains.proofs.rows.tell_rows.Goals as goal

pub loop-i-preserved : goal.loop-i-preserved
loop-i-preserved c =
    let old = c.args.tables.now in
    let mid = c.loop-i.tables in
    let new = c.tell_row.new.tables in
    let cs = c.args.closed.now in
    let ts = c.args.types.now in
    let from = c.args.from in
    let y = c.in_ok-id.id in
    let is : y.0 ≡ c.loop-i.i = c.in_ok-id.ensures in
    let ahead : from ≤ y.0 = omega (arith, is, c.loop-i.invariant.from) in
    let there : y.0 < length (known old).table.domains = omega (arith, is, c.loop-i-test.true, c.loop-i.invariant.count) in
    let before : TellsRows cs ts from y.0 old mid = subst (λ (n : ℕ). TellsRows cs ts from n old mid) (sym is) c.loop-i.invariant.rows in
    record {
      from = omega (arith, c.loop-i.invariant.from);
      count = c.loop-i.invariant.count;
      rows = subst (λ (n : ℕ). TellsRows cs ts from (n + 1) old new) is (rows-more cs ts from y old mid new ahead there before c.in_ok-tell_row.ensures);
    }
