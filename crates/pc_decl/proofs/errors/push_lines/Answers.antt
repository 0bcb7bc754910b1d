use Rattle.pc_decl.specs.ErrorsText.{entry_line}
use Rattle.pc_decl.proofs.Rows.{row-stopped}
use Rattle.std.proofs.Common.{arith}
use Rattle.pc_decl.proofs.errors.push_lines.Goals as goal

pub returns-then-len-text_limit : goal.returns-then-len-text_limit
returns-then-len-text_limit c =
    row-stopped entry_line c.args.text.now.items c.loop-entry.text.items c.loop-entry.entry-index c.args.entries.now
    (omega (arith, c.if-len-text_limit.true, c.len.ensures, c.text_limit.ensures)) c.loop-entry.invariant
