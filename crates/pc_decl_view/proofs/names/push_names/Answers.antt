use Rattle.std.proofs.Common.{arith, inl, refl}
use Rattle.pc_types.specs.Rows.{seen}
use Rattle.pc_decl_view.specs.KeptLines.{kept_name_line}
use Rattle.pc_decl_view.proofs.Rows.{rows-more, rows-end, rows-stopped}
use Rattle.pc_decl_view.proofs.names.push_names.Goals as goal

pub loop-name-init : goal.loop-name-init
loop-name-init c = inl refl

pub returns-then-len-text_limit : goal.returns-then-len-text_limit
returns-then-len-text_limit c =
    rows-stopped (kept_name_line (seen c.args.types.now) c.args.signatures.now) c.loop-name.text.items _ c.loop-name.name-index c.args.names.now
    (omega (arith, c.if-len-text_limit.true, c.len.ensures, c.text_limit.ensures)) c.loop-name.invariant

pub loop-name-preserved : goal.loop-name-preserved
loop-name-preserved c =
    rows-more (kept_name_line (seen c.args.types.now) c.args.signatures.now) c.loop-name.text.items c.push_name.new.text.items _ c.loop-name.name-index c.args.names.now c.name-item.result
    c.loop-name-test.true c.name-item.is c.loop-name.invariant c.in_ok-push_name.ensures

pub returns : goal.returns
returns c =
    rows-end (kept_name_line (seen c.args.types.now) c.args.signatures.now) c.loop-name.text.items _ c.loop-name.name-index c.args.names.now c.loop-name-test.false c.loop-name.invariant
