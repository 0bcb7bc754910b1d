use Rattle.std.proofs.Common.{◌≤◌, ◌+◌, ap, sym, ◌∙◌, arith}
use Rattle.pc_syntax.specs.WellFormed.{size_of, size_limit}
use Rattle.pc_syntax.specs.PartsLaws.{size_of-kid}
use Rattle.pc_types.specs.Rows.{seen}
use Rattle.pc_syntax.specs.declared.kind.Kind.{Kind}
use Rattle.pc_expr_view.specs.ToldText.{behind_own, level_below}
use Rattle.pc_expr_view.proofs.Kids.{level_below-le}
use Rattle.pc_expr_view.proofs.Rows.{lines-start, behind-start, lines-more, behind-more}
use Rattle.pc_expr_view.proofs.lines.+push_lines.Goals as goal

pub loop-kid-init : goal.loop-kid-init
loop-kid-init t c = record {
  rest =
      behind-start c.args.node.now c.kid_slice-kid-items.result.now c.args.told.now c.behind_own-rest.result.now c.kid_slice-kid-items.ensures.value
      (c.behind_own-rest.ensures ∙ ap (λ (k : Kind). behind_own k c.args.told.now) c.kind-2.ensures.value);
  text =
      lines-start (seen c.args.types.now) c.args.level c.args.text.now.items c.push_own.new.text.items c.args.node.now c.kid_slice-kid-items.result.now
      c.level_below-below.result c.args.told.now c.behind_own-rest.result.now c.in_ok-push_own.ensures c.kid_slice-kid-items.ensures.value
      (c.level_below-below.ensures ∙ ap (λ (k : Kind). level_below k c.args.level) c.kind.ensures.value)
      (c.behind_own-rest.ensures ∙ ap (λ (k : Kind). behind_own k c.args.told.now) c.kind-2.ensures.value);
}

pub push_lines-requires : goal.push_lines-requires
push_lines-requires t c =
    let smaller : size_of c.kid-item.result + 1 ≤ size_of c.args.node.now =
    size_of-kid c.args.node.now c.loop-kid.kid-index c.kid-item.result (rw c.kid_slice-kid-items.ensures.value at c.loop-kid-test.true) (rw c.kid_slice-kid-items.ensures.value at (sym c.kid-item.is)) in
    let level : c.level_below-below.result ≤ c.args.level + 1 = rw (sym c.level_below-below.ensures) at (level_below-le c.kind.result c.args.level) in
    let bound : c.level_below-below.result + size_of c.kid-item.result ≤ size_limit = omega (arith, smaller, level, c.requires) in
    (omega (arith, smaller, c.decreases), bound)

pub loop-kid-preserved : goal.loop-kid-preserved
loop-kid-preserved t c = record {
  rest =
      behind-more c.loop-kid.kid-index c.kid_slice-kid-items.result.now c.kid-item.result c.loop-kid-test.true c.kid-item.is
      c.loop-kid.rest.now c.in_ok-rest.rest.now _ c.loop-kid.invariant.rest c.in_ok-rest.ensures.rest;
  text =
      lines-more c.loop-kid.kid-index c.kid_slice-kid-items.result.now c.kid-item.result c.loop-kid-test.true c.kid-item.is
      (seen c.args.types.now) c.level_below-below.result c.loop-kid.text.items c.push_lines.new.text.items _ c.loop-kid.rest.now c.in_ok-rest.rest.now
      c.loop-kid.invariant.text c.in_ok-rest.ensures.text c.in_ok-rest.ensures.rest;
}
