use Rattle.std.proofs.Common.{◌≤◌, ◌+◌, ap, sym, ◌∙◌, refl, arith}
use Rattle.pc_syntax.specs.WellFormed.{size_of}
use Rattle.pc_syntax.specs.PartsLaws.{size_of-kid}
use Rattle.pc_syntax.specs.Templates.{kind_name}
use Rattle.pc_views.specs.TreeView.{kid_path}
use Rattle.pc_views.proofs.Lines.{lines-start, lines-more, lines-end, path-back}
use Rattle.pc_views.proofs.tree.+push_lines.Goals as goal

pub loop-i-init : goal.loop-i-init
loop-i-init t c = record {
  path = refl;
  text =
      lines-start c.args.text.now.items c.push_line.new.text.items c.args.path.now.items c.name.result.now c.word.result.now c.args.tree.now c.kid_slice-kid-items.result.now
      (rw c.deref.ensures.value at c.in_ok-push_line.ensures) (c.name.ensures ∙ ap kind_name c.kind.ensures.value) c.word.ensures c.kid_slice-kid-items.ensures.value;
}

pub push_lines-requires : goal.push_lines-requires
push_lines-requires t c =
    let d : size_of c.kid-item.result + 1 ≤ size_of c.args.tree.now =
    size_of-kid c.args.tree.now c.loop-i.i c.kid-item.result (rw c.kid_slice-kid-items.ensures.value at c.loop-i-test.true) (rw c.kid_slice-kid-items.ensures.value at (sym c.kid-item.is)) in
    (omega (arith, d, c.decreases), tt)

pub loop-i-preserved : goal.loop-i-preserved
loop-i-preserved t c = record {
  path =
      path-back c.args.path.now.items c.push_lines.new.path.items c.truncate.new.self.items c.len-length.result (c.loop-i.i + 1) c.truncate.ensures.items
      (c.in_ok-push_lines.ensures.path ∙ c.in_ok-push_step.ensures ∙ ap (λ p. kid_path p (c.loop-i.i + 1)) c.loop-i.invariant.path)
      (omega (arith, c.len-length.ensures, c.args.path.now.ok.0));
  text =
      lines-more c.loop-i.text.items c.push_lines.new.text.items c.args.path.now.items _ c.loop-i.i c.kid_slice-kid-items.result.now c.kid-item.result
      c.loop-i-test.true c.kid-item.is c.loop-i.invariant.text
      (rw (c.in_ok-push_step.ensures, c.loop-i.invariant.path) at c.in_ok-push_lines.ensures.text);
}

pub returns-clause-text : goal.returns-clause-text
returns-clause-text t c =
    lines-end c.loop-i.text.items c.args.path.now.items _ c.loop-i.i c.kid_slice-kid-items.result.now c.loop-i-test.false c.loop-i.invariant.text
