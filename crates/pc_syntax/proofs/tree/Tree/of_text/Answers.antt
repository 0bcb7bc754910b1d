use Rattle.std.proofs.Common.{sym, ◌∙◌}
use Rattle.pc_syntax.specs.PartsLaws.{is_open-node}
use Rattle.pc_syntax.proofs.CountedSoFar.{kept}
use Rattle.pc_syntax.proofs.tree.Tree.of_text.Goals as goal

pub invariant_of-result : goal.invariant_of-result
invariant_of-result c =
    let e = c.counts_of-size.ensures in
    let k = kept c.args.kind _ _ c.args.kids.items c.requires _ _ _ (rw c.deref.ensures.value at e.size) (rw c.deref.ensures.value at e.depth) (rw c.deref.ensures.value at e.holes) (rw c.deref.ensures.value at e.fewer) in
    rw c.in_ok-new.ensures.ok (record {
      size = k.size_is;
      depth = k.depth_is;
      holes = k.holes_is;
      fewer = k.fewer;
      is_open = rw (c.is_last_open.ensures, c.deref-2.ensures.value) at c.opens-is_open.ensures ∙ sym (is_open-node c.args.kind _ _ c.args.kids.items);
      proper = c.requires;
    })
