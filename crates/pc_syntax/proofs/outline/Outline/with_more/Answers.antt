use Rattle.std.proofs.Common.{arith, refl}
use Rattle.pc_syntax.specs.PartsLaws.{small-size}
use Rattle.pc_syntax.proofs.More.{outline-with_more}
use Rattle.pc_syntax.proofs.outline.Outline.with_more.Goals as goal

pub overflow_add-result : goal.overflow_add-result
overflow_add-result c =
    omega (arith, c.size.ensures.value, c.size-2.ensures.value, small-size c.args.list.now c.size.ensures.proper, small-size c.args.piece.now c.size-2.ensures.proper)

pub returns-clause-outline : goal.returns-clause-outline
returns-clause-outline c i l =
    rw c.kind-kind.ensures.value (outline-with_more c.args.list.now i c.args.piece.now l c.requires c.kind-kind.ensures.proper.sound _ _ _ c.kind.ensures.proper.sound
    (rw (c.class_from.ensures, c.kind-kind.ensures.value, c.kind.ensures.value) at c.takes.ensures)
    (rw (c.depth.ensures.value, c.depth-2.ensures.value) at c.max.ensures)
    (rw (c.size.ensures.value, c.size-2.ensures.value) refl))

pub returns-clause-small : goal.returns-clause-small
returns-clause-small c =
    omega (arith, c.size.ensures.value, c.size-2.ensures.value, small-size c.args.list.now c.size.ensures.proper, small-size c.args.piece.now c.size-2.ensures.proper)
