use Rattle.std.proofs.Common.{◌<◌, ◌+◌, ◌-◌, ◌++◌, ap, sym, ◌∙◌, Some, arith}
use Rattle.pc_syntax.specs.Layout.{further}
use Rattle.pc_layout.proofs.ItemLaws.{further_more, further_done, elements_is}
use Rattle.pc_layout.proofs.made.elements.Goals as goal

pub loop-i-preserved : goal.loop-i-preserved
loop-i-preserved c =
    let here : c.loop-i._i < c.args.count = omega arith in
    c.loop-i.invariant
    ∙ further_more c.args.separator c.args.class c.args.count c.loop-i._i c.args.close.now c.loop-i.items.items here
    ∙ ap (λ is. is ++ further c.args.separator c.args.class (c.args.count - (c.loop-i._i + 1)) c.args.close.now) (sym c.in_ok-push_element.ensures)

pub returns : goal.returns
returns c =
    let done : c.args.count < c.loop-i._i + 1 = omega arith in
    elements_is c.args.opening.now c.args.separator c.args.class c.args.close.now c.args.count c.if-count-eq0.false
    ∙ ap Some (c.loop-i.invariant
    ∙ further_done c.args.separator c.args.class c.args.count c.loop-i._i c.args.close.now c.loop-i.items.items done
    ∙ sym c.in_ok-extend_from_slice.ensures.items)
