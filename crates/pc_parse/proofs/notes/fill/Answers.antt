use Rattle.std.proofs.Common.{◌≡◌, ◌∙◌, ap, arith}
use Rattle.pc_parse.specs.Placing.{row}
use Rattle.pc_parse.proofs.notes.fill.Goals as goal

pub returns : goal.returns
returns c =
    let e : c.loop-i.i ≡ c.args.number = omega arith in
    c.loop-i.invariant ∙ ap (row c.args.made.now.items c.args.kids.now) e
