use Rattle.std.proofs.Common.{sym, ap, ◌∙◌}
use Rattle.pc_syntax.specs.Classes.{has}
use Rattle.pc_syntax.specs.declared.class.Class.TheVariants as class
use Rattle.pc_growth.specs.GrowsLaws.{Begins-same}
use Rattle.pc_told.specs.DownLaws.{down-end, down-nothing}
use Rattle.pc_told.specs.KindLaws.{operand-is, operand-part}
use Rattle.pc_told.proofs.down.tell_end.Goals as goal

pub tell-requires : goal.tell-requires
tell-requires c =
    let node = c.args.node.now in
    let is = ap (has class.Operand) (sym c.kind.ensures.value) ∙ sym c.has.ensures ∙ c.if-has.true in
    record { block = c.requires; part = operand-part node.kind is }

pub returns-in_ok-tell : goal.returns-in_ok-tell
returns-in_ok-tell c =
    let node = c.args.node.now in
    let is = ap (has class.Operand) (sym c.kind.ensures.value) ∙ sym c.has.ensures ∙ c.if-has.true in
    record {
      told = down-end c.args.body.now c.args.going.now c.tell.new.going c.args.told.now.items c.tell.new.told.items c.args.context c.args.wanted c.args.index node (operand-part node.kind is) (operand-is node.kind ∙ is) c.in_ok-tell.ensures;
      texts = c.in_ok-tell.ensures.kept.texts;
    }

pub returns-else-has : goal.returns-else-has
returns-else-has c =
    let node = c.args.node.now in
    let isnt = operand-is node.kind ∙ ap (has class.Operand) (sym c.kind.ensures.value) ∙ sym c.has.ensures ∙ c.if-has.false in
    record {
      told = down-nothing c.args.body.now c.args.going.now c.args.told.now.items c.args.context c.args.wanted c.args.index node isnt;
      texts = Begins-same c.args.going.now.texts.items;
    }
