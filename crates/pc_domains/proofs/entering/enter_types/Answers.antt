use Rattle.std.proofs.Common.{List, take, get_or, sym, subst, arith}
use Rattle.std.proofs.lemmas.List.{take_more, take_all}
use Rattle.pc_names.specs.declared.id.NameId.{NameId}
use Rattle.pc_domains.specs.EnteredLaws.{enters-none, enters-more}
use Rattle.pc_domains.specs.Types.{Enters}
use Rattle.pc_domains.proofs.entering.enter_types.Goals as goal

pub loop-id-init : goal.loop-id-init
loop-id-init c = enters-none c.args.tables.now c.args.block.0 c.args.owner.0 c.args.required c.args.types.now

pub loop-id-preserved : goal.loop-id-preserved
loop-id-preserved c =
    let ids : List NameId = c.args.ids.now in
    let i = c.loop-id.id-index in
    let none : NameId = record { 0 = 0 } in
    subst (λ (is : List NameId). Enters c.args.tables.now c.args.block.0 c.args.owner.0 c.args.required is c.args.types.now c.put.new.self)
    (sym (take_more ids i none c.loop-id-test.true))
    (enters-more c.args.tables.now c.args.block.0 c.args.owner.0 c.args.required (take i ids) (get_or ids i none) c.in_ok-of.of c.args.types.now c.loop-id.types c.put.new.self
    c.loop-id.invariant c.in_ok-of.ensures c.in_ok-put.ensures)

pub returns : goal.returns
returns c =
    subst (λ (is : List NameId). Enters c.args.tables.now c.args.block.0 c.args.owner.0 c.args.required is c.args.types.now c.loop-id.types)
    (take_all c.loop-id.id-index c.args.ids.now (omega (arith, c.loop-id-test.false))) c.loop-id.invariant
