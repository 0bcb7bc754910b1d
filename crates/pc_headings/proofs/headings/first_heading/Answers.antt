use Rattle.std.proofs.Common.{refl, sym, ◌∙◌}
use Rattle.pc_headings.specs.FunbodyLaws.{funbody-kind, funbody-parts}
use Rattle.pc_headings.specs.WholeLaws.{heading-procedure, heading-function, heading-funbody}
use Rattle.pc_headings.proofs.headings.first_heading.Goals as goal

pub returns-in_ok-found-in-Procedure : goal.returns-in_ok-found-in-Procedure
returns-in_ok-found-in-Procedure c =
    heading-procedure c.args.tables.now c.procedure.new.tables c.args.outer.0 c.args.owner.0 c.args.node.now c.procedure_part-params.result.now c.in_ok-found-in-Procedure.found (sym c.kind.ensures.value ∙ c.in-Procedure.is)
    c.procedure_part-params.ensures c.in_ok-found-in-Procedure.ensures

pub returns-in_ok-found-in-Function : goal.returns-in_ok-found-in-Function
returns-in_ok-found-in-Function c =
    let parts = c.function_parts.result in
    heading-function c.args.tables.now c.function.new.tables c.args.outer.0 c.args.owner.0 c.args.node.now parts.0.now parts.1.now c.in_ok-found-in-Function.found (sym c.kind.ensures.value ∙ c.in-Function.is)
    c.function_parts.ensures c.in_ok-found-in-Function.ensures

pub returns-in_default : goal.returns-in_default
returns-in_default c =
    let node = c.args.node.now in
    let e = funbody-kind node.kind c.requires.routine (λ e. c.in_default.not-Procedure (c.kind.ensures.value ∙ e)) (λ e. c.in_default.not-Function (c.kind.ensures.value ∙ e)) in
    let parts = funbody-parts node e c.kind.ensures.proper in
    heading-funbody c.args.tables.now c.args.outer.0 c.args.owner.0 node parts.name parts.body _ e parts.kids parts.name_is parts.block_is c.new.ensures.items c.new-in_default.ensures.items refl
