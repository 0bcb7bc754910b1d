use Rattle.std.proofs.Common.{[], ◌∷◌, refl}
use Rattle.pc_syntax.specs.declared.class.Class.TheVariants as class
use Rattle.pc_resolve.proofs.PartLemmas.{no-block, if-none, is-part-here, no-part}
use Rattle.pc_resolve.proofs.parts.block_part.Goals as goal

pub returns-in-Procedure-clause-part : goal.returns-in-Procedure-clause-part
returns-in-Procedure-clause-part c = λ x e.
    let f = c.in-Procedure.ensures in
    is-part-here c.args.node.now (c.in-Procedure.name.now ∷ c.in-Procedure.params.now ∷ []) c.in-Procedure.block.now x.1.now 2 x.0 f.kids
    (no-block class.Name c.in-Procedure.name.now.kind refl f.classes.0, (no-block class.Params c.in-Procedure.params.now.kind refl f.classes.1.0, tt)) (c.if_block.ensures.part x e) refl refl f.smaller.1.1.0

pub returns-in-Procedure-clause-none : goal.returns-in-Procedure-clause-none
returns-in-Procedure-clause-none c =
    let f = c.in-Procedure.ensures in
    if-none c.if_block.result (λ e. no-part c.args.node.now (c.in-Procedure.name.now ∷ c.in-Procedure.params.now ∷ c.in-Procedure.block.now ∷ []) f.kids
    (no-block class.Name c.in-Procedure.name.now.kind refl f.classes.0, (no-block class.Params c.in-Procedure.params.now.kind refl f.classes.1.0, (e, tt)))) c.if_block.ensures.none

pub returns-in-Function-clause-part : goal.returns-in-Function-clause-part
returns-in-Function-clause-part c = λ x e.
    let f = c.in-Function.ensures in
    is-part-here c.args.node.now (c.in-Function.name.now ∷ c.in-Function.params.now ∷ c.in-Function.result_type.now ∷ []) c.in-Function.block.now x.1.now 3 x.0 f.kids
    (no-block class.Name c.in-Function.name.now.kind refl f.classes.0, (no-block class.Params c.in-Function.params.now.kind refl f.classes.1.0, (no-block class.Name c.in-Function.result_type.now.kind refl f.classes.1.1.0, tt)))
    (c.if_block-in-Function.ensures.part x e) refl refl f.smaller.1.1.1.0

pub returns-in-Function-clause-none : goal.returns-in-Function-clause-none
returns-in-Function-clause-none c =
    let f = c.in-Function.ensures in
    if-none c.if_block-in-Function.result (λ e. no-part c.args.node.now (c.in-Function.name.now ∷ c.in-Function.params.now ∷ c.in-Function.result_type.now ∷ c.in-Function.block.now ∷ []) f.kids
    (no-block class.Name c.in-Function.name.now.kind refl f.classes.0, (no-block class.Params c.in-Function.params.now.kind refl f.classes.1.0, (no-block class.Name c.in-Function.result_type.now.kind refl f.classes.1.1.0, (e, tt))))) c.if_block-in-Function.ensures.none

pub returns-in-Funbody-clause-part : goal.returns-in-Funbody-clause-part
returns-in-Funbody-clause-part c = λ x e.
    let f = c.in-Funbody.ensures in
    is-part-here c.args.node.now (c.in-Funbody.name.now ∷ []) c.in-Funbody.block.now x.1.now 1 x.0 f.kids (no-block class.Name c.in-Funbody.name.now.kind refl f.classes.0, tt) (c.if_block-in-Funbody.ensures.part x e) refl refl f.smaller.1.0

pub returns-in-Funbody-clause-none : goal.returns-in-Funbody-clause-none
returns-in-Funbody-clause-none c =
    let f = c.in-Funbody.ensures in
    if-none c.if_block-in-Funbody.result (λ e. no-part c.args.node.now (c.in-Funbody.name.now ∷ c.in-Funbody.block.now ∷ []) f.kids (no-block class.Name c.in-Funbody.name.now.kind refl f.classes.0, (e, tt))) c.if_block-in-Funbody.ensures.none
