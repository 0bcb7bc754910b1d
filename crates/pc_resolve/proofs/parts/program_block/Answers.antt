use Rattle.std.proofs.Common.{[], ◌∷◌, refl}
use Rattle.pc_syntax.specs.declared.class.Class.TheVariants as class
use Rattle.pc_resolve.proofs.PartLemmas.{no-block, if-none, is-part-here, no-part}
use Rattle.pc_resolve.proofs.parts.program_block.Goals as goal

pub returns-clause-part : goal.returns-clause-part
returns-clause-part c = λ x e.
    let f = c.in-Program.ensures in
    is-part-here c.args.node.now (c.in-Program.name.now ∷ c.in-Program.heads.now ∷ []) c.in-Program.block.now x.1.now 2 x.0 f.kids
    (no-block class.Name c.in-Program.name.now.kind refl f.classes.0, (no-block class.Heads c.in-Program.heads.now.kind refl f.classes.1.0, tt)) (c.if_block.ensures.part x e) refl refl f.smaller.1.1.0

pub returns-clause-none : goal.returns-clause-none
returns-clause-none c =
    let f = c.in-Program.ensures in
    if-none c.if_block.result (λ e. no-part c.args.node.now (c.in-Program.name.now ∷ c.in-Program.heads.now ∷ c.in-Program.block.now ∷ []) f.kids
    (no-block class.Name c.in-Program.name.now.kind refl f.classes.0, (no-block class.Heads c.in-Program.heads.now.kind refl f.classes.1.0, (e, tt)))) c.if_block.ensures.none
