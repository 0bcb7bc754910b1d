use Rattle.std.proofs.Common.{sym, refl, ◌∙◌}
use Rattle.pc_parse.proofs.LeafLaws.{leaf_is}
use Rattle.pc_parse.proofs.leaves.is_leaf.Goals as goal

pub returns : goal.returns
returns c = λ h.
    leaf_is c.args.tree.now c.args.kind c.args.word.now (sym c.kind.ensures.value ∙ c.is.ensures.0 h) (sym c.word.ensures ∙ c.if-not-is_same.ensures refl) (c.if-not-is_bare.ensures.notes refl) (c.if-not-is_bare.ensures.kids refl)
