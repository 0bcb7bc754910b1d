use Rattle.pc_scope.proofs.Firsts.{first-more}
use Rattle.pc_scope.proofs.names.Names.of.Goals as goal

pub loop-named-preserved : goal.loop-named-preserved
loop-named-preserved c = λ n. first-more c.args.owner.now c.loop-named.yielded c.in-Some.named n _ _ (c.loop-named.invariant n) (c.in_ok-add.ensures n)
