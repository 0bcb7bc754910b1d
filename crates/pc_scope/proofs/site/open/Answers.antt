use Rattle.std.proofs.Common.{◌++◌, refl, ap, ◌∙◌}
use Rattle.pc_scope.specs.Blocks.{block_kids, routines_among}
use Rattle.pc_scope.specs.Declarations.{declared_at}
use Rattle.pc_scope.specs.Entries.{all_declared}
use Rattle.pc_scope.specs.Around.{Owner}
use Rattle.pc_scope.specs.Table.{first_of, owned}
use Rattle.pc_scope.proofs.SiteSteps.{first-owned, counts-of}
use Rattle.pc_scope.proofs.site.open.Goals as goal

pub returns : goal.returns
returns c = record {
  owner = refl;
  list = c.in_ok-list.ensures;
  names = λ n.
      c.in_ok-names.ensures n ∙ ap (λ ds. first_of n (owned c.owner.inside.key ds)) c.in_ok-add_block_names.ensures
      ∙ ap (λ k. first_of n (owned k (all_declared c.args.site.parameters.items ++ declared_at c.args.site.place 1 (block_kids c.args.tree.now.kids)))) (ap (λ (o : Owner). o.key) c.owner.view_is)
      ∙ first-owned n c.args.site.owner.key _;
  numbers = counts-of c.routines_of.result.now (routines_among (block_kids c.args.tree.now.kids)) c.in_ok-numbers.numbers.items c.routines_of.ensures.value c.in_ok-numbers.ensures;
}
