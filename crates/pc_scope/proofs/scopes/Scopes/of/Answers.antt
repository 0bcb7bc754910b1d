use Rattle.std.proofs.Common.{ℕ, List, [], ◌∷◌, true, ap, ◌∙◌, subst}
use Rattle.pc_scope.specs.Around.{Owner, Block}
use Rattle.pc_scope.specs.Blocks.{block_kids}
use Rattle.pc_scope.specs.Declarations.{Declared}
use Rattle.pc_scope.specs.Entries.{all_declared}
use Rattle.pc_scope.specs.Stands.{StandsFor, StandsForBlock}
use Rattle.pc_scope.proofs.scopes.Scopes.of.Goals as goal

pub returns : goal.returns
unfolding StandsFor
returns c =
    let B : Owner → List ℕ → List Declared → Block = λ o p ds. record { owner = o; place = p; number = 3; parameters = ds; kids = block_kids c.args.tree.now.kids } in
    let o : Owner = record { key = []; is_own = true } in
    let P : Block → Type 0 = λ b. StandsForBlock c.add_block.new.regions.items c.in_ok-root.root b in
    subst P
    (ap (λ w. B w c.in_ok-of.field-0 (all_declared c.new.result.items)) c.program.ensures
    ∙ ap (λ p. B o p (all_declared c.new.result.items)) c.in_ok-of.ensures
    ∙ ap (λ ns. B o (3 ∷ []) (all_declared ns)) c.new.ensures.items)
    c.in_ok-root.ensures.stands
