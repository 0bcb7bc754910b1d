use Rattle.std.proofs.Common.{◌≡◌, MatchOption, List, slice_get, get_or, subst, ap, ◌∙◌}
use Rattle.pc_types.specs.Rows.{Kept, seen, seen_owner}
use Rattle.pc_types.specs.Table.{nobody}
use Rattle.pc_types.specs.declared.owner.Owner.{Owner}
use Rattle.pc_types.proofs.OwnersLaws.{owner-match}
use Rattle.pc_types.specs.contracts.types.Types.{the_view}
use Rattle.pc_types.proofs.types.Types.owner.Goals as goal

pub returns : goal.returns
returns c =
    subst (λ (k : Kept). MatchOption c.at.result (get_or (seen k).owners c.args.id.0 nobody ≡ nobody) (λ o. get_or (seen k).owners c.args.id.0 nobody ≡ seen_owner o.now)) c.self.view_is
    (owner-match (the_view c.self.inside) c.args.id c.at.result (c.at.ensures ∙ ap (λ (rows : List Owner). slice_get rows c.args.id.0) c.deref.ensures.value))
