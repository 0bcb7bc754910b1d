use Rattle.std.proofs.Common.{◌≡◌, MatchOption, List, slice_get, subst, ap, ◌∙◌}
use Rattle.pc_types.specs.Rows.{Kept, seen, row_place}
use Rattle.pc_types.specs.Table.{nowhere, place_at}
use Rattle.pc_types.specs.declared.types.DomainRow.{DomainRow}
use Rattle.pc_types.specs.contracts.types.Types.{the_view}
use Rattle.pc_types.proofs.TargetsLaws.{place-match}
use Rattle.pc_types.proofs.types.Types.domain_row.Goals as goal

pub returns : goal.returns
returns c =
    subst (λ (k : Kept). MatchOption c.at.result (place_at (seen k) c.args.id ≡ nowhere) (λ d. place_at (seen k) c.args.id ≡ row_place (seen k).owners d.now)) c.self.view_is
    (place-match (the_view c.self.inside) c.args.id c.at.result (c.at.ensures ∙ ap (λ (rows : List DomainRow). slice_get rows c.args.id.0) c.deref.ensures.value))
