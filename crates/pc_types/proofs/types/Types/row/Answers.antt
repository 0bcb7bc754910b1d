use Rattle.std.proofs.Common.{◌≡◌, MatchOption, List, slice_get, subst, ap, ◌∙◌}
use Rattle.pc_types.specs.Shapes.{NoMembers}
use Rattle.pc_types.specs.Rows.{Kept, seen, StandsFor}
use Rattle.pc_types.specs.Table.{numbered}
use Rattle.pc_types.specs.declared.types.Row.{Row}
use Rattle.pc_types.proofs.RowsLaws.{row-match}
use Rattle.pc_types.proofs.types.Types.row.Goals as goal

pub returns : goal.returns
returns c =
    subst (λ (k : Kept). MatchOption c.at.result (numbered (seen k).shapes c.args.id ≡ NoMembers) (λ r. StandsFor (seen k) c.args.id r.now)) c.self.view_is
    (row-match _ c.args.id c.at.result c.self.invariant (c.at.ensures ∙ ap (λ (rows : List Row). slice_get rows c.args.id.0) c.deref.ensures.value))
