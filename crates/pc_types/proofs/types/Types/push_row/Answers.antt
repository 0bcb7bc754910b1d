use Rattle.std.proofs.Common.{List, [], ◌∷◌, ◌++◌, sym, subst}
use Rattle.pc_types.specs.Table.{shape_in, IsReady}
use Rattle.pc_types.specs.Rows.{Kept, seen, IsSized, IsInOrder}
use Rattle.pc_types.specs.Growth.{GrowsBy}
use Rattle.pc_types.specs.declared.types.Row.{Row}
use Rattle.pc_types.specs.contracts.types.Types.{the_view}
use Rattle.pc_types.proofs.GrowthLaws.{in_order-push, seen-push}
use Rattle.pc_types.proofs.types.Types.push_row.Goals as goal

pub invariant_of-self-2 : goal.invariant_of-self-2
invariant_of-self-2 c =
    subst (λ (rows : List Row). IsInOrder (record { rows = rows; owners = c.self.inside.owners.items; domains = c.self.inside.domains.items })) (sym c.in_ok-push.ensures.items)
    (in_order-push (the_view c.self.inside) c.args.row c.self.invariant
    (subst (λ (k : Kept). IsReady (seen k) c.args.row.form c.args.row.definition) (sym c.self.view_is) c.requires.ready)
    (subst (λ (k : Kept). IsSized (seen k) c.args.row) (sym c.self.view_is) c.requires.sized))

pub returns-clause-grown : goal.returns-clause-grown
returns-clause-grown c =
    subst (λ (rows : List Row). GrowsBy (seen c.args.self.now) (seen (record { rows = rows; owners = c.self.inside.owners.items; domains = c.self.inside.domains.items })) (shape_in (seen c.args.self.now) c.args.row.definition c.args.row.form)) (sym c.in_ok-push.ensures.items)
    (subst (λ (k : Kept). GrowsBy (seen k) (seen (record { rows = c.self.inside.rows.items ++ c.args.row ∷ []; owners = c.self.inside.owners.items; domains = c.self.inside.domains.items })) (shape_in (seen k) c.args.row.definition c.args.row.form)) c.self.view_is
    (seen-push (the_view c.self.inside) c.args.row c.self.invariant))
