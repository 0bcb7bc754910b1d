use Rattle.std.proofs.Common.{subst}
use Rattle.pc_types.specs.Rows.{IsInOrder}
use Rattle.pc_types.proofs.types.Types.stays_in_order.Goals as goal

pub returns : goal.returns
returns c = subst IsInOrder c.self.view_is c.self.invariant
