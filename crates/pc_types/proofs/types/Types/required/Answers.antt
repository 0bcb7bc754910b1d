use Rattle.std.proofs.Common.{subst}
use Rattle.pc_types.specs.Table.{HasRequired}
use Rattle.pc_types.specs.Rows.{Kept, seen}
use Rattle.pc_types.specs.contracts.types.Types.{the_view}
use Rattle.pc_types.proofs.OpeningLaws.{begins-required}
use Rattle.pc_types.proofs.types.Types.required.Goals as goal

pub returns-clause-begins : goal.returns-clause-begins
returns-clause-begins c = subst (λ (k : Kept). HasRequired (seen k)) c.self.view_is (begins-required (the_view c.self.inside) c.self.invariant)
