use Rattle.std.proofs.Common.{◌≡◌, ◌<◌, get_or, length, subst}
use Rattle.pc_types.specs.Rows.{Kept, seen}
use Rattle.pc_types.specs.Table.{nobody}
use Rattle.pc_types.specs.contracts.types.Types.{the_view}
use Rattle.pc_types.proofs.OpeningLaws.{begins-program}
use Rattle.pc_types.proofs.types.Types.program.Goals as goal

pub returns-clause-is : goal.returns-clause-is
returns-clause-is c = subst (λ (k : Kept). get_or (seen k).owners 0 nobody ≡ nobody) c.self.view_is (begins-program (the_view c.self.inside) c.self.invariant).0

pub returns-clause-there : goal.returns-clause-there
returns-clause-there c = subst (λ (k : Kept). 0 < length (seen k).owners) c.self.view_is (begins-program (the_view c.self.inside) c.self.invariant).1
