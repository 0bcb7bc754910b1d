use Rattle.std.proofs.Common.{take}
use Rattle.pc_domains.specs.Types.{Enters}
use Rattle.pc_domains.proofs.entering.enter_types.Given as goal

abbrev pub invariant-loop-id : goal.invariant-loop-id
invariant-loop-id l = Enters l.tables l.block.0 l.owner.0 l.required (take l.id-index l.ids) l.fn.types l.types
