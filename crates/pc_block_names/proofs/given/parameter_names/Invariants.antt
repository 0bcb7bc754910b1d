use Rattle.std.proofs.Common.{take}
use Rattle.pc_own_names.specs.OwnKinds.{HasSame}
use Rattle.pc_block_names.specs.Given.{small_names}
use Rattle.pc_block_names.proofs.given.parameter_names.Given as goal

abbrev pub invariant-loop-parameter : goal.invariant-loop-parameter
invariant-loop-parameter l = HasSame l.given.texts (small_names l.names.texts (take l.parameter-index l.parameters))
