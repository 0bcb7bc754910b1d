use Rattle.std.proofs.Common.{sym}
use Rattle.pc_syntax.specs.WellFormed.{size_limit-is}
use Rattle.pc_syntax.proofs.limits.size_limit.Goals as goal

pub returns : goal.returns
returns c = sym size_limit-is
