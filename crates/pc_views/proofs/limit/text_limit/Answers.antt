use Rattle.std.proofs.Common.{sym}
use Rattle.pc_views.specs.Limit.{text_limit-is}
use Rattle.pc_views.proofs.limit.text_limit.Goals as goal

pub returns : goal.returns
returns c = sym text_limit-is
