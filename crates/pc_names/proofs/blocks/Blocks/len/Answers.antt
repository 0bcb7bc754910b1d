use Rattle.std.proofs.Common.{length, ap, arith}
use Rattle.pc_names.proofs.ChainSteps.{length-chains_of}
use Rattle.pc_names.proofs.blocks.Blocks.len.Goals as goal

pub returns : goal.returns
returns c = omega (arith, length-chains_of c.self.inside.arounds.items, ap length c.self.view_is)
