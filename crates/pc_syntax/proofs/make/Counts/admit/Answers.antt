use Rattle.std.proofs.Common.{arith}
use Rattle.pc_syntax.specs.WellFormed.{size_limit-is}
use Rattle.pc_syntax.proofs.make.Counts.admit.Goals as goal

pub returns : goal.returns
returns c p sound depth size = record { sound = sound; shallow = omega arith; small = omega (arith, size_limit-is) }
