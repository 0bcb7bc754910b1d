use Rattle.std.proofs.Common.{◌≡◌, length}
use Rattle.pc_syntax.specs.Words.{is_among}
use Rattle.pc_denoters.proofs.fields.is_among.Given as goal

abbrev pub invariant-loop-rest : goal.invariant-loop-rest
invariant-loop-rest l = is_among l.rest l.name ≡ is_among l.names l.name

abbrev pub decreases-loop-rest : goal.decreases-loop-rest
decreases-loop-rest l = length l.rest
