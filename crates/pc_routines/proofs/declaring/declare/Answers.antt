use Rattle.std.proofs.Common.{refl}
use Rattle.pc_routines.proofs.declaring.declare.Goals as goal

pub returns : goal.returns
returns c = record {
  rebound = record { types = refl; texts = refl; signatures = refl; declarations = c.in_ok-id.ensures.added; names = c.in_ok-declare.ensures.binding };
  number = c.in_ok-id.ensures.number;
}
