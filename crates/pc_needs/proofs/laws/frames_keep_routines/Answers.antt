use Rattle.pc_needs.proofs.BodyLemmas.{frame-law}
use Rattle.pc_needs.proofs.laws.frames_keep_routines.Goals as goal

pub returns : goal.returns
returns c = frame-law
