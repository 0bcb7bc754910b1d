use Rattle.pc_program_laws.proofs.ChangedLemmas.{changed-law}
use Rattle.pc_program_laws.proofs.laws.changes_are_seen_in_errors_alone.Goals as goal

pub returns : goal.returns
returns c = changed-law
