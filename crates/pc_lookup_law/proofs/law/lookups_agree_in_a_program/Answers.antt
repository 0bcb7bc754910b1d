use Rattle.pc_lookup_law.proofs.ProgramLaws.{program-law}
use Rattle.pc_lookup_law.proofs.law.lookups_agree_in_a_program.Goals as goal

pub returns : goal.returns
returns c = program-law
