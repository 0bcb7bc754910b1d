use Rattle.pc_found_laws.proofs.WayLemmas.{ways-law}
use Rattle.pc_found_laws.proofs.laws.ways_go_on_by_a_kid.Goals as goal

pub returns : goal.returns
returns c = ways-law
