use Rattle.pc_types.proofs.OwnersLaws.{keyed-left}
use Rattle.pc_types.proofs.sameness.is_nobody.Goals as goal

pub returns-in-len1-up-clause-left : goal.returns-in-len1-up-clause-left
returns-in-len1-up-clause-left c = keyed-left c.args.owner.now _ _ c.in-Keyed.is c.names.ensures c.in-len1-up.len_at_least
