use Rattle.pc_domains.specs.FinishLaws.{telling-all}
use Rattle.pc_domains.proofs.domains.Domains.catch_up.Goals as goal

pub returns-clause-told : goal.returns-clause-told
returns-clause-told c = λ targets none told. telling-all targets c.args.self.now c.tell_all.new.self c.args.tables.now c.tell_all.new.tables c.in_ok-tell_all.ensures none told
