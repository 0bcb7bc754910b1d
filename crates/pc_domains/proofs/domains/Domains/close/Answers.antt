use Rattle.pc_domains.specs.ClosedAllLaws.{closing-all}
use Rattle.pc_domains.specs.ClosingLaws.{closing-changes}
use Rattle.pc_domains.proofs.domains.Domains.close.Goals as goal

pub returns-clause-closes : goal.returns-clause-closes
returns-clause-closes c = λ targets out l told at apart none once own program carried says.
    closing-all c.args.is_program c.args.block.0 c.args.owner.0 c.args.list.now c.args.self.now c.close_first.new.self c.args.tables.now c.close_first.new.tables targets out l
    c.in_ok-close_first.ensures told at apart none once own carried says

pub returns-clause-changes : goal.returns-clause-changes
returns-clause-changes c =
    closing-changes c.args.is_program c.args.block.0 c.args.owner.0 c.args.list.now c.args.self.now c.close_first.new.self c.args.tables.now c.close_first.new.tables c.in_ok-close_first.ensures
