use Rattle.std.proofs.Common.{◌∙◌}
use Rattle.pc_types.specs.Rows.{seen}
use Rattle.pc_closing.specs.FlagLaws.{flag-of, text-whole, members-whole, no_members-whole}
use Rattle.pc_closing.proofs.whole.Whole.is_whole.Goals as goal

pub returns-in-Id : goal.returns-in-Id
returns-in-Id c = λ right all. c.flag.ensures ∙ flag-of (seen c.args.types.now) c.args.self.now c.args.of c.in-Id.id c.in-Id.is right all

pub returns-in-Text : goal.returns-in-Text
returns-in-Text c = λ right all. text-whole (seen c.args.types.now) c.args.of _ c.in-Text.is

pub returns-in-Members : goal.returns-in-Members
returns-in-Members c = λ right all. members-whole (seen c.args.types.now) c.args.of _ c.in-Members.is

pub returns-in-NoMembers : goal.returns-in-NoMembers
returns-in-NoMembers c = λ right all. no_members-whole (seen c.args.types.now) c.args.of c.in-NoMembers.is
