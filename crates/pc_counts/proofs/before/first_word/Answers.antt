use Rattle.std.proofs.Common.{ap, sym, ◌∙◌}
use Rattle.std.specs.Option.{option_copied}
use Rattle.pc_openings.specs.DeclaringLaws.{no-first, first-is}
use Rattle.pc_counts.proofs.before.first_word.Goals as goal

pub returns-in-Some : goal.returns-in-Some
returns-in-Some c = c.word_of.ensures ∙ sym (first-is c.args.node.now c.in-Some.name.now (ap option_copied (sym c.in-Some.is) ∙ c.kid.ensures.value)).0

pub returns-in-None : goal.returns-in-None
returns-in-None c = sym (no-first c.args.node.now (ap option_copied (sym c.in-None.is) ∙ c.kid.ensures.value)).0
