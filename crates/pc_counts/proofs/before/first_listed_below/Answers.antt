use Rattle.std.proofs.Common.{ap, sym, ◌∙◌}
use Rattle.std.specs.Option.{option_copied}
use Rattle.pc_rules.specs.Places.{first_of_names}
use Rattle.pc_openings.specs.DeclaringLaws.{no-first, first-is}
use Rattle.pc_counts.proofs.before.first_listed_below.Goals as goal

pub returns-in-Some : goal.returns-in-Some
returns-in-Some c = c.first_listed.ensures ∙ ap first_of_names (sym (first-is c.args.node.now c.in-Some.list.now (ap option_copied (sym c.in-Some.is) ∙ c.kid.ensures.value)).1)

pub returns-in-None : goal.returns-in-None
returns-in-None c = ap first_of_names (sym (no-first c.args.node.now (ap option_copied (sym c.in-None.is) ∙ c.kid.ensures.value)).1)
