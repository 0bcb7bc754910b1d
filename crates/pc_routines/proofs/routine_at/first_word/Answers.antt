use Rattle.std.proofs.Common.{ap, sym, ◌∙◌, Some, None}
use Rattle.std.specs.Option.{option_copied}
use Rattle.pc_routines.specs.RoutineLaws.{word-by}
use Rattle.pc_routines.proofs.routine_at.first_word.Goals as goal

pub returns-in-Some : goal.returns-in-Some
returns-in-Some c = c.word.ensures ∙ sym (word-by c.args.node.now (Some c.in-Some.first.now) (ap option_copied (sym c.in-Some.is) ∙ c.kid.ensures.value))

pub returns-in-None : goal.returns-in-None
returns-in-None c = sym (word-by c.args.node.now None (ap option_copied (sym c.in-None.is) ∙ c.kid.ensures.value))
