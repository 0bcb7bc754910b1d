use Rattle.std.proofs.Common.{not, ◌==◌, ℕ, ap, sym, ◌∙◌, Some, None}
use Rattle.std.specs.Option.{option_copied}
use Rattle.pc_syntax.specs.PartsLaws.{length-kids_of}
use Rattle.pc_routines.specs.RoutineLaws.{second-by}
use Rattle.pc_routines.proofs.routine_at.second_has_kids.Goals as goal

pub returns-in-Some : goal.returns-in-Some
returns-in-Some c =
    ap (λ (n : ℕ). not (n == 0)) (c.kids.ensures ∙ length-kids_of c.in-Some.second.now)
    ∙ sym (second-by c.args.node.now (Some c.in-Some.second.now) (ap option_copied (sym c.in-Some.is) ∙ c.kid.ensures.value))

pub returns-in-None : goal.returns-in-None
returns-in-None c = sym (second-by c.args.node.now None (ap option_copied (sym c.in-None.is) ∙ c.kid.ensures.value))
