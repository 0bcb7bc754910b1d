use Rattle.std.proofs.Common.{sym, ◌∙◌, subst}
use Rattle.pc_openings.specs.Announced.{Announced}
use Rattle.pc_openings.specs.AnnouncedLaws.{Announced-none}
use Rattle.pc_openings.specs.DeclaringLaws.{declares-none}
use Rattle.pc_openings.proofs.announcing.announce_own.Goals as goal

pub returns-in_default : goal.returns-in_default
returns-in_default c =
    let names = c.args.names.now in
    let node = c.args.node.now in
    let is = c.kind.ensures.value in
    subst (λ ns. Announced c.args.block.0 ns names names)
    (sym (declares-none node.kind node.kids (λ e. c.in_default.not-Constdef (is ∙ e)) (λ e. c.in_default.not-Typedef (is ∙ e)) (λ e. c.in_default.not-Vardef (is ∙ e)) (λ e. c.in_default.not-Enum (is ∙ e))
    (λ e. c.in_default.not-Procedure (is ∙ e)) (λ e. c.in_default.not-Function (is ∙ e)) (λ e. c.in_default.not-Funbody (is ∙ e))))
    (Announced-none c.args.block.0 names)
