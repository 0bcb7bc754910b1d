use Rattle.std.proofs.Common.{sym, ap, ◌∙◌, subst}
use Rattle.std.specs.Option.{option_copied}
use Rattle.pc_rules.specs.OwnBlock.{named_of_class}
use Rattle.pc_names.specs.Standing.{meant}
use Rattle.pc_openings.specs.Announced.{Announced}
use Rattle.pc_openings.specs.AnnouncedLaws.{Announced-none}
use Rattle.pc_openings.specs.DeclaringLaws.{no-first, first-is}
use Rattle.pc_openings.proofs.announcing.announce_first.Goals as goal

pub returns-in_default : goal.returns-in_default
returns-in_default c =
    let names = c.args.names.now in
    subst (λ n. Announced c.args.block.0 (named_of_class (meant c.args.class) n) names names) (sym (no-first c.args.node.now (ap option_copied (sym c.in_default.is) ∙ c.kid.ensures.value)).0)
    (Announced-none c.args.block.0 names)

pub returns : goal.returns
returns c =
    subst (λ n. Announced c.args.block.0 (named_of_class (meant c.args.class) n) c.args.names.now c.announce_name.new.names)
    (sym (first-is c.args.node.now c.in-Some.name.now (ap option_copied (sym c.in-Some.is) ∙ c.kid.ensures.value)).0) c.in_ok-announce_name.ensures
