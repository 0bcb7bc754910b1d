use Rattle.std.proofs.Common.{sym, ap, ◌∙◌, subst}
use Rattle.std.specs.Option.{option_copied}
use Rattle.pc_openings.specs.DeclaringLaws.{no-first, first-is}
use Rattle.pc_counts.specs.Counted.{Counted}
use Rattle.pc_counts.specs.CountedLaws.{Counted-none}
use Rattle.pc_counts.specs.Counting.{if_named}
use Rattle.pc_counts.proofs.counting.count_first.Goals as goal

pub returns-in_default : goal.returns-in_default
returns-in_default c =
    let counts = c.args.counts.now in
    let tables = c.args.tables.now in
    subst (λ n. Counted (if_named n) counts counts tables tables) (sym (no-first c.args.node.now (ap option_copied (sym c.in_default.is) ∙ c.kid.ensures.value)).0)
    (Counted-none counts tables)

pub returns : goal.returns
returns c =
    subst (λ n. Counted (if_named n) c.args.counts.now c.count_name.new.counts c.args.tables.now c.count_name.new.tables)
    (sym (first-is c.args.node.now c.in-Some.name.now (ap option_copied (sym c.in-Some.is) ∙ c.kid.ensures.value)).0) c.in_ok-count_name.ensures
