use Rattle.std.proofs.Common.{Option, sym, ap, subst}
use Rattle.std.specs.Option.{option_copied}
use Rattle.pc_syntax.specs.Plain.{Plain}
use Rattle.pc_rules.specs.OwnBlock.{declared_in}
use Rattle.pc_openings.specs.Announced.{Announced}
use Rattle.pc_openings.specs.Opened.{own_block}
use Rattle.pc_openings.specs.OpenedLaws.{block-declares}
use Rattle.pc_openings.proofs.opening.announce_block.Goals as goal

pub returns : goal.returns
returns c =
    let names = c.args.names.now in
    let new = c.announce_below.new.names in
    subst (λ (o : Option Plain). Announced c.args.block.0 (declared_in (own_block o)) names new) (ap option_copied (sym c.in-Some.is))
    (subst (λ ns. Announced c.args.block.0 ns names new) (sym (block-declares c.in-Some.tree.now (c.requires.node c.in-Some.tree c.in-Some.is))) c.in_ok-announce_below.ensures)
