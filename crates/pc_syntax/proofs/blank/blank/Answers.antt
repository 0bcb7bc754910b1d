use Rattle.pc_syntax.proofs.Blanks.{proper-blank}
use Rattle.pc_syntax.proofs.blank.blank.Goals as goal

pub of_proper-requires : goal.of_proper-requires
of_proper-requires c = rw (c.in_ok-kids.ensures, c.blank_kind-kind.ensures) (proper-blank c.args.class)
