use Rattle.pc_syntax.specs.PartsLaws.{proper-hole}
use Rattle.pc_syntax.proofs.make.hole.Goals as goal

pub of_proper-requires : goal.of_proper-requires
of_proper-requires c = rw c.new.ensures.items (proper-hole c.args.sort)
