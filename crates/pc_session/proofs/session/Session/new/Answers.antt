use Rattle.std.proofs.Common.{refl}
use Rattle.pc_syntax.specs.Plain.{node}
use Rattle.pc_session.proofs.session.Session.new.Goals as goal

pub new-requires : goal.new-requires
unfolding node
new-requires c = rw c.in_ok-tree.ensures (record { program = refl })
