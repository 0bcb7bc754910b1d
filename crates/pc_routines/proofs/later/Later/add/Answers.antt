use Rattle.std.proofs.Common.{Some, true, ◌&&◌, nat_eq, if◌then◌else◌, ◌∙◌}
use Rattle.pc_routines.specs.Later.{later_at}
use Rattle.pc_routines.proofs.later.Later.add.Goals as goal

pub returns : goal.returns
returns c = λ i s.
    c.in_ok-insert.ensures.updates.0 (i, s)
    ∙ (λ k. if nat_eq c.args.name.0 i && nat_eq (c.side.ensures k) s then Some true else later_at (c.self.view_is k) i s)
