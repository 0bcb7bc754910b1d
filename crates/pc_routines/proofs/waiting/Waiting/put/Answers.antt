use Rattle.std.proofs.Common.{Option, ◌&&◌, nat_eq, if◌then◌else◌, ap, ◌∙◌}
use Rattle.std.specs.Option.{option_and_then}
use Rattle.std.specs.Map.{lookup}
use Rattle.pc_names.specs.Bindings.{is_at}
use Rattle.pc_routines.specs.Waits.{waiting_at}
use Rattle.pc_routines.specs.WaitsLaws.{inside-put}
use Rattle.pc_routines.specs.declared.forward.Forward.{Forward}
use Rattle.pc_routines.proofs.waiting.Waiting.put.Goals as goal

pub returns : goal.returns
returns c = λ i s.
    ap (option_and_then (λ (x : Option Forward). x)) (c.in_ok-insert.ensures.updates.0 (i, s))
    ∙ inside-put (nat_eq c.args.name.0 i && nat_eq c.side.result s) c.args.slot (lookup (is_at i s) c.self.inside.table.entries)
    ∙ (λ k. if nat_eq c.args.name.0 i && nat_eq (c.side.ensures k) s then c.args.slot else waiting_at (c.self.view_is k) i s)
