use Rattle.std.proofs.Common.{ℕ, List, Some, ◌&&◌, nat_eq, if◌then◌else◌, ap, ◌∙◌}
use Rattle.std.specs.Map.{lookup}
use Rattle.pc_names.specs.Bindings.{is_at}
use Rattle.pc_names.specs.declared.slot.Slot.{Slot}
use Rattle.pc_names.proofs.slots.Slots.bind.Goals as goal

pub returns-clause-slots : goal.returns-clause-slots
returns-clause-slots c = λ b n.
    c.in_ok-insert.ensures.updates.0 (b, n)
    ∙ ap (λ (v : List ((ℕ × ℕ) × Slot)). if nat_eq c.args.block b && nat_eq c.args.name n then Some c.args.slot else lookup (is_at b n) v) c.self.view_is
