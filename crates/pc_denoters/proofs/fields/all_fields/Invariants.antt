use Rattle.std.proofs.Common.{◌≡◌, length}
use Rattle.pc_denoters.specs.FieldRows.{lists_of, any_open_field, below_of, twice_of}
use Rattle.pc_denoters.proofs.fields.all_fields.Given as goal

abbrev pub invariant-loop-row : goal.invariant-loop-row
invariant-loop-row l =
    (l.lists.items ≡ lists_of l.yielded) × (l.hole ≡ any_open_field l.yielded) × (l.below.items ≡ below_of 1 l.yielded) × (l.twice.items ≡ twice_of 1 l.yielded) × (l.i ≡ length l.yielded)
