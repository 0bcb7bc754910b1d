use Rattle.std.proofs.Common.{◌≡◌, take, length}
use Rattle.pc_headings.specs.Groups.{AddsRow}
use Rattle.pc_headings.proofs.groups.add_parameters.Given as goal

abbrev pub invariant-loop-kid : goal.invariant-loop-kid
invariant-loop-kid l =
    AddsRow l.initial.tables l.tables l.outer.0 l.owner.0 l.initial.listed l.listed (take l.kid-index l.kid-items) l.hole l.entries.items × (l.count ≡ length (take l.kid-index l.kid-items))
