use Rattle.std.proofs.Common.{◌≡◌, take, length}
use Rattle.pc_headings.specs.Listing.{AddsNames}
use Rattle.pc_headings.proofs.names.add_names.Given as goal

abbrev pub invariant-loop-kid : goal.invariant-loop-kid
invariant-loop-kid l =
    AddsNames l.initial.tables l.tables l.group l.initial.listed l.listed (take l.kid-index l.kid-items) l.entries.items × (l.count ≡ length (take l.kid-index l.kid-items))
