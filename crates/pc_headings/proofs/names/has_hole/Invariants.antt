use Rattle.std.proofs.Common.{◌≡◌, take}
use Rattle.pc_rules.specs.HandedOn.{any_hole}
use Rattle.pc_headings.specs.Listing.{named_nodes}
use Rattle.pc_headings.proofs.names.has_hole.Given as goal

abbrev pub invariant-loop-kid : goal.invariant-loop-kid
invariant-loop-kid l = l.hole ≡ any_hole (named_nodes (take l.kid-index l.kid-items))
