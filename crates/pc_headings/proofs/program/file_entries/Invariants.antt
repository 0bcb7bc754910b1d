use Rattle.std.proofs.Common.{◌≡◌, take, length}
use Rattle.pc_rules.specs.Attributes.{each_kid}
use Rattle.pc_rules.specs.Headings.{program_parameter_entries}
use Rattle.pc_headings.specs.Listing.{named_nodes}
use Rattle.pc_headings.proofs.program.file_entries.Given as goal

abbrev pub invariant-loop-kid : goal.invariant-loop-kid
invariant-loop-kid l =
    (l.entries.items ≡ each_kid program_parameter_entries 1 (named_nodes (take l.kid-index l.kid-items))) × (l.count ≡ length (take l.kid-index l.kid-items))
