use Rattle.std.proofs.Common.{◌≡◌, [], take}
use Rattle.pc_counts.specs.NamesLaws.{all_listed}
use Rattle.pc_counts.proofs.before.first_listed.Given as goal

abbrev pub invariant-loop-name : goal.invariant-loop-name
invariant-loop-name l = all_listed (take l.name-index l.name-items) ≡ []
