use Rattle.std.proofs.Common.{◌-◌, length}
use Rattle.pc_closing.specs.Searched.{Spreads}
use Rattle.pc_closing.proofs.search.spread.Given as goal

abbrev pub invariant-loop-part : goal.invariant-loop-part
invariant-loop-part l = Spreads l.users l.fn.marks l.marks l.at

-- how many types have not been gone through
abbrev pub decreases-loop-part : goal.decreases-loop-part
decreases-loop-part l = length l.marks.whole - l.at
