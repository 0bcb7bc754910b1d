use Rattle.pc_types.specs.Rows.{seen}
use Rattle.pc_closing.specs.Whole.{AreFound, AreWhole}
use Rattle.pc_closing.specs.Searched.{Changes, Gathers}
use Rattle.pc_closing.proofs.search.gather.Given as goal

abbrev pub invariant-loop-id : goal.invariant-loop-id
invariant-loop-id l =
    Changes l.fn.users l.users l.fn.marks l.marks ×
    (AreWhole (seen l.types) l.flags → AreFound (seen l.types) → Gathers l.flags (seen l.types) l.fn.users l.users l.fn.marks l.marks l.id)
