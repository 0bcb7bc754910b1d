use Rattle.std.proofs.Common.{◌≡◌, drop}
use Rattle.pc_closing.specs.Search.{enter_all}
use Rattle.pc_closing.proofs.marks.Marks.enter_all.Given as goal

abbrev pub invariant-loop-id : goal.invariant-loop-id
invariant-loop-id l = enter_all (drop l.id-index l.ids) l.self ≡ enter_all l.ids l.fn.self
