use Rattle.std.proofs.Common.{◌≡◌, drop}
use Rattle.pc_syntax.specs.Layout as lay
use Rattle.pc_layout.proofs.made.operator.Given as goal

abbrev pub invariant-loop-operator : goal.invariant-loop-operator
invariant-loop-operator l = lay.operator l.operators l.word ≡ lay.operator (drop l.operator-index l.operators) l.word
