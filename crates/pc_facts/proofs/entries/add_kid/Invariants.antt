use Rattle.std.proofs.Common.{◌≡◌, ◌++◌}
use Rattle.pc_rules.specs.Attributes.{at_kid}
use Rattle.pc_facts.proofs.entries.add_kid.Given as goal

abbrev pub invariant-loop-entry : goal.invariant-loop-entry
invariant-loop-entry l = l.entries.items ≡ l.initial.entries.items ++ at_kid l.i l.yielded
