use Rattle.pc_type_rules.proofs.MadeSteps.{set-made}
use Rattle.pc_type_rules.proofs.sets.set_over.Goals as goal

pub returns-in_ok-whole-in-Some-clause-shows : goal.returns-in_ok-whole-in-Some-clause-shows
returns-in_ok-whole-in-Some-clause-shows c = λ d ty def h. set-made _ _ c.args.here c.args.packed c.in-Some.base _ _ d ty c.in-Some.is c.in_ok-whole-in-Some.ensures.shows def h
