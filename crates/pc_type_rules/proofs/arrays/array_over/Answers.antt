use Rattle.pc_type_rules.proofs.ArraySteps.{array-made}
use Rattle.pc_type_rules.proofs.arrays.array_over.Goals as goal

pub returns-in_ok-whole-in-Some-Some-clause-shows : goal.returns-in_ok-whole-in-Some-Some-clause-shows
returns-in_ok-whole-in-Some-Some-clause-shows c = λ d x y def h g.
    array-made _ _ c.args.here c.args.packed c.in-Some-Some.by c.in-Some-Some.of _ _ _ d x y c.in-Some-Some.is-0 c.in-Some-Some.is-1 c.in_ok-whole-in-Some-Some.ensures.shows def h g
