use Rattle.std.proofs.Math.Facts.{to_z-of_z}
use Rattle.pc_type_rules.proofs.MadeSteps.{subrange-made}
use Rattle.pc_type_rules.proofs.subranges.subrange_over.Goals as goal

pub returns-in_ok-of-in-Some-clause-shows : goal.returns-in_ok-of-in-Some-clause-shows
returns-in_ok-of-in-Some-clause-shows c = λ d t def h.
    subrange-made _ _ c.args.here c.in-Some.host _ _ d t c.args.low c.args.high _ _ c.in-Some.is (to_z-of_z c.ranges.low) (to_z-of_z c.ranges.high) c.in_ok-of-in-Some.ensures.shows def h
