use Rattle.pc_type_rules.proofs.SubrangeSteps.{between-shown}
use Rattle.pc_type_rules.proofs.subranges.subrange_between.Goals as goal

pub returns-in_ok-of-in-Some-Some-clause-shows : goal.returns-in_ok-of-in-Some-Some-clause-shows
returns-in_ok-of-in-Some-Some-clause-shows c = λ k d a b table def x y.
    between-shown k _ _ _ d c.in-Some-Some.low c.in-Some-Some.high _ _ a b c.in-Some-Some.is-0 c.in-Some-Some.is-1 table
    (λ s p q shape there e f. c.in_ok-of-in-Some-Some.ensures.shows k d s p q def shape there e f) x y
