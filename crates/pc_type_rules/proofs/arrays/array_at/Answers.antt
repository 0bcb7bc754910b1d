use Rattle.pc_rules.specs.StructuredTypes as rule
use Rattle.pc_type_rules.specs.ExtendsLaws.{ShowsType-extends}
use Rattle.pc_type_rules.proofs.ArraySteps.{IsNumber-extends, written-at, number-same}
use Rattle.pc_type_rules.proofs.arrays.array_at.Goals as goal

pub returns-clause-shows : goal.returns-clause-shows
returns-clause-shows c = λ d x y def h g.
    c.in_ok-whole.ensures.shows (rule.numbered d c.args.i) x y
    (written-at _ _ _ c.in_ok-written.written c.args.here.now c.args.i d c.in_ok-by.ensures.extended c.in_ok-of.ensures.extended c.in_ok-written.ensures.owner c.requires c.in_ok-written.ensures.definition def)
    (number-same _ _ _ x c.where_there-known.ensures.same (IsNumber-extends _ _ _ x c.in_ok-of.ensures.extended (c.in_ok-by.ensures.number x h)))
    (c.in_ok-of.ensures.number y (ShowsType-extends _ _ _ y c.in_ok-by.ensures.extended g))
