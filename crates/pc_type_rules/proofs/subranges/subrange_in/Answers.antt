use Rattle.std.proofs.Common.{◌∙◌, Some, ap}
use Rattle.std.proofs.Math.Facts.{to_z-of_z}
use Rattle.pc_rules.specs.Denoters.{typed}
use Rattle.pc_type_rules.proofs.NumberSteps.{one-some}
use Rattle.pc_type_rules.proofs.MadeSteps.{same-bounds}
use Rattle.pc_type_rules.specs.ExtendsLaws.{definition_in-extends, Extends-then}
use Rattle.pc_type_rules.proofs.subranges.subrange_in.Goals as goal

pub returns-clause-shows : goal.returns-clause-shows
returns-clause-shows c = λ d t def shape there.
    same-bounds _ _ d t c.args.low c.args.high _ _ (to_z-of_z c.ranges.low) (to_z-of_z c.ranges.high)
    (c.in_ok-of.ensures.shows d (typed t) (definition_in-extends _ _ c.args.here c.in_ok-number.ensures.extended c.requires ∙ def)
    (c.in_ok-number.ensures.number (Some (typed t)) (record { shape = ap Some shape; there = one-some _ _ there })))

pub returns-clause-extended : goal.returns-clause-extended
returns-clause-extended c = Extends-then _ _ _ c.in_ok-number.ensures.extended c.in_ok-of.ensures.extended
