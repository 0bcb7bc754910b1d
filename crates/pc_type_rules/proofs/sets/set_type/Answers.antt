use Rattle.std.proofs.Common.{◌∙◌}
use Rattle.pc_type_rules.specs.ExtendsLaws.{definition_in-extends, Extends-then}
use Rattle.pc_type_rules.proofs.sets.set_type.Goals as goal

pub returns-clause-shows : goal.returns-clause-shows
returns-clause-shows c = λ d ty def h. c.in_ok-whole.ensures.shows d ty (definition_in-extends _ _ c.args.here c.in_ok-number.ensures.extended c.requires ∙ def) (c.in_ok-number.ensures.number ty h)

pub returns-clause-extended : goal.returns-clause-extended
returns-clause-extended c = Extends-then _ _ _ c.in_ok-number.ensures.extended c.in_ok-whole.ensures.extended
