use Rattle.std.proofs.Common.{ap}
use Rattle.pc_expression_rules.proofs.ConstantSteps.{constant-shown}
use Rattle.pc_expression_rules.proofs.constant_facts.constant_node.Goals as goal

pub returns : goal.returns
returns c = λ k w h es v is_hole same value.
    constant-shown k c.args.kind w h c.args.hole es c.args.entries.items c.args.value v _ _ _ _ _ is_hole same value
    c.value_of_parts-constant.ensures c.type_of_value.ensures (ap (λ x. x.items) c.of_parts-judged.ensures.entries) c.of_parts-judged.ensures.known
    c.nothing-place.ensures.entries c.nothing-place.ensures.known c.nothing-target.ensures.entries c.nothing-target.ensures.known
