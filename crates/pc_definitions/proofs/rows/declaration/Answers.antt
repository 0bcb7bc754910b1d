use Rattle.std.proofs.Common.{[], ◌∷◌, ◌++◌, ap, ◌∙◌}
use Rattle.pc_rules.specs.Attributes.{at_kid}
use Rattle.pc_facts.specs.Shows.{value_of}
use Rattle.pc_definitions.specs.RuleLaws.{shows-declaration, hole-of-two, entries-of-two}
use Rattle.pc_definitions.proofs.rows.declaration.Goals as goal

pub returns : goal.returns
returns c = λ k w a b es ds hole own part.
    let all = at_kid 1 es ++ at_kid 2 b.at.as_value.entries in
    shows-declaration k c.statement.result c.args.kind w (a ∷ b ∷ []) all [] ds
    (c.statement.ensures k w (a ∷ b ∷ []) all [] (hole-of-two a b c.args.hole c.args.part.hole c.either-open.result hole part.hole c.either-open.ensures)
    (entries-of-two c.new-entries.result.items c.add_kid.new.entries.items c.add_kid-2.new.entries.items c.args.own.items es (value_of c.args.part.judgement).entries.items b.at.as_value.entries
    c.new-entries.ensures.items c.in_ok-add_kid.ensures (c.in_ok-add_kid-2.ensures ∙ ap (λ j. c.add_kid.new.entries.items ++ at_kid 2 j.entries.items) c.into_value.ensures) own part.value.entries))
