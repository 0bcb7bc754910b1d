use Rattle.std.proofs.Common.{List, ◌++◌, ap, ◌∙◌}
use Rattle.pc_rules.specs.Attributes.{Entry, at_kid}
use Rattle.pc_headings.specs.ProgramLaws.{program-entries, program-none, program-hole-kind}
use Rattle.pc_headings.proofs.program.program_heading.Goals as goal

pub returns-in_ok-add_kid-in-Program : goal.returns-in_ok-add_kid-in-Program
returns-in_ok-add_kid-in-Program c = λ means o later.
    let own = c.in_ok-own-in-Program.own.items in
    program-entries means o later c.args.node.now c.program_part-heads.result.now own _ c.program_part-heads.ensures c.in_ok-own-in-Program.ensures
    (c.in_ok-add_kid-in-Program.ensures ∙ ap (λ (es : List Entry). es ++ at_kid 2 own) c.new-entries.ensures.items)

pub returns-in_default : goal.returns-in_default
returns-in_default c = λ means o later.
    let node = c.args.node.now in
    let hole = program-hole-kind node.kind c.requires (λ e. c.in_default.not-Program (c.kind.ensures.value ∙ e)) in
    c.new.ensures.items ∙ program-none means o later node hole.0 c.kind.ensures.proper hole.1
