use Rattle.std.proofs.Common.{List, ◌++◌, ap, sym, ◌∙◌}
use Rattle.pc_rules.specs.Attributes.{Entry, at_kid}
use Rattle.pc_rules.specs.Routines.{bare}
use Rattle.pc_headings.specs.GroupLaws.{group-hole}
use Rattle.pc_headings.specs.PlaceLaws.{sees-there}
use Rattle.pc_headings.specs.RepeatedLaws.{repeated-value, repeated-reference, repeated-hole}
use Rattle.pc_headings.proofs.repeated.repeated_at.Goals as goal

pub returns-in_ok-add_kid-in-Valparam : goal.returns-in_ok-add_kid-in-Valparam
returns-in_ok-add_kid-in-Valparam c = λ k means o l table sees place.
    let node = c.args.node.now in
    let parts = c.value_group.result in
    let used = c.in_ok-used-in-Valparam.used in
    c.in_ok-add_kid-in-Valparam.ensures
    ∙ ap (λ (es : List Entry). es ++ at_kid 2 used.entries.items) c.new-entries.ensures.items
    ∙ repeated-value means o l node parts.0.now parts.1.now used.entries.items c.value_group.ensures.proper (sym c.kind.ensures.value ∙ c.in-Valparam.is) c.value_group.ensures.form place
    (λ m at using. (c.in_ok-used-in-Valparam.ensures k means m using table (sees-there k c.args.names.now c.args.declarations.now c.args.outer.0 means o m sees at)).entries)

pub returns-in_ok-add_kid-in-Varparam : goal.returns-in_ok-add_kid-in-Varparam
returns-in_ok-add_kid-in-Varparam c = λ k means o l table sees place.
    let node = c.args.node.now in
    let parts = c.variable_group.result in
    let used = c.in_ok-used-in-Varparam.used in
    c.in_ok-add_kid-in-Varparam.ensures
    ∙ ap (λ (es : List Entry). es ++ at_kid 2 used.entries.items) c.new-entries-in-Varparam.ensures.items
    ∙ repeated-reference means o l node parts.0.now parts.1.now used.entries.items c.variable_group.ensures.proper (sym c.kind.ensures.value ∙ c.in-Varparam.is) c.variable_group.ensures.form place
    (λ m at using. (c.in_ok-used-in-Varparam.ensures k means m using table (sees-there k c.args.names.now c.args.declarations.now c.args.outer.0 means o m sees at)).entries)

pub returns-in_default : goal.returns-in_default
returns-in_default c = λ k means o l table sees place.
    let node = c.args.node.now in
    let hole = group-hole node.kind c.requires.class (λ e. c.in_default.not-Valparam (c.kind.ensures.value ∙ e)) (λ e. c.in_default.not-Varparam (c.kind.ensures.value ∙ e)) in
    c.new.ensures.items ∙ repeated-hole (bare means) l node hole.0 hole.1
