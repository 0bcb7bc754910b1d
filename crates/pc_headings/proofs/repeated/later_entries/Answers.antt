use Rattle.std.proofs.Common.{List, ◌++◌, ap, sym, ◌∙◌}
use Rattle.pc_rules.specs.Attributes.{Entry, at_kid}
use Rattle.pc_headings.specs.PlaceLaws.{sees-there}
use Rattle.pc_headings.specs.RepeatedLaws.{later-procedure, later-function, later-funbody}
use Rattle.pc_headings.specs.FunbodyLaws.{funbody-kind}
use Rattle.pc_headings.proofs.repeated.later_entries.Goals as goal

pub returns-in_ok-add_kid-in-Procedure : goal.returns-in_ok-add_kid-in-Procedure
returns-in_ok-add_kid-in-Procedure c = λ k means o table sees.
    let own = c.in_ok-own-in-Procedure.own.items in
    later-procedure means o c.args.node.now c.procedure_part-params.result.now own _ (sym c.kind.ensures.value ∙ c.in-Procedure.is) c.procedure_part-params.ensures
    (λ l place. c.in_ok-own-in-Procedure.ensures k means o l table sees place)
    (c.in_ok-add_kid-in-Procedure.ensures ∙ ap (λ (es : List Entry). es ++ at_kid 2 own) c.new-entries.ensures.items)

pub returns-in_ok-add_kid-in-Function-2 : goal.returns-in_ok-add_kid-in-Function-2
returns-in_ok-add_kid-in-Function-2 c = λ k means o table sees.
    let own = c.in_ok-own-in-Function.own.items in
    let used = c.in_ok-used-in-Function.used in
    let parts = c.function_parts.result in
    later-function means o c.args.node.now parts.0.now parts.1.now own used.entries.items _ (sym c.kind.ensures.value ∙ c.in-Function.is) c.function_parts.ensures
    (λ l place. c.in_ok-own-in-Function.ensures k means o l table sees place)
    (λ l place using. (c.in_ok-used-in-Function.ensures k means l using table (sees-there k c.args.names.now c.args.declarations.now c.args.outer.0 means o l sees place)).entries)
    (c.in_ok-add_kid-in-Function-2.ensures ∙ ap (λ (es : List Entry). es ++ at_kid 3 used.entries.items) (c.in_ok-add_kid-in-Function.ensures ∙ ap (λ (es : List Entry). es ++ at_kid 2 own) c.new-entries-in-Function.ensures.items))

pub returns-in_default : goal.returns-in_default
returns-in_default c = λ k means o table sees.
    let node = c.args.node.now in
    c.new.ensures.items
    ∙ later-funbody means o node (funbody-kind node.kind c.requires.routine (λ e. c.in_default.not-Procedure (c.kind.ensures.value ∙ e)) (λ e. c.in_default.not-Function (c.kind.ensures.value ∙ e)))
