use Rattle.std.proofs.Common.{Bool, not, ◌&&◌, ap, ◌∙◌}
use Rattle.std.specs.Option.{is_some}
use Rattle.pc_rules.specs.Declarations.{heading_here}
use Rattle.pc_routines.specs.Bare.{is_given, is_typed, first_word, routine_notes}
use Rattle.pc_routines.specs.RoutineLaws.{routine-shown, copied-some}
use Rattle.pc_routines.proofs.routine_at.routine.Goals as goal

pub returns : goal.returns
returns c = λ owner out l fs at is shows rest waits.
    let x = c.args.head.now in
    let node = c.args.node.now in
    let some = c.is_some-named.ensures in
    let typed = c.is_typed.ensures ∙ ap is_typed c.kind-kind.ensures.value in
    let late = c.is_some-waits.ensures ∙ copied-some c.find.result ∙ ap (λ o. is_some o) c.find.ensures.found in
    routine-shown c.args.tables.now c.args.waiting.now out l node x fs _ c.stands_before-passed.result c.requires c.kind-kind.ensures.proper is shows rest waits
    (c.stands_before-passed.ensures owner out l (heading_here l).name shows.name at)
    (c.both-later.ensures ∙ ap (λ (b : Bool). not x.is_forward && b) late)
    (c.both-first.ensures ∙ (λ i. c.both.ensures i && not c.stands_before-passed.result) ∙ ap (λ (b : Bool). not c.both-later.result && b && not c.stands_before-passed.result) some)
    (c.in_ok-entries.ensures
    ∙ (λ i. routine_notes c.both-later.result (c.is_given.ensures i) c.stands_before-passed.result (c.both-untyped.ensures i) (c.both-unfinished.ensures i) (c.first_word.ensures i))
    ∙ (λ i. routine_notes c.both-later.result (is_given node.kind node.kids) c.stands_before-passed.result (not (typed i) && some i) (c.both-2.ensures i && not x.has_later) (first_word node.kids))
    ∙ (λ i. routine_notes c.both-later.result (is_given node.kind node.kids) c.stands_before-passed.result (not (is_typed node.kind) && is_some x.name) (x.is_forward && some i && not x.has_later) (first_word node.kids)))
