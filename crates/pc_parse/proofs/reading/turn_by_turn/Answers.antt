use Rattle.std.proofs.Common.{◌-◌, length, ap, arith}
use Rattle.pc_parse.specs.Reading.{class_of}
use Rattle.pc_parse.specs.Views.{stack, state_view, outcome_view}
use Rattle.pc_parse.proofs.Loop.{turn, moved, moved_less, took_one, took, took_less, buildable, found, missed, length-plain_symbols}
use Rattle.pc_parse.proofs.reading.turn_by_turn.Goals as goal

pub step-requires : goal.step-requires
step-requires c = buildable _ _ c.reading.position _ _ c.requires c.reading.invariant.reached

pub reading-smaller-in-Moved : goal.reading-smaller-in-Moved
reading-smaller-in-Moved c =
    let t =
    turn (class_of c.args.sort) c.class_of-root.result c.args.symbols.now c.reading.at (state_view c.reading.position (stack c.reading.below.items))
    (outcome_view c.in-Ok.outcome (stack c.step.new.below.items)) c.next_lexeme-next.result c.next_word-word.result.now c.rest_of-rest.result.now
    c.reading.invariant.reached c.in-Ok.ensures c.reading.invariant.root c.next_lexeme-next.ensures c.next_word-word.ensures c.rest_of-rest.ensures in
    moved_less t (state_view c.in-Moved.to (stack c.step.new.below.items)) (length c.args.symbols.now - c.reading.at) (ap (λ o. outcome_view o (stack c.step.new.below.items)) c.in-Moved.is)

pub reading-preserved-in-Moved : goal.reading-preserved-in-Moved
reading-preserved-in-Moved c =
    let t =
    turn (class_of c.args.sort) c.class_of-root.result c.args.symbols.now c.reading.at (state_view c.reading.position (stack c.reading.below.items))
    (outcome_view c.in-Ok.outcome (stack c.step.new.below.items)) c.next_lexeme-next.result c.next_word-word.result.now c.rest_of-rest.result.now
    c.reading.invariant.reached c.in-Ok.ensures c.reading.invariant.root c.next_lexeme-next.ensures c.next_word-word.ensures c.rest_of-rest.ensures in
    record { root = c.reading.invariant.root; reached = moved t (state_view c.in-Moved.to (stack c.step.new.below.items)) (ap (λ o. outcome_view o (stack c.step.new.below.items)) c.in-Moved.is); within = c.reading.invariant.within }

pub reading-smaller : goal.reading-smaller
reading-smaller c =
    let t =
    turn (class_of c.args.sort) c.class_of-root.result c.args.symbols.now c.reading.at (state_view c.reading.position (stack c.reading.below.items))
    (outcome_view c.in-Ok.outcome (stack c.step.new.below.items)) c.next_lexeme-next.result c.next_word-word.result.now c.rest_of-rest.result.now
    c.reading.invariant.reached c.in-Ok.ensures c.reading.invariant.root c.next_lexeme-next.ensures c.next_word-word.ensures c.rest_of-rest.ensures in
    took_less t (state_view c.in-Took.to (stack c.step.new.below.items)) (ap (λ o. outcome_view o (stack c.step.new.below.items)) c.in-Took.is)

pub reading-preserved : goal.reading-preserved
reading-preserved c =
    let t =
    turn (class_of c.args.sort) c.class_of-root.result c.args.symbols.now c.reading.at (state_view c.reading.position (stack c.reading.below.items))
    (outcome_view c.in-Ok.outcome (stack c.step.new.below.items)) c.next_lexeme-next.result c.next_word-word.result.now c.rest_of-rest.result.now
    c.reading.invariant.reached c.in-Ok.ensures c.reading.invariant.root c.next_lexeme-next.ensures c.next_word-word.ensures c.rest_of-rest.ensures in
    let lt = took_one t (state_view c.in-Took.to (stack c.step.new.below.items)) (ap (λ o. outcome_view o (stack c.step.new.below.items)) c.in-Took.is) in
    record { root = c.reading.invariant.root; reached = took t (state_view c.in-Took.to (stack c.step.new.below.items)) (ap (λ o. outcome_view o (stack c.step.new.below.items)) c.in-Took.is); within = omega (arith, lt) }

pub returns-in-Accepted : goal.returns-in-Accepted
returns-in-Accepted c =
    let t =
    turn (class_of c.args.sort) c.class_of-root.result c.args.symbols.now c.reading.at (state_view c.reading.position (stack c.reading.below.items))
    (outcome_view c.in-Ok.outcome (stack c.step.new.below.items)) c.next_lexeme-next.result c.next_word-word.result.now c.rest_of-rest.result.now
    c.reading.invariant.reached c.in-Ok.ensures c.reading.invariant.root c.next_lexeme-next.ensures c.next_word-word.ensures c.rest_of-rest.ensures in
    record { within = omega (arith, length-plain_symbols c.args.symbols.now, c.reading.invariant.within); ends = found c.args.sort c.args.symbols.now c.reading.at _ _ c.in-Accepted.cut c.requires c.reading.invariant.within t (ap (λ o. outcome_view o (stack c.step.new.below.items)) c.in-Accepted.is) }

pub returns-in-Refused : goal.returns-in-Refused
returns-in-Refused c =
    let t =
    turn (class_of c.args.sort) c.class_of-root.result c.args.symbols.now c.reading.at (state_view c.reading.position (stack c.reading.below.items))
    (outcome_view c.in-Ok.outcome (stack c.step.new.below.items)) c.next_lexeme-next.result c.next_word-word.result.now c.rest_of-rest.result.now
    c.reading.invariant.reached c.in-Ok.ensures c.reading.invariant.root c.next_lexeme-next.ensures c.next_word-word.ensures c.rest_of-rest.ensures in
    record { within = omega (arith, length-plain_symbols c.args.symbols.now, c.reading.invariant.within); ends = missed c.args.sort c.args.symbols.now c.reading.at _ _ c.requires c.reading.invariant.within t (ap (λ o. outcome_view o (stack c.step.new.below.items)) c.in-Refused.is) }
