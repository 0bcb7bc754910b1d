use Rattle.std.proofs.Common.{◌+◌, sym, ◌∙◌, refl, arith}
use Rattle.std.specs.List.{position_or_len}
use Rattle.std.proofs.lemmas.List.{take_rest, take_all, drop_all}
use Rattle.pc_command.specs.Words.{is_space, first_word, behind_word}
use Rattle.pc_command.proofs.WordSteps.{space_found, no_space}
use Rattle.pc_command.proofs.words.first_word.Goals as goal

pub returns-in-Some-clause-word : goal.returns-in-Some-clause-word
unfolding first_word
returns-in-Some-clause-word c =
    let place = space_found c.unindented-line.result.now _ (sym c.space_at.ensures ∙ c.in-Some.is) in
    rw (← c.unindented-line.ensures, place.1) refl

pub returns-in-Some-clause-rest : goal.returns-in-Some-clause-rest
unfolding behind_word
returns-in-Some-clause-rest c =
    let place = space_found c.unindented-line.result.now _ (sym c.space_at.ensures ∙ c.in-Some.is) in
    rw (take_rest, ← c.unindented-line.ensures, place.1) refl

pub returns-in-None-clause-word : goal.returns-in-None-clause-word
unfolding first_word
returns-in-None-clause-word c =
    let all = no_space c.unindented-line.result.now (sym c.space_at.ensures ∙ c.in-None.is) in
    rw (← c.unindented-line.ensures) (sym (take_all _ _ all))

pub returns-in-None-clause-rest : goal.returns-in-None-clause-rest
unfolding behind_word
returns-in-None-clause-rest c =
    let all = no_space c.unindented-line.result.now (sym c.space_at.ensures ∙ c.in-None.is) in
    rw (← c.unindented-line.ensures) (sym (drop_all (position_or_len is_space c.unindented-line.result.now + 1) c.unindented-line.result.now (omega (arith, all))))
