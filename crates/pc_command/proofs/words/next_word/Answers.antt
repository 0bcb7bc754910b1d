use Rattle.std.proofs.Common.{◌≡◌, ◌<◌, length, arith}
use Rattle.std.proofs.lemmas.Bool.Decides.{nat_tests}
use Rattle.pc_command.specs.Words.{first_word}
use Rattle.pc_command.proofs.WordSteps.{words_of-none, words_of-next}
use Rattle.pc_command.proofs.words.next_word.Goals as goal

pub returns-then-is_empty : goal.returns-then-is_empty
returns-then-is_empty c =
    let line = c.args.line.now in
    let bytes = rw c.first_word.ensures.word at c.is_empty.ensures in
    let none : length (first_word line) ≡ 0 = grind (arith, nat_tests) in
    words_of-none line none

pub returns : goal.returns
returns c =
    let line = c.args.line.now in
    let bytes = rw c.first_word.ensures.word at c.is_empty.ensures in
    let some : 0 < length (first_word line) = grind (arith, nat_tests) in
    rw (c.first_word.ensures.word, c.first_word.ensures.rest) (words_of-next line some)
