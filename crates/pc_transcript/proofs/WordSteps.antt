-- The commands of a run without words are those of its script.
use Rattle.std.proofs.Common.{◌≡◌, List, [], refl, subst, sym, ℕ, Bool}
use Rattle.pc_script.specs.Ahead.{Ahead}
use Rattle.pc_script.specs.Script.{commands_in}
use Rattle.pc_script.specs.declared.given.Given.{Given}
use Rattle.pc_transcript.specs.Words.{commands_with}

without_words : (Word : Type 0) → commands_with {Word = Word} [] ≡ commands_in
unfolding commands_with
without_words Word = refl

pub commands_with-none : {Word : Type 0} (words : List Word) → words ≡ [] → commands_with words ≡ commands_in
commands_with-none {Word = Word} words none =
    let P : List Word → Type 0 = λ ws. commands_with ws ≡ commands_in in
    subst P (sym none) (without_words Word)
