-- What is found while a text is read.
use Rattle.std.specs.Prelude.{◌≡◌, ℕ, List, Result, Ok, Err}
use Rattle.pc_lex.specs.declared.symbol.Lexed.{Lexed}
use Rattle.pc_lex.specs.Views.{IsLexed}
use Rattle.pc_lex.specs.declared.error.LexError.{LexError}
use Rattle.pc_lex.specs.declared.error.LexError.TheVariants.{BadByte, OpenComment, OpenString, EmptyString, LongNumeral, NoMemory}
use Rattle.pc_parse.specs.declared.error.ParseError.{ParseError}
use Rattle.pc_parse.specs.declared.error.ParseError.TheVariants as parse
use Rattle.pc_partial.specs.declared.error.RetypeError.{RetypeError}
use Rattle.pc_partial.specs.declared.error.RetypeError.TheVariants as retype
use Rattle.pc_command.specs.declared.refusal.Refusal.{Refusal}
use Rattle.pc_command.specs.declared.refusal.Refusal.TheVariants as refusal
use Rattle.pc_session.specs.Loading.{IsFaulty}

-- The refusal of a whole program whose symbols are refused so.
abbrev pub misread : ParseError → Refusal
misread (parse.NotFit number) = refusal.NotFit number
misread (parse.TooDeep depth) = refusal.TooDeep depth
misread (parse.TooLarge size) = refusal.TooLarge size
misread parse.NoMemory = refusal.NoMemory

-- The refusal of a text with a range replaced that is refused so.
abbrev pub unretyped : RetypeError → Refusal
unretyped retype.BadRange = refusal.BadRange
unretyped (retype.Lex fault) = refusal.Lex fault
unretyped (retype.NotFit number) = refusal.NotFit number
unretyped (retype.TooDeep depth) = refusal.TooDeep depth
unretyped (retype.TooLarge size) = refusal.TooLarge size
unretyped retype.NoMemory = refusal.NoMemory

-- The refusal of a text with this fault.
abbrev pub unspelled : LexError → Refusal
unspelled (BadByte byte) = refusal.Lex (BadByte byte)
unspelled (OpenComment byte) = refusal.Lex (OpenComment byte)
unspelled (OpenString byte) = refusal.Lex (OpenString byte)
unspelled (EmptyString byte) = refusal.Lex (EmptyString byte)
unspelled (LongNumeral byte) = refusal.Lex (LongNumeral byte)
unspelled NoMemory = refusal.NoMemory

-- What may be found to be the symbols of a text; want of memory may always come.
abbrev pub FindsSymbols : List ℕ → Result Lexed Refusal → Type 0
FindsSymbols text (Ok lexed) = (lexed.text.now ≡ text) × IsLexed lexed
FindsSymbols text (Err (refusal.Lex fault)) = IsFaulty text fault
FindsSymbols text (Err refusal.NoMemory) = Unit {0}
FindsSymbols text (Err _) = ⊥
