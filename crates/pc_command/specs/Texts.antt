-- The texts of refusals.
use Rattle.std.specs.Prelude.{ℕ, List, ◌++◌, ◌==◌, if◌then◌else◌, codes}
use Rattle.std.specs.Fmt.{decimal}
use Rattle.pc_lex.specs.declared.error.LexError.{LexError}
use Rattle.pc_lex.specs.declared.error.LexError.TheVariants as lex
use Rattle.pc_command.specs.declared.refusal.Refusal.{Refusal}
use Rattle.pc_command.specs.declared.refusal.Refusal.TheVariants as refusal
use Rattle.pc_command.specs.declared.error.CommandError.{CommandError}
use Rattle.pc_command.specs.declared.error.CommandError.TheVariants as error

-- Why a text spells no symbols.
abbrev pub fault_text : LexError → List ℕ
fault_text (lex.BadByte byte) = codes "bad character at byte " ++ decimal byte
fault_text (lex.OpenComment byte) = codes "comment not closed at byte " ++ decimal byte
fault_text (lex.OpenString byte) = codes "string not closed at byte " ++ decimal byte
fault_text (lex.EmptyString byte) = codes "empty string at byte " ++ decimal byte
fault_text (lex.LongNumeral byte) = codes "number too long at byte " ++ decimal byte
fault_text lex.NoMemory = codes "no memory"

-- Why a command isn't done.
abbrev pub refusal_text : Refusal → List ℕ
refusal_text refusal.BadRange = codes "bad range"
refusal_text refusal.NoPlace = codes "no such place"
refusal_text refusal.NoTemplate = codes "no such template"
refusal_text (refusal.Lex fault) = fault_text fault
refusal_text (refusal.NotFit symbol) = if symbol == 0 then codes "does not fit here" else codes "does not fit at symbol " ++ decimal symbol
refusal_text (refusal.TooDeep depth) = codes "too deep " ++ decimal depth
refusal_text (refusal.TooLarge size) = codes "too large " ++ decimal size
refusal_text refusal.NothingToUndo = codes "nothing to undo"
refusal_text refusal.NothingToRedo = codes "nothing to redo"
refusal_text refusal.NoMemory = codes "no memory"

-- Why a line is no command.
abbrev pub error_text : CommandError → List ℕ
error_text error.TooLong = codes "too long"
error_text error.Unknown = codes "unknown command"
error_text error.NotBuilt = codes "not built yet"
error_text error.BadNumber = codes "bad number"
error_text error.BadPath = codes "bad path"
error_text error.Missing = codes "missing"
error_text error.Extra = codes "extra"
error_text error.NoMemory = codes "no memory"
