-- Names and key words (ISO 7185, 6.1.2 and 6.1.3).
use Rattle.std.specs.Prelude.{ℕ, ◌+◌, if◌then◌else◌, List, [], ◌∷◌, Option, Some, None, take}
use Rattle.std.specs.Str.{bytes_eq}
use Rattle.pc_syntax.specs.Spellings.{key_words}
use Rattle.pc_syntax.specs.Words.{is_name_byte, lowered}
use Rattle.pc_lex.specs.declared.symbol.SymbolKind.{SymbolKind}
use Rattle.pc_lex.specs.declared.symbol.SymbolKind.TheVariants.{Key, Name}
use Rattle.pc_lex.specs.declared.front.Front.{Front}
use Rattle.pc_lex.specs.declared.front.Front.TheVariants.{Symbol}
use Rattle.pc_lex.specs.Runs.{run}

-- the row of a word in a list whose first row has this number
abbrev pub row_from : ℕ → List (List ℕ) → List ℕ → Option ℕ
row_from n [] w = None
row_from n (x ∷ xs) w = if bytes_eq x w then Some n else row_from (n + 1) xs w

-- a key word where there is a row, and else a name
abbrev pub key_or_name : Option ℕ → SymbolKind
key_or_name None = Name
key_or_name (Some row) = Key row

-- a word with the form of a name is a key word where it stands in their list, in any case, and else a name
unfoldable pub kind_of_word : List ℕ → SymbolKind
kind_of_word w = key_or_name (row_from 1 key_words (lowered w))

-- a letter stands here: all the letters, digits and `_` from it on are one word
unfoldable pub name_at : List ℕ → Front
name_at bs = Symbol (kind_of_word (take (run is_name_byte bs) bs)) (run is_name_byte bs)
