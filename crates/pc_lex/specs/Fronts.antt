-- What stands at the beginning of a text.
use Rattle.std.specs.Prelude.{◌≡◌, ℕ, ◌<◌, ◌≤◌, Bool, ◌||◌, ◌==◌, if◌then◌else◌, List, [], ◌∷◌, drop}
use Rattle.pc_syntax.specs.Words.{is_letter, is_digit}
use Rattle.pc_lex.specs.declared.front.Front.{Front}
use Rattle.pc_lex.specs.declared.front.Front.TheVariants.{End, Blank, Comment, Symbol, Fault}
use Rattle.pc_lex.specs.declared.error.LexError.{LexError}
use Rattle.pc_lex.specs.declared.error.LexError.TheVariants.{BadByte, OpenComment, OpenString, EmptyString, LongNumeral, NoMemory}
use Rattle.pc_lex.specs.Comments.{opens_by_star, comment_after}
use Rattle.pc_lex.specs.Names.{name_at}
use Rattle.pc_lex.specs.Numerals.{numeral_at}
use Rattle.pc_lex.specs.Quoted.{text_after}
use Rattle.pc_lex.specs.Holes.{hole_at}
use Rattle.pc_lex.specs.Marks.{mark_at}

-- a byte that separates symbols: a tab, a line feed, a form feed, a carriage return or a space
abbrev pub is_blank : ℕ → Bool
is_blank b = b == 32 || b == 10 || b == 9 || b == 13 || b == 12

-- what stands at the beginning of a text, by its first byte: nothing, white space, a comment that `{` or `(*` opens,
-- a word, a numeral, a text, a hole, or else a mark
unfoldable pub front : List ℕ → Front
front [] = End
front (b ∷ bs) =
    if is_blank b then Blank
    else if b == 123 then comment_after 1 bs
    else if opens_by_star (b ∷ bs) then comment_after 2 (drop 1 bs)
    else if is_letter b then name_at (b ∷ bs)
    else if is_digit b then numeral_at (b ∷ bs)
    else if b == 39 then text_after 1 bs
    else if b == 63 then hole_at bs
    else mark_at (b ∷ bs)

-- the number of the byte that a fault names
abbrev pub byte_of : LexError → ℕ
byte_of (BadByte k) = k
byte_of (OpenComment k) = k
byte_of (OpenString k) = k
byte_of (EmptyString k) = k
byte_of (LongNumeral k) = k
byte_of NoMemory = 0

-- it has a length, which is at most that of the text, and its fault stands in the text; only an empty text has nothing
unfoldable pub Within : Front → ℕ → Type 0
Within End size = size ≡ 0
Within Blank size = 0 < size
Within (Comment n) size = (0 < n) × (n ≤ size)
Within (Symbol k n) size = (0 < n) × (n ≤ size)
Within (Fault e) size = byte_of e ≤ size
