-- Texts between apostrophes (ISO 7185, 6.1.7), read from left to right.
use Rattle.std.specs.Prelude.{ℕ, ◌+◌, ◌==◌, if◌then◌else◌, List, [], ◌∷◌}
use Rattle.pc_syntax.specs.Words.{is_text_byte}
use Rattle.pc_lex.specs.declared.error.LexError.TheVariants.{BadByte, OpenString, EmptyString}
use Rattle.pc_lex.specs.declared.symbol.SymbolKind.TheVariants.{Text}
use Rattle.pc_lex.specs.declared.front.Front.{Front}
use Rattle.pc_lex.specs.declared.front.Front.TheVariants.{Symbol, Fault}

-- an apostrophe ends the text, of which `n` bytes stand before it; after the opening one alone it is empty
abbrev pub ended : ℕ → Front
ended n = if n == 1 then Fault (EmptyString 1) else Symbol Text (n + 1)

-- a byte that is no apostrophe and may not stand in the text, after `n` bytes of it
abbrev pub broken : ℕ → ℕ → Front
broken n b = if b == 10 then Fault (OpenString 1) else Fault (BadByte (n + 1))

-- the text whose first `n` bytes, the opening apostrophe among them, stand before this rest:
-- two apostrophes are one byte of it, a single one ends it, and neither a line feed nor the end may come before
unfoldable pub text_after : ℕ → List ℕ → Front
text_after n [] = Fault (OpenString 1)
text_after n (b ∷ []) = if b == 39 then ended n else if is_text_byte b then Fault (OpenString 1) else broken n b
text_after n (b ∷ c ∷ bs) = if b == 39 then (if c == 39 then text_after (n + 2) bs else ended n) else if is_text_byte b then text_after (n + 1) (c ∷ bs) else broken n b
