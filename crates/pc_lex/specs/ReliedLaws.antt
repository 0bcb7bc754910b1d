-- The symbols that a text spells are proper, and its notes are comments: lemmas.
use Rattle.std.specs.Prelude.{◌≡◌, ℕ, ◌+◌, ◌-◌, Bool, true, false, List, [], ◌∷◌, drop, take, slice_range}
use Rattle.std.proofs.Common.{refl, zero, suc, get_or, arith}
use Rattle.std.proofs.lemmas.Bool.{and_parts}
use Rattle.std.specs.List.{list_all}
use Rattle.pc_syntax.specs.declared.lexeme.Lexeme.{Lexeme}
use Rattle.pc_syntax.specs.declared.lexeme.Lexeme.TheVariants as lexeme
use Rattle.pc_syntax.specs.Words.{is_comment}
use Rattle.pc_lex.specs.declared.symbol.Span.{Span}
use Rattle.pc_lex.specs.declared.symbol.SymbolKind.{SymbolKind}
use Rattle.pc_lex.specs.declared.symbol.SymbolKind.TheVariants.{Key, Mark, Name, Numeral, Text, Hole}
use Rattle.pc_lex.specs.Spells.{PlainSymbol, IsComment, Gap, IsSymbol, Leads, Spells}
use Rattle.pc_lex.specs.Views.{key_lexemes, mark_lexemes, lexeme_of, kept, sym_of, syms}
use Rattle.pc_lex.specs.Proper.{IsProper, Proper, IsWord, AreComments, AreNoted}
use Rattle.pc_lex.specs.SpelledLaws.{front_spelled}

-- the lexeme keeps no spelling
is_fixed : Lexeme → Bool
is_fixed lexeme.Identifier = false
is_fixed lexeme.Numeral = false
is_fixed lexeme.Text = false
is_fixed _ = true

fixed_proper : (x : Lexeme) → is_fixed x ≡ true → IsProper x []
unfolding is_fixed
fixed_proper lexeme.Identifier h = cc
fixed_proper lexeme.Numeral h = cc
fixed_proper lexeme.Text h = cc
fixed_proper _ h = refl

table_proper : (xs : List Lexeme) (i : ℕ) (d : Lexeme) → list_all is_fixed xs ≡ true → is_fixed d ≡ true → IsProper (get_or xs i d) []
table_proper [] i d h e = fixed_proper d e
table_proper (x ∷ xs) zero d h e = fixed_proper x (and_parts (is_fixed x) (list_all is_fixed xs) h).0
table_proper (x ∷ xs) (suc i) d h e = table_proper xs i d (and_parts (is_fixed x) (list_all is_fixed xs) h).1 e

word_proper : (kind : SymbolKind) (w : List ℕ) → IsWord kind w → IsProper (lexeme_of kind) (kept kind w)
unfolding lexeme_of kept is_fixed
word_proper (Key row) w h = table_proper key_lexemes (row - 1) lexeme.KeyAnd refl refl
word_proper (Mark row) w h = table_proper mark_lexemes (row - 1) lexeme.Plus refl refl
word_proper Name w h = h
word_proper Numeral w h = h
word_proper Text w h = h
word_proper (Hole s) w h = refl

-- the part of a text that begins at a place and has this length
part_is : (text : List ℕ) (from to len : ℕ) → to ≡ from + len → slice_range text from to ≡ take len (drop from text)
part_is text from to len e = let size : to - from ≡ len = omega arith in rw size refl

-- a symbol of a text is proper
pub IsSymbol-proper : (text : List ℕ) (s : PlainSymbol) → IsSymbol text s → IsProper (sym_of s).lexeme (sym_of s).spelling
IsSymbol-proper text s is =
    let word : IsWord s.kind (take is.len (drop s.span.from text)) = rw is.stands at (front_spelled (drop s.span.from text)) in
    let spelled : IsWord s.kind s.spelling = rw (is.written, part_is text s.span.from s.span.to is.len is.ends) word in
    word_proper s.kind s.spelling spelled

-- a note of a text is a comment
pub IsComment-comment : (text : List ℕ) (n : Span) → IsComment text n → is_comment (slice_range text n.from n.to) ≡ true
IsComment-comment text n is =
    let word : is_comment (take is.len (drop n.from text)) ≡ true = rw is.stands at (front_spelled (drop n.from text)) in
    rw (part_is text n.from n.to is.len is.ends) word

-- the notes between two places are comments
pub Gap-comments : (text : List ℕ) (from to : ℕ) (notes : List Span) → Gap text from to notes → AreComments text notes
unfolding Gap
Gap-comments text from to [] gap = tt
Gap-comments text from to (n ∷ ns) gap = (IsComment-comment text n gap.1, Gap-comments text n.to to ns gap.2)

Leads-proper : (text : List ℕ) (from to : ℕ) (ss : List PlainSymbol) → Leads text from ss to → Proper (syms ss)
unfolding Leads
Leads-proper text from to [] leads = tt
Leads-proper text from to (s ∷ ss) leads = (IsSymbol-proper text s leads.1, Leads-proper text s.span.to to ss leads.2)

Leads-comments : (text : List ℕ) (from to : ℕ) (ss : List PlainSymbol) → Leads text from ss to → AreNoted text ss
unfolding Leads
Leads-comments text from to [] leads = tt
Leads-comments text from to (s ∷ ss) leads = (Gap-comments text from s.span.from s.notes leads.0, Leads-comments text s.span.to to ss leads.2)

-- the names, numerals and texts that a text spells have the form of such
pub Spells-proper : (text : List ℕ) (ss : List PlainSymbol) (tail : List Span) → Spells text ss tail → Proper (syms ss)
Spells-proper text ss tail spells = Leads-proper text 0 spells.last ss spells.leads

-- the notes of its symbols are comments
pub Spells-comments : (text : List ℕ) (ss : List PlainSymbol) (tail : List Span) → Spells text ss tail → AreNoted text ss
Spells-comments text ss tail spells = Leads-comments text 0 spells.last ss spells.leads
