-- The comments of a text that was lexed.
use Rattle.std.proofs.Common.{◌≡◌, ℕ, zero, suc, ◌+◌, ◌-◌, ◌<◌, ◌≤◌, Bool, true, false, if◌then◌else◌, List, [], ◌∷◌, map, length, take, drop, get_or, refl, ap, sym, ◌∙◌, arith, length-drop}
use Rattle.std.specs.List.{All, list_all}
use Rattle.std.proofs.lemmas.Bool.{and_from}
use Rattle.std.proofs.lemmas.List.{length-map}
use Rattle.pc_syntax.specs.Words.{is_comment}
use Rattle.pc_lex.specs.declared.symbol.Span.{Span}
use Rattle.pc_lex.specs.declared.symbol.Symbol.{Symbol}
use Rattle.pc_lex.specs.declared.symbol.Lexed.{Lexed}
use Rattle.pc_lex.specs.declared.front.Front.TheVariants.{Comment}
use Rattle.pc_lex.specs.Fronts.{Within}
use Rattle.pc_lex.specs.LengthLaws.{front_within}
use Rattle.pc_lex.specs.ReliedLaws.{IsComment-comment}
use Rattle.pc_lex.specs.Spells.{PlainSymbol, IsComment, Gap, Leads}
use Rattle.pc_lex.specs.Views.{IsLexed, plain_symbols}
use Rattle.pc_layout.specs.Noted.{Notes, first_notes, keeps_notes, own_notes}
use Rattle.pc_syntax.specs.declared.kind.Kind.{Kind}
use Rattle.pc_layout.specs.NotedLaws.{are_comments, weight}
use Rattle.pc_parse.specs.Comments.{bytes_at, symbol_notes, notes_of_lexed, comments_in, IsNote}

-- each of these spans is that of a comment of the text
abbrev pub AreNotes : List ℕ → List Span → Type 0
AreNotes text [] = Unit {0}
AreNotes text (n ∷ ns) = IsNote text n × AreNotes text ns

-- the same of the comments before each symbol
abbrev pub AreNoted : List ℕ → List PlainSymbol → Type 0
AreNoted text [] = Unit {0}
AreNoted text (s ∷ ss) = AreNotes text s.notes × AreNoted text ss

comment_len : (text : List ℕ) (n : Span) (is : IsComment text n) → (0 < is.len) × (is.len ≤ length text - n.from)
unfolding Within
comment_len text n is =
    let h : Within (Comment is.len) (length (drop n.from text)) = rw is.stands at (front_within (drop n.from text)) in
    (h.0, omega (arith, h.1, length-drop n.from text))

is_note : (text : List ℕ) (n : Span) → IsComment text n → IsNote text n
is_note text n is =
    let l = comment_len text n is in
    record { ordered = omega (arith, is.ends); within = omega (arith, is.ends, l.0, l.1); comment = IsComment-comment text n is }

gap_notes : (text : List ℕ) (from to : ℕ) (ns : List Span) → Gap text from to ns → AreNotes text ns
unfolding Gap
gap_notes text from to [] g = tt
gap_notes text from to (n ∷ ns) g = (is_note text n g.1, gap_notes text n.to to ns g.2)

leads_noted : (text : List ℕ) (from to : ℕ) (ss : List PlainSymbol) → Leads text from ss to → AreNoted text ss
unfolding Leads
leads_noted text from to [] l = tt
leads_noted text from to (s ∷ ss) l = (gap_notes text from s.span.from s.notes l.0, leads_noted text s.span.to to ss l.2)

pub lexed_noted : (lexed : Lexed) → IsLexed lexed → AreNoted lexed.text.now (plain_symbols lexed.symbols.items)
lexed_noted lexed h = leads_noted lexed.text.now 0 h.last (plain_symbols lexed.symbols.items) h.leads

all_notes : (text : List ℕ) (ns : List Span) → AreNotes text ns → All (IsNote text) ns
all_notes text [] h k d l = absurd (omega arith)
all_notes text (n ∷ ns) h zero d l = h.0
all_notes text (n ∷ ns) h (suc k) d l = all_notes text ns h.1 k d (omega arith)

-- those before one symbol
pub symbol_noted : (text : List ℕ) (xs : List Symbol) (i : ℕ) (d : Symbol) → AreNoted text (plain_symbols xs) → i < length xs → All (IsNote text) (get_or xs i d).notes.items
symbol_noted text [] i d h l = absurd (omega arith)
symbol_noted text (x ∷ xs) zero d h l = all_notes text x.notes.items h.0
symbol_noted text (x ∷ xs) (suc i) d h l = symbol_noted text xs i d h.1 (omega arith)

-- and they are comments
spans_comments : (text : List ℕ) (ns : List Span) → AreNotes text ns → list_all is_comment (map (bytes_at text) ns) ≡ true
spans_comments text [] h = refl
spans_comments text (n ∷ ns) h = and_from _ _ h.0.comment (spans_comments text ns h.1)

symbols_comments : (text : List ℕ) (ss : List PlainSymbol) → AreNoted text ss → are_comments (symbol_notes text ss) ≡ true
symbols_comments text [] h = refl
symbols_comments text (s ∷ ss) h = and_from _ _ (spans_comments text s.notes h.0) (symbols_comments text ss h.1)

pub lexed_comments : (lexed : Lexed) → IsLexed lexed → are_comments (notes_of_lexed lexed) ≡ true
lexed_comments lexed h = symbols_comments lexed.text.now (plain_symbols lexed.symbols.items) (lexed_noted lexed h)

pub length-symbol_notes : (text : List ℕ) (xs : List Symbol) → length (symbol_notes text (plain_symbols xs)) ≡ length xs
length-symbol_notes text [] = refl
length-symbol_notes text (x ∷ xs) = omega (arith, length-symbol_notes text xs)

-- no more comments than bytes
gap_count : (text : List ℕ) (from to : ℕ) (ns : List Span) → Gap text from to ns → from + length ns ≤ to
unfolding Gap
gap_count text from to [] g = omega (arith, g.ordered)
gap_count text from to (n ∷ ns) g =
    let l = comment_len text n g.1 in
    omega (arith, g.0.ordered, l.0, g.1.ends, gap_count text n.to to ns g.2)

leads_count : (text : List ℕ) (from to end : ℕ) (ss : List PlainSymbol) (tail : List Span) → Leads text from ss to → Gap text to end tail → from + comments_in ss tail ≤ end
unfolding Leads comments_in
leads_count text from to end [] tail l g = let m : from + length tail ≤ end = rw l (gap_count text to end tail g) in m
leads_count text from to end (s ∷ ss) tail l g =
    omega (arith, gap_count text from s.span.from s.notes l.0, l.1.ends, leads_count text s.span.to to end ss tail l.2 g)

pub lexed_count : (lexed : Lexed) → IsLexed lexed → comments_in (plain_symbols lexed.symbols.items) lexed.tail.items ≤ length lexed.text.now
lexed_count lexed h = omega (arith, leads_count lexed.text.now 0 h.last (length lexed.text.now) (plain_symbols lexed.symbols.items) lexed.tail.items h.leads h.rests)

-- the notes of a node whose first symbol is that at a place
first-there : (text : List ℕ) (xs : List Symbol) (start end : ℕ) (d : Symbol) → start < end → start < length xs →
    first_notes (take (end - start) (drop start (symbol_notes text (plain_symbols xs)))) ≡ map (bytes_at text) (get_or xs start d).notes.items
first-there text [] start end d h l = absurd (omega arith)
first-there text (x ∷ xs) zero end d h l =
    let e : end - zero ≡ suc (end - 1) = omega arith in
    rw e refl
first-there text (x ∷ xs) (suc start) end d h l =
    let e : end - suc start ≡ (end - 1) - start = omega arith in
    rw e (first-there text xs start (end - 1) d (omega arith) (omega arith))

pub first-at : (text : List ℕ) (xs : List Symbol) (start end : ℕ) (s : Symbol) → start < end → start < length xs → s ≡ get_or xs start s →
    first_notes (take (end - start) (drop start (symbol_notes text (plain_symbols xs)))) ≡ map (bytes_at text) s.notes.items
first-at text xs start end s h l e = first-there text xs start end s h l ∙ ap (λ (x : Symbol). map (bytes_at text) x.notes.items) (sym e)

-- a node that keeps none has none
pub own-none : (k : Kind) (n : ℕ) (ns : List Notes) → keeps_notes k n ≡ false → own_notes k n ns ≡ []
own-none k n ns h = rw h refl

pub own-first : (k : Kind) (n : ℕ) (ns : List Notes) → keeps_notes k n ≡ true → own_notes k n ns ≡ first_notes ns
own-first k n ns h = rw h refl

pub own-nothing : (k : Kind) (n from to : ℕ) (ns : List Notes) → to ≤ from → own_notes k n (take (to - from) ns) ≡ []
own-nothing k n from to ns h = let e : to - from ≡ 0 = omega arith in rw e (go (keeps_notes k n))
  where
    go : (b : Bool) → (if b then first_notes (take 0 ns) else []) ≡ []
    go true = refl
    go false = refl

-- the comments, counted one symbol after another
abbrev pub counted : List Symbol → ℕ
counted [] = 0
counted (x ∷ xs) = length x.notes.items + counted xs

pub counted-is : (xs : List Symbol) (tail : List Span) → comments_in (plain_symbols xs) tail ≡ length tail + counted xs
unfolding comments_in
counted-is [] tail = omega arith
counted-is (x ∷ xs) tail = omega (arith, counted-is xs tail)

-- and how many there are before symbols
pub counted-weight : (text : List ℕ) (xs : List Symbol) → weight (symbol_notes text (plain_symbols xs)) ≡ counted xs
counted-weight text [] = refl
counted-weight text (x ∷ xs) = omega (arith, counted-weight text xs, length-map x.notes.items (bytes_at text))
