-- Clean pieces spell their symbols, and before each its notes.
use Rattle.std.proofs.Common.{◌≡◌, ℕ, ◌+◌, ◌-◌, ◌<◌, zero, suc, true, not, ◌==◌, List, [], ◌∷◌, ◌++◌, map, Option, Some, inl, inr, length, take, drop, refl, sym, ap, subst, ◌∙◌, arith, append_assoc, length-drop}
use Rattle.std.specs.Prelude.{slice_range}
use Rattle.std.proofs.Math.Seq.{drop-append_seam}
use Rattle.std.proofs.lemmas.Bool.{and_parts, or_cases, eqb-true}
use Rattle.std.proofs.lemmas.List.{take_at, drop-drop, length-append}
use Rattle.std.specs.List.{list_all}
use Rattle.pc_syntax.specs.declared.lexeme.Lexeme.{Lexeme}
use Rattle.pc_syntax.specs.declared.lexeme.Lexeme.TheVariants as lexeme
use Rattle.pc_syntax.specs.Symbols.{Sym}
use Rattle.pc_syntax.specs.Spellings.{spelling_of}
use Rattle.pc_syntax.specs.Words.{is_letter, is_digit, is_name_byte, is_name_form, is_key_word, is_identifier, is_digits, is_numeral, ends_text, is_text}
use Rattle.pc_lex.specs.declared.symbol.Span.{Span}
use Rattle.pc_lex.specs.declared.front.Front.TheVariants.{Blank}
use Rattle.pc_lex.specs.Fronts.{front}
use Rattle.pc_lex.specs.Spells.{PlainSymbol, front_at, Blanks, Gap}
use Rattle.pc_lex.specs.ComposingLaws.{symbol_at, symbol_at-is, SpellsFrom-cons, SpellsFrom-end}
use Rattle.pc_lex.specs.Views.{lexeme_of, kept, syms}
use Rattle.pc_lex.specs.Proper.{IsProper}
use Rattle.pc_layout.specs.Noted.{Notes}
use Rattle.pc_parse.specs.Comments.{bytes_at, symbol_notes}
use Rattle.pc_pretty.specs.Printed.{Piece, written, text_of, syms_of}
use Rattle.pc_pretty.specs.Laws.{SpelledFrom}
use Rattle.pc_pretty.proofs.Apart.{extends, first_byte, apart}
use Rattle.pc_pretty.proofs.Clean.{is_white, IsLead, Clean}
use Rattle.pc_pretty.proofs.FrontOf.{stops, kind_of, lexeme_of-kind_of, kept-written, front_written, white_stops, letter_extends, digit_extends}
use Rattle.pc_pretty.proofs.CommentFront.{comment_front, comment_stops}

-- a symbol that may stand directly behind another doesn't extend it
first_letter : (x : Lexeme) (w rest : List ℕ) → is_name_form w ≡ true → not (extends x 97) ≡ true → stops x (w ++ rest) ≡ true
first_letter x [] rest h a = cc
first_letter x (b ∷ w) rest h a = ap not (letter_extends x b (and_parts (is_letter b) (list_all is_name_byte w) h).0) ∙ a

first_digit : (x : Lexeme) (w rest : List ℕ) → is_digits w ≡ true → not (extends x 48) ≡ true → stops x (w ++ rest) ≡ true
first_digit x [] rest h a = cc
first_digit x (b ∷ w) rest h a = ap not (digit_extends x b (and_parts (is_digit b) (list_all is_digit w) h).0) ∙ a

first_quote : (x : Lexeme) (w rest : List ℕ) → is_text w ≡ true → not (extends x 39) ≡ true → stops x (w ++ rest) ≡ true
unfolding is_text
first_quote x [] rest h a = cc
first_quote x (b ∷ []) rest h a = cc
first_quote x (b ∷ c ∷ []) rest h a = cc
first_quote x (b ∷ c ∷ d ∷ w) rest h a = ap (λ e. not (extends x e)) (eqb-true b 39 (and_parts (b == 39) (ends_text (c ∷ d ∷ w)) h).0) ∙ a

written_stops : (x y : Lexeme) (w rest : List ℕ) → IsProper y w → apart x y ≡ true → stops x ((spelling_of y ++ w) ++ rest) ≡ true
unfolding first_byte is_identifier is_numeral
written_stops x lexeme.Identifier w rest p a = first_letter x w rest (and_parts (is_name_form w) (not (is_key_word w)) p).0 a
written_stops x lexeme.Numeral w rest p a = first_digit x w rest (and_parts (is_digits w) _ p).0 a
written_stops x lexeme.Text w rest p a = first_quote x w rest p a
written_stops x (lexeme.Hole t) w rest p a = a
written_stops x _ w rest p a = a

-- white space, or else what stands directly behind a symbol, doesn't extend it
gap_stops : (x : Lexeme) (g rest : List ℕ) → list_all is_white g ≡ true → (g ≡ [] → stops x rest ≡ true) → stops x (g ++ rest) ≡ true
gap_stops x [] rest wh f = f refl
gap_stops x (b ∷ g) rest wh f = white_stops x b (and_parts (is_white b) (list_all is_white g) wh).0

lead_stops : (x : Lexeme) (ns : Notes) (g rest : List ℕ) → IsLead ns g → (g ≡ [] → stops x rest ≡ true) → stops x (g ++ rest) ≡ true
lead_stops x [] g rest h f = gap_stops x g rest h f
lead_stops x (n ∷ ns) g rest h f =
    rw (h.2, append_assoc h.0 (n ++ h.1) rest, append_assoc n h.1 rest) (gap_stops x h.0 (n ++ (h.1 ++ rest)) h.3 (λ e. comment_stops x n (h.1 ++ rest) h.4))

pub rest_stops : (x : Lexeme) (ps : List Piece) (nss : List Notes) → Clean (Some x) ps nss → stops x (text_of ps ++ 10 ∷ []) ≡ true
rest_stops x [] nss h = white_stops x 10 refl
rest_stops x (p ∷ ps) [] h = absurd h
rest_stops x (p ∷ ps) (ns ∷ nss) h =
    rw (append_assoc (p.gap ++ written p.sym) (text_of ps) (10 ∷ []), append_assoc p.gap (written p.sym) (text_of ps ++ 10 ∷ []))
    (lead_stops x ns p.gap (written p.sym ++ (text_of ps ++ 10 ∷ [])) h.0 (λ e. written_stops x p.sym.lexeme p.sym.spelling (text_of ps ++ 10 ∷ []) h.2 (rw e at h.1)))

-- white space is blank, place by place
white_blank : (b : ℕ) (bs : List ℕ) → is_white b ≡ true → front (b ∷ bs) ≡ Blank
unfolding front
white_blank b bs h = elim (or_cases (b == 32) (b == 10) h) [
  | inl e ↦ ap (λ c. front (c ∷ bs)) (eqb-true b 32 e)
  | inr e ↦ ap (λ c. front (c ∷ bs)) (eqb-true b 10 e)
]

white_front : (g rest : List ℕ) (j : ℕ) → list_all is_white g ≡ true → j < length g → front (drop j (g ++ rest)) ≡ Blank
white_front [] rest j h l = absurd (omega arith)
white_front (b ∷ g) rest zero h l = white_blank b (g ++ rest) (and_parts (is_white b) (list_all is_white g) h).0
white_front (b ∷ g) rest (suc j) h l = white_front g rest j (and_parts (is_white b) (list_all is_white g) h).1 (omega arith)

drop_on : (text : List ℕ) (at j : ℕ) (rest : List ℕ) → drop at text ≡ rest → drop (at + j) text ≡ drop j rest
drop_on text at j rest e = sym (drop-drop j at text) ∙ ap (drop j) e

white_blanks : (text : List ℕ) (at : ℕ) (g rest : List ℕ) → drop at text ≡ g ++ rest → list_all is_white g ≡ true → Blanks text at (at + length g)
white_blanks text at g rest e h = record {
  ordered = omega arith;
  blank = λ pos l m.
      let same : pos ≡ at + (pos - at) = omega arith in
      ap (front_at text) same ∙ ap front (drop_on text at (pos - at) (g ++ rest) e) ∙ white_front g rest (pos - at) h (omega arith);
}

-- the part of a text that is a symbol
part_is : (text : List ℕ) (at : ℕ) (v rest : List ℕ) → drop at text ≡ v ++ rest → slice_range text at (at + length v) ≡ v
part_is text at v rest e =
    let size : (at + length v) - at ≡ length v = omega arith in
    rw size (ap (take (length v)) e ∙ take_at v rest (length v) refl)

the_sym : Lexeme → List ℕ → Sym
the_sym x v = record { lexeme = x; spelling = v }

seen_is : (text : List ℕ) (at : ℕ) (y : Sym) (rest : List ℕ) (notes : List Span) (ss : List PlainSymbol) (ys : List Sym) → IsProper y.lexeme y.spelling → drop at text ≡ written y ++ rest → syms ss ≡ ys →
    syms (symbol_at text at (kind_of y.lexeme) (length (written y)) notes ∷ ss) ≡ y ∷ ys
unfolding the_sym
seen_is text at y rest notes ss ys p e f =
    let k : kept (kind_of y.lexeme) (slice_range text at (at + length (written y))) ≡ y.spelling =
    ap (kept (kind_of y.lexeme)) (part_is text at (written y) rest e) ∙ kept-written y.lexeme y.spelling p in
    let one : the_sym (lexeme_of (kind_of y.lexeme)) (kept (kind_of y.lexeme) (slice_range text at (at + length (written y)))) ≡ the_sym y.lexeme y.spelling =
    ap (λ x. the_sym x (kept (kind_of y.lexeme) (slice_range text at (at + length (written y))))) (lexeme_of-kind_of y.lexeme) ∙ ap (the_sym y.lexeme) k in
    ap (λ z. z ∷ syms ss) one ∙ ap (λ zs. y ∷ zs) f

-- the notes that stand in such bytes
record Noted (text : List ℕ) (from to : ℕ) (ns : Notes) : Type 0 where
  spans : List Span
  gap : Gap text from to spans
  bytes : map (bytes_at text) spans ≡ ns

lead_noted : (text : List ℕ) (at : ℕ) (ns : Notes) (g rest : List ℕ) → IsLead ns g → drop at text ≡ g ++ rest → Noted text at (at + length g) ns
unfolding Gap
lead_noted text at [] g rest h e = record { spans = []; gap = white_blanks text at g rest e h; bytes = refl }
lead_noted text at (n ∷ ns) g rest h e =
    let here : ℕ = at + length h.0 in
    let split : g ++ rest ≡ h.0 ++ (n ++ (h.1 ++ rest)) = ap (λ bs. bs ++ rest) h.2 ∙ append_assoc h.0 (n ++ h.1) rest ∙ ap (λ bs. h.0 ++ bs) (append_assoc n h.1 rest) in
    let stands : drop here text ≡ n ++ (h.1 ++ rest) = drop_on text at (length h.0) (h.0 ++ (n ++ (h.1 ++ rest))) (e ∙ split) ∙ drop-append_seam h.0 (n ++ (h.1 ++ rest)) in
    let behind : drop (here + length n) text ≡ h.1 ++ rest = drop_on text here (length n) (n ++ (h.1 ++ rest)) stands ∙ drop-append_seam n (h.1 ++ rest) in
    let more : Noted text (here + length n) (here + length n + length h.1) ns = lead_noted text (here + length n) ns h.1 rest h.5 behind in
    let size : here + length n + length h.1 ≡ at + length g = omega (arith, ap length h.2, length-append h.0 (n ++ h.1), length-append n h.1) in
    record {
      spans = record { from = here; to = here + length n } ∷ more.spans;
      gap = (white_blanks text at h.0 (n ++ (h.1 ++ rest)) (e ∙ split) h.3, record { len = length n; stands = ap front stands ∙ comment_front n (h.1 ++ rest) h.4; ends = refl }, subst (λ to. Gap text (here + length n) to more.spans) size more.gap);
      bytes = ap (λ v. v ∷ map (bytes_at text) more.spans) (part_is text here n (h.1 ++ rest) stands) ∙ ap (λ vs. n ∷ vs) more.bytes;
    }

-- one symbol behind white space and comments
symbol_spelled : (text : List ℕ) (at : ℕ) (g : List ℕ) (ns : Notes) (y : Sym) (rest : List ℕ) (ys : List Sym) (nss : List Notes) → drop at text ≡ g ++ (written y ++ rest) → IsLead ns g → IsProper y.lexeme y.spelling →
    stops y.lexeme rest ≡ true → ((from : ℕ) → drop from text ≡ rest → SpelledFrom text from ys nss) → SpelledFrom text at (y ∷ ys) (ns ∷ nss)
symbol_spelled text at g ns y rest ys nss e lead p s more =
    let here : ℕ = at + length g in
    let size : ℕ = length (written y) in
    let stands : drop here text ≡ written y ++ rest = drop_on text at (length g) (g ++ (written y ++ rest)) e ∙ drop-append_seam g (written y ++ rest) in
    let behind : drop (here + size) text ≡ rest = drop_on text here size (written y ++ rest) stands ∙ drop-append_seam (written y) rest in
    let tail : SpelledFrom text (here + size) ys nss = more (here + size) behind in
    let noted : Noted text at here ns = lead_noted text at ns g (written y ++ rest) lead e in
    let symbol : PlainSymbol = symbol_at text here (kind_of y.lexeme) size noted.spans in
    record {
      symbols = symbol ∷ tail.symbols;
      spells = SpellsFrom-cons text at symbol tail.symbols [] noted.gap (symbol_at-is text here (kind_of y.lexeme) size noted.spans (ap front stands ∙ front_written y.lexeme y.spelling rest p s)) tail.spells;
      seen = seen_is text here y rest noted.spans tail.symbols ys p stands tail.seen;
      noted = ap (λ ms. ms ∷ symbol_notes text tail.symbols) noted.bytes ∙ ap (λ mss. ns ∷ mss) tail.noted;
    }

-- the line feed at the end
end_spelled : (text : List ℕ) (at : ℕ) → drop at text ≡ 10 ∷ [] → SpelledFrom text at [] []
unfolding Gap
end_spelled text at e =
    let one : length (drop at text) ≡ 1 = ap length e in
    let size : at + 1 ≡ length text = omega (arith, one, length-drop at text) in
    record { symbols = []; spells = SpellsFrom-end text at [] (subst (Blanks text at) size (white_blanks text at (10 ∷ []) [] e refl)); seen = refl; noted = refl }

-- clean pieces and a line feed spell the symbols of the pieces, and before each its notes
pub pieces_spelled : (text : List ℕ) (ps : List Piece) (nss : List Notes) (o : Option Lexeme) (at : ℕ) → Clean o ps nss → drop at text ≡ text_of ps ++ 10 ∷ [] → SpelledFrom text at (syms_of ps) nss
pieces_spelled text [] [] o at h e = end_spelled text at e
pieces_spelled text [] (ns ∷ nss) o at h e = absurd h
pieces_spelled text (p ∷ ps) [] o at h e = absurd h
pieces_spelled text (p ∷ ps) (ns ∷ nss) o at h e =
    let split : (p.gap ++ written p.sym ++ text_of ps) ++ 10 ∷ [] ≡ p.gap ++ (written p.sym ++ (text_of ps ++ 10 ∷ [])) =
    append_assoc (p.gap ++ written p.sym) (text_of ps) (10 ∷ []) ∙ append_assoc p.gap (written p.sym) (text_of ps ++ 10 ∷ []) in
    symbol_spelled text at p.gap ns p.sym (text_of ps ++ 10 ∷ []) (syms_of ps) nss (e ∙ split) h.0 h.2 (rest_stops p.sym.lexeme ps nss h.3)
    (λ from f. pieces_spelled text ps nss (Some p.sym.lexeme) from h.3 f)
