-- What the reading of a text keeps, from symbol to symbol.
use Rattle.std.proofs.Common.{◌≡◌, ℕ, ◌+◌, ◌<◌, ◌≤◌, List, [], ◌∷◌, ◌++◌, length, drop, refl, inl, inr, arith}
use Rattle.std.specs.Prelude.{slice_range}
use Rattle.std.proofs.lemmas.Bool.{cases_order}
use Rattle.std.proofs.lemmas.List.{length-drop, map-append}
use Rattle.pc_lex.specs.declared.error.LexError.{LexError}
use Rattle.pc_lex.specs.declared.symbol.Span.{Span}
use Rattle.pc_lex.specs.declared.symbol.SymbolKind.{SymbolKind}
use Rattle.pc_lex.specs.declared.symbol.Symbol as code
use Rattle.pc_lex.specs.declared.front.Front.TheVariants.{End, Blank, Comment, Symbol, Fault}
use Rattle.pc_lex.specs.Fronts.{Within, byte_of}
use Rattle.pc_lex.specs.LengthLaws.{front_within}
use Rattle.pc_lex.specs.Spells.{PlainSymbol, front_at, Blanks, Gap, IsSymbol, Leads, Spells, moved, FirstFault}
use Rattle.pc_lex.specs.Views.{plain_symbol, plain_symbols}

-- up to a place the text has these symbols, and these comments after the last one
pub record HasRead (text : List ℕ) (symbols : List PlainSymbol) (notes : List Span) (at : ℕ) : Type 0 where
  pub last : ℕ
  pub leads : Leads text 0 symbols last
  pub gap : Gap text last at notes

-- no white space stands from a place to itself
pub Blanks-none : (text : List ℕ) (at : ℕ) → Blanks text at at
Blanks-none text at = record { ordered = omega arith; blank = λ k h g. absurd (omega arith) }

-- a gap goes on over a blank
Gap-blank : (text : List ℕ) (from to : ℕ) (notes : List Span) → Gap text from to notes → front_at text to ≡ Blank → Gap text from (to + 1) notes
unfolding Gap
Gap-blank text from to [] gap e = record {
  ordered = omega arith;
  blank = λ k h g. elim (cases_order k to) [ inl same ↦ rw same e | inr other ↦ elim other [ inl before ↦ gap.blank k h before | inr after ↦ absurd (omega arith) ] ];
}
Gap-blank text from to (n ∷ ns) gap e = (gap.0, gap.1, Gap-blank text n.to to ns gap.2 e)

-- a gap goes on over a comment
Gap-comment : (text : List ℕ) (from to len : ℕ) (notes : List Span) → Gap text from to notes → front_at text to ≡ Comment len
    → Gap text from (to + len) (notes ++ record { from = to; to = to + len } ∷ [])
unfolding Gap
Gap-comment text from to len [] gap e = (gap, record { len = len; stands = e; ends = refl }, Blanks-none text (to + len))
Gap-comment text from to len (n ∷ ns) gap e = (gap.0, gap.1, Gap-comment text n.to to len ns gap.2 e)

-- one symbol more
Leads-more : (text : List ℕ) (from last : ℕ) (symbols : List PlainSymbol) (s : PlainSymbol) → Leads text from symbols last
    → Gap text last s.span.from s.notes → IsSymbol text s → Leads text from (symbols ++ s ∷ []) s.span.to
unfolding Leads
Leads-more text from last [] s leads gap is = (rw leads gap, is, refl)
Leads-more text from last (t ∷ ts) s leads gap is = (leads.0, leads.1, Leads-more text t.span.to last ts s leads.2 gap is)

-- nothing was read at the beginning
pub read_none : (text : List ℕ) → HasRead text [] [] 0
unfolding Leads Gap
read_none text = record { last = 0; leads = refl; gap = Blanks-none text 0 }

pub read_blank : (text : List ℕ) (symbols : List PlainSymbol) (notes : List Span) (at : ℕ) → HasRead text symbols notes at
    → front_at text at ≡ Blank → HasRead text symbols notes (at + 1)
read_blank text symbols notes at h e = record { last = h.last; leads = h.leads; gap = Gap-blank text h.last at notes h.gap e }

pub read_note : (text : List ℕ) (symbols : List PlainSymbol) (notes : List Span) (at len : ℕ) → HasRead text symbols notes at
    → front_at text at ≡ Comment len → HasRead text symbols (notes ++ record { from = at; to = at + len } ∷ []) (at + len)
read_note text symbols notes at len h e = record { last = h.last; leads = h.leads; gap = Gap-comment text h.last at len notes h.gap e }

-- the symbol that stands at a place, with the comments before it
abbrev pub symbol_there : List ℕ → SymbolKind → List Span → ℕ → ℕ → PlainSymbol
symbol_there text kind notes at len = record { kind = kind; spelling = slice_range text at (at + len); span = record { from = at; to = at + len }; notes = notes }

pub read_symbol : (text : List ℕ) (symbols : List PlainSymbol) (notes : List Span) (kind : SymbolKind) (at len : ℕ) → HasRead text symbols notes at
    → front_at text at ≡ Symbol kind len → HasRead text (symbols ++ symbol_there text kind notes at len ∷ []) [] (at + len)
unfolding Gap
read_symbol text symbols notes kind at len h e = record {
  last = at + len;
  leads = Leads-more text 0 h.last symbols (symbol_there text kind notes at len) h.leads h.gap (record { len = len; stands = e; ends = refl; written = refl });
  gap = Blanks-none text (at + len);
}

-- at the end of the text its symbols are all there
pub read_all : (text : List ℕ) (symbols : List PlainSymbol) (notes : List Span) (at : ℕ) → at ≤ length text → HasRead text symbols notes at
    → front_at text at ≡ End → Spells text symbols notes
unfolding Within
read_all text symbols notes at within h e =
    let none : length (drop at text) ≡ 0 = rw e at (front_within (drop at text)) in
    let all : at ≡ length text = omega (arith, length-drop at text) in
    record { last = h.last; leads = h.leads; rests = rw all at h.gap }

-- a fault is the first one
pub read_fault : (text : List ℕ) (symbols : List PlainSymbol) (notes : List Span) (at : ℕ) (fault : LexError) → HasRead text symbols notes at
    → front_at text at ≡ Fault fault → FirstFault text (moved at fault)
read_fault text symbols notes at fault h e = record { before = symbols; last = h.last; leads = h.leads; notes = notes; at = at; gap = h.gap; inside = fault; stands = e; is = refl }

-- the code's symbols as plain values, with one more
pub plain_more : (ss : List code.Symbol) (s : code.Symbol) → plain_symbols (ss ++ s ∷ []) ≡ plain_symbols ss ++ plain_symbol s ∷ []
plain_more ss s = map-append plain_symbol ss (s ∷ [])

-- how far what stands at a place goes
pub blank_fits : (text : List ℕ) (at : ℕ) → front_at text at ≡ Blank → at + 1 ≤ length text
unfolding Within
blank_fits text at e = let h : 0 < length (drop at text) = rw e at (front_within (drop at text)) in omega (arith, length-drop at text)

pub note_some : (text : List ℕ) (at len : ℕ) → front_at text at ≡ Comment len → 0 < len
unfolding Within
note_some text at len e = let h : (0 < len) × (len ≤ length (drop at text)) = rw e at (front_within (drop at text)) in h.0

pub note_fits : (text : List ℕ) (at len : ℕ) → front_at text at ≡ Comment len → at + len ≤ length text
unfolding Within
note_fits text at len e = let h : (0 < len) × (len ≤ length (drop at text)) = rw e at (front_within (drop at text)) in omega (arith, length-drop at text)

pub symbol_some : (text : List ℕ) (at len : ℕ) (kind : SymbolKind) → front_at text at ≡ Symbol kind len → 0 < len
unfolding Within
symbol_some text at len kind e = let h : (0 < len) × (len ≤ length (drop at text)) = rw e at (front_within (drop at text)) in h.0

pub symbol_fits : (text : List ℕ) (at len : ℕ) (kind : SymbolKind) → front_at text at ≡ Symbol kind len → at + len ≤ length text
unfolding Within
symbol_fits text at len kind e = let h : (0 < len) × (len ≤ length (drop at text)) = rw e at (front_within (drop at text)) in omega (arith, length-drop at text)

pub fault_fits : (text : List ℕ) (at : ℕ) (fault : LexError) → at ≤ length text → front_at text at ≡ Fault fault → at + byte_of fault ≤ length text
unfolding Within
fault_fits text at fault within e = let h : byte_of fault ≤ length (drop at text) = rw e at (front_within (drop at text)) in omega (arith, length-drop at text)
