-- A text has one list of symbols or one first fault, and never both; what stands first is the longest symbol; and the tables agree.
use Rattle.std.specs.Prelude.{◌≡◌, ◌≢◌, ◌⊎◌, ◌<◌, ◌≤◌, ℕ, Bool, true, false, List, [], ◌∷◌, length, take, slice_range, ◌+◌, map, codes}
use Rattle.std.proofs.Common.{refl, sym, ap, ◌∙◌, inl, inr, arith}
use Rattle.std.proofs.Math.Seq.{drop-length}
use Rattle.std.proofs.lemmas.Bool.{cases_order, false≢true, true≢false}
use Rattle.pc_syntax.specs.Spellings.{spelling_of, key_words}
use Rattle.pc_lex.specs.declared.error.LexError.{LexError}
use Rattle.pc_lex.specs.declared.symbol.Span.{Span}
use Rattle.pc_lex.specs.declared.symbol.SymbolKind.{SymbolKind}
use Rattle.pc_lex.specs.declared.symbol.SymbolKind.TheVariants.{Mark}
use Rattle.pc_lex.specs.declared.front.Front.{Front}
use Rattle.pc_lex.specs.declared.front.Front.TheVariants.{End, Blank, Comment, Symbol, Fault}
use Rattle.pc_lex.specs.Fronts.{front}
use Rattle.pc_lex.specs.Marks.{mark_at, single_mark, double_mark}
use Rattle.pc_lex.specs.Views.{key_lexemes, mark_lexemes}
use Rattle.pc_lex.specs.Spells.{PlainSymbol, front_at, Blanks, Gap, IsSymbol, Leads, Spells, FirstFault}

-- the marks, row by row
abbrev pub mark_words : List (List ℕ)
mark_words = codes "+" ∷ codes "-" ∷ codes "*" ∷ codes "/" ∷ codes "=" ∷ codes "<" ∷ codes ">" ∷ codes "[" ∷ codes "]" ∷ codes "." ∷ codes "," ∷ codes ":" ∷ codes ";" ∷ codes "^" ∷ codes "(" ∷ codes ")" ∷ codes "<>" ∷ codes "<=" ∷ codes ">=" ∷ codes ":=" ∷ codes ".." ∷ []

-- the two tables of a parser's symbols are spelled as the key words and marks are, row by row
abbrev pub SameTables : Type 0
SameTables = (map spelling_of key_lexemes ≡ key_words) × (map spelling_of mark_lexemes ≡ mark_words)

-- a list of marks as what stands at the beginning of their texts, with rows counted from this one
abbrev pub fronts_from : ℕ → List (List ℕ) → List Front
fronts_from n [] = []
fronts_from n (w ∷ ws) = Symbol (Mark n) (length w) ∷ fronts_from (n + 1) ws

-- each mark is read with its own row
abbrev pub MarksRead : Type 0
MarksRead = map front mark_words ≡ fronts_from 1 mark_words

-- a text that spells symbols
pub record HasSymbols (text : List ℕ) : Type 0 where
  pub symbols : List PlainSymbol
  pub tail : List Span
  pub spells : Spells text symbols tail

-- a text with a first fault
pub record HasFault (text : List ℕ) : Type 0 where
  pub fault : LexError
  pub first : FirstFault text fault

-- each text spells symbols or has a first fault
abbrev pub EachIsRead : Type 0
EachIsRead = (text : List ℕ) → HasSymbols text ⊎ HasFault text

-- a text has at most one list of symbols, and the comments after them
abbrev pub OneSpelling : Type 0
OneSpelling = (text : List ℕ) (ss ts : List PlainSymbol) (ms ns : List Span) → Spells text ss ms → Spells text ts ns → (ss ≡ ts) × (ms ≡ ns)

-- a text has at most one first fault
abbrev pub OneFault : Type 0
OneFault = (text : List ℕ) (e f : LexError) → FirstFault text e → FirstFault text f → e ≡ f

-- a text with a fault has no list of symbols
abbrev pub NotBoth : Type 0
NotBoth = (text : List ℕ) (ss : List PlainSymbol) (ns : List Span) (e : LexError) → Spells text ss ns → ¬ FirstFault text e

-- the bytes are one symbol of the kind: it stands at their beginning, and nothing behind it
abbrev pub IsOneSymbol : SymbolKind → List ℕ → Type 0
IsOneSymbol kind word = front word ≡ Symbol kind (length word)

-- the symbol with which a text begins is the longest beginning of the text that is one symbol
pub record IsLongest (text : List ℕ) (kind : SymbolKind) (len : ℕ) : Type 0 where
  pub one : IsOneSymbol kind (take len text)
  pub longest : (other : SymbolKind) (more : ℕ) → len < more → more ≤ length text → ¬ IsOneSymbol other (take more text)

abbrev pub LongestFirst : Type 0
LongestFirst = (text : List ℕ) (kind : SymbolKind) (len : ℕ) → front text ≡ Symbol kind len → IsLongest text kind len

-- white space and comments stand between symbols
abbrev is_between : Front → Bool
is_between End = false
is_between Blank = true
is_between (Comment n) = true
is_between (Symbol k n) = false
is_between (Fault e) = false

-- nothing comes after the end or a fault
abbrev is_last : Front → Bool
is_last End = true
is_last Blank = false
is_last (Comment n) = false
is_last (Symbol k n) = false
is_last (Fault e) = true

-- white space from one place ends in one place
Blanks-meet : (text : List ℕ) (from a b : ℕ) → Blanks text from a → Blanks text from b → front_at text a ≢ Blank → front_at text b ≢ Blank → a ≡ b
Blanks-meet text from a b p q na nb = elim (cases_order a b) [
  | inl same ↦ same
  | inr other ↦ elim other [ inl before ↦ absurd (na (q.blank a p.ordered before)) | inr after ↦ absurd (nb (p.blank b q.ordered after)) ]
]

between_not_blank : (f : Front) → is_between f ≡ false → f ≢ Blank
between_not_blank f h e = let k : is_between Blank ≡ false = rw e at h in true≢false k

comment_not_blank : (f : Front) (n : ℕ) → f ≡ Comment n → f ≢ Blank
comment_not_blank f n h e = cc

last_not_between : (f : Front) → is_last f ≡ true → is_between f ≡ false
last_not_between End h = refl
last_not_between Blank h = cc
last_not_between (Comment n) h = cc
last_not_between (Symbol k n) h = cc
last_not_between (Fault e) h = refl

span_same : (m n : Span) → m.from ≡ n.from → m.to ≡ n.to → m ≡ n
span_same m n e f = ap (λ x. span x m.to) e ∙ ap (span n.from) f
  where
    span : ℕ → ℕ → Span
    span x y = record { from = x; to = y }

-- the place at which white space and comments end, and the comments
Gap-unique : (text : List ℕ) (from a b : ℕ) (ms ns : List Span) → Gap text from a ms → Gap text from b ns → is_between (front_at text a) ≡ false → is_between (front_at text b) ≡ false → (a ≡ b) × (ms ≡ ns)
unfolding Gap
Gap-unique text from a b [] [] p q ea eb = (Blanks-meet text from a b p q (between_not_blank (front_at text a) ea) (between_not_blank (front_at text b) eb), refl)
Gap-unique text from a b [] (n ∷ ns) p q ea eb =
    let same : a ≡ n.from = Blanks-meet text from a n.from p q.0 (between_not_blank (front_at text a) ea) (comment_not_blank (front_at text n.from) q.1.len q.1.stands) in
    let e : is_between (front_at text n.from) ≡ false = rw same at ea in
    let f : is_between (Comment q.1.len) ≡ false = rw q.1.stands at e in absurd (true≢false f)
Gap-unique text from a b (m ∷ ms) [] p q ea eb =
    let same : b ≡ m.from = Blanks-meet text from b m.from q p.0 (between_not_blank (front_at text b) eb) (comment_not_blank (front_at text m.from) p.1.len p.1.stands) in
    let e : is_between (front_at text m.from) ≡ false = rw same at eb in
    let f : is_between (Comment p.1.len) ≡ false = rw p.1.stands at e in absurd (true≢false f)
Gap-unique text from a b (m ∷ ms) (n ∷ ns) p q ea eb =
    let starts : m.from ≡ n.from = Blanks-meet text from m.from n.from p.0 q.0 (comment_not_blank (front_at text m.from) p.1.len p.1.stands) (comment_not_blank (front_at text n.from) q.1.len q.1.stands) in
    let lens : Comment p.1.len ≡ Comment q.1.len = sym p.1.stands ∙ ap (front_at text) starts ∙ q.1.stands in
    let len : p.1.len ≡ q.1.len = cc in
    let ends : m.to ≡ n.to = omega (arith, p.1.ends, q.1.ends) in
    let more : Gap text m.to b ns = rw ends q.2 in
    let rest : (a ≡ b) × (ms ≡ ns) = Gap-unique text m.to a b ms ns p.2 more ea eb in
    let one : m ≡ n = span_same m n starts ends in
    (rest.0, cc (rest.1, one))

symbol_same : (s t : PlainSymbol) → s.kind ≡ t.kind → s.spelling ≡ t.spelling → s.span ≡ t.span → s.notes ≡ t.notes → s ≡ t
symbol_same s t e f g h = ap (λ x. symbol x s.spelling s.span s.notes) e ∙ ap (λ x. symbol t.kind x s.span s.notes) f ∙ ap (λ x. symbol t.kind t.spelling x s.notes) g ∙ ap (symbol t.kind t.spelling t.span) h
  where
    symbol : SymbolKind → List ℕ → Span → List Span → PlainSymbol
    symbol k w p ns = record { kind = k; spelling = w; span = p; notes = ns }

symbol_between : (f : Front) (text : List ℕ) (s : PlainSymbol) (is : IsSymbol text s) → f ≡ Symbol s.kind is.len → is_between f ≡ false
symbol_between f text s is e = rw e refl

-- symbols, comments after them, and then the end or a fault: all of it is the text's only reading
same_reading : (text : List ℕ) (from l m a b : ℕ) (ss ts : List PlainSymbol) (ms ns : List Span) → Leads text from ss l → Leads text from ts m → Gap text l a ms → Gap text m b ns
    → is_last (front_at text a) ≡ true → is_last (front_at text b) ≡ true → (ss ≡ ts) × (a ≡ b) × (ms ≡ ns)
unfolding Leads
same_reading text from l m a b [] [] ms ns p q g h ea eb =
    let h2 : Gap text from b ns = rw q h in
    let g2 : Gap text from a ms = rw p g in
    let u : (a ≡ b) × (ms ≡ ns) = Gap-unique text from a b ms ns g2 h2 (last_not_between (front_at text a) ea) (last_not_between (front_at text b) eb) in
    (refl, u.0, u.1)
same_reading text from l m a b [] (t ∷ ts) ms ns p q g h ea eb =
    let g2 : Gap text from a ms = rw p g in
    let u : (a ≡ t.span.from) × (ms ≡ t.notes) = Gap-unique text from a t.span.from ms t.notes g2 q.0 (last_not_between (front_at text a) ea) (symbol_between (front_at text t.span.from) text t q.1 q.1.stands) in
    let e : is_last (front_at text t.span.from) ≡ true = rw u.0 at ea in
    let f : is_last (Symbol t.kind q.1.len) ≡ true = rw q.1.stands at e in absurd (false≢true f)
same_reading text from l m a b (s ∷ ss) [] ms ns p q g h ea eb =
    let h2 : Gap text from b ns = rw q h in
    let u : (b ≡ s.span.from) × (ns ≡ s.notes) = Gap-unique text from b s.span.from ns s.notes h2 p.0 (last_not_between (front_at text b) eb) (symbol_between (front_at text s.span.from) text s p.1 p.1.stands) in
    let e : is_last (front_at text s.span.from) ≡ true = rw u.0 at eb in
    let f : is_last (Symbol s.kind p.1.len) ≡ true = rw p.1.stands at e in absurd (false≢true f)
same_reading text from l m a b (s ∷ ss) (t ∷ ts) ms ns p q g h ea eb =
    let u : (s.span.from ≡ t.span.from) × (s.notes ≡ t.notes) = Gap-unique text from s.span.from t.span.from s.notes t.notes p.0 q.0 (symbol_between (front_at text s.span.from) text s p.1 p.1.stands) (symbol_between (front_at text t.span.from) text t q.1 q.1.stands) in
    let fronts : Symbol s.kind p.1.len ≡ Symbol t.kind q.1.len = sym p.1.stands ∙ ap (front_at text) u.0 ∙ q.1.stands in
    let kinds : s.kind ≡ t.kind = cc in
    let len : p.1.len ≡ q.1.len = cc in
    let ends : s.span.to ≡ t.span.to = omega (arith, p.1.ends, q.1.ends, u.0, len) in
    let spans : s.span ≡ t.span = span_same s.span t.span u.0 ends in
    let words : s.spelling ≡ t.spelling = p.1.written ∙ ap (λ (x : Span). slice_range text x.from x.to) spans ∙ sym q.1.written in
    let one : s ≡ t = symbol_same s t kinds words spans u.1 in
    let more : Leads text s.span.to ts m = rw ends q.2 in
    let rest : (ss ≡ ts) × (a ≡ b) × (ms ≡ ns) = same_reading text s.span.to l m a b ss ts ms ns p.2 more g h ea eb in
    (cc (rest.0, one), rest.1, rest.2)

at_end : (text : List ℕ) → front_at text (length text) ≡ End
unfolding front
at_end text = rw drop-length refl

-- proofs of the three laws
pub Spells-unique : OneSpelling
Spells-unique text ss ts ms ns p q =
    let ends : is_last (front_at text (length text)) ≡ true = ap is_last (at_end text) in
    let u : (ss ≡ ts) × (length text ≡ length text) × (ms ≡ ns) = same_reading text 0 p.last q.last (length text) (length text) ss ts ms ns p.leads q.leads p.rests q.rests ends ends in
    (u.0, u.2)

pub FirstFault-unique : OneFault
FirstFault-unique text e f p q =
    let u : (p.before ≡ q.before) × (p.at ≡ q.at) × (p.notes ≡ q.notes) = same_reading text 0 p.last q.last p.at q.at p.before q.before p.notes q.notes p.leads q.leads p.gap q.gap (ap is_last p.stands) (ap is_last q.stands) in
    let fronts : Fault p.inside ≡ Fault q.inside = sym p.stands ∙ ap (front_at text) u.1 ∙ q.stands in
    let insides : p.inside ≡ q.inside = cc in
    p.is ∙ cc (u.1, insides) ∙ sym q.is

pub Spells-faultless : NotBoth
Spells-faultless text ss ns e p q =
    let u : (ss ≡ q.before) × (length text ≡ q.at) × (ns ≡ q.notes) = same_reading text 0 p.last q.last (length text) q.at ss q.before ns q.notes p.leads q.leads p.rests q.gap (ap is_last (at_end text)) (ap is_last q.stands) in
    let fronts : End ≡ Fault q.inside = sym (at_end text) ∙ ap (front_at text) u.1 ∙ q.stands in
    cc

pub tables_same : SameTables
tables_same = (refl, refl)

pub marks_read : MarksRead
unfolding front mark_at single_mark double_mark
marks_read = refl
