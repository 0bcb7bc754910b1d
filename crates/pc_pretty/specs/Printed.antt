-- The printed text of a tree: its symbols and notes with the spaces between them.
use Rattle.std.specs.Prelude.{ℕ, suc, Bool, true, false, List, [], ◌∷◌, ◌++◌, Option, Some, None}
use Rattle.pc_syntax.specs.declared.kind.Kind.{Kind}
use Rattle.pc_syntax.specs.declared.kind.Kind.TheVariants as kind
use Rattle.pc_syntax.specs.declared.item.Item.{Item}
use Rattle.pc_syntax.specs.declared.item.Item.TheVariants.{Literal, Word, Kid}
use Rattle.pc_syntax.specs.Plain.{Forest, Nil, Cons, Plain, count}
use Rattle.pc_syntax.specs.Layout.{layout}
use Rattle.pc_syntax.specs.Spellings.{spelling_of}
use Rattle.pc_syntax.specs.Symbols.{Sym}
use Rattle.pc_pretty.specs.declared.spacing.Spacing.{Spacing}
use Rattle.pc_pretty.specs.declared.spacing.Spacing.TheVariants.{Tight, Line}
use Rattle.pc_pretty.specs.declared.spacing.Place.{Place}
use Rattle.pc_pretty.specs.Spacing.{gap, indentation, space}

-- a symbol with the bytes before it
pub record Piece : Type 0 where
  pub gap : List ℕ
  pub sym : Sym

-- the place with this space, on a line of this indentation
abbrev pub place : Spacing → ℕ → Place
place s n = record { spacing = s; indentation = n }

-- the bytes before what stands at a place
abbrev pub gap_at : Place → List ℕ
gap_at p = gap p.spacing p.indentation

-- the indentation of the line on which a node at this place begins
abbrev pub inner : Place → ℕ
inner p = indentation p.spacing p.indentation

-- the place behind a note of a node at this place: a new line of the node
abbrev pub next_line : Place → Place
next_line p = place Line (inner p)

-- the place behind so many notes
abbrev pub behind : List (List ℕ) → Place → Place
behind [] p = p
behind (n ∷ ns) p = next_line p

-- a node's notes: the first stands where the node does, each other one on a new line
abbrev pub note_text : List (List ℕ) → Place → List ℕ
note_text [] p = []
note_text (n ∷ ns) p = gap_at p ++ n ++ note_text ns (next_line p)

-- pieces with these bytes before the first
abbrev pub led : List ℕ → List Piece → List Piece
led bs [] = []
led bs (p ∷ ps) = record { gap = bs ++ p.gap; sym = p.sym } ∷ ps

-- the place of what comes next: the one that is kept for it, or its own
abbrev pub or_own : Option Place → Place → Place
or_own None own = own
or_own (Some kept) own = kept

-- what is kept after a kid without symbols: in a list of statements its place, so that a `;` after an empty statement
-- stands where the statement would; elsewhere what was kept before
unfoldable pub kept_after : Kind → Option Place → Place → Option Place
kept_after kind.Stmts kept own = Some own
kept_after _ kept own = kept

-- what is kept after an item that was printed or had no symbol
abbrev pub kept_next : Kind → Option Place → Place → Bool → Option Place
kept_next k kept own true = None
kept_next k kept own false = kept_after k kept own

-- the pieces of a node at a place
abbrev pub Printer : Type 0
Printer = Place → List Piece

-- the pieces of items from number n on, with the node's word and its kids' printers, in a line of this indentation
abbrev pub arrange : Kind → ℕ → List Item → List ℕ → List Printer → Option Place → ℕ → List Piece
arrange k n [] w ps kept i = []
arrange k n (Literal x ∷ is) w ps kept i =
    record { gap = gap_at (or_own kept (place (space k n (Literal x)) i)); sym = record { lexeme = x; spelling = [] } } ∷ arrange k (suc n) is w ps None i
arrange k n (Word x ∷ is) w ps kept i =
    record { gap = gap_at (or_own kept (place (space k n (Word x)) i)); sym = record { lexeme = x; spelling = w } } ∷ arrange k (suc n) is w ps None i
arrange k n (Kid c ∷ is) w [] kept i = []
arrange k n (Kid c ∷ is) w (p ∷ ps) kept i =
    let own = or_own kept (place (space k n (Kid c)) i) in
    elim (p own) [ [] ↦ arrange k (suc n) is w ps (kept_after k kept own) i | y ∷ ys ↦ (y ∷ ys) ++ arrange k (suc n) is w ps None i ]

abbrev pub arrange_some : Kind → Option (List Item) → List ℕ → List Printer → Place → List Piece
arrange_some k None w ps p = []
arrange_some k (Some is) w ps p = arrange k 0 is w ps (Some p) (inner p)

-- how each of the trees is printed at a place: its notes, and on the next line its symbols
abbrev pub printers : Forest → List Printer
printers Nil = []
printers (Cons k w ns ks ts) = (λ p. led (note_text ns p) (arrange_some k (layout k w (count ks)) w (printers ks) (behind ns p))) ∷ printers ts

-- the pieces of a tree at a place
abbrev pub pieces : Kind → List ℕ → List (List ℕ) → Forest → Place → List Piece
pieces k w ns ks p = led (note_text ns p) (arrange_some k (layout k w (count ks)) w (printers ks) (behind ns p))

-- the pieces of a tree, by its place
unfoldable pub pieces_of : Plain → Printer
pieces_of t p = pieces t.kind t.word t.notes t.kids p

-- a symbol as it is written
abbrev pub written : Sym → List ℕ
written y = spelling_of y.lexeme ++ y.spelling

-- pieces one after another
abbrev pub text_of : List Piece → List ℕ
text_of [] = []
text_of (p ∷ ps) = p.gap ++ written p.sym ++ text_of ps

-- whether there is a piece
abbrev pub has_pieces : List Piece → Bool
has_pieces [] = false
has_pieces (p ∷ ps) = true

-- the printed text: the pieces from the first line on, and a line feed
unfoldable pub printed : Plain → List ℕ
printed t = text_of (pieces_of t (place Tight 0)) ++ 10 ∷ []

-- the symbols of pieces
abbrev pub syms_of : List Piece → List Sym
syms_of [] = []
syms_of (p ∷ ps) = p.sym ∷ syms_of ps
