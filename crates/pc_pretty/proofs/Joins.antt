-- Spans of several symbols one after another, and how they are joined.
use Rattle.std.proofs.Common.{◌≡◌, ℕ, suc, ◌+◌, List, [], ◌∷◌, ◌++◌, take, drop, length, Option, Some, None, refl, ap, sym, ◌∙◌, append_assoc, append-nil, length-append, arith}
use Rattle.std.specs.Prelude.{is_some}
use Rattle.std.proofs.Math.Seq.{drop-append_seam, take-append_seam}
use Rattle.std.proofs.lemmas.List.{drop-drop}
use Rattle.pc_lex.specs.declared.symbol.Span.{Span}
use Rattle.pc_syntax.specs.Plain.{Plain}
use Rattle.pc_pretty.specs.declared.spacing.Place.{Place}
use Rattle.pc_pretty.specs.Printed.{Piece, led, pieces, pieces_of, written, text_of, has_pieces, syms_of}
use Rattle.pc_pretty.specs.Spans.{symbol_count}
use Rattle.pc_pretty.specs.Joined.{last_end, join, joined, through, symbol_span, piece_spans, StandFrom}
use Rattle.pc_pretty.proofs.PieceSymbols.{syms_of-pieces}

pub through_assoc : (a b c : Option Span) → through a (through b c) ≡ through (through a b) c
through_assoc None b c = refl
through_assoc (Some a) None c = refl
through_assoc (Some a) (Some b) None = refl
through_assoc (Some a) (Some b) (Some c) = refl

pub through_none : (a : Option Span) → through a None ≡ a
through_none None = refl
through_none (Some a) = refl

last_end-append : (end : ℕ) (xs : List Span) (y : Span) (ys : List Span) → last_end end (xs ++ y ∷ ys) ≡ last_end y.to ys
last_end-append end [] y ys = refl
last_end-append end (x ∷ xs) y ys = last_end-append x.to xs y ys

abbrev the_span : ℕ → ℕ → Option Span
the_span from to = Some (record { from = from; to = to })

pub join-append : (xs ys : List Span) → join (xs ++ ys) ≡ through (join xs) (join ys)
join-append [] ys = refl
join-append (x ∷ xs) [] = ap (λ zs. join (x ∷ zs)) (append-nil xs)
join-append (x ∷ xs) (y ∷ ys) = ap (λ end. the_span x.from end) (last_end-append x.to xs y ys)

-- the spans of pieces behind others
pub piece_spans-append : (at : ℕ) (ps qs : List Piece) → piece_spans at (ps ++ qs) ≡ piece_spans at ps ++ piece_spans (at + length (text_of ps)) qs
piece_spans-append at [] qs = let e : at ≡ at + 0 = omega arith in ap (λ n. piece_spans n qs) e
piece_spans-append at (p ∷ ps) qs =
    let next : ℕ = at + length p.gap + length (written p.sym) in
    let e : next + length (text_of ps) ≡ at + length (text_of (p ∷ ps)) = omega (arith, length-append (p.gap ++ written p.sym) (text_of ps), length-append p.gap (written p.sym)) in
    ap (λ ss. symbol_span at p.gap (written p.sym) ∷ ss) (piece_spans-append next ps qs ∙ ap (λ n. piece_spans next ps ++ piece_spans n qs) e)

-- and of pieces with bytes before the first
pub piece_spans-led : (at : ℕ) (bs : List ℕ) (ps : List Piece) → piece_spans at (led bs ps) ≡ piece_spans (at + length bs) ps
piece_spans-led at bs [] = refl
piece_spans-led at bs (p ∷ ps) =
    let e : at + length (bs ++ p.gap) ≡ at + length bs + length p.gap = omega (arith, length-append bs p.gap) in
    ap (λ n. record { from = n; to = n + length (written p.sym) } ∷ piece_spans (n + length (written p.sym)) ps) e

-- pieces have a span where there is one
pub has_span : (at : ℕ) (ps : List Piece) → is_some (join (piece_spans at ps)) ≡ has_pieces ps
has_span at [] = refl
has_span at (p ∷ ps) = refl

length-piece_spans : (at : ℕ) (ps : List Piece) → length (piece_spans at ps) ≡ length (syms_of ps)
length-piece_spans at [] = refl
length-piece_spans at (p ∷ ps) = ap suc (length-piece_spans (at + length p.gap + length (written p.sym)) ps)

-- a node has as many spans as symbols
pub tree-spans : (at : ℕ) (t : Plain) (p : Place) → length (piece_spans at (pieces_of t p)) ≡ symbol_count t
unfolding pieces_of symbol_count
tree-spans at t p = length-piece_spans at (pieces t.kind t.word t.notes t.kids p) ∙ ap length (syms_of-pieces t.kind t.word t.notes t.kids p)

module _ (ss : List Span) (n : ℕ) where
  -- the first ones of those that stand there
  pub stand_first : (xs ys : List Span) → StandFrom ss n (xs ++ ys) → StandFrom ss n xs
  stand_first xs ys h = (ys ++ h.0, h.1 ∙ append_assoc xs ys h.0)

  -- and the others
  pub stand_next : (xs ys : List Span) → StandFrom ss n (xs ++ ys) → StandFrom ss (n + length xs) ys
  stand_next xs ys h =
      (h.0, sym (drop-drop (length xs) n ss) ∙ ap (drop (length xs)) (h.1 ∙ append_assoc xs ys h.0) ∙ drop-append_seam xs (ys ++ h.0))

  -- their span
  pub stand_joined : (xs : List Span) → StandFrom ss n xs → joined ss n (length xs) ≡ join xs
  stand_joined xs h = ap (λ ys. join (take (length xs) ys)) h.1 ∙ ap join (take-append_seam xs h.0)

-- all of a list stand from its front
pub stand_all : (ss : List Span) → StandFrom ss 0 ss
stand_all ss = ([], sym (append-nil ss))
