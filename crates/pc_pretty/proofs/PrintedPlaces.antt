-- The span of several symbols is that of their pieces.
use Rattle.std.proofs.Common.{◌≡◌, ℕ, ◌+◌, zero, suc, List, [], ◌∷◌, ◌++◌, Option, Some, None, map, length, take, drop, refl, ap, sym, ◌∙◌, arith, append_assoc, length-append, zero-add}
use Rattle.pc_syntax.specs.Plain.{Plain}
use Rattle.pc_lex.specs.declared.symbol.Span.{Span}
use Rattle.pc_pretty.specs.declared.spacing.Spacing.TheVariants.{Tight}
use Rattle.pc_pretty.specs.Printed.{Piece, place, pieces_of, written, text_of}
use Rattle.pc_pretty.specs.Spans.{pieces_span, symbols_span}
use Rattle.pc_pretty.specs.Joined.{last_end, join, joined, piece_spans}
use Rattle.pc_pretty.specs.Preorder.{Spanner, spans_of, text_spans}

-- the span of pieces behind others, where so many bytes stand before those
abbrev moved_span : ℕ → List Piece → List Piece → Option Span
moved_span at before [] = None
moved_span at before (p ∷ ps) = Some (record { from = at + length (text_of before ++ p.gap); to = at + length (text_of (before ++ p ∷ ps)) })

abbrev the_span : ℕ → ℕ → Option Span
the_span from to = Some (record { from = from; to = to })

last_end-pieces : (at : ℕ) (ps : List Piece) (n : ℕ) → last_end at (take n (piece_spans at ps)) ≡ at + length (text_of (take n ps))
last_end-pieces at ps zero = omega arith
last_end-pieces at [] (suc n) = omega arith
last_end-pieces at (p ∷ ps) (suc n) =
    let next : ℕ = at + length p.gap + length (written p.sym) in
    omega (arith, last_end-pieces next ps n, length-append (p.gap ++ written p.sym) (text_of (take n ps)), length-append p.gap (written p.sym))

join-pieces : (at : ℕ) (ps : List Piece) (n : ℕ) → join (take n (piece_spans at ps)) ≡ moved_span at [] (take n ps)
join-pieces at ps zero = refl
join-pieces at [] (suc n) = refl
join-pieces at (p ∷ ps) (suc n) =
    let next : ℕ = at + length p.gap + length (written p.sym) in
    let end : last_end next (take n (piece_spans next ps)) ≡ at + length (text_of (p ∷ take n ps)) =
    omega (arith, last_end-pieces next ps n, length-append (p.gap ++ written p.sym) (text_of (take n ps)), length-append p.gap (written p.sym)) in
    ap (the_span (at + length p.gap)) end

-- one more piece before
one_more_before : (at : ℕ) (p : Piece) (before own : List Piece) → moved_span (at + length p.gap + length (written p.sym)) before own ≡ moved_span at (p ∷ before) own
one_more_before at p before [] = refl
one_more_before at p before (q ∷ qs) =
    let split : (p.gap ++ written p.sym ++ text_of before) ++ q.gap ≡ (p.gap ++ written p.sym) ++ (text_of before ++ q.gap) = append_assoc (p.gap ++ written p.sym) (text_of before) q.gap in
    let from : at + length p.gap + length (written p.sym) + length (text_of before ++ q.gap) ≡ at + length ((p.gap ++ written p.sym ++ text_of before) ++ q.gap) =
    omega (arith, ap length split, length-append (p.gap ++ written p.sym) (text_of before ++ q.gap), length-append p.gap (written p.sym)) in
    let to : at + length p.gap + length (written p.sym) + length (text_of (before ++ q ∷ qs)) ≡ at + length (p.gap ++ written p.sym ++ text_of (before ++ q ∷ qs)) =
    omega (arith, length-append (p.gap ++ written p.sym) (text_of (before ++ q ∷ qs)), length-append p.gap (written p.sym)) in
    ap (λ x. the_span x (at + length p.gap + length (written p.sym) + length (text_of (before ++ q ∷ qs)))) from ∙ ap (the_span (at + length ((p.gap ++ written p.sym ++ text_of before) ++ q.gap))) to

joined-moved : (at : ℕ) (ps : List Piece) (before n : ℕ) → joined (piece_spans at ps) before n ≡ moved_span at (take before ps) (take n (drop before ps))
joined-moved at ps zero n = join-pieces at ps n
joined-moved at [] (suc before) n = join-pieces at [] n
joined-moved at (p ∷ ps) (suc before) n =
    joined-moved (at + length p.gap + length (written p.sym)) ps before n ∙ one_more_before at p (take before ps) (take n (drop before ps))

moved_by_none : (before own : List Piece) → moved_span 0 before own ≡ pieces_span before own
moved_by_none before [] = refl
moved_by_none before (p ∷ ps) =
    ap (λ x. the_span x (0 + length (text_of (before ++ p ∷ ps)))) (zero-add (length (text_of before ++ p.gap))) ∙ ap (the_span (length (text_of before ++ p.gap))) (zero-add (length (text_of (before ++ p ∷ ps))))

-- the span of several symbols is that of their pieces
pub joined-pieces : (ps : List Piece) (before n : ℕ) → joined (piece_spans 0 ps) before n ≡ symbols_span ps before n
joined-pieces ps before n = joined-moved 0 ps before n ∙ moved_by_none (take before ps) (take n (drop before ps))

-- so the spans of all nodes are those of the printed text
pub joined-text : (t : Plain) → spans_of (joined (piece_spans 0 (pieces_of t (place Tight 0)))) t 0 ≡ text_spans t
unfolding text_spans
joined-text t = ap (λ (f : Spanner). spans_of f t 0) (λ i. λ before n. joined-pieces (pieces_of t (place Tight 0)) before n i)
