-- Noting the spans below a node item by item: those of the items that are left stand behind the others.
use Rattle.std.proofs.Common.{◌≡◌, ℕ, ◌+◌, suc, List, [], ◌∷◌, ◌++◌, ◌-◌, ◌<◌, drop, length, set, Option, None, Some, refl, ap, sym, subst, ◌∙◌, add-one, length-append, arith}
use Rattle.std.specs.Prelude.{is_some}
use Rattle.pc_syntax.specs.declared.kind.Kind.{Kind}
use Rattle.pc_syntax.specs.declared.lexeme.Lexeme.{Lexeme}
use Rattle.pc_syntax.specs.declared.class.Class.{Class}
use Rattle.pc_syntax.specs.declared.item.Item.{Item}
use Rattle.pc_syntax.specs.declared.item.Item.TheVariants.{Literal, Word, Kid}
use Rattle.pc_syntax.specs.Plain.{Plain, kids_of}
use Rattle.pc_syntax.specs.Layout.{layout}
use Rattle.pc_syntax.specs.Spellings.{spelling_of}
use Rattle.pc_syntax.specs.WellFormed.{IsProper}
use Rattle.pc_lex.specs.declared.symbol.Span.{Span}
use Rattle.pc_pretty.specs.declared.spacing.Place.{Place}
use Rattle.pc_pretty.specs.Printed.{Piece, gap_at, inner, behind, note_text, kept_next, pieces_of, text_of, has_pieces}
use Rattle.pc_pretty.specs.Spans.{symbol_count}
use Rattle.pc_pretty.specs.Joined.{join, joined, symbol_span, piece_spans, StandFrom}
use Rattle.pc_pretty.specs.Preorder.{spans_of, AddsSpans}
use Rattle.pc_pretty.proofs.Joins.{tree-spans, has_span, stand_first, stand_next, stand_joined, stand_all}
use Rattle.pc_pretty.proofs.Walks.{left, own_of, kid_spans, spans_left}
use Rattle.pc_pretty.proofs.Listing as listing

-- where the symbols of the items that are left stand, and how far the spans below the node are listed
pub record Marked (ss : List Span) (all : List (Option Span)) (total : ℕ) (k : Kind) (w : List ℕ) (i : ℕ) (items : List Item) (kids : List Plain) (n : ℕ) (kept : Option Place) (out : List ℕ) (spans : List (Option Span)) : Type 0 where
  pub end : ℕ
  pub stand : StandFrom ss end (piece_spans (length out) (left k w i items kids n kept))
  pub walk : listing.Walk (joined ss) all total items kids end spans

-- so it is wherever the spans of the node's symbols stand
abbrev pub Marking : Plain → Place → List ℕ → List (Option Span) → Kind → List ℕ → ℕ → List Item → List Item → List Plain → List Plain → ℕ → Option Place → List ℕ → List (Option Span) → Type 0
Marking t p old before k w i all_items items all_kids kids n kept out spans =
    (ss : List Span) (m : ℕ) → StandFrom ss m (piece_spans (length old) (pieces_of t p)) →
    Marked ss ((before ++ None ∷ []) ++ listing.left (joined ss) all_items all_kids m) (m + symbol_count t) k w i items kids n kept out spans

module _ (ss : List Span) (all : List (Option Span)) (total : ℕ) (k : Kind) (w : List ℕ) (i : ℕ) (items : List Item) (kids : List Plain) (n number : ℕ) (kept : Option Place) (out : List ℕ) (spans : List (Option Span))
    (h : Marked ss all total k w i (drop n items) (drop number kids) n kept out spans) where
  -- a symbol stands before the others
  symbol_stands : (gap bytes : List ℕ) (rest : List Piece) → StandFrom ss h.end (symbol_span (length out) gap bytes ∷ piece_spans (length out + length gap + length bytes) rest) →
      StandFrom ss (h.end + 1) (piece_spans (length (out ++ (gap ++ bytes))) rest)
  symbol_stands gap bytes rest here =
      let at : length out + length gap + length bytes ≡ length (out ++ (gap ++ bytes)) = omega (arith, length-append out (gap ++ bytes), length-append gap bytes) in
      subst (λ a. StandFrom ss (h.end + 1) (piece_spans a rest)) at
      (stand_next ss h.end (symbol_span (length out) gap bytes ∷ []) (piece_spans (length out + length gap + length bytes) rest) here)

  mark_literal : (x : Lexeme) → drop n items ≡ Literal x ∷ drop (n + 1) items →
      Marked ss all total k w i (drop (n + 1) items) (drop number kids) (n + 1) None (out ++ (gap_at (own_of k i n (Literal x) kept) ++ (spelling_of x ++ []))) spans
  mark_literal x e =
      let gap : List ℕ = gap_at (own_of k i n (Literal x) kept) in
      let bytes : List ℕ = spelling_of x ++ [] in
      let rest : ℕ → List Piece = λ m. left k w i (drop (n + 1) items) (drop number kids) m None in
      let P : List Item → Type 0 = λ is. StandFrom ss h.end (piece_spans (length out) (left k w i is (drop number kids) n kept)) in
      record {
        end = h.end + 1;
        stand = subst (λ m. StandFrom ss (h.end + 1) (piece_spans (length (out ++ (gap ++ bytes))) (rest m))) (sym (add-one n)) (symbol_stands gap bytes (rest (suc n)) (subst P e h.stand));
        walk = listing.walked_literal (joined ss) all total items kids n number h.end spans x h.walk e;
      }

  mark_word : (x : Lexeme) → drop n items ≡ Word x ∷ drop (n + 1) items →
      Marked ss all total k w i (drop (n + 1) items) (drop number kids) (n + 1) None (out ++ (gap_at (own_of k i n (Word x) kept) ++ (spelling_of x ++ w))) spans
  mark_word x e =
      let gap : List ℕ = gap_at (own_of k i n (Word x) kept) in
      let bytes : List ℕ = spelling_of x ++ w in
      let rest : ℕ → List Piece = λ m. left k w i (drop (n + 1) items) (drop number kids) m None in
      let P : List Item → Type 0 = λ is. StandFrom ss h.end (piece_spans (length out) (left k w i is (drop number kids) n kept)) in
      record {
        end = h.end + 1;
        stand = subst (λ m. StandFrom ss (h.end + 1) (piece_spans (length (out ++ (gap ++ bytes))) (rest m))) (sym (add-one n)) (symbol_stands gap bytes (rest (suc n)) (subst P e h.stand));
        walk = listing.walked_word (joined ss) all total items kids n number h.end spans x h.walk e;
      }

  mark_kid : (c : Class) (t : Plain) (more : List (Option Span)) → drop n items ≡ Kid c ∷ drop (n + 1) items → drop number kids ≡ t ∷ drop (number + 1) kids →
      AddsSpans t (piece_spans (length out) (pieces_of t (own_of k i n (Kid c) kept))) spans more →
      Marked ss all total k w i (drop (n + 1) items) (drop (number + 1) kids) (n + 1) (kept_next k kept (own_of k i n (Kid c) kept) (has_pieces (pieces_of t (own_of k i n (Kid c) kept))))
      (out ++ text_of (pieces_of t (own_of k i n (Kid c) kept))) more
  mark_kid c t more e d adds =
      let own : Place = own_of k i n (Kid c) kept in
      let q : List Piece = pieces_of t own in
      let next : Option Place = kept_next k kept own (has_pieces q) in
      let left_with : ℕ → Option Place → List Piece = λ m kp. left k w i (drop (n + 1) items) (drop (number + 1) kids) m kp in
      let behind : List Span = piece_spans (length out + length (text_of q)) (left_with (suc n) next) in
      let P : List Item → List Plain → Type 0 = λ is ts. StandFrom ss h.end (piece_spans (length out) (left k w i is ts n kept)) in
      let here : P (Kid c ∷ drop (n + 1) items) (t ∷ drop (number + 1) kids) = subst (P (Kid c ∷ drop (n + 1) items)) d (subst (λ is. P is (drop number kids)) e h.stand) in
      let parts : StandFrom ss h.end (piece_spans (length out) q ++ behind) = subst (StandFrom ss h.end) (kid_spans k (left_with (suc n)) kept own q (length out)) here in
      let added : more ≡ spans ++ spans_of (joined ss) t h.end = adds ss h.end (stand_first ss h.end (piece_spans (length out) q) behind parts) in
      let stands : StandFrom ss (h.end + symbol_count t) behind = subst (λ m. StandFrom ss (h.end + m) behind) (tree-spans (length out) t own) (stand_next ss h.end (piece_spans (length out) q) behind parts) in
      record {
        end = h.end + symbol_count t;
        stand = subst (λ m. StandFrom ss (h.end + symbol_count t) (piece_spans (length (out ++ text_of q)) (left_with m next))) (sym (add-one n))
            (subst (λ a. StandFrom ss (h.end + symbol_count t) (piece_spans a (left_with (suc n) next))) (sym (length-append out (text_of q))) stands);
        walk = subst (listing.Walk (joined ss) all total (drop (n + 1) items) (drop (number + 1) kids) (h.end + symbol_count t)) (sym added) (listing.walked_kid (joined ss) all total items kids n number h.end spans c t h.walk e d);
      }

module _ (tree : Plain) (p : Place) (old : List ℕ) (before : List (Option Span)) (k : Kind) (w : List ℕ) (i : ℕ) (items : List Item) (kids : List Plain) (n number : ℕ) (kept : Option Place) (out : List ℕ) (spans : List (Option Span))
    (number' : ℕ) (kept' : Option Place) (out' : List ℕ) (spans' : List (Option Span)) (own : Place) (printed : Option Span)
    (h : Marking tree p old before k w i items (drop n items) kids (drop number kids) n kept out spans)
    (ek : kept' ≡ kept_next k kept own (is_some printed)) where
  pub marked_literal : (x : Lexeme) (s : Span) → drop n items ≡ Literal x ∷ drop (n + 1) items → own ≡ own_of k i n (Literal x) kept →
      printed ≡ Some s → number' ≡ number → out' ≡ out ++ (gap_at own ++ (spelling_of x ++ [])) → spans' ≡ spans →
      Marking tree p old before k w i items (drop (n + 1) items) kids (drop number' kids) (n + 1) kept' out' spans'
  marked_literal x s ei eo ep en et es = rw (en, ek, es, et, ep, eo) (λ ss m stands. mark_literal ss _ _ k w i items kids n number kept out spans (h ss m stands) x ei)

  pub marked_word : (x : Lexeme) (s : Span) → drop n items ≡ Word x ∷ drop (n + 1) items → own ≡ own_of k i n (Word x) kept →
      printed ≡ Some s → number' ≡ number → out' ≡ out ++ (gap_at own ++ (spelling_of x ++ w)) → spans' ≡ spans →
      Marking tree p old before k w i items (drop (n + 1) items) kids (drop number' kids) (n + 1) kept' out' spans'
  marked_word x s ei eo ep en et es = rw (en, ek, es, et, ep, eo) (λ ss m stands. mark_word ss _ _ k w i items kids n number kept out spans (h ss m stands) x ei)

  pub marked_kid : (c : Class) (t : Plain) → drop n items ≡ Kid c ∷ drop (n + 1) items → own ≡ own_of k i n (Kid c) kept →
      drop number kids ≡ t ∷ drop (number + 1) kids → printed ≡ join (piece_spans (length out) (pieces_of t own)) → number' ≡ number + 1 → out' ≡ out ++ text_of (pieces_of t own) →
      AddsSpans t (piece_spans (length out) (pieces_of t own)) spans spans' →
      Marking tree p old before k w i items (drop (n + 1) items) kids (drop number' kids) (n + 1) kept' out' spans'
  marked_kid c t ei eo ed ep en et adds =
      rw (en, ek, et, ep, has_span (length out) (pieces_of t own), eo)
      (λ ss m stands. mark_kid ss _ _ k w i items kids n number kept out spans (h ss m stands) c t spans' ei ed (subst (λ o. AddsSpans t (piece_spans (length out) (pieces_of t o)) spans spans') eo adds))

-- before the first item
pub marking_starts : (t : Plain) (p : Place) (is : List Item) (old out : List ℕ) (before spans : List (Option Span)) (kept : Place) → IsProper t → layout t.kind t.word (length (kids_of t)) ≡ Some is →
    out ≡ old ++ note_text t.notes p → kept ≡ behind t.notes p → spans ≡ before ++ None ∷ [] →
    Marking t p old before t.kind t.word (inner p) is is (kids_of t) (kids_of t) 0 (Some kept) out spans
marking_starts t p is old out before spans kept h e eo ek es = rw (eo, ek) (λ ss m stands. record {
  end = m;
  stand = subst (StandFrom ss m) (spans_left t p is old e) stands;
  walk = listing.starts (joined ss) t is (kids_of t) m before spans e refl h es;
})

module _ (t : Plain) (p : Place) (old : List ℕ) (before : List (Option Span)) (k : Kind) (w : List ℕ) (i : ℕ) (items : List Item) (kids : List Plain) (n number : ℕ) (kept : Option Place) (out : List ℕ) (spans : List (Option Span)) (place : ℕ)
    (h : Marking t p old before k w i items (drop n items) kids (drop number kids) n kept out spans) (e : drop n items ≡ []) (at : place ≡ length before) where
  -- the place that was kept for the node is there
  pub marking_room : place < length spans
  marking_room =
      let own : List Span = piece_spans (length old) (pieces_of t p) in
      let g = h own 0 (stand_all own) in
      let all = (listing.walked_all (joined own) _ _ items kids n number g.end spans e g.walk).0 in
      let rest : List (Option Span) = listing.left (joined own) items kids 0 in
      omega (arith, at, ap length all, length-append (before ++ None ∷ []) rest, length-append before (None ∷ []))

  -- and with the node's own span all are added
  pub marking_ends : (span : Option Span) (put : List (Option Span)) → layout t.kind t.word (length (kids_of t)) ≡ Some items → kids ≡ kids_of t →
      span ≡ join (piece_spans (length old) (pieces_of t p)) → put ≡ set spans place span → AddsSpans t (piece_spans (length old) (pieces_of t p)) before put
  marking_ends span put laid those is_own is_put ss m stands =
      let own : List Span = piece_spans (length old) (pieces_of t p) in
      let g = h ss m stands in
      let all = listing.walked_all (joined ss) _ _ items kids n number g.end spans e g.walk in
      let size : g.end - m ≡ length own = omega (arith, all.1, tree-spans (length old) t p) in
      is_put ∙ listing.own_set (joined ss) t items kids m before spans laid those place g.end span all.0 all.1 at (is_own ∙ sym (stand_joined ss m own stands) ∙ ap (joined ss m) (sym size))
