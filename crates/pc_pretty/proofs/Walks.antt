-- Printing a node item by item: what is printed so far, and what is left, make its pieces.
use Rattle.std.proofs.Common.{◌≡◌, ℕ, ◌+◌, ◌<◌, ◌≤◌, zero, suc, Bool, true, false, ◌||◌, ◌&&◌, List, [], ◌∷◌, ◌++◌, map, take, drop, length, get_or, Option, Some, None, refl, ap, sym, ◌∙◌, append_assoc, append-nil, length-append, add-one, arith}
use Rattle.std.specs.Prelude.{IsSome, is_some}
use Rattle.std.proofs.lemmas.List.{drop_more, take_more}
use Rattle.pc_syntax.specs.declared.kind.Kind.{Kind}
use Rattle.pc_syntax.specs.declared.kind.Kind.TheVariants.{Stmts}
use Rattle.pc_syntax.specs.declared.lexeme.Lexeme.{Lexeme}
use Rattle.pc_syntax.specs.declared.class.Class.{Class}
use Rattle.pc_syntax.specs.declared.item.Item.{Item}
use Rattle.pc_syntax.specs.declared.item.Item.TheVariants.{Literal, Word, Kid}
use Rattle.pc_syntax.specs.Plain.{Forest, Nil, Cons, Plain, trees_of, kids_of, count, kinds}
use Rattle.pc_syntax.specs.Parts.{largest}
use Rattle.pc_syntax.specs.PartsLaws.{length-kids_of, depth_of-kids}
use Rattle.pc_syntax.specs.Layout.{layout}
use Rattle.pc_syntax.specs.Classes.{has}
use Rattle.pc_syntax.specs.Spellings.{spelling_of}
use Rattle.pc_syntax.specs.WellFormed.{fits, fits_some, IsProper, depth_of}
use Rattle.pc_pretty.specs.declared.spacing.Place.{Place}
use Rattle.pc_pretty.specs.declared.spacing.Spacing.{Spacing}
use Rattle.pc_pretty.specs.declared.spacing.Spacing.TheVariants.{Tight, Space, Line, Deeper}
use Rattle.pc_pretty.specs.Spacing as spacing
use Rattle.pc_pretty.specs.Spacing.{spaces, space}
use Rattle.pc_pretty.specs.Printed.{Piece, place, gap_at, inner, next_line, behind, note_text, led, or_own, kept_next, kept_after, arrange, arrange_some, printers, pieces, pieces_of, written, text_of, has_pieces}
use Rattle.pc_pretty.specs.Joined.{join, through, symbol_span, piece_spans}
use Rattle.pc_lex.specs.declared.symbol.Span.{Span}
use Rattle.pc_pretty.proofs.Arranged.{led-none}
use Rattle.pc_pretty.proofs.Joins.{through_assoc, through_none, join-append, piece_spans-append, piece_spans-led, has_span}
use Rattle.pc_pretty.proofs.PrintedSpells.{symbols_there}

-- one more space
pub spaces_push : (n : ℕ) → spaces n ++ 32 ∷ [] ≡ spaces (n + 1)
spaces_push zero = refl
spaces_push (suc n) = ap (λ bs. 32 ∷ bs) (spaces_push n ∙ ap spaces (add-one n)) ∙ ap spaces (sym (add-one (suc n)))

abbrev pub kind_of : Plain → Kind
kind_of t = t.kind

pub printers-is : (ts : Forest) → printers ts ≡ map pieces_of (trees_of ts)
unfolding pieces_of
printers-is Nil = refl
printers-is (Cons k w ns ks ts) = ap (λ ps. pieces k w ns ks ∷ ps) (printers-is ts)

pub kinds-is : (ts : Forest) → kinds ts ≡ map kind_of (trees_of ts)
kinds-is Nil = refl
kinds-is (Cons k w ns ks ts) = ap (λ js. k ∷ js) (kinds-is ts)

-- a proper node has a layout
some_of_fits : (o : Option (List Item)) (ks : List Kind) → fits_some o ks ≡ true → IsSome o
some_of_fits None ks h = cc
some_of_fits (Some is) ks h = refl

pub laid : (t : Plain) → IsProper t → IsSome (layout t.kind t.word (length (kids_of t)))
laid t p = rw (length-kids_of t) (some_of_fits (layout t.kind t.word (count t.kids)) (kinds t.kids) p.sound.0)

-- which its kids fit
pub fitting : (t : Plain) (is : List Item) → IsProper t → layout t.kind t.word (length (kids_of t)) ≡ Some is → fits is (map kind_of (kids_of t)) ≡ true
unfolding kids_of
fitting t is p e =
    let f : layout t.kind t.word (count t.kids) ≡ Some is = ap (layout t.kind t.word) (sym (length-kids_of t)) ∙ e in
    let g : fits_some (Some is) (kinds t.kids) ≡ true = ap (λ o. fits_some o (kinds t.kids)) (sym f) ∙ p.sound.0 in
    ap (fits is) (sym (kinds-is t.kids)) ∙ g

-- behind notes the line has the same indentation
inner-behind : (ns : List (List ℕ)) (p : Place) → inner (behind ns p) ≡ inner p
inner-behind [] p = refl
inner-behind (n ∷ ns) p = refl

-- and which gives its symbols
left-layout : (t : Plain) (p : Place) (is : List Item) → layout t.kind t.word (length (kids_of t)) ≡ Some is →
    arrange_some t.kind (layout t.kind t.word (count t.kids)) t.word (printers t.kids) p ≡ arrange t.kind 0 is t.word (map pieces_of (kids_of t)) (Some p) (inner p)
unfolding pieces_of kids_of
left-layout t p is e =
    let f : layout t.kind t.word (count t.kids) ≡ Some is = ap (layout t.kind t.word) (sym (length-kids_of t)) ∙ e in
    ap (λ o. arrange_some t.kind o t.word (printers t.kids) p) f ∙ ap (λ ps. arrange t.kind 0 is t.word ps (Some p) (inner p)) (printers-is t.kids)

-- before which its notes stand
led_text : (bs : List ℕ) (ps : List Piece) → has_pieces ps ≡ true → text_of (led bs ps) ≡ bs ++ text_of ps
led_text bs [] h = cc
led_text bs (p ∷ ps) h = ap (λ cs. cs ++ text_of ps) (append_assoc bs p.gap (written p.sym)) ∙ append_assoc bs (p.gap ++ written p.sym) (text_of ps)

text_of-led : (ns : List (List ℕ)) (p : Place) (f : Place → List Piece) → ((c : List ℕ) (cs : List (List ℕ)) → ns ≡ c ∷ cs → has_pieces (f (next_line p)) ≡ true) →
    text_of (led (note_text ns p) (f (behind ns p))) ≡ note_text ns p ++ text_of (f (behind ns p))
text_of-led [] p f h = ap text_of (led-none (f p))
text_of-led (c ∷ cs) p f h = led_text (note_text (c ∷ cs) p) (f (next_line p)) (h c cs refl)

text_of-pieces : (t : Plain) (p : Place) → IsProper t →
    text_of (pieces_of t p) ≡ note_text t.notes p ++ text_of (arrange_some t.kind (layout t.kind t.word (count t.kids)) t.word (printers t.kids) (behind t.notes p))
unfolding pieces_of
text_of-pieces t p h =
    text_of-led t.notes p (arrange_some t.kind (layout t.kind t.word (count t.kids)) t.word (printers t.kids)) (λ c cs e. symbols_there t c cs p h.sound e)

-- and their spans stand behind these
spans-pieces : (t : Plain) (p : Place) (at : ℕ) →
    piece_spans at (pieces_of t p) ≡ piece_spans (at + length (note_text t.notes p)) (arrange_some t.kind (layout t.kind t.word (count t.kids)) t.word (printers t.kids) (behind t.notes p))
unfolding pieces_of
spans-pieces t p at = piece_spans-led at (note_text t.notes p) (arrange_some t.kind (layout t.kind t.word (count t.kids)) t.word (printers t.kids) (behind t.notes p))

-- a kid is less deep
depth-le : (ts : List Plain) (i : ℕ) (d : Plain) → i < length ts → depth_of (get_or ts i d) ≤ largest (map depth_of ts)
depth-le [] i d h = absurd (omega arith)
depth-le (t ∷ ts) zero d h = omega arith
depth-le (t ∷ ts) (suc i) d h = omega (arith, depth-le ts i d (omega arith))

pub depth_of-kid : (t : Plain) (i : ℕ) (k : Plain) → i < length (kids_of t) → get_or (kids_of t) i k ≡ k → depth_of k + 1 ≤ depth_of t
depth_of-kid t i k l e =
    let s : depth_of k ≤ largest (map depth_of (kids_of t)) = rw e at (depth-le (kids_of t) i k l) in
    omega (arith, s, depth_of-kids t)

-- the pieces of the items that are left
abbrev pub left : Kind → List ℕ → ℕ → List Item → List Plain → ℕ → Option Place → List Piece
left k w i items kids n kept = arrange k n items w (map pieces_of kids) kept i

abbrev pub Within : Option Place → ℕ → Type 0
Within None i = Unit {0}
Within (Some p) i = p.indentation ≤ i

-- all pieces of a node are those printed so far and those of the items that are left, whose kids are left
pub record Walk (all : List Piece) (old : List ℕ) (k : Kind) (w : List ℕ) (i : ℕ) (items : List Item) (kids : List Plain) (n : ℕ) (kept : Option Place) (out : List ℕ) (span : Option Span) : Type 0 where
  pub text : old ++ text_of all ≡ out ++ text_of (left k w i items kids n kept)
  pub spanned : join (piece_spans (length old) all) ≡ through span (join (piece_spans (length out) (left k w i items kids n kept)))
  pub fits : fits items (map kind_of kids) ≡ true
  pub within : Within kept i

pub text_of-append : (ps qs : List Piece) → text_of (ps ++ qs) ≡ text_of ps ++ text_of qs
text_of-append [] qs = refl
text_of-append (p ∷ ps) qs =
    ap (λ bs. p.gap ++ written p.sym ++ bs) (text_of-append ps qs) ∙ sym (append_assoc (p.gap ++ written p.sym) (text_of ps) (text_of qs))

own_within : (kept : Option Place) (own : Place) (i : ℕ) → Within kept i → own.indentation ≤ i → (or_own kept own).indentation ≤ i
own_within None own i h l = l
own_within (Some p) own i h l = h

after_within : (k : Kind) (i : ℕ) (kept : Option Place) (own : Place) → Within kept i → own.indentation ≤ i → Within (kept_after k kept own) i
unfolding kept_after
after_within Stmts i kept own h l = l
after_within _ i kept own h l = h

-- where an item stands
abbrev pub own_of : Kind → ℕ → ℕ → Item → Option Place → Place
own_of k i n x kept = or_own kept (place (space k n x) i)

own_of-within : (k : Kind) (i n : ℕ) (x : Item) (kept : Option Place) → Within kept i → (own_of k i n x kept).indentation ≤ i
own_of-within k i n x kept h = own_within kept (place (space k n x) i) i h (omega arith)

-- a symbol and what is left behind it
symbol_spanned : (out gap bytes : List ℕ) (span : Option Span) (ps : List Piece) →
    through span (join (symbol_span (length out) gap bytes ∷ piece_spans (length out + length gap + length bytes) ps)) ≡
    through (through span (Some (symbol_span (length out) gap bytes))) (join (piece_spans (length (out ++ (gap ++ bytes))) ps))
symbol_spanned out gap bytes span ps =
    let one : Span = symbol_span (length out) gap bytes in
    let e : length out + length gap + length bytes ≡ length (out ++ (gap ++ bytes)) = omega (arith, length-append out (gap ++ bytes), length-append gap bytes) in
    ap (λ at. through span (join (one ∷ piece_spans at ps))) e ∙ ap (through span) (join-append (one ∷ []) (piece_spans (length (out ++ (gap ++ bytes))) ps)) ∙
    through_assoc span (Some one) (join (piece_spans (length (out ++ (gap ++ bytes))) ps))

-- the pieces of a kid, and those that are left behind it
pub kid_spans : (k : Kind) (left_with : Option Place → List Piece) (kept : Option Place) (own : Place) (q : List Piece) (at : ℕ) →
    piece_spans at (elim q [ [] ↦ left_with (kept_after k kept own) | y ∷ ys ↦ (y ∷ ys) ++ left_with None ]) ≡
    piece_spans at q ++ piece_spans (at + length (text_of q)) (left_with (kept_next k kept own (has_pieces q)))
kid_spans k left_with kept own [] at = let e : at ≡ at + 0 = omega arith in ap (λ n. piece_spans n (left_with (kept_after k kept own))) e
kid_spans k left_with kept own (y ∷ ys) at = piece_spans-append at (y ∷ ys) (left_with None)

module _ (all : List Piece) (old : List ℕ) (k : Kind) (w : List ℕ) (i : ℕ) where
  pub walk_literal : (x : Lexeme) (items : List Item) (kids : List Plain) (n : ℕ) (kept : Option Place) (out : List ℕ) (span : Option Span) →
      Walk all old k w i (Literal x ∷ items) kids n kept out span →
      Walk all old k w i items kids (n + 1) None (out ++ (gap_at (own_of k i n (Literal x) kept) ++ (spelling_of x ++ [])))
      (through span (Some (symbol_span (length out) (gap_at (own_of k i n (Literal x) kept)) (spelling_of x ++ []))))
  walk_literal x items kids n kept out span h = rw (add-one n) record {
    text = h.text ∙ sym (append_assoc out (gap_at (own_of k i n (Literal x) kept) ++ (spelling_of x ++ [])) (text_of (left k w i items kids (suc n) None)));
    spanned = h.spanned ∙ symbol_spanned out (gap_at (own_of k i n (Literal x) kept)) (spelling_of x ++ []) span (left k w i items kids (suc n) None);
    fits = h.fits;
    within = tt;
  }

  pub walk_word : (x : Lexeme) (items : List Item) (kids : List Plain) (n : ℕ) (kept : Option Place) (out : List ℕ) (span : Option Span) →
      Walk all old k w i (Word x ∷ items) kids n kept out span →
      Walk all old k w i items kids (n + 1) None (out ++ (gap_at (own_of k i n (Word x) kept) ++ (spelling_of x ++ w)))
      (through span (Some (symbol_span (length out) (gap_at (own_of k i n (Word x) kept)) (spelling_of x ++ w))))
  walk_word x items kids n kept out span h = rw (add-one n) record {
    text = h.text ∙ sym (append_assoc out (gap_at (own_of k i n (Word x) kept) ++ (spelling_of x ++ w)) (text_of (left k w i items kids (suc n) None)));
    spanned = h.spanned ∙ symbol_spanned out (gap_at (own_of k i n (Word x) kept)) (spelling_of x ++ w) span (left k w i items kids (suc n) None);
    fits = h.fits;
    within = tt;
  }

  kid_text : (left_with : Option Place → List Piece) (kept : Option Place) (own : Place) (q : List Piece) →
      text_of (elim q [ [] ↦ left_with (kept_after k kept own) | y ∷ ys ↦ (y ∷ ys) ++ left_with None ]) ≡ text_of q ++ text_of (left_with (kept_next k kept own (has_pieces q)))
  kid_text left_with kept own [] = refl
  kid_text left_with kept own (y ∷ ys) = text_of-append (y ∷ ys) (left_with None)

  kid_spanned : (left_with : Option Place → List Piece) (kept : Option Place) (own : Place) (q : List Piece) (out : List ℕ) (span : Option Span) →
      through span (join (piece_spans (length out) (elim q [ [] ↦ left_with (kept_after k kept own) | y ∷ ys ↦ (y ∷ ys) ++ left_with None ]))) ≡
      through (through span (join (piece_spans (length out) q))) (join (piece_spans (length (out ++ text_of q)) (left_with (kept_next k kept own (has_pieces q)))))
  kid_spanned left_with kept own q out span =
      let rest : List Piece = left_with (kept_next k kept own (has_pieces q)) in
      ap (λ ss. through span (join ss)) (kid_spans k left_with kept own q (length out)) ∙
      ap (λ at. through span (join (piece_spans (length out) q ++ piece_spans at rest))) (sym (length-append out (text_of q))) ∙
      ap (through span) (join-append (piece_spans (length out) q) (piece_spans (length (out ++ text_of q)) rest)) ∙
      through_assoc span (join (piece_spans (length out) q)) (join (piece_spans (length (out ++ text_of q)) rest))

  next_within : (kept : Option Place) (own : Place) (b : Bool) → Within kept i → own.indentation ≤ i → Within (kept_next k kept own b) i
  next_within kept own true h l = tt
  next_within kept own false h l = after_within k i kept own h l

  and_right : (a b : Bool) → (a && b) ≡ true → b ≡ true
  and_right true b h = h
  and_right false b h = cc

  pub walk_kid : (c : Class) (items : List Item) (t : Plain) (kids : List Plain) (n : ℕ) (kept : Option Place) (out : List ℕ) (span : Option Span) →
      Walk all old k w i (Kid c ∷ items) (t ∷ kids) n kept out span →
      Walk all old k w i items kids (n + 1) (kept_next k kept (own_of k i n (Kid c) kept) (has_pieces (pieces_of t (own_of k i n (Kid c) kept))))
      (out ++ text_of (pieces_of t (own_of k i n (Kid c) kept))) (through span (join (piece_spans (length out) (pieces_of t (own_of k i n (Kid c) kept)))))
  walk_kid c items t kids n kept out span h =
      let own : Place = own_of k i n (Kid c) kept in
      let q : List Piece = pieces_of t own in
      let left_with : Option Place → List Piece = λ kp. left k w i items kids (suc n) kp in
      let next : Option Place = kept_next k kept own (has_pieces q) in
      rw (add-one n) record {
        text = h.text ∙ ap (λ bs. out ++ bs) (kid_text left_with kept own q) ∙ sym (append_assoc out (text_of q) (text_of (left_with next)));
        spanned = h.spanned ∙ kid_spanned left_with kept own q out span;
        fits = and_right (has c t.kind) (fits items (map kind_of kids)) h.fits;
        within = next_within kept own (has_pieces q) h.within (own_of-within k i n (Kid c) kept h.within);
      }

-- where an item is a kid, a kid is left
pub kid_there : (c : Class) (items : List Item) (kids : List Plain) (number : ℕ) → fits (Kid c ∷ items) (map kind_of (drop number kids)) ≡ true → number < length kids
kid_there c items [] zero h = cc
kid_there c items [] (suc number) h = cc
kid_there c items (t ∷ kids) zero h = omega arith
kid_there c items (t ∷ kids) (suc number) h = omega (arith, kid_there c items kids number h)

-- the item with a number, before the items behind it
pub item_at : (items : List Item) (n : ℕ) (x d : Item) → n < length items → get_or items n d ≡ x → drop n items ≡ x ∷ drop (n + 1) items
item_at items n x d l e = drop_more items n d l ∙ ap (λ y. y ∷ drop (n + 1) items) e

pub kid_at : (kids : List Plain) (n : ℕ) (t : Plain) → n < length kids → get_or kids n t ≡ t → drop n kids ≡ t ∷ drop (n + 1) kids
kid_at kids n t l e = drop_more kids n t l ∙ ap (λ y. y ∷ drop (n + 1) kids) e

pub own_is : (k : Kind) (i n : ℕ) (kept : Option Place) (x y : Item) (own : Place) → own ≡ own_of k i n x kept → x ≡ y → own ≡ own_of k i n y kept
own_is k i n kept x y own e f = e ∙ ap (λ z. own_of k i n z kept) f

indentation-le : (s : Spacing) (n : ℕ) → spacing.indentation s n ≤ n + 2
indentation-le Deeper n = omega arith
indentation-le Tight n = omega arith
indentation-le Space n = omega arith
indentation-le Line n = omega arith

le-indentation : (s : Spacing) (n : ℕ) → n ≤ spacing.indentation s n
le-indentation Deeper n = omega arith
le-indentation Tight n = omega arith
le-indentation Space n = omega arith
le-indentation Line n = omega arith

-- a place within a node is not far in
pub own_small : (p : Place) (i : ℕ) (s : Spacing) (kept : Option Place) (own : Place) →
    i ≡ inner p → Within kept i → own ≡ or_own kept (place s i) → own.indentation ≤ p.indentation + 2
own_small p i s kept own e h f =
    let l : (or_own kept (place s i)).indentation ≤ i = own_within kept (place s i) i h (omega arith) in
    omega (arith, l, indentation-le p.spacing p.indentation, e, ap (λ (q : Place). q.indentation) f)

module _ (all : List Piece) (old : List ℕ) (k : Kind) (w : List ℕ) (i : ℕ) (items : List Item) (kids : List Plain) (n number : ℕ) (kept : Option Place) (out : List ℕ) (span : Option Span)
    (number' : ℕ) (kept' : Option Place) (out' : List ℕ) (span' : Option Span) (own : Place) (printed : Option Span)
    (h : Walk all old k w i (drop n items) (drop number kids) n kept out span)
    (ek : kept' ≡ kept_next k kept own (is_some printed)) (es : span' ≡ through span printed) where
  pub walked_literal : (x : Lexeme) → drop n items ≡ Literal x ∷ drop (n + 1) items → own ≡ own_of k i n (Literal x) kept →
      printed ≡ Some (symbol_span (length out) (gap_at own) (spelling_of x ++ [])) → number' ≡ number → out' ≡ out ++ (gap_at own ++ (spelling_of x ++ [])) →
      Walk all old k w i (drop (n + 1) items) (drop number' kids) (n + 1) kept' out' span'
  walked_literal x ei eo ep en et =
      rw (en, ek, es, et, ep, eo) (walk_literal all old k w i x (drop (n + 1) items) (drop number kids) n kept out span (rw ei at h))

  pub walked_word : (x : Lexeme) → drop n items ≡ Word x ∷ drop (n + 1) items → own ≡ own_of k i n (Word x) kept →
      printed ≡ Some (symbol_span (length out) (gap_at own) (spelling_of x ++ w)) → number' ≡ number → out' ≡ out ++ (gap_at own ++ (spelling_of x ++ w)) →
      Walk all old k w i (drop (n + 1) items) (drop number' kids) (n + 1) kept' out' span'
  walked_word x ei eo ep en et =
      rw (en, ek, es, et, ep, eo) (walk_word all old k w i x (drop (n + 1) items) (drop number kids) n kept out span (rw ei at h))

  pub walked_kid : (c : Class) (t : Plain) → drop n items ≡ Kid c ∷ drop (n + 1) items → own ≡ own_of k i n (Kid c) kept →
      drop number kids ≡ t ∷ drop (number + 1) kids → printed ≡ join (piece_spans (length out) (pieces_of t own)) → number' ≡ number + 1 → out' ≡ out ++ text_of (pieces_of t own) →
      Walk all old k w i (drop (n + 1) items) (drop number' kids) (n + 1) kept' out' span'
  walked_kid c t ei eo ed ep en et =
      rw (en, ek, es, et, ep, has_span (length out) (pieces_of t own), eo) (walk_kid all old k w i c (drop (n + 1) items) t (drop (number + 1) kids) n kept out span (rw (ei, ed) at h))

-- at the end all is printed
pub walked_all : (all : List Piece) (old : List ℕ) (k : Kind) (w : List ℕ) (i : ℕ) (items : List Item) (kids : List Plain) (n : ℕ) (kept : Option Place) (out : List ℕ) (span : Option Span) →
    items ≡ [] → Walk all old k w i items kids n kept out span → (out ≡ old ++ text_of all) × (span ≡ join (piece_spans (length old) all))
walked_all all old k w i items kids n kept out span e h =
    let g : Walk all old k w i [] kids n kept out span = rw e at h in
    (sym (g.text ∙ append-nil out), sym (g.spanned ∙ through_none span))

-- at first the notes are printed
behind_within : (ns : List (List ℕ)) (p : Place) → Within (Some (behind ns p)) (inner p)
behind_within [] p = le-indentation p.spacing p.indentation
behind_within (n ∷ ns) p = omega arith

-- what is left then
notes_left : (t : Plain) (p : Place) (is : List Item) → layout t.kind t.word (length (kids_of t)) ≡ Some is →
    arrange_some t.kind (layout t.kind t.word (count t.kids)) t.word (printers t.kids) (behind t.notes p) ≡ left t.kind t.word (inner p) is (kids_of t) 0 (Some (behind t.notes p))
notes_left t p is e = left-layout t (behind t.notes p) is e ∙ ap (arrange t.kind 0 is t.word (map pieces_of (kids_of t)) (Some (behind t.notes p))) (inner-behind t.notes p)

pub spans_left : (t : Plain) (p : Place) (is : List Item) (old : List ℕ) → layout t.kind t.word (length (kids_of t)) ≡ Some is →
    piece_spans (length old) (pieces_of t p) ≡ piece_spans (length (old ++ note_text t.notes p)) (left t.kind t.word (inner p) is (kids_of t) 0 (Some (behind t.notes p)))
spans_left t p is old e =
    let some : List Piece = arrange_some t.kind (layout t.kind t.word (count t.kids)) t.word (printers t.kids) (behind t.notes p) in
    spans-pieces t p (length old) ∙ ap (λ at. piece_spans at some) (sym (length-append old (note_text t.notes p))) ∙ ap (piece_spans (length (old ++ note_text t.notes p))) (notes_left t p is e)

pub starts : (t : Plain) (p : Place) (is : List Item) (old out : List ℕ) (kept : Place) → IsProper t → layout t.kind t.word (length (kids_of t)) ≡ Some is →
    out ≡ old ++ note_text t.notes p → kept ≡ behind t.notes p →
    Walk (pieces_of t p) old t.kind t.word (inner p) is (kids_of t) 0 (Some kept) out None
starts t p is old out kept h e eo ek =
    let some : List Piece = arrange_some t.kind (layout t.kind t.word (count t.kids)) t.word (printers t.kids) (behind t.notes p) in
    rw (eo, ek) record {
      text = ap (λ bs. old ++ bs) (text_of-pieces t p h) ∙ sym (append_assoc old (note_text t.notes p) (text_of some)) ∙ ap (λ ps. (old ++ note_text t.notes p) ++ text_of ps) (notes_left t p is e);
      spanned = ap join (spans_left t p is old e);
      fits = fitting t is h e;
      within = behind_within t.notes p;
    }

-- one more note is printed
pub note_push : (ns : List (List ℕ)) (n : List ℕ) (p : Place) → note_text (ns ++ n ∷ []) p ≡ note_text ns p ++ (gap_at (behind ns p) ++ n)
note_push [] n p = append-nil (gap_at p ++ n)
note_push (m ∷ ns) n p =
    ap (λ bs. gap_at p ++ m ++ bs) (note_push ns n (next_line p) ∙ ap (λ q. note_text ns (next_line p) ++ (gap_at q ++ n)) (behind_line ns p))
    ∙ sym (append_assoc (gap_at p ++ m) (note_text ns (next_line p)) (gap_at (next_line p) ++ n))
  where
    behind_line : (ms : List (List ℕ)) (q : Place) → behind ms (next_line q) ≡ next_line q
    behind_line [] q = refl
    behind_line (k ∷ ms) q = refl

pub behind_push : (ns : List (List ℕ)) (n : List ℕ) (p : Place) → behind (ns ++ n ∷ []) p ≡ next_line (behind ns p)
behind_push [] n p = refl
behind_push (m ∷ ns) n p = refl

-- which is the case in a loop over them
pub notes_more : (ns : List (List ℕ)) (n v : List ℕ) (i : ℕ) (p at : Place) (old before spaced after : List ℕ) → i < length ns → get_or ns i n ≡ n → v ≡ n →
    before ≡ old ++ note_text (take i ns) p → at ≡ behind (take i ns) p → spaced ≡ before ++ gap_at at → after ≡ spaced ++ v →
    after ≡ old ++ note_text (take (i + 1) ns) p
notes_more ns n v i p at old before spaced after l e ev eb ea es ef =
    let more : take (i + 1) ns ≡ take i ns ++ n ∷ [] = take_more ns i n l ∙ ap (λ m. take i ns ++ m ∷ []) e in
    let done : List ℕ = note_text (take i ns) p in
    let now : after ≡ ((old ++ done) ++ gap_at (behind (take i ns) p)) ++ n =
    ef ∙ ap (λ bs. spaced ++ bs) ev ∙ ap (λ bs. bs ++ n) (es ∙ ap (λ bs. bs ++ gap_at at) eb ∙ ap (λ q. (old ++ done) ++ gap_at q) ea) in
    now ∙ append_assoc (old ++ done) (gap_at (behind (take i ns) p)) n ∙ append_assoc old done (gap_at (behind (take i ns) p) ++ n)
    ∙ ap (λ bs. old ++ bs) (sym (note_push (take i ns) n p)) ∙ ap (λ ms. old ++ note_text ms p) (sym more)

pub behind_more : (ns : List (List ℕ)) (n : List ℕ) (i : ℕ) (p at : Place) (k : ℕ) → i < length ns → at ≡ behind (take i ns) p → k ≡ inner at → place Line k ≡ behind (take (i + 1) ns) p
behind_more ns n i p at k l e ek =
    ap (place Line) (ek ∙ ap inner e) ∙ sym (behind_push (take i ns) (get_or ns i n) p) ∙ ap (λ ms. behind ms p) (sym (take_more ns i n l))
