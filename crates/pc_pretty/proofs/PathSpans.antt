-- The span of the node at a path stands in preorder behind those of the nodes before it.
use Rattle.std.proofs.Common.{◌≡◌, ℕ, ◌+◌, ◌-◌, ◌<◌, zero, suc, true, List, [], ◌∷◌, ◌++◌, map, take, length, Option, Some, None, refl, ap, sym, subst, ◌∙◌, add-zero, zero-add, length-append, sum_by, arith}
use Rattle.std.specs.Prelude.{slice_get, option_map, option_and_then}
use Rattle.std.specs.Option.{option_map_or}
use Rattle.std.proofs.lemmas.Bool.{and_parts}
use Rattle.std.proofs.lemmas.Option.{same_Some, slice_get_within}
use Rattle.std.proofs.lemmas.List.Sums.{sum_by-cons}
use Rattle.pc_syntax.specs.declared.kind.Kind.{Kind}
use Rattle.pc_syntax.specs.declared.item.Item.{Item}
use Rattle.pc_syntax.specs.declared.item.Item.TheVariants.{Literal, Word, Kid}
use Rattle.pc_syntax.specs.Plain.{Forest, Nil, Cons, Plain, trees_of, kids_of, count, kinds}
use Rattle.pc_syntax.specs.PartsLaws.{length-kids_of, kids_of-is, size_of-kids}
use Rattle.pc_syntax.specs.Layout.{layout}
use Rattle.pc_syntax.specs.Classes.{has}
use Rattle.pc_syntax.specs.Places.{at}
use Rattle.pc_syntax.specs.WellFormed.{fits, fits_some, WellFormed, IsWellFormed, size_of}
use Rattle.pc_lex.specs.declared.symbol.Span.{Span}
use Rattle.pc_pretty.specs.declared.spacing.Spacing.TheVariants.{Tight}
use Rattle.pc_pretty.specs.Printed.{Piece, place, pieces_of}
use Rattle.pc_pretty.specs.Spans.{symbols_span, span_at, symbol_count, before_kid, before_kid_some, symbols_before_kid, symbols_before}
use Rattle.pc_pretty.specs.Preorder.{Spanner, listed, spans_of, text_spans, nodes_before}
use Rattle.pc_pretty.proofs.Walks.{kind_of, kinds-is}
use Rattle.pc_pretty.proofs.Listing.{lister, spans_of-layout}

-- an element behind another list
slice_get-behind : {X : Type 0} (xs ys : List X) (n i : ℕ) → n ≡ length xs → slice_get (xs ++ ys) (n + i) ≡ slice_get ys i
slice_get-behind [] ys n i e = let m : n + i ≡ i = omega (arith, e) in rw m refl
slice_get-behind (x ∷ xs) ys zero i e = cc
slice_get-behind (x ∷ xs) ys (suc n) i e =
    let m : suc n + i ≡ suc (n + i) = omega arith in
    rw m (slice_get-behind xs ys n i (omega (arith, e)))

slice_get-before : {X : Type 0} (xs ys : List X) (i : ℕ) → i < length xs → slice_get (xs ++ ys) i ≡ slice_get xs i
slice_get-before [] ys i l = absurd (omega arith)
slice_get-before (x ∷ xs) ys zero l = refl
slice_get-before (x ∷ xs) ys (suc i) l = slice_get-before xs ys i (omega arith)

-- a node has as many spans as there are nodes
abbrev AllSized : Spanner → List Plain → Type 0
AllSized span [] = Unit {0}
AllSized span (t ∷ ts) = ((n : ℕ) → length (spans_of span t n) ≡ size_of t) × AllSized span ts

listed-length : (span : Spanner) (is : List Item) (ts : List Plain) (n : ℕ) → fits is (map kind_of ts) ≡ true → AllSized span ts → length (listed is (map (lister span) ts) n) ≡ sum_by size_of ts
listed-length span [] [] n h all = refl
listed-length span [] (t ∷ ts) n h all = cc
listed-length span (Literal x ∷ is) ts n h all = listed-length span is ts (suc n) h all
listed-length span (Word x ∷ is) ts n h all = listed-length span is ts (suc n) h all
listed-length span (Kid c ∷ is) [] n h all = cc
listed-length span (Kid c ∷ is) (t ∷ ts) n h all =
    let more = listed-length span is ts (n + symbol_count t) (and_parts (has c t.kind) (fits is (map kind_of ts)) h).1 all.1 in
    omega (arith, more, all.0 n, length-append (spans_of span t n) (listed is (map (lister span) ts) (n + symbol_count t)), sum_by-cons size_of t ts)

row_of : (o : Option (List Item)) (ks : List Kind) → fits_some o ks ≡ true → (is : List Item) × (o ≡ Some is) × (fits is ks ≡ true)
row_of None ks h = cc
row_of (Some is) ks h = (is, refl, h)

-- the items of a well-formed node, and that its kids fit
pub record Row (t : Plain) : Type 0 where
  pub items : List Item
  pub laid : layout t.kind t.word (length (kids_of t)) ≡ Some items
  pub fits : fits items (map kind_of (kids_of t)) ≡ true

pub row : (t : Plain) → IsWellFormed t → Row t
unfolding kids_of
row t h =
    let found : (is : List Item) × (layout t.kind t.word (count t.kids) ≡ Some is) × (fits is (kinds t.kids) ≡ true) = row_of (layout t.kind t.word (count t.kids)) (kinds t.kids) h.0 in
    record {
      items = found.0;
      laid = ap (layout t.kind t.word) (length-kids_of t) ∙ found.1;
      fits = ap (fits found.0) (sym (kinds-is t.kids)) ∙ found.2;
    }

node_sized : (span : Spanner) (t : Plain) (n : ℕ) → IsWellFormed t → AllSized span (kids_of t) → length (spans_of span t n) ≡ size_of t
node_sized span t n h all =
    let r : Row t = row t h in
    let below : length (listed r.items (map (lister span) (kids_of t)) n) ≡ sum_by size_of (kids_of t) = listed-length span r.items (kids_of t) n r.fits all in
    let whole : length (spans_of span t n) ≡ suc (length (listed r.items (map (lister span) (kids_of t)) n)) = ap length (spans_of-layout t r.items r.laid span n) in
    omega (arith, whole, below, size_of-kids t)

all_sized : (span : Spanner) (ts : Forest) → WellFormed ts → AllSized span (trees_of ts)
unfolding kids_of
all_sized span Nil h = tt
all_sized span (Cons k w ns ks ts) h =
    (λ n. node_sized span (record { kind = k; word = w; notes = ns; kids = ks }) n (h.0, h.1, h.2, h.3, tt) (all_sized span ks h.3), all_sized span ts h.4)

kid_formed : (ts : Forest) (j : ℕ) (k : Plain) → WellFormed ts → slice_get (trees_of ts) j ≡ Some k → IsWellFormed k
kid_formed Nil j k h e = cc
kid_formed (Cons l w ns ks ts) zero k h e = subst IsWellFormed (same_Some (record { kind = l; word = w; notes = ns; kids = ks }) k e) (h.0, h.1, h.2, h.3, tt)
kid_formed (Cons l w ns ks ts) (suc j) k h e = kid_formed ts j k h.4 e

-- a kid of a well-formed node is well formed
pub formed_kid : (t k : Plain) (j : ℕ) → IsWellFormed t → slice_get (kids_of t) j ≡ Some k → IsWellFormed k
unfolding kids_of
formed_kid t k j h e = kid_formed t.kids j k h.3 e

-- the spans of a kid among those of all kids
listed-kid : (span : Spanner) (is : List Item) (ts : List Plain) (n j i : ℕ) (k : Plain) → fits is (map kind_of ts) ≡ true → AllSized span ts → slice_get ts j ≡ Some k → i < size_of k →
    slice_get (listed is (map (lister span) ts) n) (sum_by size_of (take j ts) + i) ≡ slice_get (spans_of span k (n + before_kid is (map symbol_count ts) j)) i
listed-kid span [] [] n j i k h all e l = cc
listed-kid span [] (t ∷ ts) n j i k h all e l = cc
listed-kid span (Literal x ∷ is) ts n j i k h all e l =
    let m : suc n + before_kid is (map symbol_count ts) j ≡ n + suc (before_kid is (map symbol_count ts) j) = omega arith in
    listed-kid span is ts (suc n) j i k h all e l ∙ ap (λ b. slice_get (spans_of span k b) i) m
listed-kid span (Word x ∷ is) ts n j i k h all e l =
    let m : suc n + before_kid is (map symbol_count ts) j ≡ n + suc (before_kid is (map symbol_count ts) j) = omega arith in
    listed-kid span is ts (suc n) j i k h all e l ∙ ap (λ b. slice_get (spans_of span k b) i) m
listed-kid span (Kid c ∷ is) [] n j i k h all e l = cc
listed-kid span (Kid c ∷ is) (t ∷ ts) n zero i k h all e l =
    let same : t ≡ k = same_Some t k e in
    let here : sum_by size_of (take zero (t ∷ ts)) + i ≡ i = omega arith in
    let room : i < length (spans_of span t n) = omega (arith, all.0 n, l, ap size_of same) in
    ap (slice_get (spans_of span t n ++ listed is (map (lister span) ts) (n + symbol_count t))) here ∙
    slice_get-before (spans_of span t n) (listed is (map (lister span) ts) (n + symbol_count t)) i room ∙
    ap (λ u. slice_get (spans_of span u n) i) same ∙ ap (λ b. slice_get (spans_of span k b) i) (sym (add-zero n))
listed-kid span (Kid c ∷ is) (t ∷ ts) n (suc j) i k h all e l =
    let rest : List (Option Span) = listed is (map (lister span) ts) (n + symbol_count t) in
    let place : sum_by size_of (take (suc j) (t ∷ ts)) + i ≡ size_of t + (sum_by size_of (take j ts) + i) = omega (arith, sum_by-cons size_of t (take j ts)) in
    let m : n + symbol_count t + before_kid is (map symbol_count ts) j ≡ n + (symbol_count t + before_kid is (map symbol_count ts) j) = omega arith in
    ap (slice_get (spans_of span t n ++ rest)) place ∙
    slice_get-behind (spans_of span t n) rest (size_of t) (sum_by size_of (take j ts) + i) (sym (all.0 n)) ∙
    listed-kid span is ts (n + symbol_count t) j i k (and_parts (has c t.kind) (fits is (map kind_of ts)) h).1 all.1 e l ∙
    ap (λ b. slice_get (spans_of span k b) i) m

module _ (t : Plain) (h : IsWellFormed t) where
  sized_kids : (span : Spanner) → AllSized span (kids_of t)
  sized_kids span = rw (kids_of-is t) (all_sized span t.kids h.3)

  -- what stands before a kid, by the items
  pub before_kid-row : (j : ℕ) → symbols_before_kid t (suc j) ≡ before_kid (row t h).items (map symbol_count (kids_of t)) j
  unfolding symbols_before_kid
  before_kid-row j =
      let i : suc j - 1 ≡ j = omega arith in
      let e : layout t.kind t.word (count t.kids) ≡ Some (row t h).items = ap (layout t.kind t.word) (sym (length-kids_of t)) ∙ (row t h).laid in
      ap (λ o. before_kid_some o (map symbol_count (kids_of t)) (suc j - 1)) e ∙ ap (before_kid (row t h).items (map symbol_count (kids_of t))) i

  spans_of-kid : (span : Spanner) (n j i : ℕ) (k : Plain) → slice_get (kids_of t) j ≡ Some k → i < size_of k →
      slice_get (spans_of span t n) (1 + sum_by size_of (take (suc j - 1) (kids_of t)) + i) ≡ slice_get (spans_of span k (n + symbols_before_kid t (suc j))) i
  spans_of-kid span n j i k e l =
      let r : Row t = row t h in
      let less : suc j - 1 ≡ j = omega arith in
      let place : 1 + sum_by size_of (take (suc j - 1) (kids_of t)) + i ≡ suc (sum_by size_of (take j (kids_of t)) + i) = rw less (omega arith) in
      ap (slice_get (spans_of span t n)) place ∙
      ap (λ xs. slice_get xs (suc (sum_by size_of (take j (kids_of t)) + i))) (spans_of-layout t r.items r.laid span n) ∙
      listed-kid span r.items (kids_of t) n j i k r.fits (sized_kids span) e l ∙
      ap (λ b. slice_get (spans_of span k (n + b)) i) (sym (before_kid-row j))

  spans_of-own : (span : Spanner) (n : ℕ) → slice_get (spans_of span t n) 0 ≡ Some (span n (symbol_count t))
  spans_of-own span n = ap (λ xs. slice_get xs 0) (spans_of-layout t (row t h).items (row t h).laid span n)

sized : (span : Spanner) (t : Plain) (n : ℕ) → IsWellFormed t → length (spans_of span t n) ≡ size_of t
sized span t n h = (all_sized span (Cons t.kind t.word t.notes t.kids Nil) h).0 n

-- the span of the node at a path
pub path_span : (span : Spanner) (path : List ℕ) (t u : Plain) (n : ℕ) → IsWellFormed t → at path t ≡ Some u →
    slice_get (spans_of span t n) (nodes_before path t) ≡ Some (span (n + symbols_before path t) (symbol_count u))
path_span span [] t u n h e =
    let same : t ≡ u = same_Some t u e in
    spans_of-own t h span n ∙ ap (λ b. Some (span b (symbol_count t))) (sym (add-zero n)) ∙ ap (λ v. Some (span (n + 0) (symbol_count v))) same
path_span span (zero ∷ is) t u n h e = cc
path_span span (suc j ∷ is) t u n h e = go (slice_get (kids_of t) j) refl e (λ k m formed g. path_span span is k u m formed g)
  where
    go : (o : Option Plain) → slice_get (kids_of t) j ≡ o → option_and_then (at is) o ≡ Some u →
        ((k : Plain) (m : ℕ) → IsWellFormed k → at is k ≡ Some u → slice_get (spans_of span k m) (nodes_before is k) ≡ Some (span (m + symbols_before is k) (symbol_count u))) →
        slice_get (spans_of span t n) (1 + sum_by size_of (take (suc j - 1) (kids_of t)) + option_map_or (nodes_before is) o 0) ≡
        Some (span (n + (symbols_before_kid t (suc j) + option_map_or (symbols_before is) o 0)) (symbol_count u))
    go None f g deeper = cc
    go (Some k) f g deeper =
        let m : ℕ = n + symbols_before_kid t (suc j) in
        let formed : IsWellFormed k = formed_kid t k j h f in
        let more : slice_get (spans_of span k m) (nodes_before is k) ≡ Some (span (m + symbols_before is k) (symbol_count u)) = deeper k m formed g in
        let room : nodes_before is k < size_of k = omega (arith, slice_get_within (spans_of span k m) (nodes_before is k) (span (m + symbols_before is k) (symbol_count u)) more, sized span k m formed) in
        let sum : m + symbols_before is k ≡ n + (symbols_before_kid t (suc j) + symbols_before is k) = omega arith in
        spans_of-kid t h span n j (nodes_before is k) k f room ∙ more ∙ ap (λ b. Some (span b (symbol_count u))) sum

-- the text has a span, or none, for each node
pub text_spans-length : (t : Plain) → IsWellFormed t → length (text_spans t) ≡ size_of t
unfolding text_spans
text_spans-length t h = sized (symbols_span (pieces_of t (place Tight 0))) t 0 h

-- and that of a node is at its place
pub text_spans-at : (path : List ℕ) (t u : Plain) → IsWellFormed t → at path t ≡ Some u → slice_get (text_spans t) (nodes_before path t) ≡ Some (span_at path t)
unfolding text_spans span_at
text_spans-at path t u h e =
    let ps : List Piece = pieces_of t (place Tight 0) in
    path_span (symbols_span ps) path t u 0 h e ∙ ap (λ b. Some (symbols_span ps b (symbol_count u))) (zero-add (symbols_before path t)) ∙
    ap Some (sym (ap (option_and_then (λ node. symbols_span ps (symbols_before path t) (symbol_count node))) e))

-- no span where there is no node
pub span_at-none : (path : List ℕ) (t : Plain) → at path t ≡ None → None ≡ span_at path t
unfolding span_at
span_at-none path t e = sym (ap (option_and_then (λ node. symbols_span (pieces_of t (place Tight 0)) (symbols_before path t) (symbol_count node))) e)

-- the same by the place that was counted
pub counted_none : (path : List ℕ) (t : Plain) → None ≡ option_map (λ _. nodes_before path t) (at path t) → None ≡ span_at path t
counted_none path t e = go (at path t) refl e
  where
    go : (o : Option Plain) → at path t ≡ o → None ≡ option_map (λ _. nodes_before path t) o → None ≡ span_at path t
    go None f g = span_at-none path t f
    go (Some u) f g = cc

pub counted_some : (path : List ℕ) (t : Plain) (place : ℕ) → IsWellFormed t → Some place ≡ option_map (λ _. nodes_before path t) (at path t) → slice_get (text_spans t) place ≡ Some (span_at path t)
counted_some path t place h e = go (at path t) refl e
  where
    go : (o : Option Plain) → at path t ≡ o → Some place ≡ option_map (λ _. nodes_before path t) o → slice_get (text_spans t) place ≡ Some (span_at path t)
    go None f g = cc
    go (Some u) f g = ap (slice_get (text_spans t)) (same_Some place (nodes_before path t) g) ∙ text_spans-at path t u h f
