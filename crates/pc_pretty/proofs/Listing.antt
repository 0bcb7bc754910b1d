-- Listing the spans below a node item by item: what is listed so far, and what is left, make the whole list.
use Rattle.std.proofs.Common.{◌≡◌, ℕ, ◌+◌, ◌≤◌, ◌-◌, suc, true, List, [], ◌∷◌, ◌++◌, map, drop, length, set, Option, Some, None, refl, ap, sym, ◌∙◌, append_assoc, append-nil, add-one, add-zero, length-append, arith}
use Rattle.std.proofs.Math.Seq.{set-append_seam}
use Rattle.std.proofs.lemmas.Bool.{and_parts}
use Rattle.pc_syntax.specs.declared.kind.Kind.{Kind}
use Rattle.pc_syntax.specs.declared.lexeme.Lexeme.{Lexeme}
use Rattle.pc_syntax.specs.declared.class.Class.{Class}
use Rattle.pc_syntax.specs.declared.item.Item.{Item}
use Rattle.pc_syntax.specs.declared.item.Item.TheVariants.{Literal, Word, Kid}
use Rattle.pc_syntax.specs.Plain.{Forest, Nil, Cons, Plain, trees_of, kids_of, count}
use Rattle.pc_syntax.specs.PartsLaws.{length-kids_of}
use Rattle.pc_syntax.specs.Layout.{layout}
use Rattle.pc_syntax.specs.Classes.{has}
use Rattle.pc_syntax.specs.Symbols.{fill, fill_some, texts, symbols, symbols_of}
use Rattle.pc_syntax.specs.WellFormed.{fits, IsProper}
use Rattle.pc_lex.specs.declared.symbol.Span.{Span}
use Rattle.pc_pretty.specs.Spans.{symbol_count}
use Rattle.pc_pretty.specs.Preorder.{Lister, Spanner, listed, listed_some, node_spans, listers, spans_of}
use Rattle.pc_pretty.proofs.Walks.{kind_of, fitting}

-- how many symbols a tree has, and its lister
abbrev pub lister : Spanner → Plain → ℕ × Lister
lister span t = (symbol_count t, spans_of span t)

pub listers-is : (span : Spanner) (ts : Forest) → listers span ts ≡ map (lister span) (trees_of ts)
unfolding spans_of symbol_count
listers-is span Nil = refl
listers-is span (Cons k w ns ks ts) = ap (λ ps. (length (symbols k w ks), node_spans span k w ks (listers span ks)) ∷ ps) (listers-is span ts)

-- how many symbols these items have with these kids
abbrev pub filled : List Item → List Plain → ℕ
filled [] ts = 0
filled (Literal x ∷ is) ts = suc (filled is ts)
filled (Word x ∷ is) ts = suc (filled is ts)
filled (Kid c ∷ is) [] = 0
filled (Kid c ∷ is) (t ∷ ts) = symbol_count t + filled is ts

length-fill : (is : List Item) (w : List ℕ) (ts : Forest) → length (fill is w (texts ts)) ≡ filled is (trees_of ts)
unfolding symbol_count
length-fill [] w ts = refl
length-fill (Literal x ∷ is) w ts = ap suc (length-fill is w ts)
length-fill (Word x ∷ is) w ts = ap suc (length-fill is w ts)
length-fill (Kid c ∷ is) w Nil = refl
length-fill (Kid c ∷ is) w (Cons k v ns ks ts) = length-append (symbols k v ks) (fill is w (texts ts)) ∙ ap (λ n. length (symbols k v ks) + n) (length-fill is w ts)

module _ (t : Plain) (is : List Item) (e : layout t.kind t.word (length (kids_of t)) ≡ Some is) where
  here : layout t.kind t.word (count t.kids) ≡ Some is
  here = ap (layout t.kind t.word) (sym (length-kids_of t)) ∙ e

  -- a node has the symbols of its items
  pub symbol_count-layout : symbol_count t ≡ filled is (kids_of t)
  unfolding symbol_count kids_of
  symbol_count-layout = ap (λ o. length (fill_some o t.word (texts t.kids))) here ∙ length-fill is t.word t.kids

  -- and its spans are its own and those that its items list
  pub spans_of-layout : (span : Spanner) (n : ℕ) → spans_of span t n ≡ span n (symbol_count t) ∷ listed is (map (lister span) (kids_of t)) n
  unfolding symbol_count spans_of kids_of
  spans_of-layout span n =
      ap (λ o. span n (length (symbols_of t)) ∷ listed_some o (listers span t.kids) n) here ∙
      ap (λ ps. span n (length (symbols_of t)) ∷ listed is ps n) (listers-is span t.kids)

abbrev pub left : Spanner → List Item → List Plain → ℕ → List (Option Span)
left span items kids n = listed items (map (lister span) kids) n

pub record Walk (span : Spanner) (all : List (Option Span)) (total : ℕ) (items : List Item) (kids : List Plain) (end : ℕ) (out : List (Option Span)) : Type 0 where
  pub spans : all ≡ out ++ left span items kids end
  pub symbols : end + filled items kids ≡ total
  pub fits : fits items (map kind_of kids) ≡ true

module _ (span : Spanner) (all : List (Option Span)) (total : ℕ) (items : List Item) (kids : List Plain) (n number end : ℕ) (out : List (Option Span)) where
  pub walked_literal : (x : Lexeme) → Walk span all total (drop n items) (drop number kids) end out → drop n items ≡ Literal x ∷ drop (n + 1) items →
      Walk span all total (drop (n + 1) items) (drop number kids) (end + 1) out
  walked_literal x h e =
      let g : Walk span all total (Literal x ∷ drop (n + 1) items) (drop number kids) end out = rw e at h in
      rw (add-one end) record { spans = g.spans; symbols = omega (arith, g.symbols); fits = g.fits }

  pub walked_word : (x : Lexeme) → Walk span all total (drop n items) (drop number kids) end out → drop n items ≡ Word x ∷ drop (n + 1) items →
      Walk span all total (drop (n + 1) items) (drop number kids) (end + 1) out
  walked_word x h e =
      let g : Walk span all total (Word x ∷ drop (n + 1) items) (drop number kids) end out = rw e at h in
      rw (add-one end) record { spans = g.spans; symbols = omega (arith, g.symbols); fits = g.fits }

  pub walked_kid : (c : Class) (t : Plain) → Walk span all total (drop n items) (drop number kids) end out → drop n items ≡ Kid c ∷ drop (n + 1) items → drop number kids ≡ t ∷ drop (number + 1) kids →
      Walk span all total (drop (n + 1) items) (drop (number + 1) kids) (end + symbol_count t) (out ++ spans_of span t end)
  walked_kid c t h e d =
      let g : Walk span all total (Kid c ∷ drop (n + 1) items) (t ∷ drop (number + 1) kids) end out = rw (e, d) at h in
      record {
        spans = g.spans ∙ sym (append_assoc out (spans_of span t end) (left span (drop (n + 1) items) (drop (number + 1) kids) (end + symbol_count t)));
        symbols = omega (arith, g.symbols);
        fits = (and_parts (has c t.kind) (fits (drop (n + 1) items) (map kind_of (drop (number + 1) kids))) g.fits).1;
      }

  -- there is room for a kid's symbols
  pub room_for_kid : (c : Class) (t : Plain) → Walk span all total (drop n items) (drop number kids) end out → drop n items ≡ Kid c ∷ drop (n + 1) items → drop number kids ≡ t ∷ drop (number + 1) kids →
      end + symbol_count t ≤ total
  room_for_kid c t h e d =
      let g : Walk span all total (Kid c ∷ drop (n + 1) items) (t ∷ drop (number + 1) kids) end out = rw (e, d) at h in
      omega (arith, g.symbols)

  -- and for one symbol
  pub room_for_literal : (x : Lexeme) → Walk span all total (drop n items) (drop number kids) end out → drop n items ≡ Literal x ∷ drop (n + 1) items → end + 1 ≤ total
  room_for_literal x h e =
      let g : Walk span all total (Literal x ∷ drop (n + 1) items) (drop number kids) end out = rw e at h in
      omega (arith, g.symbols)

  pub room_for_word : (x : Lexeme) → Walk span all total (drop n items) (drop number kids) end out → drop n items ≡ Word x ∷ drop (n + 1) items → end + 1 ≤ total
  room_for_word x h e =
      let g : Walk span all total (Word x ∷ drop (n + 1) items) (drop number kids) end out = rw e at h in
      omega (arith, g.symbols)

  -- at the end all is listed
  pub walked_all : drop n items ≡ [] → Walk span all total (drop n items) (drop number kids) end out → (all ≡ out) × (end ≡ total)
  walked_all e h =
      let g : Walk span all total [] (drop number kids) end out = rw e at h in
      (g.spans ∙ append-nil out, sym (add-zero end) ∙ g.symbols)

-- the items that the code has are those of the node
pub layout_of : (t : Plain) (k : Kind) (w : List ℕ) (ks : List Plain) (is js : List Item) → layout k w (length ks) ≡ Some is → k ≡ t.kind → w ≡ t.word → ks ≡ kids_of t → js ≡ is →
    layout t.kind t.word (length (kids_of t)) ≡ Some js
layout_of t k w ks is js e a b d f = ap (λ l. layout t.kind t.word (length l)) (sym d) ∙ ap (λ j. layout j t.word (length ks)) (sym a) ∙ ap (λ v. layout k v (length ks)) (sym b) ∙ e ∙ ap Some (sym f)

module _ (span : Spanner) (t : Plain) (is : List Item) (ks : List Plain) (before : ℕ) (old out : List (Option Span)) (e : layout t.kind t.word (length (kids_of t)) ≡ Some is) (d : ks ≡ kids_of t) where
  -- before the first item
  pub starts : IsProper t → out ≡ old ++ None ∷ [] → Walk span ((old ++ None ∷ []) ++ left span is ks before) (before + symbol_count t) is ks before out
  starts p o = rw (o, d) record { spans = refl; symbols = ap (λ n. before + n) (sym (symbol_count-layout t is e)); fits = fitting t is p e }

  -- the node's own span takes the place that was kept for it
  pub own_set : (place end : ℕ) (own : Option Span) → (old ++ None ∷ []) ++ left span is ks before ≡ out → end ≡ before + symbol_count t → place ≡ length old → own ≡ span before (end - before) →
      set out place own ≡ old ++ spans_of span t before
  own_set place end own all whole at is_own =
      let size : end - before ≡ symbol_count t = omega (arith, whole) in
      ap (λ xs. set xs place own) (sym all) ∙ ap (λ n. set ((old ++ None ∷ []) ++ left span is ks before) n own) at ∙
      ap (λ xs. set xs (length old) own) (append_assoc old (None ∷ []) (left span is ks before)) ∙
      set-append_seam old None (left span is ks before) own ∙
      ap (λ x. old ++ x ∷ left span is ks before) (is_own ∙ ap (span before) size) ∙
      ap (λ qs. old ++ span before (symbol_count t) ∷ left span is qs before) d ∙
      ap (λ xs. old ++ xs) (sym (spans_of-layout t is e span before))
