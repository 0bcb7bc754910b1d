-- The span of a node holds those of the nodes below it.
use Rattle.std.proofs.Common.{◌≡◌, ℕ, ◌+◌, ◌<◌, ◌≤◌, zero, suc, List, [], ◌∷◌, ◌++◌, map, take, drop, length, Option, Some, None, refl, ap, sym, subst, ◌∙◌, inl, inr, append_assoc, append-nil, zero-add, length-append, true, arith}
use Rattle.std.specs.Prelude.{slice_get, option_and_then, IsSomeAnd}
use Rattle.std.specs.Option.{option_map_or}
use Rattle.std.proofs.lemmas.Bool.{and_parts, cases_order}
use Rattle.std.proofs.lemmas.Option.{same_Some}
use Rattle.pc_syntax.specs.declared.item.Item.{Item}
use Rattle.pc_syntax.specs.declared.item.Item.TheVariants.{Literal, Word, Kid}
use Rattle.pc_syntax.specs.Plain.{Plain, kids_of}
use Rattle.pc_syntax.specs.Parts.{kid_at}
use Rattle.pc_syntax.specs.Classes.{has}
use Rattle.pc_syntax.specs.Places.{at}
use Rattle.pc_syntax.specs.WellFormed.{fits, IsWellFormed}
use Rattle.pc_lex.specs.declared.symbol.Span.{Span}
use Rattle.pc_pretty.specs.declared.spacing.Spacing.TheVariants.{Tight}
use Rattle.pc_pretty.specs.Printed.{Piece, place, pieces_of, written, text_of}
use Rattle.pc_pretty.specs.Spans.{symbol_count, before_kid, symbols_before_kid, symbols_before, pieces_span, symbols_span, span_at}
use Rattle.pc_pretty.specs.Innermost.{Holds, HoldsAt}
use Rattle.pc_pretty.proofs.Walks.{kind_of, text_of-append}
use Rattle.pc_pretty.proofs.Listing.{filled, symbol_count-layout}
use Rattle.pc_pretty.proofs.PathSpans.{Row, row, formed_kid, before_kid-row}
use Rattle.pc_pretty.proofs.Stepping.{at-append}

-- where the symbol with a number begins, and where the text of so many symbols ends
abbrev begin : List Piece → ℕ → ℕ
begin [] n = 0
begin (p ∷ ps) zero = length p.gap
begin (p ∷ ps) (suc n) = length p.gap + length (written p.sym) + begin ps n

abbrev finish : List Piece → ℕ → ℕ
finish ps zero = 0
finish [] (suc n) = 0
finish (p ∷ ps) (suc n) = length p.gap + length (written p.sym) + finish ps n

begin-le : (ps : List Piece) (m n : ℕ) → m ≤ n → n < length ps → begin ps m ≤ begin ps n
begin-le [] m n l i = absurd (omega arith)
begin-le (p ∷ ps) zero zero l i = omega arith
begin-le (p ∷ ps) zero (suc n) l i = omega arith
begin-le (p ∷ ps) (suc m) zero l i = absurd (omega arith)
begin-le (p ∷ ps) (suc m) (suc n) l i = omega (arith, begin-le ps m n (omega arith) (omega arith))

finish-le : (ps : List Piece) (m n : ℕ) → m ≤ n → finish ps m ≤ finish ps n
finish-le ps zero n l = omega arith
finish-le [] (suc m) n l = omega arith
finish-le (p ∷ ps) (suc m) zero l = absurd (omega arith)
finish-le (p ∷ ps) (suc m) (suc n) l = omega (arith, finish-le ps m n (omega arith))

length-written : (p : Piece) (bs : List ℕ) → length (p.gap ++ written p.sym ++ bs) ≡ length p.gap + length (written p.sym) + length bs
length-written p bs = omega (arith, length-append (p.gap ++ written p.sym) bs, length-append p.gap (written p.sym))

finish-is : (ps : List Piece) (n : ℕ) → length (text_of (take n ps)) ≡ finish ps n
finish-is ps zero = refl
finish-is [] (suc n) = refl
finish-is (p ∷ ps) (suc n) = omega (arith, length-written p (text_of (take n ps)), finish-is ps n)

abbrev the_span : ℕ → ℕ → Option Span
the_span from to = Some (record { from = from; to = to })

-- a span that isn't empty, by numbers
symbols_span-is : (before ps : List Piece) (n m : ℕ) → n < length ps →
    pieces_span (before ++ take n ps) (take (suc m) (drop n ps)) ≡ the_span (length (text_of before) + begin ps n) (length (text_of before) + finish ps (n + suc m))
symbols_span-is before [] n m l = absurd (omega arith)
symbols_span-is before (p ∷ ps) zero m l =
    let none : before ++ [] ≡ before = append-nil before in
    let from : length (text_of (before ++ []) ++ p.gap) ≡ length (text_of before) + length p.gap = ap (λ xs. length (text_of xs ++ p.gap)) none ∙ length-append (text_of before) p.gap in
    let all : length (text_of ((before ++ []) ++ p ∷ take m ps)) ≡ length (text_of before) + finish (p ∷ ps) (0 + suc m) =
    ap (λ xs. length (text_of (xs ++ p ∷ take m ps))) none ∙ ap length (text_of-append before (p ∷ take m ps)) ∙ omega (arith, length-append (text_of before) (text_of (p ∷ take m ps)), finish-is (p ∷ ps) (suc m), ap (finish (p ∷ ps)) (zero-add (suc m))) in
    ap (λ x. the_span x (length (text_of ((before ++ []) ++ p ∷ take m ps)))) from ∙ ap (the_span (length (text_of before) + length p.gap)) all
symbols_span-is before (p ∷ ps) (suc n) m l =
    let shift : before ++ (p ∷ take n ps) ≡ (before ++ p ∷ []) ++ take n ps = sym (append_assoc before (p ∷ []) (take n ps)) in
    let size : length (text_of (before ++ p ∷ [])) ≡ length (text_of before) + (length p.gap + length (written p.sym)) =
    ap length (text_of-append before (p ∷ [])) ∙ omega (arith, length-append (text_of before) (text_of (p ∷ [])), length-written p []) in
    let from : length (text_of (before ++ p ∷ [])) + begin ps n ≡ length (text_of before) + (length p.gap + length (written p.sym) + begin ps n) = omega (arith, size) in
    let number : suc n + suc m ≡ suc (n + suc m) = omega arith in
    let to : length (text_of (before ++ p ∷ [])) + finish ps (n + suc m) ≡ length (text_of before) + finish (p ∷ ps) (suc n + suc m) = omega (arith, size, ap (finish (p ∷ ps)) number) in
    ap (λ xs. pieces_span xs (take (suc m) (drop n ps))) shift ∙ symbols_span-is (before ++ p ∷ []) ps n m (omega arith) ∙
    ap (λ x. the_span x (length (text_of (before ++ p ∷ [])) + finish ps (n + suc m))) from ∙ ap (the_span (length (text_of before) + (length p.gap + length (written p.sym) + begin ps n))) to

-- symbols that hold a span are there, and they are some
symbols_span-none : (before ps : List Piece) (n m : ℕ) → length ps ≤ n → pieces_span before (take m (drop n ps)) ≡ None
symbols_span-none before ps n zero l = refl
symbols_span-none before [] zero (suc m) l = refl
symbols_span-none before [] (suc n) (suc m) l = refl
symbols_span-none before (p ∷ ps) zero (suc m) l = absurd (omega arith)
symbols_span-none before (p ∷ ps) (suc n) (suc m) l = symbols_span-none before ps n (suc m) (omega arith)

abbrev HeldBy : Option Span → Span → Type 0
HeldBy o inner = IsSomeAnd o (λ outer. Holds outer inner)

-- more symbols hold what some of them hold
more_hold : (ps : List Piece) (n m k j : ℕ) (inner : Span) → n ≤ k → k + j ≤ n + m → HeldBy (symbols_span ps k j) inner → HeldBy (symbols_span ps n m) inner
more_hold ps n m k zero inner l r h = absurd h
more_hold ps n zero k (suc j) inner l r h = absurd (omega arith)
more_hold ps n (suc m) k (suc j) inner l r h = elim (cases_order k (length ps)) [
  | inl same ↦ absurd (subst (λ o. HeldBy o inner) (symbols_span-none (take k ps) ps k (suc j) (omega (arith, same))) h)
  | inr other ↦ elim other [
    | inl within ↦ held within
    | inr past ↦ absurd (subst (λ o. HeldBy o inner) (symbols_span-none (take k ps) ps k (suc j) (omega (arith, past))) h)
  ]
]
  where
    held : k < length ps → HeldBy (symbols_span ps n (suc m)) inner
    held within =
        let small : HeldBy (the_span (0 + begin ps k) (0 + finish ps (k + suc j))) inner = subst (λ o. HeldBy o inner) (symbols_span-is [] ps k j within) h in
        let inside : n < length ps = omega (arith, within, l) in
        let large : HeldBy (the_span (0 + begin ps n) (0 + finish ps (n + suc m))) inner = (omega (arith, small.0, begin-le ps n k l within), omega (arith, small.1, finish-le ps (k + suc j) (n + suc m) r)) in
        subst (λ o. HeldBy o inner) (sym (symbols_span-is [] ps n m inside)) large

-- a kid has some of the symbols of its node
kid-symbols : (is : List Item) (ts : List Plain) (j : ℕ) (k : Plain) → fits is (map kind_of ts) ≡ true → slice_get ts j ≡ Some k → before_kid is (map symbol_count ts) j + symbol_count k ≤ filled is ts
kid-symbols [] [] j k h e = cc
kid-symbols [] (t ∷ ts) j k h e = cc
kid-symbols (Literal x ∷ is) ts j k h e = omega (arith, kid-symbols is ts j k h e)
kid-symbols (Word x ∷ is) ts j k h e = omega (arith, kid-symbols is ts j k h e)
kid-symbols (Kid c ∷ is) [] j k h e = cc
kid-symbols (Kid c ∷ is) (t ∷ ts) zero k h e = omega (arith, ap symbol_count (same_Some t k e))
kid-symbols (Kid c ∷ is) (t ∷ ts) (suc j) k h e = omega (arith, kid-symbols is ts j k (and_parts (has c t.kind) (fits is (map kind_of ts)) h).1 e)

-- a node below has some of the symbols of the one above
below-symbols : (path : List ℕ) (t u : Plain) → IsWellFormed t → at path t ≡ Some u → symbols_before path t + symbol_count u ≤ symbol_count t
below-symbols [] t u h e = omega (arith, ap symbol_count (same_Some t u e))
below-symbols (zero ∷ is) t u h e = cc
below-symbols (suc j ∷ is) t u h e = go (slice_get (kids_of t) j) refl e (λ k formed g. below-symbols is k u formed g)
  where
    go : (o : Option Plain) → slice_get (kids_of t) j ≡ o → option_and_then (at is) o ≡ Some u →
        ((k : Plain) → IsWellFormed k → at is k ≡ Some u → symbols_before is k + symbol_count u ≤ symbol_count k) → symbols_before_kid t (suc j) + option_map_or (symbols_before is) o 0 + symbol_count u ≤ symbol_count t
    go None f g deeper = cc
    go (Some k) f g deeper =
        let r : Row t = row t h in
        let below : symbols_before is k + symbol_count u ≤ symbol_count k = deeper k (formed_kid t k j h f) g in
        omega (arith, below, kid-symbols r.items (kids_of t) j k r.fits f, before_kid-row t h j, symbol_count-layout t r.items r.laid)

symbols_before-append : (path rest : List ℕ) (t u : Plain) → at path t ≡ Some u → symbols_before (path ++ rest) t ≡ symbols_before path t + symbols_before rest u
symbols_before-append [] rest t u e = ap (symbols_before rest) (same_Some t u e) ∙ omega arith
symbols_before-append (i ∷ is) rest t u e = go (kid_at t i) e (λ k g. symbols_before-append is rest k u g)
  where
    go : (o : Option Plain) → option_and_then (at is) o ≡ Some u → ((k : Plain) → at is k ≡ Some u → symbols_before (is ++ rest) k ≡ symbols_before is k + symbols_before rest u) →
        symbols_before_kid t i + option_map_or (symbols_before (is ++ rest)) o 0 ≡ symbols_before_kid t i + option_map_or (symbols_before is) o 0 + symbols_before rest u
    go None g more = cc
    go (Some k) g more = omega (arith, more k g)

-- whether a node holds a span, by its symbols
abbrev HeldIn : Plain → Span → List ℕ → Option Plain → Type 0
HeldIn t inner path o = HeldBy (option_and_then (λ node. symbols_span (pieces_of t (place Tight 0)) (symbols_before path t) (symbol_count node)) o) inner

pub holds-parts : (t : Plain) (inner : Span) (path : List ℕ) → HoldsAt t inner path → HeldIn t inner path (at path t)
unfolding span_at
holds-parts t inner path h = h

pub holds-from : (t : Plain) (inner : Span) (path : List ℕ) → HeldIn t inner path (at path t) → HoldsAt t inner path
unfolding span_at
holds-from t inner path h = h

formed_at : (path : List ℕ) (t u : Plain) → IsWellFormed t → at path t ≡ Some u → IsWellFormed u
formed_at [] t u h e = subst IsWellFormed (same_Some t u e) h
formed_at (zero ∷ is) t u h e = cc
formed_at (suc j ∷ is) t u h e = go (slice_get (kids_of t) j) refl e (λ k formed g. formed_at is k u formed g)
  where
    go : (o : Option Plain) → slice_get (kids_of t) j ≡ o → option_and_then (at is) o ≡ Some u → ((k : Plain) → IsWellFormed k → at is k ≡ Some u → IsWellFormed u) → IsWellFormed u
    go None f g deeper = cc
    go (Some k) f g deeper = deeper k (formed_kid t k j h f) g

-- what a node below holds, the one above holds
pub holds-above : (t : Plain) (inner : Span) (path rest : List ℕ) → IsWellFormed t → HoldsAt t inner (path ++ rest) → HoldsAt t inner path
holds-above t inner path rest h held = go (at path t) refl
  where
    below : HeldIn t inner (path ++ rest) (option_and_then (at rest) (at path t))
    below = subst (HeldIn t inner (path ++ rest)) (at-append path rest t) (holds-parts t inner (path ++ rest) held)

    both : (u : Plain) → at path t ≡ Some u → (o : Option Plain) → at rest u ≡ o → HeldIn t inner (path ++ rest) o → HeldIn t inner path (Some u)
    both u e None g hold = absurd hold
    both u e (Some v) g hold =
        let less : symbols_before rest u + symbol_count v ≤ symbol_count u = below-symbols rest u v (formed_at path t u h e) g in
        let split : symbols_before (path ++ rest) t ≡ symbols_before path t + symbols_before rest u = symbols_before-append path rest t u e in
        more_hold (pieces_of t (place Tight 0)) (symbols_before path t) (symbol_count u) (symbols_before (path ++ rest) t) (symbol_count v) inner (omega (arith, split)) (omega (arith, split, less)) hold

    go : (o : Option Plain) → at path t ≡ o → HoldsAt t inner path
    go None e = absurd (subst (λ o. HeldIn t inner (path ++ rest) (option_and_then (at rest) o)) e below)
    go (Some u) e =
        holds-from t inner path (subst (HeldIn t inner path) (sym e) (both u e (at rest u) refl (subst (λ o. HeldIn t inner (path ++ rest) (option_and_then (at rest) o)) e below)))

-- a node that holds a span is there
pub holds-there : (t : Plain) (inner : Span) (path : List ℕ) → HoldsAt t inner path → (u : Plain) × (at path t ≡ Some u)
holds-there t inner path h = go (at path t) refl
  where
    go : (o : Option Plain) → at path t ≡ o → (u : Plain) × (at path t ≡ Some u)
    go None e = absurd (subst (HeldIn t inner path) e (holds-parts t inner path h))
    go (Some u) e = (u, e)
