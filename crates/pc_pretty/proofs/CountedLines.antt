-- The place of a line and column is that of the byte that stands there, by counting.
use Rattle.std.proofs.Common.{◌≡◌, ℕ, zero, suc, ◌+◌, ◌<◌, ◌==◌, true, false, ◌&&◌, if◌then◌else◌, List, [], ◌∷◌, Option, Some, None, length, take, refl, ap, sym, ◌∙◌, subst, arith, inl, inr}
use Rattle.std.specs.Prelude.{option_map}
use Rattle.std.proofs.lemmas.Bool.{cases_Bool, and_parts, and_from, eqb-true, eq-eqb, ne_eqb}
use Rattle.pc_pretty.specs.Ranges.{place_from}
use Rattle.pc_pretty.specs.LinesLaws.{line_feeds, last_line, StandsAt, PlacesAreCounted}

-- the column behind bytes of which the first stands at a given one
abbrev column_behind : ℕ → List ℕ → ℕ
column_behind c w = if line_feeds w == 0 then c + length w else length (last_line w) + 1

-- bytes without a line feed are all behind the last one
last_line-all : (w : List ℕ) → (line_feeds w == 0) ≡ true → last_line w ≡ w
last_line-all [] e = refl
last_line-all (b ∷ w) e = rw e refl

column-first : (w : List ℕ) → column_behind 1 w ≡ length (last_line w) + 1
column-first w = elim (cases_Bool (line_feeds w == 0)) [
  | inl e ↦ rw e (omega (arith, ap (λ (v : List ℕ). length v) (last_line-all w e)))
  | inr e ↦ rw e refl
]

feeds-feed : (b : ℕ) (w : List ℕ) → (b == 10) ≡ true → line_feeds (b ∷ w) ≡ suc (line_feeds w)
feeds-feed b w e = rw e refl

feeds-other : (b : ℕ) (w : List ℕ) → (b == 10) ≡ false → line_feeds (b ∷ w) ≡ line_feeds w
feeds-other b w e = rw e refl

suc_not_zero : (n : ℕ) → (suc n == 0) ≡ false
suc_not_zero n = ne_eqb (suc n) 0 (omega arith)

column-feed : (c b : ℕ) (w : List ℕ) → (b == 10) ≡ true → column_behind c (b ∷ w) ≡ column_behind 1 w
column-feed c b w e = rw (e, suc_not_zero (line_feeds w)) (sym (column-first w))

column-other : (c b : ℕ) (w : List ℕ) → (b == 10) ≡ false → column_behind c (b ∷ w) ≡ column_behind (c + 1) w
column-other c b w e = elim (cases_Bool (line_feeds w == 0)) [
  | inl f ↦ rw (e, f) (omega arith)
  | inr f ↦ rw (e, f) refl
]

-- where the first byte stands on the line `l` at the column `c`
record Counted (l c : ℕ) (bs : List ℕ) (line column at : ℕ) : Type 0 where
  within : at < length bs
  line_is : line ≡ l + line_feeds (take at bs)
  column_is : column ≡ column_behind c (take at bs)

mapped : (o : Option ℕ) (n : ℕ) → option_map suc o ≡ Some n → (m : ℕ) × (o ≡ Some m) × (n ≡ suc m)
mapped None n e = cc
mapped (Some m) n e = (m, refl, cc)

module _ (l c b : ℕ) (bs : List ℕ) (line column : ℕ) where
  -- the first byte
  counted_first : (l == line && c == column) ≡ true → Counted l c (b ∷ bs) line column 0
  counted_first e =
      let p : ((l == line) ≡ true) × ((c == column) ≡ true) = and_parts (l == line) (c == column) e in
      record { within = omega arith; line_is = omega (arith, eqb-true l line p.0); column_is = omega (arith, eqb-true c column p.1) }

  counted_feed : (at : ℕ) → (b == 10) ≡ true → Counted (l + 1) 1 bs line column at → Counted l c (b ∷ bs) line column (suc at)
  counted_feed at e h = record {
    within = omega (arith, h.within);
    line_is = omega (arith, h.line_is, feeds-feed b (take at bs) e);
    column_is = h.column_is ∙ sym (column-feed c b (take at bs) e);
  }

  counted_other : (at : ℕ) → (b == 10) ≡ false → Counted l (c + 1) bs line column at → Counted l c (b ∷ bs) line column (suc at)
  counted_other at e h = record {
    within = omega (arith, h.within);
    line_is = omega (arith, h.line_is, feeds-other b (take at bs) e);
    column_is = h.column_is ∙ sym (column-other c b (take at bs) e);
  }

  feed_counted : (at : ℕ) → (b == 10) ≡ true → Counted l c (b ∷ bs) line column (suc at) → Counted (l + 1) 1 bs line column at
  feed_counted at e h = record {
    within = omega (arith, h.within);
    line_is = omega (arith, h.line_is, feeds-feed b (take at bs) e);
    column_is = h.column_is ∙ column-feed c b (take at bs) e;
  }

  other_counted : (at : ℕ) → (b == 10) ≡ false → Counted l c (b ∷ bs) line column (suc at) → Counted l (c + 1) bs line column at
  other_counted at e h = record {
    within = omega (arith, h.within);
    line_is = omega (arith, h.line_is, feeds-other b (take at bs) e);
    column_is = h.column_is ∙ column-other c b (take at bs) e;
  }

  -- a later byte stands elsewhere
  not_first : (at : ℕ) → Counted l c (b ∷ bs) line column (suc at) → (l == line && c == column) ≡ true → ⊥
  not_first at h e =
      let p : ((l == line) ≡ true) × ((c == column) ≡ true) = and_parts (l == line) (c == column) e in
      let w : List ℕ = b ∷ take at bs in
      let lines : l ≡ line = eqb-true l line p.0 in
      let columns : c ≡ column = eqb-true c column p.1 in
      let none : line_feeds w ≡ 0 = omega (arith, h.line_is, lines) in
      let behind : column_behind c w ≡ c + length w = rw (eq-eqb (line_feeds w) 0 none) refl in
      omega (arith, h.column_is, behind, columns)

counted : (bs : List ℕ) (l c line column at : ℕ) → place_from l c bs line column ≡ Some at → Counted l c bs line column at
unfolding place_from
counted [] l c line column at e = cc
counted (b ∷ bs) l c line column at e = elim (cases_Bool (l == line && c == column)) [
  | inl t ↦
      let here : Some 0 ≡ Some at = rw t at e in
      let z : 0 ≡ at = cc in
      subst (λ (n : ℕ). Counted l c (b ∷ bs) line column n) z (counted_first l c b bs line column t)
  | inr f ↦ elim (cases_Bool (b == 10)) [
    | inl g ↦
        let rest : option_map suc (place_from (l + 1) 1 bs line column) ≡ Some at = rw (f, g) at e in
        let m = mapped (place_from (l + 1) 1 bs line column) at rest in
        subst (λ (n : ℕ). Counted l c (b ∷ bs) line column n) (sym m.2) (counted_feed l c b bs line column m.0 g (counted bs (l + 1) 1 line column m.0 m.1))
    | inr g ↦
        let rest : option_map suc (place_from l (c + 1) bs line column) ≡ Some at = rw (f, g) at e in
        let m = mapped (place_from l (c + 1) bs line column) at rest in
        subst (λ (n : ℕ). Counted l c (b ∷ bs) line column n) (sym m.2) (counted_other l c b bs line column m.0 g (counted bs l (c + 1) line column m.0 m.1))
  ]
]

placed : (bs : List ℕ) (l c line column at : ℕ) → Counted l c bs line column at → place_from l c bs line column ≡ Some at
unfolding place_from
placed [] l c line column at h = absurd (omega (arith, h.within))
placed (b ∷ bs) l c line column zero h =
    let test : (l == line && c == column) ≡ true = and_from (l == line) (c == column) (eq-eqb l line (omega (arith, h.line_is))) (eq-eqb c column (omega (arith, h.column_is))) in
    rw test refl
placed (b ∷ bs) l c line column (suc at) h = elim (cases_Bool (l == line && c == column)) [
  | inl t ↦ absurd (not_first l c b bs line column at h t)
  | inr f ↦ elim (cases_Bool (b == 10)) [
    | inl g ↦ rw (f, g) (ap (option_map suc) (placed bs (l + 1) 1 line column at (feed_counted l c b bs line column at g h)))
    | inr g ↦ rw (f, g) (ap (option_map suc) (placed bs l (c + 1) line column at (other_counted l c b bs line column at g h)))
  ]
]

pub places_are_counted : PlacesAreCounted
places_are_counted text line column at = (
  λ e. stands (counted text 1 1 line column at e),
  λ h. placed text 1 1 line column at (record { within = h.within; line_is = omega (arith, h.line_is); column_is = h.column_is ∙ sym (column-first (take at text)) }),
)
  where
    stands : Counted 1 1 text line column at → StandsAt text line column at
    stands h = record { within = h.within; line_is = omega (arith, h.line_is); column_is = h.column_is ∙ column-first (take at text) }
