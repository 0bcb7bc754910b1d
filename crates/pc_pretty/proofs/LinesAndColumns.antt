-- The place of a line and column, found byte by byte.
use Rattle.std.proofs.Common.{◌≡◌, ◌≢◌, ℕ, ◌+◌, ◌<◌, ◌≤◌, ◌==◌, ◌&&◌, suc, true, false, List, [], ◌∷◌, Option, Some, None, length, drop, get_or, refl, ap, sym, ◌∙◌, arith}
use Rattle.std.specs.Prelude.{option_map}
use Rattle.std.proofs.lemmas.List.{drop_more, drop_all}
use Rattle.std.proofs.lemmas.Bool.{ne_eqb}
use Rattle.pc_pretty.specs.Ranges.{place_at, place_from}

-- so many bytes further on
abbrev pub moved : ℕ → Option ℕ → Option ℕ
moved n o = option_map (λ at. n + at) o

moved_zero : (o : Option ℕ) → moved 0 o ≡ o
moved_zero None = refl
moved_zero (Some at) = ap Some (omega arith)

moved_suc : (n : ℕ) (o : Option ℕ) → moved n (option_map suc o) ≡ moved (n + 1) o
moved_suc n None = refl
moved_suc n (Some at) = ap Some (omega arith)

-- a place in the text is behind the bytes that were passed, of which the next stands on line `l` at column `c`
pub record Passed (text : List ℕ) (line column l c at : ℕ) : Type 0 where
  pub place : place_at text line column ≡ moved at (place_from l c (drop at text) line column)
  pub lines : l ≤ at + 1
  pub columns : c ≤ at + 1

pub passed_none : (text : List ℕ) (line column : ℕ) → Passed text line column 1 1 0
passed_none text line column = record { place = sym (moved_zero (place_from 1 1 text line column)); lines = omega arith; columns = omega arith }

module _ (l c b : ℕ) (bs : List ℕ) (line column n : ℕ) where
  place_here : (l == line && c == column) ≡ true → moved n (place_from l c (b ∷ bs) line column) ≡ Some n
  unfolding place_from
  place_here e = rw e (ap Some (omega arith))

  place_feed : (l == line && c == column) ≡ false → b ≡ 10 → moved n (place_from l c (b ∷ bs) line column) ≡ moved (n + 1) (place_from (l + 1) 1 bs line column)
  unfolding place_from
  place_feed e f = rw (e, f) (moved_suc n (place_from (l + 1) 1 bs line column))

  place_next : (l == line && c == column) ≡ false → b ≢ 10 → moved n (place_from l c (b ∷ bs) line column) ≡ moved (n + 1) (place_from l (c + 1) bs line column)
  unfolding place_from
  place_next e f = rw (e, ne_eqb b 10 f) (moved_suc n (place_from l (c + 1) bs line column))

place_end : (l c line column n : ℕ) → moved n (place_from l c [] line column) ≡ None
unfolding place_from
place_end l c line column n = refl

module _ (text : List ℕ) (line column l c at : ℕ) (h : Passed text line column l c at) where
  pub found_here : at < length text → (l == line && c == column) ≡ true → Some at ≡ place_at text line column
  found_here i e = sym (h.place ∙ ap (λ bs. moved at (place_from l c bs line column)) (drop_more text at 0 i) ∙ place_here l c (get_or text at 0) (drop (at + 1) text) line column at e)

  pub passed_feed : at < length text → (l == line && c == column) ≡ false → get_or text at 0 ≡ 10 → Passed text line column (l + 1) 1 (at + 1)
  passed_feed i e f = record {
    place = h.place ∙ ap (λ bs. moved at (place_from l c bs line column)) (drop_more text at 0 i) ∙ place_feed l c (get_or text at 0) (drop (at + 1) text) line column at e f;
    lines = omega (arith, h.lines);
    columns = omega arith;
  }

  pub passed_next : at < length text → (l == line && c == column) ≡ false → get_or text at 0 ≢ 10 → Passed text line column l (c + 1) (at + 1)
  passed_next i e f = record {
    place = h.place ∙ ap (λ bs. moved at (place_from l c bs line column)) (drop_more text at 0 i) ∙ place_next l c (get_or text at 0) (drop (at + 1) text) line column at e f;
    lines = omega (arith, h.lines);
    columns = omega (arith, h.columns);
  }

  pub found_none : length text ≤ at → None ≡ place_at text line column
  found_none i = sym (h.place ∙ ap (λ bs. moved at (place_from l c bs line column)) (drop_all at text i) ∙ place_end l c line column at)
