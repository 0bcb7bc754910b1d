-- A search from its start to its end.
use Rattle.std.proofs.Common.{◌≡◌, ℕ, zero, suc, ◌+◌, ◌<◌, Bool, true, false, List, [], ◌++◌, get_or, length, replicate, refl, sym, ◌∙◌, ap, subst, inl, inr, arith}
use Rattle.std.proofs.lemmas.List.{length-replicate, get_or-replicate}
use Rattle.std.proofs.lemmas.Bool.{true≢false}
use Rattle.pc_types.specs.Table.{Table}
use Rattle.pc_closing.specs.Whole.{is_whole_at, AreWhole}
use Rattle.pc_closing.specs.Search.{Marks, EachOf, trues, IsBad, AreCounted, AreMarked, AreUsed, IsFollowed}
use Rattle.pc_closing.specs.EndedLaws.{ended-right}
use Rattle.pc_closing.specs.Searched.{BadAt, Spreads, Gathers}

-- all types count as whole, and none was found
abbrev pub fresh : ℕ → Marks
fresh count = record { whole = replicate count true; found = [] }

trues-all : (count : ℕ) → trues (replicate count true) ≡ count
trues-all zero = refl
trues-all (suc count) = omega (arith, trues-all count)

fresh-bad : (count i : ℕ) → i < length (replicate count true) → IsBad (fresh count) i → ⊥
fresh-bad count i h b =
    let within : i < count = omega (arith, h, length-replicate count true) in
    true≢false (sym (get_or-replicate count i true false within) ∙ b)

pub fresh-marked : (Bad : ℕ → Type 0) (count : ℕ) → AreMarked Bad (fresh count)
fresh-marked Bad count = record {
  sound = λ i h b. absurd (fresh-bad count i h b);
  listed = λ i h b. absurd (fresh-bad count i h b);
  bad = tt;
  count = omega (arith, trues-all count, length-replicate count true);
}

-- no type leads to it
abbrev none : List ℕ
none = []

fresh-none : (count k : ℕ) → get_or (replicate count none) k none ≡ none
fresh-none zero k = refl
fresh-none (suc count) zero = refl
fresh-none (suc count) (suc k) = fresh-none count k

pub fresh-used : (Bad : ℕ → Type 0) (count : ℕ) → AreUsed Bad (replicate count [])
fresh-used Bad count k b = subst (EachOf Bad) (sym (fresh-none count k)) tt

-- what was noted counts each type that was found once
pub gathered-counts : (flags : List Bool) (table : Table) (count : ℕ) (us vs : List (List ℕ)) (m n : Marks) → m ≡ fresh count → Gathers flags table us vs m n (length us) → AreCounted n
gathered-counts flags table count us vs m n e g = (g.moves.marked (subst (AreMarked (BadAt table (length flags))) (sym e) (fresh-marked (BadAt table (length flags)) count))).count

followed-on : (flags : List Bool) (table : Table) (us : List (List ℕ)) (m n : Marks) (i : ℕ) → ((k : ℕ) → IsBad m k → IsBad n k) → IsFollowed flags table us m i → IsFollowed flags table us n i
followed-on flags table us m n i f (inl b) = inl (f i b)
followed-on flags table us m n i f (inr l) = inr l

-- the flags that come out are right
pub search-right : (flags : List Bool) (table : Table) (count : ℕ) (us vs : List (List ℕ)) (m n o : Marks) → AreWhole table flags → us ≡ replicate count [] → m ≡ fresh count →
    Gathers flags table us vs m n (length us) → Spreads vs n o (length o.found) → AreWhole table (flags ++ o.whole)
search-right flags table count us vs m n o right eu em g s =
    let Bad = BadAt table (length flags) in
    let marked = g.moves.marked (subst (AreMarked Bad) (sym em) (fresh-marked Bad count)) in
    let used = g.moves.used (subst (AreUsed Bad) (sym eu) (fresh-used Bad count)) in
    let users : length us ≡ count = ap (λ (l : List (List ℕ)). length l) eu ∙ length-replicate count [] in
    let marks : length m.whole ≡ count = ap (λ (p : Marks). length p.whole) em ∙ length-replicate count true in
    ended-right flags table vs o (record {
      right = right;
      marked = s.marked (λ i. is_whole_at table (length flags + i)) used marked;
      followed = λ i h. followed-on flags table vs n o i s.later (g.followed i (omega (arith, h, s.marks, g.moves.marks, marks, users)));
      users = omega (arith, g.moves.users, users, s.marks, g.moves.marks, marks);
      spread = s.spread;
    })

pub search-count : (flags : List Bool) (table : Table) (count : ℕ) (us vs : List (List ℕ)) (m n o : Marks) → m ≡ fresh count → Gathers flags table us vs m n (length us) →
    Spreads vs n o (length o.found) → length o.whole ≡ count
search-count flags table count us vs m n o em g s =
    let marks : length m.whole ≡ count = ap (λ (p : Marks). length p.whole) em ∙ length-replicate count true in
    s.marks ∙ g.moves.marks ∙ marks
