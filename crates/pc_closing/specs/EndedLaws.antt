-- Once all that leads to a type that is not whole is found too, the types that still count as whole are whole.
use Rattle.std.proofs.Common.{◌≡◌, ◌⊎◌, ℕ, zero, suc, ◌+◌, ◌-◌, ◌<◌, ◌≤◌, Bool, true, false, List, [], ◌∷◌, ◌++◌, get_or, length, refl, sym, ◌∙◌, ap, subst, inl, inr, arith, length-append}
use Rattle.std.proofs.lemmas.Bool.{true≢false}
use Rattle.std.proofs.lemmas.List.{take_all, get_or_append_left, get_or-append_right}
use Rattle.pc_types.specs.Shapes.{Shape, NoMembers}
use Rattle.pc_types.specs.Table.{Table}
use Rattle.pc_closing.specs.Whole.{is_whole_in, is_whole_at, AreWhole, LeadsOn}
use Rattle.pc_closing.specs.WholeLaws.{whole-from, whole-parts, leads-more}
use Rattle.pc_closing.specs.Search.{Marks, IsAmong, EachOf, IsBad, AreMarked, IsSeen}
use Rattle.pc_closing.specs.MarksLaws.{each-at}
use Rattle.pc_closing.specs.Searched.{BadAt, AreSpread, AreFollowed}
use Rattle.pc_closing.specs.SpreadLaws.{less-or-not}

-- what is known once the search is at its end
pub record IsEnded (flags : List Bool) (table : Table) (us : List (List ℕ)) (m : Marks) : Type 0 where
  pub right : AreWhole table flags
  pub marked : AreMarked (BadAt table (length flags)) m
  pub followed : AreFollowed flags table us m (length m.whole)
  pub users : length us ≡ length m.whole
  pub spread : AreSpread us m (length m.found)

-- what counts as whole
record CountsAsWhole (flags : List Bool) (table : Table) (m : Marks) (s : Shape) : Type 0 where
  number : ℕ
  there : number < length m.whole
  is : get_or table.shapes (length flags + number) NoMembers ≡ s
  counts : get_or m.whole number false ≡ true

abbrev IsGood : List Bool → Table → Marks → Shape → Type 0
IsGood flags table m s = (is_whole_in table.domains s ≡ true) ⊎ CountsAsWhole flags table m s

among-within : (us : List (List ℕ)) (i k : ℕ) → IsAmong i (get_or us k []) → k < length us
among-within [] i k h = absurd h
among-within (u ∷ us) i zero h = omega arith
among-within (u ∷ us) i (suc k) h = omega (arith, among-within us i k h)

-- what leads to a type that doesn't count as whole doesn't either
spread-at : (flags : List Bool) (table : Table) (us : List (List ℕ)) (m : Marks) → IsEnded flags table us m → (i k : ℕ) → IsAmong i (get_or us k []) → IsBad m k → IsBad m i
spread-at flags table us m e i k a b =
    let within : k < length m.whole = omega (arith, among-within us i k a, e.users) in
    let all : EachOf (λ j. EachOf (IsBad m) (get_or us j [])) m.found =
    subst (EachOf (λ j. EachOf (IsBad m) (get_or us j []))) (take_all (length m.found) m.found (omega arith)) e.spread in
    each-at (IsBad m) (get_or us k []) i (each-at (λ j. EachOf (IsBad m) (get_or us j [])) m.found k all (e.marked.listed k within b)) a

-- what is taken account of is good
seen-good : (flags : List Bool) (table : Table) (us : List (List ℕ)) (m : Marks) → IsEnded flags table us m → (i : ℕ) → get_or m.whole i false ≡ true → (s : Shape) →
    IsSeen flags table.shapes us i s → IsGood flags table m s
seen-good flags table us m e i counts s h = elim h.seen_to [
  | inl p ↦ inl (subst (λ (u : Shape). is_whole_in table.domains u ≡ true) h.is (sym (e.right h.number p.0) ∙ p.1))
  | inr p ↦ by p.0 p.1 (get_or m.whole (h.number - length flags) false) refl
] where
  by : length flags ≤ h.number → IsAmong i (get_or us (h.number - length flags) []) → (b : Bool) → get_or m.whole (h.number - length flags) false ≡ b → IsGood flags table m s
  by past a true q =
      let same : length flags + (h.number - length flags) ≡ h.number = omega (arith, past) in
      inr (record {
        number = h.number - length flags;
        there = omega (arith, among-within us i (h.number - length flags) a, e.users);
        is = ap (λ (n : ℕ). get_or table.shapes n NoMembers) same ∙ h.is;
        counts = q;
      })
  by past a false q = absurd (true≢false (sym counts ∙ spread-at flags table us m e i (h.number - length flags) a q))

-- what is good leads to what is good
good-leads : (flags : List Bool) (table : Table) (us : List (List ℕ)) (m : Marks) → IsEnded flags table us m → (s : Shape) → IsGood flags table m s → LeadsOn (IsGood flags table m) table.domains s
good-leads flags table us m e s (inl w) = leads-more (λ u. is_whole_in table.domains u ≡ true) (IsGood flags table m) (λ u h. inl h) table.domains s (whole-parts table.domains s w)
good-leads flags table us m e s (inr c) = elim (e.followed c.number c.there) [
  | inl b ↦ absurd (true≢false (sym c.counts ∙ b))
  | inr l ↦ leads-more (IsSeen flags table.shapes us c.number) (IsGood flags table m) (seen-good flags table us m e c.number c.counts) table.domains s
      (subst (LeadsOn (IsSeen flags table.shapes us c.number) table.domains) c.is l)
]

-- so each flag of a new type is right
new-right : (flags : List Bool) (table : Table) (us : List (List ℕ)) (m : Marks) → IsEnded flags table us m → (i : ℕ) → i < length m.whole → get_or m.whole i false ≡ is_whole_at table (length flags + i)
new-right flags table us m e i h = by (get_or m.whole i false) refl where
  by : (b : Bool) → get_or m.whole i false ≡ b → b ≡ is_whole_at table (length flags + i)
  by true q =
      sym (whole-from (IsGood flags table m) table.domains (good-leads flags table us m e) (get_or table.shapes (length flags + i) NoMembers)
      (inr (record { number = i; there = h; is = refl; counts = q })))
  by false q = sym (e.marked.sound i h q)

default-same : (xs : List Bool) (i : ℕ) → i < length xs → get_or xs i true ≡ get_or xs i false
default-same [] i h = absurd (omega (arith, h))
default-same (x ∷ xs) zero h = refl
default-same (x ∷ xs) (suc i) h = default-same xs i (omega (arith, h))

pub ended-right : (flags : List Bool) (table : Table) (us : List (List ℕ)) (m : Marks) → IsEnded flags table us m → AreWhole table (flags ++ m.whole)
ended-right flags table us m e i h = elim (less-or-not i (length flags)) [
  | inl l ↦ get_or_append_left flags m.whole true i l ∙ e.right i l
  | inr l ↦
      let there : i - length flags < length m.whole = omega (arith, h, l, length-append flags m.whole) in
      let same : length flags + (i - length flags) ≡ i = omega (arith, l) in
      get_or-append_right flags m.whole (length flags) i true refl l ∙ default-same m.whole (i - length flags) there ∙ new-right flags table us m e (i - length flags) there ∙
      ap (is_whole_at table) same
]
