-- What leads to a type that was found is found too, one type after another.
use Rattle.std.proofs.Common.{◌≡◌, ◌⊎◌, ℕ, zero, suc, ◌+◌, ◌<◌, ◌≤◌, Bool, true, false, if◌then◌else◌, List, [], ◌∷◌, ◌++◌, get_or, set, length, take, refl, sym, ◌∙◌, subst, inl, inr, arith, length-append}
use Rattle.std.proofs.lemmas.List.{take_more, take-append-le}
use Rattle.pc_closing.specs.Search.{Marks, enter, enter_all, EachOf, IsBad, AreCounted, AreMarked}
use Rattle.pc_closing.specs.MarksLaws.{each-both, each-more, entered-bad, enter-later, enter-length, enter-counted, enter-marked}
use Rattle.pc_closing.specs.Searched.{AreSpread, Spreads}

pub less-or-not : (i n : ℕ) → (i < n) ⊎ (n ≤ i)
less-or-not i zero = inr (omega arith)
less-or-not zero (suc n) = inl (omega arith)
less-or-not (suc i) (suc n) = elim (less-or-not i n) [
  | inl h ↦ inl (omega (arith, h))
  | inr h ↦ inr (omega (arith, h))
]

-- what was found is found still
enter-take : (at i : ℕ) (m : Marks) → at ≤ length m.found → take at (enter i m).found ≡ take at m.found
enter-take at i m h = by (get_or m.whole i false) where
  by : (b : Bool) → take at (if b then record { whole = set m.whole i false; found = m.found ++ i ∷ [] } else m).found ≡ take at m.found
  by true = take-append-le at m.found (i ∷ []) h
  by false = refl

enter-more : (i : ℕ) (m : Marks) → length m.found ≤ length (enter i m).found
enter-more i m = by (get_or m.whole i false) where
  by : (b : Bool) → length m.found ≤ length (if b then record { whole = set m.whole i false; found = m.found ++ i ∷ [] } else m).found
  by true = omega (arith, length-append m.found (i ∷ []))
  by false = omega arith

-- what holds when each of some types is found not to be whole
pub record Enters (Bad : ℕ → Type 0) (is : List ℕ) (m n : Marks) : Type 0 where
  pub later : (k : ℕ) → IsBad m k → IsBad n k
  pub entered : EachOf (IsBad n) is
  pub marks : length n.whole ≡ length m.whole
  pub found : (at : ℕ) → at ≤ length m.found → take at n.found ≡ take at m.found
  pub more : length m.found ≤ length n.found
  pub marked : EachOf Bad is → AreMarked Bad m → AreMarked Bad n

pub enters : (Bad : ℕ → Type 0) (is : List ℕ) (m : Marks) → Enters Bad is m (enter_all is m)
enters Bad [] m = record { later = λ k h. h; entered = tt; marks = refl; found = λ at h. refl; more = omega arith; marked = λ b h. h }
enters Bad (i ∷ is) m =
    let r = enters Bad is (enter i m) in
    record {
      later = λ k h. r.later k (enter-later i m k h);
      entered = (r.later i (entered-bad i m), r.entered);
      marks = r.marks ∙ enter-length i m;
      found = λ at h. r.found at (omega (arith, h, enter-more i m)) ∙ enter-take at i m h;
      more = omega (arith, r.more, enter-more i m);
      marked = λ b h. r.marked b.1 (enter-marked Bad i m b.0 h);
    }

-- so one more is done
pub spread-more : (Bad : ℕ → Type 0) (us : List (List ℕ)) (m : Marks) (at : ℕ) → at < length m.found → AreSpread us m at →
    AreSpread us (enter_all (get_or us (get_or m.found at 0) []) m) (at + 1)
spread-more Bad us m at h s =
    let k = get_or m.found at 0 in
    let r = enters Bad (get_or us k []) m in
    let n = enter_all (get_or us k []) m in
    let same : take (at + 1) n.found ≡ take at m.found ++ k ∷ [] = r.found (at + 1) (omega (arith, h)) ∙ take_more m.found at 0 h in
    subst (EachOf (λ j. EachOf (IsBad n) (get_or us j []))) (sym same)
    (each-both (λ j. EachOf (IsBad n) (get_or us j [])) (take at m.found) (k ∷ [])
    (each-more (λ j. EachOf (IsBad m) (get_or us j [])) (λ j. EachOf (IsBad n) (get_or us j [])) (λ j. each-more (IsBad m) (IsBad n) r.later (get_or us j [])) (take at m.found) s)
    (r.entered, tt))

pub spreads-none : (us : List (List ℕ)) (m : Marks) → AreCounted m → Spreads us m m 0
spreads-none us m c = record { later = λ k h. h; marks = refl; spread = tt; within = omega arith; count = c; marked = λ whole u h. h }

each-get : (P : ℕ → Type 0) (xs : List ℕ) (i d : ℕ) → i < length xs → EachOf P xs → P (get_or xs i d)
each-get P [] i d h e = absurd (omega (arith, h))
each-get P (x ∷ xs) zero d h e = e.0
each-get P (x ∷ xs) (suc i) d h e = each-get P xs i d (omega (arith, h)) e.1

counted : (is : List ℕ) (m : Marks) → AreCounted m → AreCounted (enter_all is m)
counted [] m c = c
counted (i ∷ is) m c = counted is (enter i m) (enter-counted i m c)

pub spreads-more : (us : List (List ℕ)) (m n : Marks) (at : ℕ) → at < length n.found → Spreads us m n at → Spreads us m (enter_all (get_or us (get_or n.found at 0) []) n) (at + 1)
spreads-more us m n at h s =
    let is = get_or us (get_or n.found at 0) [] in
    let r = enters (λ i. ⊥) is n in
    record {
      later = λ k b. r.later k (s.later k b);
      marks = r.marks ∙ s.marks;
      spread = spread-more (λ i. ⊥) us n at h s.spread;
      within = omega (arith, h, r.more);
      count = counted is n s.count;
      marked = λ whole u a.
          let b = s.marked whole u a in
          (enters (λ i. whole i ≡ false) is n).marked (u (get_or n.found at 0) (each-get (λ i. whole i ≡ false) n.found at 0 h b.bad)) b;
    }
