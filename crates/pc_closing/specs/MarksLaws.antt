-- What is known of marks and users holds on when a type is found not to be whole, and when another leads to it.
use Rattle.std.proofs.Common.{◌≡◌, ◌⊎◌, ℕ, zero, suc, ◌+◌, ◌<◌, Bool, true, false, if◌then◌else◌, List, [], ◌∷◌, ◌++◌, get_or, set, length, refl, sym, ◌∙◌, ap, subst, inl, inr, arith, length-set, length-append}
use Rattle.std.proofs.lemmas.Bool.{true≢false}
use Rattle.pc_closing.specs.Search.{Marks, enter, with_user, IsAmong, EachOf, trues, IsBad, AreCounted, AreMarked, Moves}

-- ---- flags

set-bad : (xs : List Bool) (i : ℕ) → get_or (set xs i false) i false ≡ false
set-bad [] i = refl
set-bad (x ∷ xs) zero = refl
set-bad (x ∷ xs) (suc i) = set-bad xs i

set-later : (xs : List Bool) (i k : ℕ) → get_or xs k false ≡ false → get_or (set xs i false) k false ≡ false
set-later [] i k h = h
set-later (x ∷ xs) zero zero h = refl
set-later (x ∷ xs) zero (suc k) h = h
set-later (x ∷ xs) (suc i) zero h = h
set-later (x ∷ xs) (suc i) (suc k) h = set-later xs i k h

set-either : (xs : List Bool) (i k : ℕ) → get_or (set xs i false) k false ≡ false → (k ≡ i) ⊎ (get_or xs k false ≡ false)
set-either [] i k h = inr h
set-either (x ∷ xs) zero zero h = inl refl
set-either (x ∷ xs) zero (suc k) h = inr h
set-either (x ∷ xs) (suc i) zero h = inr h
set-either (x ∷ xs) (suc i) (suc k) h = elim (set-either xs i k h) [
  | inl e ↦ inl (ap suc e)
  | inr e ↦ inr e
]

trues-set : (xs : List Bool) (i : ℕ) → get_or xs i false ≡ true → trues (set xs i false) + 1 ≡ trues xs
trues-set [] i h = absurd (true≢false (sym h))
trues-set (true ∷ xs) zero h = omega arith
trues-set (false ∷ xs) zero h = absurd (true≢false (sym h))
trues-set (true ∷ xs) (suc i) h = omega (arith, trues-set xs i h)
trues-set (false ∷ xs) (suc i) h = trues-set xs i h

-- ---- lists of numbers

pub among-front : (i : ℕ) (xs ys : List ℕ) → IsAmong i xs → IsAmong i (xs ++ ys)
among-front i [] ys h = absurd h
among-front i (x ∷ xs) ys (inl e) = inl e
among-front i (x ∷ xs) ys (inr e) = inr (among-front i xs ys e)

pub among-last : (i : ℕ) (xs : List ℕ) → IsAmong i (xs ++ i ∷ [])
among-last i [] = inl refl
among-last i (x ∷ xs) = inr (among-last i xs)

pub each-both : (P : ℕ → Type 0) (xs ys : List ℕ) → EachOf P xs → EachOf P ys → EachOf P (xs ++ ys)
each-both P [] ys h k = k
each-both P (x ∷ xs) ys h k = (h.0, each-both P xs ys h.1 k)

pub each-more : (P Q : ℕ → Type 0) → ((i : ℕ) → P i → Q i) → (xs : List ℕ) → EachOf P xs → EachOf Q xs
each-more P Q f [] h = tt
each-more P Q f (x ∷ xs) h = (f x h.0, each-more P Q f xs h.1)

pub each-at : (P : ℕ → Type 0) (xs : List ℕ) (i : ℕ) → EachOf P xs → IsAmong i xs → P i
each-at P [] i h a = absurd a
each-at P (x ∷ xs) i h (inl e) = subst P (sym e) h.0
each-at P (x ∷ xs) i h (inr e) = each-at P xs i h.1 e

-- ---- a type is found not to be whole

pub entered-bad : (i : ℕ) (m : Marks) → IsBad (enter i m) i
entered-bad i m = by (get_or m.whole i false) refl where
  by : (b : Bool) → get_or m.whole i false ≡ b → IsBad (if b then record { whole = set m.whole i false; found = m.found ++ i ∷ [] } else m) i
  by true e = set-bad m.whole i
  by false e = e

pub enter-later : (i : ℕ) (m : Marks) (k : ℕ) → IsBad m k → IsBad (enter i m) k
enter-later i m k h = by (get_or m.whole i false) where
  by : (b : Bool) → IsBad (if b then record { whole = set m.whole i false; found = m.found ++ i ∷ [] } else m) k
  by true = set-later m.whole i k h
  by false = h

pub enter-length : (i : ℕ) (m : Marks) → length (enter i m).whole ≡ length m.whole
enter-length i m = by (get_or m.whole i false) where
  by : (b : Bool) → length (if b then record { whole = set m.whole i false; found = m.found ++ i ∷ [] } else m).whole ≡ length m.whole
  by true = length-set m.whole i false
  by false = refl

pub enter-counted : (i : ℕ) (m : Marks) → AreCounted m → AreCounted (enter i m)
enter-counted i m c = by (get_or m.whole i false) refl where
  by : (t : Bool) → get_or m.whole i false ≡ t → AreCounted (if t then record { whole = set m.whole i false; found = m.found ++ i ∷ [] } else m)
  by true e = omega (arith, c, trues-set m.whole i e, length-set m.whole i false, length-append m.found (i ∷ []))
  by false e = c

pub enter-marked : (Bad : ℕ → Type 0) (i : ℕ) (m : Marks) → Bad i → AreMarked Bad m → AreMarked Bad (enter i m)
enter-marked Bad i m b a = by (get_or m.whole i false) refl where
  by : (t : Bool) → get_or m.whole i false ≡ t → AreMarked Bad (if t then record { whole = set m.whole i false; found = m.found ++ i ∷ [] } else m)
  by true e = record {
    sound = λ k l h. elim (set-either m.whole i k h) [
      | inl q ↦ subst Bad (sym q) b
      | inr q ↦ a.sound k (subst (λ (n : ℕ). k < n) (length-set m.whole i false) l) q
    ];
    listed = λ k l h. elim (set-either m.whole i k h) [
      | inl q ↦ subst (λ (n : ℕ). IsAmong n (m.found ++ i ∷ [])) (sym q) (among-last i m.found)
      | inr q ↦ among-front k m.found (i ∷ []) (a.listed k (subst (λ (n : ℕ). k < n) (length-set m.whole i false) l) q)
    ];
    bad = each-both Bad m.found (i ∷ []) a.bad (b, tt);
    count = omega (arith, a.count, trues-set m.whole i e, length-set m.whole i false, length-append m.found (i ∷ []));
  }
  by false e = a

-- ---- moves

pub moves-self : (Bad : ℕ → Type 0) (us : List (List ℕ)) (m : Marks) → Moves Bad us us m m
moves-self Bad us m = record { later = λ i h. h; grown = λ i k h. h; users = refl; marks = refl; marked = λ h. h; used = λ h. h }

pub moves-through : (Bad : ℕ → Type 0) (us vs ws : List (List ℕ)) (m n o : Marks) → Moves Bad us vs m n → Moves Bad vs ws n o → Moves Bad us ws m o
moves-through Bad us vs ws m n o f g = record {
  later = λ i h. g.later i (f.later i h);
  grown = λ i k h. g.grown i k (f.grown i k h);
  users = g.users ∙ f.users;
  marks = g.marks ∙ f.marks;
  marked = λ h. g.marked (f.marked h);
  used = λ h. g.used (f.used h);
}

pub enter-moves : (Bad : ℕ → Type 0) (us : List (List ℕ)) (i : ℕ) (m : Marks) → Bad i → Moves Bad us us m (enter i m)
enter-moves Bad us i m b =
    record { later = enter-later i m; grown = λ j k h. h; users = refl; marks = enter-length i m; marked = enter-marked Bad i m b; used = λ h. h }

user-grown : (us : List (List ℕ)) (part i j k : ℕ) → IsAmong j (get_or us k []) → IsAmong j (get_or (set us part (get_or us part [] ++ i ∷ [])) k [])
user-grown [] part i j k h = h
user-grown (u ∷ us) zero i j zero h = among-front j u (i ∷ []) h
user-grown (u ∷ us) zero i j (suc k) h = h
user-grown (u ∷ us) (suc part) i j zero h = h
user-grown (u ∷ us) (suc part) i j (suc k) h = user-grown us part i j k h

user-used : (Q Bad : ℕ → Type 0) (us : List (List ℕ)) (part i : ℕ) → ((k : ℕ) → Q k → EachOf Bad (get_or us k [])) → (Q part → Bad i) →
    (k : ℕ) → Q k → EachOf Bad (get_or (set us part (get_or us part [] ++ i ∷ [])) k [])
user-used Q Bad [] part i h b k q = tt
user-used Q Bad (u ∷ us) zero i h b zero q = each-both Bad u (i ∷ []) (h zero q) (b q, tt)
user-used Q Bad (u ∷ us) zero i h b (suc k) q = h (suc k) q
user-used Q Bad (u ∷ us) (suc part) i h b zero q = h zero q
user-used Q Bad (u ∷ us) (suc part) i h b (suc k) q = user-used (λ n. Q (suc n)) Bad us part i (λ n. h (suc n)) b k q

pub user-among : (us : List (List ℕ)) (part i : ℕ) → part < length us → IsAmong i (get_or (set us part (get_or us part [] ++ i ∷ [])) part [])
user-among [] part i h = absurd (omega (arith, h))
user-among (u ∷ us) zero i h = among-last i u
user-among (u ∷ us) (suc part) i h = user-among us part i (omega (arith, h))

pub user-moves : (Bad : ℕ → Type 0) (us : List (List ℕ)) (part i : ℕ) (m : Marks) → (Bad part → Bad i) → Moves Bad us (with_user part i us) m m
user-moves Bad us part i m b = record {
  later = λ k h. h;
  grown = λ j k h. user-grown us part i j k h;
  users = length-set us part (get_or us part [] ++ i ∷ []);
  marks = refl;
  marked = λ h. h;
  used = λ h. user-used Bad Bad us part i h b;
}
