-- Trees with another node at a path.
use Rattle.std.specs.Prelude.{ℕ, zero, suc, ◌≡◌, ◌+◌, ◌-◌, true, false, ◌==◌, if◌then◌else◌, List, [], ◌∷◌, Option, Some, None, slice_get, slice_set}
use Rattle.std.specs.Option.{option_map_or}
use Rattle.std.proofs.Common.{refl, ap, sym, ◌∙◌, arith}
use Rattle.std.proofs.lemmas.Bool.{eq-eqb, ne_eqb}
use Rattle.pc_syntax.specs.declared.kind.Kind.{Kind}
use Rattle.pc_syntax.specs.PartsLaws.{forest_of-trees_of}
use Rattle.pc_syntax.specs.Places.{with_kid, put}
use Rattle.pc_syntax.specs.Plain.{Forest, Nil, Cons, Plain, forest_of, trees_of, node, kids_of}

-- trees in a row, the first with this number, with another node at a path that begins with that number
abbrev pub changed : ℕ → ℕ → List ℕ → Plain → Forest → Forest
changed c j is y Nil = Nil
changed c j [] y (Cons k w ns ks ts) = if c == j then Cons y.kind y.word y.notes y.kids ts else Cons k w ns ks (changed (suc c) j [] y ts)
changed c j (a ∷ more) y (Cons k w ns ks ts) = if c == j then Cons k w ns (changed 1 a more y ks) ts else Cons k w ns ks (changed (suc c) j (a ∷ more) y ts)

-- a tree with another node at a path below it
abbrev pub changed_below : List ℕ → Plain → Plain → Plain
changed_below [] y t = y
changed_below (a ∷ more) y t = record t { kids = changed 1 a more y t.kids }

same-number : (c : ℕ) → (c == c) ≡ true
same-number c = eq-eqb c c refl

pub changed-behind : (c j : ℕ) (is : List ℕ) (y : Plain) (k : Kind) (w : List ℕ) (ns : List (List ℕ)) (ks ts : Forest) → (c == j) ≡ false →
    changed c j is y (Cons k w ns ks ts) ≡ Cons k w ns ks (changed (suc c) j is y ts)
changed-behind c j [] y k w ns ks ts e = rw e refl
changed-behind c j (a ∷ more) y k w ns ks ts e = rw e refl

pub changed-within : (c j a : ℕ) (more : List ℕ) (y : Plain) (k : Kind) (w : List ℕ) (ns : List (List ℕ)) (ks ts : Forest) → (c == j) ≡ true →
    changed c j (a ∷ more) y (Cons k w ns ks ts) ≡ Cons k w ns (changed 1 a more y ks) ts
changed-within c j a more y k w ns ks ts e = rw e refl

-- the node itself, whatever the path

-- the node itself, whatever the path is
pub changed-here : (c j : ℕ) (is : List ℕ) (y : Plain) (k : Kind) (w : List ℕ) (ns : List (List ℕ)) (ks ts : Forest) → (c == j) ≡ true →
    changed c j is y (Cons k w ns ks ts) ≡
    Cons (changed_below is y (record { kind = k; word = w; notes = ns; kids = ks })).kind (changed_below is y (record { kind = k; word = w; notes = ns; kids = ks })).word
    (changed_below is y (record { kind = k; word = w; notes = ns; kids = ks })).notes (changed_below is y (record { kind = k; word = w; notes = ns; kids = ks })).kids ts
changed-here c j [] y k w ns ks ts e = rw e refl
changed-here c j (a ∷ more) y k w ns ks ts e = rw e refl

-- a kid set in a row
row-changed : (c n : ℕ) (is : List ℕ) (y : Plain) → ((t : Plain) → put is t y ≡ changed_below is y t) → (f : Forest) (t : Plain) → slice_get (trees_of f) n ≡ Some t →
    forest_of (slice_set (trees_of f) n (put is t y)) ≡ changed c (c + n) is y f
row-changed c n is y h Nil t e = cc e
row-changed c zero is y h (Cons k w ns ks ts) t e =
    let one : record { kind = k; word = w; notes = ns; kids = ks } ≡ t = cc e in
    let number : (c == c + 0) ≡ true = eq-eqb c (c + 0) (omega arith) in
    ap (λ (x : Plain). Cons (put is x y).kind (put is x y).word (put is x y).notes (put is x y).kids (forest_of (trees_of ts))) (sym one)
    ∙ ap (λ (x : Plain). Cons x.kind x.word x.notes x.kids (forest_of (trees_of ts))) (h (record { kind = k; word = w; notes = ns; kids = ks }))
    ∙ ap (λ (g : Forest). Cons (changed_below is y (record { kind = k; word = w; notes = ns; kids = ks })).kind (changed_below is y (record { kind = k; word = w; notes = ns; kids = ks })).word
    (changed_below is y (record { kind = k; word = w; notes = ns; kids = ks })).notes (changed_below is y (record { kind = k; word = w; notes = ns; kids = ks })).kids g) (forest_of-trees_of ts)
    ∙ sym (changed-here c (c + 0) is y k w ns ks ts number)
row-changed c (suc n) is y h (Cons k w ns ks ts) t e =
    let number : (c == c + suc n) ≡ false = ne_eqb c (c + suc n) (λ q. absurd (omega (arith, q))) in
    let next : suc c + n ≡ c + suc n = omega arith in
    ap (Cons k w ns ks) (row-changed (suc c) n is y h ts t e ∙ ap (λ (j : ℕ). changed (suc c) j is y ts) next) ∙ sym (changed-behind c (c + suc n) is y k w ns ks ts number)

-- where there is no such kid the row stays
row-lacks : (c n : ℕ) (is : List ℕ) (y : Plain) (f : Forest) → slice_get (trees_of f) n ≡ None → changed c (c + n) is y f ≡ f
row-lacks c n is y Nil e = refl
row-lacks c zero is y (Cons k w ns ks ts) e = cc e
row-lacks c (suc n) is y (Cons k w ns ks ts) e =
    let number : (c == c + suc n) ≡ false = ne_eqb c (c + suc n) (λ q. absurd (omega (arith, q))) in
    let next : suc c + n ≡ c + suc n = omega arith in
    changed-behind c (c + suc n) is y k w ns ks ts number ∙ ap (Cons k w ns ks) (ap (λ (j : ℕ). changed (suc c) j is y ts) (sym next) ∙ row-lacks (suc c) n is y ts e)

-- no kid has the number 0
row-zero : (c : ℕ) (is : List ℕ) (y : Plain) (f : Forest) → changed (suc c) 0 is y f ≡ f
row-zero c is y Nil = refl
row-zero c is y (Cons k w ns ks ts) =
    changed-behind (suc c) 0 is y k w ns ks ts (ne_eqb (suc c) 0 (λ q. absurd (omega (arith, q)))) ∙ ap (Cons k w ns ks) (row-zero (suc c) is y ts)

with-some : (n : ℕ) (is : List ℕ) (t y k : Plain) → put is k y ≡ changed_below is y k → ((x : Plain) → put is x y ≡ changed_below is y x) → slice_get (trees_of t.kids) n ≡ Some k →
    with_kid t (suc n - 1) (put is k y) ≡ changed_below (suc n ∷ is) y t
unfolding node kids_of
with-some n is t y k e h g =
    let number : suc n - 1 ≡ n = omega arith in
    let next : 1 + n ≡ suc n = omega arith in
    ap (λ (m : ℕ). with_kid t m (put is k y)) number ∙ (λ i. record t { kids = (row-changed 1 n is y h t.kids k g ∙ ap (λ (j : ℕ). changed 1 j is y t.kids) next) i })

pub put-changed : (is : List ℕ) (t y : Plain) → put is t y ≡ changed_below is y t
unfolding node kids_of
put-changed [] t y = refl
put-changed (zero ∷ is) t y = ap (λ (f : Forest). record t { kids = f }) (sym (row-zero 0 is y t.kids))
put-changed (suc n ∷ is) t y = by (λ x. put-changed is x y) (slice_get (trees_of t.kids) n) refl where
  by : ((x : Plain) → put is x y ≡ changed_below is y x) → (o : Option Plain) → slice_get (trees_of t.kids) n ≡ o →
      option_map_or (λ k. with_kid t (suc n - 1) (put is k y)) o t ≡ changed_below (suc n ∷ is) y t
  by h None e =
      let next : 1 + n ≡ suc n = omega arith in
      ap (λ (f : Forest). record t { kids = f }) (sym (row-lacks 1 n is y t.kids e) ∙ ap (λ (j : ℕ). changed 1 j is y t.kids) next)
  by h (Some k) e = with-some n is t y k (h k) h e
