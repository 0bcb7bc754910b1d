-- Walks along the chains of a table of names, and tables with one name more.
use Rattle.std.proofs.Common.{◌≡◌, ◌≢◌, ℕ, zero, suc, ◌+◌, ◌<◌, ◌≤◌, ◌⊎◌, inl, inr, List, [], ◌∷◌, ◌++◌, length, refl, ap, sym, ◌∙◌, subst, arith, length-append}
use Rattle.std.proofs.lemmas.Bool.{cases_lt}
use Rattle.std.proofs.lemmas.Option.{slice_get_within}
use Rattle.std.proofs.lemmas.List.{get_or-set_same, get_or-set_other}
use Rattle.std.proofs.Math.ListN.{set, length-set, get_or-append}
use Rattle.std.proofs.Math.Seq.{get_or-append_seam}
use Rattle.std.specs.Prelude.{Some, slice_get, slice_index}
use Rattle.pc_scope.specs.Table.{chain_of, Reaches, IsLinked}

pub Some-inj : {A : Type 0} → (x y : A) → Some x ≡ Some y → x ≡ y
Some-inj x y e = cc

-- where a walk for a name stands: the names behind are others, and the next is in the name's chain
pub record Walks (names : List (List ℕ)) (size : ℕ) (name : List ℕ) (at : ℕ) : Type 0 where
  pub within : at ≤ length names
  pub passed : (j : ℕ) (other : List ℕ) → slice_get names j ≡ Some other → at ≤ j → other ≢ name
  pub same : (i : ℕ) (other : List ℕ) → at ≡ i + 1 → slice_get names i ≡ Some other → chain_of other size ≡ chain_of name size

module _ (names : List (List ℕ)) (links heads : List ℕ) (name : List ℕ) (linked : IsLinked names links heads) where
  pub walk-start : (b : ℕ) → b ≡ chain_of name (length heads) → b < length heads → Walks names (length heads) name (slice_index heads b)
  walk-start b e l =
      let r = linked.chains b l in
      record {
        within = r.within;
        passed = λ j other is past same. r.last j other is past (slice_get_within names j other is) (ap (λ m. chain_of m (length heads)) same ∙ sym e);
        same = λ i other at is. r.same i other at is ∙ e;
      }

  pub walk-more : (at i : ℕ) (other : List ℕ) → Walks names (length heads) name at → at ≡ i + 1 → slice_get names i ≡ Some other → other ≢ name → Walks names (length heads) name (slice_index links i)
  walk-more at i other walks step is differs =
      let r = linked.before i other is in
      let chain = walks.same i other step is in
      record {
        within = let w : slice_index links i ≤ i = r.within in let v : at ≤ length names = walks.within in omega arith;
        passed = λ j m there past same.
            elim (cases_lt j i) [
              | inl below ↦ r.last j m there past below (ap (λ x. chain_of x (length heads)) same ∙ sym chain)
              | inr above ↦
                  elim (cases_lt i j) [
                    | inl far ↦ walks.passed j m there (omega arith) same
                    | inr near ↦ differs (Some-inj _ _ (sym is ∙ ap (slice_get names) (let e : i ≡ j = omega arith in e) ∙ there) ∙ same)
                  ]
            ];
        same = λ k m step' there. r.same k m step' there ∙ chain;
      }

  pub walk-end : Walks names (length heads) name 0 → (j : ℕ) (other : List ℕ) → slice_get names j ≡ Some other → other ≢ name
  walk-end walks j other is = walks.passed j other is (omega arith)

-- an element of a list with one more
at-push : {A : Type 0} → (xs : List A) (x y : A) (j : ℕ) → slice_get (xs ++ x ∷ []) j ≡ Some y → ((j < length xs) × (slice_get xs j ≡ Some y)) ⊎ ((j ≡ length xs) × (y ≡ x))
at-push [] x y zero e = inr (refl, Some-inj _ _ (sym e))
at-push [] x y (suc j) e = cc
at-push (z ∷ xs) x y zero e = inl (omega arith, e)
at-push (z ∷ xs) x y (suc j) e =
    elim (at-push xs x y j e) [
      | inl h ↦ inl (omega (arith, h.0), h.1)
      | inr h ↦ inr (omega (arith, h.0), h.1)
    ]

module _ (names : List (List ℕ)) (size : ℕ) (name : List ℕ) where
  -- a chain reaches what it reached
  reaches-push : (b head end : ℕ) → end ≤ length names → Reaches names size b head end → Reaches (names ++ name ∷ []) size b head end
  reaches-push b head end few r =
      record {
        within = r.within;
        last = λ j other is past below.
            elim (at-push names name other j is) [
              | inl h ↦ r.last j other h.1 past below
              | inr h ↦ absurd (omega (arith, h.0))
            ];
        same = λ i other at is.
            elim (at-push names name other i is) [
              | inl h ↦ r.same i other at h.1
              | inr h ↦ absurd (let w : head ≤ end = r.within in omega (arith, h.0))
            ];
      }

  -- the chain of the new name ends with it
  reaches-new : Reaches (names ++ name ∷ []) size (chain_of name size) (length names + 1) (length names + 1)
  reaches-new =
      record {
        within = omega arith;
        last = λ j other is past below same. absurd (omega arith);
        same = λ i other at is.
            elim (at-push names name other i is) [
              | inl h ↦ absurd (omega (arith, h.0))
              | inr h ↦ ap (λ m. chain_of m size) h.1
            ];
      }

  -- each other chain ends as before
  reaches-other : (b head : ℕ) → chain_of name size ≢ b → Reaches names size b head (length names) → Reaches (names ++ name ∷ []) size b head (length names + 1)
  reaches-other b head differs r =
      record {
        within = let w : head ≤ length names = r.within in omega arith;
        last = λ j other is past below.
            elim (at-push names name other j is) [
              | inl h ↦ r.last j other h.1 past h.0
              | inr h ↦ λ same. differs (ap (λ m. chain_of m size) (sym h.1) ∙ same)
            ];
        same = λ i other at is.
            elim (at-push names name other i is) [
              | inl h ↦ r.same i other at h.1
              | inr h ↦ absurd (let w : head ≤ length names = r.within in omega (arith, h.0))
            ];
      }

-- the chains of a table with one name more
module _ (names : List (List ℕ)) (links heads : List ℕ) (name : List ℕ) (b : ℕ) (linked : IsLinked names links heads) (e : b ≡ chain_of name (length heads)) (l : b < length heads) where
  new_length : length (names ++ name ∷ []) ≡ length names + 1
  new_length = length-append names (name ∷ [])

  chain-push : (a : ℕ) → a < length heads → Reaches (names ++ name ∷ []) (length heads) a (slice_index (set heads b (length names + 1)) a) (length names + 1)
  chain-push a within =
      let other : a ≢ b → Reaches (names ++ name ∷ []) (length heads) a (slice_index (set heads b (length names + 1)) a) (length names + 1) =
      λ differs.
      let P : ℕ → Type 0 = λ h. Reaches (names ++ name ∷ []) (length heads) a h (length names + 1) in
      subst P (sym (get_or-set_other heads b a (length names + 1) 0 differs))
      (reaches-other names (length heads) name a (slice_index heads a) (λ same. differs (sym same ∙ sym e)) (linked.chains a within)) in
      elim (cases_lt a b) [
        | inl below ↦ other (λ same. absurd (omega (arith, same)))
        | inr above ↦
            elim (cases_lt b a) [
              | inl below ↦ other (λ same. absurd (omega (arith, same)))
              | inr under ↦
                  let same : b ≡ a = omega arith in
                  let P : ℕ → Type 0 = λ x. Reaches (names ++ name ∷ []) (length heads) x (slice_index (set heads b (length names + 1)) x) (length names + 1) in
                  let Q : ℕ → Type 0 = λ h. Reaches (names ++ name ∷ []) (length heads) b h (length names + 1) in
                  let R : ℕ → Type 0 = λ x. Reaches (names ++ name ∷ []) (length heads) x (length names + 1) (length names + 1) in
                  subst P same (subst Q (sym (get_or-set_same heads b (length names + 1) 0 l)) (subst R (sym e) (reaches-new names (length heads) name)))
            ]
      ]

  before-push : (i : ℕ) (other : List ℕ) → slice_get (names ++ name ∷ []) i ≡ Some other →
      Reaches (names ++ name ∷ []) (length heads) (chain_of other (length heads)) (slice_index (links ++ slice_index heads b ∷ []) i) i
  before-push i other is =
      elim (at-push names name other i is) [
        | inl h ↦
            let P : ℕ → Type 0 = λ x. Reaches (names ++ name ∷ []) (length heads) (chain_of other (length heads)) x i in
            subst P (sym (get_or-append links (slice_index heads b ∷ []) 0 i (omega (arith, h.0, linked.count))))
            (reaches-push names (length heads) name _ _ i (omega (arith, h.0)) (linked.before i other h.1))
        | inr h ↦
            let at : i ≡ length links = h.0 ∙ sym linked.count in
            let P : ℕ → Type 0 = λ x. Reaches (names ++ name ∷ []) (length heads) (chain_of other (length heads)) x i in
            let Q : ℕ → Type 0 = λ x. Reaches (names ++ name ∷ []) (length heads) x (slice_index heads b) i in
            let R : ℕ → Type 0 = λ x. Reaches (names ++ name ∷ []) (length heads) b (slice_index heads b) x in
            subst P (sym (ap (slice_index (links ++ slice_index heads b ∷ [])) at ∙ get_or-append_seam links (slice_index heads b) [] 0))
            (subst Q (e ∙ ap (λ m. chain_of m (length heads)) (sym h.1))
            (subst R (sym h.0) (reaches-push names (length heads) name b (slice_index heads b) (length names) (omega arith) (linked.chains b l))))
      ]

-- a table with one name more
pub linked-push : (names : List (List ℕ)) (links heads : List ℕ) (name : List ℕ) (b : ℕ) → IsLinked names links heads → b ≡ chain_of name (length heads) → b < length heads →
    ((j : ℕ) (other : List ℕ) → slice_get names j ≡ Some other → other ≢ name) →
    IsLinked (names ++ name ∷ []) (links ++ slice_index heads b ∷ []) (set heads b (length names + 1))
linked-push names links heads name b linked e l new =
    let size : length (set heads b (length names + 1)) ≡ length heads = length-set heads b (length names + 1) in
    record {
      count = length-append links (slice_index heads b ∷ []) ∙ ap (λ n. n + 1) linked.count ∙ sym (length-append names (name ∷ []));
      some = omega (arith, size, linked.some);
      distinct = λ i j other is js.
          elim (at-push names name other i is) [
            | inl h ↦
                elim (at-push names name other j js) [
                  | inl g ↦ linked.distinct i j other h.1 g.1
                  | inr g ↦ absurd (new i other h.1 g.1)
                ]
            | inr h ↦
                elim (at-push names name other j js) [
                  | inl g ↦ absurd (new j other g.1 h.1)
                  | inr g ↦ h.0 ∙ sym g.0
                ]
          ];
      chains = λ a within.
          let P : ℕ → Type 0 = λ n. Reaches (names ++ name ∷ []) n a (slice_index (set heads b (length names + 1)) a) (length (names ++ name ∷ [])) in
          let Q : ℕ → Type 0 = λ n. Reaches (names ++ name ∷ []) (length heads) a (slice_index (set heads b (length names + 1)) a) n in
          subst P (sym size) (subst Q (sym (length-append names (name ∷ []))) (chain-push names links heads name b linked e l a (omega (arith, within, size))));
      before = λ i other is.
          let P : ℕ → Type 0 = λ n. Reaches (names ++ name ∷ []) n (chain_of other n) (slice_index (links ++ slice_index heads b ∷ []) i) i in
          subst P (sym size) (before-push names links heads name b linked e l i other is);
    }
