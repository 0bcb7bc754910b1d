-- Kids of a node in a row: which kid each is and where it stands, by the kids before it.
use Rattle.std.specs.Prelude.{ℕ, zero, suc, ◌≡◌, ◌+◌, List, [], ◌∷◌, ◌++◌, Some, length, take, slice_get}
use Rattle.std.proofs.Common.{refl, ap, sym, ◌∙◌, append_assoc, arith}
use Rattle.pc_syntax.specs.Parts.{kid_at}
use Rattle.pc_syntax.specs.Plain.{Plain, trees_of, kids_of}
use Rattle.pc_syntax.specs.PartsLaws.{kids_of-is}
use Rattle.pc_environment.specs.Decorating.{place_behind, place_after}
use Rattle.pc_rules.specs.Meanings.{Local, Outside}
use Rattle.pc_rules.specs.Places.{inner}
use Rattle.pc_found_laws.specs.Ways.{kid_place}
use Rattle.pc_told.specs.ToldLaws.{kid-after}

get-behind : (bs : List Plain) (u : Plain) (ts : List Plain) → slice_get (bs ++ u ∷ ts) (length bs) ≡ Some u
get-behind [] u ts = refl
get-behind (b ∷ bs) u ts = get-behind bs u ts

take-behind : (bs ts : List Plain) → take (length bs) (bs ++ ts) ≡ bs
take-behind [] ts = refl
take-behind (b ∷ bs) ts = ap (λ (xs : List Plain). b ∷ xs) (take-behind bs ts)

-- as many are taken as are asked for, where there is one more
pub taken-length : (n : ℕ) (ts : List Plain) (u : Plain) → slice_get ts n ≡ Some u → length (take n ts) ≡ n
taken-length zero [] u e = refl
taken-length (suc n) [] u e = cc
taken-length zero (t ∷ ts) u e = refl
taken-length (suc n) (t ∷ ts) u e = ap suc (taken-length n ts u e)

length-more : (bs : List Plain) (u : Plain) → length (bs ++ u ∷ []) ≡ suc (length bs)
length-more [] u = refl
length-more (b ∷ bs) u = ap suc (length-more bs u)

after-more : (out : Outside) (l : Local) (bs : List Plain) (u : Plain) → place_after out l (bs ++ u ∷ []) ≡ place_behind out (place_after out l bs) u
after-more out l [] u = refl
after-more out l (b ∷ bs) u = after-more out (place_behind out l b) bs u

-- the kids of a node at a place end with these, the first of which stands there, behind so many
pub record IsRow (out : Outside) (y : Plain) (m : Local) (bs : List Plain) (n : ℕ) (l : Local) (rest : List Plain) : Type 0 where
  pub kids : kids_of y ≡ bs ++ rest
  pub number : n ≡ length bs
  pub place : l ≡ place_after out (inner m y.kind y.kids) bs

-- all of its kids
pub row-start : (out : Outside) (y : Plain) (m : Local) → IsRow out y m [] 0 (inner m y.kind y.kids) (trees_of y.kids)
row-start out y m = record { kids = kids_of-is y; number = refl; place = refl }

-- those behind the first
pub row-next : (out : Outside) (y : Plain) (m : Local) (bs : List Plain) (n : ℕ) (l : Local) (u : Plain) (ts : List Plain) → IsRow out y m bs n l (u ∷ ts) →
    IsRow out y m (bs ++ u ∷ []) (suc n) (place_behind out l u) ts
row-next out y m bs n l u ts s = record {
  kids = s.kids ∙ sym (append_assoc bs (u ∷ []) ts);
  number = ap suc s.number ∙ sym (length-more bs u);
  place = ap (λ (k : Local). place_behind out k u) s.place ∙ sym (after-more out (inner m y.kind y.kids) bs u);
}

-- the first is a kid of the node
pub row-kid : (out : Outside) (y : Plain) (m : Local) (bs : List Plain) (n : ℕ) (l : Local) (u : Plain) (ts : List Plain) → IsRow out y m bs n l (u ∷ ts) → kid_at y (suc n) ≡ Some u
row-kid out y m bs n l u ts s =
    ap (λ (ks : List Plain). slice_get ks n) s.kids ∙ ap (λ (i : ℕ). slice_get (bs ++ u ∷ ts) i) s.number ∙ get-behind bs u ts

-- and stands where that kid does
pub row-place : (out : Outside) (y : Plain) (m : Local) (bs : List Plain) (n : ℕ) (l : Local) (ts : List Plain) → IsRow out y m bs n l ts → l ≡ kid_place out m y n
row-place out y m bs n l ts s =
    let taken : take n (kids_of y) ≡ bs = ap (λ (ks : List Plain). take n ks) s.kids ∙ ap (λ (i : ℕ). take i (bs ++ ts)) s.number ∙ take-behind bs ts in
    s.place ∙ sym (ap (λ (xs : List Plain). place_after out (inner m y.kind y.kids) xs) taken)

-- and the rules number it so
pub row-number : (out : Outside) (y : Plain) (m : Local) (bs : List Plain) (n : ℕ) (l : Local) (ts : List Plain) → IsRow out y m bs n l ts → l.kid ≡ suc n
row-number out y m bs n l ts s =
    let here : l.kid ≡ (place_after out (inner m y.kind y.kids) bs).kid = ap (λ (k : Local). k.kid) s.place in
    let there : (place_after out (inner m y.kind y.kids) bs).kid ≡ 1 + length bs = kid-after out (inner m y.kind y.kids) bs in
    omega (arith, here, there, s.number)
