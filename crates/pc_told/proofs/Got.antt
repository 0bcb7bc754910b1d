-- What stands at a number in a list: lemmas.
use Rattle.std.specs.Prelude.{Some, None, slice_get, zero, suc}
use Rattle.std.proofs.Common.{◌≡◌, ℕ, ◌<◌, true, false, List, [], ◌∷◌, length, get_or, refl, sym, ap, ◌∙◌, ◌-◌, arith}
use Rattle.std.proofs.lemmas.Option.{slice_get_read, slice_get_past}
use Rattle.std.proofs.lemmas.Bool.Decides.{Decides-ltb}
use lib.Dec.{ltb}
use Rattle.pc_syntax.specs.Parts.{kid_at}
use Rattle.pc_syntax.specs.Plain.{Plain, kids_of}

-- what a look at an index says
pub got : {A : Type 0} (xs : List A) (i : ℕ) (x : A) → true ≡ ltb i (length xs) → x ≡ get_or xs i x → slice_get xs i ≡ Some x
got xs i x within is = slice_get_read xs (length xs) i x refl ((Decides-ltb i (length xs)).0 (sym within)) is

-- and past the end
pub missed : {A : Type 0} (xs : List A) (i : ℕ) → false ≡ ltb i (length xs) → slice_get xs i ≡ None
missed xs i past = slice_get_past xs i (let n : ¬ (i < length xs) = λ b. cc ((Decides-ltb i (length xs)).1 b) in omega arith)

-- an element by its index
pub read : {A : Type 0} (xs : List A) (i : ℕ) (x d : A) → slice_get xs i ≡ Some x → get_or xs i d ≡ x
read [] i x d e = cc
read (y ∷ ys) zero x d e = cc
read (y ∷ ys) (suc i) x d e = read ys i x d e

-- an index at which something stands
pub within : {A : Type 0} (xs : List A) (i : ℕ) (x : A) → slice_get xs i ≡ Some x → i < length xs
within [] i x e = cc
within (y ∷ ys) zero x e = omega arith
within (y ∷ ys) (suc i) x e = let less : i < length ys = within ys i x e in omega arith

-- the kid with a number from 1
pub kid-there : (t k : Plain) (n : ℕ) → kid_at t n ≡ Some k → slice_get (kids_of t) (n - 1) ≡ Some k
kid-there t k zero e = cc
kid-there t k (suc i) e = let back : suc i - 1 ≡ i = omega arith in ap (slice_get (kids_of t)) back ∙ e

-- a list of length 0
pub empty : {A : Type 0} (xs : List A) → length xs ≡ 0 → xs ≡ []
empty [] e = refl
empty (x ∷ xs) e = absurd (omega (arith, e))
