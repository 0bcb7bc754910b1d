-- Texts that are made of the elements of a list, one behind the other.
use Rattle.std.specs.Prelude.{ℕ, ◌≡◌, Bool, true, false, if◌then◌else◌, List, [], ◌∷◌, ◌++◌, Some}
use Rattle.std.specs.Option.{option_map_or}
use Rattle.std.specs.List.{find, filter, flat_map}
use Rattle.std.proofs.Common.{refl, ap, sym, ◌∙◌, append_assoc, inl, inr}
use Rattle.pc_decl_laws.specs.OwnTypes.{IsAmong}

-- texts that are the same for each element
pub same-texts : {X : Type 0} (f g : X → List ℕ) (xs : List X) → ((x : X) → IsAmong xs x → f x ≡ g x) → flat_map f xs ≡ flat_map g xs
same-texts f g [] h = refl
same-texts f g (x ∷ xs) h = λ i. h x (inl refl) i ++ same-texts f g xs (λ y a. h y (inr a)) i

-- what is left of a list is of the list
pub left-among : {X : Type 0} (test : X → Bool) (xs : List X) (x : X) → IsAmong (filter test xs) x → IsAmong xs x
left-among test [] x a = absurd a
left-among test (y ∷ ys) x a = which (left-among test ys x) (test y) a where
  which : (IsAmong (filter test ys) x → IsAmong ys x) → (z : Bool) → IsAmong (if z then y ∷ filter test ys else filter test ys) x → IsAmong (y ∷ ys) x
  which rest true (inl e) = inl e
  which rest true (inr b) = inr (rest b)
  which rest false b = inr (rest b)

-- texts of what is found
pub same-found : {X : Type 0} (f g : X → List ℕ) (test : X → Bool) (xs : List X) → ((x : X) → IsAmong xs x → f x ≡ g x) →
    option_map_or f (find test xs) [] ≡ option_map_or g (find test xs) []
same-found f g test [] h = refl
same-found f g test (x ∷ xs) h = which (same-found f g test xs (λ y a. h y (inr a))) (test x) where
  which : option_map_or f (find test xs) [] ≡ option_map_or g (find test xs) [] → (z : Bool) → option_map_or f (if z then Some x else find test xs) [] ≡ option_map_or g (if z then Some x else find test xs) []
  which rest true = h x (inl refl)
  which rest false = rest

pub append-none : (xs : List ℕ) → xs ≡ xs ++ []
append-none [] = refl
append-none (x ∷ xs) = ap (λ (y : List ℕ). x ∷ y) (append-none xs)

-- the texts of two lists, one behind the other
pub flat-append : {X : Type 0} (f : X → List ℕ) (xs ys : List X) → flat_map f (xs ++ ys) ≡ flat_map f xs ++ flat_map f ys
flat-append f [] ys = refl
flat-append f (x ∷ xs) ys = ap (λ (z : List ℕ). f x ++ z) (flat-append f xs ys) ∙ sym (append_assoc (f x) (flat_map f xs) (flat_map f ys))
