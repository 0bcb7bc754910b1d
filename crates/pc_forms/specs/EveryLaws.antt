-- What holds of each tree of a list.
use Rattle.std.proofs.Common.{◌≡◌, ℕ, zero, suc, ◌<◌, List, [], ◌∷◌, length, get_or, refl, arith}
use Rattle.pc_syntax.specs.Plain.{Plain}
use Rattle.pc_forms.specs.FormClasses.{Every}

-- it holds of each, where it holds at each place
pub Every-from : (P : Plain → Type 0) (ks : List Plain) → ((i : ℕ) (k : Plain) → i < length ks → get_or ks i k ≡ k → P k) → Every P ks
Every-from P [] h = tt
Every-from P (k ∷ ks) h = (h 0 k (omega arith) refl, Every-from P ks (λ i j l e. h (suc i) j (omega arith) e))

-- and at each place, where it holds of each
pub Every-get_or : (P : Plain → Type 0) (ks : List Plain) (i : ℕ) (d : Plain) → i < length ks → Every P ks → P (get_or ks i d)
Every-get_or P [] i d l h = absurd (omega arith)
Every-get_or P (k ∷ ks) zero d l h = h.0
Every-get_or P (k ∷ ks) (suc i) d l h = Every-get_or P ks i d (omega arith) h.1

-- what follows from it holds of each
pub Every-map : (P Q : Plain → Type 0) (ks : List Plain) → ((k : Plain) → P k → Q k) → Every P ks → Every Q ks
Every-map P Q [] f h = tt
Every-map P Q (k ∷ ks) f h = (f k h.0, Every-map P Q ks f h.1)
