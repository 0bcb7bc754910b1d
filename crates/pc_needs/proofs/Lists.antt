-- What holds of each of a list's elements.
use Rattle.std.specs.Prelude.{ℕ, ◌≡◌, Bool, true, false, ◌||◌, if◌then◌else◌, List, [], ◌∷◌, ◌++◌}
use Rattle.std.proofs.Common.{refl, sym, subst, true≢false, inl, inr}
use Rattle.std.proofs.lemmas.Bool.{or_left, or_right}
use Rattle.std.proofs.lemmas.Slice.Eq.{bytes_eq-Decides}
use Rattle.std.specs.Str.{bytes_eq}
use Rattle.pc_syntax.specs.Words.{is_among}
use Rattle.pc_rules.specs.Routines.{Routine}
use Rattle.pc_needs.specs.Unaffected.{IsOneOf}
use Rattle.pc_needs.specs.UsedNames.{once}

-- what holds of each element
abbrev pub Each : {X : Type 0} → (X → Type 0) → List X → Type 0
Each P [] = Unit {0}
Each P (x ∷ xs) = P x × Each P xs

-- both parts of a list, and the whole
pub each-append : {X : Type 0} (P : X → Type 0) (xs ys : List X) → Each P xs → Each P ys → Each P (xs ++ ys)
each-append P [] ys h g = g
each-append P (x ∷ xs) ys h g = (h.0, each-append P xs ys h.1 g)

pub each-front : {X : Type 0} (P : X → Type 0) (xs ys : List X) → Each P (xs ++ ys) → Each P xs
each-front P [] ys h = tt
each-front P (x ∷ xs) ys h = (h.0, each-front P xs ys h.1)

pub each-back : {X : Type 0} (P : X → Type 0) (xs ys : List X) → Each P (xs ++ ys) → Each P ys
each-back P [] ys h = h
each-back P (x ∷ xs) ys h = each-back P xs ys h.1

-- what follows from another fact
pub each-map : {X : Type 0} (P Q : X → Type 0) (xs : List X) → ((x : X) → P x → Q x) → Each P xs → Each Q xs
each-map P Q [] f h = tt
each-map P Q (x ∷ xs) f h = (f x h.0, each-map P Q xs f h.1)

-- a name among those of which something holds
pub each-at : (P : List ℕ → Type 0) (ns : List (List ℕ)) (n : List ℕ) → is_among ns n ≡ true → Each P ns → P n
each-at P [] n e h = absurd (true≢false (sym e))
each-at P (m ∷ ms) n e h = here (λ q. each-at P ms n q h.1) (bytes_eq m n) refl e where
  here : (is_among ms n ≡ true → P n) → (b : Bool) → bytes_eq m n ≡ b → (b || is_among ms n) ≡ true → P n
  here rest true p q = subst P ((bytes_eq-Decides m n).0 p) h.0
  here rest false p q = rest q

-- what holds of each name taken once holds of each name
pub each-once : (P : List ℕ → Type 0) (before ns : List (List ℕ)) → Each P before → Each P (once before ns) → Each P ns
each-once P before [] b h = tt
each-once P before (n ∷ ns) b h = met (each-once P before ns b) (λ x g. each-once P (n ∷ before) ns (x, b) g) (is_among before n) refl h where
  met : (Each P (once before ns) → Each P ns) → (P n → Each P (once (n ∷ before) ns) → Each P ns) → (m : Bool) → is_among before n ≡ m →
      Each P (if m then once before ns else n ∷ once (n ∷ before) ns) → P n × Each P ns
  met old new true e g = (each-at P before n e b, old g)
  met old new false e g = (g.0, new g.0 g.1)

-- each name of a list is among them
pub each-among : (ns : List (List ℕ)) → Each (λ n. is_among ns n ≡ true) ns
each-among [] = tt
each-among (n ∷ ns) = (
  or_left (bytes_eq n n) (is_among ns n) ((bytes_eq-Decides n n).1 refl),
  each-map (λ m. is_among ns m ≡ true) (λ m. is_among (n ∷ ns) m ≡ true) ns (λ m e. or_right (bytes_eq n m) (is_among ns m) e) (each-among ns),
)

-- both facts
pub each-both : {X : Type 0} (P Q : X → Type 0) (xs : List X) → Each P xs → Each Q xs → Each (λ x. P x × Q x) xs
each-both P Q [] h g = tt
each-both P Q (x ∷ xs) h g = ((h.0, g.0), each-both P Q xs h.1 g.1)

-- what holds of each routine holds of one of them
pub each-one : (P : Routine → Type 0) (rs : List Routine) (r : Routine) → IsOneOf rs r → Each P rs → P r
each-one P [] r c h = absurd c
each-one P (x ∷ xs) r (inl e) h = subst P e h.0
each-one P (x ∷ xs) r (inr c) h = each-one P xs r c h.1
