-- A script while it is read, and what a call says of the bytes that it took from the source.
use Rattle.std.specs.Prelude.{◌≡◌, Bool, true, false, ℕ, List, [], ◌++◌, Option, Some, ⊤}
use Rattle.std.specs.Io.KnownBytes.{Consumes, IsAtEnd}
use Rattle.std.proofs.Common.{append_assoc, refl}
use Rattle.std.proofs.KnownBytes.{Consumes-trans}
use Rattle.pc_script.specs.Ahead.{Ahead, IsCutOff}

-- What the source has left, where it tells that; whether its end was met; and what is still to come, were the source to
-- give these bytes (and then perhaps more).
pub record Reading (X : Type 0) : Type 0 where
  pub left : Option (List ℕ)
  pub ended : Bool
  pub ahead : List ℕ → Bool → Ahead X

-- After the end of the source was met, no bytes come, and no more.
abbrev pub MayCome : Bool → List ℕ → Bool → Type 0
MayCome true rest more = (rest ≡ []) × (more ≡ false)
MayCome false rest more = ⊤

-- The end was met only where nothing is left.
abbrev pub IsMet : {X : Type 0} → Reading X → Type 0
IsMet r = r.ended ≡ true → IsAtEnd r.left

-- From r to s these bytes were taken from the source. Whatever comes after them, P holds of what was ahead and what is now.
pub record Took {X : Type 0} (r s : Reading X) (P : Ahead X → Ahead X → Type 0) : Type 0 where
  pub taken : List ℕ
  pub consumed : Consumes r.left s.left taken
  pub may : (rest : List ℕ) (more : Bool) → MayCome s.ended rest more → MayCome r.ended (taken ++ rest) more
  pub met : IsMet r → IsMet s
  pub step : (rest : List ℕ) (more : Bool) → MayCome s.ended rest more → P (r.ahead (taken ++ rest) more) (s.ahead rest more)

-- The source failed after these bytes were taken from it, and no item stands whole in what was ahead.
pub record Fails {X : Type 0} (r : Reading X) (after : Option (List ℕ)) : Type 0 where
  pub taken : List ℕ
  pub consumed : Consumes r.left after taken
  pub may : MayCome r.ended taken true
  pub none : IsCutOff (r.ahead taken true)

-- The same reading, where something else is made of what is ahead.
abbrev pub over : {X Y : Type 0} → (Ahead X → Ahead Y) → Reading X → Reading Y
over f r = record { left = r.left; ended = r.ended; ahead = λ rest more. f (r.ahead rest more) }

-- One call after another.
pub Took-more : {X : Type 0} (r s t : Reading X) (P Q R : Ahead X → Ahead X → Type 0) → Took r s P → Took s t Q →
    ((a b c : Ahead X) → P a b → Q b c → R a c) → Took r t R
Took-more r s t P Q R p q join = record {
  taken = p.taken ++ q.taken;
  consumed = Consumes-trans r.left s.left t.left p.taken q.taken p.consumed q.consumed;
  may = λ rest more m. rw append_assoc (p.may (q.taken ++ rest) more (q.may rest more m));
  met = λ m. q.met (p.met m);
  step = λ rest more m. rw append_assoc (join _ _ _ (p.step (q.taken ++ rest) more (q.may rest more m)) (q.step rest more m));
}

-- A call that failed after others.
pub Fails-more : {X : Type 0} (r s : Reading X) (after : Option (List ℕ)) (P : Ahead X → Ahead X → Type 0) → Took r s P → Fails s after →
    ((a b : Ahead X) → P a b → IsCutOff b → IsCutOff a) → Fails r after
Fails-more r s after P p q join = record {
  taken = p.taken ++ q.taken;
  consumed = Consumes-trans r.left s.left after p.taken q.taken p.consumed q.consumed;
  may = p.may q.taken true q.may;
  none = join _ _ (p.step q.taken true q.may) q.none;
}

may : (ended : Bool) (bytes : List ℕ) → (ended ≡ true → bytes ≡ []) → MayCome ended bytes false
may true bytes none = (none refl, refl)
may false bytes none = tt

-- What is left may come.
pub MayCome-left : {X : Type 0} (r : Reading X) (bytes : List ℕ) → IsMet r → r.left ≡ Some bytes → MayCome r.ended bytes false
MayCome-left r bytes met told = may r.ended bytes (λ e. rw told at (met e))
