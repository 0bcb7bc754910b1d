-- Steps of reading, one after another, and from one layer to the next.
use Rattle.std.proofs.Common.{◌≡◌, ℕ, Bool, true, List, [], ◌++◌, Option, Result, Ok, Err, IsErrOf, ap, sym, ◌∙◌, append_assoc}
use Rattle.std.proofs.KnownBytes.{Consumes-nil, Consumes-trans}
use Rattle.pc_script.specs.Ahead.{Ahead, IsSame, IsCutOff}
use Rattle.pc_script.specs.Reading.{Reading, MayCome, Took, Took-more, Fails, Fails-more, over}

-- Nothing is read.
pub Took-none : {X : Type 0} (r s : Reading X) (P : Ahead X → Ahead X → Type 0) → s.left ≡ r.left → s.ended ≡ r.ended →
    ((rest : List ℕ) (more : Bool) → MayCome s.ended rest more → P (r.ahead rest more) (s.ahead rest more)) → Took r s P
Took-none r s P left ended step = record {
  taken = [];
  consumed = rw left (Consumes-nil r.left);
  may = λ rest more m. rw ended at m;
  met = λ met is. rw left (met (sym ended ∙ is));
  step = step;
}

-- What is taken where nothing came is taken from what was before.
pub Took-filled : {X : Type 0} (r s t : Reading X) (P : Ahead X → Ahead X → Type 0) → Took r s IsSame → Took s t P → Took r t P
Took-filled r s t P filled took = Took-more r s t IsSame P P filled took (λ a b c same p. rw (← same) p)

-- A step after another, seen a layer up.
pub Took-then : {X Y : Type 0} (f g : Ahead X → Ahead Y) (r s t : Reading X) (P Q : Ahead X → Ahead X → Type 0) (R : Ahead Y → Ahead Y → Type 0) →
    Took r s P → Took s t Q → ((a b c : Ahead X) → P a b → Q b c → R (f a) (g c)) → Took (over f r) (over g t) R
Took-then f g r s t P Q R p q join = record {
  taken = p.taken ++ q.taken;
  consumed = Consumes-trans r.left s.left t.left p.taken q.taken p.consumed q.consumed;
  may = λ rest more m. rw append_assoc (p.may (q.taken ++ rest) more (q.may rest more m));
  met = λ m. q.met (p.met m);
  step = λ rest more m. rw append_assoc (join _ _ _ (p.step (q.taken ++ rest) more (q.may rest more m)) (q.step rest more m));
}

-- A failure after a step, seen a layer up.
pub Fails-then : {X Y : Type 0} (f : Ahead X → Ahead Y) (r s : Reading X) (after : Option (List ℕ)) (P : Ahead X → Ahead X → Type 0) →
    Took r s P → Fails s after → ((a b : Ahead X) → P a b → IsCutOff b → IsCutOff (f a)) → Fails (over f r) after
Fails-then f r s after P p q join = record {
  taken = p.taken ++ q.taken;
  consumed = Consumes-trans r.left s.left after p.taken q.taken p.consumed q.consumed;
  may = p.may q.taken true q.may;
  none = join _ _ (p.step q.taken true q.may) q.none;
}

-- A step, seen a layer up.
pub Took-over : {X Y : Type 0} (f g : Ahead X → Ahead Y) (r s : Reading X) (P : Ahead X → Ahead X → Type 0) (Q : Ahead Y → Ahead Y → Type 0) →
    Took r s P → ((a b : Ahead X) → P a b → Q (f a) (g b)) → Took (over f r) (over g s) Q
Took-over f g r s P Q p join = record {
  taken = p.taken;
  consumed = p.consumed;
  may = p.may;
  met = p.met;
  step = λ rest more m. join _ _ (p.step rest more m);
}

-- A failure, seen a layer up.
pub Fails-over : {X Y : Type 0} (f : Ahead X → Ahead Y) (r : Reading X) (after : Option (List ℕ)) →
    Fails r after → ((a : Ahead X) → IsCutOff a → IsCutOff (f a)) → Fails (over f r) after
Fails-over f r after p cut = record {
  taken = p.taken;
  consumed = p.consumed;
  may = p.may;
  none = cut _ p.none;
}

-- A failure after a step in which nothing came.
pub Fails-filled : {X : Type 0} (r s : Reading X) (after : Option (List ℕ)) → Took r s IsSame → Fails s after → Fails r after
Fails-filled r s after filled f = Fails-more r s after IsSame filled f (λ a b same cut. rw (← same) cut)

err_or : {T E : Type 0} → E → Result T E → E
err_or other (Ok x) = other
err_or other (Err e) = e

-- An error is the same one where another result was wanted.
pub IsErrOf-other : {T U E : Type 0} (e x : E) → IsErrOf {T = T} (Err e) x → IsErrOf {T = U} (Err e) x
unfolding err_or
IsErrOf-other e x is = ap (λ y. Err y) (ap (err_or x) is)
