-- Ways from a statement part down to its nodes, kid by kid.
use Rattle.std.specs.Prelude.{ℕ, zero, suc, ◌≡◌, List, [], ◌∷◌, ◌++◌, Option, Some, None}
use Rattle.std.specs.Option.{option_and_then}
use Rattle.std.proofs.Common.{refl, ap, sym, ◌∙◌, subst, append_assoc}
use Rattle.pc_syntax.specs.Parts.{kid_at}
use Rattle.pc_syntax.specs.Places.{at}
use Rattle.pc_syntax.specs.Plain.{Plain}
use Rattle.pc_rules.specs.Meanings.{Local, Outside}
use Rattle.pc_rules.specs.Outsides.{outside_of}
use Rattle.pc_rules.specs.RoutineList.{routines_of}
use Rattle.pc_rules.specs.Routines.{Routine}
use Rattle.pc_found_laws.specs.Ways.{kid_place, Reaches, part_path, part_place, StandsIn, WholeLaw, KidLaw, NodeLaw, PathLaw, WaysLaw}

-- ---- nodes by their paths

-- a path that goes on from another
pub at-append : (p q : List ℕ) (t : Plain) → at (p ++ q) t ≡ option_and_then (at q) (at p t)
at-append [] q t = refl
at-append (i ∷ p) q t = which (λ x. at-append p q x) (kid_at t i) where
  which : ((x : Plain) → at (p ++ q) x ≡ option_and_then (at q) (at p x)) → (o : Option Plain) → option_and_then (at (p ++ q)) o ≡ option_and_then (at q) (option_and_then (at p) o)
  which rest None = refl
  which rest (Some x) = rest x

-- a node that a path leads to is met on each part of the way
pub at-parts : (p q : List ℕ) (t x : Plain) → at (p ++ q) t ≡ Some x → (y : Plain) × (at p t ≡ Some y) × (at q y ≡ Some x)
at-parts p q t x e = which (at p t) (sym (at-append p q t) ∙ e) where
  which : (o : Option Plain) → option_and_then (at q) o ≡ Some x → (y : Plain) × (o ≡ Some y) × (at q y ≡ Some x)
  which None e = cc
  which (Some y) e = (y, refl, e)

-- ---- ways

-- one more kid
pub reaches-kid : (out : Outside) (l : Local) (x : Plain) (way : List ℕ) (y : Plain) (m : Local) (i : ℕ) (z : Plain) → Reaches out l x way y m → kid_at y (suc i) ≡ Some z →
    Reaches out l x (way ++ suc i ∷ []) z (kid_place out m y i)
reaches-kid out l x [] y m i z h e =
    subst (λ (a : Plain). Reaches out l a (suc i ∷ []) z (kid_place out m y i)) (sym h.0)
    (subst (λ (k : Local). Reaches out k y (suc i ∷ []) z (kid_place out m y i)) (sym h.1) (z, e, (refl, refl)))
reaches-kid out l x (zero ∷ way) y m i z h e = h
reaches-kid out l x (suc j ∷ way) y m i z h e = (h.0, h.1, reaches-kid out (kid_place out l x j) h.0 way y m i z h.2 e)

-- one way behind another
pub reaches-then : (out : Outside) (l : Local) (x : Plain) (way more : List ℕ) (y z : Plain) (m n : Local) → Reaches out l x way y m → Reaches out m y more z n → Reaches out l x (way ++ more) z n
reaches-then out l x [] more y z m n h g =
    subst (λ (a : Plain). Reaches out l a more z n) (sym h.0) (subst (λ (k : Local). Reaches out k y more z n) (sym h.1) g)
reaches-then out l x (zero ∷ way) more y z m n h g = h
reaches-then out l x (suc j ∷ way) more y z m n h g = (h.0, h.1, reaches-then out (kid_place out l x j) h.0 way more y z m n h.2 g)

-- the node is the one at the end of the way
pub reaches-at : (out : Outside) (l : Local) (x : Plain) (way : List ℕ) (y : Plain) (m : Local) → Reaches out l x way y m → at way x ≡ Some y
reaches-at out l x [] y m h = ap (λ (z : Plain). Some z) h.0
reaches-at out l x (zero ∷ way) y m h = absurd h
reaches-at out l x (suc j ∷ way) y m h = ap (λ (o : Option Plain). option_and_then (at way) o) h.1 ∙ reaches-at out (kid_place out l x j) h.0 way y m h.2

-- and each node has its place
pub at-reaches : (out : Outside) (l : Local) (x : Plain) (way : List ℕ) (y : Plain) → at way x ≡ Some y → (m : Local) × Reaches out l x way y m
at-reaches out l x [] y e = let s : x ≡ y = cc in (l, (s, refl))
at-reaches out l x (zero ∷ way) y e = cc
at-reaches out l x (suc j ∷ way) y e = which (λ z. at-reaches out (kid_place out l x j) z way y) (kid_at x (suc j)) refl e where
  which : ((z : Plain) → at way z ≡ Some y → (m : Local) × Reaches out (kid_place out l x j) z way y m) → (o : Option Plain) → kid_at x (suc j) ≡ o → option_and_then (at way) o ≡ Some y →
      (m : Local) × Reaches out l x (suc j ∷ way) y m
  which rest None is g = cc
  which rest (Some z) is g = let deeper = rest z g in (deeper.0, (z, is, deeper.1))

-- ---- nodes of a statement part

whole : WholeLaw
whole t r x e = record { part = x; here = e; way = []; path_is = refl; reaches = (refl, refl) }

kid : KidLaw
kid t r path x l i y h e = record {
  part = h.part;
  here = h.here;
  way = h.way ++ suc i ∷ [];
  path_is = ap (λ (p : List ℕ). p ++ suc i ∷ []) h.path_is ∙ append_assoc r.place (r.block_kid ∷ 5 ∷ h.way) (suc i ∷ []);
  reaches = reaches-kid (outside_of (routines_of t) r) (part_place t r) h.part h.way x l i y h.reaches e;
}

-- the path of a node by that of the part
pub path-from : (t : Plain) (r : Routine) (path : List ℕ) (x : Plain) (l : Local) (h : StandsIn t r path x l) → path ≡ part_path r ++ h.way
path-from t r path x l h = h.path_is ∙ sym (append_assoc r.place (r.block_kid ∷ 5 ∷ []) h.way)

node : NodeLaw
node t r path x l h =
    ap (λ (p : List ℕ). at p t) (path-from t r path x l h)
    ∙ at-append (part_path r) h.way t
    ∙ ap (λ (o : Option Plain). option_and_then (at h.way) o) h.here
    ∙ reaches-at (outside_of (routines_of t) r) (part_place t r) h.part h.way x l h.reaches

path : PathLaw
path t r way x e =
    let whole : r.place ++ r.block_kid ∷ 5 ∷ way ≡ part_path r ++ way = sym (append_assoc r.place (r.block_kid ∷ 5 ∷ []) way) in
    let part = at-parts (part_path r) way t x (ap (λ (q : List ℕ). at q t) (sym whole) ∙ e) in
    let place = at-reaches (outside_of (routines_of t) r) (part_place t r) part.0 way x part.2 in
    (place.0, record { part = part.0; here = part.1; way = way; path_is = refl; reaches = place.1 })

pub ways-law : WaysLaw
ways-law = record { whole = whole; kid = kid; node = node; path = path }
