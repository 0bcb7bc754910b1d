-- The block of a routine: its kids, and the routines in it.
use Rattle.std.proofs.Common.{Bool, List, Option, [], ap, arith, eqb-true, false, refl, subst, suc, sym, true, ℕ, ◌&&◌, ◌++◌, ◌+◌, ◌==◌, ◌∙◌, ◌∷◌, ◌≡◌}
use Rattle.std.proofs.lemmas.Bool.{and_parts}
use Rattle.pc_lookup_law.specs.ClassAt.{class_inside}
use Rattle.pc_lookup_law.proofs.ClassAtLaws.{Rooted, rooted-kids, rooted-next}
use Rattle.pc_lookup_law.proofs.KidsLaws.{EndsInBlock, heading-other, is_whole}
use Rattle.pc_rule_laws.specs.Orderly.{Orderly}
use Rattle.pc_rule_laws.specs.OwnBlock.{block-orderly}
use Rattle.pc_rule_laws.specs.Quiet.{Asked, asked}
use Rattle.pc_rules.specs.Meanings.{Class}
use Rattle.pc_rules.specs.OwnBlock.{own}
use Rattle.pc_rules.specs.RoutineList.{key_of, routines_below, routines_in}
use Rattle.pc_rules.specs.Routines.{Routine, start_of}
use Rattle.pc_scope.specs.Blocks.{block_kids, kid_count}
use Rattle.pc_syntax.specs.Classes.{is_consts, is_routines, is_types, is_vars}
use Rattle.pc_syntax.specs.Fits.{takes_count, takes_from}
use Rattle.pc_syntax.specs.Plain.{Cons, Forest, Nil, Plain, count, kinds}
use Rattle.pc_syntax.specs.WellFormed.{WellFormed}
use Rattle.pc_syntax.specs.declared.kind.Kind.{Kind}
use Rattle.pc_syntax.specs.declared.kind.Kind.TheVariants as kind

-- the kids of a block, or none
abbrev pub BlockKids : Forest → Type 0
BlockKids Nil = Unit {0}
BlockKids (Cons k1 w1 n1 c1 (Cons k2 w2 n2 c2 (Cons k3 w3 n3 c3 (Cons k4 w4 n4 rs rest)))) = (k1 ≡ kind.Consts) × (k2 ≡ kind.Types) × (k3 ≡ kind.Vars) × (k4 ≡ kind.Routines)
BlockKids (Cons k w ns ks ts) = ⊥

-- the kids of a block
abbrev pub block_of_kids : (w1 w2 w3 w4 : List ℕ) (n1 n2 n3 n4 : List (List ℕ)) (c1 c2 c3 rs rest : Forest) → Forest
block_of_kids w1 w2 w3 w4 n1 n2 n3 n4 c1 c2 c3 rs rest = Cons kind.Consts w1 n1 c1 (Cons kind.Types w2 n2 c2 (Cons kind.Vars w3 n3 c3 (Cons kind.Routines w4 n4 rs rest)))

-- what holds of the kids of a block, holds of these
pub block-cases : (P : Forest → Type 0) → P Nil →
    ((w1 w2 w3 w4 : List ℕ) (n1 n2 n3 n4 : List (List ℕ)) (c1 c2 c3 rs rest : Forest) → P (block_of_kids w1 w2 w3 w4 n1 n2 n3 n4 c1 c2 c3 rs rest)) →
    (f : Forest) → BlockKids f → P f
block-cases P none some Nil h = none
block-cases P none some (Cons k1 w1 n1 c1 Nil) h = absurd h
block-cases P none some (Cons k1 w1 n1 c1 (Cons k2 w2 n2 c2 Nil)) h = absurd h
block-cases P none some (Cons k1 w1 n1 c1 (Cons k2 w2 n2 c2 (Cons k3 w3 n3 c3 Nil))) h = absurd h
block-cases P none some (Cons k1 w1 n1 c1 (Cons k2 w2 n2 c2 (Cons k3 w3 n3 c3 (Cons k4 w4 n4 rs rest)))) h =
    let e : block_of_kids w1 w2 w3 w4 n1 n2 n3 n4 c1 c2 c3 rs rest ≡ Cons k1 w1 n1 c1 (Cons k2 w2 n2 c2 (Cons k3 w3 n3 c3 (Cons k4 w4 n4 rs rest))) =
    λ i. Cons (sym h.0 i) w1 n1 c1 (Cons (sym h.1 i) w2 n2 c2 (Cons (sym h.2 i) w3 n3 c3 (Cons (sym h.3 i) w4 n4 rs rest))) in
    subst P e (some w1 w2 w3 w4 n1 n2 n3 n4 c1 c2 c3 rs rest)

-- the kids of a block of a well-formed program, or none
pub record Blockly (f : Forest) : Type 0 where
  pub kids : BlockKids f
  pub sound : WellFormed f
  pub orderly : Orderly (own f)

consts-are : (k : Kind) → is_consts k ≡ true → k ≡ kind.Consts
consts-are kind.Consts e = refl
consts-are _ e = cc e

types-are : (k : Kind) → is_types k ≡ true → k ≡ kind.Types
types-are kind.Types e = refl
types-are _ e = cc e

vars-are : (k : Kind) → is_vars k ≡ true → k ≡ kind.Vars
vars-are kind.Vars e = refl
vars-are _ e = cc e

routines-are : (k : Kind) → is_routines k ≡ true → k ≡ kind.Routines
routines-are kind.Routines e = refl
routines-are _ e = cc e

fewer : (n : ℕ) → (n == 5) ≡ true → (n ≡ 5 → ⊥) → ⊥
fewer n e f = f (eqb-true n 5 e)

whole-kids : (f : Forest) → takes_count kind.Block (count f) ≡ true → takes_from kind.Block 0 (kinds f) ≡ true → BlockKids f
whole-kids Nil m e = tt
whole-kids (Cons k1 w1 n1 c1 Nil) m e = absurd (fewer 1 m (λ f. absurd (omega (arith, f))))
whole-kids (Cons k1 w1 n1 c1 (Cons k2 w2 n2 c2 Nil)) m e = absurd (fewer 2 m (λ f. absurd (omega (arith, f))))
whole-kids (Cons k1 w1 n1 c1 (Cons k2 w2 n2 c2 (Cons k3 w3 n3 c3 Nil))) m e = absurd (fewer 3 m (λ f. absurd (omega (arith, f))))
whole-kids (Cons k1 w1 n1 c1 (Cons k2 w2 n2 c2 (Cons k3 w3 n3 c3 (Cons k4 w4 n4 rs rest)))) m e =
    let z : Bool = takes_from kind.Block 4 (kinds rest) in
    let a = and_parts (is_consts k1) (is_types k2 && (is_vars k3 && (is_routines k4 && z))) e in
    let b = and_parts (is_types k2) (is_vars k3 && (is_routines k4 && z)) a.1 in
    let c = and_parts (is_vars k3) (is_routines k4 && z) b.1 in
    (consts-are k1 a.0, types-are k2 b.0, vars-are k3 c.0, routines-are k4 (and_parts (is_routines k4) z c.1).0)

nothing-blockly : Blockly Nil
unfolding own
nothing-blockly = record { kids = tt; sound = tt; orderly = tt }

pub whole-is : (k : Kind) → is_whole k ≡ true → k ≡ kind.Block
whole-is kind.Block e = refl
whole-is _ e = cc e

blockly : (w : List ℕ) (ns : List (List ℕ)) (ks ts : Forest) → WellFormed (Cons kind.Block w ns ks ts) → Blockly ks
blockly w ns ks ts h =
    let a : Asked kind.Block w ks = asked kind.Block w ks h.0 in
    record { kids = whole-kids ks a.many a.placed; sound = h.3; orderly = block-orderly w ns ks ts h }

pub kids-other : (k : Kind) (w : List ℕ) (ns : List (List ℕ)) (ks ts : Forest) → is_whole k ≡ false → block_kids (Cons k w ns ks ts) ≡ block_kids ts
kids-other kind.Block w ns ks ts e = cc e
kids-other _ w ns ks ts e = refl

-- the block among the kids of a routine
pub kids-blockly : (f : Forest) → WellFormed f → Blockly (block_kids f)
kids-blockly Nil h = nothing-blockly
kids-blockly (Cons k w ns ks ts) h = by (is_whole k) refl (kids-blockly ts h.4) where
  by : (b : Bool) → is_whole k ≡ b → Blockly (block_kids ts) → Blockly (block_kids (Cons k w ns ks ts))
  by true e ih =
      let same : kind.Block ≡ k = sym (whole-is k e) in
      subst (λ (x : Kind). WellFormed (Cons x w ns ks ts) → Blockly (block_kids (Cons x w ns ks ts))) same (blockly w ns ks ts) h
  by false e ih = subst Blockly (sym (kids-other k w ns ks ts e)) ih

-- ---- the block stands last

below-other : (r : Routine) (i : ℕ) (k : Kind) (w : List ℕ) (ns : List (List ℕ)) (ks ts : Forest) → is_whole k ≡ false → routines_below r i (Cons k w ns ks ts) ≡ routines_below r (suc i) ts
unfolding routines_in routines_below
below-other r i kind.Block w ns ks ts e = cc e
below-other r i _ w ns ks ts e = refl

-- the routines in the block of a routine
pub below-block : (r : Routine) (i n : ℕ) (f : Forest) → EndsInBlock f → suc n ≡ i + kid_count f →
    routines_below r i f ≡ routines_in r.means (start_of r) [] (r.place ++ n ∷ []) (key_of r.owner) (block_kids f)
unfolding routines_in routines_below
below-block r i n Nil h e = absurd h
below-block r i n (Cons k w ns ks Nil) h e = by (is_whole k) refl where
  same : i ≡ n
  same = omega (arith, e)

  by : (b : Bool) → is_whole k ≡ b → routines_below r i (Cons k w ns ks Nil) ≡ routines_in r.means (start_of r) [] (r.place ++ n ∷ []) (key_of r.owner) (block_kids (Cons k w ns ks Nil))
  by true is =
      subst (λ (x : Kind). routines_below r i (Cons x w ns ks Nil) ≡ routines_in r.means (start_of r) [] (r.place ++ n ∷ []) (key_of r.owner) (block_kids (Cons x w ns ks Nil)))
      (sym (whole-is k is)) (ap (λ x. routines_in r.means (start_of r) [] (r.place ++ x ∷ []) (key_of r.owner) ks) same)
  by false is = below-other r i k w ns ks Nil is ∙ ap (routines_in r.means (start_of r) [] (r.place ++ n ∷ []) (key_of r.owner)) (sym (kids-other k w ns ks Nil is))
below-block r i n (Cons k w ns ks (Cons j v os js us)) h e =
    below-other r i k w ns ks (Cons j v os js us) (heading-other k h.0) ∙ below-block r (suc i) n (Cons j v os js us) h.1 (omega (arith, e))
    ∙ ap (routines_in r.means (start_of r) [] (r.place ++ n ∷ []) (key_of r.owner)) (sym (kids-other k w ns ks (Cons j v os js us) (heading-other k h.0)))

-- its kids stand below it
pub record BlockRooted (t : Plain) (p : List ℕ) (f : Forest) : Type 0 where
  pub class : Option Class
  pub root : Rooted t p class 1 f

pub block-rooted : (t : Plain) (p : List ℕ) (c : Option Class) (i n : ℕ) (f : Forest) → EndsInBlock f → suc n ≡ i + kid_count f → Rooted t p c i f → BlockRooted t (p ++ n ∷ []) (block_kids f)
block-rooted t p c i n Nil h e root = absurd h
block-rooted t p c i n (Cons k w ns ks Nil) h e root = by (is_whole k) refl where
  same : i ≡ n
  same = omega (arith, e)

  by : (b : Bool) → is_whole k ≡ b → BlockRooted t (p ++ n ∷ []) (block_kids (Cons k w ns ks Nil))
  by true is =
      subst (λ (x : Kind). BlockRooted t (p ++ n ∷ []) (block_kids (Cons x w ns ks Nil))) (sym (whole-is k is))
      (record { class = class_inside c k; root = subst (λ x. Rooted t (p ++ x ∷ []) (class_inside c k) 1 ks) same (rooted-kids t p c i k w ns ks Nil root) })
  by false is = subst (BlockRooted t (p ++ n ∷ [])) (sym (kids-other k w ns ks Nil is)) (record { class = c; root = tt })
block-rooted t p c i n (Cons k w ns ks (Cons j v os js us)) h e root =
    subst (BlockRooted t (p ++ n ∷ [])) (sym (kids-other k w ns ks (Cons j v os js us) (heading-other k h.0)))
    (block-rooted t p c (suc i) n (Cons j v os js us) h.1 (omega (arith, e)) (rooted-next t p c i k w ns ks (Cons j v os js us) root))
