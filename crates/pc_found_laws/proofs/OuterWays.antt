-- No path leads from a node outside statement parts down to an expression.
use Rattle.std.specs.Prelude.{ℕ, zero, suc, ◌≡◌, Bool, true, false, not, ◌||◌, List, [], ◌∷◌, Option, Some, None, slice_get}
use Rattle.std.specs.Option.{option_and_then}
use Rattle.std.proofs.Common.{refl, sym, subst, true≢false}
use Rattle.pc_syntax.specs.declared.kind.Kind.{Kind}
use Rattle.pc_syntax.specs.declared.kind.Kind.TheVariants as kind
use Rattle.pc_syntax.specs.declared.sort.Sort.TheVariants as sort
use Rattle.pc_syntax.specs.Parts.{kid_at}
use Rattle.pc_syntax.specs.Places.{at}
use Rattle.pc_syntax.specs.Plain.{Forest, Nil, Cons, Plain, trees_of, kids_of}
use Rattle.pc_syntax.specs.WellFormed.{WellFormed}
use Rattle.pc_decl.specs.Nodes.{is_expression}
use Rattle.pc_needs.proofs.BodyKinds.{either-way}
use Rattle.pc_program_laws.specs.Unsigned.{AllOfKind}
use Rattle.pc_program_laws.proofs.KindLemmas.{all-of}
use Rattle.pc_rules.specs.RoutineList.{NoRoutine, part_of}
use Rattle.pc_found_laws.proofs.NodeLemmas.{tree_of}
use Rattle.pc_found_laws.proofs.OuterKinds.{is_outer, is_outer_class, class-outer, kids-outer}

-- ---- trees

-- a tree of such nodes
abbrev pub AllOuter : Plain → Type 0
AllOuter x = (is_outer x.kind ≡ true) × AllOfKind is_outer x.kids

pub tree-outer : (k : Kind) (w : List ℕ) (ns : List (List ℕ)) (ks : Forest) → is_outer k ≡ true → WellFormed (Cons k w ns ks Nil) → AllOuter (tree_of k w ns ks)
tree-outer k w ns ks e c = let all = all-of is_outer is_outer_class class-outer kids-outer (Cons k w ns ks Nil) c (e, tt) in (e, all.1)

-- none of them is an expression
expression-so : (k : Kind) → (not (is_expression k) || not (is_outer k)) ≡ true
expression-so (kind.Hole sort.Expression) = refl
expression-so (kind.Hole _) = refl
expression-so _ = refl

pub not-both : (b : Bool) → not b ≡ true → b ≡ true → ⊥
not-both true e f = true≢false (sym e)
not-both false e f = true≢false (sym f)

pub outer-none : (k : Kind) → is_outer k ≡ true → is_expression k ≡ true → ⊥
outer-none k e f = not-both (is_expression k) (either-way (not (is_expression k)) (is_outer k) (expression-so k) e) f

-- ---- ways

row-outer : (f : Forest) (i : ℕ) (z : Plain) → AllOfKind is_outer f → slice_get (trees_of f) i ≡ Some z → AllOuter z
row-outer Nil i z h e = cc
row-outer (Cons k w ns ks ts) zero z h e = let same : tree_of k w ns ks ≡ z = cc in subst AllOuter same (h.0, h.1)
row-outer (Cons k w ns ks ts) (suc i) z h e = row-outer ts i z h.2 e

kid-outer : (y z : Plain) (i : ℕ) → AllOuter y → kid_at y (suc i) ≡ Some z → AllOuter z
unfolding kids_of
kid-outer y z i h e = row-outer y.kids i z h.1 e

-- so no path leads to one
pub outer-way : (js : List ℕ) (y x : Plain) → AllOuter y → at js y ≡ Some x → is_expression x.kind ≡ true → ⊥
outer-way [] y x h e f = let same : y ≡ x = cc in outer-none x.kind (subst (λ (z : Plain). is_outer z.kind ≡ true) same h.0) f
outer-way (zero ∷ js) y x h e f = cc
outer-way (suc i ∷ js) y x h e f = which (λ z. outer-way js z x) (kid_at y (suc i)) refl e where
  which : ((z : Plain) → AllOuter z → at js z ≡ Some x → is_expression x.kind ≡ true → ⊥) → (o : Option Plain) → kid_at y (suc i) ≡ o → option_and_then (at js) o ≡ Some x → ⊥
  which rest None is g = cc
  which rest (Some z) is g = rest z (kid-outer y z i h is) g f

-- such a node has no routines
pub outer-part : (k : Kind) → is_outer k ≡ true → part_of k ≡ NoRoutine
outer-part kind.Procedure e = absurd (true≢false (sym e))
outer-part kind.Function e = absurd (true≢false (sym e))
outer-part kind.Funbody e = absurd (true≢false (sym e))
outer-part kind.Routines e = absurd (true≢false (sym e))
outer-part _ e = refl
