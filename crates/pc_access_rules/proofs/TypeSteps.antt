-- Types by their numbers, known or not: lemmas.
use Rattle.std.specs.Prelude.{◌≡◌, ℕ, Bool, true, false, ◌||◌, List, [], ◌++◌, Option, Some, None, IfSome, option_map}
use Rattle.std.specs.Option.{is_some, ForSome}
use Rattle.std.proofs.Common.{refl, ap, sym, ◌∙◌, subst}
use Rattle.std.proofs.lemmas.Option.{none-some, same_Some}
use Rattle.pc_syntax.specs.declared.kind.Kind.{Kind}
use Rattle.pc_types.specs.Shapes.{Typed}
use Rattle.pc_types.specs.Table.{Table, shape_at, IsThere}
use Rattle.pc_types.specs.declared.operand.Operand.{Operand}
use Rattle.pc_rules.specs.Attributes.{Entry, Node}
use Rattle.pc_rules.specs.Components.{component_node}
use Rattle.pc_rules.specs.Decorated.{with_kind}
use Rattle.pc_facts.specs.Known.{Known}
use Rattle.pc_facts.specs.Shows.{ShowsNode, ShowsType, shape_of}
use Rattle.pc_facts.specs.declared.facts.Facts.{Facts}

pub for-some : {X : Type 0} (P : X → Type 0) (o : Option X) → IfSome o P → ForSome o P
for-some P None h = λ x e. absurd (none-some x e)
for-some P (Some y) h = λ x e. subst P (same_Some y x e) h

pub if-some : {X : Type 0} (P : X → Type 0) (o : Option X) → ForSome o P → IfSome o P
if-some P None h = tt
if-some P (Some y) h = h y refl

-- the table of a fact is the one that the code has
pub shape-in : (s t : Table) (o : Option Operand) (ty : Option Typed) → s ≡ t → ShowsType s o ty → option_map (shape_at t) o ≡ shape_of ty
shape-in s t o ty e h = ap (λ (x : Table). option_map (shape_at x) o) (sym e) ∙ h.shape

pub there-in : (s t : Table) (o : Option Operand) (ty : Option Typed) → s ≡ t → ShowsType s o ty → IfSome o (IsThere t)
there-in s t o ty e h = if-some (IsThere t) o (subst (λ (x : Table). ForSome o (IsThere x)) e h.there)

pub shown : (s t : Table) (o : Option Operand) (ty : Option Typed) → s ≡ t → option_map (shape_at t) o ≡ shape_of ty → IfSome o (IsThere t) → ShowsType s o ty
shown s t o ty e shape there = record {
  shape = ap (λ (x : Table). option_map (shape_at x) o) e ∙ shape;
  there = for-some (IsThere s) o (subst (λ (x : Table). IfSome o (IsThere x)) (sym e) there);
}

-- the same types are known
pub known-same : (t : Table) (o : Option Operand) (ty : Option Typed) → ShowsType t o ty → is_some o ≡ is_some ty
known-same t None None h = refl
known-same t (Some o) (Some ty) h = refl
known-same t None (Some ty) h = let e = h.shape in cc
known-same t (Some o) None h = let e = h.shape in cc

pub or-false : (b : Bool) → (b || false) ≡ b
or-false true = refl
or-false false = refl

-- whether a hole stands in one of two kids
pub two-holes : (h p q x y : Bool) → h ≡ (p || q) → p ≡ x → q ≡ y → (x || (y || false)) ≡ h
two-holes h p q x y e a b = ap (λ z. x || z) (or-false y) ∙ let f : (x || y) ≡ h = cc in f

-- a component of something packed
pub with-packed : (k : Known) (f : Facts) (kd : Kind) (w : List ℕ) (kids : List Node) (es : List Entry) (ty : Option Typed) (p q : Bool) → p ≡ q →
    ShowsNode k f (with_kind kd w (component_node kids es ty p)) → ShowsNode k f (with_kind kd w (component_node kids es ty q))
with-packed k f kd w kids es ty p q e h = subst (λ (x : Bool). ShowsNode k f (with_kind kd w (component_node kids es ty x))) e h

-- a list that begins empty
pub begun : (old es all : List Entry) → old ≡ [] → all ≡ old ++ es → all ≡ es
begun old es all none is = is ∙ ap (λ (x : List Entry). x ++ es) none
