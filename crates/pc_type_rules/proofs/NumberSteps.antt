-- Numbers of types: lemmas.
use Rattle.std.specs.Prelude.{◌≡◌, ◌<◌, ◌+◌, [], ◌∷◌, Option, Some, None, length, option_map}
use Rattle.std.specs.Option.{ForSome}
use Rattle.std.proofs.Common.{ap, sym, ◌∙◌, subst, arith, length-append}
use Rattle.pc_types.specs.Shapes.{Shape, Typed}
use Rattle.pc_types.specs.Table.{Table, numbered, shape_at}
use Rattle.pc_types.specs.Growth.{GrowsBy}
use Rattle.pc_types.specs.TableLaws.{shape_at-added}
use Rattle.pc_types.specs.declared.form.TypeId.{TypeId}
use Rattle.pc_types.specs.declared.operand.Operand.{Operand}
use Rattle.pc_types.specs.declared.operand.Operand.TheVariants as operand
use Rattle.pc_facts.specs.Shows.{ShowsType, shape_of}
use Rattle.pc_type_rules.specs.Denoted.{IsNumber}

pub one-some : {X : Type 0} → (P : X → Type 0) (i : X) → P i → ForSome (Some i) P
one-some P i h = λ x e. let f : i ≡ x = cc in subst P f h

-- a type that was just added
pub added-number : (a b : Table) (s : Shape) (i : TypeId) (ty : Option Typed) → i.0 ≡ length a.shapes → GrowsBy a b s → shape_of ty ≡ Some s → IsNumber b (Some i) ty
added-number a b s i ty e g h =
    let n : length b.shapes ≡ length a.shapes + 1 = ap length g.shapes ∙ length-append a.shapes (s ∷ []) in
    record {
      shape = ap Some (shape_at-added a b s i g e) ∙ sym h;
      there = one-some (λ (x : TypeId). x.0 < length b.shapes) i (omega (arith, n, e));
    }

-- a type that was there
pub known-number : (t : Table) (i : TypeId) (known : Operand) (o : Option TypeId) (ty : Option Typed) → known ≡ operand.Id i → (i.0 < length t.shapes → o ≡ Some i) → ShowsType t (Some known) ty → IsNumber t o ty
known-number t i known o ty is f h =
    let there : i.0 < length t.shapes = h.there (operand.Id i) (ap Some is) in
    let e = f there in
    record {
      shape = ap (option_map (numbered t.shapes)) e ∙ ap (λ (x : Operand). let s : Option Shape = Some (shape_at t x) in s) (sym is) ∙ h.shape;
      there = subst (λ (x : Option TypeId). ForSome x (λ y. y.0 < length t.shapes)) (sym e) (one-some (λ (x : TypeId). x.0 < length t.shapes) i there);
    }

-- the base of a set constructor that was there
pub based-number : (t u : Table) (b : TypeId) (base o : Option TypeId) (known : Operand) (ty : Option Typed) → known ≡ operand.Members b → (b.0 < length t.shapes → base ≡ Some b) →
    ((b : TypeId) (ty : Option Typed) → base ≡ Some b → ShowsType t (Some (operand.Members b)) ty → IsNumber u o ty) → ShowsType t (Some known) ty → IsNumber u o ty
based-number t u b base o known ty is f g h =
    g b ty (f (h.there (operand.Members b) (ap Some is))) (subst (λ (x : Operand). ShowsType t (Some x) ty) is h)

-- the type with a number
pub number-shape : (t : Table) (i : TypeId) (o : Option TypeId) (x : Typed) → o ≡ Some i → IsNumber t o (Some x) → numbered t.shapes i ≡ x.shape
number-shape t i o x is h =
    let e : Some (numbered t.shapes i) ≡ Some x.shape = subst (λ (v : Option TypeId). option_map (numbered t.shapes) v ≡ Some x.shape) is h.shape in cc

-- a number has a type
pub no-number : (t : Table) (i : TypeId) (o : Option TypeId) → o ≡ Some i → IsNumber t o None → ⊥
no-number t i o is h =
    let e : Some (numbered t.shapes i) ≡ None = subst (λ (v : Option TypeId). option_map (numbered t.shapes) v ≡ None) is h.shape in cc
