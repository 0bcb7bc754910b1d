-- What was there decodes the same where types are added.
use Rattle.std.proofs.Common.{◌≡◌, ℕ, ◌<◌, List, [], ◌∷◌, ◌++◌, get_or, length, refl, ◌∙◌, ap}
use Rattle.std.proofs.lemmas.List.{get_or_append_left}
use Rattle.std.proofs.Math.Seq.{get_or-append_seam}
use Rattle.pc_types.specs.Shapes.{Shape, NoMembers, MembersType}
use Rattle.pc_types.specs.Table.{Table, numbered, shape_at, IsThere}
use Rattle.pc_types.specs.Growth.{GrowsBy}
use Rattle.pc_types.specs.declared.form.TypeId.{TypeId}
use Rattle.pc_types.specs.declared.operand.Operand.{Operand}
use Rattle.pc_types.specs.declared.operand.Operand.TheVariants as operand

numbered-grown : (a b : Table) (t : Shape) (i : TypeId) → GrowsBy a b t → i.0 < length a.shapes → numbered b.shapes i ≡ numbered a.shapes i
numbered-grown a b t i g h = ap (λ (v : List Shape). numbered v i) g.shapes ∙ get_or_append_left a.shapes (t ∷ []) NoMembers i.0 h

pub shape_at-grown : (a b : Table) (t : Shape) (x : Operand) → GrowsBy a b t → IsThere a x → shape_at b x ≡ shape_at a x
shape_at-grown a b t (operand.Id i) g h = numbered-grown a b t i g h
shape_at-grown a b t (operand.Text n) g h = refl
shape_at-grown a b t (operand.Members i) g h = ap MembersType (numbered-grown a b t i g h)
shape_at-grown a b t operand.NoMembers g h = refl

-- the shape that was added is at the number that was the length
pub shape_at-added : (a b : Table) (t : Shape) (i : TypeId) → GrowsBy a b t → i.0 ≡ length a.shapes → shape_at b (operand.Id i) ≡ t
shape_at-added a b t i g e =
    ap (λ (v : List Shape). numbered v i) g.shapes ∙ ap (λ (n : ℕ). get_or (a.shapes ++ t ∷ []) n NoMembers) e ∙ get_or-append_seam a.shapes t [] NoMembers
