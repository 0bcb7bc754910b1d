-- The kinds of nodes outside statement parts: no expression is among them.
use Rattle.std.specs.Prelude.{◌≡◌, Bool, true, false, not, ◌&&◌, ◌||◌, Some}
use Rattle.std.proofs.Common.{refl, sym, true≢false}
use Rattle.pc_syntax.specs.declared.kind.Kind.{Kind}
use Rattle.pc_syntax.specs.declared.kind.Kind.TheVariants as kind
use Rattle.pc_syntax.specs.declared.sort.Sort.TheVariants as sort
use Rattle.pc_syntax.specs.declared.class.Class.{Class}
use Rattle.pc_syntax.specs.declared.class.Class.TheVariants as class
use Rattle.pc_syntax.specs.Classes.{has}
use Rattle.pc_syntax.specs.Slots.{places_of}
use Rattle.pc_decl.specs.Nodes.{is_expression_sort}
use Rattle.pc_needs.proofs.BodyKinds.{either-way, all_classes}

-- ---- kinds below which no statement stands

abbrev pub is_outer : Kind → Bool
is_outer kind.Forward = true
is_outer kind.Constdef = true
is_outer kind.Typedef = true
is_outer kind.Vardef = true
is_outer kind.Field = true
is_outer kind.Valparam = true
is_outer kind.Varparam = true
is_outer kind.Tname = true
is_outer kind.Enum = true
is_outer kind.Subrange = true
is_outer kind.Array = true
is_outer kind.Record = true
is_outer kind.Record0 = true
is_outer kind.Setof = true
is_outer kind.Packed = true
is_outer kind.Pointer = true
is_outer kind.Cnumber = true
is_outer kind.Cstring = true
is_outer kind.Cname = true
is_outer kind.Csign = true
is_outer kind.Name = true
is_outer kind.Heads = true
is_outer kind.Params = true
is_outer kind.Names = true
is_outer kind.Indexes = true
is_outer kind.Consts = true
is_outer kind.Types = true
is_outer kind.Vars = true
is_outer kind.Fields = true
is_outer (kind.Hole s) = not (is_expression_sort (Some s))
is_outer _ = false

abbrev pub is_outer_class : Class → Bool
is_outer_class class.Name = true
is_outer_class class.Heads = true
is_outer_class class.Params = true
is_outer_class class.Names = true
is_outer_class class.Consts = true
is_outer_class class.Types = true
is_outer_class class.Vars = true
is_outer_class class.Constdef = true
is_outer_class class.Typedef = true
is_outer_class class.Vardef = true
is_outer_class class.Parameter = true
is_outer_class class.Denoter = true
is_outer_class class.Structured = true
is_outer_class class.Ordinal = true
is_outer_class class.Field = true
is_outer_class class.Constant = true
is_outer_class class.Bare = true
is_outer_class class.Indexes = true
is_outer_class class.Fields = true
is_outer_class _ = false

class-so : (c : Class) (k : Kind) → (is_outer k || not (is_outer_class c && has c k)) ≡ true
class-so class.Name (kind.Hole sort.Expression) = refl
class-so class.Name (kind.Hole _) = refl
class-so class.Name _ = refl
class-so class.Heads (kind.Hole sort.Expression) = refl
class-so class.Heads (kind.Hole _) = refl
class-so class.Heads _ = refl
class-so class.Params (kind.Hole sort.Expression) = refl
class-so class.Params (kind.Hole _) = refl
class-so class.Params _ = refl
class-so class.Names (kind.Hole sort.Expression) = refl
class-so class.Names (kind.Hole _) = refl
class-so class.Names _ = refl
class-so class.Consts (kind.Hole sort.Expression) = refl
class-so class.Consts (kind.Hole _) = refl
class-so class.Consts _ = refl
class-so class.Types (kind.Hole sort.Expression) = refl
class-so class.Types (kind.Hole _) = refl
class-so class.Types _ = refl
class-so class.Vars (kind.Hole sort.Expression) = refl
class-so class.Vars (kind.Hole _) = refl
class-so class.Vars _ = refl
class-so class.Constdef (kind.Hole sort.Expression) = refl
class-so class.Constdef (kind.Hole _) = refl
class-so class.Constdef _ = refl
class-so class.Typedef (kind.Hole sort.Expression) = refl
class-so class.Typedef (kind.Hole _) = refl
class-so class.Typedef _ = refl
class-so class.Vardef (kind.Hole sort.Expression) = refl
class-so class.Vardef (kind.Hole _) = refl
class-so class.Vardef _ = refl
class-so class.Parameter (kind.Hole sort.Expression) = refl
class-so class.Parameter (kind.Hole _) = refl
class-so class.Parameter _ = refl
class-so class.Denoter (kind.Hole sort.Expression) = refl
class-so class.Denoter (kind.Hole _) = refl
class-so class.Denoter _ = refl
class-so class.Structured (kind.Hole sort.Expression) = refl
class-so class.Structured (kind.Hole _) = refl
class-so class.Structured _ = refl
class-so class.Ordinal (kind.Hole sort.Expression) = refl
class-so class.Ordinal (kind.Hole _) = refl
class-so class.Ordinal _ = refl
class-so class.Field (kind.Hole sort.Expression) = refl
class-so class.Field (kind.Hole _) = refl
class-so class.Field _ = refl
class-so class.Constant (kind.Hole sort.Expression) = refl
class-so class.Constant (kind.Hole _) = refl
class-so class.Constant _ = refl
class-so class.Bare (kind.Hole sort.Expression) = refl
class-so class.Bare (kind.Hole _) = refl
class-so class.Bare _ = refl
class-so class.Indexes (kind.Hole sort.Expression) = refl
class-so class.Indexes (kind.Hole _) = refl
class-so class.Indexes _ = refl
class-so class.Fields (kind.Hole sort.Expression) = refl
class-so class.Fields (kind.Hole _) = refl
class-so class.Fields _ = refl
class-so _ k = either (is_outer k) where
  either : (b : Bool) → (b || true) ≡ true
  either true = refl
  either false = refl

pub both-so : (a b : Bool) → a ≡ true → b ≡ true → (a && b) ≡ true
both-so true b e f = f
both-so false b e f = absurd (true≢false (sym e))

pub class-outer : (c : Class) (k : Kind) → is_outer_class c ≡ true → has c k ≡ true → is_outer k ≡ true
class-outer c k e h = either-way (is_outer k) (is_outer_class c && has c k) (class-so c k) (both-so (is_outer_class c) (has c k) e h)

kids-so : (k : Kind) → (all_classes is_outer_class (places_of k) || not (is_outer k)) ≡ true
kids-so (kind.Hole s) = refl
kids-so _ = refl

pub kids-outer : (k : Kind) → is_outer k ≡ true → all_classes is_outer_class (places_of k) ≡ true
kids-outer k e = either-way (all_classes is_outer_class (places_of k)) (is_outer k) (kids-so k) e
