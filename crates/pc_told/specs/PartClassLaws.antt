-- The classes of kids of nodes at and below an expression.
use Rattle.std.specs.Prelude.{◌≡◌, Bool, true, false, ◌&&◌, List, [], ◌∷◌}
use Rattle.std.proofs.Common.{refl}
use Rattle.pc_syntax.specs.Classes.{has}
use Rattle.pc_syntax.specs.Slots.{places_of}
use Rattle.pc_syntax.specs.declared.class.Class.{Class}
use Rattle.pc_syntax.specs.declared.class.Class.TheVariants as class
use Rattle.pc_syntax.specs.declared.kind.Kind.{Kind}
use Rattle.pc_syntax.specs.declared.kind.Kind.TheVariants as kind
use Rattle.pc_told.specs.Parts.{is_part}

-- the classes whose nodes stand at or below an expression alone
abbrev pub is_part_class : Class → Bool
is_part_class class.Argument = true
is_part_class class.Member = true
is_part_class class.Operand = true
is_part_class class.Expression = true
is_part_class class.Simple = true
is_part_class class.Term = true
is_part_class class.Factor = true
is_part_class class.Access = true
is_part_class class.Name = true
is_part_class class.Exprs = true
is_part_class class.Members = true
is_part_class _ = false

-- a node of such a class is one of an expression
pub class-part : (c : Class) (k : Kind) → is_part_class c ≡ true → has c k ≡ true → is_part k ≡ true
class-part c kind.Ref b e = refl
class-part c kind.Index b e = refl
class-part c kind.Select b e = refl
class-part c kind.Deref b e = refl
class-part c kind.Number b e = refl
class-part c kind.Text b e = refl
class-part c kind.Nil b e = refl
class-part c kind.Call b e = refl
class-part c kind.Parens b e = refl
class-part c kind.Not b e = refl
class-part c kind.Setcon b e = refl
class-part c kind.Mul b e = refl
class-part c kind.Add b e = refl
class-part c kind.Sign b e = refl
class-part c kind.Rel b e = refl
class-part c kind.Width b e = refl
class-part c kind.Span b e = refl
class-part c kind.Name b e = refl
class-part c kind.Exprs b e = refl
class-part c kind.Members b e = refl
class-part c (kind.Hole s) b e = refl
class-part class.Argument k b e = cc
class-part class.Member k b e = cc
class-part class.Operand k b e = cc
class-part class.Expression k b e = cc
class-part class.Simple k b e = cc
class-part class.Term k b e = cc
class-part class.Factor k b e = cc
class-part class.Access k b e = cc
class-part class.Name k b e = cc
class-part class.Exprs k b e = cc
class-part class.Members k b e = cc
class-part c k b e = cc

-- whether all of some classes are
abbrev pub all_part_classes : List Class → Bool
all_part_classes [] = true
all_part_classes (c ∷ cs) = is_part_class c && all_part_classes cs

-- those of the kids of such a node are
pub places-part : (k : Kind) → is_part k ≡ true → all_part_classes (places_of k) ≡ true
places-part kind.Ref e = refl
places-part kind.Index e = refl
places-part kind.Select e = refl
places-part kind.Deref e = refl
places-part kind.Number e = refl
places-part kind.Text e = refl
places-part kind.Nil e = refl
places-part kind.Call e = refl
places-part kind.Parens e = refl
places-part kind.Not e = refl
places-part kind.Setcon e = refl
places-part kind.Mul e = refl
places-part kind.Add e = refl
places-part kind.Sign e = refl
places-part kind.Rel e = refl
places-part kind.Width e = refl
places-part kind.Span e = refl
places-part kind.Name e = refl
places-part kind.Exprs e = refl
places-part kind.Members e = refl
places-part (kind.Hole s) e = refl
places-part k e = cc
