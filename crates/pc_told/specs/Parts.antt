-- The kinds of nodes at and below an expression.
use Rattle.std.specs.Prelude.{Bool, true, false}
use Rattle.pc_syntax.specs.declared.kind.Kind.{Kind}
use Rattle.pc_syntax.specs.declared.kind.Kind.TheVariants as kind

-- whether a node of this kind may stand at or below an expression
abbrev pub is_part : Kind → Bool
is_part kind.Ref = true
is_part kind.Index = true
is_part kind.Select = true
is_part kind.Deref = true
is_part kind.Number = true
is_part kind.Text = true
is_part kind.Nil = true
is_part kind.Call = true
is_part kind.Parens = true
is_part kind.Not = true
is_part kind.Setcon = true
is_part kind.Mul = true
is_part kind.Add = true
is_part kind.Sign = true
is_part kind.Rel = true
is_part kind.Width = true
is_part kind.Span = true
is_part kind.Name = true
is_part kind.Exprs = true
is_part kind.Members = true
is_part (kind.Hole s) = true
is_part k = false
