-- Which kinds are those of expressions: lemmas.
use Rattle.std.specs.Prelude.{◌≡◌, true}
use Rattle.std.proofs.Common.{refl}
use Rattle.pc_syntax.specs.Classes.{is_operand}
use Rattle.pc_syntax.specs.declared.kind.Kind.{Kind}
use Rattle.pc_syntax.specs.declared.kind.Kind.TheVariants as kind
use Rattle.pc_syntax.specs.declared.sort.Sort.{Sort}
use Rattle.pc_syntax.specs.declared.sort.Sort.TheVariants as sort
use Rattle.pc_decl.specs.Nodes.{is_expression}
use Rattle.pc_told.specs.Parts.{is_part}

hole-sort : (s : Sort) → is_expression (kind.Hole s) ≡ is_operand (kind.Hole s)
hole-sort sort.Expression = refl
hole-sort s = refl

-- an expression is a node of the sort of expressions
pub operand-is : (k : Kind) → is_expression k ≡ is_operand k
operand-is (kind.Hole s) = hole-sort s
operand-is k = refl

-- it may stand at an expression
pub operand-part : (k : Kind) → is_operand k ≡ true → is_part k ≡ true
operand-part kind.Ref e = refl
operand-part kind.Index e = refl
operand-part kind.Select e = refl
operand-part kind.Deref e = refl
operand-part kind.Number e = refl
operand-part kind.Text e = refl
operand-part kind.Nil e = refl
operand-part kind.Call e = refl
operand-part kind.Parens e = refl
operand-part kind.Not e = refl
operand-part kind.Setcon e = refl
operand-part kind.Mul e = refl
operand-part kind.Add e = refl
operand-part kind.Sign e = refl
operand-part kind.Rel e = refl
operand-part kind.Width e = refl
operand-part kind.Span e = refl
operand-part (kind.Hole s) e = refl
operand-part k e = cc
