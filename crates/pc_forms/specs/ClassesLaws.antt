-- Which classes are parts of others.
use Rattle.std.proofs.Common.{◌≡◌, true, refl}
use Rattle.pc_syntax.specs.declared.kind.Kind.{Kind}
use Rattle.pc_syntax.specs.declared.kind.Kind.TheVariants.{Ref, Index, Select, Deref, Number, Text, Nil, Call, Parens, Not, Setcon, Mul, Rel, Hole}
use Rattle.pc_syntax.specs.Classes.{is_access, is_factor, is_term, is_simple, is_expression}

-- an access is an expression
pub access-expression : (k : Kind) → is_access k ≡ true → is_expression k ≡ true
access-expression Ref e = refl
access-expression Index e = refl
access-expression Select e = refl
access-expression Deref e = refl
access-expression (Hole s) e = e
access-expression _ e = cc

-- a factor
pub factor-expression : (k : Kind) → is_factor k ≡ true → is_expression k ≡ true
factor-expression Ref e = refl
factor-expression Index e = refl
factor-expression Select e = refl
factor-expression Deref e = refl
factor-expression Number e = refl
factor-expression Text e = refl
factor-expression Nil e = refl
factor-expression Call e = refl
factor-expression Parens e = refl
factor-expression Not e = refl
factor-expression Setcon e = refl
factor-expression (Hole s) e = e
factor-expression _ e = cc

-- a term
pub term-expression : (k : Kind) → is_term k ≡ true → is_expression k ≡ true
term-expression Mul e = refl
term-expression Ref e = refl
term-expression Index e = refl
term-expression Select e = refl
term-expression Deref e = refl
term-expression Number e = refl
term-expression Text e = refl
term-expression Nil e = refl
term-expression Call e = refl
term-expression Parens e = refl
term-expression Not e = refl
term-expression Setcon e = refl
term-expression (Hole s) e = e
term-expression _ e = cc

-- a simple expression
pub simple-expression : (k : Kind) → is_simple k ≡ true → is_expression k ≡ true
simple-expression Rel e = refl
simple-expression k e = e

-- what stands at a place of an expression is one
pub ruleset wider = (access-expression, factor-expression, term-expression, simple-expression)
