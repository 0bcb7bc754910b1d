-- Numerals over maxint: programs with the errors that they have.
use Rattle.std.specs.Prelude.{◌≡◌, [], ◌∷◌}
use Rattle.std.proofs.Common.{refl}
use Rattle.pc_syntax.specs.Plain.{Nil, Plain}
use Rattle.pc_syntax.specs.declared.kind.Kind.TheVariants as kind
use Rattle.pc_rule_cases.specs.Trees.{program, node, name, word}
use Rattle.pc_rule_cases.specs.Compare.{Equal, entry, differs}

-- Row 5 at a bound: no bad bounds, and the variable has no type.
--   program p; var x: 9223372036854775808..1; begin x := true end.
abbrev tree1 : Plain
tree1 = program (name "p" (node kind.Heads Nil (node kind.Block (node kind.Consts Nil (node kind.Types Nil (node kind.Vars (node kind.Vardef (node kind.Names (name "x" Nil) (node kind.Subrange (word kind.Cnumber "9223372036854775808" Nil (word kind.Cnumber "1" Nil Nil)) Nil)) Nil) (node kind.Routines Nil (node kind.Compound (node kind.Stmts (node kind.Assign (node kind.Ref (name "x" Nil) (node kind.Ref (name "true" Nil) Nil)) Nil) Nil) Nil))))) Nil)))

holds1 : differs tree1 (entry (3 ∷ 3 ∷ 1 ∷ 2 ∷ 1 ∷ []) 5 "number too large" ∷ []) ≡ Equal
unfolding differs
holds1 = refl

-- Row 5: a sign before a numeral over maxint; the largest negative number cannot be written so.
--   program p; begin write(-9223372036854775808); write(-9223372036854775807 - 1) end.
abbrev tree2 : Plain
tree2 = program (name "p" (node kind.Heads Nil (node kind.Block (node kind.Consts Nil (node kind.Types Nil (node kind.Vars Nil (node kind.Routines Nil (node kind.Compound (node kind.Stmts (node kind.Proc (name "write" (node kind.Args (word kind.Sign "-" (word kind.Number "9223372036854775808" Nil Nil) Nil) Nil)) (node kind.Proc (name "write" (node kind.Args (word kind.Add "-" (word kind.Sign "-" (word kind.Number "9223372036854775807" Nil Nil) (word kind.Number "1" Nil Nil)) Nil) Nil)) Nil)) Nil) Nil))))) Nil)))

holds2 : differs tree2 (entry (3 ∷ 5 ∷ 1 ∷ 1 ∷ 2 ∷ 1 ∷ 1 ∷ []) 5 "number too large" ∷ []) ≡ Equal
unfolding differs
holds2 = refl

-- Row 5 at a constant under a sign: the numeral has the entry, not the sign.
--   program p; const a = -9223372036854775808; b = -9223372036854775807; begin end.
abbrev tree3 : Plain
tree3 = program (name "p" (node kind.Heads Nil (node kind.Block (node kind.Consts (node kind.Constdef (name "a" (word kind.Csign "-" (word kind.Cnumber "9223372036854775808" Nil Nil) Nil)) (node kind.Constdef (name "b" (word kind.Csign "-" (word kind.Cnumber "9223372036854775807" Nil Nil) Nil)) Nil)) (node kind.Types Nil (node kind.Vars Nil (node kind.Routines Nil (node kind.Compound (node kind.Stmts (node kind.Empty Nil Nil) Nil) Nil))))) Nil)))

holds3 : differs tree3 (entry (3 ∷ 1 ∷ 1 ∷ 2 ∷ 1 ∷ []) 5 "number too large" ∷ []) ≡ Equal
unfolding differs
holds3 = refl

-- Row 5: a numeral over maxint in an expression; maxint itself is none.
--   program p; var x: integer; begin x := 9223372036854775807; x := 9223372036854775808 end.
abbrev tree4 : Plain
tree4 = program (name "p" (node kind.Heads Nil (node kind.Block (node kind.Consts Nil (node kind.Types Nil (node kind.Vars (node kind.Vardef (node kind.Names (name "x" Nil) (node kind.Tname (name "integer" Nil) Nil)) Nil) (node kind.Routines Nil (node kind.Compound (node kind.Stmts (node kind.Assign (node kind.Ref (name "x" Nil) (word kind.Number "9223372036854775807" Nil Nil)) (node kind.Assign (node kind.Ref (name "x" Nil) (word kind.Number "9223372036854775808" Nil Nil)) Nil)) Nil) Nil))))) Nil)))

holds4 : differs tree4 (entry (3 ∷ 5 ∷ 1 ∷ 2 ∷ 2 ∷ []) 5 "number too large" ∷ []) ≡ Equal
unfolding differs
holds4 = refl

-- Row 5 at a label, twice: no row 16, for there is no value.
--   program p; begin case 1 of 9223372036854775808, 9223372036854775808: end end.
abbrev tree5 : Plain
tree5 = program (name "p" (node kind.Heads Nil (node kind.Block (node kind.Consts Nil (node kind.Types Nil (node kind.Vars Nil (node kind.Routines Nil (node kind.Compound (node kind.Stmts (node kind.Case (word kind.Number "1" Nil (node kind.Arms (node kind.Arm (node kind.Labels (word kind.Cnumber "9223372036854775808" Nil (word kind.Cnumber "9223372036854775808" Nil Nil)) (node kind.Empty Nil Nil)) Nil) Nil)) Nil) Nil) Nil))))) Nil)))

holds5 : differs tree5 (entry (3 ∷ 5 ∷ 1 ∷ 1 ∷ 2 ∷ 1 ∷ 1 ∷ 1 ∷ []) 5 "number too large" ∷ entry (3 ∷ 5 ∷ 1 ∷ 1 ∷ 2 ∷ 1 ∷ 1 ∷ 2 ∷ []) 5 "number too large" ∷ []) ≡ Equal
unfolding differs
holds5 = refl

-- Row 5: the part has no type, so the addition and the condition have no entry.
--   program p; begin if 9223372036854775808 + true then end.
abbrev tree6 : Plain
tree6 = program (name "p" (node kind.Heads Nil (node kind.Block (node kind.Consts Nil (node kind.Types Nil (node kind.Vars Nil (node kind.Routines Nil (node kind.Compound (node kind.Stmts (node kind.If (word kind.Add "+" (word kind.Number "9223372036854775808" Nil (node kind.Ref (name "true" Nil) Nil)) (node kind.Empty Nil Nil)) Nil) Nil) Nil))))) Nil)))

holds6 : differs tree6 (entry (3 ∷ 5 ∷ 1 ∷ 1 ∷ 1 ∷ 1 ∷ []) 5 "number too large" ∷ []) ≡ Equal
unfolding differs
holds6 = refl

-- Rows 5 and 13 at one place: a numeral over maxint as a var argument.
--   program p; procedure q(var a: integer); begin end; begin q(9223372036854775808); read(9223372036854775808) end.
abbrev tree7 : Plain
tree7 = program (name "p" (node kind.Heads Nil (node kind.Block (node kind.Consts Nil (node kind.Types Nil (node kind.Vars Nil (node kind.Routines (node kind.Procedure (name "q" (node kind.Params (node kind.Varparam (node kind.Names (name "a" Nil) (name "integer" Nil)) Nil) (node kind.Block (node kind.Consts Nil (node kind.Types Nil (node kind.Vars Nil (node kind.Routines Nil (node kind.Compound (node kind.Stmts (node kind.Empty Nil Nil) Nil) Nil))))) Nil))) Nil) (node kind.Compound (node kind.Stmts (node kind.Proc (name "q" (node kind.Args (word kind.Number "9223372036854775808" Nil Nil) Nil)) (node kind.Proc (name "read" (node kind.Args (word kind.Number "9223372036854775808" Nil Nil) Nil)) Nil)) Nil) Nil))))) Nil)))

holds7 : differs tree7 (entry (3 ∷ 5 ∷ 1 ∷ 1 ∷ 2 ∷ 1 ∷ []) 5 "number too large" ∷ entry (3 ∷ 5 ∷ 1 ∷ 1 ∷ 2 ∷ 1 ∷ []) 13 "not a variable" ∷ entry (3 ∷ 5 ∷ 1 ∷ 2 ∷ 2 ∷ 1 ∷ []) 5 "number too large" ∷ entry (3 ∷ 5 ∷ 1 ∷ 2 ∷ 2 ∷ 1 ∷ []) 13 "not a variable" ∷ []) ≡ Equal
unfolding differs
holds7 = refl

-- Row 5, the neighbour: leading zeros count for nothing; the largest numeral that is a symbol is 2^128 - 1.
--   program p; const a = 000000000000000000000000009223372036854775807; b = 340282366920938463463374607431768211455; begin end.
abbrev tree8 : Plain
tree8 = program (name "p" (node kind.Heads Nil (node kind.Block (node kind.Consts (node kind.Constdef (name "a" (word kind.Cnumber "000000000000000000000000009223372036854775807" Nil Nil)) (node kind.Constdef (name "b" (word kind.Cnumber "340282366920938463463374607431768211455" Nil Nil)) Nil)) (node kind.Types Nil (node kind.Vars Nil (node kind.Routines Nil (node kind.Compound (node kind.Stmts (node kind.Empty Nil Nil) Nil) Nil))))) Nil)))

holds8 : differs tree8 (entry (3 ∷ 1 ∷ 2 ∷ 2 ∷ []) 5 "number too large" ∷ []) ≡ Equal
unfolding differs
holds8 = refl
