-- Arguments that must be variables: programs with the errors that they have.
use Rattle.std.specs.Prelude.{◌≡◌, [], ◌∷◌}
use Rattle.std.proofs.Common.{refl}
use Rattle.pc_syntax.specs.Plain.{Nil, Plain}
use Rattle.pc_syntax.specs.declared.kind.Kind.TheVariants as kind
use Rattle.pc_syntax.specs.declared.sort.Sort.TheVariants as sort
use Rattle.pc_rule_cases.specs.Trees.{program, node, name, word}
use Rattle.pc_rule_cases.specs.Compare.{Equal, entry, differs}

-- Row 13: a call of a function is no access.
--   program p; procedure q(var a: integer); begin end; function f(i: integer): integer; begin f := i end; begin q(f(1)); read(f(2)) end.
abbrev tree1 : Plain
tree1 = program (name "p" (node kind.Heads Nil (node kind.Block (node kind.Consts Nil (node kind.Types Nil (node kind.Vars Nil (node kind.Routines (node kind.Procedure (name "q" (node kind.Params (node kind.Varparam (node kind.Names (name "a" Nil) (name "integer" Nil)) Nil) (node kind.Block (node kind.Consts Nil (node kind.Types Nil (node kind.Vars Nil (node kind.Routines Nil (node kind.Compound (node kind.Stmts (node kind.Empty Nil Nil) Nil) Nil))))) Nil))) (node kind.Function (name "f" (node kind.Params (node kind.Valparam (node kind.Names (name "i" Nil) (name "integer" Nil)) Nil) (name "integer" (node kind.Block (node kind.Consts Nil (node kind.Types Nil (node kind.Vars Nil (node kind.Routines Nil (node kind.Compound (node kind.Stmts (node kind.Assign (node kind.Ref (name "f" Nil) (node kind.Ref (name "i" Nil) Nil)) Nil) Nil) Nil))))) Nil)))) Nil)) (node kind.Compound (node kind.Stmts (node kind.Proc (name "q" (node kind.Args (node kind.Call (name "f" (node kind.Exprs (word kind.Number "1" Nil Nil) Nil)) Nil) Nil)) (node kind.Proc (name "read" (node kind.Args (node kind.Call (name "f" (node kind.Exprs (word kind.Number "2" Nil Nil) Nil)) Nil) Nil)) Nil)) Nil) Nil))))) Nil)))

holds1 : differs tree1 (entry (3 ∷ 5 ∷ 1 ∷ 1 ∷ 2 ∷ 1 ∷ []) 13 "not a variable" ∷ entry (3 ∷ 5 ∷ 1 ∷ 2 ∷ 2 ∷ 1 ∷ []) 13 "not a variable" ∷ []) ≡ Equal
unfolding differs
holds1 = refl

-- Row 13: a hole is no entry, but an expression with a hole inside is no access.
--   program p; procedure q(var a: integer); begin end; begin q(?expression); q(?expression + 1); read(?expression) end.
abbrev tree2 : Plain
tree2 = program (name "p" (node kind.Heads Nil (node kind.Block (node kind.Consts Nil (node kind.Types Nil (node kind.Vars Nil (node kind.Routines (node kind.Procedure (name "q" (node kind.Params (node kind.Varparam (node kind.Names (name "a" Nil) (name "integer" Nil)) Nil) (node kind.Block (node kind.Consts Nil (node kind.Types Nil (node kind.Vars Nil (node kind.Routines Nil (node kind.Compound (node kind.Stmts (node kind.Empty Nil Nil) Nil) Nil))))) Nil))) Nil) (node kind.Compound (node kind.Stmts (node kind.Proc (name "q" (node kind.Args (node (kind.Hole sort.Expression) Nil Nil) Nil)) (node kind.Proc (name "q" (node kind.Args (word kind.Add "+" (node (kind.Hole sort.Expression) Nil (word kind.Number "1" Nil Nil)) Nil) Nil)) (node kind.Proc (name "read" (node kind.Args (node (kind.Hole sort.Expression) Nil Nil) Nil)) Nil))) Nil) Nil))))) Nil)))

holds2 : differs tree2 (entry (3 ∷ 5 ∷ 1 ∷ 2 ∷ 2 ∷ 1 ∷ []) 13 "not a variable" ∷ []) ≡ Equal
unfolding differs
holds2 = refl

-- Row 13: the expression is still looked at; the operator inside has its own entry.
--   program p; procedure q(var a: integer); begin end; begin q(1 + 'a'); read(y + 1) end.
abbrev tree3 : Plain
tree3 = program (name "p" (node kind.Heads Nil (node kind.Block (node kind.Consts Nil (node kind.Types Nil (node kind.Vars Nil (node kind.Routines (node kind.Procedure (name "q" (node kind.Params (node kind.Varparam (node kind.Names (name "a" Nil) (name "integer" Nil)) Nil) (node kind.Block (node kind.Consts Nil (node kind.Types Nil (node kind.Vars Nil (node kind.Routines Nil (node kind.Compound (node kind.Stmts (node kind.Empty Nil Nil) Nil) Nil))))) Nil))) Nil) (node kind.Compound (node kind.Stmts (node kind.Proc (name "q" (node kind.Args (word kind.Add "+" (word kind.Number "1" Nil (word kind.Text "'a'" Nil Nil)) Nil) Nil)) (node kind.Proc (name "read" (node kind.Args (word kind.Add "+" (node kind.Ref (name "y" Nil) (word kind.Number "1" Nil Nil)) Nil) Nil)) Nil)) Nil) Nil))))) Nil)))

holds3 : differs tree3 (entry (3 ∷ 5 ∷ 1 ∷ 1 ∷ 2 ∷ 1 ∷ []) 11 "types do not agree" ∷ entry (3 ∷ 5 ∷ 1 ∷ 1 ∷ 2 ∷ 1 ∷ []) 13 "not a variable" ∷ entry (3 ∷ 5 ∷ 1 ∷ 2 ∷ 2 ∷ 1 ∷ []) 13 "not a variable" ∷ entry (3 ∷ 5 ∷ 1 ∷ 2 ∷ 2 ∷ 1 ∷ 1 ∷ 1 ∷ []) 1 "not declared: y" ∷ []) ≡ Equal
unfolding differs
holds3 = refl

-- Row 13 at new: nil is no access; dispose takes a value.
--   program p; type l = ^integer; var q: l; function f: l; begin f := nil end; begin new(nil); new((q)); dispose(nil); dispose(f); dispose((q)); new(f)
--   end.
abbrev tree4 : Plain
tree4 = program (name "p" (node kind.Heads Nil (node kind.Block (node kind.Consts Nil (node kind.Types (node kind.Typedef (name "l" (node kind.Pointer (name "integer" Nil) Nil)) Nil) (node kind.Vars (node kind.Vardef (node kind.Names (name "q" Nil) (node kind.Tname (name "l" Nil) Nil)) Nil) (node kind.Routines (node kind.Function (name "f" (node kind.Params Nil (name "l" (node kind.Block (node kind.Consts Nil (node kind.Types Nil (node kind.Vars Nil (node kind.Routines Nil (node kind.Compound (node kind.Stmts (node kind.Assign (node kind.Ref (name "f" Nil) (node kind.Nil Nil Nil)) Nil) Nil) Nil))))) Nil)))) Nil) (node kind.Compound (node kind.Stmts (node kind.Proc (name "new" (node kind.Args (node kind.Nil Nil Nil) Nil)) (node kind.Proc (name "new" (node kind.Args (node kind.Parens (node kind.Ref (name "q" Nil) Nil) Nil) Nil)) (node kind.Proc (name "dispose" (node kind.Args (node kind.Nil Nil Nil) Nil)) (node kind.Proc (name "dispose" (node kind.Args (node kind.Ref (name "f" Nil) Nil) Nil)) (node kind.Proc (name "dispose" (node kind.Args (node kind.Parens (node kind.Ref (name "q" Nil) Nil) Nil) Nil)) (node kind.Proc (name "new" (node kind.Args (node kind.Ref (name "f" Nil) Nil) Nil)) Nil)))))) Nil) Nil))))) Nil)))

holds4 : differs tree4 (entry (3 ∷ 5 ∷ 1 ∷ 1 ∷ 2 ∷ 1 ∷ []) 13 "not a variable" ∷ entry (3 ∷ 5 ∷ 1 ∷ 2 ∷ 2 ∷ 1 ∷ []) 13 "not a variable" ∷ entry (3 ∷ 5 ∷ 1 ∷ 6 ∷ 2 ∷ 1 ∷ 1 ∷ []) 4 "not a variable: f" ∷ []) ≡ Equal
unfolding differs
holds4 = refl

-- Row 13 at an argument of read.
--   program p; var i: integer; begin read(i); read('a'); readln(i, 2) end.
abbrev tree5 : Plain
tree5 = program (name "p" (node kind.Heads Nil (node kind.Block (node kind.Consts Nil (node kind.Types Nil (node kind.Vars (node kind.Vardef (node kind.Names (name "i" Nil) (node kind.Tname (name "integer" Nil) Nil)) Nil) (node kind.Routines Nil (node kind.Compound (node kind.Stmts (node kind.Proc (name "read" (node kind.Args (node kind.Ref (name "i" Nil) Nil) Nil)) (node kind.Proc (name "read" (node kind.Args (word kind.Text "'a'" Nil Nil) Nil)) (node kind.Proc (name "readln" (node kind.Args (node kind.Ref (name "i" Nil) (word kind.Number "2" Nil Nil)) Nil)) Nil))) Nil) Nil))))) Nil)))

holds5 : differs tree5 (entry (3 ∷ 5 ∷ 1 ∷ 2 ∷ 2 ∷ 1 ∷ []) 13 "not a variable" ∷ entry (3 ∷ 5 ∷ 1 ∷ 3 ∷ 2 ∷ 2 ∷ []) 13 "not a variable" ∷ []) ≡ Equal
unfolding differs
holds5 = refl

-- Row 13, the neighbour: a name that is no variable is an access; it has row 4.
--   program p; const c = 1; procedure q(var a: integer); begin end; begin q(c); read(c); q(maxint); q(abs) end.
abbrev tree6 : Plain
tree6 = program (name "p" (node kind.Heads Nil (node kind.Block (node kind.Consts (node kind.Constdef (name "c" (word kind.Cnumber "1" Nil Nil)) Nil) (node kind.Types Nil (node kind.Vars Nil (node kind.Routines (node kind.Procedure (name "q" (node kind.Params (node kind.Varparam (node kind.Names (name "a" Nil) (name "integer" Nil)) Nil) (node kind.Block (node kind.Consts Nil (node kind.Types Nil (node kind.Vars Nil (node kind.Routines Nil (node kind.Compound (node kind.Stmts (node kind.Empty Nil Nil) Nil) Nil))))) Nil))) Nil) (node kind.Compound (node kind.Stmts (node kind.Proc (name "q" (node kind.Args (node kind.Ref (name "c" Nil) Nil) Nil)) (node kind.Proc (name "read" (node kind.Args (node kind.Ref (name "c" Nil) Nil) Nil)) (node kind.Proc (name "q" (node kind.Args (node kind.Ref (name "maxint" Nil) Nil) Nil)) (node kind.Proc (name "q" (node kind.Args (node kind.Ref (name "abs" Nil) Nil) Nil)) Nil)))) Nil) Nil))))) Nil)))

holds6 : differs tree6 (entry (3 ∷ 5 ∷ 1 ∷ 1 ∷ 2 ∷ 1 ∷ 1 ∷ []) 4 "not a variable: c" ∷ entry (3 ∷ 5 ∷ 1 ∷ 2 ∷ 2 ∷ 1 ∷ 1 ∷ []) 4 "not a variable: c" ∷ entry (3 ∷ 5 ∷ 1 ∷ 3 ∷ 2 ∷ 1 ∷ 1 ∷ []) 4 "not a variable: maxint" ∷ entry (3 ∷ 5 ∷ 1 ∷ 4 ∷ 2 ∷ 1 ∷ 1 ∷ []) 4 "not a variable: abs" ∷ []) ≡ Equal
unfolding differs
holds6 = refl

-- Row 13: an argument of a var parameter that is no access, parentheses included.
--   program p; var i: integer; procedure q(var a: integer); begin end; begin q(i); q((i)); q(1); q(i + 1); q(-i) end.
abbrev tree7 : Plain
tree7 = program (name "p" (node kind.Heads Nil (node kind.Block (node kind.Consts Nil (node kind.Types Nil (node kind.Vars (node kind.Vardef (node kind.Names (name "i" Nil) (node kind.Tname (name "integer" Nil) Nil)) Nil) (node kind.Routines (node kind.Procedure (name "q" (node kind.Params (node kind.Varparam (node kind.Names (name "a" Nil) (name "integer" Nil)) Nil) (node kind.Block (node kind.Consts Nil (node kind.Types Nil (node kind.Vars Nil (node kind.Routines Nil (node kind.Compound (node kind.Stmts (node kind.Empty Nil Nil) Nil) Nil))))) Nil))) Nil) (node kind.Compound (node kind.Stmts (node kind.Proc (name "q" (node kind.Args (node kind.Ref (name "i" Nil) Nil) Nil)) (node kind.Proc (name "q" (node kind.Args (node kind.Parens (node kind.Ref (name "i" Nil) Nil) Nil) Nil)) (node kind.Proc (name "q" (node kind.Args (word kind.Number "1" Nil Nil) Nil)) (node kind.Proc (name "q" (node kind.Args (word kind.Add "+" (node kind.Ref (name "i" Nil) (word kind.Number "1" Nil Nil)) Nil) Nil)) (node kind.Proc (name "q" (node kind.Args (word kind.Sign "-" (node kind.Ref (name "i" Nil) Nil) Nil) Nil)) Nil))))) Nil) Nil))))) Nil)))

holds7 : differs tree7 (entry (3 ∷ 5 ∷ 1 ∷ 2 ∷ 2 ∷ 1 ∷ []) 13 "not a variable" ∷ entry (3 ∷ 5 ∷ 1 ∷ 3 ∷ 2 ∷ 1 ∷ []) 13 "not a variable" ∷ entry (3 ∷ 5 ∷ 1 ∷ 4 ∷ 2 ∷ 1 ∷ []) 13 "not a variable" ∷ entry (3 ∷ 5 ∷ 1 ∷ 5 ∷ 2 ∷ 1 ∷ []) 13 "not a variable" ∷ []) ≡ Equal
unfolding differs
holds7 = refl

-- Rows 13 and 24 at one width: as an argument of a var parameter, of read and of new.
--   program p; type l = ^char; var i: integer; q: l; procedure s(var a: integer); begin end; begin s(i:2); read(i:2); new(q:1) end.
abbrev tree8 : Plain
tree8 = program (name "p" (node kind.Heads Nil (node kind.Block (node kind.Consts Nil (node kind.Types (node kind.Typedef (name "l" (node kind.Pointer (name "char" Nil) Nil)) Nil) (node kind.Vars (node kind.Vardef (node kind.Names (name "i" Nil) (node kind.Tname (name "integer" Nil) Nil)) (node kind.Vardef (node kind.Names (name "q" Nil) (node kind.Tname (name "l" Nil) Nil)) Nil)) (node kind.Routines (node kind.Procedure (name "s" (node kind.Params (node kind.Varparam (node kind.Names (name "a" Nil) (name "integer" Nil)) Nil) (node kind.Block (node kind.Consts Nil (node kind.Types Nil (node kind.Vars Nil (node kind.Routines Nil (node kind.Compound (node kind.Stmts (node kind.Empty Nil Nil) Nil) Nil))))) Nil))) Nil) (node kind.Compound (node kind.Stmts (node kind.Proc (name "s" (node kind.Args (node kind.Width (node kind.Ref (name "i" Nil) (word kind.Number "2" Nil Nil)) Nil) Nil)) (node kind.Proc (name "read" (node kind.Args (node kind.Width (node kind.Ref (name "i" Nil) (word kind.Number "2" Nil Nil)) Nil) Nil)) (node kind.Proc (name "new" (node kind.Args (node kind.Width (node kind.Ref (name "q" Nil) (word kind.Number "1" Nil Nil)) Nil) Nil)) Nil))) Nil) Nil))))) Nil)))

holds8 : differs tree8 (entry (3 ∷ 5 ∷ 1 ∷ 1 ∷ 2 ∷ 1 ∷ []) 13 "not a variable" ∷ entry (3 ∷ 5 ∷ 1 ∷ 1 ∷ 2 ∷ 1 ∷ []) 24 "width not allowed" ∷ entry (3 ∷ 5 ∷ 1 ∷ 2 ∷ 2 ∷ 1 ∷ []) 13 "not a variable" ∷ entry (3 ∷ 5 ∷ 1 ∷ 2 ∷ 2 ∷ 1 ∷ []) 24 "width not allowed" ∷ entry (3 ∷ 5 ∷ 1 ∷ 3 ∷ 2 ∷ 1 ∷ []) 13 "not a variable" ∷ entry (3 ∷ 5 ∷ 1 ∷ 3 ∷ 2 ∷ 1 ∷ []) 24 "width not allowed" ∷ []) ≡ Equal
unfolding differs
holds8 = refl
