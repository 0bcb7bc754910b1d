-- Numbers of arguments: programs with the errors that they have.
use Rattle.std.specs.Prelude.{◌≡◌, [], ◌∷◌}
use Rattle.std.proofs.Common.{refl}
use Rattle.pc_syntax.specs.Plain.{Nil, Plain}
use Rattle.pc_syntax.specs.declared.kind.Kind.TheVariants as kind
use Rattle.pc_syntax.specs.declared.sort.Sort.TheVariants as sort
use Rattle.pc_rule_cases.specs.Trees.{program, node, name, word}
use Rattle.pc_rule_cases.specs.Compare.{Equal, entry, differs}

-- Row 12 needs the routine's parameters: with an undeclared type, a hole or a second name among them it has none.
--   program p; procedure q(a: t); begin end; procedure r(?parameter); begin end; procedure s(a, a: integer); begin end; begin q; r(1, 2); s; s(1) end.
abbrev tree1 : Plain
tree1 = program (name "p" (node kind.Heads Nil (node kind.Block (node kind.Consts Nil (node kind.Types Nil (node kind.Vars Nil (node kind.Routines (node kind.Procedure (name "q" (node kind.Params (node kind.Valparam (node kind.Names (name "a" Nil) (name "t" Nil)) Nil) (node kind.Block (node kind.Consts Nil (node kind.Types Nil (node kind.Vars Nil (node kind.Routines Nil (node kind.Compound (node kind.Stmts (node kind.Empty Nil Nil) Nil) Nil))))) Nil))) (node kind.Procedure (name "r" (node kind.Params (node (kind.Hole sort.Parameter) Nil Nil) (node kind.Block (node kind.Consts Nil (node kind.Types Nil (node kind.Vars Nil (node kind.Routines Nil (node kind.Compound (node kind.Stmts (node kind.Empty Nil Nil) Nil) Nil))))) Nil))) (node kind.Procedure (name "s" (node kind.Params (node kind.Valparam (node kind.Names (name "a" (name "a" Nil)) (name "integer" Nil)) Nil) (node kind.Block (node kind.Consts Nil (node kind.Types Nil (node kind.Vars Nil (node kind.Routines Nil (node kind.Compound (node kind.Stmts (node kind.Empty Nil Nil) Nil) Nil))))) Nil))) Nil))) (node kind.Compound (node kind.Stmts (node kind.Proc (name "q" (node kind.Args Nil Nil)) (node kind.Proc (name "r" (node kind.Args (word kind.Number "1" Nil (word kind.Number "2" Nil Nil)) Nil)) (node kind.Proc (name "s" (node kind.Args Nil Nil)) (node kind.Proc (name "s" (node kind.Args (word kind.Number "1" Nil Nil) Nil)) Nil)))) Nil) Nil))))) Nil)))

holds1 : differs tree1 (entry (3 ∷ 4 ∷ 1 ∷ 2 ∷ 1 ∷ 2 ∷ []) 1 "not declared: t" ∷ entry (3 ∷ 4 ∷ 3 ∷ 2 ∷ 1 ∷ 1 ∷ 2 ∷ []) 3 "declared twice: a" ∷ []) ≡ Equal
unfolding differs
holds1 = refl

-- Row 12: the parameters are those of the forward heading.
--   program p; procedure q(a: integer); forward; procedure r; begin q end; procedure q; begin a := 1 end; begin q(1) end.
abbrev tree2 : Plain
tree2 = program (name "p" (node kind.Heads Nil (node kind.Block (node kind.Consts Nil (node kind.Types Nil (node kind.Vars Nil (node kind.Routines (node kind.Procedure (name "q" (node kind.Params (node kind.Valparam (node kind.Names (name "a" Nil) (name "integer" Nil)) Nil) (word kind.Forward "forward" Nil Nil))) (node kind.Procedure (name "r" (node kind.Params Nil (node kind.Block (node kind.Consts Nil (node kind.Types Nil (node kind.Vars Nil (node kind.Routines Nil (node kind.Compound (node kind.Stmts (node kind.Proc (name "q" (node kind.Args Nil Nil)) Nil) Nil) Nil))))) Nil))) (node kind.Procedure (name "q" (node kind.Params Nil (node kind.Block (node kind.Consts Nil (node kind.Types Nil (node kind.Vars Nil (node kind.Routines Nil (node kind.Compound (node kind.Stmts (node kind.Assign (node kind.Ref (name "a" Nil) (word kind.Number "1" Nil Nil)) Nil) Nil) Nil))))) Nil))) Nil))) (node kind.Compound (node kind.Stmts (node kind.Proc (name "q" (node kind.Args (word kind.Number "1" Nil Nil) Nil)) Nil) Nil) Nil))))) Nil)))

holds2 : differs tree2 (entry (3 ∷ 4 ∷ 2 ∷ 3 ∷ 5 ∷ 1 ∷ 1 ∷ []) 12 "wrong number of arguments" ∷ []) ≡ Equal
unfolding differs
holds2 = refl

-- Row 12 at a call, and at the ref of a function that is named without arguments.
--   program p; var i: integer; function f(a: integer): integer; begin f := a end; function g: integer; begin g := 1 end; begin i := f; i := f(1, 2); i :=
--   g; i := g(1); i := f(1) end.
abbrev tree3 : Plain
tree3 = program (name "p" (node kind.Heads Nil (node kind.Block (node kind.Consts Nil (node kind.Types Nil (node kind.Vars (node kind.Vardef (node kind.Names (name "i" Nil) (node kind.Tname (name "integer" Nil) Nil)) Nil) (node kind.Routines (node kind.Function (name "f" (node kind.Params (node kind.Valparam (node kind.Names (name "a" Nil) (name "integer" Nil)) Nil) (name "integer" (node kind.Block (node kind.Consts Nil (node kind.Types Nil (node kind.Vars Nil (node kind.Routines Nil (node kind.Compound (node kind.Stmts (node kind.Assign (node kind.Ref (name "f" Nil) (node kind.Ref (name "a" Nil) Nil)) Nil) Nil) Nil))))) Nil)))) (node kind.Function (name "g" (node kind.Params Nil (name "integer" (node kind.Block (node kind.Consts Nil (node kind.Types Nil (node kind.Vars Nil (node kind.Routines Nil (node kind.Compound (node kind.Stmts (node kind.Assign (node kind.Ref (name "g" Nil) (word kind.Number "1" Nil Nil)) Nil) Nil) Nil))))) Nil)))) Nil)) (node kind.Compound (node kind.Stmts (node kind.Assign (node kind.Ref (name "i" Nil) (node kind.Ref (name "f" Nil) Nil)) (node kind.Assign (node kind.Ref (name "i" Nil) (node kind.Call (name "f" (node kind.Exprs (word kind.Number "1" Nil (word kind.Number "2" Nil Nil)) Nil)) Nil)) (node kind.Assign (node kind.Ref (name "i" Nil) (node kind.Ref (name "g" Nil) Nil)) (node kind.Assign (node kind.Ref (name "i" Nil) (node kind.Call (name "g" (node kind.Exprs (word kind.Number "1" Nil Nil) Nil)) Nil)) (node kind.Assign (node kind.Ref (name "i" Nil) (node kind.Call (name "f" (node kind.Exprs (word kind.Number "1" Nil Nil) Nil)) Nil)) Nil))))) Nil) Nil))))) Nil)))

holds3 : differs tree3 (entry (3 ∷ 5 ∷ 1 ∷ 1 ∷ 2 ∷ []) 12 "wrong number of arguments" ∷ entry (3 ∷ 5 ∷ 1 ∷ 2 ∷ 2 ∷ []) 12 "wrong number of arguments" ∷ entry (3 ∷ 5 ∷ 1 ∷ 4 ∷ 2 ∷ []) 12 "wrong number of arguments" ∷ []) ≡ Equal
unfolding differs
holds3 = refl

-- Row 12 counts holes as arguments.
--   program p; procedure q(a: integer); begin end; begin q(?expression); q(?expression, ?expression) end.
abbrev tree4 : Plain
tree4 = program (name "p" (node kind.Heads Nil (node kind.Block (node kind.Consts Nil (node kind.Types Nil (node kind.Vars Nil (node kind.Routines (node kind.Procedure (name "q" (node kind.Params (node kind.Valparam (node kind.Names (name "a" Nil) (name "integer" Nil)) Nil) (node kind.Block (node kind.Consts Nil (node kind.Types Nil (node kind.Vars Nil (node kind.Routines Nil (node kind.Compound (node kind.Stmts (node kind.Empty Nil Nil) Nil) Nil))))) Nil))) Nil) (node kind.Compound (node kind.Stmts (node kind.Proc (name "q" (node kind.Args (node (kind.Hole sort.Expression) Nil Nil) Nil)) (node kind.Proc (name "q" (node kind.Args (node (kind.Hole sort.Expression) Nil (node (kind.Hole sort.Expression) Nil Nil)) Nil)) Nil)) Nil) Nil))))) Nil)))

holds4 : differs tree4 (entry (3 ∷ 5 ∷ 1 ∷ 2 ∷ []) 12 "wrong number of arguments" ∷ []) ≡ Equal
unfolding differs
holds4 = refl

-- Row 12 at new and dispose: one argument; each one is still checked.
--   program p; type l = ^integer; var q: l; i: integer; begin new; new(q, i); dispose(q, 1); dispose; new(q) end.
abbrev tree5 : Plain
tree5 = program (name "p" (node kind.Heads Nil (node kind.Block (node kind.Consts Nil (node kind.Types (node kind.Typedef (name "l" (node kind.Pointer (name "integer" Nil) Nil)) Nil) (node kind.Vars (node kind.Vardef (node kind.Names (name "q" Nil) (node kind.Tname (name "l" Nil) Nil)) (node kind.Vardef (node kind.Names (name "i" Nil) (node kind.Tname (name "integer" Nil) Nil)) Nil)) (node kind.Routines Nil (node kind.Compound (node kind.Stmts (node kind.Proc (name "new" (node kind.Args Nil Nil)) (node kind.Proc (name "new" (node kind.Args (node kind.Ref (name "q" Nil) (node kind.Ref (name "i" Nil) Nil)) Nil)) (node kind.Proc (name "dispose" (node kind.Args (node kind.Ref (name "q" Nil) (word kind.Number "1" Nil Nil)) Nil)) (node kind.Proc (name "dispose" (node kind.Args Nil Nil)) (node kind.Proc (name "new" (node kind.Args (node kind.Ref (name "q" Nil) Nil) Nil)) Nil))))) Nil) Nil))))) Nil)))

holds5 : differs tree5 (entry (3 ∷ 5 ∷ 1 ∷ 1 ∷ []) 12 "wrong number of arguments" ∷ entry (3 ∷ 5 ∷ 1 ∷ 2 ∷ []) 12 "wrong number of arguments" ∷ entry (3 ∷ 5 ∷ 1 ∷ 2 ∷ 2 ∷ 2 ∷ []) 15 "not a pointer" ∷ entry (3 ∷ 5 ∷ 1 ∷ 3 ∷ []) 12 "wrong number of arguments" ∷ entry (3 ∷ 5 ∷ 1 ∷ 3 ∷ 2 ∷ 2 ∷ []) 15 "not a pointer" ∷ entry (3 ∷ 5 ∷ 1 ∷ 4 ∷ []) 12 "wrong number of arguments" ∷ []) ≡ Equal
unfolding differs
holds5 = refl

-- Row 12 at the proc: fewer and more; the surplus ones are only looked at in themselves.
--   program p; procedure q(a, b: integer); begin end; begin q; q(1); q(1, 2); q(1, 2, 'x'); q(1, 2, y) end.
abbrev tree6 : Plain
tree6 = program (name "p" (node kind.Heads Nil (node kind.Block (node kind.Consts Nil (node kind.Types Nil (node kind.Vars Nil (node kind.Routines (node kind.Procedure (name "q" (node kind.Params (node kind.Valparam (node kind.Names (name "a" (name "b" Nil)) (name "integer" Nil)) Nil) (node kind.Block (node kind.Consts Nil (node kind.Types Nil (node kind.Vars Nil (node kind.Routines Nil (node kind.Compound (node kind.Stmts (node kind.Empty Nil Nil) Nil) Nil))))) Nil))) Nil) (node kind.Compound (node kind.Stmts (node kind.Proc (name "q" (node kind.Args Nil Nil)) (node kind.Proc (name "q" (node kind.Args (word kind.Number "1" Nil Nil) Nil)) (node kind.Proc (name "q" (node kind.Args (word kind.Number "1" Nil (word kind.Number "2" Nil Nil)) Nil)) (node kind.Proc (name "q" (node kind.Args (word kind.Number "1" Nil (word kind.Number "2" Nil (word kind.Text "'x'" Nil Nil))) Nil)) (node kind.Proc (name "q" (node kind.Args (word kind.Number "1" Nil (word kind.Number "2" Nil (node kind.Ref (name "y" Nil) Nil))) Nil)) Nil))))) Nil) Nil))))) Nil)))

holds6 : differs tree6 (entry (3 ∷ 5 ∷ 1 ∷ 1 ∷ []) 12 "wrong number of arguments" ∷ entry (3 ∷ 5 ∷ 1 ∷ 2 ∷ []) 12 "wrong number of arguments" ∷ entry (3 ∷ 5 ∷ 1 ∷ 4 ∷ []) 12 "wrong number of arguments" ∷ entry (3 ∷ 5 ∷ 1 ∷ 5 ∷ []) 12 "wrong number of arguments" ∷ entry (3 ∷ 5 ∷ 1 ∷ 5 ∷ 2 ∷ 3 ∷ 1 ∷ []) 1 "not declared: y" ∷ []) ≡ Equal
unfolding differs
holds6 = refl

-- Row 12 at read and write without a variable or value; readln and writeln need none.
--   program p; begin read; read(input); write; write(output); readln; writeln; readln(input); writeln(output) end.
abbrev tree7 : Plain
tree7 = program (name "p" (node kind.Heads Nil (node kind.Block (node kind.Consts Nil (node kind.Types Nil (node kind.Vars Nil (node kind.Routines Nil (node kind.Compound (node kind.Stmts (node kind.Proc (name "read" (node kind.Args Nil Nil)) (node kind.Proc (name "read" (node kind.Args (node kind.Ref (name "input" Nil) Nil) Nil)) (node kind.Proc (name "write" (node kind.Args Nil Nil)) (node kind.Proc (name "write" (node kind.Args (node kind.Ref (name "output" Nil) Nil) Nil)) (node kind.Proc (name "readln" (node kind.Args Nil Nil)) (node kind.Proc (name "writeln" (node kind.Args Nil Nil)) (node kind.Proc (name "readln" (node kind.Args (node kind.Ref (name "input" Nil) Nil) Nil)) (node kind.Proc (name "writeln" (node kind.Args (node kind.Ref (name "output" Nil) Nil) Nil)) Nil)))))))) Nil) Nil))))) Nil)))

holds7 : differs tree7 (entry (3 ∷ 5 ∷ 1 ∷ 1 ∷ []) 12 "wrong number of arguments" ∷ entry (3 ∷ 5 ∷ 1 ∷ 2 ∷ []) 12 "wrong number of arguments" ∷ entry (3 ∷ 5 ∷ 1 ∷ 3 ∷ []) 12 "wrong number of arguments" ∷ entry (3 ∷ 5 ∷ 1 ∷ 4 ∷ []) 12 "wrong number of arguments" ∷ []) ≡ Equal
unfolding differs
holds7 = refl

-- Row 12: in the function itself its name in an expression is a call.
--   program p; function f(a: integer): integer; begin f := f; f := f(a) end; function g: integer; begin g := g end; begin end.
abbrev tree8 : Plain
tree8 = program (name "p" (node kind.Heads Nil (node kind.Block (node kind.Consts Nil (node kind.Types Nil (node kind.Vars Nil (node kind.Routines (node kind.Function (name "f" (node kind.Params (node kind.Valparam (node kind.Names (name "a" Nil) (name "integer" Nil)) Nil) (name "integer" (node kind.Block (node kind.Consts Nil (node kind.Types Nil (node kind.Vars Nil (node kind.Routines Nil (node kind.Compound (node kind.Stmts (node kind.Assign (node kind.Ref (name "f" Nil) (node kind.Ref (name "f" Nil) Nil)) (node kind.Assign (node kind.Ref (name "f" Nil) (node kind.Call (name "f" (node kind.Exprs (node kind.Ref (name "a" Nil) Nil) Nil)) Nil)) Nil)) Nil) Nil))))) Nil)))) (node kind.Function (name "g" (node kind.Params Nil (name "integer" (node kind.Block (node kind.Consts Nil (node kind.Types Nil (node kind.Vars Nil (node kind.Routines Nil (node kind.Compound (node kind.Stmts (node kind.Assign (node kind.Ref (name "g" Nil) (node kind.Ref (name "g" Nil) Nil)) Nil) Nil) Nil))))) Nil)))) Nil)) (node kind.Compound (node kind.Stmts (node kind.Empty Nil Nil) Nil) Nil))))) Nil)))

holds8 : differs tree8 (entry (3 ∷ 4 ∷ 1 ∷ 4 ∷ 5 ∷ 1 ∷ 1 ∷ 2 ∷ []) 12 "wrong number of arguments" ∷ []) ≡ Equal
unfolding differs
holds8 = refl

-- Row 12 at required functions: a wrong number gives row 12 alone.
--   program p; var i: integer; begin i := abs; i := abs('a', 'b'); i := ord('a', 1); if eof then; if eof(input, 1) then; if eoln(input) then end.
abbrev tree9 : Plain
tree9 = program (name "p" (node kind.Heads Nil (node kind.Block (node kind.Consts Nil (node kind.Types Nil (node kind.Vars (node kind.Vardef (node kind.Names (name "i" Nil) (node kind.Tname (name "integer" Nil) Nil)) Nil) (node kind.Routines Nil (node kind.Compound (node kind.Stmts (node kind.Assign (node kind.Ref (name "i" Nil) (node kind.Ref (name "abs" Nil) Nil)) (node kind.Assign (node kind.Ref (name "i" Nil) (node kind.Call (name "abs" (node kind.Exprs (word kind.Text "'a'" Nil (word kind.Text "'b'" Nil Nil)) Nil)) Nil)) (node kind.Assign (node kind.Ref (name "i" Nil) (node kind.Call (name "ord" (node kind.Exprs (word kind.Text "'a'" Nil (word kind.Number "1" Nil Nil)) Nil)) Nil)) (node kind.If (node kind.Ref (name "eof" Nil) (node kind.Empty Nil Nil)) (node kind.If (node kind.Call (name "eof" (node kind.Exprs (node kind.Ref (name "input" Nil) (word kind.Number "1" Nil Nil)) Nil)) (node kind.Empty Nil Nil)) (node kind.If (node kind.Call (name "eoln" (node kind.Exprs (node kind.Ref (name "input" Nil) Nil) Nil)) (node kind.Empty Nil Nil)) Nil)))))) Nil) Nil))))) Nil)))

holds9 : differs tree9 (entry (3 ∷ 5 ∷ 1 ∷ 1 ∷ 2 ∷ []) 12 "wrong number of arguments" ∷ entry (3 ∷ 5 ∷ 1 ∷ 2 ∷ 2 ∷ []) 12 "wrong number of arguments" ∷ entry (3 ∷ 5 ∷ 1 ∷ 3 ∷ 2 ∷ []) 12 "wrong number of arguments" ∷ entry (3 ∷ 5 ∷ 1 ∷ 5 ∷ 1 ∷ []) 12 "wrong number of arguments" ∷ []) ≡ Equal
unfolding differs
holds9 = refl

-- Row 12 with row 11: the arguments that have a formal are still compared with it.
--   program p; procedure q(a, b: integer); begin end; begin q('x'); q(true, 2, 3) end.
abbrev tree10 : Plain
tree10 = program (name "p" (node kind.Heads Nil (node kind.Block (node kind.Consts Nil (node kind.Types Nil (node kind.Vars Nil (node kind.Routines (node kind.Procedure (name "q" (node kind.Params (node kind.Valparam (node kind.Names (name "a" (name "b" Nil)) (name "integer" Nil)) Nil) (node kind.Block (node kind.Consts Nil (node kind.Types Nil (node kind.Vars Nil (node kind.Routines Nil (node kind.Compound (node kind.Stmts (node kind.Empty Nil Nil) Nil) Nil))))) Nil))) Nil) (node kind.Compound (node kind.Stmts (node kind.Proc (name "q" (node kind.Args (word kind.Text "'x'" Nil Nil) Nil)) (node kind.Proc (name "q" (node kind.Args (node kind.Ref (name "true" Nil) (word kind.Number "2" Nil (word kind.Number "3" Nil Nil))) Nil)) Nil)) Nil) Nil))))) Nil)))

holds10 : differs tree10 (entry (3 ∷ 5 ∷ 1 ∷ 1 ∷ []) 12 "wrong number of arguments" ∷ entry (3 ∷ 5 ∷ 1 ∷ 1 ∷ 2 ∷ 1 ∷ []) 11 "types do not agree" ∷ entry (3 ∷ 5 ∷ 1 ∷ 2 ∷ []) 12 "wrong number of arguments" ∷ entry (3 ∷ 5 ∷ 1 ∷ 2 ∷ 2 ∷ 1 ∷ []) 11 "types do not agree" ∷ []) ≡ Equal
unfolding differs
holds10 = refl

-- Rows 12 and 13 at one place: a call with a wrong number of arguments as a var argument.
--   program p; procedure q(var a: integer); begin end; function f(a: integer): integer; begin f := a end; begin q(f(1, 2)); read(abs(1, 2)) end.
abbrev tree11 : Plain
tree11 = program (name "p" (node kind.Heads Nil (node kind.Block (node kind.Consts Nil (node kind.Types Nil (node kind.Vars Nil (node kind.Routines (node kind.Procedure (name "q" (node kind.Params (node kind.Varparam (node kind.Names (name "a" Nil) (name "integer" Nil)) Nil) (node kind.Block (node kind.Consts Nil (node kind.Types Nil (node kind.Vars Nil (node kind.Routines Nil (node kind.Compound (node kind.Stmts (node kind.Empty Nil Nil) Nil) Nil))))) Nil))) (node kind.Function (name "f" (node kind.Params (node kind.Valparam (node kind.Names (name "a" Nil) (name "integer" Nil)) Nil) (name "integer" (node kind.Block (node kind.Consts Nil (node kind.Types Nil (node kind.Vars Nil (node kind.Routines Nil (node kind.Compound (node kind.Stmts (node kind.Assign (node kind.Ref (name "f" Nil) (node kind.Ref (name "a" Nil) Nil)) Nil) Nil) Nil))))) Nil)))) Nil)) (node kind.Compound (node kind.Stmts (node kind.Proc (name "q" (node kind.Args (node kind.Call (name "f" (node kind.Exprs (word kind.Number "1" Nil (word kind.Number "2" Nil Nil)) Nil)) Nil) Nil)) (node kind.Proc (name "read" (node kind.Args (node kind.Call (name "abs" (node kind.Exprs (word kind.Number "1" Nil (word kind.Number "2" Nil Nil)) Nil)) Nil) Nil)) Nil)) Nil) Nil))))) Nil)))

holds11 : differs tree11 (entry (3 ∷ 5 ∷ 1 ∷ 1 ∷ 2 ∷ 1 ∷ []) 12 "wrong number of arguments" ∷ entry (3 ∷ 5 ∷ 1 ∷ 1 ∷ 2 ∷ 1 ∷ []) 13 "not a variable" ∷ entry (3 ∷ 5 ∷ 1 ∷ 2 ∷ 2 ∷ 1 ∷ []) 12 "wrong number of arguments" ∷ entry (3 ∷ 5 ∷ 1 ∷ 2 ∷ 2 ∷ 1 ∷ []) 13 "not a variable" ∷ []) ≡ Equal
unfolding differs
holds11 = refl
