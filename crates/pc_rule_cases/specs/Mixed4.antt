-- Programs with many errors, and without: programs with the errors that they have.
use Rattle.std.specs.Prelude.{◌≡◌, [], ◌∷◌}
use Rattle.std.proofs.Common.{refl}
use Rattle.pc_syntax.specs.Plain.{Nil, Plain}
use Rattle.pc_syntax.specs.declared.kind.Kind.TheVariants as kind
use Rattle.pc_syntax.specs.declared.sort.Sort.TheVariants as sort
use Rattle.pc_rule_cases.specs.Trees.{program, node, name, word}
use Rattle.pc_rule_cases.specs.Compare.{Equal, entry, differs}

-- A hole in the place of a bound.
--   program a; var i: integer; begin for i := ?expression to 2 do end.
abbrev tree1 : Plain
tree1 = program (name "a" (node kind.Heads Nil (node kind.Block (node kind.Consts Nil (node kind.Types Nil (node kind.Vars (node kind.Vardef (node kind.Names (name "i" Nil) (node kind.Tname (name "integer" Nil) Nil)) Nil) (node kind.Routines Nil (node kind.Compound (node kind.Stmts (word kind.For "to" (name "i" (node (kind.Hole sort.Expression) Nil (word kind.Number "2" Nil (node kind.Empty Nil Nil)))) Nil) Nil) Nil))))) Nil)))

holds1 : differs tree1 ([]) ≡ Equal
unfolding differs
holds1 = refl

-- A forward routine without a block.
--   program a; procedure p; forward; begin end.
abbrev tree2 : Plain
tree2 = program (name "a" (node kind.Heads Nil (node kind.Block (node kind.Consts Nil (node kind.Types Nil (node kind.Vars Nil (node kind.Routines (node kind.Procedure (name "p" (node kind.Params Nil (word kind.Forward "forward" Nil Nil))) Nil) (node kind.Compound (node kind.Stmts (node kind.Empty Nil Nil) Nil) Nil))))) Nil)))

holds2 : differs tree2 (entry (3 ∷ 4 ∷ 1 ∷ []) 20 "forward has no block: p" ∷ []) ≡ Equal
unfolding differs
holds2 = refl

-- A procedure that calls itself.
--   program t; procedure p; begin p end; begin p end.
abbrev tree3 : Plain
tree3 = program (name "t" (node kind.Heads Nil (node kind.Block (node kind.Consts Nil (node kind.Types Nil (node kind.Vars Nil (node kind.Routines (node kind.Procedure (name "p" (node kind.Params Nil (node kind.Block (node kind.Consts Nil (node kind.Types Nil (node kind.Vars Nil (node kind.Routines Nil (node kind.Compound (node kind.Stmts (node kind.Proc (name "p" (node kind.Args Nil Nil)) Nil) Nil) Nil))))) Nil))) Nil) (node kind.Compound (node kind.Stmts (node kind.Proc (name "p" (node kind.Args Nil Nil)) Nil) Nil) Nil))))) Nil)))

holds3 : differs tree3 ([]) ≡ Equal
unfolding differs
holds3 = refl

-- A variable that is passed twice.
--   program a; var g: integer; procedure p(a: integer; var b: integer); begin if a > 0 then a := g; b := a end; begin g := 1; p(g, g); write(g) end.
abbrev tree4 : Plain
tree4 = program (name "a" (node kind.Heads Nil (node kind.Block (node kind.Consts Nil (node kind.Types Nil (node kind.Vars (node kind.Vardef (node kind.Names (name "g" Nil) (node kind.Tname (name "integer" Nil) Nil)) Nil) (node kind.Routines (node kind.Procedure (name "p" (node kind.Params (node kind.Valparam (node kind.Names (name "a" Nil) (name "integer" Nil)) (node kind.Varparam (node kind.Names (name "b" Nil) (name "integer" Nil)) Nil)) (node kind.Block (node kind.Consts Nil (node kind.Types Nil (node kind.Vars Nil (node kind.Routines Nil (node kind.Compound (node kind.Stmts (node kind.If (word kind.Rel ">" (node kind.Ref (name "a" Nil) (word kind.Number "0" Nil Nil)) (node kind.Assign (node kind.Ref (name "a" Nil) (node kind.Ref (name "g" Nil) Nil)) Nil)) (node kind.Assign (node kind.Ref (name "b" Nil) (node kind.Ref (name "a" Nil) Nil)) Nil)) Nil) Nil))))) Nil))) Nil) (node kind.Compound (node kind.Stmts (node kind.Assign (node kind.Ref (name "g" Nil) (word kind.Number "1" Nil Nil)) (node kind.Proc (name "p" (node kind.Args (node kind.Ref (name "g" Nil) (node kind.Ref (name "g" Nil) Nil)) Nil)) (node kind.Proc (name "write" (node kind.Args (node kind.Ref (name "g" Nil) Nil) Nil)) Nil))) Nil) Nil))))) Nil)))

holds4 : differs tree4 ([]) ≡ Equal
unfolding differs
holds4 = refl

-- Read of two variables.
--   program a; var i, j: integer; begin read(i, j) end.
abbrev tree5 : Plain
tree5 = program (name "a" (node kind.Heads Nil (node kind.Block (node kind.Consts Nil (node kind.Types Nil (node kind.Vars (node kind.Vardef (node kind.Names (name "i" (name "j" Nil)) (node kind.Tname (name "integer" Nil) Nil)) Nil) (node kind.Routines Nil (node kind.Compound (node kind.Stmts (node kind.Proc (name "read" (node kind.Args (node kind.Ref (name "i" Nil) (node kind.Ref (name "j" Nil) Nil)) Nil)) Nil) Nil) Nil))))) Nil)))

holds5 : differs tree5 ([]) ≡ Equal
unfolding differs
holds5 = refl

-- Write of an expression that fails only in a run.
--   program a; begin write(1:1, 1 div 0) end.
abbrev tree6 : Plain
tree6 = program (name "a" (node kind.Heads Nil (node kind.Block (node kind.Consts Nil (node kind.Types Nil (node kind.Vars Nil (node kind.Routines Nil (node kind.Compound (node kind.Stmts (node kind.Proc (name "write" (node kind.Args (node kind.Width (word kind.Number "1" Nil (word kind.Number "1" Nil Nil)) (word kind.Mul "div" (word kind.Number "1" Nil (word kind.Number "0" Nil Nil)) Nil)) Nil)) Nil) Nil) Nil))))) Nil)))

holds6 : differs tree6 ([]) ≡ Equal
unfolding differs
holds6 = refl

-- Arrays of records over an enumerated type, sets of chars, components as variable arguments.
--   program a; type e = (low, high); t = array [e, 1..2] of record f: char; g: boolean end; var v: t; s: set of 'a'..'z'; x: e; n: integer; procedure
--   p(var c: char; k: integer); var z: integer; begin n := k end; function q(var w: e): integer; begin q := 4; p(v[high, 2].f, 7) end; begin v[low, 1].f
--   := ''''; v[low, 2].g := true; s := ['a', 'c']; x := high; n := q(x) end.
abbrev tree7 : Plain
tree7 = program (name "a" (node kind.Heads Nil (node kind.Block (node kind.Consts Nil (node kind.Types (node kind.Typedef (name "e" (node kind.Enum (node kind.Names (name "low" (name "high" Nil)) Nil) Nil)) (node kind.Typedef (name "t" (node kind.Array (node kind.Indexes (node kind.Tname (name "e" Nil) (node kind.Subrange (word kind.Cnumber "1" Nil (word kind.Cnumber "2" Nil Nil)) Nil)) (node kind.Record (node kind.Fields (node kind.Field (node kind.Names (name "f" Nil) (node kind.Tname (name "char" Nil) Nil)) (node kind.Field (node kind.Names (name "g" Nil) (node kind.Tname (name "boolean" Nil) Nil)) Nil)) Nil) Nil)) Nil)) Nil)) (node kind.Vars (node kind.Vardef (node kind.Names (name "v" Nil) (node kind.Tname (name "t" Nil) Nil)) (node kind.Vardef (node kind.Names (name "s" Nil) (node kind.Setof (node kind.Subrange (word kind.Cstring "'a'" Nil (word kind.Cstring "'z'" Nil Nil)) Nil) Nil)) (node kind.Vardef (node kind.Names (name "x" Nil) (node kind.Tname (name "e" Nil) Nil)) (node kind.Vardef (node kind.Names (name "n" Nil) (node kind.Tname (name "integer" Nil) Nil)) Nil)))) (node kind.Routines (node kind.Procedure (name "p" (node kind.Params (node kind.Varparam (node kind.Names (name "c" Nil) (name "char" Nil)) (node kind.Valparam (node kind.Names (name "k" Nil) (name "integer" Nil)) Nil)) (node kind.Block (node kind.Consts Nil (node kind.Types Nil (node kind.Vars (node kind.Vardef (node kind.Names (name "z" Nil) (node kind.Tname (name "integer" Nil) Nil)) Nil) (node kind.Routines Nil (node kind.Compound (node kind.Stmts (node kind.Assign (node kind.Ref (name "n" Nil) (node kind.Ref (name "k" Nil) Nil)) Nil) Nil) Nil))))) Nil))) (node kind.Function (name "q" (node kind.Params (node kind.Varparam (node kind.Names (name "w" Nil) (name "e" Nil)) Nil) (name "integer" (node kind.Block (node kind.Consts Nil (node kind.Types Nil (node kind.Vars Nil (node kind.Routines Nil (node kind.Compound (node kind.Stmts (node kind.Assign (node kind.Ref (name "q" Nil) (word kind.Number "4" Nil Nil)) (node kind.Proc (name "p" (node kind.Args (node kind.Select (node kind.Index (node kind.Ref (name "v" Nil) (node kind.Exprs (node kind.Ref (name "high" Nil) (word kind.Number "2" Nil Nil)) Nil)) (name "f" Nil)) (word kind.Number "7" Nil Nil)) Nil)) Nil)) Nil) Nil))))) Nil)))) Nil)) (node kind.Compound (node kind.Stmts (node kind.Assign (node kind.Select (node kind.Index (node kind.Ref (name "v" Nil) (node kind.Exprs (node kind.Ref (name "low" Nil) (word kind.Number "1" Nil Nil)) Nil)) (name "f" Nil)) (word kind.Text "''''" Nil Nil)) (node kind.Assign (node kind.Select (node kind.Index (node kind.Ref (name "v" Nil) (node kind.Exprs (node kind.Ref (name "low" Nil) (word kind.Number "2" Nil Nil)) Nil)) (name "g" Nil)) (node kind.Ref (name "true" Nil) Nil)) (node kind.Assign (node kind.Ref (name "s" Nil) (node kind.Setcon (node kind.Members (word kind.Text "'a'" Nil (word kind.Text "'c'" Nil Nil)) Nil) Nil)) (node kind.Assign (node kind.Ref (name "x" Nil) (node kind.Ref (name "high" Nil) Nil)) (node kind.Assign (node kind.Ref (name "n" Nil) (node kind.Call (name "q" (node kind.Exprs (node kind.Ref (name "x" Nil) Nil) Nil)) Nil)) Nil))))) Nil) Nil))))) Nil)))

holds7 : differs tree7 ([]) ≡ Equal
unfolding differs
holds7 = refl

-- Equated types, and a component through a pointer as a variable argument.
--   program a; type c = char; l = ^c; m = ^integer; var p: l; q: m; procedure w(var x: c); begin end; begin new(p); p^ := 'a'; new(q); w(p^) end.
abbrev tree8 : Plain
tree8 = program (name "a" (node kind.Heads Nil (node kind.Block (node kind.Consts Nil (node kind.Types (node kind.Typedef (name "c" (node kind.Tname (name "char" Nil) Nil)) (node kind.Typedef (name "l" (node kind.Pointer (name "c" Nil) Nil)) (node kind.Typedef (name "m" (node kind.Pointer (name "integer" Nil) Nil)) Nil))) (node kind.Vars (node kind.Vardef (node kind.Names (name "p" Nil) (node kind.Tname (name "l" Nil) Nil)) (node kind.Vardef (node kind.Names (name "q" Nil) (node kind.Tname (name "m" Nil) Nil)) Nil)) (node kind.Routines (node kind.Procedure (name "w" (node kind.Params (node kind.Varparam (node kind.Names (name "x" Nil) (name "c" Nil)) Nil) (node kind.Block (node kind.Consts Nil (node kind.Types Nil (node kind.Vars Nil (node kind.Routines Nil (node kind.Compound (node kind.Stmts (node kind.Empty Nil Nil) Nil) Nil))))) Nil))) Nil) (node kind.Compound (node kind.Stmts (node kind.Proc (name "new" (node kind.Args (node kind.Ref (name "p" Nil) Nil) Nil)) (node kind.Assign (node kind.Deref (node kind.Ref (name "p" Nil) Nil) (word kind.Text "'a'" Nil Nil)) (node kind.Proc (name "new" (node kind.Args (node kind.Ref (name "q" Nil) Nil) Nil)) (node kind.Proc (name "w" (node kind.Args (node kind.Deref (node kind.Ref (name "p" Nil) Nil) Nil) Nil)) Nil)))) Nil) Nil))))) Nil)))

holds8 : differs tree8 ([]) ≡ Equal
unfolding differs
holds8 = refl

-- A program that writes a text.
--   program a; begin writeln('hi') end.
abbrev tree9 : Plain
tree9 = program (name "a" (node kind.Heads Nil (node kind.Block (node kind.Consts Nil (node kind.Types Nil (node kind.Vars Nil (node kind.Routines Nil (node kind.Compound (node kind.Stmts (node kind.Proc (name "writeln" (node kind.Args (word kind.Text "'hi'" Nil Nil) Nil)) Nil) Nil) Nil))))) Nil)))

holds9 : differs tree9 ([]) ≡ Equal
unfolding differs
holds9 = refl

-- A program that adds.
--   program b; var i: integer; begin i := 1; i := i + 1; write(i:2) end.
abbrev tree10 : Plain
tree10 = program (name "b" (node kind.Heads Nil (node kind.Block (node kind.Consts Nil (node kind.Types Nil (node kind.Vars (node kind.Vardef (node kind.Names (name "i" Nil) (node kind.Tname (name "integer" Nil) Nil)) Nil) (node kind.Routines Nil (node kind.Compound (node kind.Stmts (node kind.Assign (node kind.Ref (name "i" Nil) (word kind.Number "1" Nil Nil)) (node kind.Assign (node kind.Ref (name "i" Nil) (word kind.Add "+" (node kind.Ref (name "i" Nil) (word kind.Number "1" Nil Nil)) Nil)) (node kind.Proc (name "write" (node kind.Args (node kind.Width (node kind.Ref (name "i" Nil) (word kind.Number "2" Nil Nil)) Nil) Nil)) Nil))) Nil) Nil))))) Nil)))

holds10 : differs tree10 ([]) ≡ Equal
unfolding differs
holds10 = refl

-- A program with a for statement.
--   program c; var i, s: integer; begin s := 0; for i := 1 to 5 do s := s + i; write(s:3) end.
abbrev tree11 : Plain
tree11 = program (name "c" (node kind.Heads Nil (node kind.Block (node kind.Consts Nil (node kind.Types Nil (node kind.Vars (node kind.Vardef (node kind.Names (name "i" (name "s" Nil)) (node kind.Tname (name "integer" Nil) Nil)) Nil) (node kind.Routines Nil (node kind.Compound (node kind.Stmts (node kind.Assign (node kind.Ref (name "s" Nil) (word kind.Number "0" Nil Nil)) (word kind.For "to" (name "i" (word kind.Number "1" Nil (word kind.Number "5" Nil (node kind.Assign (node kind.Ref (name "s" Nil) (word kind.Add "+" (node kind.Ref (name "s" Nil) (node kind.Ref (name "i" Nil) Nil)) Nil)) Nil)))) (node kind.Proc (name "write" (node kind.Args (node kind.Width (node kind.Ref (name "s" Nil) (word kind.Number "3" Nil Nil)) Nil) Nil)) Nil))) Nil) Nil))))) Nil)))

holds11 : differs tree11 ([]) ≡ Equal
unfolding differs
holds11 = refl

-- A program with a procedure.
--   program d; var x: integer; procedure p; begin write(x:2) end; begin x := 1; p; p end.
abbrev tree12 : Plain
tree12 = program (name "d" (node kind.Heads Nil (node kind.Block (node kind.Consts Nil (node kind.Types Nil (node kind.Vars (node kind.Vardef (node kind.Names (name "x" Nil) (node kind.Tname (name "integer" Nil) Nil)) Nil) (node kind.Routines (node kind.Procedure (name "p" (node kind.Params Nil (node kind.Block (node kind.Consts Nil (node kind.Types Nil (node kind.Vars Nil (node kind.Routines Nil (node kind.Compound (node kind.Stmts (node kind.Proc (name "write" (node kind.Args (node kind.Width (node kind.Ref (name "x" Nil) (word kind.Number "2" Nil Nil)) Nil) Nil)) Nil) Nil) Nil))))) Nil))) Nil) (node kind.Compound (node kind.Stmts (node kind.Assign (node kind.Ref (name "x" Nil) (word kind.Number "1" Nil Nil)) (node kind.Proc (name "p" (node kind.Args Nil Nil)) (node kind.Proc (name "p" (node kind.Args Nil Nil)) Nil))) Nil) Nil))))) Nil)))

holds12 : differs tree12 ([]) ≡ Equal
unfolding differs
holds12 = refl
