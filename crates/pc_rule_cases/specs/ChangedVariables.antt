-- Control variables that are changed: programs with the errors that they have.
use Rattle.std.specs.Prelude.{◌≡◌, [], ◌∷◌}
use Rattle.std.proofs.Common.{refl}
use Rattle.pc_syntax.specs.Plain.{Nil, Plain}
use Rattle.pc_syntax.specs.declared.kind.Kind.TheVariants as kind
use Rattle.pc_rule_cases.specs.Trees.{program, node, name, word}
use Rattle.pc_rule_cases.specs.Compare.{Equal, entry, differs}

-- Row 19: the body assigns the variable; the entry is at the for's name.
--   program p; var i: integer; begin for i := 1 to 9 do i := i + 1; i := 1; for i := 1 to 2 do end.
abbrev tree1 : Plain
tree1 = program (name "p" (node kind.Heads Nil (node kind.Block (node kind.Consts Nil (node kind.Types Nil (node kind.Vars (node kind.Vardef (node kind.Names (name "i" Nil) (node kind.Tname (name "integer" Nil) Nil)) Nil) (node kind.Routines Nil (node kind.Compound (node kind.Stmts (word kind.For "to" (name "i" (word kind.Number "1" Nil (word kind.Number "9" Nil (node kind.Assign (node kind.Ref (name "i" Nil) (word kind.Add "+" (node kind.Ref (name "i" Nil) (word kind.Number "1" Nil Nil)) Nil)) Nil)))) (node kind.Assign (node kind.Ref (name "i" Nil) (word kind.Number "1" Nil Nil)) (word kind.For "to" (name "i" (word kind.Number "1" Nil (word kind.Number "2" Nil (node kind.Empty Nil Nil)))) Nil))) Nil) Nil))))) Nil)))

holds1 : differs tree1 (entry (3 ∷ 5 ∷ 1 ∷ 1 ∷ 1 ∷ []) 19 "control variable is changed: i" ∷ []) ≡ Equal
unfolding differs
holds1 = refl

-- Row 19 speaks of the body: a var argument in the bounds is no entry.
--   program p; var i: integer; function f(var a: integer): integer; begin f := 1 end; begin for i := f(i) to f(i) do end.
abbrev tree2 : Plain
tree2 = program (name "p" (node kind.Heads Nil (node kind.Block (node kind.Consts Nil (node kind.Types Nil (node kind.Vars (node kind.Vardef (node kind.Names (name "i" Nil) (node kind.Tname (name "integer" Nil) Nil)) Nil) (node kind.Routines (node kind.Function (name "f" (node kind.Params (node kind.Varparam (node kind.Names (name "a" Nil) (name "integer" Nil)) Nil) (name "integer" (node kind.Block (node kind.Consts Nil (node kind.Types Nil (node kind.Vars Nil (node kind.Routines Nil (node kind.Compound (node kind.Stmts (node kind.Assign (node kind.Ref (name "f" Nil) (word kind.Number "1" Nil Nil)) Nil) Nil) Nil))))) Nil)))) Nil) (node kind.Compound (node kind.Stmts (word kind.For "to" (name "i" (node kind.Call (name "f" (node kind.Exprs (node kind.Ref (name "i" Nil) Nil) Nil)) (node kind.Call (name "f" (node kind.Exprs (node kind.Ref (name "i" Nil) Nil) Nil)) (node kind.Empty Nil Nil)))) Nil) Nil) Nil))))) Nil)))

holds2 : differs tree2 ([]) ≡ Equal
unfolding differs
holds2 = refl

-- Row 19 speaks of the variable: a component of it changes it as little as an index.
--   program p; var i: integer; a: array [1..5] of integer; begin for i := 1 to 5 do begin a[i] := 1; read(a[i]) end end.
abbrev tree3 : Plain
tree3 = program (name "p" (node kind.Heads Nil (node kind.Block (node kind.Consts Nil (node kind.Types Nil (node kind.Vars (node kind.Vardef (node kind.Names (name "i" Nil) (node kind.Tname (name "integer" Nil) Nil)) (node kind.Vardef (node kind.Names (name "a" Nil) (node kind.Array (node kind.Indexes (node kind.Subrange (word kind.Cnumber "1" Nil (word kind.Cnumber "5" Nil Nil)) Nil) (node kind.Tname (name "integer" Nil) Nil)) Nil)) Nil)) (node kind.Routines Nil (node kind.Compound (node kind.Stmts (word kind.For "to" (name "i" (word kind.Number "1" Nil (word kind.Number "5" Nil (node kind.Compound (node kind.Stmts (node kind.Assign (node kind.Index (node kind.Ref (name "a" Nil) (node kind.Exprs (node kind.Ref (name "i" Nil) Nil) Nil)) (word kind.Number "1" Nil Nil)) (node kind.Proc (name "read" (node kind.Args (node kind.Index (node kind.Ref (name "a" Nil) (node kind.Exprs (node kind.Ref (name "i" Nil) Nil) Nil)) Nil) Nil)) Nil)) Nil) Nil)))) Nil) Nil) Nil))))) Nil)))

holds3 : differs tree3 ([]) ≡ Equal
unfolding differs
holds3 = refl

-- Row 19: an assignment counts though its expression has an error, for the rule needs no type.
--   program p; var i: integer; begin for i := 1 to 2 do i := y end.
abbrev tree4 : Plain
tree4 = program (name "p" (node kind.Heads Nil (node kind.Block (node kind.Consts Nil (node kind.Types Nil (node kind.Vars (node kind.Vardef (node kind.Names (name "i" Nil) (node kind.Tname (name "integer" Nil) Nil)) Nil) (node kind.Routines Nil (node kind.Compound (node kind.Stmts (word kind.For "to" (name "i" (word kind.Number "1" Nil (word kind.Number "2" Nil (node kind.Assign (node kind.Ref (name "i" Nil) (node kind.Ref (name "y" Nil) Nil)) Nil)))) Nil) Nil) Nil))))) Nil)))

holds4 : differs tree4 (entry (3 ∷ 5 ∷ 1 ∷ 1 ∷ 1 ∷ []) 19 "control variable is changed: i" ∷ entry (3 ∷ 5 ∷ 1 ∷ 1 ∷ 4 ∷ 2 ∷ 1 ∷ []) 1 "not declared: y" ∷ []) ≡ Equal
unfolding differs
holds4 = refl

-- Row 19: the inner for has no entry, the outer one has: the inner one controls the variable in its body.
--   program p; var i: integer; begin for i := 1 to 2 do begin for i := 3 to 4 do write(i) end end.
abbrev tree5 : Plain
tree5 = program (name "p" (node kind.Heads Nil (node kind.Block (node kind.Consts Nil (node kind.Types Nil (node kind.Vars (node kind.Vardef (node kind.Names (name "i" Nil) (node kind.Tname (name "integer" Nil) Nil)) Nil) (node kind.Routines Nil (node kind.Compound (node kind.Stmts (word kind.For "to" (name "i" (word kind.Number "1" Nil (word kind.Number "2" Nil (node kind.Compound (node kind.Stmts (word kind.For "to" (name "i" (word kind.Number "3" Nil (word kind.Number "4" Nil (node kind.Proc (name "write" (node kind.Args (node kind.Ref (name "i" Nil) Nil) Nil)) Nil)))) Nil) Nil) Nil)))) Nil) Nil) Nil))))) Nil)))

holds5 : differs tree5 (entry (3 ∷ 5 ∷ 1 ∷ 1 ∷ 1 ∷ []) 19 "control variable is changed: i" ∷ []) ≡ Equal
unfolding differs
holds5 = refl

-- Row 19, the neighbours: read only, a value argument, an own variable of that name in a routine, a component of it.
--   program p; var i: integer; r: record i: integer end; procedure q(a: integer); var i: integer; begin i := a end; begin for i := 1 to 3 do begin q(i);
--   write(i); with r do i := 2; r.i := i end end.
abbrev tree6 : Plain
tree6 = program (name "p" (node kind.Heads Nil (node kind.Block (node kind.Consts Nil (node kind.Types Nil (node kind.Vars (node kind.Vardef (node kind.Names (name "i" Nil) (node kind.Tname (name "integer" Nil) Nil)) (node kind.Vardef (node kind.Names (name "r" Nil) (node kind.Record (node kind.Fields (node kind.Field (node kind.Names (name "i" Nil) (node kind.Tname (name "integer" Nil) Nil)) Nil) Nil) Nil)) Nil)) (node kind.Routines (node kind.Procedure (name "q" (node kind.Params (node kind.Valparam (node kind.Names (name "a" Nil) (name "integer" Nil)) Nil) (node kind.Block (node kind.Consts Nil (node kind.Types Nil (node kind.Vars (node kind.Vardef (node kind.Names (name "i" Nil) (node kind.Tname (name "integer" Nil) Nil)) Nil) (node kind.Routines Nil (node kind.Compound (node kind.Stmts (node kind.Assign (node kind.Ref (name "i" Nil) (node kind.Ref (name "a" Nil) Nil)) Nil) Nil) Nil))))) Nil))) Nil) (node kind.Compound (node kind.Stmts (word kind.For "to" (name "i" (word kind.Number "1" Nil (word kind.Number "3" Nil (node kind.Compound (node kind.Stmts (node kind.Proc (name "q" (node kind.Args (node kind.Ref (name "i" Nil) Nil) Nil)) (node kind.Proc (name "write" (node kind.Args (node kind.Ref (name "i" Nil) Nil) Nil)) (node kind.With (node kind.Accesses (node kind.Ref (name "r" Nil) Nil) (node kind.Assign (node kind.Ref (name "i" Nil) (word kind.Number "2" Nil Nil)) Nil)) (node kind.Assign (node kind.Select (node kind.Ref (name "r" Nil) (name "i" Nil)) (node kind.Ref (name "i" Nil) Nil)) Nil)))) Nil) Nil)))) Nil) Nil) Nil))))) Nil)))

holds6 : differs tree6 ([]) ≡ Equal
unfolding differs
holds6 = refl

-- Row 19: new of a variable is neither an assignment, a read nor a var argument.
--   program p; var i: ^char; begin for i := nil to nil do new(i) end.
abbrev tree7 : Plain
tree7 = program (name "p" (node kind.Heads Nil (node kind.Block (node kind.Consts Nil (node kind.Types Nil (node kind.Vars (node kind.Vardef (node kind.Names (name "i" Nil) (node kind.Pointer (name "char" Nil) Nil)) Nil) (node kind.Routines Nil (node kind.Compound (node kind.Stmts (word kind.For "to" (name "i" (node kind.Nil Nil (node kind.Nil Nil (node kind.Proc (name "new" (node kind.Args (node kind.Ref (name "i" Nil) Nil) Nil)) Nil)))) Nil) Nil) Nil))))) Nil)))

holds7 : differs tree7 (entry (3 ∷ 5 ∷ 1 ∷ 1 ∷ 2 ∷ []) 8 "not an ordinal type" ∷ entry (3 ∷ 5 ∷ 1 ∷ 1 ∷ 3 ∷ []) 8 "not an ordinal type" ∷ []) ≡ Equal
unfolding differs
holds7 = refl

-- Row 19 takes the type of the name away: no row 11 at the bounds.
--   program p; var i: integer; begin for i := 'a' to true do i := 1 end.
abbrev tree8 : Plain
tree8 = program (name "p" (node kind.Heads Nil (node kind.Block (node kind.Consts Nil (node kind.Types Nil (node kind.Vars (node kind.Vardef (node kind.Names (name "i" Nil) (node kind.Tname (name "integer" Nil) Nil)) Nil) (node kind.Routines Nil (node kind.Compound (node kind.Stmts (word kind.For "to" (name "i" (word kind.Text "'a'" Nil (node kind.Ref (name "true" Nil) (node kind.Assign (node kind.Ref (name "i" Nil) (word kind.Number "1" Nil Nil)) Nil)))) Nil) Nil) Nil))))) Nil)))

holds8 : differs tree8 (entry (3 ∷ 5 ∷ 1 ∷ 1 ∷ 1 ∷ []) 19 "control variable is changed: i" ∷ []) ≡ Equal
unfolding differs
holds8 = refl

-- Row 19: a routine of the block changes it, called or not, also one inside another.
--   program p; var i, j, k: integer; procedure q; begin i := 1 end; procedure r; procedure s; begin readln(j) end; begin end; begin for i := 1 to 2 do;
--   for j := 1 to 2 do; for k := 1 to 2 do end.
abbrev tree9 : Plain
tree9 = program (name "p" (node kind.Heads Nil (node kind.Block (node kind.Consts Nil (node kind.Types Nil (node kind.Vars (node kind.Vardef (node kind.Names (name "i" (name "j" (name "k" Nil))) (node kind.Tname (name "integer" Nil) Nil)) Nil) (node kind.Routines (node kind.Procedure (name "q" (node kind.Params Nil (node kind.Block (node kind.Consts Nil (node kind.Types Nil (node kind.Vars Nil (node kind.Routines Nil (node kind.Compound (node kind.Stmts (node kind.Assign (node kind.Ref (name "i" Nil) (word kind.Number "1" Nil Nil)) Nil) Nil) Nil))))) Nil))) (node kind.Procedure (name "r" (node kind.Params Nil (node kind.Block (node kind.Consts Nil (node kind.Types Nil (node kind.Vars Nil (node kind.Routines (node kind.Procedure (name "s" (node kind.Params Nil (node kind.Block (node kind.Consts Nil (node kind.Types Nil (node kind.Vars Nil (node kind.Routines Nil (node kind.Compound (node kind.Stmts (node kind.Proc (name "readln" (node kind.Args (node kind.Ref (name "j" Nil) Nil) Nil)) Nil) Nil) Nil))))) Nil))) Nil) (node kind.Compound (node kind.Stmts (node kind.Empty Nil Nil) Nil) Nil))))) Nil))) Nil)) (node kind.Compound (node kind.Stmts (word kind.For "to" (name "i" (word kind.Number "1" Nil (word kind.Number "2" Nil (node kind.Empty Nil Nil)))) (word kind.For "to" (name "j" (word kind.Number "1" Nil (word kind.Number "2" Nil (node kind.Empty Nil Nil)))) (word kind.For "to" (name "k" (word kind.Number "1" Nil (word kind.Number "2" Nil (node kind.Empty Nil Nil)))) Nil))) Nil) Nil))))) Nil)))

holds9 : differs tree9 (entry (3 ∷ 5 ∷ 1 ∷ 1 ∷ 1 ∷ []) 19 "control variable is changed: i" ∷ entry (3 ∷ 5 ∷ 1 ∷ 2 ∷ 1 ∷ []) 19 "control variable is changed: j" ∷ []) ≡ Equal
unfolding differs
holds9 = refl

-- Row 19: a routine with a bad parameter has no type, so what it takes as var argument is not known.
--   program p; var i: integer; procedure q(var a: integer; b: t); begin end; begin for i := 1 to 2 do q(i, 1) end.
abbrev tree10 : Plain
tree10 = program (name "p" (node kind.Heads Nil (node kind.Block (node kind.Consts Nil (node kind.Types Nil (node kind.Vars (node kind.Vardef (node kind.Names (name "i" Nil) (node kind.Tname (name "integer" Nil) Nil)) Nil) (node kind.Routines (node kind.Procedure (name "q" (node kind.Params (node kind.Varparam (node kind.Names (name "a" Nil) (name "integer" Nil)) (node kind.Valparam (node kind.Names (name "b" Nil) (name "t" Nil)) Nil)) (node kind.Block (node kind.Consts Nil (node kind.Types Nil (node kind.Vars Nil (node kind.Routines Nil (node kind.Compound (node kind.Stmts (node kind.Empty Nil Nil) Nil) Nil))))) Nil))) Nil) (node kind.Compound (node kind.Stmts (word kind.For "to" (name "i" (word kind.Number "1" Nil (word kind.Number "2" Nil (node kind.Proc (name "q" (node kind.Args (node kind.Ref (name "i" Nil) (word kind.Number "1" Nil Nil)) Nil)) Nil)))) Nil) Nil) Nil))))) Nil)))

holds10 : differs tree10 (entry (3 ∷ 4 ∷ 1 ∷ 2 ∷ 2 ∷ 2 ∷ []) 1 "not declared: t" ∷ []) ≡ Equal
unfolding differs
holds10 = refl

-- Row 19: reads it, passes it as var argument, controls it by an inner for.
--   program p; var i, j, k: integer; procedure q(var a: integer); begin end; begin for i := 1 to 9 do read(i); for j := 1 to 9 do q(j); for k := 1 to 9 do
--   for k := 1 to 2 do end.
abbrev tree11 : Plain
tree11 = program (name "p" (node kind.Heads Nil (node kind.Block (node kind.Consts Nil (node kind.Types Nil (node kind.Vars (node kind.Vardef (node kind.Names (name "i" (name "j" (name "k" Nil))) (node kind.Tname (name "integer" Nil) Nil)) Nil) (node kind.Routines (node kind.Procedure (name "q" (node kind.Params (node kind.Varparam (node kind.Names (name "a" Nil) (name "integer" Nil)) Nil) (node kind.Block (node kind.Consts Nil (node kind.Types Nil (node kind.Vars Nil (node kind.Routines Nil (node kind.Compound (node kind.Stmts (node kind.Empty Nil Nil) Nil) Nil))))) Nil))) Nil) (node kind.Compound (node kind.Stmts (word kind.For "to" (name "i" (word kind.Number "1" Nil (word kind.Number "9" Nil (node kind.Proc (name "read" (node kind.Args (node kind.Ref (name "i" Nil) Nil) Nil)) Nil)))) (word kind.For "to" (name "j" (word kind.Number "1" Nil (word kind.Number "9" Nil (node kind.Proc (name "q" (node kind.Args (node kind.Ref (name "j" Nil) Nil) Nil)) Nil)))) (word kind.For "to" (name "k" (word kind.Number "1" Nil (word kind.Number "9" Nil (word kind.For "to" (name "k" (word kind.Number "1" Nil (word kind.Number "2" Nil (node kind.Empty Nil Nil)))) Nil)))) Nil))) Nil) Nil))))) Nil)))

holds11 : differs tree11 (entry (3 ∷ 5 ∷ 1 ∷ 1 ∷ 1 ∷ []) 19 "control variable is changed: i" ∷ entry (3 ∷ 5 ∷ 1 ∷ 2 ∷ 1 ∷ []) 19 "control variable is changed: j" ∷ entry (3 ∷ 5 ∷ 1 ∷ 3 ∷ 1 ∷ []) 19 "control variable is changed: k" ∷ []) ≡ Equal
unfolding differs
holds11 = refl

-- Row 19 at width and value of a write: no change.
--   program p; var i: integer; begin for i := 1 to 9 do write(i:i) end.
abbrev tree12 : Plain
tree12 = program (name "p" (node kind.Heads Nil (node kind.Block (node kind.Consts Nil (node kind.Types Nil (node kind.Vars (node kind.Vardef (node kind.Names (name "i" Nil) (node kind.Tname (name "integer" Nil) Nil)) Nil) (node kind.Routines Nil (node kind.Compound (node kind.Stmts (word kind.For "to" (name "i" (word kind.Number "1" Nil (word kind.Number "9" Nil (node kind.Proc (name "write" (node kind.Args (node kind.Width (node kind.Ref (name "i" Nil) (node kind.Ref (name "i" Nil) Nil)) Nil) Nil)) Nil)))) Nil) Nil) Nil))))) Nil)))

holds12 : differs tree12 ([]) ≡ Equal
unfolding differs
holds12 = refl
