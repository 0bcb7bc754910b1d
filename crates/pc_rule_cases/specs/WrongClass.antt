-- Names whose use needs another class: programs with the errors that they have.
use Rattle.std.specs.Prelude.{◌≡◌, [], ◌∷◌}
use Rattle.std.proofs.Common.{refl}
use Rattle.pc_syntax.specs.Plain.{Nil, Plain}
use Rattle.pc_syntax.specs.declared.kind.Kind.TheVariants as kind
use Rattle.pc_syntax.specs.declared.sort.Sort.TheVariants as sort
use Rattle.pc_rule_cases.specs.Trees.{program, node, name, word}
use Rattle.pc_rule_cases.specs.Compare.{Equal, entry, differs}

-- Row 4: not a constant, in a definition, a bound and a label.
--   program p; var v: integer; w: 1..v; begin case v of v: ; integer: end end.
abbrev tree1 : Plain
tree1 = program (name "p" (node kind.Heads Nil (node kind.Block (node kind.Consts Nil (node kind.Types Nil (node kind.Vars (node kind.Vardef (node kind.Names (name "v" Nil) (node kind.Tname (name "integer" Nil) Nil)) (node kind.Vardef (node kind.Names (name "w" Nil) (node kind.Subrange (word kind.Cnumber "1" Nil (node kind.Cname (name "v" Nil) Nil)) Nil)) Nil)) (node kind.Routines Nil (node kind.Compound (node kind.Stmts (node kind.Case (node kind.Ref (name "v" Nil) (node kind.Arms (node kind.Arm (node kind.Labels (node kind.Cname (name "v" Nil) Nil) (node kind.Empty Nil Nil)) (node kind.Arm (node kind.Labels (node kind.Cname (name "integer" Nil) Nil) (node kind.Empty Nil Nil)) Nil)) Nil)) Nil) Nil) Nil))))) Nil)))

holds1 : differs tree1 (entry (3 ∷ 3 ∷ 2 ∷ 2 ∷ 2 ∷ 1 ∷ []) 4 "not a constant: v" ∷ entry (3 ∷ 5 ∷ 1 ∷ 1 ∷ 2 ∷ 1 ∷ 1 ∷ 1 ∷ 1 ∷ []) 4 "not a constant: v" ∷ entry (3 ∷ 5 ∷ 1 ∷ 1 ∷ 2 ∷ 2 ∷ 1 ∷ 1 ∷ 1 ∷ []) 4 "not a constant: integer" ∷ []) ≡ Equal
unfolding differs
holds1 = refl

-- Row 4 needs the record's type: a record with a hole has none, so no `not a field`.
--   program p; var r: record a: ?type end; begin r.b := 1 end.
abbrev tree2 : Plain
tree2 = program (name "p" (node kind.Heads Nil (node kind.Block (node kind.Consts Nil (node kind.Types Nil (node kind.Vars (node kind.Vardef (node kind.Names (name "r" Nil) (node kind.Record (node kind.Fields (node kind.Field (node kind.Names (name "a" Nil) (node (kind.Hole sort.Denoter) Nil Nil)) Nil) Nil) Nil)) Nil) (node kind.Routines Nil (node kind.Compound (node kind.Stmts (node kind.Assign (node kind.Select (node kind.Ref (name "r" Nil) (name "b" Nil)) (word kind.Number "1" Nil Nil)) Nil) Nil) Nil))))) Nil)))

holds2 : differs tree2 ([]) ≡ Equal
unfolding differs
holds2 = refl

-- Row 4: not a field; the entry is at the name after the point.
--   program p; var r: record a: integer end; begin r.b := 1; r.A := 2 end.
abbrev tree3 : Plain
tree3 = program (name "p" (node kind.Heads Nil (node kind.Block (node kind.Consts Nil (node kind.Types Nil (node kind.Vars (node kind.Vardef (node kind.Names (name "r" Nil) (node kind.Record (node kind.Fields (node kind.Field (node kind.Names (name "a" Nil) (node kind.Tname (name "integer" Nil) Nil)) Nil) Nil) Nil)) Nil) (node kind.Routines Nil (node kind.Compound (node kind.Stmts (node kind.Assign (node kind.Select (node kind.Ref (name "r" Nil) (name "b" Nil)) (word kind.Number "1" Nil Nil)) (node kind.Assign (node kind.Select (node kind.Ref (name "r" Nil) (name "A" Nil)) (word kind.Number "2" Nil Nil)) Nil)) Nil) Nil))))) Nil)))

holds3 : differs tree3 (entry (3 ∷ 5 ∷ 1 ∷ 1 ∷ 1 ∷ 2 ∷ []) 4 "not a field: b" ∷ []) ≡ Equal
unfolding differs
holds3 = refl

-- Row 4: output where input is needed, and input where output is.
--   program p; var x: integer; begin read(output, x); write(input, 1); if eof(output) then; if eoln(input) then end.
abbrev tree4 : Plain
tree4 = program (name "p" (node kind.Heads Nil (node kind.Block (node kind.Consts Nil (node kind.Types Nil (node kind.Vars (node kind.Vardef (node kind.Names (name "x" Nil) (node kind.Tname (name "integer" Nil) Nil)) Nil) (node kind.Routines Nil (node kind.Compound (node kind.Stmts (node kind.Proc (name "read" (node kind.Args (node kind.Ref (name "output" Nil) (node kind.Ref (name "x" Nil) Nil)) Nil)) (node kind.Proc (name "write" (node kind.Args (node kind.Ref (name "input" Nil) (word kind.Number "1" Nil Nil)) Nil)) (node kind.If (node kind.Call (name "eof" (node kind.Exprs (node kind.Ref (name "output" Nil) Nil) Nil)) (node kind.Empty Nil Nil)) (node kind.If (node kind.Call (name "eoln" (node kind.Exprs (node kind.Ref (name "input" Nil) Nil) Nil)) (node kind.Empty Nil Nil)) Nil)))) Nil) Nil))))) Nil)))

holds4 : differs tree4 (entry (3 ∷ 5 ∷ 1 ∷ 1 ∷ 2 ∷ 1 ∷ 1 ∷ []) 4 "not a variable: output" ∷ entry (3 ∷ 5 ∷ 1 ∷ 2 ∷ 2 ∷ 1 ∷ 1 ∷ []) 4 "not a variable: input" ∷ entry (3 ∷ 5 ∷ 1 ∷ 3 ∷ 1 ∷ 2 ∷ 1 ∷ 1 ∷ []) 4 "not a variable: output" ∷ []) ≡ Equal
unfolding differs
holds4 = refl

-- Row 4: not a function, written with arguments.
--   program p; var x: integer; procedure q(a: integer); begin end; begin x := x(1); x := q(2); x := integer(3); x := write(4) end.
abbrev tree5 : Plain
tree5 = program (name "p" (node kind.Heads Nil (node kind.Block (node kind.Consts Nil (node kind.Types Nil (node kind.Vars (node kind.Vardef (node kind.Names (name "x" Nil) (node kind.Tname (name "integer" Nil) Nil)) Nil) (node kind.Routines (node kind.Procedure (name "q" (node kind.Params (node kind.Valparam (node kind.Names (name "a" Nil) (name "integer" Nil)) Nil) (node kind.Block (node kind.Consts Nil (node kind.Types Nil (node kind.Vars Nil (node kind.Routines Nil (node kind.Compound (node kind.Stmts (node kind.Empty Nil Nil) Nil) Nil))))) Nil))) Nil) (node kind.Compound (node kind.Stmts (node kind.Assign (node kind.Ref (name "x" Nil) (node kind.Call (name "x" (node kind.Exprs (word kind.Number "1" Nil Nil) Nil)) Nil)) (node kind.Assign (node kind.Ref (name "x" Nil) (node kind.Call (name "q" (node kind.Exprs (word kind.Number "2" Nil Nil) Nil)) Nil)) (node kind.Assign (node kind.Ref (name "x" Nil) (node kind.Call (name "integer" (node kind.Exprs (word kind.Number "3" Nil Nil) Nil)) Nil)) (node kind.Assign (node kind.Ref (name "x" Nil) (node kind.Call (name "write" (node kind.Exprs (word kind.Number "4" Nil Nil) Nil)) Nil)) Nil)))) Nil) Nil))))) Nil)))

holds5 : differs tree5 (entry (3 ∷ 5 ∷ 1 ∷ 1 ∷ 2 ∷ 1 ∷ []) 4 "not a function: x" ∷ entry (3 ∷ 5 ∷ 1 ∷ 2 ∷ 2 ∷ 1 ∷ []) 4 "not a function: q" ∷ entry (3 ∷ 5 ∷ 1 ∷ 3 ∷ 2 ∷ 1 ∷ []) 4 "not a function: integer" ∷ entry (3 ∷ 5 ∷ 1 ∷ 4 ∷ 2 ∷ 1 ∷ []) 4 "not a function: write" ∷ []) ≡ Equal
unfolding differs
holds5 = refl

-- Row 4: a parameter hides the type of that name in the body, not in the heading.
--   program p; type t = integer; procedure q(t: t; u: t); var v: t; begin t := u end; begin q(1, 2) end.
abbrev tree6 : Plain
tree6 = program (name "p" (node kind.Heads Nil (node kind.Block (node kind.Consts Nil (node kind.Types (node kind.Typedef (name "t" (node kind.Tname (name "integer" Nil) Nil)) Nil) (node kind.Vars Nil (node kind.Routines (node kind.Procedure (name "q" (node kind.Params (node kind.Valparam (node kind.Names (name "t" Nil) (name "t" Nil)) (node kind.Valparam (node kind.Names (name "u" Nil) (name "t" Nil)) Nil)) (node kind.Block (node kind.Consts Nil (node kind.Types Nil (node kind.Vars (node kind.Vardef (node kind.Names (name "v" Nil) (node kind.Tname (name "t" Nil) Nil)) Nil) (node kind.Routines Nil (node kind.Compound (node kind.Stmts (node kind.Assign (node kind.Ref (name "t" Nil) (node kind.Ref (name "u" Nil) Nil)) Nil) Nil) Nil))))) Nil))) Nil) (node kind.Compound (node kind.Stmts (node kind.Proc (name "q" (node kind.Args (word kind.Number "1" Nil (word kind.Number "2" Nil Nil)) Nil)) Nil) Nil) Nil))))) Nil)))

holds6 : differs tree6 (entry (3 ∷ 4 ∷ 1 ∷ 3 ∷ 3 ∷ 1 ∷ 2 ∷ 1 ∷ []) 4 "not a type: t" ∷ []) ≡ Equal
unfolding differs
holds6 = refl

-- Row 4 at a label that a with makes a field.
--   program p; const c = 1; var r: record c: integer end; begin with r do case c of c: end end.
abbrev tree7 : Plain
tree7 = program (name "p" (node kind.Heads Nil (node kind.Block (node kind.Consts (node kind.Constdef (name "c" (word kind.Cnumber "1" Nil Nil)) Nil) (node kind.Types Nil (node kind.Vars (node kind.Vardef (node kind.Names (name "r" Nil) (node kind.Record (node kind.Fields (node kind.Field (node kind.Names (name "c" Nil) (node kind.Tname (name "integer" Nil) Nil)) Nil) Nil) Nil)) Nil) (node kind.Routines Nil (node kind.Compound (node kind.Stmts (node kind.With (node kind.Accesses (node kind.Ref (name "r" Nil) Nil) (node kind.Case (node kind.Ref (name "c" Nil) (node kind.Arms (node kind.Arm (node kind.Labels (node kind.Cname (name "c" Nil) Nil) (node kind.Empty Nil Nil)) Nil) Nil)) Nil)) Nil) Nil) Nil))))) Nil)))

holds7 : differs tree7 (entry (3 ∷ 5 ∷ 1 ∷ 1 ∷ 2 ∷ 2 ∷ 1 ∷ 1 ∷ 1 ∷ 1 ∷ []) 4 "not a constant: c" ∷ []) ≡ Equal
unfolding differs
holds7 = refl

-- Row 4: the outer function's name as a target in an inner routine; the own block is the block without the routines in it.
--   program p; function f: integer; procedure q; begin f := 1 end; begin f := 2; q end; begin write(f) end.
abbrev tree8 : Plain
tree8 = program (name "p" (node kind.Heads Nil (node kind.Block (node kind.Consts Nil (node kind.Types Nil (node kind.Vars Nil (node kind.Routines (node kind.Function (name "f" (node kind.Params Nil (name "integer" (node kind.Block (node kind.Consts Nil (node kind.Types Nil (node kind.Vars Nil (node kind.Routines (node kind.Procedure (name "q" (node kind.Params Nil (node kind.Block (node kind.Consts Nil (node kind.Types Nil (node kind.Vars Nil (node kind.Routines Nil (node kind.Compound (node kind.Stmts (node kind.Assign (node kind.Ref (name "f" Nil) (word kind.Number "1" Nil Nil)) Nil) Nil) Nil))))) Nil))) Nil) (node kind.Compound (node kind.Stmts (node kind.Assign (node kind.Ref (name "f" Nil) (word kind.Number "2" Nil Nil)) (node kind.Proc (name "q" (node kind.Args Nil Nil)) Nil)) Nil) Nil))))) Nil)))) Nil) (node kind.Compound (node kind.Stmts (node kind.Proc (name "write" (node kind.Args (node kind.Ref (name "f" Nil) Nil) Nil)) Nil) Nil) Nil))))) Nil)))

holds8 : differs tree8 (entry (3 ∷ 4 ∷ 1 ∷ 4 ∷ 4 ∷ 1 ∷ 3 ∷ 5 ∷ 1 ∷ 1 ∷ 1 ∷ 1 ∷ []) 4 "not a variable: f" ∷ []) ≡ Equal
unfolding differs
holds8 = refl

-- Row 4, the neighbour: the own function's name as a target.
--   program p; function f(n: integer): integer; begin if n > 0 then f := 1 else f := 0 end; begin write(f(1)) end.
abbrev tree9 : Plain
tree9 = program (name "p" (node kind.Heads Nil (node kind.Block (node kind.Consts Nil (node kind.Types Nil (node kind.Vars Nil (node kind.Routines (node kind.Function (name "f" (node kind.Params (node kind.Valparam (node kind.Names (name "n" Nil) (name "integer" Nil)) Nil) (name "integer" (node kind.Block (node kind.Consts Nil (node kind.Types Nil (node kind.Vars Nil (node kind.Routines Nil (node kind.Compound (node kind.Stmts (node kind.Ifelse (word kind.Rel ">" (node kind.Ref (name "n" Nil) (word kind.Number "0" Nil Nil)) (node kind.Assign (node kind.Ref (name "f" Nil) (word kind.Number "1" Nil Nil)) (node kind.Assign (node kind.Ref (name "f" Nil) (word kind.Number "0" Nil Nil)) Nil))) Nil) Nil) Nil))))) Nil)))) Nil) (node kind.Compound (node kind.Stmts (node kind.Proc (name "write" (node kind.Args (node kind.Call (name "f" (node kind.Exprs (word kind.Number "1" Nil Nil) Nil)) Nil) Nil)) Nil) Nil) Nil))))) Nil)))

holds9 : differs tree9 ([]) ≡ Equal
unfolding differs
holds9 = refl

-- Row 4: not a procedure.
--   program p; var x: integer; function f(a: integer): integer; begin f := a end; begin x; f(1); abs(2); maxint end.
abbrev tree10 : Plain
tree10 = program (name "p" (node kind.Heads Nil (node kind.Block (node kind.Consts Nil (node kind.Types Nil (node kind.Vars (node kind.Vardef (node kind.Names (name "x" Nil) (node kind.Tname (name "integer" Nil) Nil)) Nil) (node kind.Routines (node kind.Function (name "f" (node kind.Params (node kind.Valparam (node kind.Names (name "a" Nil) (name "integer" Nil)) Nil) (name "integer" (node kind.Block (node kind.Consts Nil (node kind.Types Nil (node kind.Vars Nil (node kind.Routines Nil (node kind.Compound (node kind.Stmts (node kind.Assign (node kind.Ref (name "f" Nil) (node kind.Ref (name "a" Nil) Nil)) Nil) Nil) Nil))))) Nil)))) Nil) (node kind.Compound (node kind.Stmts (node kind.Proc (name "x" (node kind.Args Nil Nil)) (node kind.Proc (name "f" (node kind.Args (word kind.Number "1" Nil Nil) Nil)) (node kind.Proc (name "abs" (node kind.Args (word kind.Number "2" Nil Nil) Nil)) (node kind.Proc (name "maxint" (node kind.Args Nil Nil)) Nil)))) Nil) Nil))))) Nil)))

holds10 : differs tree10 (entry (3 ∷ 5 ∷ 1 ∷ 1 ∷ 1 ∷ []) 4 "not a procedure: x" ∷ entry (3 ∷ 5 ∷ 1 ∷ 2 ∷ 1 ∷ []) 4 "not a procedure: f" ∷ entry (3 ∷ 5 ∷ 1 ∷ 3 ∷ 1 ∷ []) 4 "not a procedure: abs" ∷ entry (3 ∷ 5 ∷ 1 ∷ 4 ∷ 1 ∷ []) 4 "not a procedure: maxint" ∷ []) ≡ Equal
unfolding differs
holds10 = refl

-- Row 4: not a type, of a variable, a parameter and a result.
--   program p; var v: integer; x: v; procedure q(a: maxint); begin end; function f: q; begin f := 1 end; begin end.
abbrev tree11 : Plain
tree11 = program (name "p" (node kind.Heads Nil (node kind.Block (node kind.Consts Nil (node kind.Types Nil (node kind.Vars (node kind.Vardef (node kind.Names (name "v" Nil) (node kind.Tname (name "integer" Nil) Nil)) (node kind.Vardef (node kind.Names (name "x" Nil) (node kind.Tname (name "v" Nil) Nil)) Nil)) (node kind.Routines (node kind.Procedure (name "q" (node kind.Params (node kind.Valparam (node kind.Names (name "a" Nil) (name "maxint" Nil)) Nil) (node kind.Block (node kind.Consts Nil (node kind.Types Nil (node kind.Vars Nil (node kind.Routines Nil (node kind.Compound (node kind.Stmts (node kind.Empty Nil Nil) Nil) Nil))))) Nil))) (node kind.Function (name "f" (node kind.Params Nil (name "q" (node kind.Block (node kind.Consts Nil (node kind.Types Nil (node kind.Vars Nil (node kind.Routines Nil (node kind.Compound (node kind.Stmts (node kind.Assign (node kind.Ref (name "f" Nil) (word kind.Number "1" Nil Nil)) Nil) Nil) Nil))))) Nil)))) Nil)) (node kind.Compound (node kind.Stmts (node kind.Empty Nil Nil) Nil) Nil))))) Nil)))

holds11 : differs tree11 (entry (3 ∷ 3 ∷ 2 ∷ 2 ∷ 1 ∷ []) 4 "not a type: v" ∷ entry (3 ∷ 4 ∷ 1 ∷ 2 ∷ 1 ∷ 2 ∷ []) 4 "not a type: maxint" ∷ entry (3 ∷ 4 ∷ 2 ∷ 3 ∷ []) 4 "not a type: q" ∷ []) ≡ Equal
unfolding differs
holds11 = refl

-- Row 4: a type, a procedure, a required procedure or file as a value is `not a variable`.
--   program p; var x: integer; procedure q; begin end; begin x := integer; x := q; x := write; x := output end.
abbrev tree12 : Plain
tree12 = program (name "p" (node kind.Heads Nil (node kind.Block (node kind.Consts Nil (node kind.Types Nil (node kind.Vars (node kind.Vardef (node kind.Names (name "x" Nil) (node kind.Tname (name "integer" Nil) Nil)) Nil) (node kind.Routines (node kind.Procedure (name "q" (node kind.Params Nil (node kind.Block (node kind.Consts Nil (node kind.Types Nil (node kind.Vars Nil (node kind.Routines Nil (node kind.Compound (node kind.Stmts (node kind.Empty Nil Nil) Nil) Nil))))) Nil))) Nil) (node kind.Compound (node kind.Stmts (node kind.Assign (node kind.Ref (name "x" Nil) (node kind.Ref (name "integer" Nil) Nil)) (node kind.Assign (node kind.Ref (name "x" Nil) (node kind.Ref (name "q" Nil) Nil)) (node kind.Assign (node kind.Ref (name "x" Nil) (node kind.Ref (name "write" Nil) Nil)) (node kind.Assign (node kind.Ref (name "x" Nil) (node kind.Ref (name "output" Nil) Nil)) Nil)))) Nil) Nil))))) Nil)))

holds12 : differs tree12 (entry (3 ∷ 5 ∷ 1 ∷ 1 ∷ 2 ∷ 1 ∷ []) 4 "not a variable: integer" ∷ entry (3 ∷ 5 ∷ 1 ∷ 2 ∷ 2 ∷ 1 ∷ []) 4 "not a variable: q" ∷ entry (3 ∷ 5 ∷ 1 ∷ 3 ∷ 2 ∷ 1 ∷ []) 4 "not a variable: write" ∷ entry (3 ∷ 5 ∷ 1 ∷ 4 ∷ 2 ∷ 1 ∷ []) 4 "not a variable: output" ∷ []) ≡ Equal
unfolding differs
holds12 = refl

-- Row 4: constants and functions where a variable is needed: var argument, read, with, base of a bracket, a point and ^.
--   program p; const c = 'ab'; function f: char; begin f := 'x' end; procedure q(var a: char); begin a := 'y' end; begin q(f); read(f); write(c[1]);
--   write(f^); with c do; write(c.x) end.
abbrev tree13 : Plain
tree13 = program (name "p" (node kind.Heads Nil (node kind.Block (node kind.Consts (node kind.Constdef (name "c" (word kind.Cstring "'ab'" Nil Nil)) Nil) (node kind.Types Nil (node kind.Vars Nil (node kind.Routines (node kind.Function (name "f" (node kind.Params Nil (name "char" (node kind.Block (node kind.Consts Nil (node kind.Types Nil (node kind.Vars Nil (node kind.Routines Nil (node kind.Compound (node kind.Stmts (node kind.Assign (node kind.Ref (name "f" Nil) (word kind.Text "'x'" Nil Nil)) Nil) Nil) Nil))))) Nil)))) (node kind.Procedure (name "q" (node kind.Params (node kind.Varparam (node kind.Names (name "a" Nil) (name "char" Nil)) Nil) (node kind.Block (node kind.Consts Nil (node kind.Types Nil (node kind.Vars Nil (node kind.Routines Nil (node kind.Compound (node kind.Stmts (node kind.Assign (node kind.Ref (name "a" Nil) (word kind.Text "'y'" Nil Nil)) Nil) Nil) Nil))))) Nil))) Nil)) (node kind.Compound (node kind.Stmts (node kind.Proc (name "q" (node kind.Args (node kind.Ref (name "f" Nil) Nil) Nil)) (node kind.Proc (name "read" (node kind.Args (node kind.Ref (name "f" Nil) Nil) Nil)) (node kind.Proc (name "write" (node kind.Args (node kind.Index (node kind.Ref (name "c" Nil) (node kind.Exprs (word kind.Number "1" Nil Nil) Nil)) Nil) Nil)) (node kind.Proc (name "write" (node kind.Args (node kind.Deref (node kind.Ref (name "f" Nil) Nil) Nil) Nil)) (node kind.With (node kind.Accesses (node kind.Ref (name "c" Nil) Nil) (node kind.Empty Nil Nil)) (node kind.Proc (name "write" (node kind.Args (node kind.Select (node kind.Ref (name "c" Nil) (name "x" Nil)) Nil) Nil)) Nil)))))) Nil) Nil))))) Nil)))

holds13 : differs tree13 (entry (3 ∷ 5 ∷ 1 ∷ 1 ∷ 2 ∷ 1 ∷ 1 ∷ []) 4 "not a variable: f" ∷ entry (3 ∷ 5 ∷ 1 ∷ 2 ∷ 2 ∷ 1 ∷ 1 ∷ []) 4 "not a variable: f" ∷ entry (3 ∷ 5 ∷ 1 ∷ 3 ∷ 2 ∷ 1 ∷ 1 ∷ 1 ∷ []) 4 "not a variable: c" ∷ entry (3 ∷ 5 ∷ 1 ∷ 4 ∷ 2 ∷ 1 ∷ 1 ∷ 1 ∷ []) 4 "not a variable: f" ∷ entry (3 ∷ 5 ∷ 1 ∷ 5 ∷ 1 ∷ 1 ∷ 1 ∷ []) 4 "not a variable: c" ∷ entry (3 ∷ 5 ∷ 1 ∷ 6 ∷ 2 ∷ 1 ∷ 1 ∷ 1 ∷ []) 4 "not a variable: c" ∷ []) ≡ Equal
unfolding differs
holds13 = refl

-- Row 4: a constant, a type, a procedure, a function as target.
--   program p; const c = 1; type t = char; procedure q; begin end; function f: integer; begin f := 1 end; begin c := 1; t := 2; q := 3; f := 4 end.
abbrev tree14 : Plain
tree14 = program (name "p" (node kind.Heads Nil (node kind.Block (node kind.Consts (node kind.Constdef (name "c" (word kind.Cnumber "1" Nil Nil)) Nil) (node kind.Types (node kind.Typedef (name "t" (node kind.Tname (name "char" Nil) Nil)) Nil) (node kind.Vars Nil (node kind.Routines (node kind.Procedure (name "q" (node kind.Params Nil (node kind.Block (node kind.Consts Nil (node kind.Types Nil (node kind.Vars Nil (node kind.Routines Nil (node kind.Compound (node kind.Stmts (node kind.Empty Nil Nil) Nil) Nil))))) Nil))) (node kind.Function (name "f" (node kind.Params Nil (name "integer" (node kind.Block (node kind.Consts Nil (node kind.Types Nil (node kind.Vars Nil (node kind.Routines Nil (node kind.Compound (node kind.Stmts (node kind.Assign (node kind.Ref (name "f" Nil) (word kind.Number "1" Nil Nil)) Nil) Nil) Nil))))) Nil)))) Nil)) (node kind.Compound (node kind.Stmts (node kind.Assign (node kind.Ref (name "c" Nil) (word kind.Number "1" Nil Nil)) (node kind.Assign (node kind.Ref (name "t" Nil) (word kind.Number "2" Nil Nil)) (node kind.Assign (node kind.Ref (name "q" Nil) (word kind.Number "3" Nil Nil)) (node kind.Assign (node kind.Ref (name "f" Nil) (word kind.Number "4" Nil Nil)) Nil)))) Nil) Nil))))) Nil)))

holds14 : differs tree14 (entry (3 ∷ 5 ∷ 1 ∷ 1 ∷ 1 ∷ 1 ∷ []) 4 "not a variable: c" ∷ entry (3 ∷ 5 ∷ 1 ∷ 2 ∷ 1 ∷ 1 ∷ []) 4 "not a variable: t" ∷ entry (3 ∷ 5 ∷ 1 ∷ 3 ∷ 1 ∷ 1 ∷ []) 4 "not a variable: q" ∷ entry (3 ∷ 5 ∷ 1 ∷ 4 ∷ 1 ∷ 1 ∷ []) 4 "not a variable: f" ∷ []) ≡ Equal
unfolding differs
holds14 = refl
