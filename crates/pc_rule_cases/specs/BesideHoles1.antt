-- Rules beside holes: programs with the errors that they have.
use Rattle.std.specs.Prelude.{◌≡◌, [], ◌∷◌}
use Rattle.std.proofs.Common.{refl}
use Rattle.pc_syntax.specs.Plain.{Nil, Plain}
use Rattle.pc_syntax.specs.declared.kind.Kind.TheVariants as kind
use Rattle.pc_syntax.specs.declared.sort.Sort.TheVariants as sort
use Rattle.pc_rule_cases.specs.Trees.{program, node, name, word}
use Rattle.pc_rule_cases.specs.Compare.{Equal, entry, differs}

-- A base that is a hole has no entry, one with an undeclared name row 1 alone; a hole beside doesn't keep row 9 away.
--   program p; type a = set of ?type; b = set of 0..?constant; c = set of -1..256; var d: set of t; e: set of 0..256; begin end.
abbrev tree1 : Plain
tree1 = program (name "p" (node kind.Heads Nil (node kind.Block (node kind.Consts Nil (node kind.Types (node kind.Typedef (name "a" (node kind.Setof (node (kind.Hole sort.Denoter) Nil Nil) Nil)) (node kind.Typedef (name "b" (node kind.Setof (node kind.Subrange (word kind.Cnumber "0" Nil (node (kind.Hole sort.Constant) Nil Nil)) Nil) Nil)) (node kind.Typedef (name "c" (node kind.Setof (node kind.Subrange (word kind.Csign "-" (word kind.Cnumber "1" Nil Nil) (word kind.Cnumber "256" Nil Nil)) Nil) Nil)) Nil))) (node kind.Vars (node kind.Vardef (node kind.Names (name "d" Nil) (node kind.Setof (node kind.Tname (name "t" Nil) Nil) Nil)) (node kind.Vardef (node kind.Names (name "e" Nil) (node kind.Setof (node kind.Subrange (word kind.Cnumber "0" Nil (word kind.Cnumber "256" Nil Nil)) Nil) Nil)) Nil)) (node kind.Routines Nil (node kind.Compound (node kind.Stmts (node kind.Empty Nil Nil) Nil) Nil))))) Nil)))

holds1 : differs tree1 (entry (3 ∷ 2 ∷ 3 ∷ 2 ∷ 1 ∷ []) 9 "set base too large" ∷ entry (3 ∷ 3 ∷ 1 ∷ 2 ∷ 1 ∷ 1 ∷ []) 1 "not declared: t" ∷ entry (3 ∷ 3 ∷ 2 ∷ 2 ∷ 1 ∷ []) 9 "set base too large" ∷ []) ≡ Equal
unfolding differs
holds1 = refl

-- A bound that is a constant without a value, and a base inside a record with a hole: what has no type has no further entry.
--   program p; const n = ?constant; var a: set of 0..n; b: record c: set of 200..300; d: ?type end; begin b.c := [1] end.
abbrev tree2 : Plain
tree2 = program (name "p" (node kind.Heads Nil (node kind.Block (node kind.Consts (node kind.Constdef (name "n" (node (kind.Hole sort.Constant) Nil Nil)) Nil) (node kind.Types Nil (node kind.Vars (node kind.Vardef (node kind.Names (name "a" Nil) (node kind.Setof (node kind.Subrange (word kind.Cnumber "0" Nil (node kind.Cname (name "n" Nil) Nil)) Nil) Nil)) (node kind.Vardef (node kind.Names (name "b" Nil) (node kind.Record (node kind.Fields (node kind.Field (node kind.Names (name "c" Nil) (node kind.Setof (node kind.Subrange (word kind.Cnumber "200" Nil (word kind.Cnumber "300" Nil Nil)) Nil) Nil)) (node kind.Field (node kind.Names (name "d" Nil) (node (kind.Hole sort.Denoter) Nil Nil)) Nil)) Nil) Nil)) Nil)) (node kind.Routines Nil (node kind.Compound (node kind.Stmts (node kind.Assign (node kind.Select (node kind.Ref (name "b" Nil) (name "c" Nil)) (node kind.Setcon (node kind.Members (word kind.Number "1" Nil Nil) Nil) Nil)) Nil) Nil) Nil))))) Nil)))

holds2 : differs tree2 (entry (3 ∷ 3 ∷ 2 ∷ 2 ∷ 1 ∷ 1 ∷ 2 ∷ 1 ∷ []) 9 "set base too large" ∷ []) ≡ Equal
unfolding differs
holds2 = refl

-- A type with a hole in it is not over the limit; an array inside is by itself.
--   program p; var a: array [0..1000000] of ?type; b: array [0..1000000] of char; c: array [?type] of array [0..1000000] of char; d: array [0..1000000] of
--   record e: ?type end; begin end.
abbrev tree3 : Plain
tree3 = program (name "p" (node kind.Heads Nil (node kind.Block (node kind.Consts Nil (node kind.Types Nil (node kind.Vars (node kind.Vardef (node kind.Names (name "a" Nil) (node kind.Array (node kind.Indexes (node kind.Subrange (word kind.Cnumber "0" Nil (word kind.Cnumber "1000000" Nil Nil)) Nil) (node (kind.Hole sort.Denoter) Nil Nil)) Nil)) (node kind.Vardef (node kind.Names (name "b" Nil) (node kind.Array (node kind.Indexes (node kind.Subrange (word kind.Cnumber "0" Nil (word kind.Cnumber "1000000" Nil Nil)) Nil) (node kind.Tname (name "char" Nil) Nil)) Nil)) (node kind.Vardef (node kind.Names (name "c" Nil) (node kind.Array (node kind.Indexes (node (kind.Hole sort.Denoter) Nil Nil) (node kind.Array (node kind.Indexes (node kind.Subrange (word kind.Cnumber "0" Nil (word kind.Cnumber "1000000" Nil Nil)) Nil) (node kind.Tname (name "char" Nil) Nil)) Nil)) Nil)) (node kind.Vardef (node kind.Names (name "d" Nil) (node kind.Array (node kind.Indexes (node kind.Subrange (word kind.Cnumber "0" Nil (word kind.Cnumber "1000000" Nil Nil)) Nil) (node kind.Record (node kind.Fields (node kind.Field (node kind.Names (name "e" Nil) (node (kind.Hole sort.Denoter) Nil Nil)) Nil) Nil) Nil)) Nil)) Nil)))) (node kind.Routines Nil (node kind.Compound (node kind.Stmts (node kind.Empty Nil Nil) Nil) Nil))))) Nil)))

holds3 : differs tree3 (entry (3 ∷ 3 ∷ 2 ∷ 2 ∷ []) 10 "type too large" ∷ entry (3 ∷ 3 ∷ 3 ∷ 2 ∷ 2 ∷ []) 10 "type too large" ∷ []) ≡ Equal
unfolding differs
holds3 = refl

-- A pointer whose domain has a hole: in its own type part it counts by its own structure, behind it it has no type.
--   program p; type l = ^n; n = record v: ?type end; a = array [0..1000000] of l; var b: array [0..1000000] of l; begin end.
abbrev tree4 : Plain
tree4 = program (name "p" (node kind.Heads Nil (node kind.Block (node kind.Consts Nil (node kind.Types (node kind.Typedef (name "l" (node kind.Pointer (name "n" Nil) Nil)) (node kind.Typedef (name "n" (node kind.Record (node kind.Fields (node kind.Field (node kind.Names (name "v" Nil) (node (kind.Hole sort.Denoter) Nil Nil)) Nil) Nil) Nil)) (node kind.Typedef (name "a" (node kind.Array (node kind.Indexes (node kind.Subrange (word kind.Cnumber "0" Nil (word kind.Cnumber "1000000" Nil Nil)) Nil) (node kind.Tname (name "l" Nil) Nil)) Nil)) Nil))) (node kind.Vars (node kind.Vardef (node kind.Names (name "b" Nil) (node kind.Array (node kind.Indexes (node kind.Subrange (word kind.Cnumber "0" Nil (word kind.Cnumber "1000000" Nil Nil)) Nil) (node kind.Tname (name "l" Nil) Nil)) Nil)) Nil) (node kind.Routines Nil (node kind.Compound (node kind.Stmts (node kind.Empty Nil Nil) Nil) Nil))))) Nil)))

holds4 : differs tree4 (entry (3 ∷ 2 ∷ 3 ∷ 2 ∷ []) 10 "type too large" ∷ []) ≡ Equal
unfolding differs
holds4 = refl

-- A hole may be a variable; an expression with a hole in it is none.
--   program p; var x: integer; procedure q(var a: integer; b: integer); begin end; begin q(?expression, 1); q(x + ?expression, ?expression);
--   q((?expression), x); read(?expression, x + ?expression, [?expression]); new(?expression) end.
abbrev tree5 : Plain
tree5 = program (name "p" (node kind.Heads Nil (node kind.Block (node kind.Consts Nil (node kind.Types Nil (node kind.Vars (node kind.Vardef (node kind.Names (name "x" Nil) (node kind.Tname (name "integer" Nil) Nil)) Nil) (node kind.Routines (node kind.Procedure (name "q" (node kind.Params (node kind.Varparam (node kind.Names (name "a" Nil) (name "integer" Nil)) (node kind.Valparam (node kind.Names (name "b" Nil) (name "integer" Nil)) Nil)) (node kind.Block (node kind.Consts Nil (node kind.Types Nil (node kind.Vars Nil (node kind.Routines Nil (node kind.Compound (node kind.Stmts (node kind.Empty Nil Nil) Nil) Nil))))) Nil))) Nil) (node kind.Compound (node kind.Stmts (node kind.Proc (name "q" (node kind.Args (node (kind.Hole sort.Expression) Nil (word kind.Number "1" Nil Nil)) Nil)) (node kind.Proc (name "q" (node kind.Args (word kind.Add "+" (node kind.Ref (name "x" Nil) (node (kind.Hole sort.Expression) Nil Nil)) (node (kind.Hole sort.Expression) Nil Nil)) Nil)) (node kind.Proc (name "q" (node kind.Args (node kind.Parens (node (kind.Hole sort.Expression) Nil Nil) (node kind.Ref (name "x" Nil) Nil)) Nil)) (node kind.Proc (name "read" (node kind.Args (node (kind.Hole sort.Expression) Nil (word kind.Add "+" (node kind.Ref (name "x" Nil) (node (kind.Hole sort.Expression) Nil Nil)) (node kind.Setcon (node kind.Members (node (kind.Hole sort.Expression) Nil Nil) Nil) Nil))) Nil)) (node kind.Proc (name "new" (node kind.Args (node (kind.Hole sort.Expression) Nil Nil) Nil)) Nil))))) Nil) Nil))))) Nil)))

holds5 : differs tree5 (entry (3 ∷ 5 ∷ 1 ∷ 2 ∷ 2 ∷ 1 ∷ []) 13 "not a variable" ∷ entry (3 ∷ 5 ∷ 1 ∷ 3 ∷ 2 ∷ 1 ∷ []) 13 "not a variable" ∷ entry (3 ∷ 5 ∷ 1 ∷ 4 ∷ 2 ∷ 2 ∷ []) 13 "not a variable" ∷ entry (3 ∷ 5 ∷ 1 ∷ 4 ∷ 2 ∷ 3 ∷ []) 13 "not a variable" ∷ []) ≡ Equal
unfolding differs
holds5 = refl

-- A hole as an index or a field leaves a component one of something packed; a record with a hole in it has no type.
--   program p; var a: array [1..2] of integer; b: packed array [1..2] of integer; c: packed record d: integer; e: ?type end; f: packed record g: integer
--   end; procedure q(var x: integer); begin end; begin q(a[?expression]); q(b[?expression]); q(c.d); q(f.?name); q(f.g) end.
abbrev tree6 : Plain
tree6 = program (name "p" (node kind.Heads Nil (node kind.Block (node kind.Consts Nil (node kind.Types Nil (node kind.Vars (node kind.Vardef (node kind.Names (name "a" Nil) (node kind.Array (node kind.Indexes (node kind.Subrange (word kind.Cnumber "1" Nil (word kind.Cnumber "2" Nil Nil)) Nil) (node kind.Tname (name "integer" Nil) Nil)) Nil)) (node kind.Vardef (node kind.Names (name "b" Nil) (node kind.Packed (node kind.Array (node kind.Indexes (node kind.Subrange (word kind.Cnumber "1" Nil (word kind.Cnumber "2" Nil Nil)) Nil) (node kind.Tname (name "integer" Nil) Nil)) Nil) Nil)) (node kind.Vardef (node kind.Names (name "c" Nil) (node kind.Packed (node kind.Record (node kind.Fields (node kind.Field (node kind.Names (name "d" Nil) (node kind.Tname (name "integer" Nil) Nil)) (node kind.Field (node kind.Names (name "e" Nil) (node (kind.Hole sort.Denoter) Nil Nil)) Nil)) Nil) Nil) Nil)) (node kind.Vardef (node kind.Names (name "f" Nil) (node kind.Packed (node kind.Record (node kind.Fields (node kind.Field (node kind.Names (name "g" Nil) (node kind.Tname (name "integer" Nil) Nil)) Nil) Nil) Nil) Nil)) Nil)))) (node kind.Routines (node kind.Procedure (name "q" (node kind.Params (node kind.Varparam (node kind.Names (name "x" Nil) (name "integer" Nil)) Nil) (node kind.Block (node kind.Consts Nil (node kind.Types Nil (node kind.Vars Nil (node kind.Routines Nil (node kind.Compound (node kind.Stmts (node kind.Empty Nil Nil) Nil) Nil))))) Nil))) Nil) (node kind.Compound (node kind.Stmts (node kind.Proc (name "q" (node kind.Args (node kind.Index (node kind.Ref (name "a" Nil) (node kind.Exprs (node (kind.Hole sort.Expression) Nil Nil) Nil)) Nil) Nil)) (node kind.Proc (name "q" (node kind.Args (node kind.Index (node kind.Ref (name "b" Nil) (node kind.Exprs (node (kind.Hole sort.Expression) Nil Nil) Nil)) Nil) Nil)) (node kind.Proc (name "q" (node kind.Args (node kind.Select (node kind.Ref (name "c" Nil) (name "d" Nil)) Nil) Nil)) (node kind.Proc (name "q" (node kind.Args (node kind.Select (node kind.Ref (name "f" Nil) (node (kind.Hole sort.Name) Nil Nil)) Nil) Nil)) (node kind.Proc (name "q" (node kind.Args (node kind.Select (node kind.Ref (name "f" Nil) (name "g" Nil)) Nil) Nil)) Nil))))) Nil) Nil))))) Nil)))

holds6 : differs tree6 (entry (3 ∷ 5 ∷ 1 ∷ 2 ∷ 2 ∷ 1 ∷ []) 14 "component of a packed variable" ∷ entry (3 ∷ 5 ∷ 1 ∷ 4 ∷ 2 ∷ 1 ∷ []) 14 "component of a packed variable" ∷ entry (3 ∷ 5 ∷ 1 ∷ 5 ∷ 2 ∷ 1 ∷ []) 14 "component of a packed variable" ∷ []) ≡ Equal
unfolding differs
holds6 = refl

-- Fields of a packed record inside with; a with over a hole opens nothing.
--   program p; var f: packed record g: integer; h: array [1..2] of integer end; procedure q(var x: integer); begin end; begin with f do begin q(g);
--   q(h[?expression]); q(?expression) end; with ?expression do q(g) end.
abbrev tree7 : Plain
tree7 = program (name "p" (node kind.Heads Nil (node kind.Block (node kind.Consts Nil (node kind.Types Nil (node kind.Vars (node kind.Vardef (node kind.Names (name "f" Nil) (node kind.Packed (node kind.Record (node kind.Fields (node kind.Field (node kind.Names (name "g" Nil) (node kind.Tname (name "integer" Nil) Nil)) (node kind.Field (node kind.Names (name "h" Nil) (node kind.Array (node kind.Indexes (node kind.Subrange (word kind.Cnumber "1" Nil (word kind.Cnumber "2" Nil Nil)) Nil) (node kind.Tname (name "integer" Nil) Nil)) Nil)) Nil)) Nil) Nil) Nil)) Nil) (node kind.Routines (node kind.Procedure (name "q" (node kind.Params (node kind.Varparam (node kind.Names (name "x" Nil) (name "integer" Nil)) Nil) (node kind.Block (node kind.Consts Nil (node kind.Types Nil (node kind.Vars Nil (node kind.Routines Nil (node kind.Compound (node kind.Stmts (node kind.Empty Nil Nil) Nil) Nil))))) Nil))) Nil) (node kind.Compound (node kind.Stmts (node kind.With (node kind.Accesses (node kind.Ref (name "f" Nil) Nil) (node kind.Compound (node kind.Stmts (node kind.Proc (name "q" (node kind.Args (node kind.Ref (name "g" Nil) Nil) Nil)) (node kind.Proc (name "q" (node kind.Args (node kind.Index (node kind.Ref (name "h" Nil) (node kind.Exprs (node (kind.Hole sort.Expression) Nil Nil) Nil)) Nil) Nil)) (node kind.Proc (name "q" (node kind.Args (node (kind.Hole sort.Expression) Nil Nil) Nil)) Nil))) Nil) Nil)) (node kind.With (node kind.Accesses (node (kind.Hole sort.Expression) Nil Nil) (node kind.Proc (name "q" (node kind.Args (node kind.Ref (name "g" Nil) Nil) Nil)) Nil)) Nil)) Nil) Nil))))) Nil)))

holds7 : differs tree7 (entry (3 ∷ 5 ∷ 1 ∷ 1 ∷ 2 ∷ 1 ∷ 1 ∷ 2 ∷ 1 ∷ []) 14 "component of a packed variable" ∷ entry (3 ∷ 5 ∷ 1 ∷ 1 ∷ 2 ∷ 1 ∷ 2 ∷ 2 ∷ 1 ∷ []) 14 "component of a packed variable" ∷ entry (3 ∷ 5 ∷ 1 ∷ 2 ∷ 2 ∷ 2 ∷ 1 ∷ 1 ∷ []) 1 "not declared: g" ∷ []) ≡ Equal
unfolding differs
holds7 = refl

-- An index with an error, and one too many, beside a packed array.
--   program p; var a: packed array [1..2] of char; procedure q(var c: char); begin end; begin q(a[y]); q(a[?expression, 1]) end.
abbrev tree8 : Plain
tree8 = program (name "p" (node kind.Heads Nil (node kind.Block (node kind.Consts Nil (node kind.Types Nil (node kind.Vars (node kind.Vardef (node kind.Names (name "a" Nil) (node kind.Packed (node kind.Array (node kind.Indexes (node kind.Subrange (word kind.Cnumber "1" Nil (word kind.Cnumber "2" Nil Nil)) Nil) (node kind.Tname (name "char" Nil) Nil)) Nil) Nil)) Nil) (node kind.Routines (node kind.Procedure (name "q" (node kind.Params (node kind.Varparam (node kind.Names (name "c" Nil) (name "char" Nil)) Nil) (node kind.Block (node kind.Consts Nil (node kind.Types Nil (node kind.Vars Nil (node kind.Routines Nil (node kind.Compound (node kind.Stmts (node kind.Empty Nil Nil) Nil) Nil))))) Nil))) Nil) (node kind.Compound (node kind.Stmts (node kind.Proc (name "q" (node kind.Args (node kind.Index (node kind.Ref (name "a" Nil) (node kind.Exprs (node kind.Ref (name "y" Nil) Nil) Nil)) Nil) Nil)) (node kind.Proc (name "q" (node kind.Args (node kind.Index (node kind.Ref (name "a" Nil) (node kind.Exprs (node (kind.Hole sort.Expression) Nil (word kind.Number "1" Nil Nil)) Nil)) Nil) Nil)) Nil)) Nil) Nil))))) Nil)))

holds8 : differs tree8 (entry (3 ∷ 5 ∷ 1 ∷ 1 ∷ 2 ∷ 1 ∷ []) 14 "component of a packed variable" ∷ entry (3 ∷ 5 ∷ 1 ∷ 1 ∷ 2 ∷ 1 ∷ 2 ∷ 1 ∷ 1 ∷ []) 1 "not declared: y" ∷ entry (3 ∷ 5 ∷ 1 ∷ 2 ∷ 2 ∷ 1 ∷ []) 14 "component of a packed variable" ∷ entry (3 ∷ 5 ∷ 1 ∷ 2 ∷ 2 ∷ 1 ∷ 1 ∷ []) 15 "not an array" ∷ []) ≡ Equal
unfolding differs
holds8 = refl
