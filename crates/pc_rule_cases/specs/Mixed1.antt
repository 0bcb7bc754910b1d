-- Programs with many errors, and without: programs with the errors that they have.
use Rattle.std.specs.Prelude.{◌≡◌, [], ◌∷◌}
use Rattle.std.proofs.Common.{refl}
use Rattle.pc_syntax.specs.Plain.{Nil, Plain}
use Rattle.pc_syntax.specs.declared.kind.Kind.TheVariants as kind
use Rattle.pc_rule_cases.specs.Trees.{program, node, name, word}
use Rattle.pc_rule_cases.specs.Compare.{Equal, entry, differs}
use Rattle.pc_rule_cases.specs.Lookups.{HereAt, MissingAt, RequiredAt, query, first_wrong}

-- Program parameters other than input and output, in any spelling.
--   program a(input, foo, output, Foo); begin end.
abbrev tree1 : Plain
tree1 = program (name "a" (node kind.Heads (name "input" (name "foo" (name "output" (name "Foo" Nil)))) (node kind.Block (node kind.Consts Nil (node kind.Types Nil (node kind.Vars Nil (node kind.Routines Nil (node kind.Compound (node kind.Stmts (node kind.Empty Nil Nil) Nil) Nil))))) Nil)))

holds1 : differs tree1 (entry (2 ∷ 2 ∷ []) 25 "program parameter: foo" ∷ entry (2 ∷ 4 ∷ []) 25 "program parameter: Foo" ∷ []) ≡ Equal
unfolding differs
holds1 = refl

-- A number too large, signs before constants, constants by the names of others.
--   program a; const c = 2147483648; ch = 'x'; d = -ch; e = -c; f = d; g = -1; h = +g; k = -h; m = maxint; begin end.
abbrev tree2 : Plain
tree2 = program (name "a" (node kind.Heads Nil (node kind.Block (node kind.Consts (node kind.Constdef (name "c" (word kind.Cnumber "2147483648" Nil Nil)) (node kind.Constdef (name "ch" (word kind.Cstring "'x'" Nil Nil)) (node kind.Constdef (name "d" (word kind.Csign "-" (node kind.Cname (name "ch" Nil) Nil) Nil)) (node kind.Constdef (name "e" (word kind.Csign "-" (node kind.Cname (name "c" Nil) Nil) Nil)) (node kind.Constdef (name "f" (node kind.Cname (name "d" Nil) Nil)) (node kind.Constdef (name "g" (word kind.Csign "-" (word kind.Cnumber "1" Nil Nil) Nil)) (node kind.Constdef (name "h" (word kind.Csign "+" (node kind.Cname (name "g" Nil) Nil) Nil)) (node kind.Constdef (name "k" (word kind.Csign "-" (node kind.Cname (name "h" Nil) Nil) Nil)) (node kind.Constdef (name "m" (node kind.Cname (name "maxint" Nil) Nil)) Nil))))))))) (node kind.Types Nil (node kind.Vars Nil (node kind.Routines Nil (node kind.Compound (node kind.Stmts (node kind.Empty Nil Nil) Nil) Nil))))) Nil)))

holds2 : differs tree2 (entry (3 ∷ 1 ∷ 3 ∷ 2 ∷ []) 6 "not a number" ∷ []) ≡ Equal
unfolding differs
holds2 = refl

-- Own and later names in definitions, and the bounds of subranges.
--   program a; const c = c; d = e; e = 1; type t = record x: t end; u = 5..1; v = 'a'..3; w = 'ab'..'cd'; z = false..true; begin end.
abbrev tree3 : Plain
tree3 = program (name "a" (node kind.Heads Nil (node kind.Block (node kind.Consts (node kind.Constdef (name "c" (node kind.Cname (name "c" Nil) Nil)) (node kind.Constdef (name "d" (node kind.Cname (name "e" Nil) Nil)) (node kind.Constdef (name "e" (word kind.Cnumber "1" Nil Nil)) Nil))) (node kind.Types (node kind.Typedef (name "t" (node kind.Record (node kind.Fields (node kind.Field (node kind.Names (name "x" Nil) (node kind.Tname (name "t" Nil) Nil)) Nil) Nil) Nil)) (node kind.Typedef (name "u" (node kind.Subrange (word kind.Cnumber "5" Nil (word kind.Cnumber "1" Nil Nil)) Nil)) (node kind.Typedef (name "v" (node kind.Subrange (word kind.Cstring "'a'" Nil (word kind.Cnumber "3" Nil Nil)) Nil)) (node kind.Typedef (name "w" (node kind.Subrange (word kind.Cstring "'ab'" Nil (word kind.Cstring "'cd'" Nil Nil)) Nil)) (node kind.Typedef (name "z" (node kind.Subrange (node kind.Cname (name "false" Nil) (node kind.Cname (name "true" Nil) Nil)) Nil)) Nil))))) (node kind.Vars Nil (node kind.Routines Nil (node kind.Compound (node kind.Stmts (node kind.Empty Nil Nil) Nil) Nil))))) Nil)))

holds3 : differs tree3 (entry (3 ∷ 1 ∷ 1 ∷ 2 ∷ 1 ∷ []) 2 "used before its declaration: c" ∷ entry (3 ∷ 1 ∷ 2 ∷ 2 ∷ 1 ∷ []) 2 "used before its declaration: e" ∷ entry (3 ∷ 2 ∷ 1 ∷ 2 ∷ 1 ∷ 1 ∷ 2 ∷ 1 ∷ []) 2 "used before its declaration: t" ∷ entry (3 ∷ 2 ∷ 2 ∷ 2 ∷ []) 7 "bad bounds" ∷ entry (3 ∷ 2 ∷ 3 ∷ 2 ∷ []) 7 "bad bounds" ∷ entry (3 ∷ 2 ∷ 4 ∷ 2 ∷ []) 7 "bad bounds" ∷ []) ≡ Equal
unfolding differs
holds3 = refl

-- Index types, bases of sets, types over the limit of cells, parts without a type.
--   program a; type t = array [integer] of char; u = set of integer; v = set of 0..128; w = set of char; x = array [1..1000] of array [1..1001] of char; y
--   = set of t; z = array [w] of char; q = packed array [1..1000001] of char; r = record a: q; b: nope end; begin end.
abbrev tree4 : Plain
tree4 = program (name "a" (node kind.Heads Nil (node kind.Block (node kind.Consts Nil (node kind.Types (node kind.Typedef (name "t" (node kind.Array (node kind.Indexes (node kind.Tname (name "integer" Nil) Nil) (node kind.Tname (name "char" Nil) Nil)) Nil)) (node kind.Typedef (name "u" (node kind.Setof (node kind.Tname (name "integer" Nil) Nil) Nil)) (node kind.Typedef (name "v" (node kind.Setof (node kind.Subrange (word kind.Cnumber "0" Nil (word kind.Cnumber "128" Nil Nil)) Nil) Nil)) (node kind.Typedef (name "w" (node kind.Setof (node kind.Tname (name "char" Nil) Nil) Nil)) (node kind.Typedef (name "x" (node kind.Array (node kind.Indexes (node kind.Subrange (word kind.Cnumber "1" Nil (word kind.Cnumber "1000" Nil Nil)) Nil) (node kind.Array (node kind.Indexes (node kind.Subrange (word kind.Cnumber "1" Nil (word kind.Cnumber "1001" Nil Nil)) Nil) (node kind.Tname (name "char" Nil) Nil)) Nil)) Nil)) (node kind.Typedef (name "y" (node kind.Setof (node kind.Tname (name "t" Nil) Nil) Nil)) (node kind.Typedef (name "z" (node kind.Array (node kind.Indexes (node kind.Tname (name "w" Nil) Nil) (node kind.Tname (name "char" Nil) Nil)) Nil)) (node kind.Typedef (name "q" (node kind.Packed (node kind.Array (node kind.Indexes (node kind.Subrange (word kind.Cnumber "1" Nil (word kind.Cnumber "1000001" Nil Nil)) Nil) (node kind.Tname (name "char" Nil) Nil)) Nil) Nil)) (node kind.Typedef (name "r" (node kind.Record (node kind.Fields (node kind.Field (node kind.Names (name "a" Nil) (node kind.Tname (name "q" Nil) Nil)) (node kind.Field (node kind.Names (name "b" Nil) (node kind.Tname (name "nope" Nil) Nil)) Nil)) Nil) Nil)) Nil))))))))) (node kind.Vars Nil (node kind.Routines Nil (node kind.Compound (node kind.Stmts (node kind.Empty Nil Nil) Nil) Nil))))) Nil)))

holds4 : differs tree4 (entry (3 ∷ 2 ∷ 1 ∷ 2 ∷ []) 10 "type too large" ∷ entry (3 ∷ 2 ∷ 2 ∷ 2 ∷ 1 ∷ []) 9 "set base too large" ∷ entry (3 ∷ 2 ∷ 5 ∷ 2 ∷ []) 10 "type too large" ∷ entry (3 ∷ 2 ∷ 7 ∷ 2 ∷ 1 ∷ 1 ∷ []) 8 "not an ordinal type" ∷ entry (3 ∷ 2 ∷ 8 ∷ 2 ∷ 1 ∷ []) 10 "type too large" ∷ entry (3 ∷ 2 ∷ 9 ∷ 2 ∷ 1 ∷ 2 ∷ 2 ∷ 1 ∷ []) 1 "not declared: nope" ∷ []) ≡ Equal
unfolding differs
holds4 = refl

-- Assignments, conditions and operators whose types don't agree.
--   program a; var x, y: integer; b: boolean; c: char; begin x := c; b := x; if x then; while c do; repeat until 1; x := b + 1; x := -b; b := not x; x :=
--   1 div c; b := x = c; b := b < b; b := [1] < [2]; b := 1 in ['a']; b := 1 in []; b := [] = []; b := [1,'a'] = []; b := [[1]] = [] end.
abbrev tree5 : Plain
tree5 = program (name "a" (node kind.Heads Nil (node kind.Block (node kind.Consts Nil (node kind.Types Nil (node kind.Vars (node kind.Vardef (node kind.Names (name "x" (name "y" Nil)) (node kind.Tname (name "integer" Nil) Nil)) (node kind.Vardef (node kind.Names (name "b" Nil) (node kind.Tname (name "boolean" Nil) Nil)) (node kind.Vardef (node kind.Names (name "c" Nil) (node kind.Tname (name "char" Nil) Nil)) Nil))) (node kind.Routines Nil (node kind.Compound (node kind.Stmts (node kind.Assign (node kind.Ref (name "x" Nil) (node kind.Ref (name "c" Nil) Nil)) (node kind.Assign (node kind.Ref (name "b" Nil) (node kind.Ref (name "x" Nil) Nil)) (node kind.If (node kind.Ref (name "x" Nil) (node kind.Empty Nil Nil)) (node kind.While (node kind.Ref (name "c" Nil) (node kind.Empty Nil Nil)) (node kind.Repeat (node kind.Stmts (node kind.Empty Nil Nil) (word kind.Number "1" Nil Nil)) (node kind.Assign (node kind.Ref (name "x" Nil) (word kind.Add "+" (node kind.Ref (name "b" Nil) (word kind.Number "1" Nil Nil)) Nil)) (node kind.Assign (node kind.Ref (name "x" Nil) (word kind.Sign "-" (node kind.Ref (name "b" Nil) Nil) Nil)) (node kind.Assign (node kind.Ref (name "b" Nil) (node kind.Not (node kind.Ref (name "x" Nil) Nil) Nil)) (node kind.Assign (node kind.Ref (name "x" Nil) (word kind.Mul "div" (word kind.Number "1" Nil (node kind.Ref (name "c" Nil) Nil)) Nil)) (node kind.Assign (node kind.Ref (name "b" Nil) (word kind.Rel "=" (node kind.Ref (name "x" Nil) (node kind.Ref (name "c" Nil) Nil)) Nil)) (node kind.Assign (node kind.Ref (name "b" Nil) (word kind.Rel "<" (node kind.Ref (name "b" Nil) (node kind.Ref (name "b" Nil) Nil)) Nil)) (node kind.Assign (node kind.Ref (name "b" Nil) (word kind.Rel "<" (node kind.Setcon (node kind.Members (word kind.Number "1" Nil Nil) Nil) (node kind.Setcon (node kind.Members (word kind.Number "2" Nil Nil) Nil) Nil)) Nil)) (node kind.Assign (node kind.Ref (name "b" Nil) (word kind.Rel "in" (word kind.Number "1" Nil (node kind.Setcon (node kind.Members (word kind.Text "'a'" Nil Nil) Nil) Nil)) Nil)) (node kind.Assign (node kind.Ref (name "b" Nil) (word kind.Rel "in" (word kind.Number "1" Nil (node kind.Setcon (node kind.Members Nil Nil) Nil)) Nil)) (node kind.Assign (node kind.Ref (name "b" Nil) (word kind.Rel "=" (node kind.Setcon (node kind.Members Nil Nil) (node kind.Setcon (node kind.Members Nil Nil) Nil)) Nil)) (node kind.Assign (node kind.Ref (name "b" Nil) (word kind.Rel "=" (node kind.Setcon (node kind.Members (word kind.Number "1" Nil (word kind.Text "'a'" Nil Nil)) Nil) (node kind.Setcon (node kind.Members Nil Nil) Nil)) Nil)) (node kind.Assign (node kind.Ref (name "b" Nil) (word kind.Rel "=" (node kind.Setcon (node kind.Members (node kind.Setcon (node kind.Members (word kind.Number "1" Nil Nil) Nil) Nil) Nil) (node kind.Setcon (node kind.Members Nil Nil) Nil)) Nil)) Nil))))))))))))))))) Nil) Nil))))) Nil)))

holds5 : differs tree5 (entry (3 ∷ 5 ∷ 1 ∷ 1 ∷ []) 11 "types do not agree" ∷ entry (3 ∷ 5 ∷ 1 ∷ 2 ∷ []) 11 "types do not agree" ∷ entry (3 ∷ 5 ∷ 1 ∷ 3 ∷ 1 ∷ []) 17 "condition is not Boolean" ∷ entry (3 ∷ 5 ∷ 1 ∷ 4 ∷ 1 ∷ []) 17 "condition is not Boolean" ∷ entry (3 ∷ 5 ∷ 1 ∷ 5 ∷ 2 ∷ []) 17 "condition is not Boolean" ∷ entry (3 ∷ 5 ∷ 1 ∷ 6 ∷ 2 ∷ []) 11 "types do not agree" ∷ entry (3 ∷ 5 ∷ 1 ∷ 7 ∷ 2 ∷ []) 11 "types do not agree" ∷ entry (3 ∷ 5 ∷ 1 ∷ 8 ∷ 2 ∷ []) 11 "types do not agree" ∷ entry (3 ∷ 5 ∷ 1 ∷ 9 ∷ 2 ∷ []) 11 "types do not agree" ∷ entry (3 ∷ 5 ∷ 1 ∷ 10 ∷ 2 ∷ []) 11 "types do not agree" ∷ entry (3 ∷ 5 ∷ 1 ∷ 12 ∷ 2 ∷ []) 11 "types do not agree" ∷ entry (3 ∷ 5 ∷ 1 ∷ 13 ∷ 2 ∷ []) 11 "types do not agree" ∷ entry (3 ∷ 5 ∷ 1 ∷ 16 ∷ 2 ∷ 1 ∷ []) 11 "types do not agree" ∷ entry (3 ∷ 5 ∷ 1 ∷ 17 ∷ 2 ∷ 1 ∷ 1 ∷ 1 ∷ []) 8 "not an ordinal type" ∷ []) ≡ Equal
unfolding differs
holds5 = refl

-- Fields: twice in a record, missing, of what is no record; with over records.
--   program a; var r: record a: integer; a: char end; s: record b: integer end; x: integer; begin r.a := 1; s.b := 'x'; s.c := 1; x.b := 1; x[1] := 2;
--   s[1] := 1; with x do; with s, x do b := 'a'; with s do c := 1 end.
abbrev tree6 : Plain
tree6 = program (name "a" (node kind.Heads Nil (node kind.Block (node kind.Consts Nil (node kind.Types Nil (node kind.Vars (node kind.Vardef (node kind.Names (name "r" Nil) (node kind.Record (node kind.Fields (node kind.Field (node kind.Names (name "a" Nil) (node kind.Tname (name "integer" Nil) Nil)) (node kind.Field (node kind.Names (name "a" Nil) (node kind.Tname (name "char" Nil) Nil)) Nil)) Nil) Nil)) (node kind.Vardef (node kind.Names (name "s" Nil) (node kind.Record (node kind.Fields (node kind.Field (node kind.Names (name "b" Nil) (node kind.Tname (name "integer" Nil) Nil)) Nil) Nil) Nil)) (node kind.Vardef (node kind.Names (name "x" Nil) (node kind.Tname (name "integer" Nil) Nil)) Nil))) (node kind.Routines Nil (node kind.Compound (node kind.Stmts (node kind.Assign (node kind.Select (node kind.Ref (name "r" Nil) (name "a" Nil)) (word kind.Number "1" Nil Nil)) (node kind.Assign (node kind.Select (node kind.Ref (name "s" Nil) (name "b" Nil)) (word kind.Text "'x'" Nil Nil)) (node kind.Assign (node kind.Select (node kind.Ref (name "s" Nil) (name "c" Nil)) (word kind.Number "1" Nil Nil)) (node kind.Assign (node kind.Select (node kind.Ref (name "x" Nil) (name "b" Nil)) (word kind.Number "1" Nil Nil)) (node kind.Assign (node kind.Index (node kind.Ref (name "x" Nil) (node kind.Exprs (word kind.Number "1" Nil Nil) Nil)) (word kind.Number "2" Nil Nil)) (node kind.Assign (node kind.Index (node kind.Ref (name "s" Nil) (node kind.Exprs (word kind.Number "1" Nil Nil) Nil)) (word kind.Number "1" Nil Nil)) (node kind.With (node kind.Accesses (node kind.Ref (name "x" Nil) Nil) (node kind.Empty Nil Nil)) (node kind.With (node kind.Accesses (node kind.Ref (name "s" Nil) (node kind.Ref (name "x" Nil) Nil)) (node kind.Assign (node kind.Ref (name "b" Nil) (word kind.Text "'a'" Nil Nil)) Nil)) (node kind.With (node kind.Accesses (node kind.Ref (name "s" Nil) Nil) (node kind.Assign (node kind.Ref (name "c" Nil) (word kind.Number "1" Nil Nil)) Nil)) Nil))))))))) Nil) Nil))))) Nil)))

holds6 : differs tree6 (entry (3 ∷ 3 ∷ 1 ∷ 2 ∷ 1 ∷ 2 ∷ 1 ∷ 1 ∷ []) 3 "declared twice: a" ∷ entry (3 ∷ 5 ∷ 1 ∷ 2 ∷ []) 11 "types do not agree" ∷ entry (3 ∷ 5 ∷ 1 ∷ 3 ∷ 1 ∷ 2 ∷ []) 4 "not a field: c" ∷ entry (3 ∷ 5 ∷ 1 ∷ 4 ∷ 1 ∷ 1 ∷ []) 15 "not a record" ∷ entry (3 ∷ 5 ∷ 1 ∷ 5 ∷ 1 ∷ 1 ∷ []) 15 "not an array" ∷ entry (3 ∷ 5 ∷ 1 ∷ 6 ∷ 1 ∷ 1 ∷ []) 15 "not an array" ∷ entry (3 ∷ 5 ∷ 1 ∷ 7 ∷ 1 ∷ 1 ∷ []) 15 "not a record" ∷ entry (3 ∷ 5 ∷ 1 ∷ 8 ∷ 1 ∷ 2 ∷ []) 15 "not a record" ∷ entry (3 ∷ 5 ∷ 1 ∷ 8 ∷ 2 ∷ []) 11 "types do not agree" ∷ entry (3 ∷ 5 ∷ 1 ∷ 9 ∷ 2 ∷ 1 ∷ 1 ∷ []) 1 "not declared: c" ∷ []) ≡ Equal
unfolding differs
holds6 = refl

-- Calls with too few and too many arguments, of another class, by value and by variable.
--   program a; var x: integer; c: char; procedure p(a: integer; var b: integer); begin end; function f(a: char): char; begin f := a end; procedure q;
--   begin f := 'a'; q := 1 end; begin p; p(1); p(1, 2); p(1, x); p('a', c); p(1, (x)); p(x:2, x:2); p(1, x, 3); c := f; c := f('a', 1); x := f('a'); c :=
--   f(1); f('a'); f := 'a'; x := p; x := p(1); p := 1; x(1); c := x('a') end.
abbrev tree7 : Plain
tree7 = program (name "a" (node kind.Heads Nil (node kind.Block (node kind.Consts Nil (node kind.Types Nil (node kind.Vars (node kind.Vardef (node kind.Names (name "x" Nil) (node kind.Tname (name "integer" Nil) Nil)) (node kind.Vardef (node kind.Names (name "c" Nil) (node kind.Tname (name "char" Nil) Nil)) Nil)) (node kind.Routines (node kind.Procedure (name "p" (node kind.Params (node kind.Valparam (node kind.Names (name "a" Nil) (name "integer" Nil)) (node kind.Varparam (node kind.Names (name "b" Nil) (name "integer" Nil)) Nil)) (node kind.Block (node kind.Consts Nil (node kind.Types Nil (node kind.Vars Nil (node kind.Routines Nil (node kind.Compound (node kind.Stmts (node kind.Empty Nil Nil) Nil) Nil))))) Nil))) (node kind.Function (name "f" (node kind.Params (node kind.Valparam (node kind.Names (name "a" Nil) (name "char" Nil)) Nil) (name "char" (node kind.Block (node kind.Consts Nil (node kind.Types Nil (node kind.Vars Nil (node kind.Routines Nil (node kind.Compound (node kind.Stmts (node kind.Assign (node kind.Ref (name "f" Nil) (node kind.Ref (name "a" Nil) Nil)) Nil) Nil) Nil))))) Nil)))) (node kind.Procedure (name "q" (node kind.Params Nil (node kind.Block (node kind.Consts Nil (node kind.Types Nil (node kind.Vars Nil (node kind.Routines Nil (node kind.Compound (node kind.Stmts (node kind.Assign (node kind.Ref (name "f" Nil) (word kind.Text "'a'" Nil Nil)) (node kind.Assign (node kind.Ref (name "q" Nil) (word kind.Number "1" Nil Nil)) Nil)) Nil) Nil))))) Nil))) Nil))) (node kind.Compound (node kind.Stmts (node kind.Proc (name "p" (node kind.Args Nil Nil)) (node kind.Proc (name "p" (node kind.Args (word kind.Number "1" Nil Nil) Nil)) (node kind.Proc (name "p" (node kind.Args (word kind.Number "1" Nil (word kind.Number "2" Nil Nil)) Nil)) (node kind.Proc (name "p" (node kind.Args (word kind.Number "1" Nil (node kind.Ref (name "x" Nil) Nil)) Nil)) (node kind.Proc (name "p" (node kind.Args (word kind.Text "'a'" Nil (node kind.Ref (name "c" Nil) Nil)) Nil)) (node kind.Proc (name "p" (node kind.Args (word kind.Number "1" Nil (node kind.Parens (node kind.Ref (name "x" Nil) Nil) Nil)) Nil)) (node kind.Proc (name "p" (node kind.Args (node kind.Width (node kind.Ref (name "x" Nil) (word kind.Number "2" Nil Nil)) (node kind.Width (node kind.Ref (name "x" Nil) (word kind.Number "2" Nil Nil)) Nil)) Nil)) (node kind.Proc (name "p" (node kind.Args (word kind.Number "1" Nil (node kind.Ref (name "x" Nil) (word kind.Number "3" Nil Nil))) Nil)) (node kind.Assign (node kind.Ref (name "c" Nil) (node kind.Ref (name "f" Nil) Nil)) (node kind.Assign (node kind.Ref (name "c" Nil) (node kind.Call (name "f" (node kind.Exprs (word kind.Text "'a'" Nil (word kind.Number "1" Nil Nil)) Nil)) Nil)) (node kind.Assign (node kind.Ref (name "x" Nil) (node kind.Call (name "f" (node kind.Exprs (word kind.Text "'a'" Nil Nil) Nil)) Nil)) (node kind.Assign (node kind.Ref (name "c" Nil) (node kind.Call (name "f" (node kind.Exprs (word kind.Number "1" Nil Nil) Nil)) Nil)) (node kind.Proc (name "f" (node kind.Args (word kind.Text "'a'" Nil Nil) Nil)) (node kind.Assign (node kind.Ref (name "f" Nil) (word kind.Text "'a'" Nil Nil)) (node kind.Assign (node kind.Ref (name "x" Nil) (node kind.Ref (name "p" Nil) Nil)) (node kind.Assign (node kind.Ref (name "x" Nil) (node kind.Call (name "p" (node kind.Exprs (word kind.Number "1" Nil Nil) Nil)) Nil)) (node kind.Assign (node kind.Ref (name "p" Nil) (word kind.Number "1" Nil Nil)) (node kind.Proc (name "x" (node kind.Args (word kind.Number "1" Nil Nil) Nil)) (node kind.Assign (node kind.Ref (name "c" Nil) (node kind.Call (name "x" (node kind.Exprs (word kind.Text "'a'" Nil Nil) Nil)) Nil)) Nil))))))))))))))))))) Nil) Nil))))) Nil)))

holds7 : differs tree7 (entry (3 ∷ 4 ∷ 3 ∷ 3 ∷ 5 ∷ 1 ∷ 1 ∷ 1 ∷ 1 ∷ []) 4 "not a variable: f" ∷ entry (3 ∷ 4 ∷ 3 ∷ 3 ∷ 5 ∷ 1 ∷ 2 ∷ 1 ∷ 1 ∷ []) 4 "not a variable: q" ∷ entry (3 ∷ 5 ∷ 1 ∷ 1 ∷ []) 12 "wrong number of arguments" ∷ entry (3 ∷ 5 ∷ 1 ∷ 2 ∷ []) 12 "wrong number of arguments" ∷ entry (3 ∷ 5 ∷ 1 ∷ 3 ∷ 2 ∷ 2 ∷ []) 13 "not a variable" ∷ entry (3 ∷ 5 ∷ 1 ∷ 5 ∷ 2 ∷ 1 ∷ []) 11 "types do not agree" ∷ entry (3 ∷ 5 ∷ 1 ∷ 5 ∷ 2 ∷ 2 ∷ []) 11 "types do not agree" ∷ entry (3 ∷ 5 ∷ 1 ∷ 6 ∷ 2 ∷ 2 ∷ []) 13 "not a variable" ∷ entry (3 ∷ 5 ∷ 1 ∷ 7 ∷ 2 ∷ 1 ∷ []) 24 "width not allowed" ∷ entry (3 ∷ 5 ∷ 1 ∷ 7 ∷ 2 ∷ 2 ∷ []) 13 "not a variable" ∷ entry (3 ∷ 5 ∷ 1 ∷ 7 ∷ 2 ∷ 2 ∷ []) 24 "width not allowed" ∷ entry (3 ∷ 5 ∷ 1 ∷ 8 ∷ []) 12 "wrong number of arguments" ∷ entry (3 ∷ 5 ∷ 1 ∷ 9 ∷ 2 ∷ []) 12 "wrong number of arguments" ∷ entry (3 ∷ 5 ∷ 1 ∷ 10 ∷ 2 ∷ []) 12 "wrong number of arguments" ∷ entry (3 ∷ 5 ∷ 1 ∷ 11 ∷ []) 11 "types do not agree" ∷ entry (3 ∷ 5 ∷ 1 ∷ 12 ∷ 2 ∷ 2 ∷ 1 ∷ []) 11 "types do not agree" ∷ entry (3 ∷ 5 ∷ 1 ∷ 13 ∷ 1 ∷ []) 4 "not a procedure: f" ∷ entry (3 ∷ 5 ∷ 1 ∷ 14 ∷ 1 ∷ 1 ∷ []) 4 "not a variable: f" ∷ entry (3 ∷ 5 ∷ 1 ∷ 15 ∷ 2 ∷ 1 ∷ []) 4 "not a variable: p" ∷ entry (3 ∷ 5 ∷ 1 ∷ 16 ∷ 2 ∷ 1 ∷ []) 4 "not a function: p" ∷ entry (3 ∷ 5 ∷ 1 ∷ 17 ∷ 1 ∷ 1 ∷ []) 4 "not a variable: p" ∷ entry (3 ∷ 5 ∷ 1 ∷ 18 ∷ 1 ∷ []) 4 "not a procedure: x" ∷ entry (3 ∷ 5 ∷ 1 ∷ 19 ∷ 2 ∷ 1 ∷ []) 4 "not a function: x" ∷ []) ≡ Equal
unfolding differs
holds7 = refl

-- Components of packed variables as variable arguments, inside with too.
--   program a; var x: integer; s: packed array [1..3] of char; t: packed record a: integer; b: record c: integer end end; u: array [1..2] of packed array
--   [1..2] of integer; procedure p(var a: integer); begin end; procedure q(var c: char); begin end; begin p(t.a); p(t.b.c); q(s[1]); p(u[1,2]); with t do
--   p(a); with t.b do p(c); with t do p(b.c) end.
abbrev tree8 : Plain
tree8 = program (name "a" (node kind.Heads Nil (node kind.Block (node kind.Consts Nil (node kind.Types Nil (node kind.Vars (node kind.Vardef (node kind.Names (name "x" Nil) (node kind.Tname (name "integer" Nil) Nil)) (node kind.Vardef (node kind.Names (name "s" Nil) (node kind.Packed (node kind.Array (node kind.Indexes (node kind.Subrange (word kind.Cnumber "1" Nil (word kind.Cnumber "3" Nil Nil)) Nil) (node kind.Tname (name "char" Nil) Nil)) Nil) Nil)) (node kind.Vardef (node kind.Names (name "t" Nil) (node kind.Packed (node kind.Record (node kind.Fields (node kind.Field (node kind.Names (name "a" Nil) (node kind.Tname (name "integer" Nil) Nil)) (node kind.Field (node kind.Names (name "b" Nil) (node kind.Record (node kind.Fields (node kind.Field (node kind.Names (name "c" Nil) (node kind.Tname (name "integer" Nil) Nil)) Nil) Nil) Nil)) Nil)) Nil) Nil) Nil)) (node kind.Vardef (node kind.Names (name "u" Nil) (node kind.Array (node kind.Indexes (node kind.Subrange (word kind.Cnumber "1" Nil (word kind.Cnumber "2" Nil Nil)) Nil) (node kind.Packed (node kind.Array (node kind.Indexes (node kind.Subrange (word kind.Cnumber "1" Nil (word kind.Cnumber "2" Nil Nil)) Nil) (node kind.Tname (name "integer" Nil) Nil)) Nil) Nil)) Nil)) Nil)))) (node kind.Routines (node kind.Procedure (name "p" (node kind.Params (node kind.Varparam (node kind.Names (name "a" Nil) (name "integer" Nil)) Nil) (node kind.Block (node kind.Consts Nil (node kind.Types Nil (node kind.Vars Nil (node kind.Routines Nil (node kind.Compound (node kind.Stmts (node kind.Empty Nil Nil) Nil) Nil))))) Nil))) (node kind.Procedure (name "q" (node kind.Params (node kind.Varparam (node kind.Names (name "c" Nil) (name "char" Nil)) Nil) (node kind.Block (node kind.Consts Nil (node kind.Types Nil (node kind.Vars Nil (node kind.Routines Nil (node kind.Compound (node kind.Stmts (node kind.Empty Nil Nil) Nil) Nil))))) Nil))) Nil)) (node kind.Compound (node kind.Stmts (node kind.Proc (name "p" (node kind.Args (node kind.Select (node kind.Ref (name "t" Nil) (name "a" Nil)) Nil) Nil)) (node kind.Proc (name "p" (node kind.Args (node kind.Select (node kind.Select (node kind.Ref (name "t" Nil) (name "b" Nil)) (name "c" Nil)) Nil) Nil)) (node kind.Proc (name "q" (node kind.Args (node kind.Index (node kind.Ref (name "s" Nil) (node kind.Exprs (word kind.Number "1" Nil Nil) Nil)) Nil) Nil)) (node kind.Proc (name "p" (node kind.Args (node kind.Index (node kind.Ref (name "u" Nil) (node kind.Exprs (word kind.Number "1" Nil (word kind.Number "2" Nil Nil)) Nil)) Nil) Nil)) (node kind.With (node kind.Accesses (node kind.Ref (name "t" Nil) Nil) (node kind.Proc (name "p" (node kind.Args (node kind.Ref (name "a" Nil) Nil) Nil)) Nil)) (node kind.With (node kind.Accesses (node kind.Select (node kind.Ref (name "t" Nil) (name "b" Nil)) Nil) (node kind.Proc (name "p" (node kind.Args (node kind.Ref (name "c" Nil) Nil) Nil)) Nil)) (node kind.With (node kind.Accesses (node kind.Ref (name "t" Nil) Nil) (node kind.Proc (name "p" (node kind.Args (node kind.Select (node kind.Ref (name "b" Nil) (name "c" Nil)) Nil) Nil)) Nil)) Nil))))))) Nil) Nil))))) Nil)))

holds8 : differs tree8 (entry (3 ∷ 5 ∷ 1 ∷ 1 ∷ 2 ∷ 1 ∷ []) 14 "component of a packed variable" ∷ entry (3 ∷ 5 ∷ 1 ∷ 2 ∷ 2 ∷ 1 ∷ []) 14 "component of a packed variable" ∷ entry (3 ∷ 5 ∷ 1 ∷ 3 ∷ 2 ∷ 1 ∷ []) 14 "component of a packed variable" ∷ entry (3 ∷ 5 ∷ 1 ∷ 4 ∷ 2 ∷ 1 ∷ []) 14 "component of a packed variable" ∷ entry (3 ∷ 5 ∷ 1 ∷ 5 ∷ 2 ∷ 2 ∷ 1 ∷ []) 14 "component of a packed variable" ∷ entry (3 ∷ 5 ∷ 1 ∷ 7 ∷ 2 ∷ 2 ∷ 1 ∷ []) 14 "component of a packed variable" ∷ []) ≡ Equal
unfolding differs
holds8 = refl

-- Labels of case: given twice, of another type, of an expression that is no ordinal.
--   program a; var x: integer; b: boolean; begin case x of 1: ; 2, 1: ; 'a': ; 'a': end; case b of true: ; false: ; 1: end; case 'ab' of 'ab': ; 'ab':
--   end; x := 1 end.
abbrev tree9 : Plain
tree9 = program (name "a" (node kind.Heads Nil (node kind.Block (node kind.Consts Nil (node kind.Types Nil (node kind.Vars (node kind.Vardef (node kind.Names (name "x" Nil) (node kind.Tname (name "integer" Nil) Nil)) (node kind.Vardef (node kind.Names (name "b" Nil) (node kind.Tname (name "boolean" Nil) Nil)) Nil)) (node kind.Routines Nil (node kind.Compound (node kind.Stmts (node kind.Case (node kind.Ref (name "x" Nil) (node kind.Arms (node kind.Arm (node kind.Labels (word kind.Cnumber "1" Nil Nil) (node kind.Empty Nil Nil)) (node kind.Arm (node kind.Labels (word kind.Cnumber "2" Nil (word kind.Cnumber "1" Nil Nil)) (node kind.Empty Nil Nil)) (node kind.Arm (node kind.Labels (word kind.Cstring "'a'" Nil Nil) (node kind.Empty Nil Nil)) (node kind.Arm (node kind.Labels (word kind.Cstring "'a'" Nil Nil) (node kind.Empty Nil Nil)) Nil)))) Nil)) (node kind.Case (node kind.Ref (name "b" Nil) (node kind.Arms (node kind.Arm (node kind.Labels (node kind.Cname (name "true" Nil) Nil) (node kind.Empty Nil Nil)) (node kind.Arm (node kind.Labels (node kind.Cname (name "false" Nil) Nil) (node kind.Empty Nil Nil)) (node kind.Arm (node kind.Labels (word kind.Cnumber "1" Nil Nil) (node kind.Empty Nil Nil)) Nil))) Nil)) (node kind.Case (word kind.Text "'ab'" Nil (node kind.Arms (node kind.Arm (node kind.Labels (word kind.Cstring "'ab'" Nil Nil) (node kind.Empty Nil Nil)) (node kind.Arm (node kind.Labels (word kind.Cstring "'ab'" Nil Nil) (node kind.Empty Nil Nil)) Nil)) Nil)) (node kind.Assign (node kind.Ref (name "x" Nil) (word kind.Number "1" Nil Nil)) Nil)))) Nil) Nil))))) Nil)))

holds9 : differs tree9 (entry (3 ∷ 5 ∷ 1 ∷ 1 ∷ 2 ∷ 2 ∷ 1 ∷ 2 ∷ []) 16 "constant given twice" ∷ entry (3 ∷ 5 ∷ 1 ∷ 1 ∷ 2 ∷ 3 ∷ 1 ∷ 1 ∷ []) 11 "types do not agree" ∷ entry (3 ∷ 5 ∷ 1 ∷ 1 ∷ 2 ∷ 4 ∷ 1 ∷ 1 ∷ []) 11 "types do not agree" ∷ entry (3 ∷ 5 ∷ 1 ∷ 2 ∷ 2 ∷ 3 ∷ 1 ∷ 1 ∷ []) 11 "types do not agree" ∷ entry (3 ∷ 5 ∷ 1 ∷ 3 ∷ 1 ∷ []) 8 "not an ordinal type" ∷ entry (3 ∷ 5 ∷ 1 ∷ 3 ∷ 2 ∷ 2 ∷ 1 ∷ 1 ∷ []) 16 "constant given twice" ∷ []) ≡ Equal
unfolding differs
holds9 = refl

-- Control variables: changed in the body or by a routine, not local, of another type.
--   program a; var i, j: integer; c: char; procedure p; begin j := 1; for i := 1 to 2 do end; procedure q(k: integer); var l: integer; begin for k := 1 to
--   2 do; for l := 1 to 2 do l := 1; for zz := 1 to 2 do; for q := 1 to 2 do end; begin for i := 1 to 2 do; for j := 'a' to 'b' do; for c := 'a' to 'z' do
--   read(c); for c := 1 to 'b' do for c := 'a' to 'b' do; for c := [1] to 'a' do end.
abbrev tree10 : Plain
tree10 = program (name "a" (node kind.Heads Nil (node kind.Block (node kind.Consts Nil (node kind.Types Nil (node kind.Vars (node kind.Vardef (node kind.Names (name "i" (name "j" Nil)) (node kind.Tname (name "integer" Nil) Nil)) (node kind.Vardef (node kind.Names (name "c" Nil) (node kind.Tname (name "char" Nil) Nil)) Nil)) (node kind.Routines (node kind.Procedure (name "p" (node kind.Params Nil (node kind.Block (node kind.Consts Nil (node kind.Types Nil (node kind.Vars Nil (node kind.Routines Nil (node kind.Compound (node kind.Stmts (node kind.Assign (node kind.Ref (name "j" Nil) (word kind.Number "1" Nil Nil)) (word kind.For "to" (name "i" (word kind.Number "1" Nil (word kind.Number "2" Nil (node kind.Empty Nil Nil)))) Nil)) Nil) Nil))))) Nil))) (node kind.Procedure (name "q" (node kind.Params (node kind.Valparam (node kind.Names (name "k" Nil) (name "integer" Nil)) Nil) (node kind.Block (node kind.Consts Nil (node kind.Types Nil (node kind.Vars (node kind.Vardef (node kind.Names (name "l" Nil) (node kind.Tname (name "integer" Nil) Nil)) Nil) (node kind.Routines Nil (node kind.Compound (node kind.Stmts (word kind.For "to" (name "k" (word kind.Number "1" Nil (word kind.Number "2" Nil (node kind.Empty Nil Nil)))) (word kind.For "to" (name "l" (word kind.Number "1" Nil (word kind.Number "2" Nil (node kind.Assign (node kind.Ref (name "l" Nil) (word kind.Number "1" Nil Nil)) Nil)))) (word kind.For "to" (name "zz" (word kind.Number "1" Nil (word kind.Number "2" Nil (node kind.Empty Nil Nil)))) (word kind.For "to" (name "q" (word kind.Number "1" Nil (word kind.Number "2" Nil (node kind.Empty Nil Nil)))) Nil)))) Nil) Nil))))) Nil))) Nil)) (node kind.Compound (node kind.Stmts (word kind.For "to" (name "i" (word kind.Number "1" Nil (word kind.Number "2" Nil (node kind.Empty Nil Nil)))) (word kind.For "to" (name "j" (word kind.Text "'a'" Nil (word kind.Text "'b'" Nil (node kind.Empty Nil Nil)))) (word kind.For "to" (name "c" (word kind.Text "'a'" Nil (word kind.Text "'z'" Nil (node kind.Proc (name "read" (node kind.Args (node kind.Ref (name "c" Nil) Nil) Nil)) Nil)))) (word kind.For "to" (name "c" (word kind.Number "1" Nil (word kind.Text "'b'" Nil (word kind.For "to" (name "c" (word kind.Text "'a'" Nil (word kind.Text "'b'" Nil (node kind.Empty Nil Nil)))) Nil)))) (word kind.For "to" (name "c" (node kind.Setcon (node kind.Members (word kind.Number "1" Nil Nil) Nil) (word kind.Text "'a'" Nil (node kind.Empty Nil Nil)))) Nil))))) Nil) Nil))))) Nil)))

holds10 : differs tree10 (entry (3 ∷ 4 ∷ 1 ∷ 3 ∷ 5 ∷ 1 ∷ 2 ∷ 1 ∷ []) 18 "control variable not local: i" ∷ entry (3 ∷ 4 ∷ 2 ∷ 3 ∷ 5 ∷ 1 ∷ 1 ∷ 1 ∷ []) 18 "control variable not local: k" ∷ entry (3 ∷ 4 ∷ 2 ∷ 3 ∷ 5 ∷ 1 ∷ 2 ∷ 1 ∷ []) 19 "control variable is changed: l" ∷ entry (3 ∷ 4 ∷ 2 ∷ 3 ∷ 5 ∷ 1 ∷ 3 ∷ 1 ∷ []) 1 "not declared: zz" ∷ entry (3 ∷ 4 ∷ 2 ∷ 3 ∷ 5 ∷ 1 ∷ 3 ∷ 1 ∷ []) 18 "control variable not local: zz" ∷ entry (3 ∷ 4 ∷ 2 ∷ 3 ∷ 5 ∷ 1 ∷ 4 ∷ 1 ∷ []) 4 "not a variable: q" ∷ entry (3 ∷ 4 ∷ 2 ∷ 3 ∷ 5 ∷ 1 ∷ 4 ∷ 1 ∷ []) 18 "control variable not local: q" ∷ entry (3 ∷ 5 ∷ 1 ∷ 1 ∷ 1 ∷ []) 19 "control variable is changed: i" ∷ entry (3 ∷ 5 ∷ 1 ∷ 2 ∷ 1 ∷ []) 19 "control variable is changed: j" ∷ entry (3 ∷ 5 ∷ 1 ∷ 3 ∷ 1 ∷ []) 19 "control variable is changed: c" ∷ entry (3 ∷ 5 ∷ 1 ∷ 4 ∷ 1 ∷ []) 19 "control variable is changed: c" ∷ entry (3 ∷ 5 ∷ 1 ∷ 5 ∷ 2 ∷ []) 8 "not an ordinal type" ∷ []) ≡ Equal
unfolding differs
holds10 = refl

-- Forward routines, what their later declarations repeat, a function without a result type.
--   program a; procedure p; forward; procedure q(x: integer); forward; function f: integer; forward; function g(a: char): char; forward; procedure q(y:
--   zork); begin x := 1; y := 2 end; function f: integer; begin end; function g; begin g := a end; function h; begin h := 1 end; begin p; q(1) end.
abbrev tree11 : Plain
tree11 = program (name "a" (node kind.Heads Nil (node kind.Block (node kind.Consts Nil (node kind.Types Nil (node kind.Vars Nil (node kind.Routines (node kind.Procedure (name "p" (node kind.Params Nil (word kind.Forward "forward" Nil Nil))) (node kind.Procedure (name "q" (node kind.Params (node kind.Valparam (node kind.Names (name "x" Nil) (name "integer" Nil)) Nil) (word kind.Forward "forward" Nil Nil))) (node kind.Function (name "f" (node kind.Params Nil (name "integer" (word kind.Forward "forward" Nil Nil)))) (node kind.Function (name "g" (node kind.Params (node kind.Valparam (node kind.Names (name "a" Nil) (name "char" Nil)) Nil) (name "char" (word kind.Forward "forward" Nil Nil)))) (node kind.Procedure (name "q" (node kind.Params (node kind.Valparam (node kind.Names (name "y" Nil) (name "zork" Nil)) Nil) (node kind.Block (node kind.Consts Nil (node kind.Types Nil (node kind.Vars Nil (node kind.Routines Nil (node kind.Compound (node kind.Stmts (node kind.Assign (node kind.Ref (name "x" Nil) (word kind.Number "1" Nil Nil)) (node kind.Assign (node kind.Ref (name "y" Nil) (word kind.Number "2" Nil Nil)) Nil)) Nil) Nil))))) Nil))) (node kind.Function (name "f" (node kind.Params Nil (name "integer" (node kind.Block (node kind.Consts Nil (node kind.Types Nil (node kind.Vars Nil (node kind.Routines Nil (node kind.Compound (node kind.Stmts (node kind.Empty Nil Nil) Nil) Nil))))) Nil)))) (node kind.Funbody (name "g" (node kind.Block (node kind.Consts Nil (node kind.Types Nil (node kind.Vars Nil (node kind.Routines Nil (node kind.Compound (node kind.Stmts (node kind.Assign (node kind.Ref (name "g" Nil) (node kind.Ref (name "a" Nil) Nil)) Nil) Nil) Nil))))) Nil)) (node kind.Funbody (name "h" (node kind.Block (node kind.Consts Nil (node kind.Types Nil (node kind.Vars Nil (node kind.Routines Nil (node kind.Compound (node kind.Stmts (node kind.Assign (node kind.Ref (name "h" Nil) (word kind.Number "1" Nil Nil)) Nil) Nil) Nil))))) Nil)) Nil)))))))) (node kind.Compound (node kind.Stmts (node kind.Proc (name "p" (node kind.Args Nil Nil)) (node kind.Proc (name "q" (node kind.Args (word kind.Number "1" Nil Nil) Nil)) Nil)) Nil) Nil))))) Nil)))

holds11 : differs tree11 (entry (3 ∷ 4 ∷ 1 ∷ []) 20 "forward has no block: p" ∷ entry (3 ∷ 4 ∷ 5 ∷ []) 21 "heading given again: q" ∷ entry (3 ∷ 4 ∷ 5 ∷ 2 ∷ 1 ∷ 2 ∷ []) 1 "not declared: zork" ∷ entry (3 ∷ 4 ∷ 5 ∷ 3 ∷ 5 ∷ 1 ∷ 2 ∷ 1 ∷ 1 ∷ []) 1 "not declared: y" ∷ entry (3 ∷ 4 ∷ 6 ∷ []) 21 "heading given again: f" ∷ entry (3 ∷ 4 ∷ 8 ∷ 1 ∷ []) 22 "result type not simple: h" ∷ []) ≡ Equal
unfolding differs
holds11 = refl

-- what names mean in it
looked_up11 : first_wrong tree11 (query "p" (3 ∷ 4 ∷ 1 ∷ 1 ∷ []) (HereAt (3 ∷ 4 ∷ 1 ∷ 1 ∷ [])) ∷ query "x" (3 ∷ 4 ∷ 2 ∷ 2 ∷ 1 ∷ 1 ∷ 1 ∷ []) MissingAt ∷ query "f" (3 ∷ 4 ∷ 3 ∷ 1 ∷ []) (HereAt (3 ∷ 4 ∷ 3 ∷ 1 ∷ [])) ∷ query "g" (3 ∷ 4 ∷ 4 ∷ 1 ∷ []) (HereAt (3 ∷ 4 ∷ 4 ∷ 1 ∷ [])) ∷ query "char" (3 ∷ 4 ∷ 4 ∷ 2 ∷ 1 ∷ 2 ∷ []) RequiredAt ∷ query "q" (3 ∷ 4 ∷ 5 ∷ 1 ∷ []) (HereAt (3 ∷ 4 ∷ 2 ∷ 1 ∷ [])) ∷ query "zork" (3 ∷ 4 ∷ 5 ∷ 2 ∷ 1 ∷ 2 ∷ []) MissingAt ∷ query "y" (3 ∷ 4 ∷ 5 ∷ 3 ∷ 5 ∷ 1 ∷ 2 ∷ 1 ∷ 1 ∷ []) MissingAt ∷ query "integer" (3 ∷ 4 ∷ 6 ∷ 3 ∷ []) RequiredAt ∷ query "g" (3 ∷ 4 ∷ 7 ∷ 2 ∷ 5 ∷ 1 ∷ 1 ∷ 1 ∷ 1 ∷ []) (HereAt (3 ∷ 4 ∷ 4 ∷ 1 ∷ [])) ∷ query "h" (3 ∷ 4 ∷ 8 ∷ 1 ∷ []) (HereAt (3 ∷ 4 ∷ 8 ∷ 1 ∷ [])) ∷ query "p" (3 ∷ 5 ∷ 1 ∷ 1 ∷ 1 ∷ []) (HereAt (3 ∷ 4 ∷ 1 ∷ 1 ∷ [])) ∷ query "P" (3 ∷ 4 ∷ 8 ∷ 2 ∷ 5 ∷ []) (HereAt (3 ∷ 4 ∷ 1 ∷ 1 ∷ [])) ∷ query "Q" (3 ∷ 4 ∷ 8 ∷ 2 ∷ 5 ∷ []) (HereAt (3 ∷ 4 ∷ 2 ∷ 1 ∷ [])) ∷ query "X" (3 ∷ 4 ∷ 8 ∷ 2 ∷ 5 ∷ []) MissingAt ∷ query "INTEGER" (3 ∷ 4 ∷ 8 ∷ 2 ∷ 5 ∷ []) RequiredAt ∷ query "Integer" (3 ∷ 5 ∷ []) RequiredAt ∷ query "zz" (3 ∷ 5 ∷ []) MissingAt ∷ query "P" (2 ∷ []) MissingAt ∷ []) ≡ 0
unfolding first_wrong
looked_up11 = refl

-- Result types: a record, undeclared, in order; an assignment to a function from outside.
--   program a; type r = record end; function f: r; begin end; function g: zork; begin end; function h: integer; begin end; begin f := 1 end.
abbrev tree12 : Plain
tree12 = program (name "a" (node kind.Heads Nil (node kind.Block (node kind.Consts Nil (node kind.Types (node kind.Typedef (name "r" (node kind.Record0 Nil Nil)) Nil) (node kind.Vars Nil (node kind.Routines (node kind.Function (name "f" (node kind.Params Nil (name "r" (node kind.Block (node kind.Consts Nil (node kind.Types Nil (node kind.Vars Nil (node kind.Routines Nil (node kind.Compound (node kind.Stmts (node kind.Empty Nil Nil) Nil) Nil))))) Nil)))) (node kind.Function (name "g" (node kind.Params Nil (name "zork" (node kind.Block (node kind.Consts Nil (node kind.Types Nil (node kind.Vars Nil (node kind.Routines Nil (node kind.Compound (node kind.Stmts (node kind.Empty Nil Nil) Nil) Nil))))) Nil)))) (node kind.Function (name "h" (node kind.Params Nil (name "integer" (node kind.Block (node kind.Consts Nil (node kind.Types Nil (node kind.Vars Nil (node kind.Routines Nil (node kind.Compound (node kind.Stmts (node kind.Empty Nil Nil) Nil) Nil))))) Nil)))) Nil))) (node kind.Compound (node kind.Stmts (node kind.Assign (node kind.Ref (name "f" Nil) (word kind.Number "1" Nil Nil)) Nil) Nil) Nil))))) Nil)))

holds12 : differs tree12 (entry (3 ∷ 4 ∷ 1 ∷ 3 ∷ []) 22 "result type not simple: r" ∷ entry (3 ∷ 4 ∷ 2 ∷ 3 ∷ []) 1 "not declared: zork" ∷ entry (3 ∷ 5 ∷ 1 ∷ 1 ∷ 1 ∷ 1 ∷ []) 4 "not a variable: f" ∷ []) ≡ Equal
unfolding differs
holds12 = refl
