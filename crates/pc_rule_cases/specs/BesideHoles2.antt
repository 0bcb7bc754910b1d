-- Rules beside holes: programs with the errors that they have.
use Rattle.std.specs.Prelude.{◌≡◌, [], ◌∷◌}
use Rattle.std.proofs.Common.{refl}
use Rattle.pc_syntax.specs.Plain.{Nil, Plain}
use Rattle.pc_syntax.specs.declared.kind.Kind.TheVariants as kind
use Rattle.pc_syntax.specs.declared.sort.Sort.TheVariants as sort
use Rattle.pc_rule_cases.specs.Trees.{program, node, name, word}
use Rattle.pc_rule_cases.specs.Compare.{Equal, entry, differs}
use Rattle.pc_rule_cases.specs.Lookups.{HereAt, MissingAt, RequiredAt, query, first_wrong}

-- A routine changes the control variable whatever holes stand in the for; a hole in the place of the name has no entry.
--   program p; var i: integer; procedure q; begin read(i, ?expression) end; procedure r(?parameter); begin end; begin for i := ?expression to 2 do
--   ?statement; for i := 1 to ?expression do begin i := ?expression; q end; for ?name := 1 to 2 do i := 1; for i := 1 to 2 do r(i) end.
abbrev tree1 : Plain
tree1 = program (name "p" (node kind.Heads Nil (node kind.Block (node kind.Consts Nil (node kind.Types Nil (node kind.Vars (node kind.Vardef (node kind.Names (name "i" Nil) (node kind.Tname (name "integer" Nil) Nil)) Nil) (node kind.Routines (node kind.Procedure (name "q" (node kind.Params Nil (node kind.Block (node kind.Consts Nil (node kind.Types Nil (node kind.Vars Nil (node kind.Routines Nil (node kind.Compound (node kind.Stmts (node kind.Proc (name "read" (node kind.Args (node kind.Ref (name "i" Nil) (node (kind.Hole sort.Expression) Nil Nil)) Nil)) Nil) Nil) Nil))))) Nil))) (node kind.Procedure (name "r" (node kind.Params (node (kind.Hole sort.Parameter) Nil Nil) (node kind.Block (node kind.Consts Nil (node kind.Types Nil (node kind.Vars Nil (node kind.Routines Nil (node kind.Compound (node kind.Stmts (node kind.Empty Nil Nil) Nil) Nil))))) Nil))) Nil)) (node kind.Compound (node kind.Stmts (word kind.For "to" (name "i" (node (kind.Hole sort.Expression) Nil (word kind.Number "2" Nil (node (kind.Hole sort.Statement) Nil Nil)))) (word kind.For "to" (name "i" (word kind.Number "1" Nil (node (kind.Hole sort.Expression) Nil (node kind.Compound (node kind.Stmts (node kind.Assign (node kind.Ref (name "i" Nil) (node (kind.Hole sort.Expression) Nil Nil)) (node kind.Proc (name "q" (node kind.Args Nil Nil)) Nil)) Nil) Nil)))) (word kind.For "to" (node (kind.Hole sort.Name) Nil (word kind.Number "1" Nil (word kind.Number "2" Nil (node kind.Assign (node kind.Ref (name "i" Nil) (word kind.Number "1" Nil Nil)) Nil)))) (word kind.For "to" (name "i" (word kind.Number "1" Nil (word kind.Number "2" Nil (node kind.Proc (name "r" (node kind.Args (node kind.Ref (name "i" Nil) Nil) Nil)) Nil)))) Nil)))) Nil) Nil))))) Nil)))

holds1 : differs tree1 (entry (3 ∷ 5 ∷ 1 ∷ 1 ∷ 1 ∷ []) 19 "control variable is changed: i" ∷ entry (3 ∷ 5 ∷ 1 ∷ 2 ∷ 1 ∷ []) 19 "control variable is changed: i" ∷ entry (3 ∷ 5 ∷ 1 ∷ 4 ∷ 1 ∷ []) 19 "control variable is changed: i" ∷ []) ≡ Equal
unfolding differs
holds1 = refl

-- A routine whose heading has a hole isn't known to change its arguments; a component's assignment is no assignment of the whole.
--   program p; var i: integer; procedure r(var x: integer; ?parameter); begin end; begin for i := 1 to 2 do r(i, ?expression); for i := 1 to 2 do
--   i[?expression] := 1; for i := ?expression to 2 do read(i); with ?expression do for i := 1 to 2 do i := 3 end.
abbrev tree2 : Plain
tree2 = program (name "p" (node kind.Heads Nil (node kind.Block (node kind.Consts Nil (node kind.Types Nil (node kind.Vars (node kind.Vardef (node kind.Names (name "i" Nil) (node kind.Tname (name "integer" Nil) Nil)) Nil) (node kind.Routines (node kind.Procedure (name "r" (node kind.Params (node kind.Varparam (node kind.Names (name "x" Nil) (name "integer" Nil)) (node (kind.Hole sort.Parameter) Nil Nil)) (node kind.Block (node kind.Consts Nil (node kind.Types Nil (node kind.Vars Nil (node kind.Routines Nil (node kind.Compound (node kind.Stmts (node kind.Empty Nil Nil) Nil) Nil))))) Nil))) Nil) (node kind.Compound (node kind.Stmts (word kind.For "to" (name "i" (word kind.Number "1" Nil (word kind.Number "2" Nil (node kind.Proc (name "r" (node kind.Args (node kind.Ref (name "i" Nil) (node (kind.Hole sort.Expression) Nil Nil)) Nil)) Nil)))) (word kind.For "to" (name "i" (word kind.Number "1" Nil (word kind.Number "2" Nil (node kind.Assign (node kind.Index (node kind.Ref (name "i" Nil) (node kind.Exprs (node (kind.Hole sort.Expression) Nil Nil) Nil)) (word kind.Number "1" Nil Nil)) Nil)))) (word kind.For "to" (name "i" (node (kind.Hole sort.Expression) Nil (word kind.Number "2" Nil (node kind.Proc (name "read" (node kind.Args (node kind.Ref (name "i" Nil) Nil) Nil)) Nil)))) (node kind.With (node kind.Accesses (node (kind.Hole sort.Expression) Nil Nil) (word kind.For "to" (name "i" (word kind.Number "1" Nil (word kind.Number "2" Nil (node kind.Assign (node kind.Ref (name "i" Nil) (word kind.Number "3" Nil Nil)) Nil)))) Nil)) Nil)))) Nil) Nil))))) Nil)))

holds2 : differs tree2 (entry (3 ∷ 5 ∷ 1 ∷ 2 ∷ 4 ∷ 1 ∷ 1 ∷ []) 15 "not an array" ∷ entry (3 ∷ 5 ∷ 1 ∷ 3 ∷ 1 ∷ []) 19 "control variable is changed: i" ∷ entry (3 ∷ 5 ∷ 1 ∷ 4 ∷ 2 ∷ 1 ∷ []) 19 "control variable is changed: i" ∷ []) ≡ Equal
unfolding differs
holds2 = refl

-- what names mean in it
looked_up2 : first_wrong tree2 (query "i" (3 ∷ 3 ∷ 1 ∷ 1 ∷ 1 ∷ []) (HereAt (3 ∷ 3 ∷ 1 ∷ 1 ∷ 1 ∷ [])) ∷ query "r" (3 ∷ 4 ∷ 1 ∷ 1 ∷ []) (HereAt (3 ∷ 4 ∷ 1 ∷ 1 ∷ [])) ∷ query "integer" (3 ∷ 4 ∷ 1 ∷ 2 ∷ 1 ∷ 2 ∷ []) RequiredAt ∷ query "r" (3 ∷ 5 ∷ 1 ∷ 1 ∷ 4 ∷ 1 ∷ []) (HereAt (3 ∷ 4 ∷ 1 ∷ 1 ∷ [])) ∷ query "i" (3 ∷ 5 ∷ 1 ∷ 2 ∷ 1 ∷ []) (HereAt (3 ∷ 3 ∷ 1 ∷ 1 ∷ 1 ∷ [])) ∷ query "i" (3 ∷ 5 ∷ 1 ∷ 3 ∷ 1 ∷ []) (HereAt (3 ∷ 3 ∷ 1 ∷ 1 ∷ 1 ∷ [])) ∷ query "i" (3 ∷ 5 ∷ 1 ∷ 3 ∷ 4 ∷ 2 ∷ 1 ∷ 1 ∷ []) (HereAt (3 ∷ 3 ∷ 1 ∷ 1 ∷ 1 ∷ [])) ∷ query "i" (3 ∷ 5 ∷ 1 ∷ 4 ∷ 2 ∷ 4 ∷ 1 ∷ 1 ∷ []) (HereAt (3 ∷ 3 ∷ 1 ∷ 1 ∷ 1 ∷ [])) ∷ query "I" (3 ∷ 4 ∷ 1 ∷ 3 ∷ 5 ∷ []) (HereAt (3 ∷ 3 ∷ 1 ∷ 1 ∷ 1 ∷ [])) ∷ query "INTEGER" (3 ∷ 4 ∷ 1 ∷ 3 ∷ 5 ∷ []) RequiredAt ∷ query "R" (3 ∷ 4 ∷ 1 ∷ 3 ∷ 5 ∷ []) (HereAt (3 ∷ 4 ∷ 1 ∷ 1 ∷ [])) ∷ query "X" (3 ∷ 4 ∷ 1 ∷ 3 ∷ 5 ∷ []) (HereAt (3 ∷ 4 ∷ 1 ∷ 2 ∷ 1 ∷ 1 ∷ 1 ∷ [])) ∷ query "Integer" (3 ∷ 5 ∷ []) RequiredAt ∷ query "zz" (3 ∷ 5 ∷ []) MissingAt ∷ query "I" (2 ∷ []) MissingAt ∷ []) ≡ 0
unfolding first_wrong
looked_up2 = refl

-- A routine whose name is a hole changes the control variable too.
--   program p; var i: integer; procedure ?name; begin i := 1 end; begin for i := 1 to 2 do end.
abbrev tree3 : Plain
tree3 = program (name "p" (node kind.Heads Nil (node kind.Block (node kind.Consts Nil (node kind.Types Nil (node kind.Vars (node kind.Vardef (node kind.Names (name "i" Nil) (node kind.Tname (name "integer" Nil) Nil)) Nil) (node kind.Routines (node kind.Procedure (node (kind.Hole sort.Name) Nil (node kind.Params Nil (node kind.Block (node kind.Consts Nil (node kind.Types Nil (node kind.Vars Nil (node kind.Routines Nil (node kind.Compound (node kind.Stmts (node kind.Assign (node kind.Ref (name "i" Nil) (word kind.Number "1" Nil Nil)) Nil) Nil) Nil))))) Nil))) Nil) (node kind.Compound (node kind.Stmts (word kind.For "to" (name "i" (word kind.Number "1" Nil (word kind.Number "2" Nil (node kind.Empty Nil Nil)))) Nil) Nil) Nil))))) Nil)))

holds3 : differs tree3 (entry (3 ∷ 5 ∷ 1 ∷ 1 ∷ 1 ∷ []) 19 "control variable is changed: i" ∷ []) ≡ Equal
unfolding differs
holds3 = refl

-- Later declarations that repeat holes beside parameters: their type names are used ones, their parameters declare nothing.
--   program p; procedure q(a: integer); forward; function f(b: char): char; forward; procedure q(?parameter; c: t; var ?name: integer); begin end;
--   function f(?parameter): ?name; begin end; begin q(1) end.
abbrev tree4 : Plain
tree4 = program (name "p" (node kind.Heads Nil (node kind.Block (node kind.Consts Nil (node kind.Types Nil (node kind.Vars Nil (node kind.Routines (node kind.Procedure (name "q" (node kind.Params (node kind.Valparam (node kind.Names (name "a" Nil) (name "integer" Nil)) Nil) (word kind.Forward "forward" Nil Nil))) (node kind.Function (name "f" (node kind.Params (node kind.Valparam (node kind.Names (name "b" Nil) (name "char" Nil)) Nil) (name "char" (word kind.Forward "forward" Nil Nil)))) (node kind.Procedure (name "q" (node kind.Params (node (kind.Hole sort.Parameter) Nil (node kind.Valparam (node kind.Names (name "c" Nil) (name "t" Nil)) (node kind.Varparam (node kind.Names (node (kind.Hole sort.Name) Nil Nil) (name "integer" Nil)) Nil))) (node kind.Block (node kind.Consts Nil (node kind.Types Nil (node kind.Vars Nil (node kind.Routines Nil (node kind.Compound (node kind.Stmts (node kind.Empty Nil Nil) Nil) Nil))))) Nil))) (node kind.Function (name "f" (node kind.Params (node (kind.Hole sort.Parameter) Nil Nil) (node (kind.Hole sort.Name) Nil (node kind.Block (node kind.Consts Nil (node kind.Types Nil (node kind.Vars Nil (node kind.Routines Nil (node kind.Compound (node kind.Stmts (node kind.Empty Nil Nil) Nil) Nil))))) Nil)))) Nil)))) (node kind.Compound (node kind.Stmts (node kind.Proc (name "q" (node kind.Args (word kind.Number "1" Nil Nil) Nil)) Nil) Nil) Nil))))) Nil)))

holds4 : differs tree4 (entry (3 ∷ 4 ∷ 3 ∷ []) 21 "heading given again: q" ∷ entry (3 ∷ 4 ∷ 3 ∷ 2 ∷ 2 ∷ 2 ∷ []) 1 "not declared: t" ∷ entry (3 ∷ 4 ∷ 4 ∷ []) 21 "heading given again: f" ∷ []) ≡ Equal
unfolding differs
holds4 = refl

-- what names mean in it
looked_up4 : first_wrong tree4 (query "q" (3 ∷ 4 ∷ 1 ∷ 1 ∷ []) (HereAt (3 ∷ 4 ∷ 1 ∷ 1 ∷ [])) ∷ query "a" (3 ∷ 4 ∷ 1 ∷ 2 ∷ 1 ∷ 1 ∷ 1 ∷ []) MissingAt ∷ query "integer" (3 ∷ 4 ∷ 1 ∷ 2 ∷ 1 ∷ 2 ∷ []) RequiredAt ∷ query "f" (3 ∷ 4 ∷ 2 ∷ 1 ∷ []) (HereAt (3 ∷ 4 ∷ 2 ∷ 1 ∷ [])) ∷ query "b" (3 ∷ 4 ∷ 2 ∷ 2 ∷ 1 ∷ 1 ∷ 1 ∷ []) MissingAt ∷ query "char" (3 ∷ 4 ∷ 2 ∷ 2 ∷ 1 ∷ 2 ∷ []) RequiredAt ∷ query "char" (3 ∷ 4 ∷ 2 ∷ 3 ∷ []) RequiredAt ∷ query "q" (3 ∷ 4 ∷ 3 ∷ 1 ∷ []) (HereAt (3 ∷ 4 ∷ 1 ∷ 1 ∷ [])) ∷ query "c" (3 ∷ 4 ∷ 3 ∷ 2 ∷ 2 ∷ 1 ∷ 1 ∷ []) MissingAt ∷ query "t" (3 ∷ 4 ∷ 3 ∷ 2 ∷ 2 ∷ 2 ∷ []) MissingAt ∷ query "integer" (3 ∷ 4 ∷ 3 ∷ 2 ∷ 3 ∷ 2 ∷ []) RequiredAt ∷ query "f" (3 ∷ 4 ∷ 4 ∷ 1 ∷ []) (HereAt (3 ∷ 4 ∷ 2 ∷ 1 ∷ [])) ∷ query "q" (3 ∷ 5 ∷ 1 ∷ 1 ∷ 1 ∷ []) (HereAt (3 ∷ 4 ∷ 1 ∷ 1 ∷ [])) ∷ query "Q" (3 ∷ 4 ∷ 4 ∷ 4 ∷ 5 ∷ []) (HereAt (3 ∷ 4 ∷ 1 ∷ 1 ∷ [])) ∷ query "A" (3 ∷ 4 ∷ 4 ∷ 4 ∷ 5 ∷ []) MissingAt ∷ query "INTEGER" (3 ∷ 4 ∷ 4 ∷ 4 ∷ 5 ∷ []) RequiredAt ∷ query "F" (3 ∷ 4 ∷ 4 ∷ 4 ∷ 5 ∷ []) (HereAt (3 ∷ 4 ∷ 2 ∷ 1 ∷ [])) ∷ query "Integer" (3 ∷ 5 ∷ []) RequiredAt ∷ query "zz" (3 ∷ 5 ∷ []) MissingAt ∷ query "Q" (2 ∷ []) MissingAt ∷ []) ≡ 0
unfolding first_wrong
looked_up4 = refl

-- A later declaration whose block is a hole, behind a hole in the place of a routine.
--   program p; procedure q; forward; ?routine procedure q(x: integer); ?block; begin q end.
abbrev tree5 : Plain
tree5 = program (name "p" (node kind.Heads Nil (node kind.Block (node kind.Consts Nil (node kind.Types Nil (node kind.Vars Nil (node kind.Routines (node kind.Procedure (name "q" (node kind.Params Nil (word kind.Forward "forward" Nil Nil))) (node (kind.Hole sort.Routine) Nil (node kind.Procedure (name "q" (node kind.Params (node kind.Valparam (node kind.Names (name "x" Nil) (name "integer" Nil)) Nil) (node (kind.Hole sort.Block) Nil Nil))) Nil))) (node kind.Compound (node kind.Stmts (node kind.Proc (name "q" (node kind.Args Nil Nil)) Nil) Nil) Nil))))) Nil)))

holds5 : differs tree5 (entry (3 ∷ 4 ∷ 3 ∷ []) 21 "heading given again: q" ∷ []) ≡ Equal
unfolding differs
holds5 = refl

-- what names mean in it
looked_up5 : first_wrong tree5 (query "q" (3 ∷ 4 ∷ 1 ∷ 1 ∷ []) (HereAt (3 ∷ 4 ∷ 1 ∷ 1 ∷ [])) ∷ query "q" (3 ∷ 4 ∷ 3 ∷ 1 ∷ []) (HereAt (3 ∷ 4 ∷ 1 ∷ 1 ∷ [])) ∷ query "x" (3 ∷ 4 ∷ 3 ∷ 2 ∷ 1 ∷ 1 ∷ 1 ∷ []) MissingAt ∷ query "integer" (3 ∷ 4 ∷ 3 ∷ 2 ∷ 1 ∷ 2 ∷ []) RequiredAt ∷ query "q" (3 ∷ 5 ∷ 1 ∷ 1 ∷ 1 ∷ []) (HereAt (3 ∷ 4 ∷ 1 ∷ 1 ∷ [])) ∷ query "Q" (3 ∷ 5 ∷ []) (HereAt (3 ∷ 4 ∷ 1 ∷ 1 ∷ [])) ∷ query "X" (3 ∷ 5 ∷ []) MissingAt ∷ query "INTEGER" (3 ∷ 5 ∷ []) RequiredAt ∷ query "Integer" (3 ∷ 5 ∷ []) RequiredAt ∷ query "zz" (3 ∷ 5 ∷ []) MissingAt ∷ query "Q" (2 ∷ []) MissingAt ∷ []) ≡ 0
unfolding first_wrong
looked_up5 = refl

-- What has a hole may be read and written; values and widths of another type may not.
--   program p; type e = (u, v); r = record a: integer; b: ?type end; var x: e; y: r; z: set of ?type; begin read(?expression, x, y, y.a, z);
--   write(?expression, x, y.b, z, [?expression], x = ?expression, ?expression:x, 1:?expression, x:?expression); readln(x, w); writeln(?expression:2, u)
--   end.
abbrev tree6 : Plain
tree6 = program (name "p" (node kind.Heads Nil (node kind.Block (node kind.Consts Nil (node kind.Types (node kind.Typedef (name "e" (node kind.Enum (node kind.Names (name "u" (name "v" Nil)) Nil) Nil)) (node kind.Typedef (name "r" (node kind.Record (node kind.Fields (node kind.Field (node kind.Names (name "a" Nil) (node kind.Tname (name "integer" Nil) Nil)) (node kind.Field (node kind.Names (name "b" Nil) (node (kind.Hole sort.Denoter) Nil Nil)) Nil)) Nil) Nil)) Nil)) (node kind.Vars (node kind.Vardef (node kind.Names (name "x" Nil) (node kind.Tname (name "e" Nil) Nil)) (node kind.Vardef (node kind.Names (name "y" Nil) (node kind.Tname (name "r" Nil) Nil)) (node kind.Vardef (node kind.Names (name "z" Nil) (node kind.Setof (node (kind.Hole sort.Denoter) Nil Nil) Nil)) Nil))) (node kind.Routines Nil (node kind.Compound (node kind.Stmts (node kind.Proc (name "read" (node kind.Args (node (kind.Hole sort.Expression) Nil (node kind.Ref (name "x" Nil) (node kind.Ref (name "y" Nil) (node kind.Select (node kind.Ref (name "y" Nil) (name "a" Nil)) (node kind.Ref (name "z" Nil) Nil))))) Nil)) (node kind.Proc (name "write" (node kind.Args (node (kind.Hole sort.Expression) Nil (node kind.Ref (name "x" Nil) (node kind.Select (node kind.Ref (name "y" Nil) (name "b" Nil)) (node kind.Ref (name "z" Nil) (node kind.Setcon (node kind.Members (node (kind.Hole sort.Expression) Nil Nil) Nil) (word kind.Rel "=" (node kind.Ref (name "x" Nil) (node (kind.Hole sort.Expression) Nil Nil)) (node kind.Width (node (kind.Hole sort.Expression) Nil (node kind.Ref (name "x" Nil) Nil)) (node kind.Width (word kind.Number "1" Nil (node (kind.Hole sort.Expression) Nil Nil)) (node kind.Width (node kind.Ref (name "x" Nil) (node (kind.Hole sort.Expression) Nil Nil)) Nil))))))))) Nil)) (node kind.Proc (name "readln" (node kind.Args (node kind.Ref (name "x" Nil) (node kind.Ref (name "w" Nil) Nil)) Nil)) (node kind.Proc (name "writeln" (node kind.Args (node kind.Width (node (kind.Hole sort.Expression) Nil (word kind.Number "2" Nil Nil)) (node kind.Ref (name "u" Nil) Nil)) Nil)) Nil)))) Nil) Nil))))) Nil)))

holds6 : differs tree6 (entry (3 ∷ 5 ∷ 1 ∷ 1 ∷ 2 ∷ 2 ∷ []) 23 "cannot be read" ∷ entry (3 ∷ 5 ∷ 1 ∷ 2 ∷ 2 ∷ 2 ∷ []) 23 "cannot be written" ∷ entry (3 ∷ 5 ∷ 1 ∷ 2 ∷ 2 ∷ 7 ∷ []) 24 "width not allowed" ∷ entry (3 ∷ 5 ∷ 1 ∷ 2 ∷ 2 ∷ 9 ∷ []) 23 "cannot be written" ∷ entry (3 ∷ 5 ∷ 1 ∷ 3 ∷ 2 ∷ 1 ∷ []) 23 "cannot be read" ∷ entry (3 ∷ 5 ∷ 1 ∷ 3 ∷ 2 ∷ 2 ∷ 1 ∷ []) 1 "not declared: w" ∷ entry (3 ∷ 5 ∷ 1 ∷ 4 ∷ 2 ∷ 2 ∷ []) 23 "cannot be written" ∷ []) ≡ Equal
unfolding differs
holds6 = refl

-- Widths beside holes, where none is allowed.
--   program p; procedure q(var a: char); begin end; begin q(?expression:1); q('x':?expression); ?name(1:2, ?expression); read(?expression:?expression)
--   end.
abbrev tree7 : Plain
tree7 = program (name "p" (node kind.Heads Nil (node kind.Block (node kind.Consts Nil (node kind.Types Nil (node kind.Vars Nil (node kind.Routines (node kind.Procedure (name "q" (node kind.Params (node kind.Varparam (node kind.Names (name "a" Nil) (name "char" Nil)) Nil) (node kind.Block (node kind.Consts Nil (node kind.Types Nil (node kind.Vars Nil (node kind.Routines Nil (node kind.Compound (node kind.Stmts (node kind.Empty Nil Nil) Nil) Nil))))) Nil))) Nil) (node kind.Compound (node kind.Stmts (node kind.Proc (name "q" (node kind.Args (node kind.Width (node (kind.Hole sort.Expression) Nil (word kind.Number "1" Nil Nil)) Nil) Nil)) (node kind.Proc (name "q" (node kind.Args (node kind.Width (word kind.Text "'x'" Nil (node (kind.Hole sort.Expression) Nil Nil)) Nil) Nil)) (node kind.Proc (node (kind.Hole sort.Name) Nil (node kind.Args (node kind.Width (word kind.Number "1" Nil (word kind.Number "2" Nil Nil)) (node (kind.Hole sort.Expression) Nil Nil)) Nil)) (node kind.Proc (name "read" (node kind.Args (node kind.Width (node (kind.Hole sort.Expression) Nil (node (kind.Hole sort.Expression) Nil Nil)) Nil) Nil)) Nil)))) Nil) Nil))))) Nil)))

holds7 : differs tree7 (entry (3 ∷ 5 ∷ 1 ∷ 1 ∷ 2 ∷ 1 ∷ []) 13 "not a variable" ∷ entry (3 ∷ 5 ∷ 1 ∷ 1 ∷ 2 ∷ 1 ∷ []) 24 "width not allowed" ∷ entry (3 ∷ 5 ∷ 1 ∷ 2 ∷ 2 ∷ 1 ∷ []) 13 "not a variable" ∷ entry (3 ∷ 5 ∷ 1 ∷ 2 ∷ 2 ∷ 1 ∷ []) 24 "width not allowed" ∷ entry (3 ∷ 5 ∷ 1 ∷ 3 ∷ 2 ∷ 1 ∷ []) 24 "width not allowed" ∷ entry (3 ∷ 5 ∷ 1 ∷ 4 ∷ 2 ∷ 1 ∷ []) 13 "not a variable" ∷ entry (3 ∷ 5 ∷ 1 ∷ 4 ∷ 2 ∷ 1 ∷ []) 24 "width not allowed" ∷ []) ≡ Equal
unfolding differs
holds7 = refl
