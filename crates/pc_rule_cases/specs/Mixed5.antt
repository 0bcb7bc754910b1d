-- Programs with many errors, and without: programs with the errors that they have.
use Rattle.std.specs.Prelude.{◌≡◌, [], ◌∷◌}
use Rattle.std.proofs.Common.{refl}
use Rattle.pc_syntax.specs.Plain.{Nil, Plain}
use Rattle.pc_syntax.specs.declared.kind.Kind.TheVariants as kind
use Rattle.pc_syntax.specs.declared.sort.Sort.TheVariants as sort
use Rattle.pc_rule_cases.specs.Trees.{program, node, name, word}
use Rattle.pc_rule_cases.specs.Compare.{Equal, entry, differs}
use Rattle.pc_rule_cases.specs.Lookups.{HereAt, LaterAt, MissingAt, RequiredAt, query, first_wrong}

-- A program that reads.
--   program e(input, output); var i: integer; begin read(i); write(i:1) end.
abbrev tree1 : Plain
tree1 = program (name "e" (node kind.Heads (name "input" (name "output" Nil)) (node kind.Block (node kind.Consts Nil (node kind.Types Nil (node kind.Vars (node kind.Vardef (node kind.Names (name "i" Nil) (node kind.Tname (name "integer" Nil) Nil)) Nil) (node kind.Routines Nil (node kind.Compound (node kind.Stmts (node kind.Proc (name "read" (node kind.Args (node kind.Ref (name "i" Nil) Nil) Nil)) (node kind.Proc (name "write" (node kind.Args (node kind.Width (node kind.Ref (name "i" Nil) (word kind.Number "1" Nil Nil)) Nil) Nil)) Nil)) Nil) Nil))))) Nil)))

holds1 : differs tree1 ([]) ≡ Equal
unfolding differs
holds1 = refl

-- A program with an if.
--   program f; var a, b: integer; begin if a > 0 then b := 1 else b := 2 end.
abbrev tree2 : Plain
tree2 = program (name "f" (node kind.Heads Nil (node kind.Block (node kind.Consts Nil (node kind.Types Nil (node kind.Vars (node kind.Vardef (node kind.Names (name "a" (name "b" Nil)) (node kind.Tname (name "integer" Nil) Nil)) Nil) (node kind.Routines Nil (node kind.Compound (node kind.Stmts (node kind.Ifelse (word kind.Rel ">" (node kind.Ref (name "a" Nil) (word kind.Number "0" Nil Nil)) (node kind.Assign (node kind.Ref (name "b" Nil) (word kind.Number "1" Nil Nil)) (node kind.Assign (node kind.Ref (name "b" Nil) (word kind.Number "2" Nil Nil)) Nil))) Nil) Nil) Nil))))) Nil)))

holds2 : differs tree2 ([]) ≡ Equal
unfolding differs
holds2 = refl

-- A program with an endless loop.
--   program g; begin while true do end.
abbrev tree3 : Plain
tree3 = program (name "g" (node kind.Heads Nil (node kind.Block (node kind.Consts Nil (node kind.Types Nil (node kind.Vars Nil (node kind.Routines Nil (node kind.Compound (node kind.Stmts (node kind.While (node kind.Ref (name "true" Nil) (node kind.Empty Nil Nil)) Nil) Nil) Nil))))) Nil)))

holds3 : differs tree3 ([]) ≡ Equal
unfolding differs
holds3 = refl

-- A program with a function that calls itself.
--   program h; var x: integer; function f(n: integer): integer; begin if n = 0 then f := 0 else begin x := x + n; f := n + f(n - 1) end end; begin x := 1;
--   write(f(2) + x + f(1):4) end.
abbrev tree4 : Plain
tree4 = program (name "h" (node kind.Heads Nil (node kind.Block (node kind.Consts Nil (node kind.Types Nil (node kind.Vars (node kind.Vardef (node kind.Names (name "x" Nil) (node kind.Tname (name "integer" Nil) Nil)) Nil) (node kind.Routines (node kind.Function (name "f" (node kind.Params (node kind.Valparam (node kind.Names (name "n" Nil) (name "integer" Nil)) Nil) (name "integer" (node kind.Block (node kind.Consts Nil (node kind.Types Nil (node kind.Vars Nil (node kind.Routines Nil (node kind.Compound (node kind.Stmts (node kind.Ifelse (word kind.Rel "=" (node kind.Ref (name "n" Nil) (word kind.Number "0" Nil Nil)) (node kind.Assign (node kind.Ref (name "f" Nil) (word kind.Number "0" Nil Nil)) (node kind.Compound (node kind.Stmts (node kind.Assign (node kind.Ref (name "x" Nil) (word kind.Add "+" (node kind.Ref (name "x" Nil) (node kind.Ref (name "n" Nil) Nil)) Nil)) (node kind.Assign (node kind.Ref (name "f" Nil) (word kind.Add "+" (node kind.Ref (name "n" Nil) (node kind.Call (name "f" (node kind.Exprs (word kind.Add "-" (node kind.Ref (name "n" Nil) (word kind.Number "1" Nil Nil)) Nil) Nil)) Nil)) Nil)) Nil)) Nil) Nil))) Nil) Nil) Nil))))) Nil)))) Nil) (node kind.Compound (node kind.Stmts (node kind.Assign (node kind.Ref (name "x" Nil) (word kind.Number "1" Nil Nil)) (node kind.Proc (name "write" (node kind.Args (node kind.Width (word kind.Add "+" (word kind.Add "+" (node kind.Call (name "f" (node kind.Exprs (word kind.Number "2" Nil Nil) Nil)) (node kind.Ref (name "x" Nil) Nil)) (node kind.Call (name "f" (node kind.Exprs (word kind.Number "1" Nil Nil) Nil)) Nil)) (word kind.Number "4" Nil Nil)) Nil) Nil)) Nil)) Nil) Nil))))) Nil)))

holds4 : differs tree4 ([]) ≡ Equal
unfolding differs
holds4 = refl

-- A program with an undeclared name, types that don't agree, and a hole.
--   program j; var x: integer; begin x := y; x := true; ?statement end.
abbrev tree5 : Plain
tree5 = program (name "j" (node kind.Heads Nil (node kind.Block (node kind.Consts Nil (node kind.Types Nil (node kind.Vars (node kind.Vardef (node kind.Names (name "x" Nil) (node kind.Tname (name "integer" Nil) Nil)) Nil) (node kind.Routines Nil (node kind.Compound (node kind.Stmts (node kind.Assign (node kind.Ref (name "x" Nil) (node kind.Ref (name "y" Nil) Nil)) (node kind.Assign (node kind.Ref (name "x" Nil) (node kind.Ref (name "true" Nil) Nil)) (node (kind.Hole sort.Statement) Nil Nil))) Nil) Nil))))) Nil)))

holds5 : differs tree5 (entry (3 ∷ 5 ∷ 1 ∷ 1 ∷ 2 ∷ 1 ∷ []) 1 "not declared: y" ∷ entry (3 ∷ 5 ∷ 1 ∷ 2 ∷ []) 11 "types do not agree" ∷ []) ≡ Equal
unfolding differs
holds5 = refl

-- A program with pointers.
--   program k; type link = ^node; node = record v: integer; next: link end; var p, q: link; begin new(p); p^.v := 7; p^.next := nil; q := p; dispose(p);
--   write(q^.v) end.
abbrev tree6 : Plain
tree6 = program (name "k" (node kind.Heads Nil (node kind.Block (node kind.Consts Nil (node kind.Types (node kind.Typedef (name "link" (node kind.Pointer (name "node" Nil) Nil)) (node kind.Typedef (name "node" (node kind.Record (node kind.Fields (node kind.Field (node kind.Names (name "v" Nil) (node kind.Tname (name "integer" Nil) Nil)) (node kind.Field (node kind.Names (name "next" Nil) (node kind.Tname (name "link" Nil) Nil)) Nil)) Nil) Nil)) Nil)) (node kind.Vars (node kind.Vardef (node kind.Names (name "p" (name "q" Nil)) (node kind.Tname (name "link" Nil) Nil)) Nil) (node kind.Routines Nil (node kind.Compound (node kind.Stmts (node kind.Proc (name "new" (node kind.Args (node kind.Ref (name "p" Nil) Nil) Nil)) (node kind.Assign (node kind.Select (node kind.Deref (node kind.Ref (name "p" Nil) Nil) (name "v" Nil)) (word kind.Number "7" Nil Nil)) (node kind.Assign (node kind.Select (node kind.Deref (node kind.Ref (name "p" Nil) Nil) (name "next" Nil)) (node kind.Nil Nil Nil)) (node kind.Assign (node kind.Ref (name "q" Nil) (node kind.Ref (name "p" Nil) Nil)) (node kind.Proc (name "dispose" (node kind.Args (node kind.Ref (name "p" Nil) Nil) Nil)) (node kind.Proc (name "write" (node kind.Args (node kind.Select (node kind.Deref (node kind.Ref (name "q" Nil) Nil) (name "v" Nil)) Nil) Nil)) Nil)))))) Nil) Nil))))) Nil)))

holds6 : differs tree6 ([]) ≡ Equal
unfolding differs
holds6 = refl

-- A program with routines in one another, records, strings, with and case.
--   program marks(input, output); { Reads marks and prints a table } const max = 3; type grade = (low, mid, high); pupil = record name: packed array
--   [1..4] of char; mark: 0..100; level: grade end; var list: array [1..max] of pupil; i, sum: integer; function rank(m: integer): grade; begin if m < 40
--   then rank := low else if m < 70 then rank := mid else rank := high end; procedure fill(var p: pupil); procedure letters; var k: integer; begin for k
--   := 1 to 4 do read(p.name[k]) end; begin letters; readln(p.mark); p.level := rank(p.mark) end; begin sum := 0; for i := 1 to max do begin
--   fill(list[i]); sum := sum + list[i].mark end; (* the table *) for i := 1 to max do with list[i] do begin write(name, mark:4); case level of low:
--   writeln(' low'); mid: writeln(' mid'); high: writeln(' high') end end; writeln('sum', sum:5) end.
abbrev tree7 : Plain
tree7 = program (name "marks" (node kind.Heads (name "input" (name "output" Nil)) (node kind.Block (node kind.Consts (node kind.Constdef (name "max" (word kind.Cnumber "3" Nil Nil)) Nil) (node kind.Types (node kind.Typedef (name "grade" (node kind.Enum (node kind.Names (name "low" (name "mid" (name "high" Nil))) Nil) Nil)) (node kind.Typedef (name "pupil" (node kind.Record (node kind.Fields (node kind.Field (node kind.Names (name "name" Nil) (node kind.Packed (node kind.Array (node kind.Indexes (node kind.Subrange (word kind.Cnumber "1" Nil (word kind.Cnumber "4" Nil Nil)) Nil) (node kind.Tname (name "char" Nil) Nil)) Nil) Nil)) (node kind.Field (node kind.Names (name "mark" Nil) (node kind.Subrange (word kind.Cnumber "0" Nil (word kind.Cnumber "100" Nil Nil)) Nil)) (node kind.Field (node kind.Names (name "level" Nil) (node kind.Tname (name "grade" Nil) Nil)) Nil))) Nil) Nil)) Nil)) (node kind.Vars (node kind.Vardef (node kind.Names (name "list" Nil) (node kind.Array (node kind.Indexes (node kind.Subrange (word kind.Cnumber "1" Nil (node kind.Cname (name "max" Nil) Nil)) Nil) (node kind.Tname (name "pupil" Nil) Nil)) Nil)) (node kind.Vardef (node kind.Names (name "i" (name "sum" Nil)) (node kind.Tname (name "integer" Nil) Nil)) Nil)) (node kind.Routines (node kind.Function (name "rank" (node kind.Params (node kind.Valparam (node kind.Names (name "m" Nil) (name "integer" Nil)) Nil) (name "grade" (node kind.Block (node kind.Consts Nil (node kind.Types Nil (node kind.Vars Nil (node kind.Routines Nil (node kind.Compound (node kind.Stmts (node kind.Ifelse (word kind.Rel "<" (node kind.Ref (name "m" Nil) (word kind.Number "40" Nil Nil)) (node kind.Assign (node kind.Ref (name "rank" Nil) (node kind.Ref (name "low" Nil) Nil)) (node kind.Ifelse (word kind.Rel "<" (node kind.Ref (name "m" Nil) (word kind.Number "70" Nil Nil)) (node kind.Assign (node kind.Ref (name "rank" Nil) (node kind.Ref (name "mid" Nil) Nil)) (node kind.Assign (node kind.Ref (name "rank" Nil) (node kind.Ref (name "high" Nil) Nil)) Nil))) Nil))) Nil) Nil) Nil))))) Nil)))) (node kind.Procedure (name "fill" (node kind.Params (node kind.Varparam (node kind.Names (name "p" Nil) (name "pupil" Nil)) Nil) (node kind.Block (node kind.Consts Nil (node kind.Types Nil (node kind.Vars Nil (node kind.Routines (node kind.Procedure (name "letters" (node kind.Params Nil (node kind.Block (node kind.Consts Nil (node kind.Types Nil (node kind.Vars (node kind.Vardef (node kind.Names (name "k" Nil) (node kind.Tname (name "integer" Nil) Nil)) Nil) (node kind.Routines Nil (node kind.Compound (node kind.Stmts (word kind.For "to" (name "k" (word kind.Number "1" Nil (word kind.Number "4" Nil (node kind.Proc (name "read" (node kind.Args (node kind.Index (node kind.Select (node kind.Ref (name "p" Nil) (name "name" Nil)) (node kind.Exprs (node kind.Ref (name "k" Nil) Nil) Nil)) Nil) Nil)) Nil)))) Nil) Nil) Nil))))) Nil))) Nil) (node kind.Compound (node kind.Stmts (node kind.Proc (name "letters" (node kind.Args Nil Nil)) (node kind.Proc (name "readln" (node kind.Args (node kind.Select (node kind.Ref (name "p" Nil) (name "mark" Nil)) Nil) Nil)) (node kind.Assign (node kind.Select (node kind.Ref (name "p" Nil) (name "level" Nil)) (node kind.Call (name "rank" (node kind.Exprs (node kind.Select (node kind.Ref (name "p" Nil) (name "mark" Nil)) Nil) Nil)) Nil)) Nil))) Nil) Nil))))) Nil))) Nil)) (node kind.Compound (node kind.Stmts (node kind.Assign (node kind.Ref (name "sum" Nil) (word kind.Number "0" Nil Nil)) (word kind.For "to" (name "i" (word kind.Number "1" Nil (node kind.Ref (name "max" Nil) (node kind.Compound (node kind.Stmts (node kind.Proc (name "fill" (node kind.Args (node kind.Index (node kind.Ref (name "list" Nil) (node kind.Exprs (node kind.Ref (name "i" Nil) Nil) Nil)) Nil) Nil)) (node kind.Assign (node kind.Ref (name "sum" Nil) (word kind.Add "+" (node kind.Ref (name "sum" Nil) (node kind.Select (node kind.Index (node kind.Ref (name "list" Nil) (node kind.Exprs (node kind.Ref (name "i" Nil) Nil) Nil)) (name "mark" Nil)) Nil)) Nil)) Nil)) Nil) Nil)))) (word kind.For "to" (name "i" (word kind.Number "1" Nil (node kind.Ref (name "max" Nil) (node kind.With (node kind.Accesses (node kind.Index (node kind.Ref (name "list" Nil) (node kind.Exprs (node kind.Ref (name "i" Nil) Nil) Nil)) Nil) (node kind.Compound (node kind.Stmts (node kind.Proc (name "write" (node kind.Args (node kind.Ref (name "name" Nil) (node kind.Width (node kind.Ref (name "mark" Nil) (word kind.Number "4" Nil Nil)) Nil)) Nil)) (node kind.Case (node kind.Ref (name "level" Nil) (node kind.Arms (node kind.Arm (node kind.Labels (node kind.Cname (name "low" Nil) Nil) (node kind.Proc (name "writeln" (node kind.Args (word kind.Text "' low'" Nil Nil) Nil)) Nil)) (node kind.Arm (node kind.Labels (node kind.Cname (name "mid" Nil) Nil) (node kind.Proc (name "writeln" (node kind.Args (word kind.Text "' mid'" Nil Nil) Nil)) Nil)) (node kind.Arm (node kind.Labels (node kind.Cname (name "high" Nil) Nil) (node kind.Proc (name "writeln" (node kind.Args (word kind.Text "' high'" Nil Nil) Nil)) Nil)) Nil))) Nil)) Nil)) Nil) Nil)) Nil)))) (node kind.Proc (name "writeln" (node kind.Args (word kind.Text "'sum'" Nil (node kind.Width (node kind.Ref (name "sum" Nil) (word kind.Number "5" Nil Nil)) Nil)) Nil)) Nil)))) Nil) Nil))))) Nil)))

holds7 : differs tree7 ([]) ≡ Equal
unfolding differs
holds7 = refl

-- what names mean in it
looked_up7 : first_wrong tree7 (query "max" (3 ∷ 1 ∷ 1 ∷ 1 ∷ []) (LaterAt (3 ∷ 1 ∷ 1 ∷ 1 ∷ [])) ∷ query "name" (3 ∷ 2 ∷ 2 ∷ 2 ∷ 1 ∷ 1 ∷ 1 ∷ 1 ∷ []) MissingAt ∷ query "max" (3 ∷ 3 ∷ 1 ∷ 2 ∷ 1 ∷ 1 ∷ 2 ∷ 1 ∷ []) (HereAt (3 ∷ 1 ∷ 1 ∷ 1 ∷ [])) ∷ query "m" (3 ∷ 4 ∷ 1 ∷ 2 ∷ 1 ∷ 1 ∷ 1 ∷ []) MissingAt ∷ query "m" (3 ∷ 4 ∷ 1 ∷ 4 ∷ 5 ∷ 1 ∷ 1 ∷ 3 ∷ 1 ∷ 1 ∷ 1 ∷ []) (HereAt (3 ∷ 4 ∷ 1 ∷ 2 ∷ 1 ∷ 1 ∷ 1 ∷ [])) ∷ query "p" (3 ∷ 4 ∷ 2 ∷ 2 ∷ 1 ∷ 1 ∷ 1 ∷ []) MissingAt ∷ query "read" (3 ∷ 4 ∷ 2 ∷ 3 ∷ 4 ∷ 1 ∷ 3 ∷ 5 ∷ 1 ∷ 1 ∷ 4 ∷ 1 ∷ []) RequiredAt ∷ query "p" (3 ∷ 4 ∷ 2 ∷ 3 ∷ 5 ∷ 1 ∷ 2 ∷ 2 ∷ 1 ∷ 1 ∷ 1 ∷ []) (HereAt (3 ∷ 4 ∷ 2 ∷ 2 ∷ 1 ∷ 1 ∷ 1 ∷ [])) ∷ query "mark" (3 ∷ 4 ∷ 2 ∷ 3 ∷ 5 ∷ 1 ∷ 3 ∷ 2 ∷ 2 ∷ 1 ∷ 2 ∷ []) MissingAt ∷ query "i" (3 ∷ 5 ∷ 1 ∷ 2 ∷ 4 ∷ 1 ∷ 1 ∷ 2 ∷ 1 ∷ 2 ∷ 1 ∷ 1 ∷ []) (HereAt (3 ∷ 3 ∷ 2 ∷ 1 ∷ 1 ∷ [])) ∷ query "i" (3 ∷ 5 ∷ 1 ∷ 3 ∷ 1 ∷ []) (HereAt (3 ∷ 3 ∷ 2 ∷ 1 ∷ 1 ∷ [])) ∷ query "mark" (3 ∷ 5 ∷ 1 ∷ 3 ∷ 4 ∷ 2 ∷ 1 ∷ 1 ∷ 2 ∷ 2 ∷ 1 ∷ 1 ∷ []) MissingAt ∷ query "high" (3 ∷ 5 ∷ 1 ∷ 3 ∷ 4 ∷ 2 ∷ 1 ∷ 2 ∷ 2 ∷ 3 ∷ 1 ∷ 1 ∷ 1 ∷ []) (HereAt (3 ∷ 2 ∷ 1 ∷ 2 ∷ 1 ∷ 3 ∷ [])) ∷ query "MAX" (3 ∷ 4 ∷ 2 ∷ 3 ∷ 4 ∷ 1 ∷ 3 ∷ 5 ∷ []) (HereAt (3 ∷ 1 ∷ 1 ∷ 1 ∷ [])) ∷ query "GRADE" (3 ∷ 4 ∷ 2 ∷ 3 ∷ 4 ∷ 1 ∷ 3 ∷ 5 ∷ []) (HereAt (3 ∷ 2 ∷ 1 ∷ 1 ∷ [])) ∷ query "LOW" (3 ∷ 4 ∷ 2 ∷ 3 ∷ 4 ∷ 1 ∷ 3 ∷ 5 ∷ []) (HereAt (3 ∷ 2 ∷ 1 ∷ 2 ∷ 1 ∷ 1 ∷ [])) ∷ query "MID" (3 ∷ 4 ∷ 2 ∷ 3 ∷ 4 ∷ 1 ∷ 3 ∷ 5 ∷ []) (HereAt (3 ∷ 2 ∷ 1 ∷ 2 ∷ 1 ∷ 2 ∷ [])) ∷ query "Integer" (3 ∷ 5 ∷ []) RequiredAt ∷ query "zz" (3 ∷ 5 ∷ []) MissingAt ∷ query "MAX" (2 ∷ []) MissingAt ∷ []) ≡ 0
unfolding first_wrong
looked_up7 = refl
