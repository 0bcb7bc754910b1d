-- Programs with many errors, and without: programs with the errors that they have.
use Rattle.std.specs.Prelude.{◌≡◌, [], ◌∷◌}
use Rattle.std.proofs.Common.{refl}
use Rattle.pc_syntax.specs.Plain.{Nil, Plain}
use Rattle.pc_syntax.specs.declared.kind.Kind.TheVariants as kind
use Rattle.pc_syntax.specs.declared.sort.Sort.TheVariants as sort
use Rattle.pc_rule_cases.specs.Trees.{program, node, name, word}
use Rattle.pc_rule_cases.specs.Compare.{Equal, entry, differs}
use Rattle.pc_rule_cases.specs.Lookups.{HereAt, LaterAt, MissingAt, RequiredAt, query, first_wrong}

-- Arguments of read and write: files, values that can't be read or written, widths.
--   program a; var r: record end; b: boolean; e: (x, y); s: packed array [1..4] of char; i: integer; begin read; read(input); readln; readln(input, i);
--   read(output, i); read(b); read(e); read(1); read(i:2); write; write(output); writeln(output, i); writeln(i, output); write(r); write(e); write(s:3,
--   i:2, b:b, 'x':'y'); write(input); b := eof; b := eof(input); b := eoln(output); b := eof(i); b := eof(input, i); i := input; read(i+1) end.
abbrev tree1 : Plain
tree1 = program (name "a" (node kind.Heads Nil (node kind.Block (node kind.Consts Nil (node kind.Types Nil (node kind.Vars (node kind.Vardef (node kind.Names (name "r" Nil) (node kind.Record0 Nil Nil)) (node kind.Vardef (node kind.Names (name "b" Nil) (node kind.Tname (name "boolean" Nil) Nil)) (node kind.Vardef (node kind.Names (name "e" Nil) (node kind.Enum (node kind.Names (name "x" (name "y" Nil)) Nil) Nil)) (node kind.Vardef (node kind.Names (name "s" Nil) (node kind.Packed (node kind.Array (node kind.Indexes (node kind.Subrange (word kind.Cnumber "1" Nil (word kind.Cnumber "4" Nil Nil)) Nil) (node kind.Tname (name "char" Nil) Nil)) Nil) Nil)) (node kind.Vardef (node kind.Names (name "i" Nil) (node kind.Tname (name "integer" Nil) Nil)) Nil))))) (node kind.Routines Nil (node kind.Compound (node kind.Stmts (node kind.Proc (name "read" (node kind.Args Nil Nil)) (node kind.Proc (name "read" (node kind.Args (node kind.Ref (name "input" Nil) Nil) Nil)) (node kind.Proc (name "readln" (node kind.Args Nil Nil)) (node kind.Proc (name "readln" (node kind.Args (node kind.Ref (name "input" Nil) (node kind.Ref (name "i" Nil) Nil)) Nil)) (node kind.Proc (name "read" (node kind.Args (node kind.Ref (name "output" Nil) (node kind.Ref (name "i" Nil) Nil)) Nil)) (node kind.Proc (name "read" (node kind.Args (node kind.Ref (name "b" Nil) Nil) Nil)) (node kind.Proc (name "read" (node kind.Args (node kind.Ref (name "e" Nil) Nil) Nil)) (node kind.Proc (name "read" (node kind.Args (word kind.Number "1" Nil Nil) Nil)) (node kind.Proc (name "read" (node kind.Args (node kind.Width (node kind.Ref (name "i" Nil) (word kind.Number "2" Nil Nil)) Nil) Nil)) (node kind.Proc (name "write" (node kind.Args Nil Nil)) (node kind.Proc (name "write" (node kind.Args (node kind.Ref (name "output" Nil) Nil) Nil)) (node kind.Proc (name "writeln" (node kind.Args (node kind.Ref (name "output" Nil) (node kind.Ref (name "i" Nil) Nil)) Nil)) (node kind.Proc (name "writeln" (node kind.Args (node kind.Ref (name "i" Nil) (node kind.Ref (name "output" Nil) Nil)) Nil)) (node kind.Proc (name "write" (node kind.Args (node kind.Ref (name "r" Nil) Nil) Nil)) (node kind.Proc (name "write" (node kind.Args (node kind.Ref (name "e" Nil) Nil) Nil)) (node kind.Proc (name "write" (node kind.Args (node kind.Width (node kind.Ref (name "s" Nil) (word kind.Number "3" Nil Nil)) (node kind.Width (node kind.Ref (name "i" Nil) (word kind.Number "2" Nil Nil)) (node kind.Width (node kind.Ref (name "b" Nil) (node kind.Ref (name "b" Nil) Nil)) (node kind.Width (word kind.Text "'x'" Nil (word kind.Text "'y'" Nil Nil)) Nil)))) Nil)) (node kind.Proc (name "write" (node kind.Args (node kind.Ref (name "input" Nil) Nil) Nil)) (node kind.Assign (node kind.Ref (name "b" Nil) (node kind.Ref (name "eof" Nil) Nil)) (node kind.Assign (node kind.Ref (name "b" Nil) (node kind.Call (name "eof" (node kind.Exprs (node kind.Ref (name "input" Nil) Nil) Nil)) Nil)) (node kind.Assign (node kind.Ref (name "b" Nil) (node kind.Call (name "eoln" (node kind.Exprs (node kind.Ref (name "output" Nil) Nil) Nil)) Nil)) (node kind.Assign (node kind.Ref (name "b" Nil) (node kind.Call (name "eof" (node kind.Exprs (node kind.Ref (name "i" Nil) Nil) Nil)) Nil)) (node kind.Assign (node kind.Ref (name "b" Nil) (node kind.Call (name "eof" (node kind.Exprs (node kind.Ref (name "input" Nil) (node kind.Ref (name "i" Nil) Nil)) Nil)) Nil)) (node kind.Assign (node kind.Ref (name "i" Nil) (node kind.Ref (name "input" Nil) Nil)) (node kind.Proc (name "read" (node kind.Args (word kind.Add "+" (node kind.Ref (name "i" Nil) (word kind.Number "1" Nil Nil)) Nil) Nil)) Nil)))))))))))))))))))))))) Nil) Nil))))) Nil)))

holds1 : differs tree1 (entry (3 ∷ 5 ∷ 1 ∷ 1 ∷ []) 12 "wrong number of arguments" ∷ entry (3 ∷ 5 ∷ 1 ∷ 2 ∷ []) 12 "wrong number of arguments" ∷ entry (3 ∷ 5 ∷ 1 ∷ 5 ∷ 2 ∷ 1 ∷ 1 ∷ []) 4 "not a variable: output" ∷ entry (3 ∷ 5 ∷ 1 ∷ 6 ∷ 2 ∷ 1 ∷ []) 23 "cannot be read" ∷ entry (3 ∷ 5 ∷ 1 ∷ 7 ∷ 2 ∷ 1 ∷ []) 23 "cannot be read" ∷ entry (3 ∷ 5 ∷ 1 ∷ 8 ∷ 2 ∷ 1 ∷ []) 13 "not a variable" ∷ entry (3 ∷ 5 ∷ 1 ∷ 9 ∷ 2 ∷ 1 ∷ []) 13 "not a variable" ∷ entry (3 ∷ 5 ∷ 1 ∷ 9 ∷ 2 ∷ 1 ∷ []) 24 "width not allowed" ∷ entry (3 ∷ 5 ∷ 1 ∷ 10 ∷ []) 12 "wrong number of arguments" ∷ entry (3 ∷ 5 ∷ 1 ∷ 11 ∷ []) 12 "wrong number of arguments" ∷ entry (3 ∷ 5 ∷ 1 ∷ 13 ∷ 2 ∷ 2 ∷ 1 ∷ []) 4 "not a variable: output" ∷ entry (3 ∷ 5 ∷ 1 ∷ 14 ∷ 2 ∷ 1 ∷ []) 23 "cannot be written" ∷ entry (3 ∷ 5 ∷ 1 ∷ 15 ∷ 2 ∷ 1 ∷ []) 23 "cannot be written" ∷ entry (3 ∷ 5 ∷ 1 ∷ 16 ∷ 2 ∷ 3 ∷ []) 24 "width not allowed" ∷ entry (3 ∷ 5 ∷ 1 ∷ 16 ∷ 2 ∷ 4 ∷ []) 24 "width not allowed" ∷ entry (3 ∷ 5 ∷ 1 ∷ 17 ∷ 2 ∷ 1 ∷ 1 ∷ []) 4 "not a variable: input" ∷ entry (3 ∷ 5 ∷ 1 ∷ 20 ∷ 2 ∷ 2 ∷ 1 ∷ 1 ∷ []) 4 "not a variable: output" ∷ entry (3 ∷ 5 ∷ 1 ∷ 21 ∷ 2 ∷ []) 11 "types do not agree" ∷ entry (3 ∷ 5 ∷ 1 ∷ 22 ∷ 2 ∷ []) 12 "wrong number of arguments" ∷ entry (3 ∷ 5 ∷ 1 ∷ 23 ∷ 2 ∷ 1 ∷ []) 4 "not a variable: input" ∷ entry (3 ∷ 5 ∷ 1 ∷ 24 ∷ 2 ∷ 1 ∷ []) 13 "not a variable" ∷ []) ≡ Equal
unfolding differs
holds1 = refl

-- Arguments of the required functions, with holes among them.
--   program a; var i: integer; c: char; b: boolean; e: (x, y); begin i := abs; i := abs(c); i := abs(1, 2); i := sqr(-3); c := chr(1); c := chr(c); i :=
--   ord(e); i := ord('ab'); e := succ(e); e := pred(x); b := odd(1); b := odd(b); i := abs(?expression); i := ?expression + 1; i := c + ?expression; e :=
--   succ(1) end.
abbrev tree2 : Plain
tree2 = program (name "a" (node kind.Heads Nil (node kind.Block (node kind.Consts Nil (node kind.Types Nil (node kind.Vars (node kind.Vardef (node kind.Names (name "i" Nil) (node kind.Tname (name "integer" Nil) Nil)) (node kind.Vardef (node kind.Names (name "c" Nil) (node kind.Tname (name "char" Nil) Nil)) (node kind.Vardef (node kind.Names (name "b" Nil) (node kind.Tname (name "boolean" Nil) Nil)) (node kind.Vardef (node kind.Names (name "e" Nil) (node kind.Enum (node kind.Names (name "x" (name "y" Nil)) Nil) Nil)) Nil)))) (node kind.Routines Nil (node kind.Compound (node kind.Stmts (node kind.Assign (node kind.Ref (name "i" Nil) (node kind.Ref (name "abs" Nil) Nil)) (node kind.Assign (node kind.Ref (name "i" Nil) (node kind.Call (name "abs" (node kind.Exprs (node kind.Ref (name "c" Nil) Nil) Nil)) Nil)) (node kind.Assign (node kind.Ref (name "i" Nil) (node kind.Call (name "abs" (node kind.Exprs (word kind.Number "1" Nil (word kind.Number "2" Nil Nil)) Nil)) Nil)) (node kind.Assign (node kind.Ref (name "i" Nil) (node kind.Call (name "sqr" (node kind.Exprs (word kind.Sign "-" (word kind.Number "3" Nil Nil) Nil) Nil)) Nil)) (node kind.Assign (node kind.Ref (name "c" Nil) (node kind.Call (name "chr" (node kind.Exprs (word kind.Number "1" Nil Nil) Nil)) Nil)) (node kind.Assign (node kind.Ref (name "c" Nil) (node kind.Call (name "chr" (node kind.Exprs (node kind.Ref (name "c" Nil) Nil) Nil)) Nil)) (node kind.Assign (node kind.Ref (name "i" Nil) (node kind.Call (name "ord" (node kind.Exprs (node kind.Ref (name "e" Nil) Nil) Nil)) Nil)) (node kind.Assign (node kind.Ref (name "i" Nil) (node kind.Call (name "ord" (node kind.Exprs (word kind.Text "'ab'" Nil Nil) Nil)) Nil)) (node kind.Assign (node kind.Ref (name "e" Nil) (node kind.Call (name "succ" (node kind.Exprs (node kind.Ref (name "e" Nil) Nil) Nil)) Nil)) (node kind.Assign (node kind.Ref (name "e" Nil) (node kind.Call (name "pred" (node kind.Exprs (node kind.Ref (name "x" Nil) Nil) Nil)) Nil)) (node kind.Assign (node kind.Ref (name "b" Nil) (node kind.Call (name "odd" (node kind.Exprs (word kind.Number "1" Nil Nil) Nil)) Nil)) (node kind.Assign (node kind.Ref (name "b" Nil) (node kind.Call (name "odd" (node kind.Exprs (node kind.Ref (name "b" Nil) Nil) Nil)) Nil)) (node kind.Assign (node kind.Ref (name "i" Nil) (node kind.Call (name "abs" (node kind.Exprs (node (kind.Hole sort.Expression) Nil Nil) Nil)) Nil)) (node kind.Assign (node kind.Ref (name "i" Nil) (word kind.Add "+" (node (kind.Hole sort.Expression) Nil (word kind.Number "1" Nil Nil)) Nil)) (node kind.Assign (node kind.Ref (name "i" Nil) (word kind.Add "+" (node kind.Ref (name "c" Nil) (node (kind.Hole sort.Expression) Nil Nil)) Nil)) (node kind.Assign (node kind.Ref (name "e" Nil) (node kind.Call (name "succ" (node kind.Exprs (word kind.Number "1" Nil Nil) Nil)) Nil)) Nil)))))))))))))))) Nil) Nil))))) Nil)))

holds2 : differs tree2 (entry (3 ∷ 5 ∷ 1 ∷ 1 ∷ 2 ∷ []) 12 "wrong number of arguments" ∷ entry (3 ∷ 5 ∷ 1 ∷ 2 ∷ 2 ∷ []) 11 "types do not agree" ∷ entry (3 ∷ 5 ∷ 1 ∷ 3 ∷ 2 ∷ []) 12 "wrong number of arguments" ∷ entry (3 ∷ 5 ∷ 1 ∷ 6 ∷ 2 ∷ []) 11 "types do not agree" ∷ entry (3 ∷ 5 ∷ 1 ∷ 8 ∷ 2 ∷ []) 11 "types do not agree" ∷ entry (3 ∷ 5 ∷ 1 ∷ 12 ∷ 2 ∷ []) 11 "types do not agree" ∷ entry (3 ∷ 5 ∷ 1 ∷ 16 ∷ []) 11 "types do not agree" ∷ []) ≡ Equal
unfolding differs
holds2 = refl

-- Names of another class where a constant, a type or a procedure is needed.
--   program a; const c = x; d = p; var x: integer; procedure q; begin p end; procedure p; begin end; begin end.
abbrev tree3 : Plain
tree3 = program (name "a" (node kind.Heads Nil (node kind.Block (node kind.Consts (node kind.Constdef (name "c" (node kind.Cname (name "x" Nil) Nil)) (node kind.Constdef (name "d" (node kind.Cname (name "p" Nil) Nil)) Nil)) (node kind.Types Nil (node kind.Vars (node kind.Vardef (node kind.Names (name "x" Nil) (node kind.Tname (name "integer" Nil) Nil)) Nil) (node kind.Routines (node kind.Procedure (name "q" (node kind.Params Nil (node kind.Block (node kind.Consts Nil (node kind.Types Nil (node kind.Vars Nil (node kind.Routines Nil (node kind.Compound (node kind.Stmts (node kind.Proc (name "p" (node kind.Args Nil Nil)) Nil) Nil) Nil))))) Nil))) (node kind.Procedure (name "p" (node kind.Params Nil (node kind.Block (node kind.Consts Nil (node kind.Types Nil (node kind.Vars Nil (node kind.Routines Nil (node kind.Compound (node kind.Stmts (node kind.Empty Nil Nil) Nil) Nil))))) Nil))) Nil)) (node kind.Compound (node kind.Stmts (node kind.Empty Nil Nil) Nil) Nil))))) Nil)))

holds3 : differs tree3 (entry (3 ∷ 1 ∷ 1 ∷ 2 ∷ 1 ∷ []) 2 "used before its declaration: x" ∷ entry (3 ∷ 1 ∷ 1 ∷ 2 ∷ 1 ∷ []) 4 "not a constant: x" ∷ entry (3 ∷ 1 ∷ 2 ∷ 2 ∷ 1 ∷ []) 2 "used before its declaration: p" ∷ entry (3 ∷ 1 ∷ 2 ∷ 2 ∷ 1 ∷ []) 4 "not a constant: p" ∷ entry (3 ∷ 4 ∷ 1 ∷ 3 ∷ 5 ∷ 1 ∷ 1 ∷ 1 ∷ []) 2 "used before its declaration: p" ∷ []) ≡ Equal
unfolding differs
holds3 = refl

-- Pointers: their domains, assignment, new and dispose, comparison.
--   program k; type link = ^node; node = record v: integer; next: link end; var p, q: link; i: integer; begin p^.v := 'a'; i^ := 1; p^^ := 2; p^.next^.v
--   := 1; new(i); new(p, q); dispose(i); dispose(nil); new(nil); dispose(p:1); new(q^); p := q^; p := nil; i := nil; if p = nil then; if p < q then; if p
--   = i then; p := p^.next end.
abbrev tree4 : Plain
tree4 = program (name "k" (node kind.Heads Nil (node kind.Block (node kind.Consts Nil (node kind.Types (node kind.Typedef (name "link" (node kind.Pointer (name "node" Nil) Nil)) (node kind.Typedef (name "node" (node kind.Record (node kind.Fields (node kind.Field (node kind.Names (name "v" Nil) (node kind.Tname (name "integer" Nil) Nil)) (node kind.Field (node kind.Names (name "next" Nil) (node kind.Tname (name "link" Nil) Nil)) Nil)) Nil) Nil)) Nil)) (node kind.Vars (node kind.Vardef (node kind.Names (name "p" (name "q" Nil)) (node kind.Tname (name "link" Nil) Nil)) (node kind.Vardef (node kind.Names (name "i" Nil) (node kind.Tname (name "integer" Nil) Nil)) Nil)) (node kind.Routines Nil (node kind.Compound (node kind.Stmts (node kind.Assign (node kind.Select (node kind.Deref (node kind.Ref (name "p" Nil) Nil) (name "v" Nil)) (word kind.Text "'a'" Nil Nil)) (node kind.Assign (node kind.Deref (node kind.Ref (name "i" Nil) Nil) (word kind.Number "1" Nil Nil)) (node kind.Assign (node kind.Deref (node kind.Deref (node kind.Ref (name "p" Nil) Nil) Nil) (word kind.Number "2" Nil Nil)) (node kind.Assign (node kind.Select (node kind.Deref (node kind.Select (node kind.Deref (node kind.Ref (name "p" Nil) Nil) (name "next" Nil)) Nil) (name "v" Nil)) (word kind.Number "1" Nil Nil)) (node kind.Proc (name "new" (node kind.Args (node kind.Ref (name "i" Nil) Nil) Nil)) (node kind.Proc (name "new" (node kind.Args (node kind.Ref (name "p" Nil) (node kind.Ref (name "q" Nil) Nil)) Nil)) (node kind.Proc (name "dispose" (node kind.Args (node kind.Ref (name "i" Nil) Nil) Nil)) (node kind.Proc (name "dispose" (node kind.Args (node kind.Nil Nil Nil) Nil)) (node kind.Proc (name "new" (node kind.Args (node kind.Nil Nil Nil) Nil)) (node kind.Proc (name "dispose" (node kind.Args (node kind.Width (node kind.Ref (name "p" Nil) (word kind.Number "1" Nil Nil)) Nil) Nil)) (node kind.Proc (name "new" (node kind.Args (node kind.Deref (node kind.Ref (name "q" Nil) Nil) Nil) Nil)) (node kind.Assign (node kind.Ref (name "p" Nil) (node kind.Deref (node kind.Ref (name "q" Nil) Nil) Nil)) (node kind.Assign (node kind.Ref (name "p" Nil) (node kind.Nil Nil Nil)) (node kind.Assign (node kind.Ref (name "i" Nil) (node kind.Nil Nil Nil)) (node kind.If (word kind.Rel "=" (node kind.Ref (name "p" Nil) (node kind.Nil Nil Nil)) (node kind.Empty Nil Nil)) (node kind.If (word kind.Rel "<" (node kind.Ref (name "p" Nil) (node kind.Ref (name "q" Nil) Nil)) (node kind.Empty Nil Nil)) (node kind.If (word kind.Rel "=" (node kind.Ref (name "p" Nil) (node kind.Ref (name "i" Nil) Nil)) (node kind.Empty Nil Nil)) (node kind.Assign (node kind.Ref (name "p" Nil) (node kind.Select (node kind.Deref (node kind.Ref (name "p" Nil) Nil) (name "next" Nil)) Nil)) Nil)))))))))))))))))) Nil) Nil))))) Nil)))

holds4 : differs tree4 (entry (3 ∷ 5 ∷ 1 ∷ 1 ∷ []) 11 "types do not agree" ∷ entry (3 ∷ 5 ∷ 1 ∷ 2 ∷ 1 ∷ 1 ∷ []) 15 "not a pointer" ∷ entry (3 ∷ 5 ∷ 1 ∷ 3 ∷ 1 ∷ 1 ∷ []) 15 "not a pointer" ∷ entry (3 ∷ 5 ∷ 1 ∷ 5 ∷ 2 ∷ 1 ∷ []) 15 "not a pointer" ∷ entry (3 ∷ 5 ∷ 1 ∷ 6 ∷ []) 12 "wrong number of arguments" ∷ entry (3 ∷ 5 ∷ 1 ∷ 7 ∷ 2 ∷ 1 ∷ []) 15 "not a pointer" ∷ entry (3 ∷ 5 ∷ 1 ∷ 9 ∷ 2 ∷ 1 ∷ []) 13 "not a variable" ∷ entry (3 ∷ 5 ∷ 1 ∷ 10 ∷ 2 ∷ 1 ∷ []) 24 "width not allowed" ∷ entry (3 ∷ 5 ∷ 1 ∷ 11 ∷ 2 ∷ 1 ∷ []) 15 "not a pointer" ∷ entry (3 ∷ 5 ∷ 1 ∷ 12 ∷ []) 11 "types do not agree" ∷ entry (3 ∷ 5 ∷ 1 ∷ 14 ∷ []) 11 "types do not agree" ∷ entry (3 ∷ 5 ∷ 1 ∷ 16 ∷ 1 ∷ []) 11 "types do not agree" ∷ entry (3 ∷ 5 ∷ 1 ∷ 17 ∷ 1 ∷ []) 11 "types do not agree" ∷ []) ≡ Equal
unfolding differs
holds4 = refl

-- what names mean in it
looked_up4 : first_wrong tree4 (query "link" (3 ∷ 2 ∷ 1 ∷ 1 ∷ []) (LaterAt (3 ∷ 2 ∷ 1 ∷ 1 ∷ [])) ∷ query "integer" (3 ∷ 2 ∷ 2 ∷ 2 ∷ 1 ∷ 1 ∷ 2 ∷ 1 ∷ []) RequiredAt ∷ query "q" (3 ∷ 3 ∷ 1 ∷ 1 ∷ 2 ∷ []) (HereAt (3 ∷ 3 ∷ 1 ∷ 1 ∷ 2 ∷ [])) ∷ query "p" (3 ∷ 5 ∷ 1 ∷ 1 ∷ 1 ∷ 1 ∷ 1 ∷ 1 ∷ []) (HereAt (3 ∷ 3 ∷ 1 ∷ 1 ∷ 1 ∷ [])) ∷ query "p" (3 ∷ 5 ∷ 1 ∷ 4 ∷ 1 ∷ 1 ∷ 1 ∷ 1 ∷ 1 ∷ 1 ∷ []) (HereAt (3 ∷ 3 ∷ 1 ∷ 1 ∷ 1 ∷ [])) ∷ query "i" (3 ∷ 5 ∷ 1 ∷ 5 ∷ 2 ∷ 1 ∷ 1 ∷ []) (HereAt (3 ∷ 3 ∷ 2 ∷ 1 ∷ 1 ∷ [])) ∷ query "dispose" (3 ∷ 5 ∷ 1 ∷ 7 ∷ 1 ∷ []) RequiredAt ∷ query "dispose" (3 ∷ 5 ∷ 1 ∷ 10 ∷ 1 ∷ []) RequiredAt ∷ query "p" (3 ∷ 5 ∷ 1 ∷ 12 ∷ 1 ∷ 1 ∷ []) (HereAt (3 ∷ 3 ∷ 1 ∷ 1 ∷ 1 ∷ [])) ∷ query "p" (3 ∷ 5 ∷ 1 ∷ 15 ∷ 1 ∷ 1 ∷ 1 ∷ []) (HereAt (3 ∷ 3 ∷ 1 ∷ 1 ∷ 1 ∷ [])) ∷ query "i" (3 ∷ 5 ∷ 1 ∷ 17 ∷ 1 ∷ 2 ∷ 1 ∷ []) (HereAt (3 ∷ 3 ∷ 2 ∷ 1 ∷ 1 ∷ [])) ∷ query "LINK" (3 ∷ 5 ∷ []) (HereAt (3 ∷ 2 ∷ 1 ∷ 1 ∷ [])) ∷ query "NODE" (3 ∷ 5 ∷ []) (HereAt (3 ∷ 2 ∷ 2 ∷ 1 ∷ [])) ∷ query "V" (3 ∷ 5 ∷ []) MissingAt ∷ query "INTEGER" (3 ∷ 5 ∷ []) RequiredAt ∷ query "Integer" (3 ∷ 5 ∷ []) RequiredAt ∷ query "zz" (3 ∷ 5 ∷ []) MissingAt ∷ query "LINK" (2 ∷ []) MissingAt ∷ []) ≡ 0
unfolding first_wrong
looked_up4 = refl

-- Pointer types with bad and with later domains.
--   program k; type l = ^n; n = record x: zork end; m = ^q; r = ^integer; s = ^z; q = integer; var p: l; x: m; y: r; z: s; w: ^y; begin p := nil; x := y;
--   new(p); y^ := x^; z := nil end.
abbrev tree5 : Plain
tree5 = program (name "k" (node kind.Heads Nil (node kind.Block (node kind.Consts Nil (node kind.Types (node kind.Typedef (name "l" (node kind.Pointer (name "n" Nil) Nil)) (node kind.Typedef (name "n" (node kind.Record (node kind.Fields (node kind.Field (node kind.Names (name "x" Nil) (node kind.Tname (name "zork" Nil) Nil)) Nil) Nil) Nil)) (node kind.Typedef (name "m" (node kind.Pointer (name "q" Nil) Nil)) (node kind.Typedef (name "r" (node kind.Pointer (name "integer" Nil) Nil)) (node kind.Typedef (name "s" (node kind.Pointer (name "z" Nil) Nil)) (node kind.Typedef (name "q" (node kind.Tname (name "integer" Nil) Nil)) Nil)))))) (node kind.Vars (node kind.Vardef (node kind.Names (name "p" Nil) (node kind.Tname (name "l" Nil) Nil)) (node kind.Vardef (node kind.Names (name "x" Nil) (node kind.Tname (name "m" Nil) Nil)) (node kind.Vardef (node kind.Names (name "y" Nil) (node kind.Tname (name "r" Nil) Nil)) (node kind.Vardef (node kind.Names (name "z" Nil) (node kind.Tname (name "s" Nil) Nil)) (node kind.Vardef (node kind.Names (name "w" Nil) (node kind.Pointer (name "y" Nil) Nil)) Nil))))) (node kind.Routines Nil (node kind.Compound (node kind.Stmts (node kind.Assign (node kind.Ref (name "p" Nil) (node kind.Nil Nil Nil)) (node kind.Assign (node kind.Ref (name "x" Nil) (node kind.Ref (name "y" Nil) Nil)) (node kind.Proc (name "new" (node kind.Args (node kind.Ref (name "p" Nil) Nil) Nil)) (node kind.Assign (node kind.Deref (node kind.Ref (name "y" Nil) Nil) (node kind.Deref (node kind.Ref (name "x" Nil) Nil) Nil)) (node kind.Assign (node kind.Ref (name "z" Nil) (node kind.Nil Nil Nil)) Nil))))) Nil) Nil))))) Nil)))

holds5 : differs tree5 (entry (3 ∷ 2 ∷ 2 ∷ 2 ∷ 1 ∷ 1 ∷ 2 ∷ 1 ∷ []) 1 "not declared: zork" ∷ entry (3 ∷ 2 ∷ 5 ∷ 2 ∷ 1 ∷ []) 2 "used before its declaration: z" ∷ entry (3 ∷ 2 ∷ 5 ∷ 2 ∷ 1 ∷ []) 4 "not a type: z" ∷ entry (3 ∷ 3 ∷ 5 ∷ 2 ∷ 1 ∷ []) 4 "not a type: y" ∷ entry (3 ∷ 5 ∷ 1 ∷ 2 ∷ []) 11 "types do not agree" ∷ []) ≡ Equal
unfolding differs
holds5 = refl

-- A set of a pointer type, inside the record to which the pointer leads.
--   program k; type link = ^node; node = record s: set of link end; var p: link; begin p := nil end.
abbrev tree6 : Plain
tree6 = program (name "k" (node kind.Heads Nil (node kind.Block (node kind.Consts Nil (node kind.Types (node kind.Typedef (name "link" (node kind.Pointer (name "node" Nil) Nil)) (node kind.Typedef (name "node" (node kind.Record (node kind.Fields (node kind.Field (node kind.Names (name "s" Nil) (node kind.Setof (node kind.Tname (name "link" Nil) Nil) Nil)) Nil) Nil) Nil)) Nil)) (node kind.Vars (node kind.Vardef (node kind.Names (name "p" Nil) (node kind.Tname (name "link" Nil) Nil)) Nil) (node kind.Routines Nil (node kind.Compound (node kind.Stmts (node kind.Assign (node kind.Ref (name "p" Nil) (node kind.Nil Nil Nil)) Nil) Nil) Nil))))) Nil)))

holds6 : differs tree6 (entry (3 ∷ 2 ∷ 2 ∷ 2 ∷ 1 ∷ 1 ∷ 2 ∷ 1 ∷ []) 8 "not an ordinal type" ∷ []) ≡ Equal
unfolding differs
holds6 = refl

-- A pointer type as a function's result type.
--   program k; type l = ^c; c = integer; function f: l; begin f := nil end; function g: c; begin g := f^ end; begin f^ := 1; if f = nil then end.
abbrev tree7 : Plain
tree7 = program (name "k" (node kind.Heads Nil (node kind.Block (node kind.Consts Nil (node kind.Types (node kind.Typedef (name "l" (node kind.Pointer (name "c" Nil) Nil)) (node kind.Typedef (name "c" (node kind.Tname (name "integer" Nil) Nil)) Nil)) (node kind.Vars Nil (node kind.Routines (node kind.Function (name "f" (node kind.Params Nil (name "l" (node kind.Block (node kind.Consts Nil (node kind.Types Nil (node kind.Vars Nil (node kind.Routines Nil (node kind.Compound (node kind.Stmts (node kind.Assign (node kind.Ref (name "f" Nil) (node kind.Nil Nil Nil)) Nil) Nil) Nil))))) Nil)))) (node kind.Function (name "g" (node kind.Params Nil (name "c" (node kind.Block (node kind.Consts Nil (node kind.Types Nil (node kind.Vars Nil (node kind.Routines Nil (node kind.Compound (node kind.Stmts (node kind.Assign (node kind.Ref (name "g" Nil) (node kind.Deref (node kind.Ref (name "f" Nil) Nil) Nil)) Nil) Nil) Nil))))) Nil)))) Nil)) (node kind.Compound (node kind.Stmts (node kind.Assign (node kind.Deref (node kind.Ref (name "f" Nil) Nil) (word kind.Number "1" Nil Nil)) (node kind.If (word kind.Rel "=" (node kind.Ref (name "f" Nil) (node kind.Nil Nil Nil)) (node kind.Empty Nil Nil)) Nil)) Nil) Nil))))) Nil)))

holds7 : differs tree7 (entry (3 ∷ 4 ∷ 2 ∷ 4 ∷ 5 ∷ 1 ∷ 1 ∷ 2 ∷ 1 ∷ 1 ∷ []) 4 "not a variable: f" ∷ entry (3 ∷ 5 ∷ 1 ∷ 1 ∷ 1 ∷ 1 ∷ 1 ∷ []) 4 "not a variable: f" ∷ []) ≡ Equal
unfolding differs
holds7 = refl

-- Components of what a pointer leads to as variable arguments.
--   program k; type t = packed record a: integer; p: ^integer end; q = ^t; var x: t; y: q; procedure w(var i: integer); begin end; begin w(x.p^); w(y^.a);
--   w(x.a); with y^ do w(a); w(y^.p^) end.
abbrev tree8 : Plain
tree8 = program (name "k" (node kind.Heads Nil (node kind.Block (node kind.Consts Nil (node kind.Types (node kind.Typedef (name "t" (node kind.Packed (node kind.Record (node kind.Fields (node kind.Field (node kind.Names (name "a" Nil) (node kind.Tname (name "integer" Nil) Nil)) (node kind.Field (node kind.Names (name "p" Nil) (node kind.Pointer (name "integer" Nil) Nil)) Nil)) Nil) Nil) Nil)) (node kind.Typedef (name "q" (node kind.Pointer (name "t" Nil) Nil)) Nil)) (node kind.Vars (node kind.Vardef (node kind.Names (name "x" Nil) (node kind.Tname (name "t" Nil) Nil)) (node kind.Vardef (node kind.Names (name "y" Nil) (node kind.Tname (name "q" Nil) Nil)) Nil)) (node kind.Routines (node kind.Procedure (name "w" (node kind.Params (node kind.Varparam (node kind.Names (name "i" Nil) (name "integer" Nil)) Nil) (node kind.Block (node kind.Consts Nil (node kind.Types Nil (node kind.Vars Nil (node kind.Routines Nil (node kind.Compound (node kind.Stmts (node kind.Empty Nil Nil) Nil) Nil))))) Nil))) Nil) (node kind.Compound (node kind.Stmts (node kind.Proc (name "w" (node kind.Args (node kind.Deref (node kind.Select (node kind.Ref (name "x" Nil) (name "p" Nil)) Nil) Nil) Nil)) (node kind.Proc (name "w" (node kind.Args (node kind.Select (node kind.Deref (node kind.Ref (name "y" Nil) Nil) (name "a" Nil)) Nil) Nil)) (node kind.Proc (name "w" (node kind.Args (node kind.Select (node kind.Ref (name "x" Nil) (name "a" Nil)) Nil) Nil)) (node kind.With (node kind.Accesses (node kind.Deref (node kind.Ref (name "y" Nil) Nil) Nil) (node kind.Proc (name "w" (node kind.Args (node kind.Ref (name "a" Nil) Nil) Nil)) Nil)) (node kind.Proc (name "w" (node kind.Args (node kind.Deref (node kind.Select (node kind.Deref (node kind.Ref (name "y" Nil) Nil) (name "p" Nil)) Nil) Nil) Nil)) Nil))))) Nil) Nil))))) Nil)))

holds8 : differs tree8 (entry (3 ∷ 5 ∷ 1 ∷ 2 ∷ 2 ∷ 1 ∷ []) 14 "component of a packed variable" ∷ entry (3 ∷ 5 ∷ 1 ∷ 3 ∷ 2 ∷ 1 ∷ []) 14 "component of a packed variable" ∷ entry (3 ∷ 5 ∷ 1 ∷ 4 ∷ 2 ∷ 2 ∷ 1 ∷ []) 14 "component of a packed variable" ∷ []) ≡ Equal
unfolding differs
holds8 = refl

-- The largest base of a set, and one over it.
--   program m; var s: set of 0..256; t: set of 0..255; begin s := [1]; t := [1] end.
abbrev tree9 : Plain
tree9 = program (name "m" (node kind.Heads Nil (node kind.Block (node kind.Consts Nil (node kind.Types Nil (node kind.Vars (node kind.Vardef (node kind.Names (name "s" Nil) (node kind.Setof (node kind.Subrange (word kind.Cnumber "0" Nil (word kind.Cnumber "256" Nil Nil)) Nil) Nil)) (node kind.Vardef (node kind.Names (name "t" Nil) (node kind.Setof (node kind.Subrange (word kind.Cnumber "0" Nil (word kind.Cnumber "255" Nil Nil)) Nil) Nil)) Nil)) (node kind.Routines Nil (node kind.Compound (node kind.Stmts (node kind.Assign (node kind.Ref (name "s" Nil) (node kind.Setcon (node kind.Members (word kind.Number "1" Nil Nil) Nil) Nil)) (node kind.Assign (node kind.Ref (name "t" Nil) (node kind.Setcon (node kind.Members (word kind.Number "1" Nil Nil) Nil) Nil)) Nil)) Nil) Nil))))) Nil)))

holds9 : differs tree9 (entry (3 ∷ 3 ∷ 1 ∷ 2 ∷ 1 ∷ []) 9 "set base too large" ∷ []) ≡ Equal
unfolding differs
holds9 = refl

-- Records with an error and holes: what has no type has no further entry.
--   program a; var r: record x: nope end; s: ?type; c: char; begin r.x := 1; r.y := 2; with r do x := 1; s := 1; c := s; c := 1 end.
abbrev tree10 : Plain
tree10 = program (name "a" (node kind.Heads Nil (node kind.Block (node kind.Consts Nil (node kind.Types Nil (node kind.Vars (node kind.Vardef (node kind.Names (name "r" Nil) (node kind.Record (node kind.Fields (node kind.Field (node kind.Names (name "x" Nil) (node kind.Tname (name "nope" Nil) Nil)) Nil) Nil) Nil)) (node kind.Vardef (node kind.Names (name "s" Nil) (node (kind.Hole sort.Denoter) Nil Nil)) (node kind.Vardef (node kind.Names (name "c" Nil) (node kind.Tname (name "char" Nil) Nil)) Nil))) (node kind.Routines Nil (node kind.Compound (node kind.Stmts (node kind.Assign (node kind.Select (node kind.Ref (name "r" Nil) (name "x" Nil)) (word kind.Number "1" Nil Nil)) (node kind.Assign (node kind.Select (node kind.Ref (name "r" Nil) (name "y" Nil)) (word kind.Number "2" Nil Nil)) (node kind.With (node kind.Accesses (node kind.Ref (name "r" Nil) Nil) (node kind.Assign (node kind.Ref (name "x" Nil) (word kind.Number "1" Nil Nil)) Nil)) (node kind.Assign (node kind.Ref (name "s" Nil) (word kind.Number "1" Nil Nil)) (node kind.Assign (node kind.Ref (name "c" Nil) (node kind.Ref (name "s" Nil) Nil)) (node kind.Assign (node kind.Ref (name "c" Nil) (word kind.Number "1" Nil Nil)) Nil)))))) Nil) Nil))))) Nil)))

holds10 : differs tree10 (entry (3 ∷ 3 ∷ 1 ∷ 2 ∷ 1 ∷ 1 ∷ 2 ∷ 1 ∷ []) 1 "not declared: nope" ∷ entry (3 ∷ 5 ∷ 1 ∷ 3 ∷ 2 ∷ 1 ∷ 1 ∷ []) 1 "not declared: x" ∷ entry (3 ∷ 5 ∷ 1 ∷ 6 ∷ []) 11 "types do not agree" ∷ []) ≡ Equal
unfolding differs
holds10 = refl

-- Enumerated constants and parameters that are declared twice.
--   program a; type e = (x, y, x); var v: e; procedure p(a, a: integer); begin end; begin v := x; v := y; p(1, 2); p(1) end.
abbrev tree11 : Plain
tree11 = program (name "a" (node kind.Heads Nil (node kind.Block (node kind.Consts Nil (node kind.Types (node kind.Typedef (name "e" (node kind.Enum (node kind.Names (name "x" (name "y" (name "x" Nil))) Nil) Nil)) Nil) (node kind.Vars (node kind.Vardef (node kind.Names (name "v" Nil) (node kind.Tname (name "e" Nil) Nil)) Nil) (node kind.Routines (node kind.Procedure (name "p" (node kind.Params (node kind.Valparam (node kind.Names (name "a" (name "a" Nil)) (name "integer" Nil)) Nil) (node kind.Block (node kind.Consts Nil (node kind.Types Nil (node kind.Vars Nil (node kind.Routines Nil (node kind.Compound (node kind.Stmts (node kind.Empty Nil Nil) Nil) Nil))))) Nil))) Nil) (node kind.Compound (node kind.Stmts (node kind.Assign (node kind.Ref (name "v" Nil) (node kind.Ref (name "x" Nil) Nil)) (node kind.Assign (node kind.Ref (name "v" Nil) (node kind.Ref (name "y" Nil) Nil)) (node kind.Proc (name "p" (node kind.Args (word kind.Number "1" Nil (word kind.Number "2" Nil Nil)) Nil)) (node kind.Proc (name "p" (node kind.Args (word kind.Number "1" Nil Nil) Nil)) Nil)))) Nil) Nil))))) Nil)))

holds11 : differs tree11 (entry (3 ∷ 2 ∷ 1 ∷ 2 ∷ 1 ∷ 3 ∷ []) 3 "declared twice: x" ∷ entry (3 ∷ 4 ∷ 1 ∷ 2 ∷ 1 ∷ 1 ∷ 2 ∷ []) 3 "declared twice: a" ∷ []) ≡ Equal
unfolding differs
holds11 = refl

-- Fields in the place of other names inside with.
--   program a; type r = record f: integer; p: char end; var v: r; w: array [1..2] of r; i: integer; procedure p; begin end; function f(n: integer):
--   integer; begin f := n end; begin with v do begin p; i := f(1); f := 'a'; case i of f: end; for p := 'a' to 'b' do end; with w[1], v do f := i; with
--   w['a'] do f := 2 end.
abbrev tree12 : Plain
tree12 = program (name "a" (node kind.Heads Nil (node kind.Block (node kind.Consts Nil (node kind.Types (node kind.Typedef (name "r" (node kind.Record (node kind.Fields (node kind.Field (node kind.Names (name "f" Nil) (node kind.Tname (name "integer" Nil) Nil)) (node kind.Field (node kind.Names (name "p" Nil) (node kind.Tname (name "char" Nil) Nil)) Nil)) Nil) Nil)) Nil) (node kind.Vars (node kind.Vardef (node kind.Names (name "v" Nil) (node kind.Tname (name "r" Nil) Nil)) (node kind.Vardef (node kind.Names (name "w" Nil) (node kind.Array (node kind.Indexes (node kind.Subrange (word kind.Cnumber "1" Nil (word kind.Cnumber "2" Nil Nil)) Nil) (node kind.Tname (name "r" Nil) Nil)) Nil)) (node kind.Vardef (node kind.Names (name "i" Nil) (node kind.Tname (name "integer" Nil) Nil)) Nil))) (node kind.Routines (node kind.Procedure (name "p" (node kind.Params Nil (node kind.Block (node kind.Consts Nil (node kind.Types Nil (node kind.Vars Nil (node kind.Routines Nil (node kind.Compound (node kind.Stmts (node kind.Empty Nil Nil) Nil) Nil))))) Nil))) (node kind.Function (name "f" (node kind.Params (node kind.Valparam (node kind.Names (name "n" Nil) (name "integer" Nil)) Nil) (name "integer" (node kind.Block (node kind.Consts Nil (node kind.Types Nil (node kind.Vars Nil (node kind.Routines Nil (node kind.Compound (node kind.Stmts (node kind.Assign (node kind.Ref (name "f" Nil) (node kind.Ref (name "n" Nil) Nil)) Nil) Nil) Nil))))) Nil)))) Nil)) (node kind.Compound (node kind.Stmts (node kind.With (node kind.Accesses (node kind.Ref (name "v" Nil) Nil) (node kind.Compound (node kind.Stmts (node kind.Proc (name "p" (node kind.Args Nil Nil)) (node kind.Assign (node kind.Ref (name "i" Nil) (node kind.Call (name "f" (node kind.Exprs (word kind.Number "1" Nil Nil) Nil)) Nil)) (node kind.Assign (node kind.Ref (name "f" Nil) (word kind.Text "'a'" Nil Nil)) (node kind.Case (node kind.Ref (name "i" Nil) (node kind.Arms (node kind.Arm (node kind.Labels (node kind.Cname (name "f" Nil) Nil) (node kind.Empty Nil Nil)) Nil) Nil)) (word kind.For "to" (name "p" (word kind.Text "'a'" Nil (word kind.Text "'b'" Nil (node kind.Empty Nil Nil)))) Nil))))) Nil) Nil)) (node kind.With (node kind.Accesses (node kind.Index (node kind.Ref (name "w" Nil) (node kind.Exprs (word kind.Number "1" Nil Nil) Nil)) (node kind.Ref (name "v" Nil) Nil)) (node kind.Assign (node kind.Ref (name "f" Nil) (node kind.Ref (name "i" Nil) Nil)) Nil)) (node kind.With (node kind.Accesses (node kind.Index (node kind.Ref (name "w" Nil) (node kind.Exprs (word kind.Text "'a'" Nil Nil) Nil)) Nil) (node kind.Assign (node kind.Ref (name "f" Nil) (word kind.Number "2" Nil Nil)) Nil)) Nil))) Nil) Nil))))) Nil)))

holds12 : differs tree12 (entry (3 ∷ 5 ∷ 1 ∷ 1 ∷ 2 ∷ 1 ∷ 1 ∷ 1 ∷ []) 4 "not a procedure: p" ∷ entry (3 ∷ 5 ∷ 1 ∷ 1 ∷ 2 ∷ 1 ∷ 2 ∷ 2 ∷ 1 ∷ []) 4 "not a function: f" ∷ entry (3 ∷ 5 ∷ 1 ∷ 1 ∷ 2 ∷ 1 ∷ 3 ∷ []) 11 "types do not agree" ∷ entry (3 ∷ 5 ∷ 1 ∷ 1 ∷ 2 ∷ 1 ∷ 4 ∷ 2 ∷ 1 ∷ 1 ∷ 1 ∷ 1 ∷ []) 4 "not a constant: f" ∷ entry (3 ∷ 5 ∷ 1 ∷ 1 ∷ 2 ∷ 1 ∷ 5 ∷ 1 ∷ []) 18 "control variable not local: p" ∷ entry (3 ∷ 5 ∷ 1 ∷ 3 ∷ 1 ∷ 1 ∷ 2 ∷ 1 ∷ []) 11 "types do not agree" ∷ entry (3 ∷ 5 ∷ 1 ∷ 3 ∷ 2 ∷ 1 ∷ 1 ∷ []) 4 "not a variable: f" ∷ []) ≡ Equal
unfolding differs
holds12 = refl
