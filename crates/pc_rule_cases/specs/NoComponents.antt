-- Components of what has none: programs with the errors that they have.
use Rattle.std.specs.Prelude.{◌≡◌, [], ◌∷◌}
use Rattle.std.proofs.Common.{refl}
use Rattle.pc_syntax.specs.Plain.{Nil, Plain}
use Rattle.pc_syntax.specs.declared.kind.Kind.TheVariants as kind
use Rattle.pc_rule_cases.specs.Trees.{program, node, name, word}
use Rattle.pc_rule_cases.specs.Compare.{Equal, entry, differs}

-- Row 15: not an array, at the access before the bracket.
--   program p; var i: integer; r: record a: char end; begin i[1] := 2; r.a[1] := 'x'; r[1] := 1 end.
abbrev tree1 : Plain
tree1 = program (name "p" (node kind.Heads Nil (node kind.Block (node kind.Consts Nil (node kind.Types Nil (node kind.Vars (node kind.Vardef (node kind.Names (name "i" Nil) (node kind.Tname (name "integer" Nil) Nil)) (node kind.Vardef (node kind.Names (name "r" Nil) (node kind.Record (node kind.Fields (node kind.Field (node kind.Names (name "a" Nil) (node kind.Tname (name "char" Nil) Nil)) Nil) Nil) Nil)) Nil)) (node kind.Routines Nil (node kind.Compound (node kind.Stmts (node kind.Assign (node kind.Index (node kind.Ref (name "i" Nil) (node kind.Exprs (word kind.Number "1" Nil Nil) Nil)) (word kind.Number "2" Nil Nil)) (node kind.Assign (node kind.Index (node kind.Select (node kind.Ref (name "r" Nil) (name "a" Nil)) (node kind.Exprs (word kind.Number "1" Nil Nil) Nil)) (word kind.Text "'x'" Nil Nil)) (node kind.Assign (node kind.Index (node kind.Ref (name "r" Nil) (node kind.Exprs (word kind.Number "1" Nil Nil) Nil)) (word kind.Number "1" Nil Nil)) Nil))) Nil) Nil))))) Nil)))

holds1 : differs tree1 (entry (3 ∷ 5 ∷ 1 ∷ 1 ∷ 1 ∷ 1 ∷ []) 15 "not an array" ∷ entry (3 ∷ 5 ∷ 1 ∷ 2 ∷ 1 ∷ 1 ∷ []) 15 "not an array" ∷ entry (3 ∷ 5 ∷ 1 ∷ 3 ∷ 1 ∷ 1 ∷ []) 15 "not an array" ∷ []) ≡ Equal
unfolding differs
holds1 = refl

-- dispose takes a value: a function's pointer; a record is no pointer.
--   program p; type l = ^char; var r: record end; function f(a: integer): l; begin f := nil end; begin dispose(f(1)); dispose(r); dispose(y) end.
abbrev tree2 : Plain
tree2 = program (name "p" (node kind.Heads Nil (node kind.Block (node kind.Consts Nil (node kind.Types (node kind.Typedef (name "l" (node kind.Pointer (name "char" Nil) Nil)) Nil) (node kind.Vars (node kind.Vardef (node kind.Names (name "r" Nil) (node kind.Record0 Nil Nil)) Nil) (node kind.Routines (node kind.Function (name "f" (node kind.Params (node kind.Valparam (node kind.Names (name "a" Nil) (name "integer" Nil)) Nil) (name "l" (node kind.Block (node kind.Consts Nil (node kind.Types Nil (node kind.Vars Nil (node kind.Routines Nil (node kind.Compound (node kind.Stmts (node kind.Assign (node kind.Ref (name "f" Nil) (node kind.Nil Nil Nil)) Nil) Nil) Nil))))) Nil)))) Nil) (node kind.Compound (node kind.Stmts (node kind.Proc (name "dispose" (node kind.Args (node kind.Call (name "f" (node kind.Exprs (word kind.Number "1" Nil Nil) Nil)) Nil) Nil)) (node kind.Proc (name "dispose" (node kind.Args (node kind.Ref (name "r" Nil) Nil) Nil)) (node kind.Proc (name "dispose" (node kind.Args (node kind.Ref (name "y" Nil) Nil) Nil)) Nil))) Nil) Nil))))) Nil)))

holds2 : differs tree2 (entry (3 ∷ 5 ∷ 1 ∷ 2 ∷ 2 ∷ 1 ∷ []) 15 "not a pointer" ∷ entry (3 ∷ 5 ∷ 1 ∷ 3 ∷ 2 ∷ 1 ∷ 1 ∷ []) 1 "not declared: y" ∷ []) ≡ Equal
unfolding differs
holds2 = refl

-- Row 15: the indexes are still looked at.
--   program p; var i: integer; begin i[y, 1 + 'a'] := 1 end.
abbrev tree3 : Plain
tree3 = program (name "p" (node kind.Heads Nil (node kind.Block (node kind.Consts Nil (node kind.Types Nil (node kind.Vars (node kind.Vardef (node kind.Names (name "i" Nil) (node kind.Tname (name "integer" Nil) Nil)) Nil) (node kind.Routines Nil (node kind.Compound (node kind.Stmts (node kind.Assign (node kind.Index (node kind.Ref (name "i" Nil) (node kind.Exprs (node kind.Ref (name "y" Nil) (word kind.Add "+" (word kind.Number "1" Nil (word kind.Text "'a'" Nil Nil)) Nil)) Nil)) (word kind.Number "1" Nil Nil)) Nil) Nil) Nil))))) Nil)))

holds3 : differs tree3 (entry (3 ∷ 5 ∷ 1 ∷ 1 ∷ 1 ∷ 1 ∷ []) 15 "not an array" ∷ entry (3 ∷ 5 ∷ 1 ∷ 1 ∷ 1 ∷ 2 ∷ 1 ∷ 1 ∷ []) 1 "not declared: y" ∷ entry (3 ∷ 5 ∷ 1 ∷ 1 ∷ 1 ∷ 2 ∷ 2 ∷ []) 11 "types do not agree" ∷ []) ≡ Equal
unfolding differs
holds3 = refl

-- Row 15, the neighbour: arrays, records and pointers where they are needed, also through a with.
--   program p; type l = ^n; n = record a: array [1..2] of char; next: l end; var x: l; r: n; begin new(x); x^.a[1] := 'x'; with x^, r do begin a[1] :=
--   next^.a[2]; new(next); dispose(next) end end.
abbrev tree4 : Plain
tree4 = program (name "p" (node kind.Heads Nil (node kind.Block (node kind.Consts Nil (node kind.Types (node kind.Typedef (name "l" (node kind.Pointer (name "n" Nil) Nil)) (node kind.Typedef (name "n" (node kind.Record (node kind.Fields (node kind.Field (node kind.Names (name "a" Nil) (node kind.Array (node kind.Indexes (node kind.Subrange (word kind.Cnumber "1" Nil (word kind.Cnumber "2" Nil Nil)) Nil) (node kind.Tname (name "char" Nil) Nil)) Nil)) (node kind.Field (node kind.Names (name "next" Nil) (node kind.Tname (name "l" Nil) Nil)) Nil)) Nil) Nil)) Nil)) (node kind.Vars (node kind.Vardef (node kind.Names (name "x" Nil) (node kind.Tname (name "l" Nil) Nil)) (node kind.Vardef (node kind.Names (name "r" Nil) (node kind.Tname (name "n" Nil) Nil)) Nil)) (node kind.Routines Nil (node kind.Compound (node kind.Stmts (node kind.Proc (name "new" (node kind.Args (node kind.Ref (name "x" Nil) Nil) Nil)) (node kind.Assign (node kind.Index (node kind.Select (node kind.Deref (node kind.Ref (name "x" Nil) Nil) (name "a" Nil)) (node kind.Exprs (word kind.Number "1" Nil Nil) Nil)) (word kind.Text "'x'" Nil Nil)) (node kind.With (node kind.Accesses (node kind.Deref (node kind.Ref (name "x" Nil) Nil) (node kind.Ref (name "r" Nil) Nil)) (node kind.Compound (node kind.Stmts (node kind.Assign (node kind.Index (node kind.Ref (name "a" Nil) (node kind.Exprs (word kind.Number "1" Nil Nil) Nil)) (node kind.Index (node kind.Select (node kind.Deref (node kind.Ref (name "next" Nil) Nil) (name "a" Nil)) (node kind.Exprs (word kind.Number "2" Nil Nil) Nil)) Nil)) (node kind.Proc (name "new" (node kind.Args (node kind.Ref (name "next" Nil) Nil) Nil)) (node kind.Proc (name "dispose" (node kind.Args (node kind.Ref (name "next" Nil) Nil) Nil)) Nil))) Nil) Nil)) Nil))) Nil) Nil))))) Nil)))

holds4 : differs tree4 ([]) ≡ Equal
unfolding differs
holds4 = refl

-- Row 15: not a pointer, before ^ and as an argument of new or dispose; a pointer is no record.
--   program p; type n = record v: integer end; var i: integer; q: ^n; begin i^ := 1; new(i); dispose(3); q.v := 1; q^.v := 1; q^^ := 2 end.
abbrev tree5 : Plain
tree5 = program (name "p" (node kind.Heads Nil (node kind.Block (node kind.Consts Nil (node kind.Types (node kind.Typedef (name "n" (node kind.Record (node kind.Fields (node kind.Field (node kind.Names (name "v" Nil) (node kind.Tname (name "integer" Nil) Nil)) Nil) Nil) Nil)) Nil) (node kind.Vars (node kind.Vardef (node kind.Names (name "i" Nil) (node kind.Tname (name "integer" Nil) Nil)) (node kind.Vardef (node kind.Names (name "q" Nil) (node kind.Pointer (name "n" Nil) Nil)) Nil)) (node kind.Routines Nil (node kind.Compound (node kind.Stmts (node kind.Assign (node kind.Deref (node kind.Ref (name "i" Nil) Nil) (word kind.Number "1" Nil Nil)) (node kind.Proc (name "new" (node kind.Args (node kind.Ref (name "i" Nil) Nil) Nil)) (node kind.Proc (name "dispose" (node kind.Args (word kind.Number "3" Nil Nil) Nil)) (node kind.Assign (node kind.Select (node kind.Ref (name "q" Nil) (name "v" Nil)) (word kind.Number "1" Nil Nil)) (node kind.Assign (node kind.Select (node kind.Deref (node kind.Ref (name "q" Nil) Nil) (name "v" Nil)) (word kind.Number "1" Nil Nil)) (node kind.Assign (node kind.Deref (node kind.Deref (node kind.Ref (name "q" Nil) Nil) Nil) (word kind.Number "2" Nil Nil)) Nil)))))) Nil) Nil))))) Nil)))

holds5 : differs tree5 (entry (3 ∷ 5 ∷ 1 ∷ 1 ∷ 1 ∷ 1 ∷ []) 15 "not a pointer" ∷ entry (3 ∷ 5 ∷ 1 ∷ 2 ∷ 2 ∷ 1 ∷ []) 15 "not a pointer" ∷ entry (3 ∷ 5 ∷ 1 ∷ 3 ∷ 2 ∷ 1 ∷ []) 15 "not a pointer" ∷ entry (3 ∷ 5 ∷ 1 ∷ 4 ∷ 1 ∷ 1 ∷ []) 15 "not a record" ∷ entry (3 ∷ 5 ∷ 1 ∷ 6 ∷ 1 ∷ 1 ∷ []) 15 "not a pointer" ∷ []) ≡ Equal
unfolding differs
holds5 = refl

-- Row 15: not a record, at the access before the point and at that of a with.
--   program p; var i: integer; a: array [1..2] of integer; begin i.x := 1; a[1].x := 1; with i do; with a, a[1] do end.
abbrev tree6 : Plain
tree6 = program (name "p" (node kind.Heads Nil (node kind.Block (node kind.Consts Nil (node kind.Types Nil (node kind.Vars (node kind.Vardef (node kind.Names (name "i" Nil) (node kind.Tname (name "integer" Nil) Nil)) (node kind.Vardef (node kind.Names (name "a" Nil) (node kind.Array (node kind.Indexes (node kind.Subrange (word kind.Cnumber "1" Nil (word kind.Cnumber "2" Nil Nil)) Nil) (node kind.Tname (name "integer" Nil) Nil)) Nil)) Nil)) (node kind.Routines Nil (node kind.Compound (node kind.Stmts (node kind.Assign (node kind.Select (node kind.Ref (name "i" Nil) (name "x" Nil)) (word kind.Number "1" Nil Nil)) (node kind.Assign (node kind.Select (node kind.Index (node kind.Ref (name "a" Nil) (node kind.Exprs (word kind.Number "1" Nil Nil) Nil)) (name "x" Nil)) (word kind.Number "1" Nil Nil)) (node kind.With (node kind.Accesses (node kind.Ref (name "i" Nil) Nil) (node kind.Empty Nil Nil)) (node kind.With (node kind.Accesses (node kind.Ref (name "a" Nil) (node kind.Index (node kind.Ref (name "a" Nil) (node kind.Exprs (word kind.Number "1" Nil Nil) Nil)) Nil)) (node kind.Empty Nil Nil)) Nil)))) Nil) Nil))))) Nil)))

holds6 : differs tree6 (entry (3 ∷ 5 ∷ 1 ∷ 1 ∷ 1 ∷ 1 ∷ []) 15 "not a record" ∷ entry (3 ∷ 5 ∷ 1 ∷ 2 ∷ 1 ∷ 1 ∷ []) 15 "not a record" ∷ entry (3 ∷ 5 ∷ 1 ∷ 3 ∷ 1 ∷ 1 ∷ []) 15 "not a record" ∷ entry (3 ∷ 5 ∷ 1 ∷ 4 ∷ 1 ∷ 1 ∷ []) 15 "not a record" ∷ entry (3 ∷ 5 ∷ 1 ∷ 4 ∷ 1 ∷ 2 ∷ []) 15 "not a record" ∷ []) ≡ Equal
unfolding differs
holds6 = refl

-- Row 15: a second index of an array of chars, in both forms.
--   program p; var a: array [1..2] of char; begin a[1, 2] := 'x'; a[1][2] := 'x' end.
abbrev tree7 : Plain
tree7 = program (name "p" (node kind.Heads Nil (node kind.Block (node kind.Consts Nil (node kind.Types Nil (node kind.Vars (node kind.Vardef (node kind.Names (name "a" Nil) (node kind.Array (node kind.Indexes (node kind.Subrange (word kind.Cnumber "1" Nil (word kind.Cnumber "2" Nil Nil)) Nil) (node kind.Tname (name "char" Nil) Nil)) Nil)) Nil) (node kind.Routines Nil (node kind.Compound (node kind.Stmts (node kind.Assign (node kind.Index (node kind.Ref (name "a" Nil) (node kind.Exprs (word kind.Number "1" Nil (word kind.Number "2" Nil Nil)) Nil)) (word kind.Text "'x'" Nil Nil)) (node kind.Assign (node kind.Index (node kind.Index (node kind.Ref (name "a" Nil) (node kind.Exprs (word kind.Number "1" Nil Nil) Nil)) (node kind.Exprs (word kind.Number "2" Nil Nil) Nil)) (word kind.Text "'x'" Nil Nil)) Nil)) Nil) Nil))))) Nil)))

holds7 : differs tree7 (entry (3 ∷ 5 ∷ 1 ∷ 1 ∷ 1 ∷ 1 ∷ []) 15 "not an array" ∷ entry (3 ∷ 5 ∷ 1 ∷ 2 ∷ 1 ∷ 1 ∷ []) 15 "not an array" ∷ []) ≡ Equal
unfolding differs
holds7 = refl

-- Row 15, the neighbour: a string variable is an array; a text cannot be indexed by the grammar.
--   program p; var s: packed array [1..2] of char; begin s[1] := 'x'; s[1][1] := 'y' end.
abbrev tree8 : Plain
tree8 = program (name "p" (node kind.Heads Nil (node kind.Block (node kind.Consts Nil (node kind.Types Nil (node kind.Vars (node kind.Vardef (node kind.Names (name "s" Nil) (node kind.Packed (node kind.Array (node kind.Indexes (node kind.Subrange (word kind.Cnumber "1" Nil (word kind.Cnumber "2" Nil Nil)) Nil) (node kind.Tname (name "char" Nil) Nil)) Nil) Nil)) Nil) (node kind.Routines Nil (node kind.Compound (node kind.Stmts (node kind.Assign (node kind.Index (node kind.Ref (name "s" Nil) (node kind.Exprs (word kind.Number "1" Nil Nil) Nil)) (word kind.Text "'x'" Nil Nil)) (node kind.Assign (node kind.Index (node kind.Index (node kind.Ref (name "s" Nil) (node kind.Exprs (word kind.Number "1" Nil Nil) Nil)) (node kind.Exprs (word kind.Number "1" Nil Nil) Nil)) (word kind.Text "'y'" Nil Nil)) Nil)) Nil) Nil))))) Nil)))

holds8 : differs tree8 (entry (3 ∷ 5 ∷ 1 ∷ 2 ∷ 1 ∷ 1 ∷ []) 15 "not an array" ∷ []) ≡ Equal
unfolding differs
holds8 = refl

-- Row 15 needs the type: an undeclared variable, one with a bad type, a select of no field.
--   program p; var a: t; r: record x: char end; begin y[1] := 1; a.x := 1; a^ := 1; r.z[1] := 1; with y do; with a do end.
abbrev tree9 : Plain
tree9 = program (name "p" (node kind.Heads Nil (node kind.Block (node kind.Consts Nil (node kind.Types Nil (node kind.Vars (node kind.Vardef (node kind.Names (name "a" Nil) (node kind.Tname (name "t" Nil) Nil)) (node kind.Vardef (node kind.Names (name "r" Nil) (node kind.Record (node kind.Fields (node kind.Field (node kind.Names (name "x" Nil) (node kind.Tname (name "char" Nil) Nil)) Nil) Nil) Nil)) Nil)) (node kind.Routines Nil (node kind.Compound (node kind.Stmts (node kind.Assign (node kind.Index (node kind.Ref (name "y" Nil) (node kind.Exprs (word kind.Number "1" Nil Nil) Nil)) (word kind.Number "1" Nil Nil)) (node kind.Assign (node kind.Select (node kind.Ref (name "a" Nil) (name "x" Nil)) (word kind.Number "1" Nil Nil)) (node kind.Assign (node kind.Deref (node kind.Ref (name "a" Nil) Nil) (word kind.Number "1" Nil Nil)) (node kind.Assign (node kind.Index (node kind.Select (node kind.Ref (name "r" Nil) (name "z" Nil)) (node kind.Exprs (word kind.Number "1" Nil Nil) Nil)) (word kind.Number "1" Nil Nil)) (node kind.With (node kind.Accesses (node kind.Ref (name "y" Nil) Nil) (node kind.Empty Nil Nil)) (node kind.With (node kind.Accesses (node kind.Ref (name "a" Nil) Nil) (node kind.Empty Nil Nil)) Nil)))))) Nil) Nil))))) Nil)))

holds9 : differs tree9 (entry (3 ∷ 3 ∷ 1 ∷ 2 ∷ 1 ∷ []) 1 "not declared: t" ∷ entry (3 ∷ 5 ∷ 1 ∷ 1 ∷ 1 ∷ 1 ∷ 1 ∷ []) 1 "not declared: y" ∷ entry (3 ∷ 5 ∷ 1 ∷ 4 ∷ 1 ∷ 1 ∷ 2 ∷ []) 4 "not a field: z" ∷ entry (3 ∷ 5 ∷ 1 ∷ 5 ∷ 1 ∷ 1 ∷ 1 ∷ []) 1 "not declared: y" ∷ []) ≡ Equal
unfolding differs
holds9 = refl

-- Row 15 at a with: no fields are opened, so the names go on to the block around.
--   program p; var i, x: integer; begin with i do begin x := 1; y := 2 end end.
abbrev tree10 : Plain
tree10 = program (name "p" (node kind.Heads Nil (node kind.Block (node kind.Consts Nil (node kind.Types Nil (node kind.Vars (node kind.Vardef (node kind.Names (name "i" (name "x" Nil)) (node kind.Tname (name "integer" Nil) Nil)) Nil) (node kind.Routines Nil (node kind.Compound (node kind.Stmts (node kind.With (node kind.Accesses (node kind.Ref (name "i" Nil) Nil) (node kind.Compound (node kind.Stmts (node kind.Assign (node kind.Ref (name "x" Nil) (word kind.Number "1" Nil Nil)) (node kind.Assign (node kind.Ref (name "y" Nil) (word kind.Number "2" Nil Nil)) Nil)) Nil) Nil)) Nil) Nil) Nil))))) Nil)))

holds10 : differs tree10 (entry (3 ∷ 5 ∷ 1 ∷ 1 ∷ 1 ∷ 1 ∷ []) 15 "not a record" ∷ entry (3 ∷ 5 ∷ 1 ∷ 1 ∷ 2 ∷ 1 ∷ 2 ∷ 1 ∷ 1 ∷ []) 1 "not declared: y" ∷ []) ≡ Equal
unfolding differs
holds10 = refl
