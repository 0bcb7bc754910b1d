-- Components of packed variables as arguments: programs with the errors that they have.
use Rattle.std.specs.Prelude.{◌≡◌, [], ◌∷◌}
use Rattle.std.proofs.Common.{refl}
use Rattle.pc_syntax.specs.Plain.{Nil, Plain}
use Rattle.pc_syntax.specs.declared.kind.Kind.TheVariants as kind
use Rattle.pc_syntax.specs.declared.sort.Sort.TheVariants as sort
use Rattle.pc_rule_cases.specs.Trees.{program, node, name, word}
use Rattle.pc_rule_cases.specs.Compare.{Equal, entry, differs}

-- Row 14 with a component of another type: row 14 alone.
--   program p; var a: packed array [1..3] of char; procedure q(var i: integer); begin end; begin q(a[1]) end.
abbrev tree1 : Plain
tree1 = program (name "p" (node kind.Heads Nil (node kind.Block (node kind.Consts Nil (node kind.Types Nil (node kind.Vars (node kind.Vardef (node kind.Names (name "a" Nil) (node kind.Packed (node kind.Array (node kind.Indexes (node kind.Subrange (word kind.Cnumber "1" Nil (word kind.Cnumber "3" Nil Nil)) Nil) (node kind.Tname (name "char" Nil) Nil)) Nil) Nil)) Nil) (node kind.Routines (node kind.Procedure (name "q" (node kind.Params (node kind.Varparam (node kind.Names (name "i" Nil) (name "integer" Nil)) Nil) (node kind.Block (node kind.Consts Nil (node kind.Types Nil (node kind.Vars Nil (node kind.Routines Nil (node kind.Compound (node kind.Stmts (node kind.Empty Nil Nil) Nil) Nil))))) Nil))) Nil) (node kind.Compound (node kind.Stmts (node kind.Proc (name "q" (node kind.Args (node kind.Index (node kind.Ref (name "a" Nil) (node kind.Exprs (word kind.Number "1" Nil Nil) Nil)) Nil) Nil)) Nil) Nil) Nil))))) Nil)))

holds1 : differs tree1 (entry (3 ∷ 5 ∷ 1 ∷ 1 ∷ 2 ∷ 1 ∷ []) 14 "component of a packed variable" ∷ []) ≡ Equal
unfolding differs
holds1 = refl

-- Row 14: a field of a packed record; packed is not handed down to a record inside.
--   program p; var r: packed record x: char; s: record y: char end end; u: record x: char; v: packed record y: char end end; procedure q(var c: char);
--   begin end; begin q(r.x); q(r.s.y); q(u.x); q(u.v.y) end.
abbrev tree2 : Plain
tree2 = program (name "p" (node kind.Heads Nil (node kind.Block (node kind.Consts Nil (node kind.Types Nil (node kind.Vars (node kind.Vardef (node kind.Names (name "r" Nil) (node kind.Packed (node kind.Record (node kind.Fields (node kind.Field (node kind.Names (name "x" Nil) (node kind.Tname (name "char" Nil) Nil)) (node kind.Field (node kind.Names (name "s" Nil) (node kind.Record (node kind.Fields (node kind.Field (node kind.Names (name "y" Nil) (node kind.Tname (name "char" Nil) Nil)) Nil) Nil) Nil)) Nil)) Nil) Nil) Nil)) (node kind.Vardef (node kind.Names (name "u" Nil) (node kind.Record (node kind.Fields (node kind.Field (node kind.Names (name "x" Nil) (node kind.Tname (name "char" Nil) Nil)) (node kind.Field (node kind.Names (name "v" Nil) (node kind.Packed (node kind.Record (node kind.Fields (node kind.Field (node kind.Names (name "y" Nil) (node kind.Tname (name "char" Nil) Nil)) Nil) Nil) Nil) Nil)) Nil)) Nil) Nil)) Nil)) (node kind.Routines (node kind.Procedure (name "q" (node kind.Params (node kind.Varparam (node kind.Names (name "c" Nil) (name "char" Nil)) Nil) (node kind.Block (node kind.Consts Nil (node kind.Types Nil (node kind.Vars Nil (node kind.Routines Nil (node kind.Compound (node kind.Stmts (node kind.Empty Nil Nil) Nil) Nil))))) Nil))) Nil) (node kind.Compound (node kind.Stmts (node kind.Proc (name "q" (node kind.Args (node kind.Select (node kind.Ref (name "r" Nil) (name "x" Nil)) Nil) Nil)) (node kind.Proc (name "q" (node kind.Args (node kind.Select (node kind.Select (node kind.Ref (name "r" Nil) (name "s" Nil)) (name "y" Nil)) Nil) Nil)) (node kind.Proc (name "q" (node kind.Args (node kind.Select (node kind.Ref (name "u" Nil) (name "x" Nil)) Nil) Nil)) (node kind.Proc (name "q" (node kind.Args (node kind.Select (node kind.Select (node kind.Ref (name "u" Nil) (name "v" Nil)) (name "y" Nil)) Nil) Nil)) Nil)))) Nil) Nil))))) Nil)))

holds2 : differs tree2 (entry (3 ∷ 5 ∷ 1 ∷ 1 ∷ 2 ∷ 1 ∷ []) 14 "component of a packed variable" ∷ entry (3 ∷ 5 ∷ 1 ∷ 2 ∷ 2 ∷ 1 ∷ []) 14 "component of a packed variable" ∷ entry (3 ∷ 5 ∷ 1 ∷ 4 ∷ 2 ∷ 1 ∷ []) 14 "component of a packed variable" ∷ []) ≡ Equal
unfolding differs
holds2 = refl

-- Row 14 needs the type of what is selected from: none for a variable with a hole in its type.
--   program p; var a: packed array [1..2] of ?type; procedure q(var c: char); begin end; begin q(a[1]) end.
abbrev tree3 : Plain
tree3 = program (name "p" (node kind.Heads Nil (node kind.Block (node kind.Consts Nil (node kind.Types Nil (node kind.Vars (node kind.Vardef (node kind.Names (name "a" Nil) (node kind.Packed (node kind.Array (node kind.Indexes (node kind.Subrange (word kind.Cnumber "1" Nil (word kind.Cnumber "2" Nil Nil)) Nil) (node (kind.Hole sort.Denoter) Nil Nil)) Nil) Nil)) Nil) (node kind.Routines (node kind.Procedure (name "q" (node kind.Params (node kind.Varparam (node kind.Names (name "c" Nil) (name "char" Nil)) Nil) (node kind.Block (node kind.Consts Nil (node kind.Types Nil (node kind.Vars Nil (node kind.Routines Nil (node kind.Compound (node kind.Stmts (node kind.Empty Nil Nil) Nil) Nil))))) Nil))) Nil) (node kind.Compound (node kind.Stmts (node kind.Proc (name "q" (node kind.Args (node kind.Index (node kind.Ref (name "a" Nil) (node kind.Exprs (word kind.Number "1" Nil Nil) Nil)) Nil) Nil)) Nil) Nil) Nil))))) Nil)))

holds3 : differs tree3 ([]) ≡ Equal
unfolding differs
holds3 = refl

-- Row 14: a component of a packed array as var argument; the whole array is no component.
--   program p; type s = packed array [1..3] of char; var a: s; procedure q(var c: char); begin end; procedure r(var b: s); begin end; begin q(a[1]); r(a);
--   read(a[2]) end.
abbrev tree4 : Plain
tree4 = program (name "p" (node kind.Heads Nil (node kind.Block (node kind.Consts Nil (node kind.Types (node kind.Typedef (name "s" (node kind.Packed (node kind.Array (node kind.Indexes (node kind.Subrange (word kind.Cnumber "1" Nil (word kind.Cnumber "3" Nil Nil)) Nil) (node kind.Tname (name "char" Nil) Nil)) Nil) Nil)) Nil) (node kind.Vars (node kind.Vardef (node kind.Names (name "a" Nil) (node kind.Tname (name "s" Nil) Nil)) Nil) (node kind.Routines (node kind.Procedure (name "q" (node kind.Params (node kind.Varparam (node kind.Names (name "c" Nil) (name "char" Nil)) Nil) (node kind.Block (node kind.Consts Nil (node kind.Types Nil (node kind.Vars Nil (node kind.Routines Nil (node kind.Compound (node kind.Stmts (node kind.Empty Nil Nil) Nil) Nil))))) Nil))) (node kind.Procedure (name "r" (node kind.Params (node kind.Varparam (node kind.Names (name "b" Nil) (name "s" Nil)) Nil) (node kind.Block (node kind.Consts Nil (node kind.Types Nil (node kind.Vars Nil (node kind.Routines Nil (node kind.Compound (node kind.Stmts (node kind.Empty Nil Nil) Nil) Nil))))) Nil))) Nil)) (node kind.Compound (node kind.Stmts (node kind.Proc (name "q" (node kind.Args (node kind.Index (node kind.Ref (name "a" Nil) (node kind.Exprs (word kind.Number "1" Nil Nil) Nil)) Nil) Nil)) (node kind.Proc (name "r" (node kind.Args (node kind.Ref (name "a" Nil) Nil) Nil)) (node kind.Proc (name "read" (node kind.Args (node kind.Index (node kind.Ref (name "a" Nil) (node kind.Exprs (word kind.Number "2" Nil Nil) Nil)) Nil) Nil)) Nil))) Nil) Nil))))) Nil)))

holds4 : differs tree4 (entry (3 ∷ 5 ∷ 1 ∷ 1 ∷ 2 ∷ 1 ∷ []) 14 "component of a packed variable" ∷ []) ≡ Equal
unfolding differs
holds4 = refl

-- Row 14: with several indexes all the arrays are packed.
--   program p; var a: packed array [1..2, 1..2] of char; b: array [1..2] of packed array [1..2] of char; procedure q(var c: char); begin end; begin q(a[1,
--   2]); q(a[1][2]); q(b[1][2]); q(b[1, 2]) end.
abbrev tree5 : Plain
tree5 = program (name "p" (node kind.Heads Nil (node kind.Block (node kind.Consts Nil (node kind.Types Nil (node kind.Vars (node kind.Vardef (node kind.Names (name "a" Nil) (node kind.Packed (node kind.Array (node kind.Indexes (node kind.Subrange (word kind.Cnumber "1" Nil (word kind.Cnumber "2" Nil Nil)) (node kind.Subrange (word kind.Cnumber "1" Nil (word kind.Cnumber "2" Nil Nil)) Nil)) (node kind.Tname (name "char" Nil) Nil)) Nil) Nil)) (node kind.Vardef (node kind.Names (name "b" Nil) (node kind.Array (node kind.Indexes (node kind.Subrange (word kind.Cnumber "1" Nil (word kind.Cnumber "2" Nil Nil)) Nil) (node kind.Packed (node kind.Array (node kind.Indexes (node kind.Subrange (word kind.Cnumber "1" Nil (word kind.Cnumber "2" Nil Nil)) Nil) (node kind.Tname (name "char" Nil) Nil)) Nil) Nil)) Nil)) Nil)) (node kind.Routines (node kind.Procedure (name "q" (node kind.Params (node kind.Varparam (node kind.Names (name "c" Nil) (name "char" Nil)) Nil) (node kind.Block (node kind.Consts Nil (node kind.Types Nil (node kind.Vars Nil (node kind.Routines Nil (node kind.Compound (node kind.Stmts (node kind.Empty Nil Nil) Nil) Nil))))) Nil))) Nil) (node kind.Compound (node kind.Stmts (node kind.Proc (name "q" (node kind.Args (node kind.Index (node kind.Ref (name "a" Nil) (node kind.Exprs (word kind.Number "1" Nil (word kind.Number "2" Nil Nil)) Nil)) Nil) Nil)) (node kind.Proc (name "q" (node kind.Args (node kind.Index (node kind.Index (node kind.Ref (name "a" Nil) (node kind.Exprs (word kind.Number "1" Nil Nil) Nil)) (node kind.Exprs (word kind.Number "2" Nil Nil) Nil)) Nil) Nil)) (node kind.Proc (name "q" (node kind.Args (node kind.Index (node kind.Index (node kind.Ref (name "b" Nil) (node kind.Exprs (word kind.Number "1" Nil Nil) Nil)) (node kind.Exprs (word kind.Number "2" Nil Nil) Nil)) Nil) Nil)) (node kind.Proc (name "q" (node kind.Args (node kind.Index (node kind.Ref (name "b" Nil) (node kind.Exprs (word kind.Number "1" Nil (word kind.Number "2" Nil Nil)) Nil)) Nil) Nil)) Nil)))) Nil) Nil))))) Nil)))

holds5 : differs tree5 (entry (3 ∷ 5 ∷ 1 ∷ 1 ∷ 2 ∷ 1 ∷ []) 14 "component of a packed variable" ∷ entry (3 ∷ 5 ∷ 1 ∷ 2 ∷ 2 ∷ 1 ∷ []) 14 "component of a packed variable" ∷ entry (3 ∷ 5 ∷ 1 ∷ 3 ∷ 2 ∷ 1 ∷ []) 14 "component of a packed variable" ∷ entry (3 ∷ 5 ∷ 1 ∷ 4 ∷ 2 ∷ 1 ∷ []) 14 "component of a packed variable" ∷ []) ≡ Equal
unfolding differs
holds5 = refl

-- Row 14: the selectors after the last ^ alone.
--   program p; type n = record v: char end; l = ^n; m = ^t; t = packed record w: char end; var a: packed array [1..3] of l; b: m; procedure q(var c:
--   char); begin end; procedure r(var c: l); begin end; begin q(a[1]^.v); q(b^.w); r(a[1]) end.
abbrev tree6 : Plain
tree6 = program (name "p" (node kind.Heads Nil (node kind.Block (node kind.Consts Nil (node kind.Types (node kind.Typedef (name "n" (node kind.Record (node kind.Fields (node kind.Field (node kind.Names (name "v" Nil) (node kind.Tname (name "char" Nil) Nil)) Nil) Nil) Nil)) (node kind.Typedef (name "l" (node kind.Pointer (name "n" Nil) Nil)) (node kind.Typedef (name "m" (node kind.Pointer (name "t" Nil) Nil)) (node kind.Typedef (name "t" (node kind.Packed (node kind.Record (node kind.Fields (node kind.Field (node kind.Names (name "w" Nil) (node kind.Tname (name "char" Nil) Nil)) Nil) Nil) Nil) Nil)) Nil)))) (node kind.Vars (node kind.Vardef (node kind.Names (name "a" Nil) (node kind.Packed (node kind.Array (node kind.Indexes (node kind.Subrange (word kind.Cnumber "1" Nil (word kind.Cnumber "3" Nil Nil)) Nil) (node kind.Tname (name "l" Nil) Nil)) Nil) Nil)) (node kind.Vardef (node kind.Names (name "b" Nil) (node kind.Tname (name "m" Nil) Nil)) Nil)) (node kind.Routines (node kind.Procedure (name "q" (node kind.Params (node kind.Varparam (node kind.Names (name "c" Nil) (name "char" Nil)) Nil) (node kind.Block (node kind.Consts Nil (node kind.Types Nil (node kind.Vars Nil (node kind.Routines Nil (node kind.Compound (node kind.Stmts (node kind.Empty Nil Nil) Nil) Nil))))) Nil))) (node kind.Procedure (name "r" (node kind.Params (node kind.Varparam (node kind.Names (name "c" Nil) (name "l" Nil)) Nil) (node kind.Block (node kind.Consts Nil (node kind.Types Nil (node kind.Vars Nil (node kind.Routines Nil (node kind.Compound (node kind.Stmts (node kind.Empty Nil Nil) Nil) Nil))))) Nil))) Nil)) (node kind.Compound (node kind.Stmts (node kind.Proc (name "q" (node kind.Args (node kind.Select (node kind.Deref (node kind.Index (node kind.Ref (name "a" Nil) (node kind.Exprs (word kind.Number "1" Nil Nil) Nil)) Nil) (name "v" Nil)) Nil) Nil)) (node kind.Proc (name "q" (node kind.Args (node kind.Select (node kind.Deref (node kind.Ref (name "b" Nil) Nil) (name "w" Nil)) Nil) Nil)) (node kind.Proc (name "r" (node kind.Args (node kind.Index (node kind.Ref (name "a" Nil) (node kind.Exprs (word kind.Number "1" Nil Nil) Nil)) Nil) Nil)) Nil))) Nil) Nil))))) Nil)))

holds6 : differs tree6 (entry (3 ∷ 5 ∷ 1 ∷ 2 ∷ 2 ∷ 1 ∷ []) 14 "component of a packed variable" ∷ entry (3 ∷ 5 ∷ 1 ∷ 3 ∷ 2 ∷ 1 ∷ []) 14 "component of a packed variable" ∷ []) ≡ Equal
unfolding differs
holds6 = refl

-- Row 14: an array of packed records: the record as a whole is no component of a packed one.
--   program p; type r = packed record x: char end; var a: array [1..2] of r; procedure q(var b: r); begin end; begin q(a[1]) end.
abbrev tree7 : Plain
tree7 = program (name "p" (node kind.Heads Nil (node kind.Block (node kind.Consts Nil (node kind.Types (node kind.Typedef (name "r" (node kind.Packed (node kind.Record (node kind.Fields (node kind.Field (node kind.Names (name "x" Nil) (node kind.Tname (name "char" Nil) Nil)) Nil) Nil) Nil) Nil)) Nil) (node kind.Vars (node kind.Vardef (node kind.Names (name "a" Nil) (node kind.Array (node kind.Indexes (node kind.Subrange (word kind.Cnumber "1" Nil (word kind.Cnumber "2" Nil Nil)) Nil) (node kind.Tname (name "r" Nil) Nil)) Nil)) Nil) (node kind.Routines (node kind.Procedure (name "q" (node kind.Params (node kind.Varparam (node kind.Names (name "b" Nil) (name "r" Nil)) Nil) (node kind.Block (node kind.Consts Nil (node kind.Types Nil (node kind.Vars Nil (node kind.Routines Nil (node kind.Compound (node kind.Stmts (node kind.Empty Nil Nil) Nil) Nil))))) Nil))) Nil) (node kind.Compound (node kind.Stmts (node kind.Proc (name "q" (node kind.Args (node kind.Index (node kind.Ref (name "a" Nil) (node kind.Exprs (word kind.Number "1" Nil Nil) Nil)) Nil) Nil)) Nil) Nil) Nil))))) Nil)))

holds7 : differs tree7 ([]) ≡ Equal
unfolding differs
holds7 = refl

-- Row 14, the neighbour: value parameters take components of packed variables.
--   program p; var a: packed array [1..3] of char; procedure q(c: char); begin end; begin q(a[1]) end.
abbrev tree8 : Plain
tree8 = program (name "p" (node kind.Heads Nil (node kind.Block (node kind.Consts Nil (node kind.Types Nil (node kind.Vars (node kind.Vardef (node kind.Names (name "a" Nil) (node kind.Packed (node kind.Array (node kind.Indexes (node kind.Subrange (word kind.Cnumber "1" Nil (word kind.Cnumber "3" Nil Nil)) Nil) (node kind.Tname (name "char" Nil) Nil)) Nil) Nil)) Nil) (node kind.Routines (node kind.Procedure (name "q" (node kind.Params (node kind.Valparam (node kind.Names (name "c" Nil) (name "char" Nil)) Nil) (node kind.Block (node kind.Consts Nil (node kind.Types Nil (node kind.Vars Nil (node kind.Routines Nil (node kind.Compound (node kind.Stmts (node kind.Empty Nil Nil) Nil) Nil))))) Nil))) Nil) (node kind.Compound (node kind.Stmts (node kind.Proc (name "q" (node kind.Args (node kind.Index (node kind.Ref (name "a" Nil) (node kind.Exprs (word kind.Number "1" Nil Nil) Nil)) Nil) Nil)) Nil) Nil) Nil))))) Nil)))

holds8 : differs tree8 ([]) ≡ Equal
unfolding differs
holds8 = refl

-- Row 14: a field of a with over a packed record is a component; selectors of the with's access do not count.
--   program p; var r: packed record x: char; s: record y: char end end; procedure q(var c: char); begin end; begin with r do q(x); with r.s do q(y); with
--   r, s do q(y) end.
abbrev tree9 : Plain
tree9 = program (name "p" (node kind.Heads Nil (node kind.Block (node kind.Consts Nil (node kind.Types Nil (node kind.Vars (node kind.Vardef (node kind.Names (name "r" Nil) (node kind.Packed (node kind.Record (node kind.Fields (node kind.Field (node kind.Names (name "x" Nil) (node kind.Tname (name "char" Nil) Nil)) (node kind.Field (node kind.Names (name "s" Nil) (node kind.Record (node kind.Fields (node kind.Field (node kind.Names (name "y" Nil) (node kind.Tname (name "char" Nil) Nil)) Nil) Nil) Nil)) Nil)) Nil) Nil) Nil)) Nil) (node kind.Routines (node kind.Procedure (name "q" (node kind.Params (node kind.Varparam (node kind.Names (name "c" Nil) (name "char" Nil)) Nil) (node kind.Block (node kind.Consts Nil (node kind.Types Nil (node kind.Vars Nil (node kind.Routines Nil (node kind.Compound (node kind.Stmts (node kind.Empty Nil Nil) Nil) Nil))))) Nil))) Nil) (node kind.Compound (node kind.Stmts (node kind.With (node kind.Accesses (node kind.Ref (name "r" Nil) Nil) (node kind.Proc (name "q" (node kind.Args (node kind.Ref (name "x" Nil) Nil) Nil)) Nil)) (node kind.With (node kind.Accesses (node kind.Select (node kind.Ref (name "r" Nil) (name "s" Nil)) Nil) (node kind.Proc (name "q" (node kind.Args (node kind.Ref (name "y" Nil) Nil) Nil)) Nil)) (node kind.With (node kind.Accesses (node kind.Ref (name "r" Nil) (node kind.Ref (name "s" Nil) Nil)) (node kind.Proc (name "q" (node kind.Args (node kind.Ref (name "y" Nil) Nil) Nil)) Nil)) Nil))) Nil) Nil))))) Nil)))

holds9 : differs tree9 (entry (3 ∷ 5 ∷ 1 ∷ 1 ∷ 2 ∷ 2 ∷ 1 ∷ []) 14 "component of a packed variable" ∷ []) ≡ Equal
unfolding differs
holds9 = refl
