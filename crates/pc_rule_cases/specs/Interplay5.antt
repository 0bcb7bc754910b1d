-- Several rules in one program: programs with the errors that they have.
use Rattle.std.specs.Prelude.{◌≡◌, [], ◌∷◌}
use Rattle.std.proofs.Common.{refl}
use Rattle.pc_syntax.specs.Plain.{Nil, Plain}
use Rattle.pc_syntax.specs.declared.kind.Kind.TheVariants as kind
use Rattle.pc_syntax.specs.declared.sort.Sort.TheVariants as sort
use Rattle.pc_rule_cases.specs.Trees.{program, node, name, word}
use Rattle.pc_rule_cases.specs.Compare.{Equal, entry, differs}

-- A with whose access has an error opens no fields.
--   program p; var r: array [1..2] of record a: integer end; begin with r[true] do a := 1; with r[1] do a := 1 end.
abbrev tree1 : Plain
tree1 = program (name "p" (node kind.Heads Nil (node kind.Block (node kind.Consts Nil (node kind.Types Nil (node kind.Vars (node kind.Vardef (node kind.Names (name "r" Nil) (node kind.Array (node kind.Indexes (node kind.Subrange (word kind.Cnumber "1" Nil (word kind.Cnumber "2" Nil Nil)) Nil) (node kind.Record (node kind.Fields (node kind.Field (node kind.Names (name "a" Nil) (node kind.Tname (name "integer" Nil) Nil)) Nil) Nil) Nil)) Nil)) Nil) (node kind.Routines Nil (node kind.Compound (node kind.Stmts (node kind.With (node kind.Accesses (node kind.Index (node kind.Ref (name "r" Nil) (node kind.Exprs (node kind.Ref (name "true" Nil) Nil) Nil)) Nil) (node kind.Assign (node kind.Ref (name "a" Nil) (word kind.Number "1" Nil Nil)) Nil)) (node kind.With (node kind.Accesses (node kind.Index (node kind.Ref (name "r" Nil) (node kind.Exprs (word kind.Number "1" Nil Nil) Nil)) Nil) (node kind.Assign (node kind.Ref (name "a" Nil) (word kind.Number "1" Nil Nil)) Nil)) Nil)) Nil) Nil))))) Nil)))

holds1 : differs tree1 (entry (3 ∷ 5 ∷ 1 ∷ 1 ∷ 1 ∷ 1 ∷ 2 ∷ 1 ∷ []) 11 "types do not agree" ∷ entry (3 ∷ 5 ∷ 1 ∷ 1 ∷ 2 ∷ 1 ∷ 1 ∷ []) 1 "not declared: a" ∷ []) ≡ Equal
unfolding differs
holds1 = refl

-- A record with an error in its type has no fields: with opens none, so its names go on to the block and may be undeclared.
--   program p; var r: record a: integer; b: t end; a: char; begin with r do begin a := 'x'; b := 1 end; r.a := 2; r.c := 3 end.
abbrev tree2 : Plain
tree2 = program (name "p" (node kind.Heads Nil (node kind.Block (node kind.Consts Nil (node kind.Types Nil (node kind.Vars (node kind.Vardef (node kind.Names (name "r" Nil) (node kind.Record (node kind.Fields (node kind.Field (node kind.Names (name "a" Nil) (node kind.Tname (name "integer" Nil) Nil)) (node kind.Field (node kind.Names (name "b" Nil) (node kind.Tname (name "t" Nil) Nil)) Nil)) Nil) Nil)) (node kind.Vardef (node kind.Names (name "a" Nil) (node kind.Tname (name "char" Nil) Nil)) Nil)) (node kind.Routines Nil (node kind.Compound (node kind.Stmts (node kind.With (node kind.Accesses (node kind.Ref (name "r" Nil) Nil) (node kind.Compound (node kind.Stmts (node kind.Assign (node kind.Ref (name "a" Nil) (word kind.Text "'x'" Nil Nil)) (node kind.Assign (node kind.Ref (name "b" Nil) (word kind.Number "1" Nil Nil)) Nil)) Nil) Nil)) (node kind.Assign (node kind.Select (node kind.Ref (name "r" Nil) (name "a" Nil)) (word kind.Number "2" Nil Nil)) (node kind.Assign (node kind.Select (node kind.Ref (name "r" Nil) (name "c" Nil)) (word kind.Number "3" Nil Nil)) Nil))) Nil) Nil))))) Nil)))

holds2 : differs tree2 (entry (3 ∷ 3 ∷ 1 ∷ 2 ∷ 1 ∷ 2 ∷ 2 ∷ 1 ∷ []) 1 "not declared: t" ∷ entry (3 ∷ 5 ∷ 1 ∷ 1 ∷ 2 ∷ 1 ∷ 2 ∷ 1 ∷ 1 ∷ []) 1 "not declared: b" ∷ []) ≡ Equal
unfolding differs
holds2 = refl

-- A field hides a procedure, a function, a constant and a type of the block in the with's body.
--   program p; const c = 1; var r: record q, f, c: integer end; procedure q; begin end; function f(a: integer): integer; begin f := a end; begin with r do
--   begin q; q := f(1); c := 2; case 1 of c: end end; q; c := 3 end.
abbrev tree3 : Plain
tree3 = program (name "p" (node kind.Heads Nil (node kind.Block (node kind.Consts (node kind.Constdef (name "c" (word kind.Cnumber "1" Nil Nil)) Nil) (node kind.Types Nil (node kind.Vars (node kind.Vardef (node kind.Names (name "r" Nil) (node kind.Record (node kind.Fields (node kind.Field (node kind.Names (name "q" (name "f" (name "c" Nil))) (node kind.Tname (name "integer" Nil) Nil)) Nil) Nil) Nil)) Nil) (node kind.Routines (node kind.Procedure (name "q" (node kind.Params Nil (node kind.Block (node kind.Consts Nil (node kind.Types Nil (node kind.Vars Nil (node kind.Routines Nil (node kind.Compound (node kind.Stmts (node kind.Empty Nil Nil) Nil) Nil))))) Nil))) (node kind.Function (name "f" (node kind.Params (node kind.Valparam (node kind.Names (name "a" Nil) (name "integer" Nil)) Nil) (name "integer" (node kind.Block (node kind.Consts Nil (node kind.Types Nil (node kind.Vars Nil (node kind.Routines Nil (node kind.Compound (node kind.Stmts (node kind.Assign (node kind.Ref (name "f" Nil) (node kind.Ref (name "a" Nil) Nil)) Nil) Nil) Nil))))) Nil)))) Nil)) (node kind.Compound (node kind.Stmts (node kind.With (node kind.Accesses (node kind.Ref (name "r" Nil) Nil) (node kind.Compound (node kind.Stmts (node kind.Proc (name "q" (node kind.Args Nil Nil)) (node kind.Assign (node kind.Ref (name "q" Nil) (node kind.Call (name "f" (node kind.Exprs (word kind.Number "1" Nil Nil) Nil)) Nil)) (node kind.Assign (node kind.Ref (name "c" Nil) (word kind.Number "2" Nil Nil)) (node kind.Case (word kind.Number "1" Nil (node kind.Arms (node kind.Arm (node kind.Labels (node kind.Cname (name "c" Nil) Nil) (node kind.Empty Nil Nil)) Nil) Nil)) Nil)))) Nil) Nil)) (node kind.Proc (name "q" (node kind.Args Nil Nil)) (node kind.Assign (node kind.Ref (name "c" Nil) (word kind.Number "3" Nil Nil)) Nil))) Nil) Nil))))) Nil)))

holds3 : differs tree3 (entry (3 ∷ 5 ∷ 1 ∷ 1 ∷ 2 ∷ 1 ∷ 1 ∷ 1 ∷ []) 4 "not a procedure: q" ∷ entry (3 ∷ 5 ∷ 1 ∷ 1 ∷ 2 ∷ 1 ∷ 2 ∷ 2 ∷ 1 ∷ []) 4 "not a function: f" ∷ entry (3 ∷ 5 ∷ 1 ∷ 1 ∷ 2 ∷ 1 ∷ 4 ∷ 2 ∷ 1 ∷ 1 ∷ 1 ∷ 1 ∷ []) 4 "not a constant: c" ∷ entry (3 ∷ 5 ∷ 1 ∷ 3 ∷ 1 ∷ 1 ∷ []) 4 "not a variable: c" ∷ []) ≡ Equal
unfolding differs
holds3 = refl

-- The same with a hole in the record.
--   program p; var r: record a: integer; ?field end; begin with r do a := 1; r.a := 2 end.
abbrev tree4 : Plain
tree4 = program (name "p" (node kind.Heads Nil (node kind.Block (node kind.Consts Nil (node kind.Types Nil (node kind.Vars (node kind.Vardef (node kind.Names (name "r" Nil) (node kind.Record (node kind.Fields (node kind.Field (node kind.Names (name "a" Nil) (node kind.Tname (name "integer" Nil) Nil)) (node (kind.Hole sort.Field) Nil Nil)) Nil) Nil)) Nil) (node kind.Routines Nil (node kind.Compound (node kind.Stmts (node kind.With (node kind.Accesses (node kind.Ref (name "r" Nil) Nil) (node kind.Assign (node kind.Ref (name "a" Nil) (word kind.Number "1" Nil Nil)) Nil)) (node kind.Assign (node kind.Select (node kind.Ref (name "r" Nil) (name "a" Nil)) (word kind.Number "2" Nil Nil)) Nil)) Nil) Nil))))) Nil)))

holds4 : differs tree4 (entry (3 ∷ 5 ∷ 1 ∷ 1 ∷ 2 ∷ 1 ∷ 1 ∷ []) 1 "not declared: a" ∷ []) ≡ Equal
unfolding differs
holds4 = refl

-- The innermost with that has the field decides; two records of one with: the later.
--   program p; var r: record x: integer end; s: record x: char end; begin with r, s do x := 1; with s, r do x := 1; with s do with r do x := 1 end.
abbrev tree5 : Plain
tree5 = program (name "p" (node kind.Heads Nil (node kind.Block (node kind.Consts Nil (node kind.Types Nil (node kind.Vars (node kind.Vardef (node kind.Names (name "r" Nil) (node kind.Record (node kind.Fields (node kind.Field (node kind.Names (name "x" Nil) (node kind.Tname (name "integer" Nil) Nil)) Nil) Nil) Nil)) (node kind.Vardef (node kind.Names (name "s" Nil) (node kind.Record (node kind.Fields (node kind.Field (node kind.Names (name "x" Nil) (node kind.Tname (name "char" Nil) Nil)) Nil) Nil) Nil)) Nil)) (node kind.Routines Nil (node kind.Compound (node kind.Stmts (node kind.With (node kind.Accesses (node kind.Ref (name "r" Nil) (node kind.Ref (name "s" Nil) Nil)) (node kind.Assign (node kind.Ref (name "x" Nil) (word kind.Number "1" Nil Nil)) Nil)) (node kind.With (node kind.Accesses (node kind.Ref (name "s" Nil) (node kind.Ref (name "r" Nil) Nil)) (node kind.Assign (node kind.Ref (name "x" Nil) (word kind.Number "1" Nil Nil)) Nil)) (node kind.With (node kind.Accesses (node kind.Ref (name "s" Nil) Nil) (node kind.With (node kind.Accesses (node kind.Ref (name "r" Nil) Nil) (node kind.Assign (node kind.Ref (name "x" Nil) (word kind.Number "1" Nil Nil)) Nil)) Nil)) Nil))) Nil) Nil))))) Nil)))

holds5 : differs tree5 (entry (3 ∷ 5 ∷ 1 ∷ 1 ∷ 2 ∷ []) 11 "types do not agree" ∷ []) ≡ Equal
unfolding differs
holds5 = refl

-- A later access of a with sees the fields of the earlier ones.
--   program p; var r: record s: record x: integer end; t: integer end; begin with r, s do begin x := 1; t := 2 end; with s do; with r do with s do x :=
--   true end.
abbrev tree6 : Plain
tree6 = program (name "p" (node kind.Heads Nil (node kind.Block (node kind.Consts Nil (node kind.Types Nil (node kind.Vars (node kind.Vardef (node kind.Names (name "r" Nil) (node kind.Record (node kind.Fields (node kind.Field (node kind.Names (name "s" Nil) (node kind.Record (node kind.Fields (node kind.Field (node kind.Names (name "x" Nil) (node kind.Tname (name "integer" Nil) Nil)) Nil) Nil) Nil)) (node kind.Field (node kind.Names (name "t" Nil) (node kind.Tname (name "integer" Nil) Nil)) Nil)) Nil) Nil)) Nil) (node kind.Routines Nil (node kind.Compound (node kind.Stmts (node kind.With (node kind.Accesses (node kind.Ref (name "r" Nil) (node kind.Ref (name "s" Nil) Nil)) (node kind.Compound (node kind.Stmts (node kind.Assign (node kind.Ref (name "x" Nil) (word kind.Number "1" Nil Nil)) (node kind.Assign (node kind.Ref (name "t" Nil) (word kind.Number "2" Nil Nil)) Nil)) Nil) Nil)) (node kind.With (node kind.Accesses (node kind.Ref (name "s" Nil) Nil) (node kind.Empty Nil Nil)) (node kind.With (node kind.Accesses (node kind.Ref (name "r" Nil) Nil) (node kind.With (node kind.Accesses (node kind.Ref (name "s" Nil) Nil) (node kind.Assign (node kind.Ref (name "x" Nil) (node kind.Ref (name "true" Nil) Nil)) Nil)) Nil)) Nil))) Nil) Nil))))) Nil)))

holds6 : differs tree6 (entry (3 ∷ 5 ∷ 1 ∷ 2 ∷ 1 ∷ 1 ∷ 1 ∷ []) 1 "not declared: s" ∷ entry (3 ∷ 5 ∷ 1 ∷ 3 ∷ 2 ∷ 2 ∷ []) 11 "types do not agree" ∷ []) ≡ Equal
unfolding differs
holds6 = refl

-- After the with its fields are gone; a routine declared outside never sees them.
--   program p; var r: record x: integer end; procedure q; begin x := 1 end; begin with r do begin x := 1; q end; x := 2 end.
abbrev tree7 : Plain
tree7 = program (name "p" (node kind.Heads Nil (node kind.Block (node kind.Consts Nil (node kind.Types Nil (node kind.Vars (node kind.Vardef (node kind.Names (name "r" Nil) (node kind.Record (node kind.Fields (node kind.Field (node kind.Names (name "x" Nil) (node kind.Tname (name "integer" Nil) Nil)) Nil) Nil) Nil)) Nil) (node kind.Routines (node kind.Procedure (name "q" (node kind.Params Nil (node kind.Block (node kind.Consts Nil (node kind.Types Nil (node kind.Vars Nil (node kind.Routines Nil (node kind.Compound (node kind.Stmts (node kind.Assign (node kind.Ref (name "x" Nil) (word kind.Number "1" Nil Nil)) Nil) Nil) Nil))))) Nil))) Nil) (node kind.Compound (node kind.Stmts (node kind.With (node kind.Accesses (node kind.Ref (name "r" Nil) Nil) (node kind.Compound (node kind.Stmts (node kind.Assign (node kind.Ref (name "x" Nil) (word kind.Number "1" Nil Nil)) (node kind.Proc (name "q" (node kind.Args Nil Nil)) Nil)) Nil) Nil)) (node kind.Assign (node kind.Ref (name "x" Nil) (word kind.Number "2" Nil Nil)) Nil)) Nil) Nil))))) Nil)))

holds7 : differs tree7 (entry (3 ∷ 4 ∷ 1 ∷ 3 ∷ 5 ∷ 1 ∷ 1 ∷ 1 ∷ 1 ∷ []) 1 "not declared: x" ∷ entry (3 ∷ 5 ∷ 1 ∷ 2 ∷ 1 ∷ 1 ∷ []) 1 "not declared: x" ∷ []) ≡ Equal
unfolding differs
holds7 = refl
