-- Several rules in one program: programs with the errors that they have.
use Rattle.std.specs.Prelude.{◌≡◌, [], ◌∷◌}
use Rattle.std.proofs.Common.{refl}
use Rattle.pc_syntax.specs.Plain.{Nil, Plain}
use Rattle.pc_syntax.specs.declared.kind.Kind.TheVariants as kind
use Rattle.pc_rule_cases.specs.Trees.{program, node, name, word}
use Rattle.pc_rule_cases.specs.Compare.{Equal, entry, differs}

-- A wrong index takes the access's type away: no second entry at the assign.
--   program p; var a: array [1..3] of char; begin a['x'] := 1; a[1] := a['x']; a[1] := 2 end.
abbrev tree1 : Plain
tree1 = program (name "p" (node kind.Heads Nil (node kind.Block (node kind.Consts Nil (node kind.Types Nil (node kind.Vars (node kind.Vardef (node kind.Names (name "a" Nil) (node kind.Array (node kind.Indexes (node kind.Subrange (word kind.Cnumber "1" Nil (word kind.Cnumber "3" Nil Nil)) Nil) (node kind.Tname (name "char" Nil) Nil)) Nil)) Nil) (node kind.Routines Nil (node kind.Compound (node kind.Stmts (node kind.Assign (node kind.Index (node kind.Ref (name "a" Nil) (node kind.Exprs (word kind.Text "'x'" Nil Nil) Nil)) (word kind.Number "1" Nil Nil)) (node kind.Assign (node kind.Index (node kind.Ref (name "a" Nil) (node kind.Exprs (word kind.Number "1" Nil Nil) Nil)) (node kind.Index (node kind.Ref (name "a" Nil) (node kind.Exprs (word kind.Text "'x'" Nil Nil) Nil)) Nil)) (node kind.Assign (node kind.Index (node kind.Ref (name "a" Nil) (node kind.Exprs (word kind.Number "1" Nil Nil) Nil)) (word kind.Number "2" Nil Nil)) Nil))) Nil) Nil))))) Nil)))

holds1 : differs tree1 (entry (3 ∷ 5 ∷ 1 ∷ 1 ∷ 1 ∷ 2 ∷ 1 ∷ []) 11 "types do not agree" ∷ entry (3 ∷ 5 ∷ 1 ∷ 2 ∷ 2 ∷ 2 ∷ 1 ∷ []) 11 "types do not agree" ∷ entry (3 ∷ 5 ∷ 1 ∷ 3 ∷ []) 11 "types do not agree" ∷ []) ≡ Equal
unfolding differs
holds1 = refl

-- Entries stand in the preorder of their places: the arms' statements after their labels.
--   program p; begin case 'a' of 1: x := 1; 'a': y := 2 end end.
abbrev tree2 : Plain
tree2 = program (name "p" (node kind.Heads Nil (node kind.Block (node kind.Consts Nil (node kind.Types Nil (node kind.Vars Nil (node kind.Routines Nil (node kind.Compound (node kind.Stmts (node kind.Case (word kind.Text "'a'" Nil (node kind.Arms (node kind.Arm (node kind.Labels (word kind.Cnumber "1" Nil Nil) (node kind.Assign (node kind.Ref (name "x" Nil) (word kind.Number "1" Nil Nil)) Nil)) (node kind.Arm (node kind.Labels (word kind.Cstring "'a'" Nil Nil) (node kind.Assign (node kind.Ref (name "y" Nil) (word kind.Number "2" Nil Nil)) Nil)) Nil)) Nil)) Nil) Nil) Nil))))) Nil)))

holds2 : differs tree2 (entry (3 ∷ 5 ∷ 1 ∷ 1 ∷ 2 ∷ 1 ∷ 1 ∷ 1 ∷ []) 11 "types do not agree" ∷ entry (3 ∷ 5 ∷ 1 ∷ 1 ∷ 2 ∷ 1 ∷ 2 ∷ 1 ∷ 1 ∷ []) 1 "not declared: x" ∷ entry (3 ∷ 5 ∷ 1 ∷ 1 ∷ 2 ∷ 2 ∷ 2 ∷ 1 ∷ 1 ∷ []) 1 "not declared: y" ∷ []) ≡ Equal
unfolding differs
holds2 = refl

-- Names three blocks deep: the nearest declaration counts at each place.
--   program p; var x: integer; procedure a; var x: char; procedure b; procedure c; begin x := 1 end; begin x := 'b' end; begin x := 2 end; begin x := 3
--   end.
abbrev tree3 : Plain
tree3 = program (name "p" (node kind.Heads Nil (node kind.Block (node kind.Consts Nil (node kind.Types Nil (node kind.Vars (node kind.Vardef (node kind.Names (name "x" Nil) (node kind.Tname (name "integer" Nil) Nil)) Nil) (node kind.Routines (node kind.Procedure (name "a" (node kind.Params Nil (node kind.Block (node kind.Consts Nil (node kind.Types Nil (node kind.Vars (node kind.Vardef (node kind.Names (name "x" Nil) (node kind.Tname (name "char" Nil) Nil)) Nil) (node kind.Routines (node kind.Procedure (name "b" (node kind.Params Nil (node kind.Block (node kind.Consts Nil (node kind.Types Nil (node kind.Vars Nil (node kind.Routines (node kind.Procedure (name "c" (node kind.Params Nil (node kind.Block (node kind.Consts Nil (node kind.Types Nil (node kind.Vars Nil (node kind.Routines Nil (node kind.Compound (node kind.Stmts (node kind.Assign (node kind.Ref (name "x" Nil) (word kind.Number "1" Nil Nil)) Nil) Nil) Nil))))) Nil))) Nil) (node kind.Compound (node kind.Stmts (node kind.Assign (node kind.Ref (name "x" Nil) (word kind.Text "'b'" Nil Nil)) Nil) Nil) Nil))))) Nil))) Nil) (node kind.Compound (node kind.Stmts (node kind.Assign (node kind.Ref (name "x" Nil) (word kind.Number "2" Nil Nil)) Nil) Nil) Nil))))) Nil))) Nil) (node kind.Compound (node kind.Stmts (node kind.Assign (node kind.Ref (name "x" Nil) (word kind.Number "3" Nil Nil)) Nil) Nil) Nil))))) Nil)))

holds3 : differs tree3 (entry (3 ∷ 4 ∷ 1 ∷ 3 ∷ 4 ∷ 1 ∷ 3 ∷ 4 ∷ 1 ∷ 3 ∷ 5 ∷ 1 ∷ 1 ∷ []) 11 "types do not agree" ∷ entry (3 ∷ 4 ∷ 1 ∷ 3 ∷ 5 ∷ 1 ∷ 1 ∷ []) 11 "types do not agree" ∷ []) ≡ Equal
unfolding differs
holds3 = refl

-- A node's own entry comes before those of its kids.
--   program p; procedure q(a: integer); begin end; begin q(y, z); x := (1 + 'a') end.
abbrev tree4 : Plain
tree4 = program (name "p" (node kind.Heads Nil (node kind.Block (node kind.Consts Nil (node kind.Types Nil (node kind.Vars Nil (node kind.Routines (node kind.Procedure (name "q" (node kind.Params (node kind.Valparam (node kind.Names (name "a" Nil) (name "integer" Nil)) Nil) (node kind.Block (node kind.Consts Nil (node kind.Types Nil (node kind.Vars Nil (node kind.Routines Nil (node kind.Compound (node kind.Stmts (node kind.Empty Nil Nil) Nil) Nil))))) Nil))) Nil) (node kind.Compound (node kind.Stmts (node kind.Proc (name "q" (node kind.Args (node kind.Ref (name "y" Nil) (node kind.Ref (name "z" Nil) Nil)) Nil)) (node kind.Assign (node kind.Ref (name "x" Nil) (node kind.Parens (word kind.Add "+" (word kind.Number "1" Nil (word kind.Text "'a'" Nil Nil)) Nil) Nil)) Nil)) Nil) Nil))))) Nil)))

holds4 : differs tree4 (entry (3 ∷ 5 ∷ 1 ∷ 1 ∷ []) 12 "wrong number of arguments" ∷ entry (3 ∷ 5 ∷ 1 ∷ 1 ∷ 2 ∷ 1 ∷ 1 ∷ []) 1 "not declared: y" ∷ entry (3 ∷ 5 ∷ 1 ∷ 1 ∷ 2 ∷ 2 ∷ 1 ∷ []) 1 "not declared: z" ∷ entry (3 ∷ 5 ∷ 1 ∷ 2 ∷ 1 ∷ 1 ∷ []) 1 "not declared: x" ∷ entry (3 ∷ 5 ∷ 1 ∷ 2 ∷ 2 ∷ 1 ∷ []) 11 "types do not agree" ∷ []) ≡ Equal
unfolding differs
holds4 = refl

-- An outer function's name in an inner expression is a call.
--   program p; function f(a: integer): integer; function g: integer; begin g := f(1) + f end; begin f := g end; begin end.
abbrev tree5 : Plain
tree5 = program (name "p" (node kind.Heads Nil (node kind.Block (node kind.Consts Nil (node kind.Types Nil (node kind.Vars Nil (node kind.Routines (node kind.Function (name "f" (node kind.Params (node kind.Valparam (node kind.Names (name "a" Nil) (name "integer" Nil)) Nil) (name "integer" (node kind.Block (node kind.Consts Nil (node kind.Types Nil (node kind.Vars Nil (node kind.Routines (node kind.Function (name "g" (node kind.Params Nil (name "integer" (node kind.Block (node kind.Consts Nil (node kind.Types Nil (node kind.Vars Nil (node kind.Routines Nil (node kind.Compound (node kind.Stmts (node kind.Assign (node kind.Ref (name "g" Nil) (word kind.Add "+" (node kind.Call (name "f" (node kind.Exprs (word kind.Number "1" Nil Nil) Nil)) (node kind.Ref (name "f" Nil) Nil)) Nil)) Nil) Nil) Nil))))) Nil)))) Nil) (node kind.Compound (node kind.Stmts (node kind.Assign (node kind.Ref (name "f" Nil) (node kind.Ref (name "g" Nil) Nil)) Nil) Nil) Nil))))) Nil)))) Nil) (node kind.Compound (node kind.Stmts (node kind.Empty Nil Nil) Nil) Nil))))) Nil)))

holds5 : differs tree5 (entry (3 ∷ 4 ∷ 1 ∷ 4 ∷ 4 ∷ 1 ∷ 4 ∷ 5 ∷ 1 ∷ 1 ∷ 2 ∷ 2 ∷ []) 12 "wrong number of arguments" ∷ []) ≡ Equal
unfolding differs
holds5 = refl

-- A variable in its own denoter stands before it: no row 2, but its class is wrong.
--   program p; var x: array [1..x] of x; begin end.
abbrev tree6 : Plain
tree6 = program (name "p" (node kind.Heads Nil (node kind.Block (node kind.Consts Nil (node kind.Types Nil (node kind.Vars (node kind.Vardef (node kind.Names (name "x" Nil) (node kind.Array (node kind.Indexes (node kind.Subrange (word kind.Cnumber "1" Nil (node kind.Cname (name "x" Nil) Nil)) Nil) (node kind.Tname (name "x" Nil) Nil)) Nil)) Nil) (node kind.Routines Nil (node kind.Compound (node kind.Stmts (node kind.Empty Nil Nil) Nil) Nil))))) Nil)))

holds6 : differs tree6 (entry (3 ∷ 3 ∷ 1 ∷ 2 ∷ 1 ∷ 1 ∷ 2 ∷ 1 ∷ []) 4 "not a constant: x" ∷ entry (3 ∷ 3 ∷ 1 ∷ 2 ∷ 2 ∷ 1 ∷ []) 4 "not a type: x" ∷ []) ≡ Equal
unfolding differs
holds6 = refl

-- A parameter with the function's name hides it, so the function gets no result; no entry.
--   program p; function f(f: integer): integer; begin f := 1 end; begin write(f(2)) end.
abbrev tree7 : Plain
tree7 = program (name "p" (node kind.Heads Nil (node kind.Block (node kind.Consts Nil (node kind.Types Nil (node kind.Vars Nil (node kind.Routines (node kind.Function (name "f" (node kind.Params (node kind.Valparam (node kind.Names (name "f" Nil) (name "integer" Nil)) Nil) (name "integer" (node kind.Block (node kind.Consts Nil (node kind.Types Nil (node kind.Vars Nil (node kind.Routines Nil (node kind.Compound (node kind.Stmts (node kind.Assign (node kind.Ref (name "f" Nil) (word kind.Number "1" Nil Nil)) Nil) Nil) Nil))))) Nil)))) Nil) (node kind.Compound (node kind.Stmts (node kind.Proc (name "write" (node kind.Args (node kind.Call (name "f" (node kind.Exprs (word kind.Number "2" Nil Nil) Nil)) Nil) Nil)) Nil) Nil) Nil))))) Nil)))

holds7 : differs tree7 ([]) ≡ Equal
unfolding differs
holds7 = refl

-- Pointers: a type has an error where one of its definitions has, also through a pointer; uses of such a variable have no entry.
--   program p; type l = ^n; n = record v: t; next: l end; var q: l; begin q := 1; q^.v := true; q^.w := 1; new(q, 2) end.
abbrev tree8 : Plain
tree8 = program (name "p" (node kind.Heads Nil (node kind.Block (node kind.Consts Nil (node kind.Types (node kind.Typedef (name "l" (node kind.Pointer (name "n" Nil) Nil)) (node kind.Typedef (name "n" (node kind.Record (node kind.Fields (node kind.Field (node kind.Names (name "v" Nil) (node kind.Tname (name "t" Nil) Nil)) (node kind.Field (node kind.Names (name "next" Nil) (node kind.Tname (name "l" Nil) Nil)) Nil)) Nil) Nil)) Nil)) (node kind.Vars (node kind.Vardef (node kind.Names (name "q" Nil) (node kind.Tname (name "l" Nil) Nil)) Nil) (node kind.Routines Nil (node kind.Compound (node kind.Stmts (node kind.Assign (node kind.Ref (name "q" Nil) (word kind.Number "1" Nil Nil)) (node kind.Assign (node kind.Select (node kind.Deref (node kind.Ref (name "q" Nil) Nil) (name "v" Nil)) (node kind.Ref (name "true" Nil) Nil)) (node kind.Assign (node kind.Select (node kind.Deref (node kind.Ref (name "q" Nil) Nil) (name "w" Nil)) (word kind.Number "1" Nil Nil)) (node kind.Proc (name "new" (node kind.Args (node kind.Ref (name "q" Nil) (word kind.Number "2" Nil Nil)) Nil)) Nil)))) Nil) Nil))))) Nil)))

holds8 : differs tree8 (entry (3 ∷ 2 ∷ 2 ∷ 2 ∷ 1 ∷ 1 ∷ 2 ∷ 1 ∷ []) 1 "not declared: t" ∷ entry (3 ∷ 5 ∷ 1 ∷ 4 ∷ []) 12 "wrong number of arguments" ∷ entry (3 ∷ 5 ∷ 1 ∷ 4 ∷ 2 ∷ 2 ∷ []) 13 "not a variable" ∷ []) ≡ Equal
unfolding differs
holds8 = refl

-- Names equated through a pointer: n is l itself, so x^ has the type of x.
--   program p; type l = ^n; n = l; var x: l; begin new(x); x^ := x; x := x^^ end.
abbrev tree9 : Plain
tree9 = program (name "p" (node kind.Heads Nil (node kind.Block (node kind.Consts Nil (node kind.Types (node kind.Typedef (name "l" (node kind.Pointer (name "n" Nil) Nil)) (node kind.Typedef (name "n" (node kind.Tname (name "l" Nil) Nil)) Nil)) (node kind.Vars (node kind.Vardef (node kind.Names (name "x" Nil) (node kind.Tname (name "l" Nil) Nil)) Nil) (node kind.Routines Nil (node kind.Compound (node kind.Stmts (node kind.Proc (name "new" (node kind.Args (node kind.Ref (name "x" Nil) Nil) Nil)) (node kind.Assign (node kind.Deref (node kind.Ref (name "x" Nil) Nil) (node kind.Ref (name "x" Nil) Nil)) (node kind.Assign (node kind.Ref (name "x" Nil) (node kind.Deref (node kind.Deref (node kind.Ref (name "x" Nil) Nil) Nil) Nil)) Nil))) Nil) Nil))))) Nil)))

holds9 : differs tree9 ([]) ≡ Equal
unfolding differs
holds9 = refl

-- A domain in an inner type part that the inner block declares later, though an outer one has the name.
--   program p; type n = integer; procedure q; type l = ^n; var x: l; begin x^ := 'a' end; procedure r; type l = ^n; n = char; var x: l; begin x^ := 'a'
--   end; begin end.
abbrev tree10 : Plain
tree10 = program (name "p" (node kind.Heads Nil (node kind.Block (node kind.Consts Nil (node kind.Types (node kind.Typedef (name "n" (node kind.Tname (name "integer" Nil) Nil)) Nil) (node kind.Vars Nil (node kind.Routines (node kind.Procedure (name "q" (node kind.Params Nil (node kind.Block (node kind.Consts Nil (node kind.Types (node kind.Typedef (name "l" (node kind.Pointer (name "n" Nil) Nil)) Nil) (node kind.Vars (node kind.Vardef (node kind.Names (name "x" Nil) (node kind.Tname (name "l" Nil) Nil)) Nil) (node kind.Routines Nil (node kind.Compound (node kind.Stmts (node kind.Assign (node kind.Deref (node kind.Ref (name "x" Nil) Nil) (word kind.Text "'a'" Nil Nil)) Nil) Nil) Nil))))) Nil))) (node kind.Procedure (name "r" (node kind.Params Nil (node kind.Block (node kind.Consts Nil (node kind.Types (node kind.Typedef (name "l" (node kind.Pointer (name "n" Nil) Nil)) (node kind.Typedef (name "n" (node kind.Tname (name "char" Nil) Nil)) Nil)) (node kind.Vars (node kind.Vardef (node kind.Names (name "x" Nil) (node kind.Tname (name "l" Nil) Nil)) Nil) (node kind.Routines Nil (node kind.Compound (node kind.Stmts (node kind.Assign (node kind.Deref (node kind.Ref (name "x" Nil) Nil) (word kind.Text "'a'" Nil Nil)) Nil) Nil) Nil))))) Nil))) Nil)) (node kind.Compound (node kind.Stmts (node kind.Empty Nil Nil) Nil) Nil))))) Nil)))

holds10 : differs tree10 (entry (3 ∷ 4 ∷ 1 ∷ 3 ∷ 5 ∷ 1 ∷ 1 ∷ []) 11 "types do not agree" ∷ []) ≡ Equal
unfolding differs
holds10 = refl

-- Only the domain itself may stand later: a name equated to a later one has row 2, and what points to it has no type.
--   program p; type l = ^m; m = k; k = char; var x: l; begin x := 1; x^ := 2 end.
abbrev tree11 : Plain
tree11 = program (name "p" (node kind.Heads Nil (node kind.Block (node kind.Consts Nil (node kind.Types (node kind.Typedef (name "l" (node kind.Pointer (name "m" Nil) Nil)) (node kind.Typedef (name "m" (node kind.Tname (name "k" Nil) Nil)) (node kind.Typedef (name "k" (node kind.Tname (name "char" Nil) Nil)) Nil))) (node kind.Vars (node kind.Vardef (node kind.Names (name "x" Nil) (node kind.Tname (name "l" Nil) Nil)) Nil) (node kind.Routines Nil (node kind.Compound (node kind.Stmts (node kind.Assign (node kind.Ref (name "x" Nil) (word kind.Number "1" Nil Nil)) (node kind.Assign (node kind.Deref (node kind.Ref (name "x" Nil) Nil) (word kind.Number "2" Nil Nil)) Nil)) Nil) Nil))))) Nil)))

holds11 : differs tree11 (entry (3 ∷ 2 ∷ 2 ∷ 2 ∷ 1 ∷ []) 2 "used before its declaration: k" ∷ []) ≡ Equal
unfolding differs
holds11 = refl

-- Pointers: a domain that an outer block declares; a domain that the own block declares later in its type part.
--   program p; type n = char; procedure q; type l = ^n; n = integer; var a: l; begin a^ := 1; a^ := 'x' end; procedure r; type l = ^n; var a: l; begin a^
--   := 'x' end; begin end.
abbrev tree12 : Plain
tree12 = program (name "p" (node kind.Heads Nil (node kind.Block (node kind.Consts Nil (node kind.Types (node kind.Typedef (name "n" (node kind.Tname (name "char" Nil) Nil)) Nil) (node kind.Vars Nil (node kind.Routines (node kind.Procedure (name "q" (node kind.Params Nil (node kind.Block (node kind.Consts Nil (node kind.Types (node kind.Typedef (name "l" (node kind.Pointer (name "n" Nil) Nil)) (node kind.Typedef (name "n" (node kind.Tname (name "integer" Nil) Nil)) Nil)) (node kind.Vars (node kind.Vardef (node kind.Names (name "a" Nil) (node kind.Tname (name "l" Nil) Nil)) Nil) (node kind.Routines Nil (node kind.Compound (node kind.Stmts (node kind.Assign (node kind.Deref (node kind.Ref (name "a" Nil) Nil) (word kind.Number "1" Nil Nil)) (node kind.Assign (node kind.Deref (node kind.Ref (name "a" Nil) Nil) (word kind.Text "'x'" Nil Nil)) Nil)) Nil) Nil))))) Nil))) (node kind.Procedure (name "r" (node kind.Params Nil (node kind.Block (node kind.Consts Nil (node kind.Types (node kind.Typedef (name "l" (node kind.Pointer (name "n" Nil) Nil)) Nil) (node kind.Vars (node kind.Vardef (node kind.Names (name "a" Nil) (node kind.Tname (name "l" Nil) Nil)) Nil) (node kind.Routines Nil (node kind.Compound (node kind.Stmts (node kind.Assign (node kind.Deref (node kind.Ref (name "a" Nil) Nil) (word kind.Text "'x'" Nil Nil)) Nil) Nil) Nil))))) Nil))) Nil)) (node kind.Compound (node kind.Stmts (node kind.Empty Nil Nil) Nil) Nil))))) Nil)))

holds12 : differs tree12 (entry (3 ∷ 4 ∷ 1 ∷ 3 ∷ 5 ∷ 1 ∷ 2 ∷ []) 11 "types do not agree" ∷ []) ≡ Equal
unfolding differs
holds12 = refl
