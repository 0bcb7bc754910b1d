-- Result types: programs with the errors that they have.
use Rattle.std.specs.Prelude.{◌≡◌, [], ◌∷◌}
use Rattle.std.proofs.Common.{refl}
use Rattle.pc_syntax.specs.Plain.{Nil, Plain}
use Rattle.pc_syntax.specs.declared.kind.Kind.TheVariants as kind
use Rattle.pc_syntax.specs.declared.sort.Sort.TheVariants as sort
use Rattle.pc_rule_cases.specs.Trees.{program, node, name, word}
use Rattle.pc_rule_cases.specs.Compare.{Equal, entry, differs}

-- Rows 20 and 22: a function body is no later declaration of a procedure.
--   program p; procedure f; forward; function f; begin end; begin end.
abbrev tree1 : Plain
tree1 = program (name "p" (node kind.Heads Nil (node kind.Block (node kind.Consts Nil (node kind.Types Nil (node kind.Vars Nil (node kind.Routines (node kind.Procedure (name "f" (node kind.Params Nil (word kind.Forward "forward" Nil Nil))) (node kind.Funbody (name "f" (node kind.Block (node kind.Consts Nil (node kind.Types Nil (node kind.Vars Nil (node kind.Routines Nil (node kind.Compound (node kind.Stmts (node kind.Empty Nil Nil) Nil) Nil))))) Nil)) Nil)) (node kind.Compound (node kind.Stmts (node kind.Empty Nil Nil) Nil) Nil))))) Nil)))

holds1 : differs tree1 (entry (3 ∷ 4 ∷ 1 ∷ []) 20 "forward has no block: f" ∷ entry (3 ∷ 4 ∷ 2 ∷ 1 ∷ []) 3 "declared twice: f" ∷ entry (3 ∷ 4 ∷ 2 ∷ 1 ∷ []) 22 "result type not simple: f" ∷ []) ≡ Equal
unfolding differs
holds1 = refl

-- Row 22: the name of a funbody that is no forward's later declaration. Its result type has an error, so the target and the call have no entry.
--   program p; var i: integer; function f; begin f := true end; begin i := f; i := f(1, 2) end.
abbrev tree2 : Plain
tree2 = program (name "p" (node kind.Heads Nil (node kind.Block (node kind.Consts Nil (node kind.Types Nil (node kind.Vars (node kind.Vardef (node kind.Names (name "i" Nil) (node kind.Tname (name "integer" Nil) Nil)) Nil) (node kind.Routines (node kind.Funbody (name "f" (node kind.Block (node kind.Consts Nil (node kind.Types Nil (node kind.Vars Nil (node kind.Routines Nil (node kind.Compound (node kind.Stmts (node kind.Assign (node kind.Ref (name "f" Nil) (node kind.Ref (name "true" Nil) Nil)) Nil) Nil) Nil))))) Nil)) Nil) (node kind.Compound (node kind.Stmts (node kind.Assign (node kind.Ref (name "i" Nil) (node kind.Ref (name "f" Nil) Nil)) (node kind.Assign (node kind.Ref (name "i" Nil) (node kind.Call (name "f" (node kind.Exprs (word kind.Number "1" Nil (word kind.Number "2" Nil Nil)) Nil)) Nil)) Nil)) Nil) Nil))))) Nil)))

holds2 : differs tree2 (entry (3 ∷ 4 ∷ 1 ∷ 1 ∷ []) 22 "result type not simple: f" ∷ []) ≡ Equal
unfolding differs
holds2 = refl

-- Row 22: the function's name has no type then: no rows 11 and 12 at its calls.
--   program p; type a = array [1..2] of char; function f(x: integer): a; begin f := 1 end; begin write(f('x', 2) + true) end.
abbrev tree3 : Plain
tree3 = program (name "p" (node kind.Heads Nil (node kind.Block (node kind.Consts Nil (node kind.Types (node kind.Typedef (name "a" (node kind.Array (node kind.Indexes (node kind.Subrange (word kind.Cnumber "1" Nil (word kind.Cnumber "2" Nil Nil)) Nil) (node kind.Tname (name "char" Nil) Nil)) Nil)) Nil) (node kind.Vars Nil (node kind.Routines (node kind.Function (name "f" (node kind.Params (node kind.Valparam (node kind.Names (name "x" Nil) (name "integer" Nil)) Nil) (name "a" (node kind.Block (node kind.Consts Nil (node kind.Types Nil (node kind.Vars Nil (node kind.Routines Nil (node kind.Compound (node kind.Stmts (node kind.Assign (node kind.Ref (name "f" Nil) (word kind.Number "1" Nil Nil)) Nil) Nil) Nil))))) Nil)))) Nil) (node kind.Compound (node kind.Stmts (node kind.Proc (name "write" (node kind.Args (word kind.Add "+" (node kind.Call (name "f" (node kind.Exprs (word kind.Text "'x'" Nil (word kind.Number "2" Nil Nil)) Nil)) (node kind.Ref (name "true" Nil) Nil)) Nil) Nil)) Nil) Nil) Nil))))) Nil)))

holds3 : differs tree3 (entry (3 ∷ 4 ∷ 1 ∷ 3 ∷ []) 22 "result type not simple: a" ∷ []) ≡ Equal
unfolding differs
holds3 = refl

-- Row 22: a name that is no type is row 4 alone.
--   program p; var v: integer; function f: v; begin end; begin end.
abbrev tree4 : Plain
tree4 = program (name "p" (node kind.Heads Nil (node kind.Block (node kind.Consts Nil (node kind.Types Nil (node kind.Vars (node kind.Vardef (node kind.Names (name "v" Nil) (node kind.Tname (name "integer" Nil) Nil)) Nil) (node kind.Routines (node kind.Function (name "f" (node kind.Params Nil (name "v" (node kind.Block (node kind.Consts Nil (node kind.Types Nil (node kind.Vars Nil (node kind.Routines Nil (node kind.Compound (node kind.Stmts (node kind.Empty Nil Nil) Nil) Nil))))) Nil)))) Nil) (node kind.Compound (node kind.Stmts (node kind.Empty Nil Nil) Nil) Nil))))) Nil)))

holds4 : differs tree4 (entry (3 ∷ 4 ∷ 1 ∷ 3 ∷ []) 4 "not a type: v" ∷ []) ≡ Equal
unfolding differs
holds4 = refl

-- Row 22, the neighbour: simple types and pointer types.
--   program p; type l = ^char; c = (red); t = 1..5; function f: l; begin f := nil end; function g: c; begin g := red end; function h: t; begin h := 1 end;
--   begin end.
abbrev tree5 : Plain
tree5 = program (name "p" (node kind.Heads Nil (node kind.Block (node kind.Consts Nil (node kind.Types (node kind.Typedef (name "l" (node kind.Pointer (name "char" Nil) Nil)) (node kind.Typedef (name "c" (node kind.Enum (node kind.Names (name "red" Nil) Nil) Nil)) (node kind.Typedef (name "t" (node kind.Subrange (word kind.Cnumber "1" Nil (word kind.Cnumber "5" Nil Nil)) Nil)) Nil))) (node kind.Vars Nil (node kind.Routines (node kind.Function (name "f" (node kind.Params Nil (name "l" (node kind.Block (node kind.Consts Nil (node kind.Types Nil (node kind.Vars Nil (node kind.Routines Nil (node kind.Compound (node kind.Stmts (node kind.Assign (node kind.Ref (name "f" Nil) (node kind.Nil Nil Nil)) Nil) Nil) Nil))))) Nil)))) (node kind.Function (name "g" (node kind.Params Nil (name "c" (node kind.Block (node kind.Consts Nil (node kind.Types Nil (node kind.Vars Nil (node kind.Routines Nil (node kind.Compound (node kind.Stmts (node kind.Assign (node kind.Ref (name "g" Nil) (node kind.Ref (name "red" Nil) Nil)) Nil) Nil) Nil))))) Nil)))) (node kind.Function (name "h" (node kind.Params Nil (name "t" (node kind.Block (node kind.Consts Nil (node kind.Types Nil (node kind.Vars Nil (node kind.Routines Nil (node kind.Compound (node kind.Stmts (node kind.Assign (node kind.Ref (name "h" Nil) (word kind.Number "1" Nil Nil)) Nil) Nil) Nil))))) Nil)))) Nil))) (node kind.Compound (node kind.Stmts (node kind.Empty Nil Nil) Nil) Nil))))) Nil)))

holds5 : differs tree5 ([]) ≡ Equal
unfolding differs
holds5 = refl

-- Row 22: a function's result type that is an array, a record or a set; at the name.
--   program p; type a = array [1..2] of char; r = record end; s = set of char; function f: a; begin end; function g: r; begin end; function h: s; begin
--   end; begin end.
abbrev tree6 : Plain
tree6 = program (name "p" (node kind.Heads Nil (node kind.Block (node kind.Consts Nil (node kind.Types (node kind.Typedef (name "a" (node kind.Array (node kind.Indexes (node kind.Subrange (word kind.Cnumber "1" Nil (word kind.Cnumber "2" Nil Nil)) Nil) (node kind.Tname (name "char" Nil) Nil)) Nil)) (node kind.Typedef (name "r" (node kind.Record0 Nil Nil)) (node kind.Typedef (name "s" (node kind.Setof (node kind.Tname (name "char" Nil) Nil) Nil)) Nil))) (node kind.Vars Nil (node kind.Routines (node kind.Function (name "f" (node kind.Params Nil (name "a" (node kind.Block (node kind.Consts Nil (node kind.Types Nil (node kind.Vars Nil (node kind.Routines Nil (node kind.Compound (node kind.Stmts (node kind.Empty Nil Nil) Nil) Nil))))) Nil)))) (node kind.Function (name "g" (node kind.Params Nil (name "r" (node kind.Block (node kind.Consts Nil (node kind.Types Nil (node kind.Vars Nil (node kind.Routines Nil (node kind.Compound (node kind.Stmts (node kind.Empty Nil Nil) Nil) Nil))))) Nil)))) (node kind.Function (name "h" (node kind.Params Nil (name "s" (node kind.Block (node kind.Consts Nil (node kind.Types Nil (node kind.Vars Nil (node kind.Routines Nil (node kind.Compound (node kind.Stmts (node kind.Empty Nil Nil) Nil) Nil))))) Nil)))) Nil))) (node kind.Compound (node kind.Stmts (node kind.Empty Nil Nil) Nil) Nil))))) Nil)))

holds6 : differs tree6 (entry (3 ∷ 4 ∷ 1 ∷ 3 ∷ []) 22 "result type not simple: a" ∷ entry (3 ∷ 4 ∷ 2 ∷ 3 ∷ []) 22 "result type not simple: r" ∷ entry (3 ∷ 4 ∷ 3 ∷ 3 ∷ []) 22 "result type not simple: s" ∷ []) ≡ Equal
unfolding differs
holds6 = refl

-- Row 22 needs the type: an undeclared one is row 1, a hole nothing.
--   program p; function f: t; begin f := 1 end; function g: ?name; begin g := 1 end; begin end.
abbrev tree7 : Plain
tree7 = program (name "p" (node kind.Heads Nil (node kind.Block (node kind.Consts Nil (node kind.Types Nil (node kind.Vars Nil (node kind.Routines (node kind.Function (name "f" (node kind.Params Nil (name "t" (node kind.Block (node kind.Consts Nil (node kind.Types Nil (node kind.Vars Nil (node kind.Routines Nil (node kind.Compound (node kind.Stmts (node kind.Assign (node kind.Ref (name "f" Nil) (word kind.Number "1" Nil Nil)) Nil) Nil) Nil))))) Nil)))) (node kind.Function (name "g" (node kind.Params Nil (node (kind.Hole sort.Name) Nil (node kind.Block (node kind.Consts Nil (node kind.Types Nil (node kind.Vars Nil (node kind.Routines Nil (node kind.Compound (node kind.Stmts (node kind.Assign (node kind.Ref (name "g" Nil) (word kind.Number "1" Nil Nil)) Nil) Nil) Nil))))) Nil)))) Nil)) (node kind.Compound (node kind.Stmts (node kind.Empty Nil Nil) Nil) Nil))))) Nil)))

holds7 : differs tree7 (entry (3 ∷ 4 ∷ 1 ∷ 3 ∷ []) 1 "not declared: t" ∷ []) ≡ Equal
unfolding differs
holds7 = refl
