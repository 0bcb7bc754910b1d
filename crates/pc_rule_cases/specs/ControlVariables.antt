-- Control variables of for statements: programs with the errors that they have.
use Rattle.std.specs.Prelude.{◌≡◌, [], ◌∷◌}
use Rattle.std.proofs.Common.{refl}
use Rattle.pc_syntax.specs.Plain.{Nil, Plain}
use Rattle.pc_syntax.specs.declared.kind.Kind.TheVariants as kind
use Rattle.pc_syntax.specs.declared.sort.Sort.TheVariants as sort
use Rattle.pc_rule_cases.specs.Trees.{program, node, name, word}
use Rattle.pc_rule_cases.specs.Compare.{Equal, entry, differs}

-- Row 18: a field that a with opens is no variable of the var part, also where a variable has that name.
--   program p; var i: integer; r: record i: integer end; begin with r do for i := 1 to 2 do end.
abbrev tree1 : Plain
tree1 = program (name "p" (node kind.Heads Nil (node kind.Block (node kind.Consts Nil (node kind.Types Nil (node kind.Vars (node kind.Vardef (node kind.Names (name "i" Nil) (node kind.Tname (name "integer" Nil) Nil)) (node kind.Vardef (node kind.Names (name "r" Nil) (node kind.Record (node kind.Fields (node kind.Field (node kind.Names (name "i" Nil) (node kind.Tname (name "integer" Nil) Nil)) Nil) Nil) Nil)) Nil)) (node kind.Routines Nil (node kind.Compound (node kind.Stmts (node kind.With (node kind.Accesses (node kind.Ref (name "r" Nil) Nil) (word kind.For "to" (name "i" (word kind.Number "1" Nil (word kind.Number "2" Nil (node kind.Empty Nil Nil)))) Nil)) Nil) Nil) Nil))))) Nil)))

holds1 : differs tree1 (entry (3 ∷ 5 ∷ 1 ∷ 1 ∷ 2 ∷ 1 ∷ []) 18 "control variable not local: i" ∷ []) ≡ Equal
unfolding differs
holds1 = refl

-- Row 18 at the own function's name.
--   program p; function f: integer; begin for f := 1 to 2 do; f := 1 end; begin end.
abbrev tree2 : Plain
tree2 = program (name "p" (node kind.Heads Nil (node kind.Block (node kind.Consts Nil (node kind.Types Nil (node kind.Vars Nil (node kind.Routines (node kind.Function (name "f" (node kind.Params Nil (name "integer" (node kind.Block (node kind.Consts Nil (node kind.Types Nil (node kind.Vars Nil (node kind.Routines Nil (node kind.Compound (node kind.Stmts (word kind.For "to" (name "f" (word kind.Number "1" Nil (word kind.Number "2" Nil (node kind.Empty Nil Nil)))) (node kind.Assign (node kind.Ref (name "f" Nil) (word kind.Number "1" Nil Nil)) Nil)) Nil) Nil))))) Nil)))) Nil) (node kind.Compound (node kind.Stmts (node kind.Empty Nil Nil) Nil) Nil))))) Nil)))

holds2 : differs tree2 (entry (3 ∷ 4 ∷ 1 ∷ 4 ∷ 5 ∷ 1 ∷ 1 ∷ 1 ∷ []) 4 "not a variable: f" ∷ entry (3 ∷ 4 ∷ 1 ∷ 4 ∷ 5 ∷ 1 ∷ 1 ∷ 1 ∷ []) 18 "control variable not local: f" ∷ []) ≡ Equal
unfolding differs
holds2 = refl

-- Row 18, the neighbour: a variable of the var part of the block that directly contains the for, also in a function and inside other statements.
--   program p; function f: integer; var i: integer; r: record x: integer end; begin f := 0; with r do while false do repeat for i := 1 to 2 do x := i
--   until true end; begin write(f) end.
abbrev tree3 : Plain
tree3 = program (name "p" (node kind.Heads Nil (node kind.Block (node kind.Consts Nil (node kind.Types Nil (node kind.Vars Nil (node kind.Routines (node kind.Function (name "f" (node kind.Params Nil (name "integer" (node kind.Block (node kind.Consts Nil (node kind.Types Nil (node kind.Vars (node kind.Vardef (node kind.Names (name "i" Nil) (node kind.Tname (name "integer" Nil) Nil)) (node kind.Vardef (node kind.Names (name "r" Nil) (node kind.Record (node kind.Fields (node kind.Field (node kind.Names (name "x" Nil) (node kind.Tname (name "integer" Nil) Nil)) Nil) Nil) Nil)) Nil)) (node kind.Routines Nil (node kind.Compound (node kind.Stmts (node kind.Assign (node kind.Ref (name "f" Nil) (word kind.Number "0" Nil Nil)) (node kind.With (node kind.Accesses (node kind.Ref (name "r" Nil) Nil) (node kind.While (node kind.Ref (name "false" Nil) (node kind.Repeat (node kind.Stmts (word kind.For "to" (name "i" (word kind.Number "1" Nil (word kind.Number "2" Nil (node kind.Assign (node kind.Ref (name "x" Nil) (node kind.Ref (name "i" Nil) Nil)) Nil)))) Nil) (node kind.Ref (name "true" Nil) Nil)) Nil)) Nil)) Nil)) Nil) Nil))))) Nil)))) Nil) (node kind.Compound (node kind.Stmts (node kind.Proc (name "write" (node kind.Args (node kind.Ref (name "f" Nil) Nil) Nil)) Nil) Nil) Nil))))) Nil)))

holds3 : differs tree3 ([]) ≡ Equal
unfolding differs
holds3 = refl

-- Row 18 takes the type of the name away: no row 11 at the bounds; row 8 comes still.
--   program p; procedure q(a: integer); begin for a := 'x' to 'ab' do end; begin end.
abbrev tree4 : Plain
tree4 = program (name "p" (node kind.Heads Nil (node kind.Block (node kind.Consts Nil (node kind.Types Nil (node kind.Vars Nil (node kind.Routines (node kind.Procedure (name "q" (node kind.Params (node kind.Valparam (node kind.Names (name "a" Nil) (name "integer" Nil)) Nil) (node kind.Block (node kind.Consts Nil (node kind.Types Nil (node kind.Vars Nil (node kind.Routines Nil (node kind.Compound (node kind.Stmts (word kind.For "to" (name "a" (word kind.Text "'x'" Nil (word kind.Text "'ab'" Nil (node kind.Empty Nil Nil)))) Nil) Nil) Nil))))) Nil))) Nil) (node kind.Compound (node kind.Stmts (node kind.Empty Nil Nil) Nil) Nil))))) Nil)))

holds4 : differs tree4 (entry (3 ∷ 4 ∷ 1 ∷ 3 ∷ 5 ∷ 1 ∷ 1 ∷ 1 ∷ []) 18 "control variable not local: a" ∷ entry (3 ∷ 4 ∷ 1 ∷ 3 ∷ 5 ∷ 1 ∷ 1 ∷ 3 ∷ []) 8 "not an ordinal type" ∷ []) ≡ Equal
unfolding differs
holds4 = refl

-- Row 18 does not ask for a type: a control variable that is an array has the bounds at odds with it.
--   program p; var a: array [1..2] of char; begin for a := 1 to 2 do end.
abbrev tree5 : Plain
tree5 = program (name "p" (node kind.Heads Nil (node kind.Block (node kind.Consts Nil (node kind.Types Nil (node kind.Vars (node kind.Vardef (node kind.Names (name "a" Nil) (node kind.Array (node kind.Indexes (node kind.Subrange (word kind.Cnumber "1" Nil (word kind.Cnumber "2" Nil Nil)) Nil) (node kind.Tname (name "char" Nil) Nil)) Nil)) Nil) (node kind.Routines Nil (node kind.Compound (node kind.Stmts (word kind.For "to" (name "a" (word kind.Number "1" Nil (word kind.Number "2" Nil (node kind.Empty Nil Nil)))) Nil) Nil) Nil))))) Nil)))

holds5 : differs tree5 (entry (3 ∷ 5 ∷ 1 ∷ 1 ∷ 2 ∷ []) 11 "types do not agree" ∷ entry (3 ∷ 5 ∷ 1 ∷ 1 ∷ 3 ∷ []) 11 "types do not agree" ∷ []) ≡ Equal
unfolding differs
holds5 = refl

-- Row 18: a variable of the block around is not local; one of the own block is.
--   program p; var i: integer; procedure q; var j: integer; begin for i := 1 to 2 do; for j := 1 to 2 do end; begin for i := 1 to 2 do end.
abbrev tree6 : Plain
tree6 = program (name "p" (node kind.Heads Nil (node kind.Block (node kind.Consts Nil (node kind.Types Nil (node kind.Vars (node kind.Vardef (node kind.Names (name "i" Nil) (node kind.Tname (name "integer" Nil) Nil)) Nil) (node kind.Routines (node kind.Procedure (name "q" (node kind.Params Nil (node kind.Block (node kind.Consts Nil (node kind.Types Nil (node kind.Vars (node kind.Vardef (node kind.Names (name "j" Nil) (node kind.Tname (name "integer" Nil) Nil)) Nil) (node kind.Routines Nil (node kind.Compound (node kind.Stmts (word kind.For "to" (name "i" (word kind.Number "1" Nil (word kind.Number "2" Nil (node kind.Empty Nil Nil)))) (word kind.For "to" (name "j" (word kind.Number "1" Nil (word kind.Number "2" Nil (node kind.Empty Nil Nil)))) Nil)) Nil) Nil))))) Nil))) Nil) (node kind.Compound (node kind.Stmts (word kind.For "to" (name "i" (word kind.Number "1" Nil (word kind.Number "2" Nil (node kind.Empty Nil Nil)))) Nil) Nil) Nil))))) Nil)))

holds6 : differs tree6 (entry (3 ∷ 4 ∷ 1 ∷ 3 ∷ 5 ∷ 1 ∷ 1 ∷ 1 ∷ []) 18 "control variable not local: i" ∷ entry (3 ∷ 5 ∷ 1 ∷ 1 ∷ 1 ∷ []) 19 "control variable is changed: i" ∷ []) ≡ Equal
unfolding differs
holds6 = refl

-- Row 18: parameters are no variables of the var part.
--   program p; procedure q(a: integer; var b: integer); begin for a := 1 to 2 do; for b := 1 to 2 do end; begin end.
abbrev tree7 : Plain
tree7 = program (name "p" (node kind.Heads Nil (node kind.Block (node kind.Consts Nil (node kind.Types Nil (node kind.Vars Nil (node kind.Routines (node kind.Procedure (name "q" (node kind.Params (node kind.Valparam (node kind.Names (name "a" Nil) (name "integer" Nil)) (node kind.Varparam (node kind.Names (name "b" Nil) (name "integer" Nil)) Nil)) (node kind.Block (node kind.Consts Nil (node kind.Types Nil (node kind.Vars Nil (node kind.Routines Nil (node kind.Compound (node kind.Stmts (word kind.For "to" (name "a" (word kind.Number "1" Nil (word kind.Number "2" Nil (node kind.Empty Nil Nil)))) (word kind.For "to" (name "b" (word kind.Number "1" Nil (word kind.Number "2" Nil (node kind.Empty Nil Nil)))) Nil)) Nil) Nil))))) Nil))) Nil) (node kind.Compound (node kind.Stmts (node kind.Empty Nil Nil) Nil) Nil))))) Nil)))

holds7 : differs tree7 (entry (3 ∷ 4 ∷ 1 ∷ 3 ∷ 5 ∷ 1 ∷ 1 ∷ 1 ∷ []) 18 "control variable not local: a" ∷ entry (3 ∷ 4 ∷ 1 ∷ 3 ∷ 5 ∷ 1 ∷ 2 ∷ 1 ∷ []) 18 "control variable not local: b" ∷ []) ≡ Equal
unfolding differs
holds7 = refl

-- Rows 1 and 18, rows 4 and 18 at one name; a hole has neither.
--   program p; const c = 1; procedure q; begin end; begin for y := 1 to 2 do; for c := 1 to 2 do; for q := 1 to 2 do; for ?name := 1 to 2 do; for integer
--   := 1 to 2 do end.
abbrev tree8 : Plain
tree8 = program (name "p" (node kind.Heads Nil (node kind.Block (node kind.Consts (node kind.Constdef (name "c" (word kind.Cnumber "1" Nil Nil)) Nil) (node kind.Types Nil (node kind.Vars Nil (node kind.Routines (node kind.Procedure (name "q" (node kind.Params Nil (node kind.Block (node kind.Consts Nil (node kind.Types Nil (node kind.Vars Nil (node kind.Routines Nil (node kind.Compound (node kind.Stmts (node kind.Empty Nil Nil) Nil) Nil))))) Nil))) Nil) (node kind.Compound (node kind.Stmts (word kind.For "to" (name "y" (word kind.Number "1" Nil (word kind.Number "2" Nil (node kind.Empty Nil Nil)))) (word kind.For "to" (name "c" (word kind.Number "1" Nil (word kind.Number "2" Nil (node kind.Empty Nil Nil)))) (word kind.For "to" (name "q" (word kind.Number "1" Nil (word kind.Number "2" Nil (node kind.Empty Nil Nil)))) (word kind.For "to" (node (kind.Hole sort.Name) Nil (word kind.Number "1" Nil (word kind.Number "2" Nil (node kind.Empty Nil Nil)))) (word kind.For "to" (name "integer" (word kind.Number "1" Nil (word kind.Number "2" Nil (node kind.Empty Nil Nil)))) Nil))))) Nil) Nil))))) Nil)))

holds8 : differs tree8 (entry (3 ∷ 5 ∷ 1 ∷ 1 ∷ 1 ∷ []) 1 "not declared: y" ∷ entry (3 ∷ 5 ∷ 1 ∷ 1 ∷ 1 ∷ []) 18 "control variable not local: y" ∷ entry (3 ∷ 5 ∷ 1 ∷ 2 ∷ 1 ∷ []) 4 "not a variable: c" ∷ entry (3 ∷ 5 ∷ 1 ∷ 2 ∷ 1 ∷ []) 18 "control variable not local: c" ∷ entry (3 ∷ 5 ∷ 1 ∷ 3 ∷ 1 ∷ []) 4 "not a variable: q" ∷ entry (3 ∷ 5 ∷ 1 ∷ 3 ∷ 1 ∷ []) 18 "control variable not local: q" ∷ entry (3 ∷ 5 ∷ 1 ∷ 5 ∷ 1 ∷ []) 4 "not a variable: integer" ∷ entry (3 ∷ 5 ∷ 1 ∷ 5 ∷ 1 ∷ []) 18 "control variable not local: integer" ∷ []) ≡ Equal
unfolding differs
holds8 = refl
