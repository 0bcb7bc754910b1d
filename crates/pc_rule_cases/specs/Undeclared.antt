-- Names that are not declared: programs with the errors that they have.
use Rattle.std.specs.Prelude.{◌≡◌, [], ◌∷◌}
use Rattle.std.proofs.Common.{refl}
use Rattle.pc_syntax.specs.Plain.{Nil, Plain}
use Rattle.pc_syntax.specs.declared.kind.Kind.TheVariants as kind
use Rattle.pc_syntax.specs.declared.sort.Sort.TheVariants as sort
use Rattle.pc_rule_cases.specs.Trees.{program, node, name, word}
use Rattle.pc_rule_cases.specs.Compare.{Equal, entry, differs}

-- Row 1 at a procedure, a function and a constant; arguments are still looked at.
--   program p; const a = b; begin q(c); write(f(d)) end.
abbrev tree1 : Plain
tree1 = program (name "p" (node kind.Heads Nil (node kind.Block (node kind.Consts (node kind.Constdef (name "a" (node kind.Cname (name "b" Nil) Nil)) Nil) (node kind.Types Nil (node kind.Vars Nil (node kind.Routines Nil (node kind.Compound (node kind.Stmts (node kind.Proc (name "q" (node kind.Args (node kind.Ref (name "c" Nil) Nil) Nil)) (node kind.Proc (name "write" (node kind.Args (node kind.Call (name "f" (node kind.Exprs (node kind.Ref (name "d" Nil) Nil) Nil)) Nil) Nil)) Nil)) Nil) Nil))))) Nil)))

holds1 : differs tree1 (entry (3 ∷ 1 ∷ 1 ∷ 2 ∷ 1 ∷ []) 1 "not declared: b" ∷ entry (3 ∷ 5 ∷ 1 ∷ 1 ∷ 1 ∷ []) 1 "not declared: q" ∷ entry (3 ∷ 5 ∷ 1 ∷ 1 ∷ 2 ∷ 1 ∷ 1 ∷ []) 1 "not declared: c" ∷ entry (3 ∷ 5 ∷ 1 ∷ 2 ∷ 2 ∷ 1 ∷ 1 ∷ []) 1 "not declared: f" ∷ entry (3 ∷ 5 ∷ 1 ∷ 2 ∷ 2 ∷ 1 ∷ 2 ∷ 1 ∷ 1 ∷ []) 1 "not declared: d" ∷ []) ≡ Equal
unfolding differs
holds1 = refl

-- Row 1 at a label of a case and at the bound of a subrange.
--   program p; var x: 1..n; begin case 1 of m: end end.
abbrev tree2 : Plain
tree2 = program (name "p" (node kind.Heads Nil (node kind.Block (node kind.Consts Nil (node kind.Types Nil (node kind.Vars (node kind.Vardef (node kind.Names (name "x" Nil) (node kind.Subrange (word kind.Cnumber "1" Nil (node kind.Cname (name "n" Nil) Nil)) Nil)) Nil) (node kind.Routines Nil (node kind.Compound (node kind.Stmts (node kind.Case (word kind.Number "1" Nil (node kind.Arms (node kind.Arm (node kind.Labels (node kind.Cname (name "m" Nil) Nil) (node kind.Empty Nil Nil)) Nil) Nil)) Nil) Nil) Nil))))) Nil)))

holds2 : differs tree2 (entry (3 ∷ 3 ∷ 1 ∷ 2 ∷ 2 ∷ 1 ∷ []) 1 "not declared: n" ∷ entry (3 ∷ 5 ∷ 1 ∷ 1 ∷ 2 ∷ 1 ∷ 1 ∷ 1 ∷ 1 ∷ []) 1 "not declared: m" ∷ []) ≡ Equal
unfolding differs
holds2 = refl

-- Row 1, the neighbour: the same name is declared in the block around, in other letters.
--   program p; var x, Y: integer; begin x := y end.
abbrev tree3 : Plain
tree3 = program (name "p" (node kind.Heads Nil (node kind.Block (node kind.Consts Nil (node kind.Types Nil (node kind.Vars (node kind.Vardef (node kind.Names (name "x" (name "Y" Nil)) (node kind.Tname (name "integer" Nil) Nil)) Nil) (node kind.Routines Nil (node kind.Compound (node kind.Stmts (node kind.Assign (node kind.Ref (name "x" Nil) (node kind.Ref (name "y" Nil) Nil)) Nil) Nil) Nil))))) Nil)))

holds3 : differs tree3 ([]) ≡ Equal
unfolding differs
holds3 = refl

-- Row 1: each use has its entry, N as written.
--   program p; var x: integer; begin x := Q + q; q := x end.
abbrev tree4 : Plain
tree4 = program (name "p" (node kind.Heads Nil (node kind.Block (node kind.Consts Nil (node kind.Types Nil (node kind.Vars (node kind.Vardef (node kind.Names (name "x" Nil) (node kind.Tname (name "integer" Nil) Nil)) Nil) (node kind.Routines Nil (node kind.Compound (node kind.Stmts (node kind.Assign (node kind.Ref (name "x" Nil) (word kind.Add "+" (node kind.Ref (name "Q" Nil) (node kind.Ref (name "q" Nil) Nil)) Nil)) (node kind.Assign (node kind.Ref (name "q" Nil) (node kind.Ref (name "x" Nil) Nil)) Nil)) Nil) Nil))))) Nil)))

holds4 : differs tree4 (entry (3 ∷ 5 ∷ 1 ∷ 1 ∷ 2 ∷ 1 ∷ 1 ∷ []) 1 "not declared: Q" ∷ entry (3 ∷ 5 ∷ 1 ∷ 1 ∷ 2 ∷ 2 ∷ 1 ∷ []) 1 "not declared: q" ∷ entry (3 ∷ 5 ∷ 1 ∷ 2 ∷ 1 ∷ 1 ∷ []) 1 "not declared: q" ∷ []) ≡ Equal
unfolding differs
holds4 = refl

-- Row 1: a used name that nothing declares, in an expression; the entry is at the name node.
--   program p; var x: integer; begin x := y end.
abbrev tree5 : Plain
tree5 = program (name "p" (node kind.Heads Nil (node kind.Block (node kind.Consts Nil (node kind.Types Nil (node kind.Vars (node kind.Vardef (node kind.Names (name "x" Nil) (node kind.Tname (name "integer" Nil) Nil)) Nil) (node kind.Routines Nil (node kind.Compound (node kind.Stmts (node kind.Assign (node kind.Ref (name "x" Nil) (node kind.Ref (name "y" Nil) Nil)) Nil) Nil) Nil))))) Nil)))

holds5 : differs tree5 (entry (3 ∷ 5 ∷ 1 ∷ 1 ∷ 2 ∷ 1 ∷ []) 1 "not declared: y" ∷ []) ≡ Equal
unfolding differs
holds5 = refl

-- Row 1: page, pack and real are no names of this Pascal.
--   program p; begin page; pack(1) end.
abbrev tree6 : Plain
tree6 = program (name "p" (node kind.Heads Nil (node kind.Block (node kind.Consts Nil (node kind.Types Nil (node kind.Vars Nil (node kind.Routines Nil (node kind.Compound (node kind.Stmts (node kind.Proc (name "page" (node kind.Args Nil Nil)) (node kind.Proc (name "pack" (node kind.Args (word kind.Number "1" Nil Nil) Nil)) Nil)) Nil) Nil))))) Nil)))

holds6 : differs tree6 (entry (3 ∷ 5 ∷ 1 ∷ 1 ∷ 1 ∷ []) 1 "not declared: page" ∷ entry (3 ∷ 5 ∷ 1 ∷ 2 ∷ 1 ∷ []) 1 "not declared: pack" ∷ []) ≡ Equal
unfolding differs
holds6 = refl

-- Row 1: a hole has no name, so no entry; the second name has one.
--   program p; var x: integer; begin x := ?expression; ?name(1); x := z end.
abbrev tree7 : Plain
tree7 = program (name "p" (node kind.Heads Nil (node kind.Block (node kind.Consts Nil (node kind.Types Nil (node kind.Vars (node kind.Vardef (node kind.Names (name "x" Nil) (node kind.Tname (name "integer" Nil) Nil)) Nil) (node kind.Routines Nil (node kind.Compound (node kind.Stmts (node kind.Assign (node kind.Ref (name "x" Nil) (node (kind.Hole sort.Expression) Nil Nil)) (node kind.Proc (node (kind.Hole sort.Name) Nil (node kind.Args (word kind.Number "1" Nil Nil) Nil)) (node kind.Assign (node kind.Ref (name "x" Nil) (node kind.Ref (name "z" Nil) Nil)) Nil))) Nil) Nil))))) Nil)))

holds7 : differs tree7 (entry (3 ∷ 5 ∷ 1 ∷ 3 ∷ 2 ∷ 1 ∷ []) 1 "not declared: z" ∷ []) ≡ Equal
unfolding differs
holds7 = refl

-- Row 1: a name of an inner routine is not seen outside, and none of two sisters.
--   program p; procedure q; var i: integer; begin i := 1 end; procedure r; begin i := 2 end; begin i := 3 end.
abbrev tree8 : Plain
tree8 = program (name "p" (node kind.Heads Nil (node kind.Block (node kind.Consts Nil (node kind.Types Nil (node kind.Vars Nil (node kind.Routines (node kind.Procedure (name "q" (node kind.Params Nil (node kind.Block (node kind.Consts Nil (node kind.Types Nil (node kind.Vars (node kind.Vardef (node kind.Names (name "i" Nil) (node kind.Tname (name "integer" Nil) Nil)) Nil) (node kind.Routines Nil (node kind.Compound (node kind.Stmts (node kind.Assign (node kind.Ref (name "i" Nil) (word kind.Number "1" Nil Nil)) Nil) Nil) Nil))))) Nil))) (node kind.Procedure (name "r" (node kind.Params Nil (node kind.Block (node kind.Consts Nil (node kind.Types Nil (node kind.Vars Nil (node kind.Routines Nil (node kind.Compound (node kind.Stmts (node kind.Assign (node kind.Ref (name "i" Nil) (word kind.Number "2" Nil Nil)) Nil) Nil) Nil))))) Nil))) Nil)) (node kind.Compound (node kind.Stmts (node kind.Assign (node kind.Ref (name "i" Nil) (word kind.Number "3" Nil Nil)) Nil) Nil) Nil))))) Nil)))

holds8 : differs tree8 (entry (3 ∷ 4 ∷ 2 ∷ 3 ∷ 5 ∷ 1 ∷ 1 ∷ 1 ∷ 1 ∷ []) 1 "not declared: i" ∷ entry (3 ∷ 5 ∷ 1 ∷ 1 ∷ 1 ∷ 1 ∷ []) 1 "not declared: i" ∷ []) ≡ Equal
unfolding differs
holds8 = refl

-- Row 1, the neighbour: required names are declared in the region around the program.
--   program p; var x: integer; b: boolean; c: char; begin x := maxint; b := true; c := chr(65); writeln(x) end.
abbrev tree9 : Plain
tree9 = program (name "p" (node kind.Heads Nil (node kind.Block (node kind.Consts Nil (node kind.Types Nil (node kind.Vars (node kind.Vardef (node kind.Names (name "x" Nil) (node kind.Tname (name "integer" Nil) Nil)) (node kind.Vardef (node kind.Names (name "b" Nil) (node kind.Tname (name "boolean" Nil) Nil)) (node kind.Vardef (node kind.Names (name "c" Nil) (node kind.Tname (name "char" Nil) Nil)) Nil))) (node kind.Routines Nil (node kind.Compound (node kind.Stmts (node kind.Assign (node kind.Ref (name "x" Nil) (node kind.Ref (name "maxint" Nil) Nil)) (node kind.Assign (node kind.Ref (name "b" Nil) (node kind.Ref (name "true" Nil) Nil)) (node kind.Assign (node kind.Ref (name "c" Nil) (node kind.Call (name "chr" (node kind.Exprs (word kind.Number "65" Nil Nil) Nil)) Nil)) (node kind.Proc (name "writeln" (node kind.Args (node kind.Ref (name "x" Nil) Nil) Nil)) Nil)))) Nil) Nil))))) Nil)))

holds9 : differs tree9 ([]) ≡ Equal
unfolding differs
holds9 = refl

-- Row 1 at a type name; the variable has no type then, so its uses have no entry.
--   program p; var x: real; begin x := true; x := x + 1 end.
abbrev tree10 : Plain
tree10 = program (name "p" (node kind.Heads Nil (node kind.Block (node kind.Consts Nil (node kind.Types Nil (node kind.Vars (node kind.Vardef (node kind.Names (name "x" Nil) (node kind.Tname (name "real" Nil) Nil)) Nil) (node kind.Routines Nil (node kind.Compound (node kind.Stmts (node kind.Assign (node kind.Ref (name "x" Nil) (node kind.Ref (name "true" Nil) Nil)) (node kind.Assign (node kind.Ref (name "x" Nil) (word kind.Add "+" (node kind.Ref (name "x" Nil) (word kind.Number "1" Nil Nil)) Nil)) Nil)) Nil) Nil))))) Nil)))

holds10 : differs tree10 (entry (3 ∷ 3 ∷ 1 ∷ 2 ∷ 1 ∷ []) 1 "not declared: real" ∷ []) ≡ Equal
unfolding differs
holds10 = refl
