-- Programs before and after edits: programs with the errors that they have.
use Rattle.std.specs.Prelude.{◌≡◌, [], ◌∷◌}
use Rattle.std.proofs.Common.{refl}
use Rattle.pc_syntax.specs.Plain.{Nil, Plain}
use Rattle.pc_syntax.specs.declared.kind.Kind.TheVariants as kind
use Rattle.pc_syntax.specs.declared.sort.Sort.TheVariants as sort
use Rattle.pc_rule_cases.specs.Trees.{program, node, name, word}
use Rattle.pc_rule_cases.specs.Compare.{Equal, entry, differs}

-- N is the name as written at its place; equal names in other letters. Before the edits.
--   program p; var Abc: integer; aBC: char; begin ABC := XyZ end.
abbrev tree1 : Plain
tree1 = program (name "p" (node kind.Heads Nil (node kind.Block (node kind.Consts Nil (node kind.Types Nil (node kind.Vars (node kind.Vardef (node kind.Names (name "Abc" Nil) (node kind.Tname (name "integer" Nil) Nil)) (node kind.Vardef (node kind.Names (name "aBC" Nil) (node kind.Tname (name "char" Nil) Nil)) Nil)) (node kind.Routines Nil (node kind.Compound (node kind.Stmts (node kind.Assign (node kind.Ref (name "ABC" Nil) (node kind.Ref (name "XyZ" Nil) Nil)) Nil) Nil) Nil))))) Nil)))

holds1 : differs tree1 (entry (3 ∷ 3 ∷ 2 ∷ 1 ∷ 1 ∷ []) 3 "declared twice: aBC" ∷ entry (3 ∷ 5 ∷ 1 ∷ 1 ∷ 2 ∷ 1 ∷ []) 1 "not declared: XyZ" ∷ []) ≡ Equal
unfolding differs
holds1 = refl

-- A program that is made of a template: its block is a hole.
abbrev tree2 : Plain
tree2 = program (node (kind.Hole sort.Name) Nil (node kind.Heads Nil (node (kind.Hole sort.Block) Nil Nil)))

holds2 : differs tree2 ([]) ≡ Equal
unfolding differs
holds2 = refl

-- A program that is made of a template, then `add /2 1 ?name`, `fill /2/1 x`.
abbrev tree3 : Plain
tree3 = program (node (kind.Hole sort.Name) Nil (node kind.Heads (name "x" Nil) (node (kind.Hole sort.Block) Nil Nil)))

holds3 : differs tree3 (entry (2 ∷ 1 ∷ []) 25 "program parameter: x" ∷ []) ≡ Equal
unfolding differs
holds3 = refl

-- A new declaration in an inner block ends the dependence on the outer one. After `add /3/4/1/3/3 1 vardef`, `fill /3/4/1/3/3/1 x: char;`.
abbrev tree4 : Plain
tree4 = program (name "p" (node kind.Heads Nil (node kind.Block (node kind.Consts Nil (node kind.Types Nil (node kind.Vars (node kind.Vardef (node kind.Names (name "x" Nil) (node kind.Tname (name "integer" Nil) Nil)) Nil) (node kind.Routines (node kind.Procedure (name "q" (node kind.Params Nil (node kind.Block (node kind.Consts Nil (node kind.Types Nil (node kind.Vars (node kind.Vardef (node kind.Names (name "x" Nil) (node kind.Tname (name "char" Nil) Nil)) Nil) (node kind.Routines Nil (node kind.Compound (node kind.Stmts (node kind.Assign (node kind.Ref (name "x" Nil) (word kind.Number "1" Nil Nil)) Nil) Nil) Nil))))) Nil))) Nil) (node kind.Compound (node kind.Stmts (node kind.Proc (name "q" (node kind.Args Nil Nil)) Nil) Nil) Nil))))) Nil)))

holds4 : differs tree4 (entry (3 ∷ 4 ∷ 1 ∷ 3 ∷ 5 ∷ 1 ∷ 1 ∷ []) 11 "types do not agree" ∷ []) ≡ Equal
unfolding differs
holds4 = refl

-- The same program, then `fill /3/4/1/3/3/1 y: char;`.
abbrev tree5 : Plain
tree5 = program (name "p" (node kind.Heads Nil (node kind.Block (node kind.Consts Nil (node kind.Types Nil (node kind.Vars (node kind.Vardef (node kind.Names (name "x" Nil) (node kind.Tname (name "integer" Nil) Nil)) Nil) (node kind.Routines (node kind.Procedure (name "q" (node kind.Params Nil (node kind.Block (node kind.Consts Nil (node kind.Types Nil (node kind.Vars (node kind.Vardef (node kind.Names (name "y" Nil) (node kind.Tname (name "char" Nil) Nil)) Nil) (node kind.Routines Nil (node kind.Compound (node kind.Stmts (node kind.Assign (node kind.Ref (name "x" Nil) (word kind.Number "1" Nil Nil)) Nil) Nil) Nil))))) Nil))) Nil) (node kind.Compound (node kind.Stmts (node kind.Proc (name "q" (node kind.Args Nil Nil)) Nil) Nil) Nil))))) Nil)))

holds5 : differs tree5 ([]) ≡ Equal
unfolding differs
holds5 = refl

-- An edit in the program's heads. After `add /2 1 ?name`.
abbrev tree6 : Plain
tree6 = program (name "p" (node kind.Heads (node (kind.Hole sort.Name) Nil Nil) (node kind.Block (node kind.Consts Nil (node kind.Types Nil (node kind.Vars Nil (node kind.Routines Nil (node kind.Compound (node kind.Stmts (node kind.Empty Nil Nil) Nil) Nil))))) Nil)))

holds6 : differs tree6 ([]) ≡ Equal
unfolding differs
holds6 = refl

-- The same program, then `fill /2/1 data`.
abbrev tree7 : Plain
tree7 = program (name "p" (node kind.Heads (name "data" Nil) (node kind.Block (node kind.Consts Nil (node kind.Types Nil (node kind.Vars Nil (node kind.Routines Nil (node kind.Compound (node kind.Stmts (node kind.Empty Nil Nil) Nil) Nil))))) Nil)))

holds7 : differs tree7 (entry (2 ∷ 1 ∷ []) 25 "program parameter: data" ∷ []) ≡ Equal
unfolding differs
holds7 = refl

-- The same program, then `fill /2/1 OUTPUT`.
abbrev tree8 : Plain
tree8 = program (name "p" (node kind.Heads (name "OUTPUT" Nil) (node kind.Block (node kind.Consts Nil (node kind.Types Nil (node kind.Vars Nil (node kind.Routines Nil (node kind.Compound (node kind.Stmts (node kind.Empty Nil Nil) Nil) Nil))))) Nil)))

holds8 : differs tree8 ([]) ≡ Equal
unfolding differs
holds8 = refl
