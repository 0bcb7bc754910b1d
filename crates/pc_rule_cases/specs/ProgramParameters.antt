-- Program parameters: programs with the errors that they have.
use Rattle.std.specs.Prelude.{◌≡◌, [], ◌∷◌}
use Rattle.std.proofs.Common.{refl}
use Rattle.pc_syntax.specs.Plain.{Nil, Plain}
use Rattle.pc_syntax.specs.declared.kind.Kind.TheVariants as kind
use Rattle.pc_syntax.specs.declared.sort.Sort.TheVariants as sort
use Rattle.pc_rule_cases.specs.Trees.{program, node, name}
use Rattle.pc_rule_cases.specs.Compare.{Equal, entry, differs}

-- Row 25: such a name declares nothing, and declaring it changes nothing.
--   program p(f); var f: integer; begin f := g end.
abbrev tree1 : Plain
tree1 = program (name "p" (node kind.Heads (name "f" Nil) (node kind.Block (node kind.Consts Nil (node kind.Types Nil (node kind.Vars (node kind.Vardef (node kind.Names (name "f" Nil) (node kind.Tname (name "integer" Nil) Nil)) Nil) (node kind.Routines Nil (node kind.Compound (node kind.Stmts (node kind.Assign (node kind.Ref (name "f" Nil) (node kind.Ref (name "g" Nil) Nil)) Nil) Nil) Nil))))) Nil)))

holds1 : differs tree1 (entry (2 ∷ 1 ∷ []) 25 "program parameter: f" ∷ entry (3 ∷ 5 ∷ 1 ∷ 1 ∷ 2 ∷ 1 ∷ []) 1 "not declared: g" ∷ []) ≡ Equal
unfolding differs
holds1 = refl

-- Row 25: a hole in the heads.
--   program p(?name, x); begin end.
abbrev tree2 : Plain
tree2 = program (name "p" (node kind.Heads (node (kind.Hole sort.Name) Nil (name "x" Nil)) (node kind.Block (node kind.Consts Nil (node kind.Types Nil (node kind.Vars Nil (node kind.Routines Nil (node kind.Compound (node kind.Stmts (node kind.Empty Nil Nil) Nil) Nil))))) Nil)))

holds2 : differs tree2 (entry (2 ∷ 2 ∷ []) 25 "program parameter: x" ∷ []) ≡ Equal
unfolding differs
holds2 = refl

-- Row 25, the neighbour: input and output, twice; and none at all.
--   program p(output, output); begin end.
abbrev tree3 : Plain
tree3 = program (name "p" (node kind.Heads (name "output" (name "output" Nil)) (node kind.Block (node kind.Consts Nil (node kind.Types Nil (node kind.Vars Nil (node kind.Routines Nil (node kind.Compound (node kind.Stmts (node kind.Empty Nil Nil) Nil) Nil))))) Nil)))

holds3 : differs tree3 ([]) ≡ Equal
unfolding differs
holds3 = refl

-- Row 25 comes first in the preorder; the program's own name has no entry.
--   program x(y); begin y := x end.
abbrev tree4 : Plain
tree4 = program (name "x" (node kind.Heads (name "y" Nil) (node kind.Block (node kind.Consts Nil (node kind.Types Nil (node kind.Vars Nil (node kind.Routines Nil (node kind.Compound (node kind.Stmts (node kind.Assign (node kind.Ref (name "y" Nil) (node kind.Ref (name "x" Nil) Nil)) Nil) Nil) Nil))))) Nil)))

holds4 : differs tree4 (entry (2 ∷ 1 ∷ []) 25 "program parameter: y" ∷ entry (3 ∷ 5 ∷ 1 ∷ 1 ∷ 1 ∷ 1 ∷ []) 1 "not declared: y" ∷ entry (3 ∷ 5 ∷ 1 ∷ 1 ∷ 2 ∷ 1 ∷ []) 1 "not declared: x" ∷ []) ≡ Equal
unfolding differs
holds4 = refl

-- Row 25: a name in the heads other than input and output, in any case.
--   program p(input, Output, data, INPUT, Printer); begin end.
abbrev tree5 : Plain
tree5 = program (name "p" (node kind.Heads (name "input" (name "Output" (name "data" (name "INPUT" (name "Printer" Nil))))) (node kind.Block (node kind.Consts Nil (node kind.Types Nil (node kind.Vars Nil (node kind.Routines Nil (node kind.Compound (node kind.Stmts (node kind.Empty Nil Nil) Nil) Nil))))) Nil)))

holds5 : differs tree5 (entry (2 ∷ 3 ∷ []) 25 "program parameter: data" ∷ entry (2 ∷ 5 ∷ []) 25 "program parameter: Printer" ∷ []) ≡ Equal
unfolding differs
holds5 = refl
