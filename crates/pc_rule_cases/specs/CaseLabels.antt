-- Labels of case statements: programs with the errors that they have.
use Rattle.std.specs.Prelude.{◌≡◌, [], ◌∷◌}
use Rattle.std.proofs.Common.{refl}
use Rattle.pc_syntax.specs.Plain.{Nil, Plain}
use Rattle.pc_syntax.specs.declared.kind.Kind.TheVariants as kind
use Rattle.pc_syntax.specs.declared.sort.Sort.TheVariants as sort
use Rattle.pc_rule_cases.specs.Trees.{program, node, name, word}
use Rattle.pc_rule_cases.specs.Compare.{Equal, entry, differs}

-- Row 16: chars and enumerated constants, by value.
--   program p; const a = 'a'; type c = (red, green); var x: c; begin case 'b' of 'a', a: ; 'A': end; case x of green, red, green: end end.
abbrev tree1 : Plain
tree1 = program (name "p" (node kind.Heads Nil (node kind.Block (node kind.Consts (node kind.Constdef (name "a" (word kind.Cstring "'a'" Nil Nil)) Nil) (node kind.Types (node kind.Typedef (name "c" (node kind.Enum (node kind.Names (name "red" (name "green" Nil)) Nil) Nil)) Nil) (node kind.Vars (node kind.Vardef (node kind.Names (name "x" Nil) (node kind.Tname (name "c" Nil) Nil)) Nil) (node kind.Routines Nil (node kind.Compound (node kind.Stmts (node kind.Case (word kind.Text "'b'" Nil (node kind.Arms (node kind.Arm (node kind.Labels (word kind.Cstring "'a'" Nil (node kind.Cname (name "a" Nil) Nil)) (node kind.Empty Nil Nil)) (node kind.Arm (node kind.Labels (word kind.Cstring "'A'" Nil Nil) (node kind.Empty Nil Nil)) Nil)) Nil)) (node kind.Case (node kind.Ref (name "x" Nil) (node kind.Arms (node kind.Arm (node kind.Labels (node kind.Cname (name "green" Nil) (node kind.Cname (name "red" Nil) (node kind.Cname (name "green" Nil) Nil))) (node kind.Empty Nil Nil)) Nil) Nil)) Nil)) Nil) Nil))))) Nil)))

holds1 : differs tree1 (entry (3 ∷ 5 ∷ 1 ∷ 1 ∷ 2 ∷ 1 ∷ 1 ∷ 2 ∷ []) 16 "constant given twice" ∷ entry (3 ∷ 5 ∷ 1 ∷ 2 ∷ 2 ∷ 1 ∷ 1 ∷ 3 ∷ []) 16 "constant given twice" ∷ []) ≡ Equal
unfolding differs
holds1 = refl

-- Row 16: an arm that is a hole is passed over.
--   program p; begin case 1 of 1: ; ?arm; 1: end end.
abbrev tree2 : Plain
tree2 = program (name "p" (node kind.Heads Nil (node kind.Block (node kind.Consts Nil (node kind.Types Nil (node kind.Vars Nil (node kind.Routines Nil (node kind.Compound (node kind.Stmts (node kind.Case (word kind.Number "1" Nil (node kind.Arms (node kind.Arm (node kind.Labels (word kind.Cnumber "1" Nil Nil) (node kind.Empty Nil Nil)) (node (kind.Hole sort.Arm) Nil (node kind.Arm (node kind.Labels (word kind.Cnumber "1" Nil Nil) (node kind.Empty Nil Nil)) Nil))) Nil)) Nil) Nil) Nil))))) Nil)))

holds2 : differs tree2 (entry (3 ∷ 5 ∷ 1 ∷ 1 ∷ 2 ∷ 3 ∷ 1 ∷ 1 ∷ []) 16 "constant given twice" ∷ []) ≡ Equal
unfolding differs
holds2 = refl

-- Row 16: a label that an earlier one equals, in one arm or two.
--   program p; const two = 2; begin case 1 of 1, 1: ; 2: ; two, +1, 3: end end.
abbrev tree3 : Plain
tree3 = program (name "p" (node kind.Heads Nil (node kind.Block (node kind.Consts (node kind.Constdef (name "two" (word kind.Cnumber "2" Nil Nil)) Nil) (node kind.Types Nil (node kind.Vars Nil (node kind.Routines Nil (node kind.Compound (node kind.Stmts (node kind.Case (word kind.Number "1" Nil (node kind.Arms (node kind.Arm (node kind.Labels (word kind.Cnumber "1" Nil (word kind.Cnumber "1" Nil Nil)) (node kind.Empty Nil Nil)) (node kind.Arm (node kind.Labels (word kind.Cnumber "2" Nil Nil) (node kind.Empty Nil Nil)) (node kind.Arm (node kind.Labels (node kind.Cname (name "two" Nil) (word kind.Csign "+" (word kind.Cnumber "1" Nil Nil) (word kind.Cnumber "3" Nil Nil))) (node kind.Empty Nil Nil)) Nil))) Nil)) Nil) Nil) Nil))))) Nil)))

holds3 : differs tree3 (entry (3 ∷ 5 ∷ 1 ∷ 1 ∷ 2 ∷ 1 ∷ 1 ∷ 2 ∷ []) 16 "constant given twice" ∷ entry (3 ∷ 5 ∷ 1 ∷ 1 ∷ 2 ∷ 3 ∷ 1 ∷ 1 ∷ []) 16 "constant given twice" ∷ entry (3 ∷ 5 ∷ 1 ∷ 1 ∷ 2 ∷ 3 ∷ 1 ∷ 2 ∷ []) 16 "constant given twice" ∷ []) ≡ Equal
unfolding differs
holds3 = refl

-- Row 16, the neighbour: 1 and -1; an inner case has its own labels.
--   program p; begin case 1 of 1: case 1 of 1: end; -1: case 1 of -1: end end end.
abbrev tree4 : Plain
tree4 = program (name "p" (node kind.Heads Nil (node kind.Block (node kind.Consts Nil (node kind.Types Nil (node kind.Vars Nil (node kind.Routines Nil (node kind.Compound (node kind.Stmts (node kind.Case (word kind.Number "1" Nil (node kind.Arms (node kind.Arm (node kind.Labels (word kind.Cnumber "1" Nil Nil) (node kind.Case (word kind.Number "1" Nil (node kind.Arms (node kind.Arm (node kind.Labels (word kind.Cnumber "1" Nil Nil) (node kind.Empty Nil Nil)) Nil) Nil)) Nil)) (node kind.Arm (node kind.Labels (word kind.Csign "-" (word kind.Cnumber "1" Nil Nil) Nil) (node kind.Case (word kind.Number "1" Nil (node kind.Arms (node kind.Arm (node kind.Labels (word kind.Csign "-" (word kind.Cnumber "1" Nil Nil) Nil) (node kind.Empty Nil Nil)) Nil) Nil)) Nil)) Nil)) Nil)) Nil) Nil) Nil))))) Nil)))

holds4 : differs tree4 ([]) ≡ Equal
unfolding differs
holds4 = refl

-- Row 16: labels without a value are not compared.
--   program p; begin case 1 of y, y, ?constant, ?constant: end end.
abbrev tree5 : Plain
tree5 = program (name "p" (node kind.Heads Nil (node kind.Block (node kind.Consts Nil (node kind.Types Nil (node kind.Vars Nil (node kind.Routines Nil (node kind.Compound (node kind.Stmts (node kind.Case (word kind.Number "1" Nil (node kind.Arms (node kind.Arm (node kind.Labels (node kind.Cname (name "y" Nil) (node kind.Cname (name "y" Nil) (node (kind.Hole sort.Constant) Nil (node (kind.Hole sort.Constant) Nil Nil)))) (node kind.Empty Nil Nil)) Nil) Nil)) Nil) Nil) Nil))))) Nil)))

holds5 : differs tree5 (entry (3 ∷ 5 ∷ 1 ∷ 1 ∷ 2 ∷ 1 ∷ 1 ∷ 1 ∷ 1 ∷ []) 1 "not declared: y" ∷ entry (3 ∷ 5 ∷ 1 ∷ 1 ∷ 2 ∷ 1 ∷ 1 ∷ 2 ∷ 1 ∷ []) 1 "not declared: y" ∷ []) ≡ Equal
unfolding differs
holds5 = refl

-- Row 16 needs no type of the expression: labels are compared among themselves, type and value.
--   program p; begin case y of 1, 1, 'a': ; 'a', true: end; case ?expression of 2, 2: end end.
abbrev tree6 : Plain
tree6 = program (name "p" (node kind.Heads Nil (node kind.Block (node kind.Consts Nil (node kind.Types Nil (node kind.Vars Nil (node kind.Routines Nil (node kind.Compound (node kind.Stmts (node kind.Case (node kind.Ref (name "y" Nil) (node kind.Arms (node kind.Arm (node kind.Labels (word kind.Cnumber "1" Nil (word kind.Cnumber "1" Nil (word kind.Cstring "'a'" Nil Nil))) (node kind.Empty Nil Nil)) (node kind.Arm (node kind.Labels (word kind.Cstring "'a'" Nil (node kind.Cname (name "true" Nil) Nil)) (node kind.Empty Nil Nil)) Nil)) Nil)) (node kind.Case (node (kind.Hole sort.Expression) Nil (node kind.Arms (node kind.Arm (node kind.Labels (word kind.Cnumber "2" Nil (word kind.Cnumber "2" Nil Nil)) (node kind.Empty Nil Nil)) Nil) Nil)) Nil)) Nil) Nil))))) Nil)))

holds6 : differs tree6 (entry (3 ∷ 5 ∷ 1 ∷ 1 ∷ 1 ∷ 1 ∷ []) 1 "not declared: y" ∷ entry (3 ∷ 5 ∷ 1 ∷ 1 ∷ 2 ∷ 1 ∷ 1 ∷ 2 ∷ []) 16 "constant given twice" ∷ entry (3 ∷ 5 ∷ 1 ∷ 1 ∷ 2 ∷ 2 ∷ 1 ∷ 1 ∷ []) 16 "constant given twice" ∷ entry (3 ∷ 5 ∷ 1 ∷ 2 ∷ 2 ∷ 1 ∷ 1 ∷ 2 ∷ []) 16 "constant given twice" ∷ []) ≡ Equal
unfolding differs
holds6 = refl

-- Row 16: a label with an entry of row 11 is not compared.
--   program p; begin case 1 of 'a', 'a', 1, 'a': end end.
abbrev tree7 : Plain
tree7 = program (name "p" (node kind.Heads Nil (node kind.Block (node kind.Consts Nil (node kind.Types Nil (node kind.Vars Nil (node kind.Routines Nil (node kind.Compound (node kind.Stmts (node kind.Case (word kind.Number "1" Nil (node kind.Arms (node kind.Arm (node kind.Labels (word kind.Cstring "'a'" Nil (word kind.Cstring "'a'" Nil (word kind.Cnumber "1" Nil (word kind.Cstring "'a'" Nil Nil)))) (node kind.Empty Nil Nil)) Nil) Nil)) Nil) Nil) Nil))))) Nil)))

holds7 : differs tree7 (entry (3 ∷ 5 ∷ 1 ∷ 1 ∷ 2 ∷ 1 ∷ 1 ∷ 1 ∷ []) 11 "types do not agree" ∷ entry (3 ∷ 5 ∷ 1 ∷ 1 ∷ 2 ∷ 1 ∷ 1 ∷ 2 ∷ []) 11 "types do not agree" ∷ entry (3 ∷ 5 ∷ 1 ∷ 1 ∷ 2 ∷ 1 ∷ 1 ∷ 4 ∷ []) 11 "types do not agree" ∷ []) ≡ Equal
unfolding differs
holds7 = refl
