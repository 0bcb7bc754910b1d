-- Bounds of subranges: programs with the errors that they have.
use Rattle.std.specs.Prelude.{◌≡◌, [], ◌∷◌}
use Rattle.std.proofs.Common.{refl}
use Rattle.pc_syntax.specs.Plain.{Nil, Plain}
use Rattle.pc_syntax.specs.declared.kind.Kind.TheVariants as kind
use Rattle.pc_syntax.specs.declared.sort.Sort.TheVariants as sort
use Rattle.pc_rule_cases.specs.Trees.{program, node, name, word}
use Rattle.pc_rule_cases.specs.Compare.{Equal, entry, differs}

-- Row 7, the neighbour: Boolean, char and enumerated bounds.
--   program p; type a = false..true; b = 'a'..'z'; c = (x, y, z); d = y..z; e = x..x; begin end.
abbrev tree1 : Plain
tree1 = program (name "p" (node kind.Heads Nil (node kind.Block (node kind.Consts Nil (node kind.Types (node kind.Typedef (name "a" (node kind.Subrange (node kind.Cname (name "false" Nil) (node kind.Cname (name "true" Nil) Nil)) Nil)) (node kind.Typedef (name "b" (node kind.Subrange (word kind.Cstring "'a'" Nil (word kind.Cstring "'z'" Nil Nil)) Nil)) (node kind.Typedef (name "c" (node kind.Enum (node kind.Names (name "x" (name "y" (name "z" Nil))) Nil) Nil)) (node kind.Typedef (name "d" (node kind.Subrange (node kind.Cname (name "y" Nil) (node kind.Cname (name "z" Nil) Nil)) Nil)) (node kind.Typedef (name "e" (node kind.Subrange (node kind.Cname (name "x" Nil) (node kind.Cname (name "x" Nil) Nil)) Nil)) Nil))))) (node kind.Vars Nil (node kind.Routines Nil (node kind.Compound (node kind.Stmts (node kind.Empty Nil Nil) Nil) Nil))))) Nil)))

holds1 : differs tree1 ([]) ≡ Equal
unfolding differs
holds1 = refl

-- Row 7, the neighbour: constants that stand for elements, and a subrange of a subrange's host.
--   program p; type c = (red, green, blue); s = red..green; t = red..blue; var x: s; y: t; begin x := y end.
abbrev tree2 : Plain
tree2 = program (name "p" (node kind.Heads Nil (node kind.Block (node kind.Consts Nil (node kind.Types (node kind.Typedef (name "c" (node kind.Enum (node kind.Names (name "red" (name "green" (name "blue" Nil))) Nil) Nil)) (node kind.Typedef (name "s" (node kind.Subrange (node kind.Cname (name "red" Nil) (node kind.Cname (name "green" Nil) Nil)) Nil)) (node kind.Typedef (name "t" (node kind.Subrange (node kind.Cname (name "red" Nil) (node kind.Cname (name "blue" Nil) Nil)) Nil)) Nil))) (node kind.Vars (node kind.Vardef (node kind.Names (name "x" Nil) (node kind.Tname (name "s" Nil) Nil)) (node kind.Vardef (node kind.Names (name "y" Nil) (node kind.Tname (name "t" Nil) Nil)) Nil)) (node kind.Routines Nil (node kind.Compound (node kind.Stmts (node kind.Assign (node kind.Ref (name "x" Nil) (node kind.Ref (name "y" Nil) Nil)) Nil) Nil) Nil))))) Nil)))

holds2 : differs tree2 ([]) ≡ Equal
unfolding differs
holds2 = refl

-- Row 7 needs both constants: none with a hole, an undeclared name or one before its declaration.
--   program p; type a = 5..?constant; b = y..1; c = low..2; e = (low, high); begin end.
abbrev tree3 : Plain
tree3 = program (name "p" (node kind.Heads Nil (node kind.Block (node kind.Consts Nil (node kind.Types (node kind.Typedef (name "a" (node kind.Subrange (word kind.Cnumber "5" Nil (node (kind.Hole sort.Constant) Nil Nil)) Nil)) (node kind.Typedef (name "b" (node kind.Subrange (node kind.Cname (name "y" Nil) (word kind.Cnumber "1" Nil Nil)) Nil)) (node kind.Typedef (name "c" (node kind.Subrange (node kind.Cname (name "low" Nil) (word kind.Cnumber "2" Nil Nil)) Nil)) (node kind.Typedef (name "e" (node kind.Enum (node kind.Names (name "low" (name "high" Nil)) Nil) Nil)) Nil)))) (node kind.Vars Nil (node kind.Routines Nil (node kind.Compound (node kind.Stmts (node kind.Empty Nil Nil) Nil) Nil))))) Nil)))

holds3 : differs tree3 (entry (3 ∷ 2 ∷ 2 ∷ 2 ∷ 1 ∷ 1 ∷ []) 1 "not declared: y" ∷ entry (3 ∷ 2 ∷ 3 ∷ 2 ∷ 1 ∷ 1 ∷ []) 2 "used before its declaration: low" ∷ []) ≡ Equal
unfolding differs
holds3 = refl

-- Row 7: a variable of such a type has none; nothing is said of its uses.
--   program p; var x: 2..1; a: array [2..1] of char; begin x := true; a[true] := 1 end.
abbrev tree4 : Plain
tree4 = program (name "p" (node kind.Heads Nil (node kind.Block (node kind.Consts Nil (node kind.Types Nil (node kind.Vars (node kind.Vardef (node kind.Names (name "x" Nil) (node kind.Subrange (word kind.Cnumber "2" Nil (word kind.Cnumber "1" Nil Nil)) Nil)) (node kind.Vardef (node kind.Names (name "a" Nil) (node kind.Array (node kind.Indexes (node kind.Subrange (word kind.Cnumber "2" Nil (word kind.Cnumber "1" Nil Nil)) Nil) (node kind.Tname (name "char" Nil) Nil)) Nil)) Nil)) (node kind.Routines Nil (node kind.Compound (node kind.Stmts (node kind.Assign (node kind.Ref (name "x" Nil) (node kind.Ref (name "true" Nil) Nil)) (node kind.Assign (node kind.Index (node kind.Ref (name "a" Nil) (node kind.Exprs (node kind.Ref (name "true" Nil) Nil) Nil)) (word kind.Number "1" Nil Nil)) Nil)) Nil) Nil))))) Nil)))

holds4 : differs tree4 (entry (3 ∷ 3 ∷ 1 ∷ 2 ∷ []) 7 "bad bounds" ∷ entry (3 ∷ 3 ∷ 2 ∷ 2 ∷ 1 ∷ 1 ∷ []) 7 "bad bounds" ∷ []) ≡ Equal
unfolding differs
holds4 = refl

-- Row 7: bounds out of order; equal ones are in order.
--   program p; type a = 5..1; b = 5..5; c = -1..-2; begin end.
abbrev tree5 : Plain
tree5 = program (name "p" (node kind.Heads Nil (node kind.Block (node kind.Consts Nil (node kind.Types (node kind.Typedef (name "a" (node kind.Subrange (word kind.Cnumber "5" Nil (word kind.Cnumber "1" Nil Nil)) Nil)) (node kind.Typedef (name "b" (node kind.Subrange (word kind.Cnumber "5" Nil (word kind.Cnumber "5" Nil Nil)) Nil)) (node kind.Typedef (name "c" (node kind.Subrange (word kind.Csign "-" (word kind.Cnumber "1" Nil Nil) (word kind.Csign "-" (word kind.Cnumber "2" Nil Nil) Nil)) Nil)) Nil))) (node kind.Vars Nil (node kind.Routines Nil (node kind.Compound (node kind.Stmts (node kind.Empty Nil Nil) Nil) Nil))))) Nil)))

holds5 : differs tree5 (entry (3 ∷ 2 ∷ 1 ∷ 2 ∷ []) 7 "bad bounds" ∷ entry (3 ∷ 2 ∷ 3 ∷ 2 ∷ []) 7 "bad bounds" ∷ []) ≡ Equal
unfolding differs
holds5 = refl

-- Row 7: bounds that are strings, though in order.
--   program p; type a = 'ab'..'cd'; b = 'a'..'c'; begin end.
abbrev tree6 : Plain
tree6 = program (name "p" (node kind.Heads Nil (node kind.Block (node kind.Consts Nil (node kind.Types (node kind.Typedef (name "a" (node kind.Subrange (word kind.Cstring "'ab'" Nil (word kind.Cstring "'cd'" Nil Nil)) Nil)) (node kind.Typedef (name "b" (node kind.Subrange (word kind.Cstring "'a'" Nil (word kind.Cstring "'c'" Nil Nil)) Nil)) Nil)) (node kind.Vars Nil (node kind.Routines Nil (node kind.Compound (node kind.Stmts (node kind.Empty Nil Nil) Nil) Nil))))) Nil)))

holds6 : differs tree6 (entry (3 ∷ 2 ∷ 1 ∷ 2 ∷ []) 7 "bad bounds" ∷ []) ≡ Equal
unfolding differs
holds6 = refl

-- Row 7: bounds of two types.
--   program p; type c = (red, green); d = (blue); a = 1..'a'; b = red..blue; e = false..1; begin end.
abbrev tree7 : Plain
tree7 = program (name "p" (node kind.Heads Nil (node kind.Block (node kind.Consts Nil (node kind.Types (node kind.Typedef (name "c" (node kind.Enum (node kind.Names (name "red" (name "green" Nil)) Nil) Nil)) (node kind.Typedef (name "d" (node kind.Enum (node kind.Names (name "blue" Nil) Nil) Nil)) (node kind.Typedef (name "a" (node kind.Subrange (word kind.Cnumber "1" Nil (word kind.Cstring "'a'" Nil Nil)) Nil)) (node kind.Typedef (name "b" (node kind.Subrange (node kind.Cname (name "red" Nil) (node kind.Cname (name "blue" Nil) Nil)) Nil)) (node kind.Typedef (name "e" (node kind.Subrange (node kind.Cname (name "false" Nil) (word kind.Cnumber "1" Nil Nil)) Nil)) Nil))))) (node kind.Vars Nil (node kind.Routines Nil (node kind.Compound (node kind.Stmts (node kind.Empty Nil Nil) Nil) Nil))))) Nil)))

holds7 : differs tree7 (entry (3 ∷ 2 ∷ 3 ∷ 2 ∷ []) 7 "bad bounds" ∷ entry (3 ∷ 2 ∷ 4 ∷ 2 ∷ []) 7 "bad bounds" ∷ entry (3 ∷ 2 ∷ 5 ∷ 2 ∷ []) 7 "bad bounds" ∷ []) ≡ Equal
unfolding differs
holds7 = refl
