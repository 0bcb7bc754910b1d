-- Signs before constants: programs with the errors that they have.
use Rattle.std.specs.Prelude.{◌≡◌, [], ◌∷◌}
use Rattle.std.proofs.Common.{refl}
use Rattle.pc_syntax.specs.Plain.{Nil, Plain}
use Rattle.pc_syntax.specs.declared.kind.Kind.TheVariants as kind
use Rattle.pc_syntax.specs.declared.sort.Sort.TheVariants as sort
use Rattle.pc_rule_cases.specs.Trees.{program, node, name, word}
use Rattle.pc_rule_cases.specs.Compare.{Equal, entry, differs}

-- Row 6: a sign before constants that are a char, a string, a Boolean; the grammar has a sign before names and numerals alone.
--   program p; const x = 'x'; y = 'xy'; a = -x; b = +y; c = -true; begin end.
abbrev tree1 : Plain
tree1 = program (name "p" (node kind.Heads Nil (node kind.Block (node kind.Consts (node kind.Constdef (name "x" (word kind.Cstring "'x'" Nil Nil)) (node kind.Constdef (name "y" (word kind.Cstring "'xy'" Nil Nil)) (node kind.Constdef (name "a" (word kind.Csign "-" (node kind.Cname (name "x" Nil) Nil) Nil)) (node kind.Constdef (name "b" (word kind.Csign "+" (node kind.Cname (name "y" Nil) Nil) Nil)) (node kind.Constdef (name "c" (word kind.Csign "-" (node kind.Cname (name "true" Nil) Nil) Nil)) Nil))))) (node kind.Types Nil (node kind.Vars Nil (node kind.Routines Nil (node kind.Compound (node kind.Stmts (node kind.Empty Nil Nil) Nil) Nil))))) Nil)))

holds1 : differs tree1 (entry (3 ∷ 1 ∷ 3 ∷ 2 ∷ []) 6 "not a number" ∷ entry (3 ∷ 1 ∷ 4 ∷ 2 ∷ []) 6 "not a number" ∷ entry (3 ∷ 1 ∷ 5 ∷ 2 ∷ []) 6 "not a number" ∷ []) ≡ Equal
unfolding differs
holds1 = refl

-- Row 6 at the bound of a subrange: it has no value, so there are no bad bounds.
--   program p; type c = (red, green); s = -red..green; var x: s; begin x := 1 end.
abbrev tree2 : Plain
tree2 = program (name "p" (node kind.Heads Nil (node kind.Block (node kind.Consts Nil (node kind.Types (node kind.Typedef (name "c" (node kind.Enum (node kind.Names (name "red" (name "green" Nil)) Nil) Nil)) (node kind.Typedef (name "s" (node kind.Subrange (word kind.Csign "-" (node kind.Cname (name "red" Nil) Nil) (node kind.Cname (name "green" Nil) Nil)) Nil)) Nil)) (node kind.Vars (node kind.Vardef (node kind.Names (name "x" Nil) (node kind.Tname (name "s" Nil) Nil)) Nil) (node kind.Routines Nil (node kind.Compound (node kind.Stmts (node kind.Assign (node kind.Ref (name "x" Nil) (word kind.Number "1" Nil Nil)) Nil) Nil) Nil))))) Nil)))

holds2 : differs tree2 (entry (3 ∷ 2 ∷ 2 ∷ 2 ∷ 1 ∷ []) 6 "not a number" ∷ []) ≡ Equal
unfolding differs
holds2 = refl

-- Row 6, the neighbour: a sign before a numeral and before an integer constant.
--   program p; const a = 1; b = -a; c = +b; d = -maxint; type t = -a..a; begin end.
abbrev tree3 : Plain
tree3 = program (name "p" (node kind.Heads Nil (node kind.Block (node kind.Consts (node kind.Constdef (name "a" (word kind.Cnumber "1" Nil Nil)) (node kind.Constdef (name "b" (word kind.Csign "-" (node kind.Cname (name "a" Nil) Nil) Nil)) (node kind.Constdef (name "c" (word kind.Csign "+" (node kind.Cname (name "b" Nil) Nil) Nil)) (node kind.Constdef (name "d" (word kind.Csign "-" (node kind.Cname (name "maxint" Nil) Nil) Nil)) Nil)))) (node kind.Types (node kind.Typedef (name "t" (node kind.Subrange (word kind.Csign "-" (node kind.Cname (name "a" Nil) Nil) (node kind.Cname (name "a" Nil) Nil)) Nil)) Nil) (node kind.Vars Nil (node kind.Routines Nil (node kind.Compound (node kind.Stmts (node kind.Empty Nil Nil) Nil) Nil))))) Nil)))

holds3 : differs tree3 ([]) ≡ Equal
unfolding differs
holds3 = refl

-- Row 6 at a label, and the constant that is defined so has no type: no entry at its uses.
--   program p; const s = 'ab'; c = -s; d = -c; var x: char; begin x := c; case 'a' of -s: end end.
abbrev tree4 : Plain
tree4 = program (name "p" (node kind.Heads Nil (node kind.Block (node kind.Consts (node kind.Constdef (name "s" (word kind.Cstring "'ab'" Nil Nil)) (node kind.Constdef (name "c" (word kind.Csign "-" (node kind.Cname (name "s" Nil) Nil) Nil)) (node kind.Constdef (name "d" (word kind.Csign "-" (node kind.Cname (name "c" Nil) Nil) Nil)) Nil))) (node kind.Types Nil (node kind.Vars (node kind.Vardef (node kind.Names (name "x" Nil) (node kind.Tname (name "char" Nil) Nil)) Nil) (node kind.Routines Nil (node kind.Compound (node kind.Stmts (node kind.Assign (node kind.Ref (name "x" Nil) (node kind.Ref (name "c" Nil) Nil)) (node kind.Case (word kind.Text "'a'" Nil (node kind.Arms (node kind.Arm (node kind.Labels (word kind.Csign "-" (node kind.Cname (name "s" Nil) Nil) Nil) (node kind.Empty Nil Nil)) Nil) Nil)) Nil)) Nil) Nil))))) Nil)))

holds4 : differs tree4 (entry (3 ∷ 1 ∷ 2 ∷ 2 ∷ []) 6 "not a number" ∷ entry (3 ∷ 5 ∷ 1 ∷ 2 ∷ 2 ∷ 1 ∷ 1 ∷ 1 ∷ []) 6 "not a number" ∷ []) ≡ Equal
unfolding differs
holds4 = refl

-- Row 6 needs the constant's type: an undeclared or a bad constant has none.
--   program p; const a = -y; b = -a; c = +?constant; begin end.
abbrev tree5 : Plain
tree5 = program (name "p" (node kind.Heads Nil (node kind.Block (node kind.Consts (node kind.Constdef (name "a" (word kind.Csign "-" (node kind.Cname (name "y" Nil) Nil) Nil)) (node kind.Constdef (name "b" (word kind.Csign "-" (node kind.Cname (name "a" Nil) Nil) Nil)) (node kind.Constdef (name "c" (word kind.Csign "+" (node (kind.Hole sort.Constant) Nil Nil) Nil)) Nil))) (node kind.Types Nil (node kind.Vars Nil (node kind.Routines Nil (node kind.Compound (node kind.Stmts (node kind.Empty Nil Nil) Nil) Nil))))) Nil)))

holds5 : differs tree5 (entry (3 ∷ 1 ∷ 1 ∷ 2 ∷ 1 ∷ 1 ∷ []) 1 "not declared: y" ∷ []) ≡ Equal
unfolding differs
holds5 = refl
