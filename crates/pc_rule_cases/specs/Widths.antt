-- Field widths: programs with the errors that they have.
use Rattle.std.specs.Prelude.{◌≡◌, [], ◌∷◌}
use Rattle.std.proofs.Common.{refl}
use Rattle.pc_syntax.specs.Plain.{Nil, Plain}
use Rattle.pc_syntax.specs.declared.kind.Kind.TheVariants as kind
use Rattle.pc_syntax.specs.declared.sort.Sort.TheVariants as sort
use Rattle.pc_rule_cases.specs.Trees.{program, node, name, word}
use Rattle.pc_rule_cases.specs.Compare.{Equal, entry, differs}

-- Row 24 at dispose: a width is no row 13 there.
--   program p; var q: ^char; begin dispose(q:1) end.
abbrev tree1 : Plain
tree1 = program (name "p" (node kind.Heads Nil (node kind.Block (node kind.Consts Nil (node kind.Types Nil (node kind.Vars (node kind.Vardef (node kind.Names (name "q" Nil) (node kind.Pointer (name "char" Nil) Nil)) Nil) (node kind.Routines Nil (node kind.Compound (node kind.Stmts (node kind.Proc (name "dispose" (node kind.Args (node kind.Width (node kind.Ref (name "q" Nil) (word kind.Number "1" Nil Nil)) Nil) Nil)) Nil) Nil) Nil))))) Nil)))

holds1 : differs tree1 (entry (3 ∷ 5 ∷ 1 ∷ 1 ∷ 2 ∷ 1 ∷ []) 24 "width not allowed" ∷ []) ≡ Equal
unfolding differs
holds1 = refl

-- Row 24, the neighbour: a width below 1 or over 1000 is a fault of the run and no entry.
--   program p; begin write(1:0, 2:1001, 3:-5) end.
abbrev tree2 : Plain
tree2 = program (name "p" (node kind.Heads Nil (node kind.Block (node kind.Consts Nil (node kind.Types Nil (node kind.Vars Nil (node kind.Routines Nil (node kind.Compound (node kind.Stmts (node kind.Proc (name "write" (node kind.Args (node kind.Width (word kind.Number "1" Nil (word kind.Number "0" Nil Nil)) (node kind.Width (word kind.Number "2" Nil (word kind.Number "1001" Nil Nil)) (node kind.Width (word kind.Number "3" Nil (word kind.Sign "-" (word kind.Number "5" Nil Nil) Nil)) Nil))) Nil)) Nil) Nil) Nil))))) Nil)))

holds2 : differs tree2 ([]) ≡ Equal
unfolding differs
holds2 = refl

-- Row 24 needs the width's type where it stands in write: none for a hole or an undeclared name.
--   program p; begin write(1:y); write(1:?expression); write(y:2) end.
abbrev tree3 : Plain
tree3 = program (name "p" (node kind.Heads Nil (node kind.Block (node kind.Consts Nil (node kind.Types Nil (node kind.Vars Nil (node kind.Routines Nil (node kind.Compound (node kind.Stmts (node kind.Proc (name "write" (node kind.Args (node kind.Width (word kind.Number "1" Nil (node kind.Ref (name "y" Nil) Nil)) Nil) Nil)) (node kind.Proc (name "write" (node kind.Args (node kind.Width (word kind.Number "1" Nil (node (kind.Hole sort.Expression) Nil Nil)) Nil) Nil)) (node kind.Proc (name "write" (node kind.Args (node kind.Width (node kind.Ref (name "y" Nil) (word kind.Number "2" Nil Nil)) Nil) Nil)) Nil))) Nil) Nil))))) Nil)))

holds3 : differs tree3 (entry (3 ∷ 5 ∷ 1 ∷ 1 ∷ 2 ∷ 1 ∷ 2 ∷ 1 ∷ []) 1 "not declared: y" ∷ entry (3 ∷ 5 ∷ 1 ∷ 3 ∷ 2 ∷ 1 ∷ 1 ∷ 1 ∷ []) 1 "not declared: y" ∷ []) ≡ Equal
unfolding differs
holds3 = refl

-- Row 24: a width outside write and writeln, at the width.
--   program p; var i: integer; procedure q(a: integer); begin end; begin q(i:2); readln(i:2); write(i:2); writeln(i:2) end.
abbrev tree4 : Plain
tree4 = program (name "p" (node kind.Heads Nil (node kind.Block (node kind.Consts Nil (node kind.Types Nil (node kind.Vars (node kind.Vardef (node kind.Names (name "i" Nil) (node kind.Tname (name "integer" Nil) Nil)) Nil) (node kind.Routines (node kind.Procedure (name "q" (node kind.Params (node kind.Valparam (node kind.Names (name "a" Nil) (name "integer" Nil)) Nil) (node kind.Block (node kind.Consts Nil (node kind.Types Nil (node kind.Vars Nil (node kind.Routines Nil (node kind.Compound (node kind.Stmts (node kind.Empty Nil Nil) Nil) Nil))))) Nil))) Nil) (node kind.Compound (node kind.Stmts (node kind.Proc (name "q" (node kind.Args (node kind.Width (node kind.Ref (name "i" Nil) (word kind.Number "2" Nil Nil)) Nil) Nil)) (node kind.Proc (name "readln" (node kind.Args (node kind.Width (node kind.Ref (name "i" Nil) (word kind.Number "2" Nil Nil)) Nil) Nil)) (node kind.Proc (name "write" (node kind.Args (node kind.Width (node kind.Ref (name "i" Nil) (word kind.Number "2" Nil Nil)) Nil) Nil)) (node kind.Proc (name "writeln" (node kind.Args (node kind.Width (node kind.Ref (name "i" Nil) (word kind.Number "2" Nil Nil)) Nil) Nil)) Nil)))) Nil) Nil))))) Nil)))

holds4 : differs tree4 (entry (3 ∷ 5 ∷ 1 ∷ 1 ∷ 2 ∷ 1 ∷ []) 24 "width not allowed" ∷ entry (3 ∷ 5 ∷ 1 ∷ 2 ∷ 2 ∷ 1 ∷ []) 13 "not a variable" ∷ entry (3 ∷ 5 ∷ 1 ∷ 2 ∷ 2 ∷ 1 ∷ []) 24 "width not allowed" ∷ []) ≡ Equal
unfolding differs
holds4 = refl

-- Row 24: write defined anew takes no width.
--   program p; procedure write(a: integer); begin end; begin write(1:2); writeln(1:2) end.
abbrev tree5 : Plain
tree5 = program (name "p" (node kind.Heads Nil (node kind.Block (node kind.Consts Nil (node kind.Types Nil (node kind.Vars Nil (node kind.Routines (node kind.Procedure (name "write" (node kind.Params (node kind.Valparam (node kind.Names (name "a" Nil) (name "integer" Nil)) Nil) (node kind.Block (node kind.Consts Nil (node kind.Types Nil (node kind.Vars Nil (node kind.Routines Nil (node kind.Compound (node kind.Stmts (node kind.Empty Nil Nil) Nil) Nil))))) Nil))) Nil) (node kind.Compound (node kind.Stmts (node kind.Proc (name "write" (node kind.Args (node kind.Width (word kind.Number "1" Nil (word kind.Number "2" Nil Nil)) Nil) Nil)) (node kind.Proc (name "writeln" (node kind.Args (node kind.Width (word kind.Number "1" Nil (word kind.Number "2" Nil Nil)) Nil) Nil)) Nil)) Nil) Nil))))) Nil)))

holds5 : differs tree5 (entry (3 ∷ 5 ∷ 1 ∷ 1 ∷ 2 ∷ 1 ∷ []) 24 "width not allowed" ∷ []) ≡ Equal
unfolding differs
holds5 = refl

-- Row 24: a width that is no integer; subranges of integer are one.
--   program p; var w: 1..9; begin write(1:w, 2:'a', 3:true, 4:[]) end.
abbrev tree6 : Plain
tree6 = program (name "p" (node kind.Heads Nil (node kind.Block (node kind.Consts Nil (node kind.Types Nil (node kind.Vars (node kind.Vardef (node kind.Names (name "w" Nil) (node kind.Subrange (word kind.Cnumber "1" Nil (word kind.Cnumber "9" Nil Nil)) Nil)) Nil) (node kind.Routines Nil (node kind.Compound (node kind.Stmts (node kind.Proc (name "write" (node kind.Args (node kind.Width (word kind.Number "1" Nil (node kind.Ref (name "w" Nil) Nil)) (node kind.Width (word kind.Number "2" Nil (word kind.Text "'a'" Nil Nil)) (node kind.Width (word kind.Number "3" Nil (node kind.Ref (name "true" Nil) Nil)) (node kind.Width (word kind.Number "4" Nil (node kind.Setcon (node kind.Members Nil Nil) Nil)) Nil)))) Nil)) Nil) Nil) Nil))))) Nil)))

holds6 : differs tree6 (entry (3 ∷ 5 ∷ 1 ∷ 1 ∷ 2 ∷ 2 ∷ []) 24 "width not allowed" ∷ entry (3 ∷ 5 ∷ 1 ∷ 1 ∷ 2 ∷ 3 ∷ []) 24 "width not allowed" ∷ entry (3 ∷ 5 ∷ 1 ∷ 1 ∷ 2 ∷ 4 ∷ []) 24 "width not allowed" ∷ []) ≡ Equal
unfolding differs
holds6 = refl

-- Row 24: the arguments of a name that is undeclared, no procedure or a hole stand outside write.
--   program p; var v: integer; begin y(1:2); v(1:2); ?name(1:2) end.
abbrev tree7 : Plain
tree7 = program (name "p" (node kind.Heads Nil (node kind.Block (node kind.Consts Nil (node kind.Types Nil (node kind.Vars (node kind.Vardef (node kind.Names (name "v" Nil) (node kind.Tname (name "integer" Nil) Nil)) Nil) (node kind.Routines Nil (node kind.Compound (node kind.Stmts (node kind.Proc (name "y" (node kind.Args (node kind.Width (word kind.Number "1" Nil (word kind.Number "2" Nil Nil)) Nil) Nil)) (node kind.Proc (name "v" (node kind.Args (node kind.Width (word kind.Number "1" Nil (word kind.Number "2" Nil Nil)) Nil) Nil)) (node kind.Proc (node (kind.Hole sort.Name) Nil (node kind.Args (node kind.Width (word kind.Number "1" Nil (word kind.Number "2" Nil Nil)) Nil) Nil)) Nil))) Nil) Nil))))) Nil)))

holds7 : differs tree7 (entry (3 ∷ 5 ∷ 1 ∷ 1 ∷ 1 ∷ []) 1 "not declared: y" ∷ entry (3 ∷ 5 ∷ 1 ∷ 1 ∷ 2 ∷ 1 ∷ []) 24 "width not allowed" ∷ entry (3 ∷ 5 ∷ 1 ∷ 2 ∷ 1 ∷ []) 4 "not a procedure: v" ∷ entry (3 ∷ 5 ∷ 1 ∷ 2 ∷ 2 ∷ 1 ∷ []) 24 "width not allowed" ∷ entry (3 ∷ 5 ∷ 1 ∷ 3 ∷ 2 ∷ 1 ∷ []) 24 "width not allowed" ∷ []) ≡ Equal
unfolding differs
holds7 = refl
