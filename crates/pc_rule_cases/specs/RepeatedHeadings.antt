-- Headings that later declarations repeat: programs with the errors that they have.
use Rattle.std.specs.Prelude.{◌≡◌, [], ◌∷◌}
use Rattle.std.proofs.Common.{refl}
use Rattle.pc_syntax.specs.Plain.{Nil, Plain}
use Rattle.pc_syntax.specs.declared.kind.Kind.TheVariants as kind
use Rattle.pc_syntax.specs.declared.sort.Sort.TheVariants as sort
use Rattle.pc_rule_cases.specs.Trees.{program, node, name, word}
use Rattle.pc_rule_cases.specs.Compare.{Equal, entry, differs}
use Rattle.pc_rule_cases.specs.Lookups.{HereAt, MissingAt, RequiredAt, query, first_wrong}

-- Row 21: the repeated parameters declare nothing, so a variable may have their name.
--   program p; procedure q; forward; procedure q(a, a: integer); var a: char; begin a := 'x' end; begin q end.
abbrev tree1 : Plain
tree1 = program (name "p" (node kind.Heads Nil (node kind.Block (node kind.Consts Nil (node kind.Types Nil (node kind.Vars Nil (node kind.Routines (node kind.Procedure (name "q" (node kind.Params Nil (word kind.Forward "forward" Nil Nil))) (node kind.Procedure (name "q" (node kind.Params (node kind.Valparam (node kind.Names (name "a" (name "a" Nil)) (name "integer" Nil)) Nil) (node kind.Block (node kind.Consts Nil (node kind.Types Nil (node kind.Vars (node kind.Vardef (node kind.Names (name "a" Nil) (node kind.Tname (name "char" Nil) Nil)) Nil) (node kind.Routines Nil (node kind.Compound (node kind.Stmts (node kind.Assign (node kind.Ref (name "a" Nil) (word kind.Text "'x'" Nil Nil)) Nil) Nil) Nil))))) Nil))) Nil)) (node kind.Compound (node kind.Stmts (node kind.Proc (name "q" (node kind.Args Nil Nil)) Nil) Nil) Nil))))) Nil)))

holds1 : differs tree1 (entry (3 ∷ 4 ∷ 2 ∷ []) 21 "heading given again: q" ∷ []) ≡ Equal
unfolding differs
holds1 = refl

-- what names mean in it
looked_up1 : first_wrong tree1 (query "q" (3 ∷ 4 ∷ 1 ∷ 1 ∷ []) (HereAt (3 ∷ 4 ∷ 1 ∷ 1 ∷ [])) ∷ query "q" (3 ∷ 4 ∷ 2 ∷ 1 ∷ []) (HereAt (3 ∷ 4 ∷ 1 ∷ 1 ∷ [])) ∷ query "a" (3 ∷ 4 ∷ 2 ∷ 2 ∷ 1 ∷ 1 ∷ 1 ∷ []) MissingAt ∷ query "a" (3 ∷ 4 ∷ 2 ∷ 2 ∷ 1 ∷ 1 ∷ 2 ∷ []) MissingAt ∷ query "integer" (3 ∷ 4 ∷ 2 ∷ 2 ∷ 1 ∷ 2 ∷ []) RequiredAt ∷ query "a" (3 ∷ 4 ∷ 2 ∷ 3 ∷ 3 ∷ 1 ∷ 1 ∷ 1 ∷ []) (HereAt (3 ∷ 4 ∷ 2 ∷ 3 ∷ 3 ∷ 1 ∷ 1 ∷ 1 ∷ [])) ∷ query "char" (3 ∷ 4 ∷ 2 ∷ 3 ∷ 3 ∷ 1 ∷ 2 ∷ 1 ∷ []) RequiredAt ∷ query "a" (3 ∷ 4 ∷ 2 ∷ 3 ∷ 5 ∷ 1 ∷ 1 ∷ 1 ∷ 1 ∷ []) (HereAt (3 ∷ 4 ∷ 2 ∷ 3 ∷ 3 ∷ 1 ∷ 1 ∷ 1 ∷ [])) ∷ query "q" (3 ∷ 5 ∷ 1 ∷ 1 ∷ 1 ∷ []) (HereAt (3 ∷ 4 ∷ 1 ∷ 1 ∷ [])) ∷ query "Q" (3 ∷ 4 ∷ 2 ∷ 3 ∷ 5 ∷ []) (HereAt (3 ∷ 4 ∷ 1 ∷ 1 ∷ [])) ∷ query "A" (3 ∷ 4 ∷ 2 ∷ 3 ∷ 5 ∷ []) (HereAt (3 ∷ 4 ∷ 2 ∷ 3 ∷ 3 ∷ 1 ∷ 1 ∷ 1 ∷ [])) ∷ query "INTEGER" (3 ∷ 4 ∷ 2 ∷ 3 ∷ 5 ∷ []) RequiredAt ∷ query "CHAR" (3 ∷ 4 ∷ 2 ∷ 3 ∷ 5 ∷ []) RequiredAt ∷ query "Integer" (3 ∷ 5 ∷ []) RequiredAt ∷ query "zz" (3 ∷ 5 ∷ []) MissingAt ∷ query "Q" (2 ∷ []) MissingAt ∷ []) ≡ 0
unfolding first_wrong
looked_up1 = refl

-- Row 21: a parameter that is a hole is repeated all the same; a result type that is a hole too.
--   program p; procedure q; forward; function f: char; forward; procedure q(?parameter); begin end; function f: ?name; begin f := 'x' end; begin end.
abbrev tree2 : Plain
tree2 = program (name "p" (node kind.Heads Nil (node kind.Block (node kind.Consts Nil (node kind.Types Nil (node kind.Vars Nil (node kind.Routines (node kind.Procedure (name "q" (node kind.Params Nil (word kind.Forward "forward" Nil Nil))) (node kind.Function (name "f" (node kind.Params Nil (name "char" (word kind.Forward "forward" Nil Nil)))) (node kind.Procedure (name "q" (node kind.Params (node (kind.Hole sort.Parameter) Nil Nil) (node kind.Block (node kind.Consts Nil (node kind.Types Nil (node kind.Vars Nil (node kind.Routines Nil (node kind.Compound (node kind.Stmts (node kind.Empty Nil Nil) Nil) Nil))))) Nil))) (node kind.Function (name "f" (node kind.Params Nil (node (kind.Hole sort.Name) Nil (node kind.Block (node kind.Consts Nil (node kind.Types Nil (node kind.Vars Nil (node kind.Routines Nil (node kind.Compound (node kind.Stmts (node kind.Assign (node kind.Ref (name "f" Nil) (word kind.Text "'x'" Nil Nil)) Nil) Nil) Nil))))) Nil)))) Nil)))) (node kind.Compound (node kind.Stmts (node kind.Empty Nil Nil) Nil) Nil))))) Nil)))

holds2 : differs tree2 (entry (3 ∷ 4 ∷ 3 ∷ []) 21 "heading given again: q" ∷ entry (3 ∷ 4 ∷ 4 ∷ []) 21 "heading given again: f" ∷ []) ≡ Equal
unfolding differs
holds2 = refl

-- Row 21, the neighbour: a procedure without parameters repeats nothing.
--   program p; procedure q(a: integer); forward; procedure q; begin a := 1 end; begin q(1) end.
abbrev tree3 : Plain
tree3 = program (name "p" (node kind.Heads Nil (node kind.Block (node kind.Consts Nil (node kind.Types Nil (node kind.Vars Nil (node kind.Routines (node kind.Procedure (name "q" (node kind.Params (node kind.Valparam (node kind.Names (name "a" Nil) (name "integer" Nil)) Nil) (word kind.Forward "forward" Nil Nil))) (node kind.Procedure (name "q" (node kind.Params Nil (node kind.Block (node kind.Consts Nil (node kind.Types Nil (node kind.Vars Nil (node kind.Routines Nil (node kind.Compound (node kind.Stmts (node kind.Assign (node kind.Ref (name "a" Nil) (word kind.Number "1" Nil Nil)) Nil) Nil) Nil))))) Nil))) Nil)) (node kind.Compound (node kind.Stmts (node kind.Proc (name "q" (node kind.Args (word kind.Number "1" Nil Nil) Nil)) Nil) Nil) Nil))))) Nil)))

holds3 : differs tree3 ([]) ≡ Equal
unfolding differs
holds3 = refl

-- what names mean in it
looked_up3 : first_wrong tree3 (query "q" (3 ∷ 4 ∷ 1 ∷ 1 ∷ []) (HereAt (3 ∷ 4 ∷ 1 ∷ 1 ∷ [])) ∷ query "a" (3 ∷ 4 ∷ 1 ∷ 2 ∷ 1 ∷ 1 ∷ 1 ∷ []) MissingAt ∷ query "integer" (3 ∷ 4 ∷ 1 ∷ 2 ∷ 1 ∷ 2 ∷ []) RequiredAt ∷ query "q" (3 ∷ 4 ∷ 2 ∷ 1 ∷ []) (HereAt (3 ∷ 4 ∷ 1 ∷ 1 ∷ [])) ∷ query "a" (3 ∷ 4 ∷ 2 ∷ 3 ∷ 5 ∷ 1 ∷ 1 ∷ 1 ∷ 1 ∷ []) (HereAt (3 ∷ 4 ∷ 1 ∷ 2 ∷ 1 ∷ 1 ∷ 1 ∷ [])) ∷ query "q" (3 ∷ 5 ∷ 1 ∷ 1 ∷ 1 ∷ []) (HereAt (3 ∷ 4 ∷ 1 ∷ 1 ∷ [])) ∷ query "Q" (3 ∷ 4 ∷ 2 ∷ 3 ∷ 5 ∷ []) (HereAt (3 ∷ 4 ∷ 1 ∷ 1 ∷ [])) ∷ query "A" (3 ∷ 4 ∷ 2 ∷ 3 ∷ 5 ∷ []) (HereAt (3 ∷ 4 ∷ 1 ∷ 2 ∷ 1 ∷ 1 ∷ 1 ∷ [])) ∷ query "INTEGER" (3 ∷ 4 ∷ 2 ∷ 3 ∷ 5 ∷ []) RequiredAt ∷ query "Integer" (3 ∷ 5 ∷ []) RequiredAt ∷ query "zz" (3 ∷ 5 ∷ []) MissingAt ∷ query "Q" (2 ∷ []) MissingAt ∷ []) ≡ 0
unfolding first_wrong
looked_up3 = refl

-- Row 21: the later declaration repeats the parameters; the entry is at its node, and the names declare nothing.
--   program p; procedure q(a: integer); forward; procedure q(b: integer); begin b := a end; begin q(1) end.
abbrev tree4 : Plain
tree4 = program (name "p" (node kind.Heads Nil (node kind.Block (node kind.Consts Nil (node kind.Types Nil (node kind.Vars Nil (node kind.Routines (node kind.Procedure (name "q" (node kind.Params (node kind.Valparam (node kind.Names (name "a" Nil) (name "integer" Nil)) Nil) (word kind.Forward "forward" Nil Nil))) (node kind.Procedure (name "q" (node kind.Params (node kind.Valparam (node kind.Names (name "b" Nil) (name "integer" Nil)) Nil) (node kind.Block (node kind.Consts Nil (node kind.Types Nil (node kind.Vars Nil (node kind.Routines Nil (node kind.Compound (node kind.Stmts (node kind.Assign (node kind.Ref (name "b" Nil) (node kind.Ref (name "a" Nil) Nil)) Nil) Nil) Nil))))) Nil))) Nil)) (node kind.Compound (node kind.Stmts (node kind.Proc (name "q" (node kind.Args (word kind.Number "1" Nil Nil) Nil)) Nil) Nil) Nil))))) Nil)))

holds4 : differs tree4 (entry (3 ∷ 4 ∷ 2 ∷ []) 21 "heading given again: q" ∷ entry (3 ∷ 4 ∷ 2 ∷ 3 ∷ 5 ∷ 1 ∷ 1 ∷ 1 ∷ 1 ∷ []) 1 "not declared: b" ∷ []) ≡ Equal
unfolding differs
holds4 = refl

-- what names mean in it
looked_up4 : first_wrong tree4 (query "q" (3 ∷ 4 ∷ 1 ∷ 1 ∷ []) (HereAt (3 ∷ 4 ∷ 1 ∷ 1 ∷ [])) ∷ query "a" (3 ∷ 4 ∷ 1 ∷ 2 ∷ 1 ∷ 1 ∷ 1 ∷ []) MissingAt ∷ query "integer" (3 ∷ 4 ∷ 1 ∷ 2 ∷ 1 ∷ 2 ∷ []) RequiredAt ∷ query "q" (3 ∷ 4 ∷ 2 ∷ 1 ∷ []) (HereAt (3 ∷ 4 ∷ 1 ∷ 1 ∷ [])) ∷ query "b" (3 ∷ 4 ∷ 2 ∷ 2 ∷ 1 ∷ 1 ∷ 1 ∷ []) MissingAt ∷ query "integer" (3 ∷ 4 ∷ 2 ∷ 2 ∷ 1 ∷ 2 ∷ []) RequiredAt ∷ query "b" (3 ∷ 4 ∷ 2 ∷ 3 ∷ 5 ∷ 1 ∷ 1 ∷ 1 ∷ 1 ∷ []) MissingAt ∷ query "a" (3 ∷ 4 ∷ 2 ∷ 3 ∷ 5 ∷ 1 ∷ 1 ∷ 2 ∷ 1 ∷ []) (HereAt (3 ∷ 4 ∷ 1 ∷ 2 ∷ 1 ∷ 1 ∷ 1 ∷ [])) ∷ query "q" (3 ∷ 5 ∷ 1 ∷ 1 ∷ 1 ∷ []) (HereAt (3 ∷ 4 ∷ 1 ∷ 1 ∷ [])) ∷ query "Q" (3 ∷ 4 ∷ 2 ∷ 3 ∷ 5 ∷ []) (HereAt (3 ∷ 4 ∷ 1 ∷ 1 ∷ [])) ∷ query "A" (3 ∷ 4 ∷ 2 ∷ 3 ∷ 5 ∷ []) (HereAt (3 ∷ 4 ∷ 1 ∷ 2 ∷ 1 ∷ 1 ∷ 1 ∷ [])) ∷ query "INTEGER" (3 ∷ 4 ∷ 2 ∷ 3 ∷ 5 ∷ []) RequiredAt ∷ query "B" (3 ∷ 4 ∷ 2 ∷ 3 ∷ 5 ∷ []) MissingAt ∷ query "Integer" (3 ∷ 5 ∷ []) RequiredAt ∷ query "zz" (3 ∷ 5 ∷ []) MissingAt ∷ query "Q" (2 ∷ []) MissingAt ∷ []) ≡ 0
unfolding first_wrong
looked_up4 = refl

-- Row 21 with a structured result type in the later heading: row 22 looks at the forward heading alone.
--   program p; type r = record end; function f: integer; forward; function f: r; begin f := 1 end; begin end.
abbrev tree5 : Plain
tree5 = program (name "p" (node kind.Heads Nil (node kind.Block (node kind.Consts Nil (node kind.Types (node kind.Typedef (name "r" (node kind.Record0 Nil Nil)) Nil) (node kind.Vars Nil (node kind.Routines (node kind.Function (name "f" (node kind.Params Nil (name "integer" (word kind.Forward "forward" Nil Nil)))) (node kind.Function (name "f" (node kind.Params Nil (name "r" (node kind.Block (node kind.Consts Nil (node kind.Types Nil (node kind.Vars Nil (node kind.Routines Nil (node kind.Compound (node kind.Stmts (node kind.Assign (node kind.Ref (name "f" Nil) (word kind.Number "1" Nil Nil)) Nil) Nil) Nil))))) Nil)))) Nil)) (node kind.Compound (node kind.Stmts (node kind.Empty Nil Nil) Nil) Nil))))) Nil)))

holds5 : differs tree5 (entry (3 ∷ 4 ∷ 2 ∷ []) 21 "heading given again: f" ∷ []) ≡ Equal
unfolding differs
holds5 = refl

-- Row 21: it repeats the result type; a funbody does not.
--   program p; function f: integer; forward; function g: integer; forward; function f: integer; begin f := 1 end; function g; begin g := 1 end; begin end.
abbrev tree6 : Plain
tree6 = program (name "p" (node kind.Heads Nil (node kind.Block (node kind.Consts Nil (node kind.Types Nil (node kind.Vars Nil (node kind.Routines (node kind.Function (name "f" (node kind.Params Nil (name "integer" (word kind.Forward "forward" Nil Nil)))) (node kind.Function (name "g" (node kind.Params Nil (name "integer" (word kind.Forward "forward" Nil Nil)))) (node kind.Function (name "f" (node kind.Params Nil (name "integer" (node kind.Block (node kind.Consts Nil (node kind.Types Nil (node kind.Vars Nil (node kind.Routines Nil (node kind.Compound (node kind.Stmts (node kind.Assign (node kind.Ref (name "f" Nil) (word kind.Number "1" Nil Nil)) Nil) Nil) Nil))))) Nil)))) (node kind.Funbody (name "g" (node kind.Block (node kind.Consts Nil (node kind.Types Nil (node kind.Vars Nil (node kind.Routines Nil (node kind.Compound (node kind.Stmts (node kind.Assign (node kind.Ref (name "g" Nil) (word kind.Number "1" Nil Nil)) Nil) Nil) Nil))))) Nil)) Nil)))) (node kind.Compound (node kind.Stmts (node kind.Empty Nil Nil) Nil) Nil))))) Nil)))

holds6 : differs tree6 (entry (3 ∷ 4 ∷ 3 ∷ []) 21 "heading given again: f" ∷ []) ≡ Equal
unfolding differs
holds6 = refl

-- Row 21: the type names of the repeated heading are used names still.
--   program p; function f(a: integer): integer; forward; function f(a: t): u; begin f := a end; begin end.
abbrev tree7 : Plain
tree7 = program (name "p" (node kind.Heads Nil (node kind.Block (node kind.Consts Nil (node kind.Types Nil (node kind.Vars Nil (node kind.Routines (node kind.Function (name "f" (node kind.Params (node kind.Valparam (node kind.Names (name "a" Nil) (name "integer" Nil)) Nil) (name "integer" (word kind.Forward "forward" Nil Nil)))) (node kind.Function (name "f" (node kind.Params (node kind.Valparam (node kind.Names (name "a" Nil) (name "t" Nil)) Nil) (name "u" (node kind.Block (node kind.Consts Nil (node kind.Types Nil (node kind.Vars Nil (node kind.Routines Nil (node kind.Compound (node kind.Stmts (node kind.Assign (node kind.Ref (name "f" Nil) (node kind.Ref (name "a" Nil) Nil)) Nil) Nil) Nil))))) Nil)))) Nil)) (node kind.Compound (node kind.Stmts (node kind.Empty Nil Nil) Nil) Nil))))) Nil)))

holds7 : differs tree7 (entry (3 ∷ 4 ∷ 2 ∷ []) 21 "heading given again: f" ∷ entry (3 ∷ 4 ∷ 2 ∷ 2 ∷ 1 ∷ 2 ∷ []) 1 "not declared: t" ∷ entry (3 ∷ 4 ∷ 2 ∷ 3 ∷ []) 1 "not declared: u" ∷ []) ≡ Equal
unfolding differs
holds7 = refl
