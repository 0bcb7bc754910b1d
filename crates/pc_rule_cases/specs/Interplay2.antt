-- Several rules in one program: programs with the errors that they have.
use Rattle.std.specs.Prelude.{◌≡◌, [], ◌∷◌}
use Rattle.std.proofs.Common.{refl}
use Rattle.pc_syntax.specs.Plain.{Nil, Plain}
use Rattle.pc_syntax.specs.declared.kind.Kind.TheVariants as kind
use Rattle.pc_syntax.specs.declared.sort.Sort.TheVariants as sort
use Rattle.pc_rule_cases.specs.Trees.{program, node, name, word}
use Rattle.pc_rule_cases.specs.Compare.{Equal, entry, differs}
use Rattle.pc_rule_cases.specs.Lookups.{HereAt, LaterAt, MissingAt, RequiredAt, query, first_wrong}

-- A field is no declared name: it is not known in the record's later denoters.
--   program p; type r = record x: integer; y: x end; begin end.
abbrev tree1 : Plain
tree1 = program (name "p" (node kind.Heads Nil (node kind.Block (node kind.Consts Nil (node kind.Types (node kind.Typedef (name "r" (node kind.Record (node kind.Fields (node kind.Field (node kind.Names (name "x" Nil) (node kind.Tname (name "integer" Nil) Nil)) (node kind.Field (node kind.Names (name "y" Nil) (node kind.Tname (name "x" Nil) Nil)) Nil)) Nil) Nil)) Nil) (node kind.Vars Nil (node kind.Routines Nil (node kind.Compound (node kind.Stmts (node kind.Empty Nil Nil) Nil) Nil))))) Nil)))

holds1 : differs tree1 (entry (3 ∷ 2 ∷ 1 ∷ 2 ∷ 1 ∷ 2 ∷ 2 ∷ 1 ∷ []) 1 "not declared: x" ∷ []) ≡ Equal
unfolding differs
holds1 = refl

-- what names mean in it
looked_up1 : first_wrong tree1 (query "r" (3 ∷ 2 ∷ 1 ∷ 1 ∷ []) (LaterAt (3 ∷ 2 ∷ 1 ∷ 1 ∷ [])) ∷ query "x" (3 ∷ 2 ∷ 1 ∷ 2 ∷ 1 ∷ 1 ∷ 1 ∷ 1 ∷ []) MissingAt ∷ query "integer" (3 ∷ 2 ∷ 1 ∷ 2 ∷ 1 ∷ 1 ∷ 2 ∷ 1 ∷ []) RequiredAt ∷ query "y" (3 ∷ 2 ∷ 1 ∷ 2 ∷ 1 ∷ 2 ∷ 1 ∷ 1 ∷ []) MissingAt ∷ query "x" (3 ∷ 2 ∷ 1 ∷ 2 ∷ 1 ∷ 2 ∷ 2 ∷ 1 ∷ []) MissingAt ∷ query "R" (3 ∷ 5 ∷ []) (HereAt (3 ∷ 2 ∷ 1 ∷ 1 ∷ [])) ∷ query "X" (3 ∷ 5 ∷ []) MissingAt ∷ query "INTEGER" (3 ∷ 5 ∷ []) RequiredAt ∷ query "Y" (3 ∷ 5 ∷ []) MissingAt ∷ query "Integer" (3 ∷ 5 ∷ []) RequiredAt ∷ query "zz" (3 ∷ 5 ∷ []) MissingAt ∷ query "R" (2 ∷ []) MissingAt ∷ []) ≡ 0
unfolding first_wrong
looked_up1 = refl

-- A for over an enumeration, with a bound of another.
--   program p; type c = (red, green); d = (blue); var x: c; begin for x := red to green do; for x := red to blue do; for x := 0 to 1 do end.
abbrev tree2 : Plain
tree2 = program (name "p" (node kind.Heads Nil (node kind.Block (node kind.Consts Nil (node kind.Types (node kind.Typedef (name "c" (node kind.Enum (node kind.Names (name "red" (name "green" Nil)) Nil) Nil)) (node kind.Typedef (name "d" (node kind.Enum (node kind.Names (name "blue" Nil) Nil) Nil)) Nil)) (node kind.Vars (node kind.Vardef (node kind.Names (name "x" Nil) (node kind.Tname (name "c" Nil) Nil)) Nil) (node kind.Routines Nil (node kind.Compound (node kind.Stmts (word kind.For "to" (name "x" (node kind.Ref (name "red" Nil) (node kind.Ref (name "green" Nil) (node kind.Empty Nil Nil)))) (word kind.For "to" (name "x" (node kind.Ref (name "red" Nil) (node kind.Ref (name "blue" Nil) (node kind.Empty Nil Nil)))) (word kind.For "to" (name "x" (word kind.Number "0" Nil (word kind.Number "1" Nil (node kind.Empty Nil Nil)))) Nil))) Nil) Nil))))) Nil)))

holds2 : differs tree2 (entry (3 ∷ 5 ∷ 1 ∷ 2 ∷ 3 ∷ []) 11 "types do not agree" ∷ entry (3 ∷ 5 ∷ 1 ∷ 3 ∷ 2 ∷ []) 11 "types do not agree" ∷ entry (3 ∷ 5 ∷ 1 ∷ 3 ∷ 3 ∷ []) 11 "types do not agree" ∷ []) ≡ Equal
unfolding differs
holds2 = refl

-- A forward heading that is a second name has its later declaration all the same.
--   program p; var q: integer; procedure q(a: integer); forward; procedure q; begin a := 1 end; begin q := 1 end.
abbrev tree3 : Plain
tree3 = program (name "p" (node kind.Heads Nil (node kind.Block (node kind.Consts Nil (node kind.Types Nil (node kind.Vars (node kind.Vardef (node kind.Names (name "q" Nil) (node kind.Tname (name "integer" Nil) Nil)) Nil) (node kind.Routines (node kind.Procedure (name "q" (node kind.Params (node kind.Valparam (node kind.Names (name "a" Nil) (name "integer" Nil)) Nil) (word kind.Forward "forward" Nil Nil))) (node kind.Procedure (name "q" (node kind.Params Nil (node kind.Block (node kind.Consts Nil (node kind.Types Nil (node kind.Vars Nil (node kind.Routines Nil (node kind.Compound (node kind.Stmts (node kind.Assign (node kind.Ref (name "a" Nil) (word kind.Number "1" Nil Nil)) Nil) Nil) Nil))))) Nil))) Nil)) (node kind.Compound (node kind.Stmts (node kind.Assign (node kind.Ref (name "q" Nil) (word kind.Number "1" Nil Nil)) Nil) Nil) Nil))))) Nil)))

holds3 : differs tree3 (entry (3 ∷ 4 ∷ 1 ∷ 1 ∷ []) 3 "declared twice: q" ∷ []) ≡ Equal
unfolding differs
holds3 = refl

-- what names mean in it
looked_up3 : first_wrong tree3 (query "q" (3 ∷ 3 ∷ 1 ∷ 1 ∷ 1 ∷ []) (HereAt (3 ∷ 3 ∷ 1 ∷ 1 ∷ 1 ∷ [])) ∷ query "integer" (3 ∷ 3 ∷ 1 ∷ 2 ∷ 1 ∷ []) RequiredAt ∷ query "q" (3 ∷ 4 ∷ 1 ∷ 1 ∷ []) (HereAt (3 ∷ 3 ∷ 1 ∷ 1 ∷ 1 ∷ [])) ∷ query "a" (3 ∷ 4 ∷ 1 ∷ 2 ∷ 1 ∷ 1 ∷ 1 ∷ []) MissingAt ∷ query "integer" (3 ∷ 4 ∷ 1 ∷ 2 ∷ 1 ∷ 2 ∷ []) RequiredAt ∷ query "q" (3 ∷ 4 ∷ 2 ∷ 1 ∷ []) (HereAt (3 ∷ 3 ∷ 1 ∷ 1 ∷ 1 ∷ [])) ∷ query "a" (3 ∷ 4 ∷ 2 ∷ 3 ∷ 5 ∷ 1 ∷ 1 ∷ 1 ∷ 1 ∷ []) (HereAt (3 ∷ 4 ∷ 1 ∷ 2 ∷ 1 ∷ 1 ∷ 1 ∷ [])) ∷ query "q" (3 ∷ 5 ∷ 1 ∷ 1 ∷ 1 ∷ 1 ∷ []) (HereAt (3 ∷ 3 ∷ 1 ∷ 1 ∷ 1 ∷ [])) ∷ query "Q" (3 ∷ 4 ∷ 2 ∷ 3 ∷ 5 ∷ []) (HereAt (3 ∷ 3 ∷ 1 ∷ 1 ∷ 1 ∷ [])) ∷ query "INTEGER" (3 ∷ 4 ∷ 2 ∷ 3 ∷ 5 ∷ []) RequiredAt ∷ query "A" (3 ∷ 4 ∷ 2 ∷ 3 ∷ 5 ∷ []) (HereAt (3 ∷ 4 ∷ 1 ∷ 2 ∷ 1 ∷ 1 ∷ 1 ∷ [])) ∷ query "Integer" (3 ∷ 5 ∷ []) RequiredAt ∷ query "zz" (3 ∷ 5 ∷ []) MissingAt ∷ query "Q" (2 ∷ []) MissingAt ∷ []) ≡ 0
unfolding first_wrong
looked_up3 = refl

-- The later declaration is the first that is of the right kind; one between is a second name.
--   program p; procedure q; forward; function q: integer; begin end; procedure q; begin end; begin q end.
abbrev tree4 : Plain
tree4 = program (name "p" (node kind.Heads Nil (node kind.Block (node kind.Consts Nil (node kind.Types Nil (node kind.Vars Nil (node kind.Routines (node kind.Procedure (name "q" (node kind.Params Nil (word kind.Forward "forward" Nil Nil))) (node kind.Function (name "q" (node kind.Params Nil (name "integer" (node kind.Block (node kind.Consts Nil (node kind.Types Nil (node kind.Vars Nil (node kind.Routines Nil (node kind.Compound (node kind.Stmts (node kind.Empty Nil Nil) Nil) Nil))))) Nil)))) (node kind.Procedure (name "q" (node kind.Params Nil (node kind.Block (node kind.Consts Nil (node kind.Types Nil (node kind.Vars Nil (node kind.Routines Nil (node kind.Compound (node kind.Stmts (node kind.Empty Nil Nil) Nil) Nil))))) Nil))) Nil))) (node kind.Compound (node kind.Stmts (node kind.Proc (name "q" (node kind.Args Nil Nil)) Nil) Nil) Nil))))) Nil)))

holds4 : differs tree4 (entry (3 ∷ 4 ∷ 2 ∷ 1 ∷ []) 3 "declared twice: q" ∷ []) ≡ Equal
unfolding differs
holds4 = refl

-- what names mean in it
looked_up4 : first_wrong tree4 (query "q" (3 ∷ 4 ∷ 1 ∷ 1 ∷ []) (HereAt (3 ∷ 4 ∷ 1 ∷ 1 ∷ [])) ∷ query "q" (3 ∷ 4 ∷ 2 ∷ 1 ∷ []) (HereAt (3 ∷ 4 ∷ 1 ∷ 1 ∷ [])) ∷ query "integer" (3 ∷ 4 ∷ 2 ∷ 3 ∷ []) RequiredAt ∷ query "q" (3 ∷ 4 ∷ 3 ∷ 1 ∷ []) (HereAt (3 ∷ 4 ∷ 1 ∷ 1 ∷ [])) ∷ query "q" (3 ∷ 5 ∷ 1 ∷ 1 ∷ 1 ∷ []) (HereAt (3 ∷ 4 ∷ 1 ∷ 1 ∷ [])) ∷ query "Q" (3 ∷ 4 ∷ 3 ∷ 3 ∷ 5 ∷ []) (HereAt (3 ∷ 4 ∷ 1 ∷ 1 ∷ [])) ∷ query "INTEGER" (3 ∷ 4 ∷ 3 ∷ 3 ∷ 5 ∷ []) RequiredAt ∷ query "Integer" (3 ∷ 5 ∷ []) RequiredAt ∷ query "zz" (3 ∷ 5 ∷ []) MissingAt ∷ query "Q" (2 ∷ []) MissingAt ∷ []) ≡ 0
unfolding first_wrong
looked_up4 = refl

-- A forward heading's parameters are not known outside.
--   program p; procedure q(a: integer); forward; procedure r; begin a := 1 end; procedure q; begin end; begin end.
abbrev tree5 : Plain
tree5 = program (name "p" (node kind.Heads Nil (node kind.Block (node kind.Consts Nil (node kind.Types Nil (node kind.Vars Nil (node kind.Routines (node kind.Procedure (name "q" (node kind.Params (node kind.Valparam (node kind.Names (name "a" Nil) (name "integer" Nil)) Nil) (word kind.Forward "forward" Nil Nil))) (node kind.Procedure (name "r" (node kind.Params Nil (node kind.Block (node kind.Consts Nil (node kind.Types Nil (node kind.Vars Nil (node kind.Routines Nil (node kind.Compound (node kind.Stmts (node kind.Assign (node kind.Ref (name "a" Nil) (word kind.Number "1" Nil Nil)) Nil) Nil) Nil))))) Nil))) (node kind.Procedure (name "q" (node kind.Params Nil (node kind.Block (node kind.Consts Nil (node kind.Types Nil (node kind.Vars Nil (node kind.Routines Nil (node kind.Compound (node kind.Stmts (node kind.Empty Nil Nil) Nil) Nil))))) Nil))) Nil))) (node kind.Compound (node kind.Stmts (node kind.Empty Nil Nil) Nil) Nil))))) Nil)))

holds5 : differs tree5 (entry (3 ∷ 4 ∷ 2 ∷ 3 ∷ 5 ∷ 1 ∷ 1 ∷ 1 ∷ 1 ∷ []) 1 "not declared: a" ∷ []) ≡ Equal
unfolding differs
holds5 = refl

-- The body of the later declaration has the parameters of the forward heading; its own declarations are second names of them.
--   program p; procedure q(a: integer); forward; procedure q; var a: char; b: integer; begin a := 1; b := a end; begin q(1) end.
abbrev tree6 : Plain
tree6 = program (name "p" (node kind.Heads Nil (node kind.Block (node kind.Consts Nil (node kind.Types Nil (node kind.Vars Nil (node kind.Routines (node kind.Procedure (name "q" (node kind.Params (node kind.Valparam (node kind.Names (name "a" Nil) (name "integer" Nil)) Nil) (word kind.Forward "forward" Nil Nil))) (node kind.Procedure (name "q" (node kind.Params Nil (node kind.Block (node kind.Consts Nil (node kind.Types Nil (node kind.Vars (node kind.Vardef (node kind.Names (name "a" Nil) (node kind.Tname (name "char" Nil) Nil)) (node kind.Vardef (node kind.Names (name "b" Nil) (node kind.Tname (name "integer" Nil) Nil)) Nil)) (node kind.Routines Nil (node kind.Compound (node kind.Stmts (node kind.Assign (node kind.Ref (name "a" Nil) (word kind.Number "1" Nil Nil)) (node kind.Assign (node kind.Ref (name "b" Nil) (node kind.Ref (name "a" Nil) Nil)) Nil)) Nil) Nil))))) Nil))) Nil)) (node kind.Compound (node kind.Stmts (node kind.Proc (name "q" (node kind.Args (word kind.Number "1" Nil Nil) Nil)) Nil) Nil) Nil))))) Nil)))

holds6 : differs tree6 (entry (3 ∷ 4 ∷ 2 ∷ 3 ∷ 3 ∷ 1 ∷ 1 ∷ 1 ∷ []) 3 "declared twice: a" ∷ []) ≡ Equal
unfolding differs
holds6 = refl

-- The result type of the forward heading is that of the later declaration.
--   program p; function f(a: integer): char; forward; function f; begin f := a end; begin write(f(1)) end.
abbrev tree7 : Plain
tree7 = program (name "p" (node kind.Heads Nil (node kind.Block (node kind.Consts Nil (node kind.Types Nil (node kind.Vars Nil (node kind.Routines (node kind.Function (name "f" (node kind.Params (node kind.Valparam (node kind.Names (name "a" Nil) (name "integer" Nil)) Nil) (name "char" (word kind.Forward "forward" Nil Nil)))) (node kind.Funbody (name "f" (node kind.Block (node kind.Consts Nil (node kind.Types Nil (node kind.Vars Nil (node kind.Routines Nil (node kind.Compound (node kind.Stmts (node kind.Assign (node kind.Ref (name "f" Nil) (node kind.Ref (name "a" Nil) Nil)) Nil) Nil) Nil))))) Nil)) Nil)) (node kind.Compound (node kind.Stmts (node kind.Proc (name "write" (node kind.Args (node kind.Call (name "f" (node kind.Exprs (word kind.Number "1" Nil Nil) Nil)) Nil) Nil)) Nil) Nil) Nil))))) Nil)))

holds7 : differs tree7 (entry (3 ∷ 4 ∷ 2 ∷ 2 ∷ 5 ∷ 1 ∷ 1 ∷ []) 11 "types do not agree" ∷ []) ≡ Equal
unfolding differs
holds7 = refl

-- A second declaration with a block after the later one is a second name.
--   program p; function f: integer; forward; function f; begin f := 1 end; function f; begin f := 2 end; begin end.
abbrev tree8 : Plain
tree8 = program (name "p" (node kind.Heads Nil (node kind.Block (node kind.Consts Nil (node kind.Types Nil (node kind.Vars Nil (node kind.Routines (node kind.Function (name "f" (node kind.Params Nil (name "integer" (word kind.Forward "forward" Nil Nil)))) (node kind.Funbody (name "f" (node kind.Block (node kind.Consts Nil (node kind.Types Nil (node kind.Vars Nil (node kind.Routines Nil (node kind.Compound (node kind.Stmts (node kind.Assign (node kind.Ref (name "f" Nil) (word kind.Number "1" Nil Nil)) Nil) Nil) Nil))))) Nil)) (node kind.Funbody (name "f" (node kind.Block (node kind.Consts Nil (node kind.Types Nil (node kind.Vars Nil (node kind.Routines Nil (node kind.Compound (node kind.Stmts (node kind.Assign (node kind.Ref (name "f" Nil) (word kind.Number "2" Nil Nil)) Nil) Nil) Nil))))) Nil)) Nil))) (node kind.Compound (node kind.Stmts (node kind.Empty Nil Nil) Nil) Nil))))) Nil)))

holds8 : differs tree8 (entry (3 ∷ 4 ∷ 3 ∷ 1 ∷ []) 3 "declared twice: f" ∷ entry (3 ∷ 4 ∷ 3 ∷ 1 ∷ []) 22 "result type not simple: f" ∷ entry (3 ∷ 4 ∷ 3 ∷ 2 ∷ 5 ∷ 1 ∷ 1 ∷ 1 ∷ 1 ∷ []) 4 "not a variable: f" ∷ []) ≡ Equal
unfolding differs
holds8 = refl

-- what names mean in it
looked_up8 : first_wrong tree8 (query "f" (3 ∷ 4 ∷ 1 ∷ 1 ∷ []) (HereAt (3 ∷ 4 ∷ 1 ∷ 1 ∷ [])) ∷ query "integer" (3 ∷ 4 ∷ 1 ∷ 3 ∷ []) RequiredAt ∷ query "f" (3 ∷ 4 ∷ 2 ∷ 1 ∷ []) (HereAt (3 ∷ 4 ∷ 1 ∷ 1 ∷ [])) ∷ query "f" (3 ∷ 4 ∷ 2 ∷ 2 ∷ 5 ∷ 1 ∷ 1 ∷ 1 ∷ 1 ∷ []) (HereAt (3 ∷ 4 ∷ 1 ∷ 1 ∷ [])) ∷ query "f" (3 ∷ 4 ∷ 3 ∷ 1 ∷ []) (HereAt (3 ∷ 4 ∷ 1 ∷ 1 ∷ [])) ∷ query "f" (3 ∷ 4 ∷ 3 ∷ 2 ∷ 5 ∷ 1 ∷ 1 ∷ 1 ∷ 1 ∷ []) (HereAt (3 ∷ 4 ∷ 1 ∷ 1 ∷ [])) ∷ query "F" (3 ∷ 4 ∷ 3 ∷ 2 ∷ 5 ∷ []) (HereAt (3 ∷ 4 ∷ 1 ∷ 1 ∷ [])) ∷ query "INTEGER" (3 ∷ 4 ∷ 3 ∷ 2 ∷ 5 ∷ []) RequiredAt ∷ query "Integer" (3 ∷ 5 ∷ []) RequiredAt ∷ query "zz" (3 ∷ 5 ∷ []) MissingAt ∷ query "F" (2 ∷ []) MissingAt ∷ []) ≡ 0
unfolding first_wrong
looked_up8 = refl

-- A function without result type and without forward heading: row 22, and its block is looked at.
--   program p; function f; var x: y; begin f := z end; begin f end.
abbrev tree9 : Plain
tree9 = program (name "p" (node kind.Heads Nil (node kind.Block (node kind.Consts Nil (node kind.Types Nil (node kind.Vars Nil (node kind.Routines (node kind.Funbody (name "f" (node kind.Block (node kind.Consts Nil (node kind.Types Nil (node kind.Vars (node kind.Vardef (node kind.Names (name "x" Nil) (node kind.Tname (name "y" Nil) Nil)) Nil) (node kind.Routines Nil (node kind.Compound (node kind.Stmts (node kind.Assign (node kind.Ref (name "f" Nil) (node kind.Ref (name "z" Nil) Nil)) Nil) Nil) Nil))))) Nil)) Nil) (node kind.Compound (node kind.Stmts (node kind.Proc (name "f" (node kind.Args Nil Nil)) Nil) Nil) Nil))))) Nil)))

holds9 : differs tree9 (entry (3 ∷ 4 ∷ 1 ∷ 1 ∷ []) 22 "result type not simple: f" ∷ entry (3 ∷ 4 ∷ 1 ∷ 2 ∷ 3 ∷ 1 ∷ 2 ∷ 1 ∷ []) 1 "not declared: y" ∷ entry (3 ∷ 4 ∷ 1 ∷ 2 ∷ 5 ∷ 1 ∷ 1 ∷ 2 ∷ 1 ∷ []) 1 "not declared: z" ∷ entry (3 ∷ 5 ∷ 1 ∷ 1 ∷ 1 ∷ []) 4 "not a procedure: f" ∷ []) ≡ Equal
unfolding differs
holds9 = refl

-- Names in a heading are looked up in the block outside: a parameter is no type of the next one, a local type is not known there.
--   program p; procedure q(a: char; b: a; c: u); type u = char; begin end; begin end.
abbrev tree10 : Plain
tree10 = program (name "p" (node kind.Heads Nil (node kind.Block (node kind.Consts Nil (node kind.Types Nil (node kind.Vars Nil (node kind.Routines (node kind.Procedure (name "q" (node kind.Params (node kind.Valparam (node kind.Names (name "a" Nil) (name "char" Nil)) (node kind.Valparam (node kind.Names (name "b" Nil) (name "a" Nil)) (node kind.Valparam (node kind.Names (name "c" Nil) (name "u" Nil)) Nil))) (node kind.Block (node kind.Consts Nil (node kind.Types (node kind.Typedef (name "u" (node kind.Tname (name "char" Nil) Nil)) Nil) (node kind.Vars Nil (node kind.Routines Nil (node kind.Compound (node kind.Stmts (node kind.Empty Nil Nil) Nil) Nil))))) Nil))) Nil) (node kind.Compound (node kind.Stmts (node kind.Empty Nil Nil) Nil) Nil))))) Nil)))

holds10 : differs tree10 (entry (3 ∷ 4 ∷ 1 ∷ 2 ∷ 2 ∷ 2 ∷ []) 1 "not declared: a" ∷ entry (3 ∷ 4 ∷ 1 ∷ 2 ∷ 3 ∷ 2 ∷ []) 1 "not declared: u" ∷ []) ≡ Equal
unfolding differs
holds10 = refl

-- what names mean in it
looked_up10 : first_wrong tree10 (query "q" (3 ∷ 4 ∷ 1 ∷ 1 ∷ []) (HereAt (3 ∷ 4 ∷ 1 ∷ 1 ∷ [])) ∷ query "a" (3 ∷ 4 ∷ 1 ∷ 2 ∷ 1 ∷ 1 ∷ 1 ∷ []) MissingAt ∷ query "char" (3 ∷ 4 ∷ 1 ∷ 2 ∷ 1 ∷ 2 ∷ []) RequiredAt ∷ query "b" (3 ∷ 4 ∷ 1 ∷ 2 ∷ 2 ∷ 1 ∷ 1 ∷ []) MissingAt ∷ query "a" (3 ∷ 4 ∷ 1 ∷ 2 ∷ 2 ∷ 2 ∷ []) MissingAt ∷ query "c" (3 ∷ 4 ∷ 1 ∷ 2 ∷ 3 ∷ 1 ∷ 1 ∷ []) MissingAt ∷ query "u" (3 ∷ 4 ∷ 1 ∷ 2 ∷ 3 ∷ 2 ∷ []) MissingAt ∷ query "u" (3 ∷ 4 ∷ 1 ∷ 3 ∷ 2 ∷ 1 ∷ 1 ∷ []) (LaterAt (3 ∷ 4 ∷ 1 ∷ 3 ∷ 2 ∷ 1 ∷ 1 ∷ [])) ∷ query "char" (3 ∷ 4 ∷ 1 ∷ 3 ∷ 2 ∷ 1 ∷ 2 ∷ 1 ∷ []) RequiredAt ∷ query "Q" (3 ∷ 4 ∷ 1 ∷ 3 ∷ 5 ∷ []) (HereAt (3 ∷ 4 ∷ 1 ∷ 1 ∷ [])) ∷ query "A" (3 ∷ 4 ∷ 1 ∷ 3 ∷ 5 ∷ []) (HereAt (3 ∷ 4 ∷ 1 ∷ 2 ∷ 1 ∷ 1 ∷ 1 ∷ [])) ∷ query "CHAR" (3 ∷ 4 ∷ 1 ∷ 3 ∷ 5 ∷ []) RequiredAt ∷ query "B" (3 ∷ 4 ∷ 1 ∷ 3 ∷ 5 ∷ []) (HereAt (3 ∷ 4 ∷ 1 ∷ 2 ∷ 2 ∷ 1 ∷ 1 ∷ [])) ∷ query "Integer" (3 ∷ 5 ∷ []) RequiredAt ∷ query "zz" (3 ∷ 5 ∷ []) MissingAt ∷ query "Q" (2 ∷ []) MissingAt ∷ []) ≡ 0
unfolding first_wrong
looked_up10 = refl

-- In its own heading a routine's name is declared already: it is no type.
--   program p; function f(a: f): integer; begin f := 1 end; begin end.
abbrev tree11 : Plain
tree11 = program (name "p" (node kind.Heads Nil (node kind.Block (node kind.Consts Nil (node kind.Types Nil (node kind.Vars Nil (node kind.Routines (node kind.Function (name "f" (node kind.Params (node kind.Valparam (node kind.Names (name "a" Nil) (name "f" Nil)) Nil) (name "integer" (node kind.Block (node kind.Consts Nil (node kind.Types Nil (node kind.Vars Nil (node kind.Routines Nil (node kind.Compound (node kind.Stmts (node kind.Assign (node kind.Ref (name "f" Nil) (word kind.Number "1" Nil Nil)) Nil) Nil) Nil))))) Nil)))) Nil) (node kind.Compound (node kind.Stmts (node kind.Empty Nil Nil) Nil) Nil))))) Nil)))

holds11 : differs tree11 (entry (3 ∷ 4 ∷ 1 ∷ 2 ∷ 1 ∷ 2 ∷ []) 4 "not a type: f" ∷ []) ≡ Equal
unfolding differs
holds11 = refl

-- Holes of statements, routines and definitions have no entry.
--   program p; const ?constdef type ?typedef var ?vardef ?routine begin ?statement end.
abbrev tree12 : Plain
tree12 = program (name "p" (node kind.Heads Nil (node kind.Block (node kind.Consts (node (kind.Hole sort.ConstDef) Nil Nil) (node kind.Types (node (kind.Hole sort.TypeDef) Nil Nil) (node kind.Vars (node (kind.Hole sort.VarDef) Nil Nil) (node kind.Routines (node (kind.Hole sort.Routine) Nil Nil) (node kind.Compound (node kind.Stmts (node (kind.Hole sort.Statement) Nil Nil) Nil) Nil))))) Nil)))

holds12 : differs tree12 ([]) ≡ Equal
unfolding differs
holds12 = refl

-- what names mean in it
looked_up12 : first_wrong tree12 (query "Integer" (3 ∷ 5 ∷ []) RequiredAt ∷ query "zz" (3 ∷ 5 ∷ []) MissingAt ∷ []) ≡ 0
unfolding first_wrong
looked_up12 = refl
