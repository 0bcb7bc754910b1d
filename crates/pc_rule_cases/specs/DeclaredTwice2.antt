-- Names that are declared twice: programs with the errors that they have.
use Rattle.std.specs.Prelude.{◌≡◌, [], ◌∷◌}
use Rattle.std.proofs.Common.{refl}
use Rattle.pc_syntax.specs.Plain.{Nil, Plain}
use Rattle.pc_syntax.specs.declared.kind.Kind.TheVariants as kind
use Rattle.pc_rule_cases.specs.Trees.{program, node, name, word}
use Rattle.pc_rule_cases.specs.Compare.{Equal, entry, differs}
use Rattle.pc_rule_cases.specs.Lookups.{HereAt, MissingAt, RequiredAt, query, first_wrong}

-- Row 3: twice in one list of names, without regard to case.
--   program p; var a, b, A: integer; begin a := b end.
abbrev tree1 : Plain
tree1 = program (name "p" (node kind.Heads Nil (node kind.Block (node kind.Consts Nil (node kind.Types Nil (node kind.Vars (node kind.Vardef (node kind.Names (name "a" (name "b" (name "A" Nil))) (node kind.Tname (name "integer" Nil) Nil)) Nil) (node kind.Routines Nil (node kind.Compound (node kind.Stmts (node kind.Assign (node kind.Ref (name "a" Nil) (node kind.Ref (name "b" Nil) Nil)) Nil) Nil) Nil))))) Nil)))

holds1 : differs tree1 (entry (3 ∷ 3 ∷ 1 ∷ 1 ∷ 3 ∷ []) 3 "declared twice: A" ∷ []) ≡ Equal
unfolding differs
holds1 = refl

-- what names mean in it
looked_up1 : first_wrong tree1 (query "a" (3 ∷ 3 ∷ 1 ∷ 1 ∷ 1 ∷ []) (HereAt (3 ∷ 3 ∷ 1 ∷ 1 ∷ 1 ∷ [])) ∷ query "b" (3 ∷ 3 ∷ 1 ∷ 1 ∷ 2 ∷ []) (HereAt (3 ∷ 3 ∷ 1 ∷ 1 ∷ 2 ∷ [])) ∷ query "A" (3 ∷ 3 ∷ 1 ∷ 1 ∷ 3 ∷ []) (HereAt (3 ∷ 3 ∷ 1 ∷ 1 ∷ 1 ∷ [])) ∷ query "integer" (3 ∷ 3 ∷ 1 ∷ 2 ∷ 1 ∷ []) RequiredAt ∷ query "a" (3 ∷ 5 ∷ 1 ∷ 1 ∷ 1 ∷ 1 ∷ []) (HereAt (3 ∷ 3 ∷ 1 ∷ 1 ∷ 1 ∷ [])) ∷ query "b" (3 ∷ 5 ∷ 1 ∷ 1 ∷ 2 ∷ 1 ∷ []) (HereAt (3 ∷ 3 ∷ 1 ∷ 1 ∷ 2 ∷ [])) ∷ query "A" (3 ∷ 5 ∷ []) (HereAt (3 ∷ 3 ∷ 1 ∷ 1 ∷ 1 ∷ [])) ∷ query "B" (3 ∷ 5 ∷ []) (HereAt (3 ∷ 3 ∷ 1 ∷ 1 ∷ 2 ∷ [])) ∷ query "INTEGER" (3 ∷ 5 ∷ []) RequiredAt ∷ query "Integer" (3 ∷ 5 ∷ []) RequiredAt ∷ query "zz" (3 ∷ 5 ∷ []) MissingAt ∷ query "A" (2 ∷ []) MissingAt ∷ []) ≡ 0
unfolding first_wrong
looked_up1 = refl

-- Row 3: parameters belong to the block of their routine.
--   program p; procedure q(a: integer); var a: char; begin a := 1 end; begin q(2) end.
abbrev tree2 : Plain
tree2 = program (name "p" (node kind.Heads Nil (node kind.Block (node kind.Consts Nil (node kind.Types Nil (node kind.Vars Nil (node kind.Routines (node kind.Procedure (name "q" (node kind.Params (node kind.Valparam (node kind.Names (name "a" Nil) (name "integer" Nil)) Nil) (node kind.Block (node kind.Consts Nil (node kind.Types Nil (node kind.Vars (node kind.Vardef (node kind.Names (name "a" Nil) (node kind.Tname (name "char" Nil) Nil)) Nil) (node kind.Routines Nil (node kind.Compound (node kind.Stmts (node kind.Assign (node kind.Ref (name "a" Nil) (word kind.Number "1" Nil Nil)) Nil) Nil) Nil))))) Nil))) Nil) (node kind.Compound (node kind.Stmts (node kind.Proc (name "q" (node kind.Args (word kind.Number "2" Nil Nil) Nil)) Nil) Nil) Nil))))) Nil)))

holds2 : differs tree2 (entry (3 ∷ 4 ∷ 1 ∷ 3 ∷ 3 ∷ 1 ∷ 1 ∷ 1 ∷ []) 3 "declared twice: a" ∷ []) ≡ Equal
unfolding differs
holds2 = refl

-- what names mean in it
looked_up2 : first_wrong tree2 (query "q" (3 ∷ 4 ∷ 1 ∷ 1 ∷ []) (HereAt (3 ∷ 4 ∷ 1 ∷ 1 ∷ [])) ∷ query "a" (3 ∷ 4 ∷ 1 ∷ 2 ∷ 1 ∷ 1 ∷ 1 ∷ []) MissingAt ∷ query "integer" (3 ∷ 4 ∷ 1 ∷ 2 ∷ 1 ∷ 2 ∷ []) RequiredAt ∷ query "a" (3 ∷ 4 ∷ 1 ∷ 3 ∷ 3 ∷ 1 ∷ 1 ∷ 1 ∷ []) (HereAt (3 ∷ 4 ∷ 1 ∷ 2 ∷ 1 ∷ 1 ∷ 1 ∷ [])) ∷ query "char" (3 ∷ 4 ∷ 1 ∷ 3 ∷ 3 ∷ 1 ∷ 2 ∷ 1 ∷ []) RequiredAt ∷ query "a" (3 ∷ 4 ∷ 1 ∷ 3 ∷ 5 ∷ 1 ∷ 1 ∷ 1 ∷ 1 ∷ []) (HereAt (3 ∷ 4 ∷ 1 ∷ 2 ∷ 1 ∷ 1 ∷ 1 ∷ [])) ∷ query "q" (3 ∷ 5 ∷ 1 ∷ 1 ∷ 1 ∷ []) (HereAt (3 ∷ 4 ∷ 1 ∷ 1 ∷ [])) ∷ query "Q" (3 ∷ 4 ∷ 1 ∷ 3 ∷ 5 ∷ []) (HereAt (3 ∷ 4 ∷ 1 ∷ 1 ∷ [])) ∷ query "A" (3 ∷ 4 ∷ 1 ∷ 3 ∷ 5 ∷ []) (HereAt (3 ∷ 4 ∷ 1 ∷ 2 ∷ 1 ∷ 1 ∷ 1 ∷ [])) ∷ query "INTEGER" (3 ∷ 4 ∷ 1 ∷ 3 ∷ 5 ∷ []) RequiredAt ∷ query "CHAR" (3 ∷ 4 ∷ 1 ∷ 3 ∷ 5 ∷ []) RequiredAt ∷ query "Integer" (3 ∷ 5 ∷ []) RequiredAt ∷ query "zz" (3 ∷ 5 ∷ []) MissingAt ∷ query "Q" (2 ∷ []) MissingAt ∷ []) ≡ 0
unfolding first_wrong
looked_up2 = refl

-- Row 3, the neighbour: the program's own name and the names in its heads declare nothing.
--   program p(input, output); var p, input: integer; begin p := input end.
abbrev tree3 : Plain
tree3 = program (name "p" (node kind.Heads (name "input" (name "output" Nil)) (node kind.Block (node kind.Consts Nil (node kind.Types Nil (node kind.Vars (node kind.Vardef (node kind.Names (name "p" (name "input" Nil)) (node kind.Tname (name "integer" Nil) Nil)) Nil) (node kind.Routines Nil (node kind.Compound (node kind.Stmts (node kind.Assign (node kind.Ref (name "p" Nil) (node kind.Ref (name "input" Nil) Nil)) Nil) Nil) Nil))))) Nil)))

holds3 : differs tree3 ([]) ≡ Equal
unfolding differs
holds3 = refl

-- Row 3: a second routine of the name is listed with its own errors, though it has no key.
--   program p; procedure q; begin end; procedure q(x: integer); begin x := y end; begin q end.
abbrev tree4 : Plain
tree4 = program (name "p" (node kind.Heads Nil (node kind.Block (node kind.Consts Nil (node kind.Types Nil (node kind.Vars Nil (node kind.Routines (node kind.Procedure (name "q" (node kind.Params Nil (node kind.Block (node kind.Consts Nil (node kind.Types Nil (node kind.Vars Nil (node kind.Routines Nil (node kind.Compound (node kind.Stmts (node kind.Empty Nil Nil) Nil) Nil))))) Nil))) (node kind.Procedure (name "q" (node kind.Params (node kind.Valparam (node kind.Names (name "x" Nil) (name "integer" Nil)) Nil) (node kind.Block (node kind.Consts Nil (node kind.Types Nil (node kind.Vars Nil (node kind.Routines Nil (node kind.Compound (node kind.Stmts (node kind.Assign (node kind.Ref (name "x" Nil) (node kind.Ref (name "y" Nil) Nil)) Nil) Nil) Nil))))) Nil))) Nil)) (node kind.Compound (node kind.Stmts (node kind.Proc (name "q" (node kind.Args Nil Nil)) Nil) Nil) Nil))))) Nil)))

holds4 : differs tree4 (entry (3 ∷ 4 ∷ 2 ∷ 1 ∷ []) 3 "declared twice: q" ∷ entry (3 ∷ 4 ∷ 2 ∷ 3 ∷ 5 ∷ 1 ∷ 1 ∷ 2 ∷ 1 ∷ []) 1 "not declared: y" ∷ []) ≡ Equal
unfolding differs
holds4 = refl

-- Row 3: an enumeration with a second name has no type, so its constants have none and x has none.
--   program p; var x: (a, b, a); begin x := b; x := 1 end.
abbrev tree5 : Plain
tree5 = program (name "p" (node kind.Heads Nil (node kind.Block (node kind.Consts Nil (node kind.Types Nil (node kind.Vars (node kind.Vardef (node kind.Names (name "x" Nil) (node kind.Enum (node kind.Names (name "a" (name "b" (name "a" Nil))) Nil) Nil)) Nil) (node kind.Routines Nil (node kind.Compound (node kind.Stmts (node kind.Assign (node kind.Ref (name "x" Nil) (node kind.Ref (name "b" Nil) Nil)) (node kind.Assign (node kind.Ref (name "x" Nil) (word kind.Number "1" Nil Nil)) Nil)) Nil) Nil))))) Nil)))

holds5 : differs tree5 (entry (3 ∷ 3 ∷ 1 ∷ 2 ∷ 1 ∷ 3 ∷ []) 3 "declared twice: a" ∷ []) ≡ Equal
unfolding differs
holds5 = refl

-- Row 3: a second variable of the name; the first counts.
--   program p; var x: integer; x: char; begin x := 1 end.
abbrev tree6 : Plain
tree6 = program (name "p" (node kind.Heads Nil (node kind.Block (node kind.Consts Nil (node kind.Types Nil (node kind.Vars (node kind.Vardef (node kind.Names (name "x" Nil) (node kind.Tname (name "integer" Nil) Nil)) (node kind.Vardef (node kind.Names (name "x" Nil) (node kind.Tname (name "char" Nil) Nil)) Nil)) (node kind.Routines Nil (node kind.Compound (node kind.Stmts (node kind.Assign (node kind.Ref (name "x" Nil) (word kind.Number "1" Nil Nil)) Nil) Nil) Nil))))) Nil)))

holds6 : differs tree6 (entry (3 ∷ 3 ∷ 2 ∷ 1 ∷ 1 ∷ []) 3 "declared twice: x" ∷ []) ≡ Equal
unfolding differs
holds6 = refl

-- Rows 3 and 22 at one place: a second function without a result type.
--   program p; var f: char; function f; begin end; begin end.
abbrev tree7 : Plain
tree7 = program (name "p" (node kind.Heads Nil (node kind.Block (node kind.Consts Nil (node kind.Types Nil (node kind.Vars (node kind.Vardef (node kind.Names (name "f" Nil) (node kind.Tname (name "char" Nil) Nil)) Nil) (node kind.Routines (node kind.Funbody (name "f" (node kind.Block (node kind.Consts Nil (node kind.Types Nil (node kind.Vars Nil (node kind.Routines Nil (node kind.Compound (node kind.Stmts (node kind.Empty Nil Nil) Nil) Nil))))) Nil)) Nil) (node kind.Compound (node kind.Stmts (node kind.Empty Nil Nil) Nil) Nil))))) Nil)))

holds7 : differs tree7 (entry (3 ∷ 4 ∷ 1 ∷ 1 ∷ []) 3 "declared twice: f" ∷ entry (3 ∷ 4 ∷ 1 ∷ 1 ∷ []) 22 "result type not simple: f" ∷ []) ≡ Equal
unfolding differs
holds7 = refl
