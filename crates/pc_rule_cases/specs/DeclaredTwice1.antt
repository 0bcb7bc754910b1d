-- Names that are declared twice: programs with the errors that they have.
use Rattle.std.specs.Prelude.{◌≡◌, [], ◌∷◌}
use Rattle.std.proofs.Common.{refl}
use Rattle.pc_syntax.specs.Plain.{Nil, Plain}
use Rattle.pc_syntax.specs.declared.kind.Kind.TheVariants as kind
use Rattle.pc_syntax.specs.declared.sort.Sort.TheVariants as sort
use Rattle.pc_rule_cases.specs.Trees.{program, node, name, word}
use Rattle.pc_rule_cases.specs.Compare.{Equal, entry, differs}
use Rattle.pc_rule_cases.specs.Lookups.{HereAt, LaterAt, MissingAt, RequiredAt, query, first_wrong}

-- Row 3: names of all classes of a block are one set.
--   program p; const a = 1; type a = char; var a: a; function a: char; begin end; begin end.
abbrev tree1 : Plain
tree1 = program (name "p" (node kind.Heads Nil (node kind.Block (node kind.Consts (node kind.Constdef (name "a" (word kind.Cnumber "1" Nil Nil)) Nil) (node kind.Types (node kind.Typedef (name "a" (node kind.Tname (name "char" Nil) Nil)) Nil) (node kind.Vars (node kind.Vardef (node kind.Names (name "a" Nil) (node kind.Tname (name "a" Nil) Nil)) Nil) (node kind.Routines (node kind.Function (name "a" (node kind.Params Nil (name "char" (node kind.Block (node kind.Consts Nil (node kind.Types Nil (node kind.Vars Nil (node kind.Routines Nil (node kind.Compound (node kind.Stmts (node kind.Empty Nil Nil) Nil) Nil))))) Nil)))) Nil) (node kind.Compound (node kind.Stmts (node kind.Empty Nil Nil) Nil) Nil))))) Nil)))

holds1 : differs tree1 (entry (3 ∷ 2 ∷ 1 ∷ 1 ∷ []) 3 "declared twice: a" ∷ entry (3 ∷ 3 ∷ 1 ∷ 1 ∷ 1 ∷ []) 3 "declared twice: a" ∷ entry (3 ∷ 3 ∷ 1 ∷ 2 ∷ 1 ∷ []) 4 "not a type: a" ∷ entry (3 ∷ 4 ∷ 1 ∷ 1 ∷ []) 3 "declared twice: a" ∷ []) ≡ Equal
unfolding differs
holds1 = refl

-- what names mean in it
looked_up1 : first_wrong tree1 (query "a" (3 ∷ 1 ∷ 1 ∷ 1 ∷ []) (LaterAt (3 ∷ 1 ∷ 1 ∷ 1 ∷ [])) ∷ query "a" (3 ∷ 2 ∷ 1 ∷ 1 ∷ []) (HereAt (3 ∷ 1 ∷ 1 ∷ 1 ∷ [])) ∷ query "char" (3 ∷ 2 ∷ 1 ∷ 2 ∷ 1 ∷ []) RequiredAt ∷ query "a" (3 ∷ 3 ∷ 1 ∷ 1 ∷ 1 ∷ []) (HereAt (3 ∷ 1 ∷ 1 ∷ 1 ∷ [])) ∷ query "a" (3 ∷ 3 ∷ 1 ∷ 2 ∷ 1 ∷ []) (HereAt (3 ∷ 1 ∷ 1 ∷ 1 ∷ [])) ∷ query "a" (3 ∷ 4 ∷ 1 ∷ 1 ∷ []) (HereAt (3 ∷ 1 ∷ 1 ∷ 1 ∷ [])) ∷ query "char" (3 ∷ 4 ∷ 1 ∷ 3 ∷ []) RequiredAt ∷ query "A" (3 ∷ 4 ∷ 1 ∷ 4 ∷ 5 ∷ []) (HereAt (3 ∷ 1 ∷ 1 ∷ 1 ∷ [])) ∷ query "CHAR" (3 ∷ 4 ∷ 1 ∷ 4 ∷ 5 ∷ []) RequiredAt ∷ query "Integer" (3 ∷ 5 ∷ []) RequiredAt ∷ query "zz" (3 ∷ 5 ∷ []) MissingAt ∷ query "A" (2 ∷ []) MissingAt ∷ []) ≡ 0
unfolding first_wrong
looked_up1 = refl

-- Row 3: enumerated constants belong to the block, also those in a record.
--   program p; type c = (red, green); d = (blue, red); r = record f: (green, x); x: integer end; begin end.
abbrev tree2 : Plain
tree2 = program (name "p" (node kind.Heads Nil (node kind.Block (node kind.Consts Nil (node kind.Types (node kind.Typedef (name "c" (node kind.Enum (node kind.Names (name "red" (name "green" Nil)) Nil) Nil)) (node kind.Typedef (name "d" (node kind.Enum (node kind.Names (name "blue" (name "red" Nil)) Nil) Nil)) (node kind.Typedef (name "r" (node kind.Record (node kind.Fields (node kind.Field (node kind.Names (name "f" Nil) (node kind.Enum (node kind.Names (name "green" (name "x" Nil)) Nil) Nil)) (node kind.Field (node kind.Names (name "x" Nil) (node kind.Tname (name "integer" Nil) Nil)) Nil)) Nil) Nil)) Nil))) (node kind.Vars Nil (node kind.Routines Nil (node kind.Compound (node kind.Stmts (node kind.Empty Nil Nil) Nil) Nil))))) Nil)))

holds2 : differs tree2 (entry (3 ∷ 2 ∷ 2 ∷ 2 ∷ 1 ∷ 2 ∷ []) 3 "declared twice: red" ∷ entry (3 ∷ 2 ∷ 3 ∷ 2 ∷ 1 ∷ 1 ∷ 2 ∷ 1 ∷ 1 ∷ []) 3 "declared twice: green" ∷ []) ≡ Equal
unfolding differs
holds2 = refl

-- Row 3, the neighbour: a record inside has its own fields.
--   program p; var r: record a: record a: integer end end; begin r.a.a := 1 end.
abbrev tree3 : Plain
tree3 = program (name "p" (node kind.Heads Nil (node kind.Block (node kind.Consts Nil (node kind.Types Nil (node kind.Vars (node kind.Vardef (node kind.Names (name "r" Nil) (node kind.Record (node kind.Fields (node kind.Field (node kind.Names (name "a" Nil) (node kind.Record (node kind.Fields (node kind.Field (node kind.Names (name "a" Nil) (node kind.Tname (name "integer" Nil) Nil)) Nil) Nil) Nil)) Nil) Nil) Nil)) Nil) (node kind.Routines Nil (node kind.Compound (node kind.Stmts (node kind.Assign (node kind.Select (node kind.Select (node kind.Ref (name "r" Nil) (name "a" Nil)) (name "a" Nil)) (word kind.Number "1" Nil Nil)) Nil) Nil) Nil))))) Nil)))

holds3 : differs tree3 ([]) ≡ Equal
unfolding differs
holds3 = refl

-- Row 3: equal fields of one record; a field may equal any other name.
--   program p; type r = record a, b: integer; A: char end; a = record a: r end; begin end.
abbrev tree4 : Plain
tree4 = program (name "p" (node kind.Heads Nil (node kind.Block (node kind.Consts Nil (node kind.Types (node kind.Typedef (name "r" (node kind.Record (node kind.Fields (node kind.Field (node kind.Names (name "a" (name "b" Nil)) (node kind.Tname (name "integer" Nil) Nil)) (node kind.Field (node kind.Names (name "A" Nil) (node kind.Tname (name "char" Nil) Nil)) Nil)) Nil) Nil)) (node kind.Typedef (name "a" (node kind.Record (node kind.Fields (node kind.Field (node kind.Names (name "a" Nil) (node kind.Tname (name "r" Nil) Nil)) Nil) Nil) Nil)) Nil)) (node kind.Vars Nil (node kind.Routines Nil (node kind.Compound (node kind.Stmts (node kind.Empty Nil Nil) Nil) Nil))))) Nil)))

holds4 : differs tree4 (entry (3 ∷ 2 ∷ 1 ∷ 2 ∷ 1 ∷ 2 ∷ 1 ∷ 1 ∷ []) 3 "declared twice: A" ∷ []) ≡ Equal
unfolding differs
holds4 = refl

-- Row 3: the later declaration of a forward routine is no second name; a third one is.
--   program p; procedure q; forward; procedure q; begin end; procedure q; begin end; begin q end.
abbrev tree5 : Plain
tree5 = program (name "p" (node kind.Heads Nil (node kind.Block (node kind.Consts Nil (node kind.Types Nil (node kind.Vars Nil (node kind.Routines (node kind.Procedure (name "q" (node kind.Params Nil (word kind.Forward "forward" Nil Nil))) (node kind.Procedure (name "q" (node kind.Params Nil (node kind.Block (node kind.Consts Nil (node kind.Types Nil (node kind.Vars Nil (node kind.Routines Nil (node kind.Compound (node kind.Stmts (node kind.Empty Nil Nil) Nil) Nil))))) Nil))) (node kind.Procedure (name "q" (node kind.Params Nil (node kind.Block (node kind.Consts Nil (node kind.Types Nil (node kind.Vars Nil (node kind.Routines Nil (node kind.Compound (node kind.Stmts (node kind.Empty Nil Nil) Nil) Nil))))) Nil))) Nil))) (node kind.Compound (node kind.Stmts (node kind.Proc (name "q" (node kind.Args Nil Nil)) Nil) Nil) Nil))))) Nil)))

holds5 : differs tree5 (entry (3 ∷ 4 ∷ 3 ∷ 1 ∷ []) 3 "declared twice: q" ∷ []) ≡ Equal
unfolding differs
holds5 = refl

-- what names mean in it
looked_up5 : first_wrong tree5 (query "q" (3 ∷ 4 ∷ 1 ∷ 1 ∷ []) (HereAt (3 ∷ 4 ∷ 1 ∷ 1 ∷ [])) ∷ query "q" (3 ∷ 4 ∷ 2 ∷ 1 ∷ []) (HereAt (3 ∷ 4 ∷ 1 ∷ 1 ∷ [])) ∷ query "q" (3 ∷ 4 ∷ 3 ∷ 1 ∷ []) (HereAt (3 ∷ 4 ∷ 1 ∷ 1 ∷ [])) ∷ query "q" (3 ∷ 5 ∷ 1 ∷ 1 ∷ 1 ∷ []) (HereAt (3 ∷ 4 ∷ 1 ∷ 1 ∷ [])) ∷ query "Q" (3 ∷ 4 ∷ 3 ∷ 3 ∷ 5 ∷ []) (HereAt (3 ∷ 4 ∷ 1 ∷ 1 ∷ [])) ∷ query "Integer" (3 ∷ 5 ∷ []) RequiredAt ∷ query "zz" (3 ∷ 5 ∷ []) MissingAt ∷ query "Q" (2 ∷ []) MissingAt ∷ []) ≡ 0
unfolding first_wrong
looked_up5 = refl

-- Row 3: a hole among the names declares nothing.
--   program p; var ?name, ?name, x: integer; begin x := 1 end.
abbrev tree6 : Plain
tree6 = program (name "p" (node kind.Heads Nil (node kind.Block (node kind.Consts Nil (node kind.Types Nil (node kind.Vars (node kind.Vardef (node kind.Names (node (kind.Hole sort.Name) Nil (node (kind.Hole sort.Name) Nil (name "x" Nil))) (node kind.Tname (name "integer" Nil) Nil)) Nil) (node kind.Routines Nil (node kind.Compound (node kind.Stmts (node kind.Assign (node kind.Ref (name "x" Nil) (word kind.Number "1" Nil Nil)) Nil) Nil) Nil))))) Nil)))

holds6 : differs tree6 ([]) ≡ Equal
unfolding differs
holds6 = refl

-- what names mean in it
looked_up6 : first_wrong tree6 (query "x" (3 ∷ 3 ∷ 1 ∷ 1 ∷ 3 ∷ []) (HereAt (3 ∷ 3 ∷ 1 ∷ 1 ∷ 3 ∷ [])) ∷ query "integer" (3 ∷ 3 ∷ 1 ∷ 2 ∷ 1 ∷ []) RequiredAt ∷ query "x" (3 ∷ 5 ∷ 1 ∷ 1 ∷ 1 ∷ 1 ∷ []) (HereAt (3 ∷ 3 ∷ 1 ∷ 1 ∷ 3 ∷ [])) ∷ query "X" (3 ∷ 5 ∷ []) (HereAt (3 ∷ 3 ∷ 1 ∷ 1 ∷ 3 ∷ [])) ∷ query "INTEGER" (3 ∷ 5 ∷ []) RequiredAt ∷ query "Integer" (3 ∷ 5 ∷ []) RequiredAt ∷ query "zz" (3 ∷ 5 ∷ []) MissingAt ∷ query "X" (2 ∷ []) MissingAt ∷ []) ≡ 0
unfolding first_wrong
looked_up6 = refl

-- Row 3, the neighbour: an inner block may declare the name anew, also that of its own routine.
--   program p; var x: integer; procedure q; var x, q: char; begin x := q end; begin x := 1 end.
abbrev tree7 : Plain
tree7 = program (name "p" (node kind.Heads Nil (node kind.Block (node kind.Consts Nil (node kind.Types Nil (node kind.Vars (node kind.Vardef (node kind.Names (name "x" Nil) (node kind.Tname (name "integer" Nil) Nil)) Nil) (node kind.Routines (node kind.Procedure (name "q" (node kind.Params Nil (node kind.Block (node kind.Consts Nil (node kind.Types Nil (node kind.Vars (node kind.Vardef (node kind.Names (name "x" (name "q" Nil)) (node kind.Tname (name "char" Nil) Nil)) Nil) (node kind.Routines Nil (node kind.Compound (node kind.Stmts (node kind.Assign (node kind.Ref (name "x" Nil) (node kind.Ref (name "q" Nil) Nil)) Nil) Nil) Nil))))) Nil))) Nil) (node kind.Compound (node kind.Stmts (node kind.Assign (node kind.Ref (name "x" Nil) (word kind.Number "1" Nil Nil)) Nil) Nil) Nil))))) Nil)))

holds7 : differs tree7 ([]) ≡ Equal
unfolding differs
holds7 = refl
