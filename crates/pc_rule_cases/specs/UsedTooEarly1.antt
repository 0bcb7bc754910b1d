-- Names that are used before their declaration: programs with the errors that they have.
use Rattle.std.specs.Prelude.{◌≡◌, [], ◌∷◌}
use Rattle.std.proofs.Common.{refl}
use Rattle.pc_syntax.specs.Plain.{Nil, Plain}
use Rattle.pc_syntax.specs.declared.kind.Kind.TheVariants as kind
use Rattle.pc_rule_cases.specs.Trees.{program, node, name, word}
use Rattle.pc_rule_cases.specs.Compare.{Equal, entry, differs}
use Rattle.pc_rule_cases.specs.Lookups.{HereAt, LaterAt, MissingAt, RequiredAt, query, first_wrong}

-- Row 2: an enumerated constant used before its type; after it no entry.
--   program p; type s = red..blue; c = (red, green, blue); t = red..blue; begin end.
abbrev tree1 : Plain
tree1 = program (name "p" (node kind.Heads Nil (node kind.Block (node kind.Consts Nil (node kind.Types (node kind.Typedef (name "s" (node kind.Subrange (node kind.Cname (name "red" Nil) (node kind.Cname (name "blue" Nil) Nil)) Nil)) (node kind.Typedef (name "c" (node kind.Enum (node kind.Names (name "red" (name "green" (name "blue" Nil))) Nil) Nil)) (node kind.Typedef (name "t" (node kind.Subrange (node kind.Cname (name "red" Nil) (node kind.Cname (name "blue" Nil) Nil)) Nil)) Nil))) (node kind.Vars Nil (node kind.Routines Nil (node kind.Compound (node kind.Stmts (node kind.Empty Nil Nil) Nil) Nil))))) Nil)))

holds1 : differs tree1 (entry (3 ∷ 2 ∷ 1 ∷ 2 ∷ 1 ∷ 1 ∷ []) 2 "used before its declaration: red" ∷ entry (3 ∷ 2 ∷ 1 ∷ 2 ∷ 2 ∷ 1 ∷ []) 2 "used before its declaration: blue" ∷ []) ≡ Equal
unfolding differs
holds1 = refl

-- what names mean in it
looked_up1 : first_wrong tree1 (query "s" (3 ∷ 2 ∷ 1 ∷ 1 ∷ []) (LaterAt (3 ∷ 2 ∷ 1 ∷ 1 ∷ [])) ∷ query "red" (3 ∷ 2 ∷ 1 ∷ 2 ∷ 1 ∷ 1 ∷ []) (LaterAt (3 ∷ 2 ∷ 2 ∷ 2 ∷ 1 ∷ 1 ∷ [])) ∷ query "blue" (3 ∷ 2 ∷ 1 ∷ 2 ∷ 2 ∷ 1 ∷ []) (LaterAt (3 ∷ 2 ∷ 2 ∷ 2 ∷ 1 ∷ 3 ∷ [])) ∷ query "c" (3 ∷ 2 ∷ 2 ∷ 1 ∷ []) (LaterAt (3 ∷ 2 ∷ 2 ∷ 1 ∷ [])) ∷ query "red" (3 ∷ 2 ∷ 2 ∷ 2 ∷ 1 ∷ 1 ∷ []) (HereAt (3 ∷ 2 ∷ 2 ∷ 2 ∷ 1 ∷ 1 ∷ [])) ∷ query "green" (3 ∷ 2 ∷ 2 ∷ 2 ∷ 1 ∷ 2 ∷ []) (HereAt (3 ∷ 2 ∷ 2 ∷ 2 ∷ 1 ∷ 2 ∷ [])) ∷ query "blue" (3 ∷ 2 ∷ 2 ∷ 2 ∷ 1 ∷ 3 ∷ []) (HereAt (3 ∷ 2 ∷ 2 ∷ 2 ∷ 1 ∷ 3 ∷ [])) ∷ query "t" (3 ∷ 2 ∷ 3 ∷ 1 ∷ []) (LaterAt (3 ∷ 2 ∷ 3 ∷ 1 ∷ [])) ∷ query "red" (3 ∷ 2 ∷ 3 ∷ 2 ∷ 1 ∷ 1 ∷ []) (HereAt (3 ∷ 2 ∷ 2 ∷ 2 ∷ 1 ∷ 1 ∷ [])) ∷ query "blue" (3 ∷ 2 ∷ 3 ∷ 2 ∷ 2 ∷ 1 ∷ []) (HereAt (3 ∷ 2 ∷ 2 ∷ 2 ∷ 1 ∷ 3 ∷ [])) ∷ query "S" (3 ∷ 5 ∷ []) (HereAt (3 ∷ 2 ∷ 1 ∷ 1 ∷ [])) ∷ query "RED" (3 ∷ 5 ∷ []) (HereAt (3 ∷ 2 ∷ 2 ∷ 2 ∷ 1 ∷ 1 ∷ [])) ∷ query "BLUE" (3 ∷ 5 ∷ []) (HereAt (3 ∷ 2 ∷ 2 ∷ 2 ∷ 1 ∷ 3 ∷ [])) ∷ query "C" (3 ∷ 5 ∷ []) (HereAt (3 ∷ 2 ∷ 2 ∷ 1 ∷ [])) ∷ query "Integer" (3 ∷ 5 ∷ []) RequiredAt ∷ query "zz" (3 ∷ 5 ∷ []) MissingAt ∷ query "S" (2 ∷ []) MissingAt ∷ []) ≡ 0
unfolding first_wrong
looked_up1 = refl

-- Row 2, the neighbour: a forward heading stands before the use.
--   program p; procedure r; forward; procedure q; begin r end; procedure r; begin q end; begin r end.
abbrev tree2 : Plain
tree2 = program (name "p" (node kind.Heads Nil (node kind.Block (node kind.Consts Nil (node kind.Types Nil (node kind.Vars Nil (node kind.Routines (node kind.Procedure (name "r" (node kind.Params Nil (word kind.Forward "forward" Nil Nil))) (node kind.Procedure (name "q" (node kind.Params Nil (node kind.Block (node kind.Consts Nil (node kind.Types Nil (node kind.Vars Nil (node kind.Routines Nil (node kind.Compound (node kind.Stmts (node kind.Proc (name "r" (node kind.Args Nil Nil)) Nil) Nil) Nil))))) Nil))) (node kind.Procedure (name "r" (node kind.Params Nil (node kind.Block (node kind.Consts Nil (node kind.Types Nil (node kind.Vars Nil (node kind.Routines Nil (node kind.Compound (node kind.Stmts (node kind.Proc (name "q" (node kind.Args Nil Nil)) Nil) Nil) Nil))))) Nil))) Nil))) (node kind.Compound (node kind.Stmts (node kind.Proc (name "r" (node kind.Args Nil Nil)) Nil) Nil) Nil))))) Nil)))

holds2 : differs tree2 ([]) ≡ Equal
unfolding differs
holds2 = refl

-- what names mean in it
looked_up2 : first_wrong tree2 (query "r" (3 ∷ 4 ∷ 1 ∷ 1 ∷ []) (HereAt (3 ∷ 4 ∷ 1 ∷ 1 ∷ [])) ∷ query "q" (3 ∷ 4 ∷ 2 ∷ 1 ∷ []) (HereAt (3 ∷ 4 ∷ 2 ∷ 1 ∷ [])) ∷ query "r" (3 ∷ 4 ∷ 2 ∷ 3 ∷ 5 ∷ 1 ∷ 1 ∷ 1 ∷ []) (HereAt (3 ∷ 4 ∷ 1 ∷ 1 ∷ [])) ∷ query "r" (3 ∷ 4 ∷ 3 ∷ 1 ∷ []) (HereAt (3 ∷ 4 ∷ 1 ∷ 1 ∷ [])) ∷ query "q" (3 ∷ 4 ∷ 3 ∷ 3 ∷ 5 ∷ 1 ∷ 1 ∷ 1 ∷ []) (HereAt (3 ∷ 4 ∷ 2 ∷ 1 ∷ [])) ∷ query "r" (3 ∷ 5 ∷ 1 ∷ 1 ∷ 1 ∷ []) (HereAt (3 ∷ 4 ∷ 1 ∷ 1 ∷ [])) ∷ query "R" (3 ∷ 4 ∷ 3 ∷ 3 ∷ 5 ∷ []) (HereAt (3 ∷ 4 ∷ 1 ∷ 1 ∷ [])) ∷ query "Q" (3 ∷ 4 ∷ 3 ∷ 3 ∷ 5 ∷ []) (HereAt (3 ∷ 4 ∷ 2 ∷ 1 ∷ [])) ∷ query "Integer" (3 ∷ 5 ∷ []) RequiredAt ∷ query "zz" (3 ∷ 5 ∷ []) MissingAt ∷ query "R" (2 ∷ []) MissingAt ∷ []) ≡ 0
unfolding first_wrong
looked_up2 = refl

-- Row 2: the name has no type then, so nothing else is said of it.
--   program p; procedure q; begin if f then f := 3 end; function f: integer; begin f := 1 end; begin q end.
abbrev tree3 : Plain
tree3 = program (name "p" (node kind.Heads Nil (node kind.Block (node kind.Consts Nil (node kind.Types Nil (node kind.Vars Nil (node kind.Routines (node kind.Procedure (name "q" (node kind.Params Nil (node kind.Block (node kind.Consts Nil (node kind.Types Nil (node kind.Vars Nil (node kind.Routines Nil (node kind.Compound (node kind.Stmts (node kind.If (node kind.Ref (name "f" Nil) (node kind.Assign (node kind.Ref (name "f" Nil) (word kind.Number "3" Nil Nil)) Nil)) Nil) Nil) Nil))))) Nil))) (node kind.Function (name "f" (node kind.Params Nil (name "integer" (node kind.Block (node kind.Consts Nil (node kind.Types Nil (node kind.Vars Nil (node kind.Routines Nil (node kind.Compound (node kind.Stmts (node kind.Assign (node kind.Ref (name "f" Nil) (word kind.Number "1" Nil Nil)) Nil) Nil) Nil))))) Nil)))) Nil)) (node kind.Compound (node kind.Stmts (node kind.Proc (name "q" (node kind.Args Nil Nil)) Nil) Nil) Nil))))) Nil)))

holds3 : differs tree3 (entry (3 ∷ 4 ∷ 1 ∷ 3 ∷ 5 ∷ 1 ∷ 1 ∷ 1 ∷ 1 ∷ []) 2 "used before its declaration: f" ∷ entry (3 ∷ 4 ∷ 1 ∷ 3 ∷ 5 ∷ 1 ∷ 1 ∷ 2 ∷ 1 ∷ 1 ∷ []) 2 "used before its declaration: f" ∷ entry (3 ∷ 4 ∷ 1 ∷ 3 ∷ 5 ∷ 1 ∷ 1 ∷ 2 ∷ 1 ∷ 1 ∷ []) 4 "not a variable: f" ∷ []) ≡ Equal
unfolding differs
holds3 = refl

-- Row 2: the block declares the name later, so the outer one is not meant: "the innermost block whose own declarations have the name decides, wherever in it the declaration stands".
--   program p; const n = 3; procedure q; var a: array [1..n] of char; const_: integer; procedure n; begin end; begin end; begin end.
abbrev tree4 : Plain
tree4 = program (name "p" (node kind.Heads Nil (node kind.Block (node kind.Consts (node kind.Constdef (name "n" (word kind.Cnumber "3" Nil Nil)) Nil) (node kind.Types Nil (node kind.Vars Nil (node kind.Routines (node kind.Procedure (name "q" (node kind.Params Nil (node kind.Block (node kind.Consts Nil (node kind.Types Nil (node kind.Vars (node kind.Vardef (node kind.Names (name "a" Nil) (node kind.Array (node kind.Indexes (node kind.Subrange (word kind.Cnumber "1" Nil (node kind.Cname (name "n" Nil) Nil)) Nil) (node kind.Tname (name "char" Nil) Nil)) Nil)) (node kind.Vardef (node kind.Names (name "const_" Nil) (node kind.Tname (name "integer" Nil) Nil)) Nil)) (node kind.Routines (node kind.Procedure (name "n" (node kind.Params Nil (node kind.Block (node kind.Consts Nil (node kind.Types Nil (node kind.Vars Nil (node kind.Routines Nil (node kind.Compound (node kind.Stmts (node kind.Empty Nil Nil) Nil) Nil))))) Nil))) Nil) (node kind.Compound (node kind.Stmts (node kind.Empty Nil Nil) Nil) Nil))))) Nil))) Nil) (node kind.Compound (node kind.Stmts (node kind.Empty Nil Nil) Nil) Nil))))) Nil)))

holds4 : differs tree4 (entry (3 ∷ 4 ∷ 1 ∷ 3 ∷ 3 ∷ 1 ∷ 2 ∷ 1 ∷ 1 ∷ 2 ∷ 1 ∷ []) 2 "used before its declaration: n" ∷ entry (3 ∷ 4 ∷ 1 ∷ 3 ∷ 3 ∷ 1 ∷ 2 ∷ 1 ∷ 1 ∷ 2 ∷ 1 ∷ []) 4 "not a constant: n" ∷ []) ≡ Equal
unfolding differs
holds4 = refl

-- what names mean in it
looked_up4 : first_wrong tree4 (query "n" (3 ∷ 1 ∷ 1 ∷ 1 ∷ []) (LaterAt (3 ∷ 1 ∷ 1 ∷ 1 ∷ [])) ∷ query "q" (3 ∷ 4 ∷ 1 ∷ 1 ∷ []) (HereAt (3 ∷ 4 ∷ 1 ∷ 1 ∷ [])) ∷ query "a" (3 ∷ 4 ∷ 1 ∷ 3 ∷ 3 ∷ 1 ∷ 1 ∷ 1 ∷ []) (HereAt (3 ∷ 4 ∷ 1 ∷ 3 ∷ 3 ∷ 1 ∷ 1 ∷ 1 ∷ [])) ∷ query "n" (3 ∷ 4 ∷ 1 ∷ 3 ∷ 3 ∷ 1 ∷ 2 ∷ 1 ∷ 1 ∷ 2 ∷ 1 ∷ []) (LaterAt (3 ∷ 4 ∷ 1 ∷ 3 ∷ 4 ∷ 1 ∷ 1 ∷ [])) ∷ query "char" (3 ∷ 4 ∷ 1 ∷ 3 ∷ 3 ∷ 1 ∷ 2 ∷ 2 ∷ 1 ∷ []) RequiredAt ∷ query "const_" (3 ∷ 4 ∷ 1 ∷ 3 ∷ 3 ∷ 2 ∷ 1 ∷ 1 ∷ []) (HereAt (3 ∷ 4 ∷ 1 ∷ 3 ∷ 3 ∷ 2 ∷ 1 ∷ 1 ∷ [])) ∷ query "integer" (3 ∷ 4 ∷ 1 ∷ 3 ∷ 3 ∷ 2 ∷ 2 ∷ 1 ∷ []) RequiredAt ∷ query "n" (3 ∷ 4 ∷ 1 ∷ 3 ∷ 4 ∷ 1 ∷ 1 ∷ []) (HereAt (3 ∷ 4 ∷ 1 ∷ 3 ∷ 4 ∷ 1 ∷ 1 ∷ [])) ∷ query "N" (3 ∷ 4 ∷ 1 ∷ 3 ∷ 4 ∷ 1 ∷ 3 ∷ 5 ∷ []) (HereAt (3 ∷ 4 ∷ 1 ∷ 3 ∷ 4 ∷ 1 ∷ 1 ∷ [])) ∷ query "Q" (3 ∷ 4 ∷ 1 ∷ 3 ∷ 4 ∷ 1 ∷ 3 ∷ 5 ∷ []) (HereAt (3 ∷ 4 ∷ 1 ∷ 1 ∷ [])) ∷ query "A" (3 ∷ 4 ∷ 1 ∷ 3 ∷ 4 ∷ 1 ∷ 3 ∷ 5 ∷ []) (HereAt (3 ∷ 4 ∷ 1 ∷ 3 ∷ 3 ∷ 1 ∷ 1 ∷ 1 ∷ [])) ∷ query "CHAR" (3 ∷ 4 ∷ 1 ∷ 3 ∷ 4 ∷ 1 ∷ 3 ∷ 5 ∷ []) RequiredAt ∷ query "Integer" (3 ∷ 5 ∷ []) RequiredAt ∷ query "zz" (3 ∷ 5 ∷ []) MissingAt ∷ query "N" (2 ∷ []) MissingAt ∷ []) ≡ 0
unfolding first_wrong
looked_up4 = refl

-- Row 2, the neighbour: the inner block does not have the name, the outer one counts.
--   program p; const n = 3; procedure q; var a: array [1..n] of char; begin a[n] := chr(n) end; begin q end.
abbrev tree5 : Plain
tree5 = program (name "p" (node kind.Heads Nil (node kind.Block (node kind.Consts (node kind.Constdef (name "n" (word kind.Cnumber "3" Nil Nil)) Nil) (node kind.Types Nil (node kind.Vars Nil (node kind.Routines (node kind.Procedure (name "q" (node kind.Params Nil (node kind.Block (node kind.Consts Nil (node kind.Types Nil (node kind.Vars (node kind.Vardef (node kind.Names (name "a" Nil) (node kind.Array (node kind.Indexes (node kind.Subrange (word kind.Cnumber "1" Nil (node kind.Cname (name "n" Nil) Nil)) Nil) (node kind.Tname (name "char" Nil) Nil)) Nil)) Nil) (node kind.Routines Nil (node kind.Compound (node kind.Stmts (node kind.Assign (node kind.Index (node kind.Ref (name "a" Nil) (node kind.Exprs (node kind.Ref (name "n" Nil) Nil) Nil)) (node kind.Call (name "chr" (node kind.Exprs (node kind.Ref (name "n" Nil) Nil) Nil)) Nil)) Nil) Nil) Nil))))) Nil))) Nil) (node kind.Compound (node kind.Stmts (node kind.Proc (name "q" (node kind.Args Nil Nil)) Nil) Nil) Nil))))) Nil)))

holds5 : differs tree5 ([]) ≡ Equal
unfolding differs
holds5 = refl

-- Row 2: a constant and a type used in their own definitions.
--   program p; const c = c; type t = array [1..2] of t; begin end.
abbrev tree6 : Plain
tree6 = program (name "p" (node kind.Heads Nil (node kind.Block (node kind.Consts (node kind.Constdef (name "c" (node kind.Cname (name "c" Nil) Nil)) Nil) (node kind.Types (node kind.Typedef (name "t" (node kind.Array (node kind.Indexes (node kind.Subrange (word kind.Cnumber "1" Nil (word kind.Cnumber "2" Nil Nil)) Nil) (node kind.Tname (name "t" Nil) Nil)) Nil)) Nil) (node kind.Vars Nil (node kind.Routines Nil (node kind.Compound (node kind.Stmts (node kind.Empty Nil Nil) Nil) Nil))))) Nil)))

holds6 : differs tree6 (entry (3 ∷ 1 ∷ 1 ∷ 2 ∷ 1 ∷ []) 2 "used before its declaration: c" ∷ entry (3 ∷ 2 ∷ 1 ∷ 2 ∷ 2 ∷ 1 ∷ []) 2 "used before its declaration: t" ∷ []) ≡ Equal
unfolding differs
holds6 = refl

-- what names mean in it
looked_up6 : first_wrong tree6 (query "c" (3 ∷ 1 ∷ 1 ∷ 1 ∷ []) (LaterAt (3 ∷ 1 ∷ 1 ∷ 1 ∷ [])) ∷ query "c" (3 ∷ 1 ∷ 1 ∷ 2 ∷ 1 ∷ []) (LaterAt (3 ∷ 1 ∷ 1 ∷ 1 ∷ [])) ∷ query "t" (3 ∷ 2 ∷ 1 ∷ 1 ∷ []) (LaterAt (3 ∷ 2 ∷ 1 ∷ 1 ∷ [])) ∷ query "t" (3 ∷ 2 ∷ 1 ∷ 2 ∷ 2 ∷ 1 ∷ []) (LaterAt (3 ∷ 2 ∷ 1 ∷ 1 ∷ [])) ∷ query "C" (3 ∷ 5 ∷ []) (HereAt (3 ∷ 1 ∷ 1 ∷ 1 ∷ [])) ∷ query "T" (3 ∷ 5 ∷ []) (HereAt (3 ∷ 2 ∷ 1 ∷ 1 ∷ [])) ∷ query "Integer" (3 ∷ 5 ∷ []) RequiredAt ∷ query "zz" (3 ∷ 5 ∷ []) MissingAt ∷ query "C" (2 ∷ []) MissingAt ∷ []) ≡ 0
unfolding first_wrong
looked_up6 = refl

-- Row 2: a pointer's domain may stand later in the same type part; no entry.
--   program p; type l = ^n; n = record v: integer; next: l end; var q: l; begin new(q); q^.next := nil end.
abbrev tree7 : Plain
tree7 = program (name "p" (node kind.Heads Nil (node kind.Block (node kind.Consts Nil (node kind.Types (node kind.Typedef (name "l" (node kind.Pointer (name "n" Nil) Nil)) (node kind.Typedef (name "n" (node kind.Record (node kind.Fields (node kind.Field (node kind.Names (name "v" Nil) (node kind.Tname (name "integer" Nil) Nil)) (node kind.Field (node kind.Names (name "next" Nil) (node kind.Tname (name "l" Nil) Nil)) Nil)) Nil) Nil)) Nil)) (node kind.Vars (node kind.Vardef (node kind.Names (name "q" Nil) (node kind.Tname (name "l" Nil) Nil)) Nil) (node kind.Routines Nil (node kind.Compound (node kind.Stmts (node kind.Proc (name "new" (node kind.Args (node kind.Ref (name "q" Nil) Nil) Nil)) (node kind.Assign (node kind.Select (node kind.Deref (node kind.Ref (name "q" Nil) Nil) (name "next" Nil)) (node kind.Nil Nil Nil)) Nil)) Nil) Nil))))) Nil)))

holds7 : differs tree7 ([]) ≡ Equal
unfolding differs
holds7 = refl

-- Row 2: a domain that is an enumerated constant of the same type part, later.
--   program p; type l = ^red; c = (red, green); begin end.
abbrev tree8 : Plain
tree8 = program (name "p" (node kind.Heads Nil (node kind.Block (node kind.Consts Nil (node kind.Types (node kind.Typedef (name "l" (node kind.Pointer (name "red" Nil) Nil)) (node kind.Typedef (name "c" (node kind.Enum (node kind.Names (name "red" (name "green" Nil)) Nil) Nil)) Nil)) (node kind.Vars Nil (node kind.Routines Nil (node kind.Compound (node kind.Stmts (node kind.Empty Nil Nil) Nil) Nil))))) Nil)))

holds8 : differs tree8 (entry (3 ∷ 2 ∷ 1 ∷ 2 ∷ 1 ∷ []) 2 "used before its declaration: red" ∷ entry (3 ∷ 2 ∷ 1 ∷ 2 ∷ 1 ∷ []) 4 "not a type: red" ∷ []) ≡ Equal
unfolding differs
holds8 = refl

-- Row 2: a pointer type may have itself as its domain.
--   program p; type t = ^t; var q: t; begin new(q); q^ := q end.
abbrev tree9 : Plain
tree9 = program (name "p" (node kind.Heads Nil (node kind.Block (node kind.Consts Nil (node kind.Types (node kind.Typedef (name "t" (node kind.Pointer (name "t" Nil) Nil)) Nil) (node kind.Vars (node kind.Vardef (node kind.Names (name "q" Nil) (node kind.Tname (name "t" Nil) Nil)) Nil) (node kind.Routines Nil (node kind.Compound (node kind.Stmts (node kind.Proc (name "new" (node kind.Args (node kind.Ref (name "q" Nil) Nil) Nil)) (node kind.Assign (node kind.Deref (node kind.Ref (name "q" Nil) Nil) (node kind.Ref (name "q" Nil) Nil)) Nil)) Nil) Nil))))) Nil)))

holds9 : differs tree9 ([]) ≡ Equal
unfolding differs
holds9 = refl

-- what names mean in it
looked_up9 : first_wrong tree9 (query "t" (3 ∷ 2 ∷ 1 ∷ 1 ∷ []) (LaterAt (3 ∷ 2 ∷ 1 ∷ 1 ∷ [])) ∷ query "t" (3 ∷ 2 ∷ 1 ∷ 2 ∷ 1 ∷ []) (LaterAt (3 ∷ 2 ∷ 1 ∷ 1 ∷ [])) ∷ query "q" (3 ∷ 3 ∷ 1 ∷ 1 ∷ 1 ∷ []) (HereAt (3 ∷ 3 ∷ 1 ∷ 1 ∷ 1 ∷ [])) ∷ query "t" (3 ∷ 3 ∷ 1 ∷ 2 ∷ 1 ∷ []) (HereAt (3 ∷ 2 ∷ 1 ∷ 1 ∷ [])) ∷ query "new" (3 ∷ 5 ∷ 1 ∷ 1 ∷ 1 ∷ []) RequiredAt ∷ query "q" (3 ∷ 5 ∷ 1 ∷ 1 ∷ 2 ∷ 1 ∷ 1 ∷ []) (HereAt (3 ∷ 3 ∷ 1 ∷ 1 ∷ 1 ∷ [])) ∷ query "q" (3 ∷ 5 ∷ 1 ∷ 2 ∷ 1 ∷ 1 ∷ 1 ∷ []) (HereAt (3 ∷ 3 ∷ 1 ∷ 1 ∷ 1 ∷ [])) ∷ query "q" (3 ∷ 5 ∷ 1 ∷ 2 ∷ 2 ∷ 1 ∷ []) (HereAt (3 ∷ 3 ∷ 1 ∷ 1 ∷ 1 ∷ [])) ∷ query "T" (3 ∷ 5 ∷ []) (HereAt (3 ∷ 2 ∷ 1 ∷ 1 ∷ [])) ∷ query "Q" (3 ∷ 5 ∷ []) (HereAt (3 ∷ 3 ∷ 1 ∷ 1 ∷ 1 ∷ [])) ∷ query "NEW" (3 ∷ 5 ∷ []) RequiredAt ∷ query "Integer" (3 ∷ 5 ∷ []) RequiredAt ∷ query "zz" (3 ∷ 5 ∷ []) MissingAt ∷ query "T" (2 ∷ []) MissingAt ∷ []) ≡ 0
unfolding first_wrong
looked_up9 = refl

-- Row 2: a domain that is declared in a later part as no type has rows 2 and 4.
--   program p; type l = ^v; var v: integer; begin end.
abbrev tree10 : Plain
tree10 = program (name "p" (node kind.Heads Nil (node kind.Block (node kind.Consts Nil (node kind.Types (node kind.Typedef (name "l" (node kind.Pointer (name "v" Nil) Nil)) Nil) (node kind.Vars (node kind.Vardef (node kind.Names (name "v" Nil) (node kind.Tname (name "integer" Nil) Nil)) Nil) (node kind.Routines Nil (node kind.Compound (node kind.Stmts (node kind.Empty Nil Nil) Nil) Nil))))) Nil)))

holds10 : differs tree10 (entry (3 ∷ 2 ∷ 1 ∷ 2 ∷ 1 ∷ []) 2 "used before its declaration: v" ∷ entry (3 ∷ 2 ∷ 1 ∷ 2 ∷ 1 ∷ []) 4 "not a type: v" ∷ []) ≡ Equal
unfolding differs
holds10 = refl

-- Row 2: a required name is never Later. In the first definition integer means the required type only where the block does not declare the name.
--   program p; type t = integer; integer = char; var x: t; begin x := 1 end.
abbrev tree11 : Plain
tree11 = program (name "p" (node kind.Heads Nil (node kind.Block (node kind.Consts Nil (node kind.Types (node kind.Typedef (name "t" (node kind.Tname (name "integer" Nil) Nil)) (node kind.Typedef (name "integer" (node kind.Tname (name "char" Nil) Nil)) Nil)) (node kind.Vars (node kind.Vardef (node kind.Names (name "x" Nil) (node kind.Tname (name "t" Nil) Nil)) Nil) (node kind.Routines Nil (node kind.Compound (node kind.Stmts (node kind.Assign (node kind.Ref (name "x" Nil) (word kind.Number "1" Nil Nil)) Nil) Nil) Nil))))) Nil)))

holds11 : differs tree11 (entry (3 ∷ 2 ∷ 1 ∷ 2 ∷ 1 ∷ []) 2 "used before its declaration: integer" ∷ []) ≡ Equal
unfolding differs
holds11 = refl

-- Row 2: a procedure called before its declaration; two procedures in a row.
--   program p; procedure q; begin r end; procedure r; begin q end; begin r end.
abbrev tree12 : Plain
tree12 = program (name "p" (node kind.Heads Nil (node kind.Block (node kind.Consts Nil (node kind.Types Nil (node kind.Vars Nil (node kind.Routines (node kind.Procedure (name "q" (node kind.Params Nil (node kind.Block (node kind.Consts Nil (node kind.Types Nil (node kind.Vars Nil (node kind.Routines Nil (node kind.Compound (node kind.Stmts (node kind.Proc (name "r" (node kind.Args Nil Nil)) Nil) Nil) Nil))))) Nil))) (node kind.Procedure (name "r" (node kind.Params Nil (node kind.Block (node kind.Consts Nil (node kind.Types Nil (node kind.Vars Nil (node kind.Routines Nil (node kind.Compound (node kind.Stmts (node kind.Proc (name "q" (node kind.Args Nil Nil)) Nil) Nil) Nil))))) Nil))) Nil)) (node kind.Compound (node kind.Stmts (node kind.Proc (name "r" (node kind.Args Nil Nil)) Nil) Nil) Nil))))) Nil)))

holds12 : differs tree12 (entry (3 ∷ 4 ∷ 1 ∷ 3 ∷ 5 ∷ 1 ∷ 1 ∷ 1 ∷ []) 2 "used before its declaration: r" ∷ []) ≡ Equal
unfolding differs
holds12 = refl
