-- Several rules in one program: programs with the errors that they have.
use Rattle.std.specs.Prelude.{◌≡◌, [], ◌∷◌}
use Rattle.std.proofs.Common.{refl}
use Rattle.pc_syntax.specs.Plain.{Nil, Plain}
use Rattle.pc_syntax.specs.declared.kind.Kind.TheVariants as kind
use Rattle.pc_rule_cases.specs.Trees.{program, node, name, word}
use Rattle.pc_rule_cases.specs.Compare.{Equal, entry, differs}
use Rattle.pc_rule_cases.specs.Lookups.{HereAt, LaterAt, MissingAt, RequiredAt, query, first_wrong}

-- The doubled apostrophe is one character: '''' is a char and '''x' a string of two.
--   program p; var c: char; s: packed array [1..2] of char; begin c := ''''; s := '''x'; s := '''' end.
abbrev tree1 : Plain
tree1 = program (name "p" (node kind.Heads Nil (node kind.Block (node kind.Consts Nil (node kind.Types Nil (node kind.Vars (node kind.Vardef (node kind.Names (name "c" Nil) (node kind.Tname (name "char" Nil) Nil)) (node kind.Vardef (node kind.Names (name "s" Nil) (node kind.Packed (node kind.Array (node kind.Indexes (node kind.Subrange (word kind.Cnumber "1" Nil (word kind.Cnumber "2" Nil Nil)) Nil) (node kind.Tname (name "char" Nil) Nil)) Nil) Nil)) Nil)) (node kind.Routines Nil (node kind.Compound (node kind.Stmts (node kind.Assign (node kind.Ref (name "c" Nil) (word kind.Text "''''" Nil Nil)) (node kind.Assign (node kind.Ref (name "s" Nil) (word kind.Text "'''x'" Nil Nil)) (node kind.Assign (node kind.Ref (name "s" Nil) (word kind.Text "''''" Nil Nil)) Nil))) Nil) Nil))))) Nil)))

holds1 : differs tree1 (entry (3 ∷ 5 ∷ 1 ∷ 3 ∷ []) 11 "types do not agree" ∷ []) ≡ Equal
unfolding differs
holds1 = refl

-- An array with a bad index has no type: no index, no assignment has an entry, its index expressions are still looked at.
--   program p; var a: array [1..t] of char; begin a[y] := 1; a := 5; if a then end.
abbrev tree2 : Plain
tree2 = program (name "p" (node kind.Heads Nil (node kind.Block (node kind.Consts Nil (node kind.Types Nil (node kind.Vars (node kind.Vardef (node kind.Names (name "a" Nil) (node kind.Array (node kind.Indexes (node kind.Subrange (word kind.Cnumber "1" Nil (node kind.Cname (name "t" Nil) Nil)) Nil) (node kind.Tname (name "char" Nil) Nil)) Nil)) Nil) (node kind.Routines Nil (node kind.Compound (node kind.Stmts (node kind.Assign (node kind.Index (node kind.Ref (name "a" Nil) (node kind.Exprs (node kind.Ref (name "y" Nil) Nil) Nil)) (word kind.Number "1" Nil Nil)) (node kind.Assign (node kind.Ref (name "a" Nil) (word kind.Number "5" Nil Nil)) (node kind.If (node kind.Ref (name "a" Nil) (node kind.Empty Nil Nil)) Nil))) Nil) Nil))))) Nil)))

holds2 : differs tree2 (entry (3 ∷ 3 ∷ 1 ∷ 2 ∷ 1 ∷ 1 ∷ 2 ∷ 1 ∷ []) 1 "not declared: t" ∷ entry (3 ∷ 5 ∷ 1 ∷ 1 ∷ 1 ∷ 2 ∷ 1 ∷ 1 ∷ []) 1 "not declared: y" ∷ []) ≡ Equal
unfolding differs
holds2 = refl

-- what names mean in it
looked_up2 : first_wrong tree2 (query "a" (3 ∷ 3 ∷ 1 ∷ 1 ∷ 1 ∷ []) (HereAt (3 ∷ 3 ∷ 1 ∷ 1 ∷ 1 ∷ [])) ∷ query "t" (3 ∷ 3 ∷ 1 ∷ 2 ∷ 1 ∷ 1 ∷ 2 ∷ 1 ∷ []) MissingAt ∷ query "char" (3 ∷ 3 ∷ 1 ∷ 2 ∷ 2 ∷ 1 ∷ []) RequiredAt ∷ query "a" (3 ∷ 5 ∷ 1 ∷ 1 ∷ 1 ∷ 1 ∷ 1 ∷ []) (HereAt (3 ∷ 3 ∷ 1 ∷ 1 ∷ 1 ∷ [])) ∷ query "y" (3 ∷ 5 ∷ 1 ∷ 1 ∷ 1 ∷ 2 ∷ 1 ∷ 1 ∷ []) MissingAt ∷ query "a" (3 ∷ 5 ∷ 1 ∷ 2 ∷ 1 ∷ 1 ∷ []) (HereAt (3 ∷ 3 ∷ 1 ∷ 1 ∷ 1 ∷ [])) ∷ query "a" (3 ∷ 5 ∷ 1 ∷ 3 ∷ 1 ∷ 1 ∷ []) (HereAt (3 ∷ 3 ∷ 1 ∷ 1 ∷ 1 ∷ [])) ∷ query "A" (3 ∷ 5 ∷ []) (HereAt (3 ∷ 3 ∷ 1 ∷ 1 ∷ 1 ∷ [])) ∷ query "T" (3 ∷ 5 ∷ []) MissingAt ∷ query "CHAR" (3 ∷ 5 ∷ []) RequiredAt ∷ query "Y" (3 ∷ 5 ∷ []) MissingAt ∷ query "Integer" (3 ∷ 5 ∷ []) RequiredAt ∷ query "zz" (3 ∷ 5 ∷ []) MissingAt ∷ query "A" (2 ∷ []) MissingAt ∷ []) ≡ 0
unfolding first_wrong
looked_up2 = refl

-- true is a constant of the required type though the block defines boolean anew.
--   program p; type boolean = integer; var b: boolean; begin b := 1; b := true; if true then end.
abbrev tree3 : Plain
tree3 = program (name "p" (node kind.Heads Nil (node kind.Block (node kind.Consts Nil (node kind.Types (node kind.Typedef (name "boolean" (node kind.Tname (name "integer" Nil) Nil)) Nil) (node kind.Vars (node kind.Vardef (node kind.Names (name "b" Nil) (node kind.Tname (name "boolean" Nil) Nil)) Nil) (node kind.Routines Nil (node kind.Compound (node kind.Stmts (node kind.Assign (node kind.Ref (name "b" Nil) (word kind.Number "1" Nil Nil)) (node kind.Assign (node kind.Ref (name "b" Nil) (node kind.Ref (name "true" Nil) Nil)) (node kind.If (node kind.Ref (name "true" Nil) (node kind.Empty Nil Nil)) Nil))) Nil) Nil))))) Nil)))

holds3 : differs tree3 (entry (3 ∷ 5 ∷ 1 ∷ 2 ∷ []) 11 "types do not agree" ∷ []) ≡ Equal
unfolding differs
holds3 = refl

-- Labels true and false of a case over a Boolean; an integer beside.
--   program p; var b: boolean; begin case b of true: ; false: ; 1: end end.
abbrev tree4 : Plain
tree4 = program (name "p" (node kind.Heads Nil (node kind.Block (node kind.Consts Nil (node kind.Types Nil (node kind.Vars (node kind.Vardef (node kind.Names (name "b" Nil) (node kind.Tname (name "boolean" Nil) Nil)) Nil) (node kind.Routines Nil (node kind.Compound (node kind.Stmts (node kind.Case (node kind.Ref (name "b" Nil) (node kind.Arms (node kind.Arm (node kind.Labels (node kind.Cname (name "true" Nil) Nil) (node kind.Empty Nil Nil)) (node kind.Arm (node kind.Labels (node kind.Cname (name "false" Nil) Nil) (node kind.Empty Nil Nil)) (node kind.Arm (node kind.Labels (word kind.Cnumber "1" Nil Nil) (node kind.Empty Nil Nil)) Nil))) Nil)) Nil) Nil) Nil))))) Nil)))

holds4 : differs tree4 (entry (3 ∷ 5 ∷ 1 ∷ 1 ∷ 2 ∷ 3 ∷ 1 ∷ 1 ∷ []) 11 "types do not agree" ∷ []) ≡ Equal
unfolding differs
holds4 = refl

-- A text of one character is a char; one of two is a string; a string of one is none.
--   program p; var c: char; s: packed array [1..2] of char; begin c := 'a'; c := 'ab'; s := 'ab'; s := 'a'; c := s[1]; s[1] := c; s := c; if s = 'a' then;
--   if c = 'ab' then end.
abbrev tree5 : Plain
tree5 = program (name "p" (node kind.Heads Nil (node kind.Block (node kind.Consts Nil (node kind.Types Nil (node kind.Vars (node kind.Vardef (node kind.Names (name "c" Nil) (node kind.Tname (name "char" Nil) Nil)) (node kind.Vardef (node kind.Names (name "s" Nil) (node kind.Packed (node kind.Array (node kind.Indexes (node kind.Subrange (word kind.Cnumber "1" Nil (word kind.Cnumber "2" Nil Nil)) Nil) (node kind.Tname (name "char" Nil) Nil)) Nil) Nil)) Nil)) (node kind.Routines Nil (node kind.Compound (node kind.Stmts (node kind.Assign (node kind.Ref (name "c" Nil) (word kind.Text "'a'" Nil Nil)) (node kind.Assign (node kind.Ref (name "c" Nil) (word kind.Text "'ab'" Nil Nil)) (node kind.Assign (node kind.Ref (name "s" Nil) (word kind.Text "'ab'" Nil Nil)) (node kind.Assign (node kind.Ref (name "s" Nil) (word kind.Text "'a'" Nil Nil)) (node kind.Assign (node kind.Ref (name "c" Nil) (node kind.Index (node kind.Ref (name "s" Nil) (node kind.Exprs (word kind.Number "1" Nil Nil) Nil)) Nil)) (node kind.Assign (node kind.Index (node kind.Ref (name "s" Nil) (node kind.Exprs (word kind.Number "1" Nil Nil) Nil)) (node kind.Ref (name "c" Nil) Nil)) (node kind.Assign (node kind.Ref (name "s" Nil) (node kind.Ref (name "c" Nil) Nil)) (node kind.If (word kind.Rel "=" (node kind.Ref (name "s" Nil) (word kind.Text "'a'" Nil Nil)) (node kind.Empty Nil Nil)) (node kind.If (word kind.Rel "=" (node kind.Ref (name "c" Nil) (word kind.Text "'ab'" Nil Nil)) (node kind.Empty Nil Nil)) Nil))))))))) Nil) Nil))))) Nil)))

holds5 : differs tree5 (entry (3 ∷ 5 ∷ 1 ∷ 2 ∷ []) 11 "types do not agree" ∷ entry (3 ∷ 5 ∷ 1 ∷ 4 ∷ []) 11 "types do not agree" ∷ entry (3 ∷ 5 ∷ 1 ∷ 7 ∷ []) 11 "types do not agree" ∷ entry (3 ∷ 5 ∷ 1 ∷ 8 ∷ 1 ∷ []) 11 "types do not agree" ∷ entry (3 ∷ 5 ∷ 1 ∷ 9 ∷ 1 ∷ []) 11 "types do not agree" ∷ []) ≡ Equal
unfolding differs
holds5 = refl

-- A constant without a type: its uses have none either, so there is one entry.
--   program p; const a = y; b = a; c = -b; type t = b..c; var x: t; begin x := 'a'; write(x:b) end.
abbrev tree6 : Plain
tree6 = program (name "p" (node kind.Heads Nil (node kind.Block (node kind.Consts (node kind.Constdef (name "a" (node kind.Cname (name "y" Nil) Nil)) (node kind.Constdef (name "b" (node kind.Cname (name "a" Nil) Nil)) (node kind.Constdef (name "c" (word kind.Csign "-" (node kind.Cname (name "b" Nil) Nil) Nil)) Nil))) (node kind.Types (node kind.Typedef (name "t" (node kind.Subrange (node kind.Cname (name "b" Nil) (node kind.Cname (name "c" Nil) Nil)) Nil)) Nil) (node kind.Vars (node kind.Vardef (node kind.Names (name "x" Nil) (node kind.Tname (name "t" Nil) Nil)) Nil) (node kind.Routines Nil (node kind.Compound (node kind.Stmts (node kind.Assign (node kind.Ref (name "x" Nil) (word kind.Text "'a'" Nil Nil)) (node kind.Proc (name "write" (node kind.Args (node kind.Width (node kind.Ref (name "x" Nil) (node kind.Ref (name "b" Nil) Nil)) Nil) Nil)) Nil)) Nil) Nil))))) Nil)))

holds6 : differs tree6 (entry (3 ∷ 1 ∷ 1 ∷ 2 ∷ 1 ∷ []) 1 "not declared: y" ∷ []) ≡ Equal
unfolding differs
holds6 = refl

-- An empty program with all required names unused has no entry.
--   program p; begin end.
abbrev tree7 : Plain
tree7 = program (name "p" (node kind.Heads Nil (node kind.Block (node kind.Consts Nil (node kind.Types Nil (node kind.Vars Nil (node kind.Routines Nil (node kind.Compound (node kind.Stmts (node kind.Empty Nil Nil) Nil) Nil))))) Nil)))

holds7 : differs tree7 ([]) ≡ Equal
unfolding differs
holds7 = refl

-- An enumerated constant of an inner block hides the outer variable.
--   program p; var red: integer; procedure q; type c = (red, green); var x: c; begin x := red; red := 1 end; begin red := 1 end.
abbrev tree8 : Plain
tree8 = program (name "p" (node kind.Heads Nil (node kind.Block (node kind.Consts Nil (node kind.Types Nil (node kind.Vars (node kind.Vardef (node kind.Names (name "red" Nil) (node kind.Tname (name "integer" Nil) Nil)) Nil) (node kind.Routines (node kind.Procedure (name "q" (node kind.Params Nil (node kind.Block (node kind.Consts Nil (node kind.Types (node kind.Typedef (name "c" (node kind.Enum (node kind.Names (name "red" (name "green" Nil)) Nil) Nil)) Nil) (node kind.Vars (node kind.Vardef (node kind.Names (name "x" Nil) (node kind.Tname (name "c" Nil) Nil)) Nil) (node kind.Routines Nil (node kind.Compound (node kind.Stmts (node kind.Assign (node kind.Ref (name "x" Nil) (node kind.Ref (name "red" Nil) Nil)) (node kind.Assign (node kind.Ref (name "red" Nil) (word kind.Number "1" Nil Nil)) Nil)) Nil) Nil))))) Nil))) Nil) (node kind.Compound (node kind.Stmts (node kind.Assign (node kind.Ref (name "red" Nil) (word kind.Number "1" Nil Nil)) Nil) Nil) Nil))))) Nil)))

holds8 : differs tree8 (entry (3 ∷ 4 ∷ 1 ∷ 3 ∷ 5 ∷ 1 ∷ 2 ∷ 1 ∷ 1 ∷ []) 4 "not a variable: red" ∷ []) ≡ Equal
unfolding differs
holds8 = refl

-- An enumeration inside a record that has an error elsewhere has no error itself: its constants have a type.
--   program p; var r: record a: (u, v); b: t end; i: integer; begin i := ord(u); i := v; r.a := u end.
abbrev tree9 : Plain
tree9 = program (name "p" (node kind.Heads Nil (node kind.Block (node kind.Consts Nil (node kind.Types Nil (node kind.Vars (node kind.Vardef (node kind.Names (name "r" Nil) (node kind.Record (node kind.Fields (node kind.Field (node kind.Names (name "a" Nil) (node kind.Enum (node kind.Names (name "u" (name "v" Nil)) Nil) Nil)) (node kind.Field (node kind.Names (name "b" Nil) (node kind.Tname (name "t" Nil) Nil)) Nil)) Nil) Nil)) (node kind.Vardef (node kind.Names (name "i" Nil) (node kind.Tname (name "integer" Nil) Nil)) Nil)) (node kind.Routines Nil (node kind.Compound (node kind.Stmts (node kind.Assign (node kind.Ref (name "i" Nil) (node kind.Call (name "ord" (node kind.Exprs (node kind.Ref (name "u" Nil) Nil) Nil)) Nil)) (node kind.Assign (node kind.Ref (name "i" Nil) (node kind.Ref (name "v" Nil) Nil)) (node kind.Assign (node kind.Select (node kind.Ref (name "r" Nil) (name "a" Nil)) (node kind.Ref (name "u" Nil) Nil)) Nil))) Nil) Nil))))) Nil)))

holds9 : differs tree9 (entry (3 ∷ 3 ∷ 1 ∷ 2 ∷ 1 ∷ 2 ∷ 2 ∷ 1 ∷ []) 1 "not declared: t" ∷ entry (3 ∷ 5 ∷ 1 ∷ 2 ∷ []) 11 "types do not agree" ∷ []) ≡ Equal
unfolding differs
holds9 = refl

-- what names mean in it
looked_up9 : first_wrong tree9 (query "r" (3 ∷ 3 ∷ 1 ∷ 1 ∷ 1 ∷ []) (HereAt (3 ∷ 3 ∷ 1 ∷ 1 ∷ 1 ∷ [])) ∷ query "u" (3 ∷ 3 ∷ 1 ∷ 2 ∷ 1 ∷ 1 ∷ 2 ∷ 1 ∷ 1 ∷ []) (HereAt (3 ∷ 3 ∷ 1 ∷ 2 ∷ 1 ∷ 1 ∷ 2 ∷ 1 ∷ 1 ∷ [])) ∷ query "b" (3 ∷ 3 ∷ 1 ∷ 2 ∷ 1 ∷ 2 ∷ 1 ∷ 1 ∷ []) MissingAt ∷ query "i" (3 ∷ 3 ∷ 2 ∷ 1 ∷ 1 ∷ []) (HereAt (3 ∷ 3 ∷ 2 ∷ 1 ∷ 1 ∷ [])) ∷ query "i" (3 ∷ 5 ∷ 1 ∷ 1 ∷ 1 ∷ 1 ∷ []) (HereAt (3 ∷ 3 ∷ 2 ∷ 1 ∷ 1 ∷ [])) ∷ query "u" (3 ∷ 5 ∷ 1 ∷ 1 ∷ 2 ∷ 2 ∷ 1 ∷ 1 ∷ []) (HereAt (3 ∷ 3 ∷ 1 ∷ 2 ∷ 1 ∷ 1 ∷ 2 ∷ 1 ∷ 1 ∷ [])) ∷ query "v" (3 ∷ 5 ∷ 1 ∷ 2 ∷ 2 ∷ 1 ∷ []) (HereAt (3 ∷ 3 ∷ 1 ∷ 2 ∷ 1 ∷ 1 ∷ 2 ∷ 1 ∷ 2 ∷ [])) ∷ query "a" (3 ∷ 5 ∷ 1 ∷ 3 ∷ 1 ∷ 2 ∷ []) MissingAt ∷ query "R" (3 ∷ 5 ∷ []) (HereAt (3 ∷ 3 ∷ 1 ∷ 1 ∷ 1 ∷ [])) ∷ query "A" (3 ∷ 5 ∷ []) MissingAt ∷ query "U" (3 ∷ 5 ∷ []) (HereAt (3 ∷ 3 ∷ 1 ∷ 2 ∷ 1 ∷ 1 ∷ 2 ∷ 1 ∷ 1 ∷ [])) ∷ query "V" (3 ∷ 5 ∷ []) (HereAt (3 ∷ 3 ∷ 1 ∷ 2 ∷ 1 ∷ 1 ∷ 2 ∷ 1 ∷ 2 ∷ [])) ∷ query "Integer" (3 ∷ 5 ∷ []) RequiredAt ∷ query "zz" (3 ∷ 5 ∷ []) MissingAt ∷ query "R" (2 ∷ []) MissingAt ∷ []) ≡ 0
unfolding first_wrong
looked_up9 = refl

-- Of equal names the first counts: here the constant, not the variable.
--   program p; const x = 1; var x: integer; begin x := 2; write(x) end.
abbrev tree10 : Plain
tree10 = program (name "p" (node kind.Heads Nil (node kind.Block (node kind.Consts (node kind.Constdef (name "x" (word kind.Cnumber "1" Nil Nil)) Nil) (node kind.Types Nil (node kind.Vars (node kind.Vardef (node kind.Names (name "x" Nil) (node kind.Tname (name "integer" Nil) Nil)) Nil) (node kind.Routines Nil (node kind.Compound (node kind.Stmts (node kind.Assign (node kind.Ref (name "x" Nil) (word kind.Number "2" Nil Nil)) (node kind.Proc (name "write" (node kind.Args (node kind.Ref (name "x" Nil) Nil) Nil)) Nil)) Nil) Nil))))) Nil)))

holds10 : differs tree10 (entry (3 ∷ 3 ∷ 1 ∷ 1 ∷ 1 ∷ []) 3 "declared twice: x" ∷ entry (3 ∷ 5 ∷ 1 ∷ 1 ∷ 1 ∷ 1 ∷ []) 4 "not a variable: x" ∷ []) ≡ Equal
unfolding differs
holds10 = refl

-- what names mean in it
looked_up10 : first_wrong tree10 (query "x" (3 ∷ 1 ∷ 1 ∷ 1 ∷ []) (LaterAt (3 ∷ 1 ∷ 1 ∷ 1 ∷ [])) ∷ query "x" (3 ∷ 3 ∷ 1 ∷ 1 ∷ 1 ∷ []) (HereAt (3 ∷ 1 ∷ 1 ∷ 1 ∷ [])) ∷ query "integer" (3 ∷ 3 ∷ 1 ∷ 2 ∷ 1 ∷ []) RequiredAt ∷ query "x" (3 ∷ 5 ∷ 1 ∷ 1 ∷ 1 ∷ 1 ∷ []) (HereAt (3 ∷ 1 ∷ 1 ∷ 1 ∷ [])) ∷ query "write" (3 ∷ 5 ∷ 1 ∷ 2 ∷ 1 ∷ []) RequiredAt ∷ query "x" (3 ∷ 5 ∷ 1 ∷ 2 ∷ 2 ∷ 1 ∷ 1 ∷ []) (HereAt (3 ∷ 1 ∷ 1 ∷ 1 ∷ [])) ∷ query "X" (3 ∷ 5 ∷ []) (HereAt (3 ∷ 1 ∷ 1 ∷ 1 ∷ [])) ∷ query "INTEGER" (3 ∷ 5 ∷ []) RequiredAt ∷ query "WRITE" (3 ∷ 5 ∷ []) RequiredAt ∷ query "Integer" (3 ∷ 5 ∷ []) RequiredAt ∷ query "zz" (3 ∷ 5 ∷ []) MissingAt ∷ query "X" (2 ∷ []) MissingAt ∷ []) ≡ 0
unfolding first_wrong
looked_up10 = refl

-- The errors of a routine that is not the first of its name and of those inside it are listed.
--   program p; var q: integer; procedure q; procedure r; begin y := 1 end; begin r(2) end; begin q := 1 end.
abbrev tree11 : Plain
tree11 = program (name "p" (node kind.Heads Nil (node kind.Block (node kind.Consts Nil (node kind.Types Nil (node kind.Vars (node kind.Vardef (node kind.Names (name "q" Nil) (node kind.Tname (name "integer" Nil) Nil)) Nil) (node kind.Routines (node kind.Procedure (name "q" (node kind.Params Nil (node kind.Block (node kind.Consts Nil (node kind.Types Nil (node kind.Vars Nil (node kind.Routines (node kind.Procedure (name "r" (node kind.Params Nil (node kind.Block (node kind.Consts Nil (node kind.Types Nil (node kind.Vars Nil (node kind.Routines Nil (node kind.Compound (node kind.Stmts (node kind.Assign (node kind.Ref (name "y" Nil) (word kind.Number "1" Nil Nil)) Nil) Nil) Nil))))) Nil))) Nil) (node kind.Compound (node kind.Stmts (node kind.Proc (name "r" (node kind.Args (word kind.Number "2" Nil Nil) Nil)) Nil) Nil) Nil))))) Nil))) Nil) (node kind.Compound (node kind.Stmts (node kind.Assign (node kind.Ref (name "q" Nil) (word kind.Number "1" Nil Nil)) Nil) Nil) Nil))))) Nil)))

holds11 : differs tree11 (entry (3 ∷ 4 ∷ 1 ∷ 1 ∷ []) 3 "declared twice: q" ∷ entry (3 ∷ 4 ∷ 1 ∷ 3 ∷ 4 ∷ 1 ∷ 3 ∷ 5 ∷ 1 ∷ 1 ∷ 1 ∷ 1 ∷ []) 1 "not declared: y" ∷ entry (3 ∷ 4 ∷ 1 ∷ 3 ∷ 5 ∷ 1 ∷ 1 ∷ []) 12 "wrong number of arguments" ∷ []) ≡ Equal
unfolding differs
holds11 = refl

-- what names mean in it
looked_up11 : first_wrong tree11 (query "q" (3 ∷ 3 ∷ 1 ∷ 1 ∷ 1 ∷ []) (HereAt (3 ∷ 3 ∷ 1 ∷ 1 ∷ 1 ∷ [])) ∷ query "integer" (3 ∷ 3 ∷ 1 ∷ 2 ∷ 1 ∷ []) RequiredAt ∷ query "q" (3 ∷ 4 ∷ 1 ∷ 1 ∷ []) (HereAt (3 ∷ 3 ∷ 1 ∷ 1 ∷ 1 ∷ [])) ∷ query "r" (3 ∷ 4 ∷ 1 ∷ 3 ∷ 4 ∷ 1 ∷ 1 ∷ []) (HereAt (3 ∷ 4 ∷ 1 ∷ 3 ∷ 4 ∷ 1 ∷ 1 ∷ [])) ∷ query "y" (3 ∷ 4 ∷ 1 ∷ 3 ∷ 4 ∷ 1 ∷ 3 ∷ 5 ∷ 1 ∷ 1 ∷ 1 ∷ 1 ∷ []) MissingAt ∷ query "r" (3 ∷ 4 ∷ 1 ∷ 3 ∷ 5 ∷ 1 ∷ 1 ∷ 1 ∷ []) (HereAt (3 ∷ 4 ∷ 1 ∷ 3 ∷ 4 ∷ 1 ∷ 1 ∷ [])) ∷ query "q" (3 ∷ 5 ∷ 1 ∷ 1 ∷ 1 ∷ 1 ∷ []) (HereAt (3 ∷ 3 ∷ 1 ∷ 1 ∷ 1 ∷ [])) ∷ query "Q" (3 ∷ 4 ∷ 1 ∷ 3 ∷ 4 ∷ 1 ∷ 3 ∷ 5 ∷ []) (HereAt (3 ∷ 3 ∷ 1 ∷ 1 ∷ 1 ∷ [])) ∷ query "INTEGER" (3 ∷ 4 ∷ 1 ∷ 3 ∷ 4 ∷ 1 ∷ 3 ∷ 5 ∷ []) RequiredAt ∷ query "R" (3 ∷ 4 ∷ 1 ∷ 3 ∷ 4 ∷ 1 ∷ 3 ∷ 5 ∷ []) (HereAt (3 ∷ 4 ∷ 1 ∷ 3 ∷ 4 ∷ 1 ∷ 1 ∷ [])) ∷ query "Y" (3 ∷ 4 ∷ 1 ∷ 3 ∷ 4 ∷ 1 ∷ 3 ∷ 5 ∷ []) MissingAt ∷ query "Integer" (3 ∷ 5 ∷ []) RequiredAt ∷ query "zz" (3 ∷ 5 ∷ []) MissingAt ∷ query "Q" (2 ∷ []) MissingAt ∷ []) ≡ 0
unfolding first_wrong
looked_up11 = refl

-- What a context finds wrong at an argument takes the call's type away.
--   program p; function f(a: integer): integer; begin f := a end; begin if f('x') then; if f(1) then; write(abs(f(true)):'w') end.
abbrev tree12 : Plain
tree12 = program (name "p" (node kind.Heads Nil (node kind.Block (node kind.Consts Nil (node kind.Types Nil (node kind.Vars Nil (node kind.Routines (node kind.Function (name "f" (node kind.Params (node kind.Valparam (node kind.Names (name "a" Nil) (name "integer" Nil)) Nil) (name "integer" (node kind.Block (node kind.Consts Nil (node kind.Types Nil (node kind.Vars Nil (node kind.Routines Nil (node kind.Compound (node kind.Stmts (node kind.Assign (node kind.Ref (name "f" Nil) (node kind.Ref (name "a" Nil) Nil)) Nil) Nil) Nil))))) Nil)))) Nil) (node kind.Compound (node kind.Stmts (node kind.If (node kind.Call (name "f" (node kind.Exprs (word kind.Text "'x'" Nil Nil) Nil)) (node kind.Empty Nil Nil)) (node kind.If (node kind.Call (name "f" (node kind.Exprs (word kind.Number "1" Nil Nil) Nil)) (node kind.Empty Nil Nil)) (node kind.Proc (name "write" (node kind.Args (node kind.Width (node kind.Call (name "abs" (node kind.Exprs (node kind.Call (name "f" (node kind.Exprs (node kind.Ref (name "true" Nil) Nil) Nil)) Nil) Nil)) (word kind.Text "'w'" Nil Nil)) Nil) Nil)) Nil))) Nil) Nil))))) Nil)))

holds12 : differs tree12 (entry (3 ∷ 5 ∷ 1 ∷ 1 ∷ 1 ∷ 2 ∷ 1 ∷ []) 11 "types do not agree" ∷ entry (3 ∷ 5 ∷ 1 ∷ 2 ∷ 1 ∷ []) 17 "condition is not Boolean" ∷ entry (3 ∷ 5 ∷ 1 ∷ 3 ∷ 2 ∷ 1 ∷ []) 24 "width not allowed" ∷ entry (3 ∷ 5 ∷ 1 ∷ 3 ∷ 2 ∷ 1 ∷ 1 ∷ 2 ∷ 1 ∷ 2 ∷ 1 ∷ []) 11 "types do not agree" ∷ []) ≡ Equal
unfolding differs
holds12 = refl

-- what names mean in it
looked_up12 : first_wrong tree12 (query "f" (3 ∷ 4 ∷ 1 ∷ 1 ∷ []) (HereAt (3 ∷ 4 ∷ 1 ∷ 1 ∷ [])) ∷ query "a" (3 ∷ 4 ∷ 1 ∷ 2 ∷ 1 ∷ 1 ∷ 1 ∷ []) MissingAt ∷ query "integer" (3 ∷ 4 ∷ 1 ∷ 2 ∷ 1 ∷ 2 ∷ []) RequiredAt ∷ query "integer" (3 ∷ 4 ∷ 1 ∷ 3 ∷ []) RequiredAt ∷ query "f" (3 ∷ 4 ∷ 1 ∷ 4 ∷ 5 ∷ 1 ∷ 1 ∷ 1 ∷ 1 ∷ []) (HereAt (3 ∷ 4 ∷ 1 ∷ 1 ∷ [])) ∷ query "a" (3 ∷ 4 ∷ 1 ∷ 4 ∷ 5 ∷ 1 ∷ 1 ∷ 2 ∷ 1 ∷ []) (HereAt (3 ∷ 4 ∷ 1 ∷ 2 ∷ 1 ∷ 1 ∷ 1 ∷ [])) ∷ query "f" (3 ∷ 5 ∷ 1 ∷ 1 ∷ 1 ∷ 1 ∷ []) (HereAt (3 ∷ 4 ∷ 1 ∷ 1 ∷ [])) ∷ query "f" (3 ∷ 5 ∷ 1 ∷ 2 ∷ 1 ∷ 1 ∷ []) (HereAt (3 ∷ 4 ∷ 1 ∷ 1 ∷ [])) ∷ query "write" (3 ∷ 5 ∷ 1 ∷ 3 ∷ 1 ∷ []) RequiredAt ∷ query "abs" (3 ∷ 5 ∷ 1 ∷ 3 ∷ 2 ∷ 1 ∷ 1 ∷ 1 ∷ []) RequiredAt ∷ query "f" (3 ∷ 5 ∷ 1 ∷ 3 ∷ 2 ∷ 1 ∷ 1 ∷ 2 ∷ 1 ∷ 1 ∷ []) (HereAt (3 ∷ 4 ∷ 1 ∷ 1 ∷ [])) ∷ query "true" (3 ∷ 5 ∷ 1 ∷ 3 ∷ 2 ∷ 1 ∷ 1 ∷ 2 ∷ 1 ∷ 2 ∷ 1 ∷ 1 ∷ []) RequiredAt ∷ query "F" (3 ∷ 4 ∷ 1 ∷ 4 ∷ 5 ∷ []) (HereAt (3 ∷ 4 ∷ 1 ∷ 1 ∷ [])) ∷ query "A" (3 ∷ 4 ∷ 1 ∷ 4 ∷ 5 ∷ []) (HereAt (3 ∷ 4 ∷ 1 ∷ 2 ∷ 1 ∷ 1 ∷ 1 ∷ [])) ∷ query "INTEGER" (3 ∷ 4 ∷ 1 ∷ 4 ∷ 5 ∷ []) RequiredAt ∷ query "WRITE" (3 ∷ 4 ∷ 1 ∷ 4 ∷ 5 ∷ []) RequiredAt ∷ query "Integer" (3 ∷ 5 ∷ []) RequiredAt ∷ query "zz" (3 ∷ 5 ∷ []) MissingAt ∷ query "F" (2 ∷ []) MissingAt ∷ []) ≡ 0
unfolding first_wrong
looked_up12 = refl
