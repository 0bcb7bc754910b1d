-- Several rules in one program: programs with the errors that they have.
use Rattle.std.specs.Prelude.{◌≡◌, [], ◌∷◌}
use Rattle.std.proofs.Common.{refl}
use Rattle.pc_syntax.specs.Plain.{Nil, Plain}
use Rattle.pc_syntax.specs.declared.kind.Kind.TheVariants as kind
use Rattle.pc_rule_cases.specs.Trees.{program, node, name, word}
use Rattle.pc_rule_cases.specs.Compare.{Equal, entry, differs}
use Rattle.pc_rule_cases.specs.Lookups.{HereAt, LaterAt, MissingAt, RequiredAt, query, first_wrong}

-- A domain that the same type part defines anew, later: the new type is meant.
--   program p; type l = ^integer; integer = char; var x: l; begin new(x); x^ := 'a'; x^ := 1 end.
abbrev tree1 : Plain
tree1 = program (name "p" (node kind.Heads Nil (node kind.Block (node kind.Consts Nil (node kind.Types (node kind.Typedef (name "l" (node kind.Pointer (name "integer" Nil) Nil)) (node kind.Typedef (name "integer" (node kind.Tname (name "char" Nil) Nil)) Nil)) (node kind.Vars (node kind.Vardef (node kind.Names (name "x" Nil) (node kind.Tname (name "l" Nil) Nil)) Nil) (node kind.Routines Nil (node kind.Compound (node kind.Stmts (node kind.Proc (name "new" (node kind.Args (node kind.Ref (name "x" Nil) Nil) Nil)) (node kind.Assign (node kind.Deref (node kind.Ref (name "x" Nil) Nil) (word kind.Text "'a'" Nil Nil)) (node kind.Assign (node kind.Deref (node kind.Ref (name "x" Nil) Nil) (word kind.Number "1" Nil Nil)) Nil))) Nil) Nil))))) Nil)))

holds1 : differs tree1 (entry (3 ∷ 5 ∷ 1 ∷ 3 ∷ []) 11 "types do not agree" ∷ []) ≡ Equal
unfolding differs
holds1 = refl

-- Pointers: inside the type part a name of that part counts by its own structure; the base l of the set is row 8 though n has an error.
--   program p; type l = ^n; n = record s: set of l end; begin end.
abbrev tree2 : Plain
tree2 = program (name "p" (node kind.Heads Nil (node kind.Block (node kind.Consts Nil (node kind.Types (node kind.Typedef (name "l" (node kind.Pointer (name "n" Nil) Nil)) (node kind.Typedef (name "n" (node kind.Record (node kind.Fields (node kind.Field (node kind.Names (name "s" Nil) (node kind.Setof (node kind.Tname (name "l" Nil) Nil) Nil)) Nil) Nil) Nil)) Nil)) (node kind.Vars Nil (node kind.Routines Nil (node kind.Compound (node kind.Stmts (node kind.Empty Nil Nil) Nil) Nil))))) Nil)))

holds2 : differs tree2 (entry (3 ∷ 2 ∷ 2 ∷ 2 ∷ 1 ∷ 1 ∷ 2 ∷ 1 ∷ []) 8 "not an ordinal type" ∷ []) ≡ Equal
unfolding differs
holds2 = refl

-- what names mean in it
looked_up2 : first_wrong tree2 (query "l" (3 ∷ 2 ∷ 1 ∷ 1 ∷ []) (LaterAt (3 ∷ 2 ∷ 1 ∷ 1 ∷ [])) ∷ query "n" (3 ∷ 2 ∷ 1 ∷ 2 ∷ 1 ∷ []) (LaterAt (3 ∷ 2 ∷ 2 ∷ 1 ∷ [])) ∷ query "n" (3 ∷ 2 ∷ 2 ∷ 1 ∷ []) (LaterAt (3 ∷ 2 ∷ 2 ∷ 1 ∷ [])) ∷ query "s" (3 ∷ 2 ∷ 2 ∷ 2 ∷ 1 ∷ 1 ∷ 1 ∷ 1 ∷ []) MissingAt ∷ query "l" (3 ∷ 2 ∷ 2 ∷ 2 ∷ 1 ∷ 1 ∷ 2 ∷ 1 ∷ 1 ∷ []) (HereAt (3 ∷ 2 ∷ 1 ∷ 1 ∷ [])) ∷ query "L" (3 ∷ 5 ∷ []) (HereAt (3 ∷ 2 ∷ 1 ∷ 1 ∷ [])) ∷ query "N" (3 ∷ 5 ∷ []) (HereAt (3 ∷ 2 ∷ 2 ∷ 1 ∷ [])) ∷ query "S" (3 ∷ 5 ∷ []) MissingAt ∷ query "Integer" (3 ∷ 5 ∷ []) RequiredAt ∷ query "zz" (3 ∷ 5 ∷ []) MissingAt ∷ query "L" (2 ∷ []) MissingAt ∷ []) ≡ 0
unfolding first_wrong
looked_up2 = refl

-- Pointers: an undeclared domain; nil and new of such a pointer have no entry.
--   program p; var q: ^t; begin q := nil; new(q); q^ := 1; q := 5 end.
abbrev tree3 : Plain
tree3 = program (name "p" (node kind.Heads Nil (node kind.Block (node kind.Consts Nil (node kind.Types Nil (node kind.Vars (node kind.Vardef (node kind.Names (name "q" Nil) (node kind.Pointer (name "t" Nil) Nil)) Nil) (node kind.Routines Nil (node kind.Compound (node kind.Stmts (node kind.Assign (node kind.Ref (name "q" Nil) (node kind.Nil Nil Nil)) (node kind.Proc (name "new" (node kind.Args (node kind.Ref (name "q" Nil) Nil) Nil)) (node kind.Assign (node kind.Deref (node kind.Ref (name "q" Nil) Nil) (word kind.Number "1" Nil Nil)) (node kind.Assign (node kind.Ref (name "q" Nil) (word kind.Number "5" Nil Nil)) Nil)))) Nil) Nil))))) Nil)))

holds3 : differs tree3 (entry (3 ∷ 3 ∷ 1 ∷ 2 ∷ 1 ∷ []) 1 "not declared: t" ∷ []) ≡ Equal
unfolding differs
holds3 = refl

-- what names mean in it
looked_up3 : first_wrong tree3 (query "q" (3 ∷ 3 ∷ 1 ∷ 1 ∷ 1 ∷ []) (HereAt (3 ∷ 3 ∷ 1 ∷ 1 ∷ 1 ∷ [])) ∷ query "t" (3 ∷ 3 ∷ 1 ∷ 2 ∷ 1 ∷ []) MissingAt ∷ query "q" (3 ∷ 5 ∷ 1 ∷ 1 ∷ 1 ∷ 1 ∷ []) (HereAt (3 ∷ 3 ∷ 1 ∷ 1 ∷ 1 ∷ [])) ∷ query "new" (3 ∷ 5 ∷ 1 ∷ 2 ∷ 1 ∷ []) RequiredAt ∷ query "q" (3 ∷ 5 ∷ 1 ∷ 2 ∷ 2 ∷ 1 ∷ 1 ∷ []) (HereAt (3 ∷ 3 ∷ 1 ∷ 1 ∷ 1 ∷ [])) ∷ query "q" (3 ∷ 5 ∷ 1 ∷ 3 ∷ 1 ∷ 1 ∷ 1 ∷ []) (HereAt (3 ∷ 3 ∷ 1 ∷ 1 ∷ 1 ∷ [])) ∷ query "q" (3 ∷ 5 ∷ 1 ∷ 4 ∷ 1 ∷ 1 ∷ []) (HereAt (3 ∷ 3 ∷ 1 ∷ 1 ∷ 1 ∷ [])) ∷ query "Q" (3 ∷ 5 ∷ []) (HereAt (3 ∷ 3 ∷ 1 ∷ 1 ∷ 1 ∷ [])) ∷ query "T" (3 ∷ 5 ∷ []) MissingAt ∷ query "NEW" (3 ∷ 5 ∷ []) RequiredAt ∷ query "Integer" (3 ∷ 5 ∷ []) RequiredAt ∷ query "zz" (3 ∷ 5 ∷ []) MissingAt ∷ query "Q" (2 ∷ []) MissingAt ∷ []) ≡ 0
unfolding first_wrong
looked_up3 = refl

-- Pointers: a denoter in the var part takes its domain from the type part before it.
--   program p; type n = record v: integer end; var q: ^n; r: ^integer; s: ^s; begin q^.v := r^ end.
abbrev tree4 : Plain
tree4 = program (name "p" (node kind.Heads Nil (node kind.Block (node kind.Consts Nil (node kind.Types (node kind.Typedef (name "n" (node kind.Record (node kind.Fields (node kind.Field (node kind.Names (name "v" Nil) (node kind.Tname (name "integer" Nil) Nil)) Nil) Nil) Nil)) Nil) (node kind.Vars (node kind.Vardef (node kind.Names (name "q" Nil) (node kind.Pointer (name "n" Nil) Nil)) (node kind.Vardef (node kind.Names (name "r" Nil) (node kind.Pointer (name "integer" Nil) Nil)) (node kind.Vardef (node kind.Names (name "s" Nil) (node kind.Pointer (name "s" Nil) Nil)) Nil))) (node kind.Routines Nil (node kind.Compound (node kind.Stmts (node kind.Assign (node kind.Select (node kind.Deref (node kind.Ref (name "q" Nil) Nil) (name "v" Nil)) (node kind.Deref (node kind.Ref (name "r" Nil) Nil) Nil)) Nil) Nil) Nil))))) Nil)))

holds4 : differs tree4 (entry (3 ∷ 3 ∷ 3 ∷ 2 ∷ 1 ∷ []) 4 "not a type: s" ∷ []) ≡ Equal
unfolding differs
holds4 = refl

-- A pointer to the variable's own name.
--   program p; var x: ^x; begin x := nil end.
abbrev tree5 : Plain
tree5 = program (name "p" (node kind.Heads Nil (node kind.Block (node kind.Consts Nil (node kind.Types Nil (node kind.Vars (node kind.Vardef (node kind.Names (name "x" Nil) (node kind.Pointer (name "x" Nil) Nil)) Nil) (node kind.Routines Nil (node kind.Compound (node kind.Stmts (node kind.Assign (node kind.Ref (name "x" Nil) (node kind.Nil Nil Nil)) Nil) Nil) Nil))))) Nil)))

holds5 : differs tree5 (entry (3 ∷ 3 ∷ 1 ∷ 2 ∷ 1 ∷ []) 4 "not a type: x" ∷ []) ≡ Equal
unfolding differs
holds5 = refl

-- A function whose own name is used as a variable in a read and as a var argument.
--   program p; function f: integer; procedure q(var a: integer); begin end; begin read(f); q(f); f := f end; begin end.
abbrev tree6 : Plain
tree6 = program (name "p" (node kind.Heads Nil (node kind.Block (node kind.Consts Nil (node kind.Types Nil (node kind.Vars Nil (node kind.Routines (node kind.Function (name "f" (node kind.Params Nil (name "integer" (node kind.Block (node kind.Consts Nil (node kind.Types Nil (node kind.Vars Nil (node kind.Routines (node kind.Procedure (name "q" (node kind.Params (node kind.Varparam (node kind.Names (name "a" Nil) (name "integer" Nil)) Nil) (node kind.Block (node kind.Consts Nil (node kind.Types Nil (node kind.Vars Nil (node kind.Routines Nil (node kind.Compound (node kind.Stmts (node kind.Empty Nil Nil) Nil) Nil))))) Nil))) Nil) (node kind.Compound (node kind.Stmts (node kind.Proc (name "read" (node kind.Args (node kind.Ref (name "f" Nil) Nil) Nil)) (node kind.Proc (name "q" (node kind.Args (node kind.Ref (name "f" Nil) Nil) Nil)) (node kind.Assign (node kind.Ref (name "f" Nil) (node kind.Ref (name "f" Nil) Nil)) Nil))) Nil) Nil))))) Nil)))) Nil) (node kind.Compound (node kind.Stmts (node kind.Empty Nil Nil) Nil) Nil))))) Nil)))

holds6 : differs tree6 (entry (3 ∷ 4 ∷ 1 ∷ 4 ∷ 5 ∷ 1 ∷ 1 ∷ 2 ∷ 1 ∷ 1 ∷ []) 4 "not a variable: f" ∷ entry (3 ∷ 4 ∷ 1 ∷ 4 ∷ 5 ∷ 1 ∷ 2 ∷ 2 ∷ 1 ∷ 1 ∷ []) 4 "not a variable: f" ∷ []) ≡ Equal
unfolding differs
holds6 = refl

-- Required functions are defined anew, as a variable and as a function of two arguments.
--   program p; var abs: integer; function ord(a, b: char): integer; begin ord := 1 end; begin abs := ord('a', 'b'); abs := abs(1); abs := ord('a') end.
abbrev tree7 : Plain
tree7 = program (name "p" (node kind.Heads Nil (node kind.Block (node kind.Consts Nil (node kind.Types Nil (node kind.Vars (node kind.Vardef (node kind.Names (name "abs" Nil) (node kind.Tname (name "integer" Nil) Nil)) Nil) (node kind.Routines (node kind.Function (name "ord" (node kind.Params (node kind.Valparam (node kind.Names (name "a" (name "b" Nil)) (name "char" Nil)) Nil) (name "integer" (node kind.Block (node kind.Consts Nil (node kind.Types Nil (node kind.Vars Nil (node kind.Routines Nil (node kind.Compound (node kind.Stmts (node kind.Assign (node kind.Ref (name "ord" Nil) (word kind.Number "1" Nil Nil)) Nil) Nil) Nil))))) Nil)))) Nil) (node kind.Compound (node kind.Stmts (node kind.Assign (node kind.Ref (name "abs" Nil) (node kind.Call (name "ord" (node kind.Exprs (word kind.Text "'a'" Nil (word kind.Text "'b'" Nil Nil)) Nil)) Nil)) (node kind.Assign (node kind.Ref (name "abs" Nil) (node kind.Call (name "abs" (node kind.Exprs (word kind.Number "1" Nil Nil) Nil)) Nil)) (node kind.Assign (node kind.Ref (name "abs" Nil) (node kind.Call (name "ord" (node kind.Exprs (word kind.Text "'a'" Nil Nil) Nil)) Nil)) Nil))) Nil) Nil))))) Nil)))

holds7 : differs tree7 (entry (3 ∷ 5 ∷ 1 ∷ 2 ∷ 2 ∷ 1 ∷ []) 4 "not a function: abs" ∷ entry (3 ∷ 5 ∷ 1 ∷ 3 ∷ 2 ∷ []) 12 "wrong number of arguments" ∷ []) ≡ Equal
unfolding differs
holds7 = refl

-- A required name that an inner block defines anew is the required one outside.
--   program p; procedure q; const maxint = 5; begin write(maxint:1) end; begin q; write(maxint + 1 = 6) end.
abbrev tree8 : Plain
tree8 = program (name "p" (node kind.Heads Nil (node kind.Block (node kind.Consts Nil (node kind.Types Nil (node kind.Vars Nil (node kind.Routines (node kind.Procedure (name "q" (node kind.Params Nil (node kind.Block (node kind.Consts (node kind.Constdef (name "maxint" (word kind.Cnumber "5" Nil Nil)) Nil) (node kind.Types Nil (node kind.Vars Nil (node kind.Routines Nil (node kind.Compound (node kind.Stmts (node kind.Proc (name "write" (node kind.Args (node kind.Width (node kind.Ref (name "maxint" Nil) (word kind.Number "1" Nil Nil)) Nil) Nil)) Nil) Nil) Nil))))) Nil))) Nil) (node kind.Compound (node kind.Stmts (node kind.Proc (name "q" (node kind.Args Nil Nil)) (node kind.Proc (name "write" (node kind.Args (word kind.Rel "=" (word kind.Add "+" (node kind.Ref (name "maxint" Nil) (word kind.Number "1" Nil Nil)) (word kind.Number "6" Nil Nil)) Nil) Nil)) Nil)) Nil) Nil))))) Nil)))

holds8 : differs tree8 ([]) ≡ Equal
unfolding differs
holds8 = refl

-- Required names are defined anew: integer, true, maxint, write, input.
--   program p; const true = 1; maxint = 'm'; type integer = char; var x: integer; input: boolean; procedure write(a: integer); begin end; begin x :=
--   maxint; x := 1; write('a'); write(true); input := true; if eof(input) then; if eof then end.
abbrev tree9 : Plain
tree9 = program (name "p" (node kind.Heads Nil (node kind.Block (node kind.Consts (node kind.Constdef (name "true" (word kind.Cnumber "1" Nil Nil)) (node kind.Constdef (name "maxint" (word kind.Cstring "'m'" Nil Nil)) Nil)) (node kind.Types (node kind.Typedef (name "integer" (node kind.Tname (name "char" Nil) Nil)) Nil) (node kind.Vars (node kind.Vardef (node kind.Names (name "x" Nil) (node kind.Tname (name "integer" Nil) Nil)) (node kind.Vardef (node kind.Names (name "input" Nil) (node kind.Tname (name "boolean" Nil) Nil)) Nil)) (node kind.Routines (node kind.Procedure (name "write" (node kind.Params (node kind.Valparam (node kind.Names (name "a" Nil) (name "integer" Nil)) Nil) (node kind.Block (node kind.Consts Nil (node kind.Types Nil (node kind.Vars Nil (node kind.Routines Nil (node kind.Compound (node kind.Stmts (node kind.Empty Nil Nil) Nil) Nil))))) Nil))) Nil) (node kind.Compound (node kind.Stmts (node kind.Assign (node kind.Ref (name "x" Nil) (node kind.Ref (name "maxint" Nil) Nil)) (node kind.Assign (node kind.Ref (name "x" Nil) (word kind.Number "1" Nil Nil)) (node kind.Proc (name "write" (node kind.Args (word kind.Text "'a'" Nil Nil) Nil)) (node kind.Proc (name "write" (node kind.Args (node kind.Ref (name "true" Nil) Nil) Nil)) (node kind.Assign (node kind.Ref (name "input" Nil) (node kind.Ref (name "true" Nil) Nil)) (node kind.If (node kind.Call (name "eof" (node kind.Exprs (node kind.Ref (name "input" Nil) Nil) Nil)) (node kind.Empty Nil Nil)) (node kind.If (node kind.Ref (name "eof" Nil) (node kind.Empty Nil Nil)) Nil))))))) Nil) Nil))))) Nil)))

holds9 : differs tree9 (entry (3 ∷ 5 ∷ 1 ∷ 2 ∷ []) 11 "types do not agree" ∷ entry (3 ∷ 5 ∷ 1 ∷ 4 ∷ 2 ∷ 1 ∷ []) 11 "types do not agree" ∷ entry (3 ∷ 5 ∷ 1 ∷ 5 ∷ []) 11 "types do not agree" ∷ entry (3 ∷ 5 ∷ 1 ∷ 6 ∷ 1 ∷ []) 11 "types do not agree" ∷ []) ≡ Equal
unfolding differs
holds9 = refl

-- A set of a subrange agrees with a set constructor of the host's members; sets of two enumerations do not.
--   program p; type c = (a, b); d = (e, f); var s: set of a..a; t: set of d; begin s := [b]; t := [a]; s := t; if e in s then; if s <= [e] then end.
abbrev tree10 : Plain
tree10 = program (name "p" (node kind.Heads Nil (node kind.Block (node kind.Consts Nil (node kind.Types (node kind.Typedef (name "c" (node kind.Enum (node kind.Names (name "a" (name "b" Nil)) Nil) Nil)) (node kind.Typedef (name "d" (node kind.Enum (node kind.Names (name "e" (name "f" Nil)) Nil) Nil)) Nil)) (node kind.Vars (node kind.Vardef (node kind.Names (name "s" Nil) (node kind.Setof (node kind.Subrange (node kind.Cname (name "a" Nil) (node kind.Cname (name "a" Nil) Nil)) Nil) Nil)) (node kind.Vardef (node kind.Names (name "t" Nil) (node kind.Setof (node kind.Tname (name "d" Nil) Nil) Nil)) Nil)) (node kind.Routines Nil (node kind.Compound (node kind.Stmts (node kind.Assign (node kind.Ref (name "s" Nil) (node kind.Setcon (node kind.Members (node kind.Ref (name "b" Nil) Nil) Nil) Nil)) (node kind.Assign (node kind.Ref (name "t" Nil) (node kind.Setcon (node kind.Members (node kind.Ref (name "a" Nil) Nil) Nil) Nil)) (node kind.Assign (node kind.Ref (name "s" Nil) (node kind.Ref (name "t" Nil) Nil)) (node kind.If (word kind.Rel "in" (node kind.Ref (name "e" Nil) (node kind.Ref (name "s" Nil) Nil)) (node kind.Empty Nil Nil)) (node kind.If (word kind.Rel "<=" (node kind.Ref (name "s" Nil) (node kind.Setcon (node kind.Members (node kind.Ref (name "e" Nil) Nil) Nil) Nil)) (node kind.Empty Nil Nil)) Nil))))) Nil) Nil))))) Nil)))

holds10 : differs tree10 (entry (3 ∷ 5 ∷ 1 ∷ 2 ∷ []) 11 "types do not agree" ∷ entry (3 ∷ 5 ∷ 1 ∷ 3 ∷ []) 11 "types do not agree" ∷ entry (3 ∷ 5 ∷ 1 ∷ 4 ∷ 1 ∷ []) 11 "types do not agree" ∷ entry (3 ∷ 5 ∷ 1 ∷ 5 ∷ 1 ∷ []) 11 "types do not agree" ∷ []) ≡ Equal
unfolding differs
holds10 = refl

-- succ and pred of a subrange have its host as their type; ord of any ordinal is an integer.
--   program p; type c = (red, green); s = red..red; var x: s; y: c; i: integer; begin y := succ(x); x := succ(x); i := ord(x); i := succ(true); if
--   succ(false) then; y := pred(i) end.
abbrev tree11 : Plain
tree11 = program (name "p" (node kind.Heads Nil (node kind.Block (node kind.Consts Nil (node kind.Types (node kind.Typedef (name "c" (node kind.Enum (node kind.Names (name "red" (name "green" Nil)) Nil) Nil)) (node kind.Typedef (name "s" (node kind.Subrange (node kind.Cname (name "red" Nil) (node kind.Cname (name "red" Nil) Nil)) Nil)) Nil)) (node kind.Vars (node kind.Vardef (node kind.Names (name "x" Nil) (node kind.Tname (name "s" Nil) Nil)) (node kind.Vardef (node kind.Names (name "y" Nil) (node kind.Tname (name "c" Nil) Nil)) (node kind.Vardef (node kind.Names (name "i" Nil) (node kind.Tname (name "integer" Nil) Nil)) Nil))) (node kind.Routines Nil (node kind.Compound (node kind.Stmts (node kind.Assign (node kind.Ref (name "y" Nil) (node kind.Call (name "succ" (node kind.Exprs (node kind.Ref (name "x" Nil) Nil) Nil)) Nil)) (node kind.Assign (node kind.Ref (name "x" Nil) (node kind.Call (name "succ" (node kind.Exprs (node kind.Ref (name "x" Nil) Nil) Nil)) Nil)) (node kind.Assign (node kind.Ref (name "i" Nil) (node kind.Call (name "ord" (node kind.Exprs (node kind.Ref (name "x" Nil) Nil) Nil)) Nil)) (node kind.Assign (node kind.Ref (name "i" Nil) (node kind.Call (name "succ" (node kind.Exprs (node kind.Ref (name "true" Nil) Nil) Nil)) Nil)) (node kind.If (node kind.Call (name "succ" (node kind.Exprs (node kind.Ref (name "false" Nil) Nil) Nil)) (node kind.Empty Nil Nil)) (node kind.Assign (node kind.Ref (name "y" Nil) (node kind.Call (name "pred" (node kind.Exprs (node kind.Ref (name "i" Nil) Nil) Nil)) Nil)) Nil)))))) Nil) Nil))))) Nil)))

holds11 : differs tree11 (entry (3 ∷ 5 ∷ 1 ∷ 4 ∷ []) 11 "types do not agree" ∷ entry (3 ∷ 5 ∷ 1 ∷ 6 ∷ []) 11 "types do not agree" ∷ []) ≡ Equal
unfolding differs
holds11 = refl

-- A var argument of a parameter whose type is the same by a name; an anonymous denoter is never the same.
--   program p; type t = array [1..2] of char; u = t; var a: u; b: array [1..2] of char; procedure q(var x: t); begin end; begin q(a); q(b); q(a[1]) end.
abbrev tree12 : Plain
tree12 = program (name "p" (node kind.Heads Nil (node kind.Block (node kind.Consts Nil (node kind.Types (node kind.Typedef (name "t" (node kind.Array (node kind.Indexes (node kind.Subrange (word kind.Cnumber "1" Nil (word kind.Cnumber "2" Nil Nil)) Nil) (node kind.Tname (name "char" Nil) Nil)) Nil)) (node kind.Typedef (name "u" (node kind.Tname (name "t" Nil) Nil)) Nil)) (node kind.Vars (node kind.Vardef (node kind.Names (name "a" Nil) (node kind.Tname (name "u" Nil) Nil)) (node kind.Vardef (node kind.Names (name "b" Nil) (node kind.Array (node kind.Indexes (node kind.Subrange (word kind.Cnumber "1" Nil (word kind.Cnumber "2" Nil Nil)) Nil) (node kind.Tname (name "char" Nil) Nil)) Nil)) Nil)) (node kind.Routines (node kind.Procedure (name "q" (node kind.Params (node kind.Varparam (node kind.Names (name "x" Nil) (name "t" Nil)) Nil) (node kind.Block (node kind.Consts Nil (node kind.Types Nil (node kind.Vars Nil (node kind.Routines Nil (node kind.Compound (node kind.Stmts (node kind.Empty Nil Nil) Nil) Nil))))) Nil))) Nil) (node kind.Compound (node kind.Stmts (node kind.Proc (name "q" (node kind.Args (node kind.Ref (name "a" Nil) Nil) Nil)) (node kind.Proc (name "q" (node kind.Args (node kind.Ref (name "b" Nil) Nil) Nil)) (node kind.Proc (name "q" (node kind.Args (node kind.Index (node kind.Ref (name "a" Nil) (node kind.Exprs (word kind.Number "1" Nil Nil) Nil)) Nil) Nil)) Nil))) Nil) Nil))))) Nil)))

holds12 : differs tree12 (entry (3 ∷ 5 ∷ 1 ∷ 2 ∷ 2 ∷ 1 ∷ []) 11 "types do not agree" ∷ entry (3 ∷ 5 ∷ 1 ∷ 3 ∷ 2 ∷ 1 ∷ []) 11 "types do not agree" ∷ []) ≡ Equal
unfolding differs
holds12 = refl
