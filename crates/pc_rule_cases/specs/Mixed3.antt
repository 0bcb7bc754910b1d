-- Programs with many errors, and without: programs with the errors that they have.
use Rattle.std.specs.Prelude.{◌≡◌, [], ◌∷◌}
use Rattle.std.proofs.Common.{refl}
use Rattle.pc_syntax.specs.Plain.{Nil, Plain}
use Rattle.pc_syntax.specs.declared.kind.Kind.TheVariants as kind
use Rattle.pc_syntax.specs.declared.sort.Sort.TheVariants as sort
use Rattle.pc_rule_cases.specs.Trees.{program, node, name, word}
use Rattle.pc_rule_cases.specs.Compare.{Equal, entry, differs}
use Rattle.pc_rule_cases.specs.Lookups.{HereAt, LaterAt, MissingAt, RequiredAt, query, first_wrong}

-- A second procedure of one name: the first counts.
--   program a; procedure p; begin end; procedure p; var y: z; begin x := 1 end; begin p end.
abbrev tree1 : Plain
tree1 = program (name "a" (node kind.Heads Nil (node kind.Block (node kind.Consts Nil (node kind.Types Nil (node kind.Vars Nil (node kind.Routines (node kind.Procedure (name "p" (node kind.Params Nil (node kind.Block (node kind.Consts Nil (node kind.Types Nil (node kind.Vars Nil (node kind.Routines Nil (node kind.Compound (node kind.Stmts (node kind.Empty Nil Nil) Nil) Nil))))) Nil))) (node kind.Procedure (name "p" (node kind.Params Nil (node kind.Block (node kind.Consts Nil (node kind.Types Nil (node kind.Vars (node kind.Vardef (node kind.Names (name "y" Nil) (node kind.Tname (name "z" Nil) Nil)) Nil) (node kind.Routines Nil (node kind.Compound (node kind.Stmts (node kind.Assign (node kind.Ref (name "x" Nil) (word kind.Number "1" Nil Nil)) Nil) Nil) Nil))))) Nil))) Nil)) (node kind.Compound (node kind.Stmts (node kind.Proc (name "p" (node kind.Args Nil Nil)) Nil) Nil) Nil))))) Nil)))

holds1 : differs tree1 (entry (3 ∷ 4 ∷ 2 ∷ 1 ∷ []) 3 "declared twice: p" ∷ entry (3 ∷ 4 ∷ 2 ∷ 3 ∷ 3 ∷ 1 ∷ 2 ∷ 1 ∷ []) 1 "not declared: z" ∷ entry (3 ∷ 4 ∷ 2 ∷ 3 ∷ 5 ∷ 1 ∷ 1 ∷ 1 ∷ 1 ∷ []) 1 "not declared: x" ∷ []) ≡ Equal
unfolding differs
holds1 = refl

-- what names mean in it
looked_up1 : first_wrong tree1 (query "p" (3 ∷ 4 ∷ 1 ∷ 1 ∷ []) (HereAt (3 ∷ 4 ∷ 1 ∷ 1 ∷ [])) ∷ query "p" (3 ∷ 4 ∷ 2 ∷ 1 ∷ []) (HereAt (3 ∷ 4 ∷ 1 ∷ 1 ∷ [])) ∷ query "y" (3 ∷ 4 ∷ 2 ∷ 3 ∷ 3 ∷ 1 ∷ 1 ∷ 1 ∷ []) (HereAt (3 ∷ 4 ∷ 2 ∷ 3 ∷ 3 ∷ 1 ∷ 1 ∷ 1 ∷ [])) ∷ query "z" (3 ∷ 4 ∷ 2 ∷ 3 ∷ 3 ∷ 1 ∷ 2 ∷ 1 ∷ []) MissingAt ∷ query "x" (3 ∷ 4 ∷ 2 ∷ 3 ∷ 5 ∷ 1 ∷ 1 ∷ 1 ∷ 1 ∷ []) MissingAt ∷ query "p" (3 ∷ 5 ∷ 1 ∷ 1 ∷ 1 ∷ []) (HereAt (3 ∷ 4 ∷ 1 ∷ 1 ∷ [])) ∷ query "P" (3 ∷ 4 ∷ 2 ∷ 3 ∷ 5 ∷ []) (HereAt (3 ∷ 4 ∷ 1 ∷ 1 ∷ [])) ∷ query "Y" (3 ∷ 4 ∷ 2 ∷ 3 ∷ 5 ∷ []) (HereAt (3 ∷ 4 ∷ 2 ∷ 3 ∷ 3 ∷ 1 ∷ 1 ∷ 1 ∷ [])) ∷ query "Z" (3 ∷ 4 ∷ 2 ∷ 3 ∷ 5 ∷ []) MissingAt ∷ query "X" (3 ∷ 4 ∷ 2 ∷ 3 ∷ 5 ∷ []) MissingAt ∷ query "Integer" (3 ∷ 5 ∷ []) RequiredAt ∷ query "zz" (3 ∷ 5 ∷ []) MissingAt ∷ query "P" (2 ∷ []) MissingAt ∷ []) ≡ 0
unfolding first_wrong
looked_up1 = refl

-- Types are the same by one definition alone.
--   program a; type t = array [1..2] of integer; u = t; var a: t; b: u; c: array [1..2] of integer; d, e: record x: char end; f: array [1..2, 1..2] of
--   integer; begin a := b; a := c; d := e; f[1] := f[2]; f[1] := a end.
abbrev tree2 : Plain
tree2 = program (name "a" (node kind.Heads Nil (node kind.Block (node kind.Consts Nil (node kind.Types (node kind.Typedef (name "t" (node kind.Array (node kind.Indexes (node kind.Subrange (word kind.Cnumber "1" Nil (word kind.Cnumber "2" Nil Nil)) Nil) (node kind.Tname (name "integer" Nil) Nil)) Nil)) (node kind.Typedef (name "u" (node kind.Tname (name "t" Nil) Nil)) Nil)) (node kind.Vars (node kind.Vardef (node kind.Names (name "a" Nil) (node kind.Tname (name "t" Nil) Nil)) (node kind.Vardef (node kind.Names (name "b" Nil) (node kind.Tname (name "u" Nil) Nil)) (node kind.Vardef (node kind.Names (name "c" Nil) (node kind.Array (node kind.Indexes (node kind.Subrange (word kind.Cnumber "1" Nil (word kind.Cnumber "2" Nil Nil)) Nil) (node kind.Tname (name "integer" Nil) Nil)) Nil)) (node kind.Vardef (node kind.Names (name "d" (name "e" Nil)) (node kind.Record (node kind.Fields (node kind.Field (node kind.Names (name "x" Nil) (node kind.Tname (name "char" Nil) Nil)) Nil) Nil) Nil)) (node kind.Vardef (node kind.Names (name "f" Nil) (node kind.Array (node kind.Indexes (node kind.Subrange (word kind.Cnumber "1" Nil (word kind.Cnumber "2" Nil Nil)) (node kind.Subrange (word kind.Cnumber "1" Nil (word kind.Cnumber "2" Nil Nil)) Nil)) (node kind.Tname (name "integer" Nil) Nil)) Nil)) Nil))))) (node kind.Routines Nil (node kind.Compound (node kind.Stmts (node kind.Assign (node kind.Ref (name "a" Nil) (node kind.Ref (name "b" Nil) Nil)) (node kind.Assign (node kind.Ref (name "a" Nil) (node kind.Ref (name "c" Nil) Nil)) (node kind.Assign (node kind.Ref (name "d" Nil) (node kind.Ref (name "e" Nil) Nil)) (node kind.Assign (node kind.Index (node kind.Ref (name "f" Nil) (node kind.Exprs (word kind.Number "1" Nil Nil) Nil)) (node kind.Index (node kind.Ref (name "f" Nil) (node kind.Exprs (word kind.Number "2" Nil Nil) Nil)) Nil)) (node kind.Assign (node kind.Index (node kind.Ref (name "f" Nil) (node kind.Exprs (word kind.Number "1" Nil Nil) Nil)) (node kind.Ref (name "a" Nil) Nil)) Nil))))) Nil) Nil))))) Nil)))

holds2 : differs tree2 (entry (3 ∷ 5 ∷ 1 ∷ 2 ∷ []) 11 "types do not agree" ∷ entry (3 ∷ 5 ∷ 1 ∷ 5 ∷ []) 11 "types do not agree" ∷ []) ≡ Equal
unfolding differs
holds2 = refl

-- Sets of packed and of unpacked types.
--   program a; var s: set of char; p: packed set of char; begin s := p; s := ['a']; p := ['a']; p := p + ['b']; s := ['b'] + p; p := s + p end.
abbrev tree3 : Plain
tree3 = program (name "a" (node kind.Heads Nil (node kind.Block (node kind.Consts Nil (node kind.Types Nil (node kind.Vars (node kind.Vardef (node kind.Names (name "s" Nil) (node kind.Setof (node kind.Tname (name "char" Nil) Nil) Nil)) (node kind.Vardef (node kind.Names (name "p" Nil) (node kind.Packed (node kind.Setof (node kind.Tname (name "char" Nil) Nil) Nil) Nil)) Nil)) (node kind.Routines Nil (node kind.Compound (node kind.Stmts (node kind.Assign (node kind.Ref (name "s" Nil) (node kind.Ref (name "p" Nil) Nil)) (node kind.Assign (node kind.Ref (name "s" Nil) (node kind.Setcon (node kind.Members (word kind.Text "'a'" Nil Nil) Nil) Nil)) (node kind.Assign (node kind.Ref (name "p" Nil) (node kind.Setcon (node kind.Members (word kind.Text "'a'" Nil Nil) Nil) Nil)) (node kind.Assign (node kind.Ref (name "p" Nil) (word kind.Add "+" (node kind.Ref (name "p" Nil) (node kind.Setcon (node kind.Members (word kind.Text "'b'" Nil Nil) Nil) Nil)) Nil)) (node kind.Assign (node kind.Ref (name "s" Nil) (word kind.Add "+" (node kind.Setcon (node kind.Members (word kind.Text "'b'" Nil Nil) Nil) (node kind.Ref (name "p" Nil) Nil)) Nil)) (node kind.Assign (node kind.Ref (name "p" Nil) (word kind.Add "+" (node kind.Ref (name "s" Nil) (node kind.Ref (name "p" Nil) Nil)) Nil)) Nil)))))) Nil) Nil))))) Nil)))

holds3 : differs tree3 (entry (3 ∷ 5 ∷ 1 ∷ 1 ∷ []) 11 "types do not agree" ∷ entry (3 ∷ 5 ∷ 1 ∷ 5 ∷ []) 11 "types do not agree" ∷ entry (3 ∷ 5 ∷ 1 ∷ 6 ∷ 2 ∷ []) 11 "types do not agree" ∷ []) ≡ Equal
unfolding differs
holds3 = refl

-- Strings of equal and of other lengths.
--   program a; var s: packed array [1..3] of char; t: packed array [1..1] of char; u: array [1..3] of char; v: packed array [0..2] of char; begin s :=
--   'abc'; s := 'ab'; t := 'a'; u := 'abc'; v := 'abc'; if s < 'xyz' then; if u = u then end.
abbrev tree4 : Plain
tree4 = program (name "a" (node kind.Heads Nil (node kind.Block (node kind.Consts Nil (node kind.Types Nil (node kind.Vars (node kind.Vardef (node kind.Names (name "s" Nil) (node kind.Packed (node kind.Array (node kind.Indexes (node kind.Subrange (word kind.Cnumber "1" Nil (word kind.Cnumber "3" Nil Nil)) Nil) (node kind.Tname (name "char" Nil) Nil)) Nil) Nil)) (node kind.Vardef (node kind.Names (name "t" Nil) (node kind.Packed (node kind.Array (node kind.Indexes (node kind.Subrange (word kind.Cnumber "1" Nil (word kind.Cnumber "1" Nil Nil)) Nil) (node kind.Tname (name "char" Nil) Nil)) Nil) Nil)) (node kind.Vardef (node kind.Names (name "u" Nil) (node kind.Array (node kind.Indexes (node kind.Subrange (word kind.Cnumber "1" Nil (word kind.Cnumber "3" Nil Nil)) Nil) (node kind.Tname (name "char" Nil) Nil)) Nil)) (node kind.Vardef (node kind.Names (name "v" Nil) (node kind.Packed (node kind.Array (node kind.Indexes (node kind.Subrange (word kind.Cnumber "0" Nil (word kind.Cnumber "2" Nil Nil)) Nil) (node kind.Tname (name "char" Nil) Nil)) Nil) Nil)) Nil)))) (node kind.Routines Nil (node kind.Compound (node kind.Stmts (node kind.Assign (node kind.Ref (name "s" Nil) (word kind.Text "'abc'" Nil Nil)) (node kind.Assign (node kind.Ref (name "s" Nil) (word kind.Text "'ab'" Nil Nil)) (node kind.Assign (node kind.Ref (name "t" Nil) (word kind.Text "'a'" Nil Nil)) (node kind.Assign (node kind.Ref (name "u" Nil) (word kind.Text "'abc'" Nil Nil)) (node kind.Assign (node kind.Ref (name "v" Nil) (word kind.Text "'abc'" Nil Nil)) (node kind.If (word kind.Rel "<" (node kind.Ref (name "s" Nil) (word kind.Text "'xyz'" Nil Nil)) (node kind.Empty Nil Nil)) (node kind.If (word kind.Rel "=" (node kind.Ref (name "u" Nil) (node kind.Ref (name "u" Nil) Nil)) (node kind.Empty Nil Nil)) Nil))))))) Nil) Nil))))) Nil)))

holds4 : differs tree4 (entry (3 ∷ 5 ∷ 1 ∷ 2 ∷ []) 11 "types do not agree" ∷ entry (3 ∷ 5 ∷ 1 ∷ 3 ∷ []) 11 "types do not agree" ∷ entry (3 ∷ 5 ∷ 1 ∷ 4 ∷ []) 11 "types do not agree" ∷ entry (3 ∷ 5 ∷ 1 ∷ 5 ∷ []) 11 "types do not agree" ∷ entry (3 ∷ 5 ∷ 1 ∷ 7 ∷ 1 ∷ []) 11 "types do not agree" ∷ []) ≡ Equal
unfolding differs
holds4 = refl

-- A routine that hides a constant of the block around.
--   program a; const c = 1; var x: integer; procedure p(x: char); var y: integer; procedure c; begin end; begin end; begin end.
abbrev tree5 : Plain
tree5 = program (name "a" (node kind.Heads Nil (node kind.Block (node kind.Consts (node kind.Constdef (name "c" (word kind.Cnumber "1" Nil Nil)) Nil) (node kind.Types Nil (node kind.Vars (node kind.Vardef (node kind.Names (name "x" Nil) (node kind.Tname (name "integer" Nil) Nil)) Nil) (node kind.Routines (node kind.Procedure (name "p" (node kind.Params (node kind.Valparam (node kind.Names (name "x" Nil) (name "char" Nil)) Nil) (node kind.Block (node kind.Consts Nil (node kind.Types Nil (node kind.Vars (node kind.Vardef (node kind.Names (name "y" Nil) (node kind.Tname (name "integer" Nil) Nil)) Nil) (node kind.Routines (node kind.Procedure (name "c" (node kind.Params Nil (node kind.Block (node kind.Consts Nil (node kind.Types Nil (node kind.Vars Nil (node kind.Routines Nil (node kind.Compound (node kind.Stmts (node kind.Empty Nil Nil) Nil) Nil))))) Nil))) Nil) (node kind.Compound (node kind.Stmts (node kind.Empty Nil Nil) Nil) Nil))))) Nil))) Nil) (node kind.Compound (node kind.Stmts (node kind.Empty Nil Nil) Nil) Nil))))) Nil)))

holds5 : differs tree5 ([]) ≡ Equal
unfolding differs
holds5 = refl

-- what names mean in it
looked_up5 : first_wrong tree5 (query "c" (3 ∷ 1 ∷ 1 ∷ 1 ∷ []) (LaterAt (3 ∷ 1 ∷ 1 ∷ 1 ∷ [])) ∷ query "x" (3 ∷ 3 ∷ 1 ∷ 1 ∷ 1 ∷ []) (HereAt (3 ∷ 3 ∷ 1 ∷ 1 ∷ 1 ∷ [])) ∷ query "integer" (3 ∷ 3 ∷ 1 ∷ 2 ∷ 1 ∷ []) RequiredAt ∷ query "p" (3 ∷ 4 ∷ 1 ∷ 1 ∷ []) (HereAt (3 ∷ 4 ∷ 1 ∷ 1 ∷ [])) ∷ query "x" (3 ∷ 4 ∷ 1 ∷ 2 ∷ 1 ∷ 1 ∷ 1 ∷ []) (HereAt (3 ∷ 3 ∷ 1 ∷ 1 ∷ 1 ∷ [])) ∷ query "char" (3 ∷ 4 ∷ 1 ∷ 2 ∷ 1 ∷ 2 ∷ []) RequiredAt ∷ query "y" (3 ∷ 4 ∷ 1 ∷ 3 ∷ 3 ∷ 1 ∷ 1 ∷ 1 ∷ []) (HereAt (3 ∷ 4 ∷ 1 ∷ 3 ∷ 3 ∷ 1 ∷ 1 ∷ 1 ∷ [])) ∷ query "integer" (3 ∷ 4 ∷ 1 ∷ 3 ∷ 3 ∷ 1 ∷ 2 ∷ 1 ∷ []) RequiredAt ∷ query "c" (3 ∷ 4 ∷ 1 ∷ 3 ∷ 4 ∷ 1 ∷ 1 ∷ []) (HereAt (3 ∷ 4 ∷ 1 ∷ 3 ∷ 4 ∷ 1 ∷ 1 ∷ [])) ∷ query "C" (3 ∷ 4 ∷ 1 ∷ 3 ∷ 4 ∷ 1 ∷ 3 ∷ 5 ∷ []) (HereAt (3 ∷ 4 ∷ 1 ∷ 3 ∷ 4 ∷ 1 ∷ 1 ∷ [])) ∷ query "X" (3 ∷ 4 ∷ 1 ∷ 3 ∷ 4 ∷ 1 ∷ 3 ∷ 5 ∷ []) (HereAt (3 ∷ 4 ∷ 1 ∷ 2 ∷ 1 ∷ 1 ∷ 1 ∷ [])) ∷ query "INTEGER" (3 ∷ 4 ∷ 1 ∷ 3 ∷ 4 ∷ 1 ∷ 3 ∷ 5 ∷ []) RequiredAt ∷ query "P" (3 ∷ 4 ∷ 1 ∷ 3 ∷ 4 ∷ 1 ∷ 3 ∷ 5 ∷ []) (HereAt (3 ∷ 4 ∷ 1 ∷ 1 ∷ [])) ∷ query "Integer" (3 ∷ 5 ∷ []) RequiredAt ∷ query "zz" (3 ∷ 5 ∷ []) MissingAt ∷ query "C" (2 ∷ []) MissingAt ∷ []) ≡ 0
unfolding first_wrong
looked_up5 = refl

-- A later declaration takes the parameters of the forward heading.
--   program a; procedure p(x: char); forward; procedure q; begin end; procedure p; begin x := x end; begin p(1) end.
abbrev tree6 : Plain
tree6 = program (name "a" (node kind.Heads Nil (node kind.Block (node kind.Consts Nil (node kind.Types Nil (node kind.Vars Nil (node kind.Routines (node kind.Procedure (name "p" (node kind.Params (node kind.Valparam (node kind.Names (name "x" Nil) (name "char" Nil)) Nil) (word kind.Forward "forward" Nil Nil))) (node kind.Procedure (name "q" (node kind.Params Nil (node kind.Block (node kind.Consts Nil (node kind.Types Nil (node kind.Vars Nil (node kind.Routines Nil (node kind.Compound (node kind.Stmts (node kind.Empty Nil Nil) Nil) Nil))))) Nil))) (node kind.Procedure (name "p" (node kind.Params Nil (node kind.Block (node kind.Consts Nil (node kind.Types Nil (node kind.Vars Nil (node kind.Routines Nil (node kind.Compound (node kind.Stmts (node kind.Assign (node kind.Ref (name "x" Nil) (node kind.Ref (name "x" Nil) Nil)) Nil) Nil) Nil))))) Nil))) Nil))) (node kind.Compound (node kind.Stmts (node kind.Proc (name "p" (node kind.Args (word kind.Number "1" Nil Nil) Nil)) Nil) Nil) Nil))))) Nil)))

holds6 : differs tree6 (entry (3 ∷ 5 ∷ 1 ∷ 1 ∷ 2 ∷ 1 ∷ []) 11 "types do not agree" ∷ []) ≡ Equal
unfolding differs
holds6 = refl

-- what names mean in it
looked_up6 : first_wrong tree6 (query "p" (3 ∷ 4 ∷ 1 ∷ 1 ∷ []) (HereAt (3 ∷ 4 ∷ 1 ∷ 1 ∷ [])) ∷ query "x" (3 ∷ 4 ∷ 1 ∷ 2 ∷ 1 ∷ 1 ∷ 1 ∷ []) MissingAt ∷ query "char" (3 ∷ 4 ∷ 1 ∷ 2 ∷ 1 ∷ 2 ∷ []) RequiredAt ∷ query "q" (3 ∷ 4 ∷ 2 ∷ 1 ∷ []) (HereAt (3 ∷ 4 ∷ 2 ∷ 1 ∷ [])) ∷ query "p" (3 ∷ 4 ∷ 3 ∷ 1 ∷ []) (HereAt (3 ∷ 4 ∷ 1 ∷ 1 ∷ [])) ∷ query "x" (3 ∷ 4 ∷ 3 ∷ 3 ∷ 5 ∷ 1 ∷ 1 ∷ 1 ∷ 1 ∷ []) (HereAt (3 ∷ 4 ∷ 1 ∷ 2 ∷ 1 ∷ 1 ∷ 1 ∷ [])) ∷ query "x" (3 ∷ 4 ∷ 3 ∷ 3 ∷ 5 ∷ 1 ∷ 1 ∷ 2 ∷ 1 ∷ []) (HereAt (3 ∷ 4 ∷ 1 ∷ 2 ∷ 1 ∷ 1 ∷ 1 ∷ [])) ∷ query "p" (3 ∷ 5 ∷ 1 ∷ 1 ∷ 1 ∷ []) (HereAt (3 ∷ 4 ∷ 1 ∷ 1 ∷ [])) ∷ query "P" (3 ∷ 4 ∷ 3 ∷ 3 ∷ 5 ∷ []) (HereAt (3 ∷ 4 ∷ 1 ∷ 1 ∷ [])) ∷ query "X" (3 ∷ 4 ∷ 3 ∷ 3 ∷ 5 ∷ []) (HereAt (3 ∷ 4 ∷ 1 ∷ 2 ∷ 1 ∷ 1 ∷ 1 ∷ [])) ∷ query "CHAR" (3 ∷ 4 ∷ 3 ∷ 3 ∷ 5 ∷ []) RequiredAt ∷ query "Q" (3 ∷ 4 ∷ 3 ∷ 3 ∷ 5 ∷ []) (HereAt (3 ∷ 4 ∷ 2 ∷ 1 ∷ [])) ∷ query "Integer" (3 ∷ 5 ∷ []) RequiredAt ∷ query "zz" (3 ∷ 5 ∷ []) MissingAt ∷ query "P" (2 ∷ []) MissingAt ∷ []) ≡ 0
unfolding first_wrong
looked_up6 = refl

-- With hides a variable by a field; an undeclared name.
--   program a; var r: record f: integer end; f: char; begin with r do f := r.f; f := zork end.
abbrev tree7 : Plain
tree7 = program (name "a" (node kind.Heads Nil (node kind.Block (node kind.Consts Nil (node kind.Types Nil (node kind.Vars (node kind.Vardef (node kind.Names (name "r" Nil) (node kind.Record (node kind.Fields (node kind.Field (node kind.Names (name "f" Nil) (node kind.Tname (name "integer" Nil) Nil)) Nil) Nil) Nil)) (node kind.Vardef (node kind.Names (name "f" Nil) (node kind.Tname (name "char" Nil) Nil)) Nil)) (node kind.Routines Nil (node kind.Compound (node kind.Stmts (node kind.With (node kind.Accesses (node kind.Ref (name "r" Nil) Nil) (node kind.Assign (node kind.Ref (name "f" Nil) (node kind.Select (node kind.Ref (name "r" Nil) (name "f" Nil)) Nil)) Nil)) (node kind.Assign (node kind.Ref (name "f" Nil) (node kind.Ref (name "zork" Nil) Nil)) Nil)) Nil) Nil))))) Nil)))

holds7 : differs tree7 (entry (3 ∷ 5 ∷ 1 ∷ 2 ∷ 2 ∷ 1 ∷ []) 1 "not declared: zork" ∷ []) ≡ Equal
unfolding differs
holds7 = refl

-- Indexes of two types, sets of subranges, succ of a subrange.
--   program a; var v: array [1..2, 'a'..'c'] of char; s: set of 1..5; x: 1..5; begin v[1, 'b'] := 'x'; s := s + [x]; x := succ(x) end.
abbrev tree8 : Plain
tree8 = program (name "a" (node kind.Heads Nil (node kind.Block (node kind.Consts Nil (node kind.Types Nil (node kind.Vars (node kind.Vardef (node kind.Names (name "v" Nil) (node kind.Array (node kind.Indexes (node kind.Subrange (word kind.Cnumber "1" Nil (word kind.Cnumber "2" Nil Nil)) (node kind.Subrange (word kind.Cstring "'a'" Nil (word kind.Cstring "'c'" Nil Nil)) Nil)) (node kind.Tname (name "char" Nil) Nil)) Nil)) (node kind.Vardef (node kind.Names (name "s" Nil) (node kind.Setof (node kind.Subrange (word kind.Cnumber "1" Nil (word kind.Cnumber "5" Nil Nil)) Nil) Nil)) (node kind.Vardef (node kind.Names (name "x" Nil) (node kind.Subrange (word kind.Cnumber "1" Nil (word kind.Cnumber "5" Nil Nil)) Nil)) Nil))) (node kind.Routines Nil (node kind.Compound (node kind.Stmts (node kind.Assign (node kind.Index (node kind.Ref (name "v" Nil) (node kind.Exprs (word kind.Number "1" Nil (word kind.Text "'b'" Nil Nil)) Nil)) (word kind.Text "'x'" Nil Nil)) (node kind.Assign (node kind.Ref (name "s" Nil) (word kind.Add "+" (node kind.Ref (name "s" Nil) (node kind.Setcon (node kind.Members (node kind.Ref (name "x" Nil) Nil) Nil) Nil)) Nil)) (node kind.Assign (node kind.Ref (name "x" Nil) (node kind.Call (name "succ" (node kind.Exprs (node kind.Ref (name "x" Nil) Nil) Nil)) Nil)) Nil))) Nil) Nil))))) Nil)))

holds8 : differs tree8 ([]) ≡ Equal
unfolding differs
holds8 = refl

-- Constants, denoters and parameters without an error, a hole among them.
--   program a; const c = 'x'; d = 'xy'; type t = 'a'..c; u = false..true; v = packed set of u; w = record end; x = ?type; y = -3..-1; procedure p(var Q,
--   r: t); forward; begin end.
abbrev tree9 : Plain
tree9 = program (name "a" (node kind.Heads Nil (node kind.Block (node kind.Consts (node kind.Constdef (name "c" (word kind.Cstring "'x'" Nil Nil)) (node kind.Constdef (name "d" (word kind.Cstring "'xy'" Nil Nil)) Nil)) (node kind.Types (node kind.Typedef (name "t" (node kind.Subrange (word kind.Cstring "'a'" Nil (node kind.Cname (name "c" Nil) Nil)) Nil)) (node kind.Typedef (name "u" (node kind.Subrange (node kind.Cname (name "false" Nil) (node kind.Cname (name "true" Nil) Nil)) Nil)) (node kind.Typedef (name "v" (node kind.Packed (node kind.Setof (node kind.Tname (name "u" Nil) Nil) Nil) Nil)) (node kind.Typedef (name "w" (node kind.Record0 Nil Nil)) (node kind.Typedef (name "x" (node (kind.Hole sort.Denoter) Nil Nil)) (node kind.Typedef (name "y" (node kind.Subrange (word kind.Csign "-" (word kind.Cnumber "3" Nil Nil) (word kind.Csign "-" (word kind.Cnumber "1" Nil Nil) Nil)) Nil)) Nil)))))) (node kind.Vars Nil (node kind.Routines (node kind.Procedure (name "p" (node kind.Params (node kind.Varparam (node kind.Names (name "Q" (name "r" Nil)) (name "t" Nil)) Nil) (word kind.Forward "forward" Nil Nil))) Nil) (node kind.Compound (node kind.Stmts (node kind.Empty Nil Nil) Nil) Nil))))) Nil)))

holds9 : differs tree9 (entry (3 ∷ 4 ∷ 1 ∷ []) 20 "forward has no block: p" ∷ []) ≡ Equal
unfolding differs
holds9 = refl

-- With hides a variable by a field that has no type for the assignment.
--   program a; var x, y: integer; r: record x: char end; procedure p; begin x := x end; begin with r do x := x; r.x := z; p end.
abbrev tree10 : Plain
tree10 = program (name "a" (node kind.Heads Nil (node kind.Block (node kind.Consts Nil (node kind.Types Nil (node kind.Vars (node kind.Vardef (node kind.Names (name "x" (name "y" Nil)) (node kind.Tname (name "integer" Nil) Nil)) (node kind.Vardef (node kind.Names (name "r" Nil) (node kind.Record (node kind.Fields (node kind.Field (node kind.Names (name "x" Nil) (node kind.Tname (name "char" Nil) Nil)) Nil) Nil) Nil)) Nil)) (node kind.Routines (node kind.Procedure (name "p" (node kind.Params Nil (node kind.Block (node kind.Consts Nil (node kind.Types Nil (node kind.Vars Nil (node kind.Routines Nil (node kind.Compound (node kind.Stmts (node kind.Assign (node kind.Ref (name "x" Nil) (node kind.Ref (name "x" Nil) Nil)) Nil) Nil) Nil))))) Nil))) Nil) (node kind.Compound (node kind.Stmts (node kind.With (node kind.Accesses (node kind.Ref (name "r" Nil) Nil) (node kind.Assign (node kind.Ref (name "x" Nil) (node kind.Ref (name "x" Nil) Nil)) Nil)) (node kind.Assign (node kind.Select (node kind.Ref (name "r" Nil) (name "x" Nil)) (node kind.Ref (name "z" Nil) Nil)) (node kind.Proc (name "p" (node kind.Args Nil Nil)) Nil))) Nil) Nil))))) Nil)))

holds10 : differs tree10 (entry (3 ∷ 5 ∷ 1 ∷ 2 ∷ 2 ∷ 1 ∷ []) 1 "not declared: z" ∷ []) ≡ Equal
unfolding differs
holds10 = refl

-- Calls and operators in an argument of write, a hole among them.
--   program a; type r = record f: 1..5 end; var v: array [1..2] of r; function g(x: char): boolean; begin g := true end; begin write(v[1].f + 2 * (3):4,
--   g('a'), zork, not ?expression, [1..2, 3], [], 'ab') end.
abbrev tree11 : Plain
tree11 = program (name "a" (node kind.Heads Nil (node kind.Block (node kind.Consts Nil (node kind.Types (node kind.Typedef (name "r" (node kind.Record (node kind.Fields (node kind.Field (node kind.Names (name "f" Nil) (node kind.Subrange (word kind.Cnumber "1" Nil (word kind.Cnumber "5" Nil Nil)) Nil)) Nil) Nil) Nil)) Nil) (node kind.Vars (node kind.Vardef (node kind.Names (name "v" Nil) (node kind.Array (node kind.Indexes (node kind.Subrange (word kind.Cnumber "1" Nil (word kind.Cnumber "2" Nil Nil)) Nil) (node kind.Tname (name "r" Nil) Nil)) Nil)) Nil) (node kind.Routines (node kind.Function (name "g" (node kind.Params (node kind.Valparam (node kind.Names (name "x" Nil) (name "char" Nil)) Nil) (name "boolean" (node kind.Block (node kind.Consts Nil (node kind.Types Nil (node kind.Vars Nil (node kind.Routines Nil (node kind.Compound (node kind.Stmts (node kind.Assign (node kind.Ref (name "g" Nil) (node kind.Ref (name "true" Nil) Nil)) Nil) Nil) Nil))))) Nil)))) Nil) (node kind.Compound (node kind.Stmts (node kind.Proc (name "write" (node kind.Args (node kind.Width (word kind.Add "+" (node kind.Select (node kind.Index (node kind.Ref (name "v" Nil) (node kind.Exprs (word kind.Number "1" Nil Nil) Nil)) (name "f" Nil)) (word kind.Mul "*" (word kind.Number "2" Nil (node kind.Parens (word kind.Number "3" Nil Nil) Nil)) Nil)) (word kind.Number "4" Nil Nil)) (node kind.Call (name "g" (node kind.Exprs (word kind.Text "'a'" Nil Nil) Nil)) (node kind.Ref (name "zork" Nil) (node kind.Not (node (kind.Hole sort.Expression) Nil Nil) (node kind.Setcon (node kind.Members (node kind.Span (word kind.Number "1" Nil (word kind.Number "2" Nil Nil)) (word kind.Number "3" Nil Nil)) Nil) (node kind.Setcon (node kind.Members Nil Nil) (word kind.Text "'ab'" Nil Nil))))))) Nil)) Nil) Nil) Nil))))) Nil)))

holds11 : differs tree11 (entry (3 ∷ 5 ∷ 1 ∷ 1 ∷ 2 ∷ 3 ∷ 1 ∷ []) 1 "not declared: zork" ∷ entry (3 ∷ 5 ∷ 1 ∷ 1 ∷ 2 ∷ 5 ∷ []) 23 "cannot be written" ∷ entry (3 ∷ 5 ∷ 1 ∷ 1 ∷ 2 ∷ 6 ∷ []) 23 "cannot be written" ∷ []) ≡ Equal
unfolding differs
holds11 = refl

-- Holes in the place of a statement and of a condition.
--   program a; begin repeat ?statement until ?expression end.
abbrev tree12 : Plain
tree12 = program (name "a" (node kind.Heads Nil (node kind.Block (node kind.Consts Nil (node kind.Types Nil (node kind.Vars Nil (node kind.Routines Nil (node kind.Compound (node kind.Stmts (node kind.Repeat (node kind.Stmts (node (kind.Hole sort.Statement) Nil Nil) (node (kind.Hole sort.Expression) Nil Nil)) Nil) Nil) Nil))))) Nil)))

holds12 : differs tree12 ([]) ≡ Equal
unfolding differs
holds12 = refl
