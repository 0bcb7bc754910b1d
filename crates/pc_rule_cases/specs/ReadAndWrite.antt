-- What can be read and written: programs with the errors that they have.
use Rattle.std.specs.Prelude.{◌≡◌, [], ◌∷◌}
use Rattle.std.proofs.Common.{refl}
use Rattle.pc_syntax.specs.Plain.{Nil, Plain}
use Rattle.pc_syntax.specs.declared.kind.Kind.TheVariants as kind
use Rattle.pc_syntax.specs.declared.sort.Sort.TheVariants as sort
use Rattle.pc_rule_cases.specs.Trees.{program, node, name, word}
use Rattle.pc_rule_cases.specs.Compare.{Equal, entry, differs}

-- A file with a width is no file argument.
--   program p; begin writeln(output:3) end.
abbrev tree1 : Plain
tree1 = program (name "p" (node kind.Heads Nil (node kind.Block (node kind.Consts Nil (node kind.Types Nil (node kind.Vars Nil (node kind.Routines Nil (node kind.Compound (node kind.Stmts (node kind.Proc (name "writeln" (node kind.Args (node kind.Width (node kind.Ref (name "output" Nil) (word kind.Number "3" Nil Nil)) Nil) Nil)) Nil) Nil) Nil))))) Nil)))

holds1 : differs tree1 (entry (3 ∷ 5 ∷ 1 ∷ 1 ∷ 2 ∷ 1 ∷ 1 ∷ 1 ∷ []) 4 "not a variable: output" ∷ []) ≡ Equal
unfolding differs
holds1 = refl

-- Row 23 needs the type: none for undeclared names, holes, bad types.
--   program p; var t: t; begin read(y); write(?expression); write(t); read(t); write(1 + true) end.
abbrev tree2 : Plain
tree2 = program (name "p" (node kind.Heads Nil (node kind.Block (node kind.Consts Nil (node kind.Types Nil (node kind.Vars (node kind.Vardef (node kind.Names (name "t" Nil) (node kind.Tname (name "t" Nil) Nil)) Nil) (node kind.Routines Nil (node kind.Compound (node kind.Stmts (node kind.Proc (name "read" (node kind.Args (node kind.Ref (name "y" Nil) Nil) Nil)) (node kind.Proc (name "write" (node kind.Args (node (kind.Hole sort.Expression) Nil Nil) Nil)) (node kind.Proc (name "write" (node kind.Args (node kind.Ref (name "t" Nil) Nil) Nil)) (node kind.Proc (name "read" (node kind.Args (node kind.Ref (name "t" Nil) Nil) Nil)) (node kind.Proc (name "write" (node kind.Args (word kind.Add "+" (word kind.Number "1" Nil (node kind.Ref (name "true" Nil) Nil)) Nil) Nil)) Nil))))) Nil) Nil))))) Nil)))

holds2 : differs tree2 (entry (3 ∷ 3 ∷ 1 ∷ 2 ∷ 1 ∷ []) 4 "not a type: t" ∷ entry (3 ∷ 5 ∷ 1 ∷ 1 ∷ 2 ∷ 1 ∷ 1 ∷ []) 1 "not declared: y" ∷ entry (3 ∷ 5 ∷ 1 ∷ 5 ∷ 2 ∷ 1 ∷ []) 11 "types do not agree" ∷ []) ≡ Equal
unfolding differs
holds2 = refl

-- Row 23: the entry of a value with a width stands at the width node, which is the argument.
--   program p; type c = (red); begin write(red:3) end.
abbrev tree3 : Plain
tree3 = program (name "p" (node kind.Heads Nil (node kind.Block (node kind.Consts Nil (node kind.Types (node kind.Typedef (name "c" (node kind.Enum (node kind.Names (name "red" Nil) Nil) Nil)) Nil) (node kind.Vars Nil (node kind.Routines Nil (node kind.Compound (node kind.Stmts (node kind.Proc (name "write" (node kind.Args (node kind.Width (node kind.Ref (name "red" Nil) (word kind.Number "3" Nil Nil)) Nil) Nil)) Nil) Nil) Nil))))) Nil)))

holds3 : differs tree3 (entry (3 ∷ 5 ∷ 1 ∷ 1 ∷ 2 ∷ 1 ∷ []) 23 "cannot be written" ∷ []) ≡ Equal
unfolding differs
holds3 = refl

-- Row 23: a pointer can neither be read nor written; what it points to can.
--   program p; var q: ^integer; begin read(q); write(q); read(q^); write(q^) end.
abbrev tree4 : Plain
tree4 = program (name "p" (node kind.Heads Nil (node kind.Block (node kind.Consts Nil (node kind.Types Nil (node kind.Vars (node kind.Vardef (node kind.Names (name "q" Nil) (node kind.Pointer (name "integer" Nil) Nil)) Nil) (node kind.Routines Nil (node kind.Compound (node kind.Stmts (node kind.Proc (name "read" (node kind.Args (node kind.Ref (name "q" Nil) Nil) Nil)) (node kind.Proc (name "write" (node kind.Args (node kind.Ref (name "q" Nil) Nil) Nil)) (node kind.Proc (name "read" (node kind.Args (node kind.Deref (node kind.Ref (name "q" Nil) Nil) Nil) Nil)) (node kind.Proc (name "write" (node kind.Args (node kind.Deref (node kind.Ref (name "q" Nil) Nil) Nil) Nil)) Nil)))) Nil) Nil))))) Nil)))

holds4 : differs tree4 (entry (3 ∷ 5 ∷ 1 ∷ 1 ∷ 2 ∷ 1 ∷ []) 23 "cannot be read" ∷ entry (3 ∷ 5 ∷ 1 ∷ 2 ∷ 2 ∷ 1 ∷ []) 23 "cannot be written" ∷ []) ≡ Equal
unfolding differs
holds4 = refl

-- The file is taken as the first argument alone.
--   program p; var x: integer; begin read(input, input, x); writeln(output, output) end.
abbrev tree5 : Plain
tree5 = program (name "p" (node kind.Heads Nil (node kind.Block (node kind.Consts Nil (node kind.Types Nil (node kind.Vars (node kind.Vardef (node kind.Names (name "x" Nil) (node kind.Tname (name "integer" Nil) Nil)) Nil) (node kind.Routines Nil (node kind.Compound (node kind.Stmts (node kind.Proc (name "read" (node kind.Args (node kind.Ref (name "input" Nil) (node kind.Ref (name "input" Nil) (node kind.Ref (name "x" Nil) Nil))) Nil)) (node kind.Proc (name "writeln" (node kind.Args (node kind.Ref (name "output" Nil) (node kind.Ref (name "output" Nil) Nil)) Nil)) Nil)) Nil) Nil))))) Nil)))

holds5 : differs tree5 (entry (3 ∷ 5 ∷ 1 ∷ 1 ∷ 2 ∷ 2 ∷ 1 ∷ []) 4 "not a variable: input" ∷ entry (3 ∷ 5 ∷ 1 ∷ 2 ∷ 2 ∷ 2 ∷ 1 ∷ []) 4 "not a variable: output" ∷ []) ≡ Equal
unfolding differs
holds5 = refl

-- Row 23: read takes integers and chars and subranges of them.
--   program p; type c = (red); var i: 1..5; b: boolean; x: c; s: packed array [1..3] of char; k: set of char; begin read(i, b); read(x); read(s);
--   read(s[1]); readln(k) end.
abbrev tree6 : Plain
tree6 = program (name "p" (node kind.Heads Nil (node kind.Block (node kind.Consts Nil (node kind.Types (node kind.Typedef (name "c" (node kind.Enum (node kind.Names (name "red" Nil) Nil) Nil)) Nil) (node kind.Vars (node kind.Vardef (node kind.Names (name "i" Nil) (node kind.Subrange (word kind.Cnumber "1" Nil (word kind.Cnumber "5" Nil Nil)) Nil)) (node kind.Vardef (node kind.Names (name "b" Nil) (node kind.Tname (name "boolean" Nil) Nil)) (node kind.Vardef (node kind.Names (name "x" Nil) (node kind.Tname (name "c" Nil) Nil)) (node kind.Vardef (node kind.Names (name "s" Nil) (node kind.Packed (node kind.Array (node kind.Indexes (node kind.Subrange (word kind.Cnumber "1" Nil (word kind.Cnumber "3" Nil Nil)) Nil) (node kind.Tname (name "char" Nil) Nil)) Nil) Nil)) (node kind.Vardef (node kind.Names (name "k" Nil) (node kind.Setof (node kind.Tname (name "char" Nil) Nil) Nil)) Nil))))) (node kind.Routines Nil (node kind.Compound (node kind.Stmts (node kind.Proc (name "read" (node kind.Args (node kind.Ref (name "i" Nil) (node kind.Ref (name "b" Nil) Nil)) Nil)) (node kind.Proc (name "read" (node kind.Args (node kind.Ref (name "x" Nil) Nil) Nil)) (node kind.Proc (name "read" (node kind.Args (node kind.Ref (name "s" Nil) Nil) Nil)) (node kind.Proc (name "read" (node kind.Args (node kind.Index (node kind.Ref (name "s" Nil) (node kind.Exprs (word kind.Number "1" Nil Nil) Nil)) Nil) Nil)) (node kind.Proc (name "readln" (node kind.Args (node kind.Ref (name "k" Nil) Nil) Nil)) Nil))))) Nil) Nil))))) Nil)))

holds6 : differs tree6 (entry (3 ∷ 5 ∷ 1 ∷ 1 ∷ 2 ∷ 2 ∷ []) 23 "cannot be read" ∷ entry (3 ∷ 5 ∷ 1 ∷ 2 ∷ 2 ∷ 1 ∷ []) 23 "cannot be read" ∷ entry (3 ∷ 5 ∷ 1 ∷ 3 ∷ 2 ∷ 1 ∷ []) 23 "cannot be read" ∷ entry (3 ∷ 5 ∷ 1 ∷ 5 ∷ 2 ∷ 1 ∷ []) 23 "cannot be read" ∷ []) ≡ Equal
unfolding differs
holds6 = refl

-- Row 23, the neighbour: subranges of char and Boolean in write.
--   program p; var a: 'a'..'z'; b: false..true; begin write(a, b); read(a) end.
abbrev tree7 : Plain
tree7 = program (name "p" (node kind.Heads Nil (node kind.Block (node kind.Consts Nil (node kind.Types Nil (node kind.Vars (node kind.Vardef (node kind.Names (name "a" Nil) (node kind.Subrange (word kind.Cstring "'a'" Nil (word kind.Cstring "'z'" Nil Nil)) Nil)) (node kind.Vardef (node kind.Names (name "b" Nil) (node kind.Subrange (node kind.Cname (name "false" Nil) (node kind.Cname (name "true" Nil) Nil)) Nil)) Nil)) (node kind.Routines Nil (node kind.Compound (node kind.Stmts (node kind.Proc (name "write" (node kind.Args (node kind.Ref (name "a" Nil) (node kind.Ref (name "b" Nil) Nil)) Nil)) (node kind.Proc (name "read" (node kind.Args (node kind.Ref (name "a" Nil) Nil) Nil)) Nil)) Nil) Nil))))) Nil)))

holds7 : differs tree7 ([]) ≡ Equal
unfolding differs
holds7 = refl

-- Rows 23 and 24 at one argument: value and width both wrong.
--   program p; type c = (red); begin write(red:'a'); write([]:true) end.
abbrev tree8 : Plain
tree8 = program (name "p" (node kind.Heads Nil (node kind.Block (node kind.Consts Nil (node kind.Types (node kind.Typedef (name "c" (node kind.Enum (node kind.Names (name "red" Nil) Nil) Nil)) Nil) (node kind.Vars Nil (node kind.Routines Nil (node kind.Compound (node kind.Stmts (node kind.Proc (name "write" (node kind.Args (node kind.Width (node kind.Ref (name "red" Nil) (word kind.Text "'a'" Nil Nil)) Nil) Nil)) (node kind.Proc (name "write" (node kind.Args (node kind.Width (node kind.Setcon (node kind.Members Nil Nil) (node kind.Ref (name "true" Nil) Nil)) Nil) Nil)) Nil)) Nil) Nil))))) Nil)))

holds8 : differs tree8 (entry (3 ∷ 5 ∷ 1 ∷ 1 ∷ 2 ∷ 1 ∷ []) 23 "cannot be written" ∷ entry (3 ∷ 5 ∷ 1 ∷ 1 ∷ 2 ∷ 1 ∷ []) 24 "width not allowed" ∷ entry (3 ∷ 5 ∷ 1 ∷ 2 ∷ 2 ∷ 1 ∷ []) 23 "cannot be written" ∷ entry (3 ∷ 5 ∷ 1 ∷ 2 ∷ 2 ∷ 1 ∷ []) 24 "width not allowed" ∷ []) ≡ Equal
unfolding differs
holds8 = refl

-- Row 23: write takes integers, chars, Booleans and strings.
--   program p; type c = (red); var x: c; a: array [1..3] of char; s: packed array [1..3] of char; r: record end; begin write(1, 'a', true, 'ab', s);
--   write(x); write(a); write([1]); write(r); write(nil); writeln(red) end.
abbrev tree9 : Plain
tree9 = program (name "p" (node kind.Heads Nil (node kind.Block (node kind.Consts Nil (node kind.Types (node kind.Typedef (name "c" (node kind.Enum (node kind.Names (name "red" Nil) Nil) Nil)) Nil) (node kind.Vars (node kind.Vardef (node kind.Names (name "x" Nil) (node kind.Tname (name "c" Nil) Nil)) (node kind.Vardef (node kind.Names (name "a" Nil) (node kind.Array (node kind.Indexes (node kind.Subrange (word kind.Cnumber "1" Nil (word kind.Cnumber "3" Nil Nil)) Nil) (node kind.Tname (name "char" Nil) Nil)) Nil)) (node kind.Vardef (node kind.Names (name "s" Nil) (node kind.Packed (node kind.Array (node kind.Indexes (node kind.Subrange (word kind.Cnumber "1" Nil (word kind.Cnumber "3" Nil Nil)) Nil) (node kind.Tname (name "char" Nil) Nil)) Nil) Nil)) (node kind.Vardef (node kind.Names (name "r" Nil) (node kind.Record0 Nil Nil)) Nil)))) (node kind.Routines Nil (node kind.Compound (node kind.Stmts (node kind.Proc (name "write" (node kind.Args (word kind.Number "1" Nil (word kind.Text "'a'" Nil (node kind.Ref (name "true" Nil) (word kind.Text "'ab'" Nil (node kind.Ref (name "s" Nil) Nil))))) Nil)) (node kind.Proc (name "write" (node kind.Args (node kind.Ref (name "x" Nil) Nil) Nil)) (node kind.Proc (name "write" (node kind.Args (node kind.Ref (name "a" Nil) Nil) Nil)) (node kind.Proc (name "write" (node kind.Args (node kind.Setcon (node kind.Members (word kind.Number "1" Nil Nil) Nil) Nil) Nil)) (node kind.Proc (name "write" (node kind.Args (node kind.Ref (name "r" Nil) Nil) Nil)) (node kind.Proc (name "write" (node kind.Args (node kind.Nil Nil Nil) Nil)) (node kind.Proc (name "writeln" (node kind.Args (node kind.Ref (name "red" Nil) Nil) Nil)) Nil))))))) Nil) Nil))))) Nil)))

holds9 : differs tree9 (entry (3 ∷ 5 ∷ 1 ∷ 2 ∷ 2 ∷ 1 ∷ []) 23 "cannot be written" ∷ entry (3 ∷ 5 ∷ 1 ∷ 3 ∷ 2 ∷ 1 ∷ []) 23 "cannot be written" ∷ entry (3 ∷ 5 ∷ 1 ∷ 4 ∷ 2 ∷ 1 ∷ []) 23 "cannot be written" ∷ entry (3 ∷ 5 ∷ 1 ∷ 5 ∷ 2 ∷ 1 ∷ []) 23 "cannot be written" ∷ entry (3 ∷ 5 ∷ 1 ∷ 6 ∷ 2 ∷ 1 ∷ []) 23 "cannot be written" ∷ entry (3 ∷ 5 ∷ 1 ∷ 7 ∷ 2 ∷ 1 ∷ []) 23 "cannot be written" ∷ []) ≡ Equal
unfolding differs
holds9 = refl
