-- Types that agree, and that don't: programs with the errors that they have.
use Rattle.std.specs.Prelude.{◌≡◌, [], ◌∷◌}
use Rattle.std.proofs.Common.{refl}
use Rattle.pc_syntax.specs.Plain.{Nil, Plain}
use Rattle.pc_syntax.specs.declared.kind.Kind.TheVariants as kind
use Rattle.pc_rule_cases.specs.Trees.{program, node, name, word}
use Rattle.pc_rule_cases.specs.Compare.{Equal, entry, differs}

-- Row 11 at an argument: a value must be assignable, a variable of the same type.
--   program p; type small = 1..5; var s: small; i: integer; procedure v(a: small); begin end; procedure w(var a: small); begin end; begin v(i); v(7);
--   v('a'); w(s); w(i) end.
abbrev tree1 : Plain
tree1 = program (name "p" (node kind.Heads Nil (node kind.Block (node kind.Consts Nil (node kind.Types (node kind.Typedef (name "small" (node kind.Subrange (word kind.Cnumber "1" Nil (word kind.Cnumber "5" Nil Nil)) Nil)) Nil) (node kind.Vars (node kind.Vardef (node kind.Names (name "s" Nil) (node kind.Tname (name "small" Nil) Nil)) (node kind.Vardef (node kind.Names (name "i" Nil) (node kind.Tname (name "integer" Nil) Nil)) Nil)) (node kind.Routines (node kind.Procedure (name "v" (node kind.Params (node kind.Valparam (node kind.Names (name "a" Nil) (name "small" Nil)) Nil) (node kind.Block (node kind.Consts Nil (node kind.Types Nil (node kind.Vars Nil (node kind.Routines Nil (node kind.Compound (node kind.Stmts (node kind.Empty Nil Nil) Nil) Nil))))) Nil))) (node kind.Procedure (name "w" (node kind.Params (node kind.Varparam (node kind.Names (name "a" Nil) (name "small" Nil)) Nil) (node kind.Block (node kind.Consts Nil (node kind.Types Nil (node kind.Vars Nil (node kind.Routines Nil (node kind.Compound (node kind.Stmts (node kind.Empty Nil Nil) Nil) Nil))))) Nil))) Nil)) (node kind.Compound (node kind.Stmts (node kind.Proc (name "v" (node kind.Args (node kind.Ref (name "i" Nil) Nil) Nil)) (node kind.Proc (name "v" (node kind.Args (word kind.Number "7" Nil Nil) Nil)) (node kind.Proc (name "v" (node kind.Args (word kind.Text "'a'" Nil Nil) Nil)) (node kind.Proc (name "w" (node kind.Args (node kind.Ref (name "s" Nil) Nil) Nil)) (node kind.Proc (name "w" (node kind.Args (node kind.Ref (name "i" Nil) Nil) Nil)) Nil))))) Nil) Nil))))) Nil)))

holds1 : differs tree1 (entry (3 ∷ 5 ∷ 1 ∷ 3 ∷ 2 ∷ 1 ∷ []) 11 "types do not agree" ∷ entry (3 ∷ 5 ∷ 1 ∷ 5 ∷ 2 ∷ 1 ∷ []) 11 "types do not agree" ∷ []) ≡ Equal
unfolding differs
holds1 = refl

-- Row 11 at an assign; equal structure is not the same type.
--   program p; var a: array [1..2] of char; b: array [1..2] of char; c, d: array [1..2] of char; begin a := b; c := d; a[1] := b[2] end.
abbrev tree2 : Plain
tree2 = program (name "p" (node kind.Heads Nil (node kind.Block (node kind.Consts Nil (node kind.Types Nil (node kind.Vars (node kind.Vardef (node kind.Names (name "a" Nil) (node kind.Array (node kind.Indexes (node kind.Subrange (word kind.Cnumber "1" Nil (word kind.Cnumber "2" Nil Nil)) Nil) (node kind.Tname (name "char" Nil) Nil)) Nil)) (node kind.Vardef (node kind.Names (name "b" Nil) (node kind.Array (node kind.Indexes (node kind.Subrange (word kind.Cnumber "1" Nil (word kind.Cnumber "2" Nil Nil)) Nil) (node kind.Tname (name "char" Nil) Nil)) Nil)) (node kind.Vardef (node kind.Names (name "c" (name "d" Nil)) (node kind.Array (node kind.Indexes (node kind.Subrange (word kind.Cnumber "1" Nil (word kind.Cnumber "2" Nil Nil)) Nil) (node kind.Tname (name "char" Nil) Nil)) Nil)) Nil))) (node kind.Routines Nil (node kind.Compound (node kind.Stmts (node kind.Assign (node kind.Ref (name "a" Nil) (node kind.Ref (name "b" Nil) Nil)) (node kind.Assign (node kind.Ref (name "c" Nil) (node kind.Ref (name "d" Nil) Nil)) (node kind.Assign (node kind.Index (node kind.Ref (name "a" Nil) (node kind.Exprs (word kind.Number "1" Nil Nil) Nil)) (node kind.Index (node kind.Ref (name "b" Nil) (node kind.Exprs (word kind.Number "2" Nil Nil) Nil)) Nil)) Nil))) Nil) Nil))))) Nil)))

holds2 : differs tree2 (entry (3 ∷ 5 ∷ 1 ∷ 1 ∷ []) 11 "types do not agree" ∷ []) ≡ Equal
unfolding differs
holds2 = refl

-- Row 11 at a bound of a for that is not compatible with its variable; a bound out of range is none.
--   program p; var i: 1..5; c: char; begin for i := 0 to 9 do; for c := 'a' to 5 do; for i := true to 'z' do end.
abbrev tree3 : Plain
tree3 = program (name "p" (node kind.Heads Nil (node kind.Block (node kind.Consts Nil (node kind.Types Nil (node kind.Vars (node kind.Vardef (node kind.Names (name "i" Nil) (node kind.Subrange (word kind.Cnumber "1" Nil (word kind.Cnumber "5" Nil Nil)) Nil)) (node kind.Vardef (node kind.Names (name "c" Nil) (node kind.Tname (name "char" Nil) Nil)) Nil)) (node kind.Routines Nil (node kind.Compound (node kind.Stmts (word kind.For "to" (name "i" (word kind.Number "0" Nil (word kind.Number "9" Nil (node kind.Empty Nil Nil)))) (word kind.For "to" (name "c" (word kind.Text "'a'" Nil (word kind.Number "5" Nil (node kind.Empty Nil Nil)))) (word kind.For "to" (name "i" (node kind.Ref (name "true" Nil) (word kind.Text "'z'" Nil (node kind.Empty Nil Nil)))) Nil))) Nil) Nil))))) Nil)))

holds3 : differs tree3 (entry (3 ∷ 5 ∷ 1 ∷ 2 ∷ 3 ∷ []) 11 "types do not agree" ∷ entry (3 ∷ 5 ∷ 1 ∷ 3 ∷ 2 ∷ []) 11 "types do not agree" ∷ entry (3 ∷ 5 ∷ 1 ∷ 3 ∷ 3 ∷ []) 11 "types do not agree" ∷ []) ≡ Equal
unfolding differs
holds3 = refl

-- Row 11: [] agrees with every set, and with each other.
--   program p; var s: set of char; t: set of 1..3; b: boolean; begin s := []; t := [] + []; b := s = []; b := [] = []; b := 1 in []; b := 'x' in []; b :=
--   'ab' in [] end.
abbrev tree4 : Plain
tree4 = program (name "p" (node kind.Heads Nil (node kind.Block (node kind.Consts Nil (node kind.Types Nil (node kind.Vars (node kind.Vardef (node kind.Names (name "s" Nil) (node kind.Setof (node kind.Tname (name "char" Nil) Nil) Nil)) (node kind.Vardef (node kind.Names (name "t" Nil) (node kind.Setof (node kind.Subrange (word kind.Cnumber "1" Nil (word kind.Cnumber "3" Nil Nil)) Nil) Nil)) (node kind.Vardef (node kind.Names (name "b" Nil) (node kind.Tname (name "boolean" Nil) Nil)) Nil))) (node kind.Routines Nil (node kind.Compound (node kind.Stmts (node kind.Assign (node kind.Ref (name "s" Nil) (node kind.Setcon (node kind.Members Nil Nil) Nil)) (node kind.Assign (node kind.Ref (name "t" Nil) (word kind.Add "+" (node kind.Setcon (node kind.Members Nil Nil) (node kind.Setcon (node kind.Members Nil Nil) Nil)) Nil)) (node kind.Assign (node kind.Ref (name "b" Nil) (word kind.Rel "=" (node kind.Ref (name "s" Nil) (node kind.Setcon (node kind.Members Nil Nil) Nil)) Nil)) (node kind.Assign (node kind.Ref (name "b" Nil) (word kind.Rel "=" (node kind.Setcon (node kind.Members Nil Nil) (node kind.Setcon (node kind.Members Nil Nil) Nil)) Nil)) (node kind.Assign (node kind.Ref (name "b" Nil) (word kind.Rel "in" (word kind.Number "1" Nil (node kind.Setcon (node kind.Members Nil Nil) Nil)) Nil)) (node kind.Assign (node kind.Ref (name "b" Nil) (word kind.Rel "in" (word kind.Text "'x'" Nil (node kind.Setcon (node kind.Members Nil Nil) Nil)) Nil)) (node kind.Assign (node kind.Ref (name "b" Nil) (word kind.Rel "in" (word kind.Text "'ab'" Nil (node kind.Setcon (node kind.Members Nil Nil) Nil)) Nil)) Nil))))))) Nil) Nil))))) Nil)))

holds4 : differs tree4 (entry (3 ∷ 5 ∷ 1 ∷ 7 ∷ 2 ∷ []) 11 "types do not agree" ∷ []) ≡ Equal
unfolding differs
holds4 = refl

-- Row 11, the neighbour: a name equated to another is the same type; a new denoter is not.
--   program p; type t = record x: char end; u = t; v = record x: char end; var a: t; b: u; c: v; begin a := b; b := c end.
abbrev tree5 : Plain
tree5 = program (name "p" (node kind.Heads Nil (node kind.Block (node kind.Consts Nil (node kind.Types (node kind.Typedef (name "t" (node kind.Record (node kind.Fields (node kind.Field (node kind.Names (name "x" Nil) (node kind.Tname (name "char" Nil) Nil)) Nil) Nil) Nil)) (node kind.Typedef (name "u" (node kind.Tname (name "t" Nil) Nil)) (node kind.Typedef (name "v" (node kind.Record (node kind.Fields (node kind.Field (node kind.Names (name "x" Nil) (node kind.Tname (name "char" Nil) Nil)) Nil) Nil) Nil)) Nil))) (node kind.Vars (node kind.Vardef (node kind.Names (name "a" Nil) (node kind.Tname (name "t" Nil) Nil)) (node kind.Vardef (node kind.Names (name "b" Nil) (node kind.Tname (name "u" Nil) Nil)) (node kind.Vardef (node kind.Names (name "c" Nil) (node kind.Tname (name "v" Nil) Nil)) Nil))) (node kind.Routines Nil (node kind.Compound (node kind.Stmts (node kind.Assign (node kind.Ref (name "a" Nil) (node kind.Ref (name "b" Nil) Nil)) (node kind.Assign (node kind.Ref (name "b" Nil) (node kind.Ref (name "c" Nil) Nil)) Nil)) Nil) Nil))))) Nil)))

holds5 : differs tree5 (entry (3 ∷ 5 ∷ 1 ∷ 2 ∷ []) 11 "types do not agree" ∷ []) ≡ Equal
unfolding differs
holds5 = refl

-- Row 11 at a required function.
--   program p; var a: array [1..2] of char; i: integer; begin i := abs('a'); i := sqr(true); i := ord(a); i := ord('a'); i := ord(chr('a')); i :=
--   succ('ab'); if odd('x') then; if eof(i) then end.
abbrev tree6 : Plain
tree6 = program (name "p" (node kind.Heads Nil (node kind.Block (node kind.Consts Nil (node kind.Types Nil (node kind.Vars (node kind.Vardef (node kind.Names (name "a" Nil) (node kind.Array (node kind.Indexes (node kind.Subrange (word kind.Cnumber "1" Nil (word kind.Cnumber "2" Nil Nil)) Nil) (node kind.Tname (name "char" Nil) Nil)) Nil)) (node kind.Vardef (node kind.Names (name "i" Nil) (node kind.Tname (name "integer" Nil) Nil)) Nil)) (node kind.Routines Nil (node kind.Compound (node kind.Stmts (node kind.Assign (node kind.Ref (name "i" Nil) (node kind.Call (name "abs" (node kind.Exprs (word kind.Text "'a'" Nil Nil) Nil)) Nil)) (node kind.Assign (node kind.Ref (name "i" Nil) (node kind.Call (name "sqr" (node kind.Exprs (node kind.Ref (name "true" Nil) Nil) Nil)) Nil)) (node kind.Assign (node kind.Ref (name "i" Nil) (node kind.Call (name "ord" (node kind.Exprs (node kind.Ref (name "a" Nil) Nil) Nil)) Nil)) (node kind.Assign (node kind.Ref (name "i" Nil) (node kind.Call (name "ord" (node kind.Exprs (word kind.Text "'a'" Nil Nil) Nil)) Nil)) (node kind.Assign (node kind.Ref (name "i" Nil) (node kind.Call (name "ord" (node kind.Exprs (node kind.Call (name "chr" (node kind.Exprs (word kind.Text "'a'" Nil Nil) Nil)) Nil) Nil)) Nil)) (node kind.Assign (node kind.Ref (name "i" Nil) (node kind.Call (name "succ" (node kind.Exprs (word kind.Text "'ab'" Nil Nil) Nil)) Nil)) (node kind.If (node kind.Call (name "odd" (node kind.Exprs (word kind.Text "'x'" Nil Nil) Nil)) (node kind.Empty Nil Nil)) (node kind.If (node kind.Call (name "eof" (node kind.Exprs (node kind.Ref (name "i" Nil) Nil) Nil)) (node kind.Empty Nil Nil)) Nil)))))))) Nil) Nil))))) Nil)))

holds6 : differs tree6 (entry (3 ∷ 5 ∷ 1 ∷ 1 ∷ 2 ∷ []) 11 "types do not agree" ∷ entry (3 ∷ 5 ∷ 1 ∷ 2 ∷ 2 ∷ []) 11 "types do not agree" ∷ entry (3 ∷ 5 ∷ 1 ∷ 3 ∷ 2 ∷ []) 11 "types do not agree" ∷ entry (3 ∷ 5 ∷ 1 ∷ 5 ∷ 2 ∷ 2 ∷ 1 ∷ []) 11 "types do not agree" ∷ entry (3 ∷ 5 ∷ 1 ∷ 6 ∷ 2 ∷ []) 11 "types do not agree" ∷ entry (3 ∷ 5 ∷ 1 ∷ 7 ∷ 1 ∷ []) 11 "types do not agree" ∷ entry (3 ∷ 5 ∷ 1 ∷ 8 ∷ 1 ∷ []) 11 "types do not agree" ∷ []) ≡ Equal
unfolding differs
holds6 = refl

-- Row 11 at an index, which counts as an argument to its index type.
--   program p; var a: array [1..3, char] of char; begin a[1, 'x'] := 'y'; a['x', 1] := 'y'; a[9] ['z'] := 'y'; a[true]['a'] := 'b' end.
abbrev tree7 : Plain
tree7 = program (name "p" (node kind.Heads Nil (node kind.Block (node kind.Consts Nil (node kind.Types Nil (node kind.Vars (node kind.Vardef (node kind.Names (name "a" Nil) (node kind.Array (node kind.Indexes (node kind.Subrange (word kind.Cnumber "1" Nil (word kind.Cnumber "3" Nil Nil)) (node kind.Tname (name "char" Nil) Nil)) (node kind.Tname (name "char" Nil) Nil)) Nil)) Nil) (node kind.Routines Nil (node kind.Compound (node kind.Stmts (node kind.Assign (node kind.Index (node kind.Ref (name "a" Nil) (node kind.Exprs (word kind.Number "1" Nil (word kind.Text "'x'" Nil Nil)) Nil)) (word kind.Text "'y'" Nil Nil)) (node kind.Assign (node kind.Index (node kind.Ref (name "a" Nil) (node kind.Exprs (word kind.Text "'x'" Nil (word kind.Number "1" Nil Nil)) Nil)) (word kind.Text "'y'" Nil Nil)) (node kind.Assign (node kind.Index (node kind.Index (node kind.Ref (name "a" Nil) (node kind.Exprs (word kind.Number "9" Nil Nil) Nil)) (node kind.Exprs (word kind.Text "'z'" Nil Nil) Nil)) (word kind.Text "'y'" Nil Nil)) (node kind.Assign (node kind.Index (node kind.Index (node kind.Ref (name "a" Nil) (node kind.Exprs (node kind.Ref (name "true" Nil) Nil) Nil)) (node kind.Exprs (word kind.Text "'a'" Nil Nil) Nil)) (word kind.Text "'b'" Nil Nil)) Nil)))) Nil) Nil))))) Nil)))

holds7 : differs tree7 (entry (3 ∷ 5 ∷ 1 ∷ 2 ∷ 1 ∷ 2 ∷ 1 ∷ []) 11 "types do not agree" ∷ entry (3 ∷ 5 ∷ 1 ∷ 2 ∷ 1 ∷ 2 ∷ 2 ∷ []) 11 "types do not agree" ∷ entry (3 ∷ 5 ∷ 1 ∷ 4 ∷ 1 ∷ 1 ∷ 2 ∷ 1 ∷ []) 11 "types do not agree" ∷ []) ≡ Equal
unfolding differs
holds7 = refl

-- Row 11: the part with the error has no type, so nothing around it has an entry.
--   program p; var i: integer; begin if (1 + 'a') * true then i := -(not 1) end.
abbrev tree8 : Plain
tree8 = program (name "p" (node kind.Heads Nil (node kind.Block (node kind.Consts Nil (node kind.Types Nil (node kind.Vars (node kind.Vardef (node kind.Names (name "i" Nil) (node kind.Tname (name "integer" Nil) Nil)) Nil) (node kind.Routines Nil (node kind.Compound (node kind.Stmts (node kind.If (word kind.Mul "*" (node kind.Parens (word kind.Add "+" (word kind.Number "1" Nil (word kind.Text "'a'" Nil Nil)) Nil) (node kind.Ref (name "true" Nil) Nil)) (node kind.Assign (node kind.Ref (name "i" Nil) (word kind.Sign "-" (node kind.Parens (node kind.Not (word kind.Number "1" Nil Nil) Nil) Nil) Nil)) Nil)) Nil) Nil) Nil))))) Nil)))

holds8 : differs tree8 (entry (3 ∷ 5 ∷ 1 ∷ 1 ∷ 1 ∷ 1 ∷ 1 ∷ []) 11 "types do not agree" ∷ entry (3 ∷ 5 ∷ 1 ∷ 1 ∷ 2 ∷ 2 ∷ 1 ∷ 1 ∷ []) 11 "types do not agree" ∷ []) ≡ Equal
unfolding differs
holds8 = refl

-- A label outside the subrange of the expression is no entry; nor is a bound, an index or a constant value.
--   program p; type c = (red, green, blue); var x: red..green; a: array [1..3] of char; i: 1..3; begin case x of blue: end; for x := blue to blue do; a[9]
--   := 'x'; i := 77 end.
abbrev tree9 : Plain
tree9 = program (name "p" (node kind.Heads Nil (node kind.Block (node kind.Consts Nil (node kind.Types (node kind.Typedef (name "c" (node kind.Enum (node kind.Names (name "red" (name "green" (name "blue" Nil))) Nil) Nil)) Nil) (node kind.Vars (node kind.Vardef (node kind.Names (name "x" Nil) (node kind.Subrange (node kind.Cname (name "red" Nil) (node kind.Cname (name "green" Nil) Nil)) Nil)) (node kind.Vardef (node kind.Names (name "a" Nil) (node kind.Array (node kind.Indexes (node kind.Subrange (word kind.Cnumber "1" Nil (word kind.Cnumber "3" Nil Nil)) Nil) (node kind.Tname (name "char" Nil) Nil)) Nil)) (node kind.Vardef (node kind.Names (name "i" Nil) (node kind.Subrange (word kind.Cnumber "1" Nil (word kind.Cnumber "3" Nil Nil)) Nil)) Nil))) (node kind.Routines Nil (node kind.Compound (node kind.Stmts (node kind.Case (node kind.Ref (name "x" Nil) (node kind.Arms (node kind.Arm (node kind.Labels (node kind.Cname (name "blue" Nil) Nil) (node kind.Empty Nil Nil)) Nil) Nil)) (word kind.For "to" (name "x" (node kind.Ref (name "blue" Nil) (node kind.Ref (name "blue" Nil) (node kind.Empty Nil Nil)))) (node kind.Assign (node kind.Index (node kind.Ref (name "a" Nil) (node kind.Exprs (word kind.Number "9" Nil Nil) Nil)) (word kind.Text "'x'" Nil Nil)) (node kind.Assign (node kind.Ref (name "i" Nil) (word kind.Number "77" Nil Nil)) Nil)))) Nil) Nil))))) Nil)))

holds9 : differs tree9 ([]) ≡ Equal
unfolding differs
holds9 = refl

-- Row 11 at a label of another type than the expression.
--   program p; var c: (red, green); begin case c of red: ; 1: ; 'a': ; green: end; case 1 of 'ab': end end.
abbrev tree10 : Plain
tree10 = program (name "p" (node kind.Heads Nil (node kind.Block (node kind.Consts Nil (node kind.Types Nil (node kind.Vars (node kind.Vardef (node kind.Names (name "c" Nil) (node kind.Enum (node kind.Names (name "red" (name "green" Nil)) Nil) Nil)) Nil) (node kind.Routines Nil (node kind.Compound (node kind.Stmts (node kind.Case (node kind.Ref (name "c" Nil) (node kind.Arms (node kind.Arm (node kind.Labels (node kind.Cname (name "red" Nil) Nil) (node kind.Empty Nil Nil)) (node kind.Arm (node kind.Labels (word kind.Cnumber "1" Nil Nil) (node kind.Empty Nil Nil)) (node kind.Arm (node kind.Labels (word kind.Cstring "'a'" Nil Nil) (node kind.Empty Nil Nil)) (node kind.Arm (node kind.Labels (node kind.Cname (name "green" Nil) Nil) (node kind.Empty Nil Nil)) Nil)))) Nil)) (node kind.Case (word kind.Number "1" Nil (node kind.Arms (node kind.Arm (node kind.Labels (word kind.Cstring "'ab'" Nil Nil) (node kind.Empty Nil Nil)) Nil) Nil)) Nil)) Nil) Nil))))) Nil)))

holds10 : differs tree10 (entry (3 ∷ 5 ∷ 1 ∷ 1 ∷ 2 ∷ 2 ∷ 1 ∷ 1 ∷ []) 11 "types do not agree" ∷ entry (3 ∷ 5 ∷ 1 ∷ 1 ∷ 2 ∷ 3 ∷ 1 ∷ 1 ∷ []) 11 "types do not agree" ∷ entry (3 ∷ 5 ∷ 1 ∷ 2 ∷ 2 ∷ 1 ∷ 1 ∷ 1 ∷ []) 11 "types do not agree" ∷ []) ≡ Equal
unfolding differs
holds10 = refl

-- Row 11 at a set constructor: its members count as operands of its node.
--   program p; var s: set of 1..9; begin s := [1, 'a']; s := [1..'a', 2]; s := ['a'] end.
abbrev tree11 : Plain
tree11 = program (name "p" (node kind.Heads Nil (node kind.Block (node kind.Consts Nil (node kind.Types Nil (node kind.Vars (node kind.Vardef (node kind.Names (name "s" Nil) (node kind.Setof (node kind.Subrange (word kind.Cnumber "1" Nil (word kind.Cnumber "9" Nil Nil)) Nil) Nil)) Nil) (node kind.Routines Nil (node kind.Compound (node kind.Stmts (node kind.Assign (node kind.Ref (name "s" Nil) (node kind.Setcon (node kind.Members (word kind.Number "1" Nil (word kind.Text "'a'" Nil Nil)) Nil) Nil)) (node kind.Assign (node kind.Ref (name "s" Nil) (node kind.Setcon (node kind.Members (node kind.Span (word kind.Number "1" Nil (word kind.Text "'a'" Nil Nil)) (word kind.Number "2" Nil Nil)) Nil) Nil)) (node kind.Assign (node kind.Ref (name "s" Nil) (node kind.Setcon (node kind.Members (word kind.Text "'a'" Nil Nil) Nil) Nil)) Nil))) Nil) Nil))))) Nil)))

holds11 : differs tree11 (entry (3 ∷ 5 ∷ 1 ∷ 1 ∷ 2 ∷ []) 11 "types do not agree" ∷ entry (3 ∷ 5 ∷ 1 ∷ 2 ∷ 2 ∷ []) 11 "types do not agree" ∷ entry (3 ∷ 5 ∷ 1 ∷ 3 ∷ []) 11 "types do not agree" ∷ []) ≡ Equal
unfolding differs
holds11 = refl

-- Row 11: two enumerations with equal names in two routines are two types.
--   program p; type c = (red); var x: c; procedure q; type c = (red); var y: c; begin y := red; x := red; y := x end; begin x := red end.
abbrev tree12 : Plain
tree12 = program (name "p" (node kind.Heads Nil (node kind.Block (node kind.Consts Nil (node kind.Types (node kind.Typedef (name "c" (node kind.Enum (node kind.Names (name "red" Nil) Nil) Nil)) Nil) (node kind.Vars (node kind.Vardef (node kind.Names (name "x" Nil) (node kind.Tname (name "c" Nil) Nil)) Nil) (node kind.Routines (node kind.Procedure (name "q" (node kind.Params Nil (node kind.Block (node kind.Consts Nil (node kind.Types (node kind.Typedef (name "c" (node kind.Enum (node kind.Names (name "red" Nil) Nil) Nil)) Nil) (node kind.Vars (node kind.Vardef (node kind.Names (name "y" Nil) (node kind.Tname (name "c" Nil) Nil)) Nil) (node kind.Routines Nil (node kind.Compound (node kind.Stmts (node kind.Assign (node kind.Ref (name "y" Nil) (node kind.Ref (name "red" Nil) Nil)) (node kind.Assign (node kind.Ref (name "x" Nil) (node kind.Ref (name "red" Nil) Nil)) (node kind.Assign (node kind.Ref (name "y" Nil) (node kind.Ref (name "x" Nil) Nil)) Nil))) Nil) Nil))))) Nil))) Nil) (node kind.Compound (node kind.Stmts (node kind.Assign (node kind.Ref (name "x" Nil) (node kind.Ref (name "red" Nil) Nil)) Nil) Nil) Nil))))) Nil)))

holds12 : differs tree12 (entry (3 ∷ 4 ∷ 1 ∷ 3 ∷ 5 ∷ 1 ∷ 2 ∷ []) 11 "types do not agree" ∷ entry (3 ∷ 4 ∷ 1 ∷ 3 ∷ 5 ∷ 1 ∷ 3 ∷ []) 11 "types do not agree" ∷ []) ≡ Equal
unfolding differs
holds12 = refl
