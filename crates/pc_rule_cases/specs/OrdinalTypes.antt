-- Where an ordinal type is needed: programs with the errors that they have.
use Rattle.std.specs.Prelude.{◌≡◌, [], ◌∷◌}
use Rattle.std.proofs.Common.{refl}
use Rattle.pc_syntax.specs.Plain.{Nil, Plain}
use Rattle.pc_syntax.specs.declared.kind.Kind.TheVariants as kind
use Rattle.pc_rule_cases.specs.Trees.{program, node, name, word}
use Rattle.pc_rule_cases.specs.Compare.{Equal, entry, differs}

-- Row 8: a set's base that is a record, a string type.
--   program p; type r = record end; s = packed array [1..3] of char; t = set of r; u = set of s; begin end.
abbrev tree1 : Plain
tree1 = program (name "p" (node kind.Heads Nil (node kind.Block (node kind.Consts Nil (node kind.Types (node kind.Typedef (name "r" (node kind.Record0 Nil Nil)) (node kind.Typedef (name "s" (node kind.Packed (node kind.Array (node kind.Indexes (node kind.Subrange (word kind.Cnumber "1" Nil (word kind.Cnumber "3" Nil Nil)) Nil) (node kind.Tname (name "char" Nil) Nil)) Nil) Nil)) (node kind.Typedef (name "t" (node kind.Setof (node kind.Tname (name "r" Nil) Nil) Nil)) (node kind.Typedef (name "u" (node kind.Setof (node kind.Tname (name "s" Nil) Nil) Nil)) Nil)))) (node kind.Vars Nil (node kind.Routines Nil (node kind.Compound (node kind.Stmts (node kind.Empty Nil Nil) Nil) Nil))))) Nil)))

holds1 : differs tree1 (entry (3 ∷ 2 ∷ 3 ∷ 2 ∷ 1 ∷ []) 8 "not an ordinal type" ∷ entry (3 ∷ 2 ∷ 4 ∷ 2 ∷ 1 ∷ []) 8 "not an ordinal type" ∷ []) ≡ Equal
unfolding differs
holds1 = refl

-- Row 8: the expression of a case.
--   program p; var a: array [1..2] of char; begin case a of 1: end; case 'ab' of 'a': end; case 'a' of 'a': end end.
abbrev tree2 : Plain
tree2 = program (name "p" (node kind.Heads Nil (node kind.Block (node kind.Consts Nil (node kind.Types Nil (node kind.Vars (node kind.Vardef (node kind.Names (name "a" Nil) (node kind.Array (node kind.Indexes (node kind.Subrange (word kind.Cnumber "1" Nil (word kind.Cnumber "2" Nil Nil)) Nil) (node kind.Tname (name "char" Nil) Nil)) Nil)) Nil) (node kind.Routines Nil (node kind.Compound (node kind.Stmts (node kind.Case (node kind.Ref (name "a" Nil) (node kind.Arms (node kind.Arm (node kind.Labels (word kind.Cnumber "1" Nil Nil) (node kind.Empty Nil Nil)) Nil) Nil)) (node kind.Case (word kind.Text "'ab'" Nil (node kind.Arms (node kind.Arm (node kind.Labels (word kind.Cstring "'a'" Nil Nil) (node kind.Empty Nil Nil)) Nil) Nil)) (node kind.Case (word kind.Text "'a'" Nil (node kind.Arms (node kind.Arm (node kind.Labels (word kind.Cstring "'a'" Nil Nil) (node kind.Empty Nil Nil)) Nil) Nil)) Nil))) Nil) Nil))))) Nil)))

holds2 : differs tree2 (entry (3 ∷ 5 ∷ 1 ∷ 1 ∷ 1 ∷ []) 8 "not an ordinal type" ∷ entry (3 ∷ 5 ∷ 1 ∷ 2 ∷ 1 ∷ []) 8 "not an ordinal type" ∷ []) ≡ Equal
unfolding differs
holds2 = refl

-- Row 8: a bound of a for; both bounds have their own.
--   program p; var i: integer; begin for i := 'ab' to [] do; for i := 1 to 2 do end.
abbrev tree3 : Plain
tree3 = program (name "p" (node kind.Heads Nil (node kind.Block (node kind.Consts Nil (node kind.Types Nil (node kind.Vars (node kind.Vardef (node kind.Names (name "i" Nil) (node kind.Tname (name "integer" Nil) Nil)) Nil) (node kind.Routines Nil (node kind.Compound (node kind.Stmts (word kind.For "to" (name "i" (word kind.Text "'ab'" Nil (node kind.Setcon (node kind.Members Nil Nil) (node kind.Empty Nil Nil)))) (word kind.For "to" (name "i" (word kind.Number "1" Nil (word kind.Number "2" Nil (node kind.Empty Nil Nil)))) Nil)) Nil) Nil))))) Nil)))

holds3 : differs tree3 (entry (3 ∷ 5 ∷ 1 ∷ 1 ∷ 2 ∷ []) 8 "not an ordinal type" ∷ entry (3 ∷ 5 ∷ 1 ∷ 1 ∷ 3 ∷ []) 8 "not an ordinal type" ∷ []) ≡ Equal
unfolding differs
holds3 = refl

-- Row 8: an index type that is an array; its entry stands at the index.
--   program p; type a = array [1..2] of char; b = array [a] of char; begin end.
abbrev tree4 : Plain
tree4 = program (name "p" (node kind.Heads Nil (node kind.Block (node kind.Consts Nil (node kind.Types (node kind.Typedef (name "a" (node kind.Array (node kind.Indexes (node kind.Subrange (word kind.Cnumber "1" Nil (word kind.Cnumber "2" Nil Nil)) Nil) (node kind.Tname (name "char" Nil) Nil)) Nil)) (node kind.Typedef (name "b" (node kind.Array (node kind.Indexes (node kind.Tname (name "a" Nil) Nil) (node kind.Tname (name "char" Nil) Nil)) Nil)) Nil)) (node kind.Vars Nil (node kind.Routines Nil (node kind.Compound (node kind.Stmts (node kind.Empty Nil Nil) Nil) Nil))))) Nil)))

holds4 : differs tree4 (entry (3 ∷ 2 ∷ 2 ∷ 2 ∷ 1 ∷ 1 ∷ []) 8 "not an ordinal type" ∷ []) ≡ Equal
unfolding differs
holds4 = refl

-- Row 8: a member of a set constructor, and an end of a span.
--   program p; var s: set of 1..9; begin s := ['ab', 1]; s := [1..[]] end.
abbrev tree5 : Plain
tree5 = program (name "p" (node kind.Heads Nil (node kind.Block (node kind.Consts Nil (node kind.Types Nil (node kind.Vars (node kind.Vardef (node kind.Names (name "s" Nil) (node kind.Setof (node kind.Subrange (word kind.Cnumber "1" Nil (word kind.Cnumber "9" Nil Nil)) Nil) Nil)) Nil) (node kind.Routines Nil (node kind.Compound (node kind.Stmts (node kind.Assign (node kind.Ref (name "s" Nil) (node kind.Setcon (node kind.Members (word kind.Text "'ab'" Nil (word kind.Number "1" Nil Nil)) Nil) Nil)) (node kind.Assign (node kind.Ref (name "s" Nil) (node kind.Setcon (node kind.Members (node kind.Span (word kind.Number "1" Nil (node kind.Setcon (node kind.Members Nil Nil) Nil)) Nil) Nil) Nil)) Nil)) Nil) Nil))))) Nil)))

holds5 : differs tree5 (entry (3 ∷ 5 ∷ 1 ∷ 1 ∷ 2 ∷ 1 ∷ 1 ∷ []) 8 "not an ordinal type" ∷ entry (3 ∷ 5 ∷ 1 ∷ 2 ∷ 2 ∷ 1 ∷ 1 ∷ 2 ∷ []) 8 "not an ordinal type" ∷ []) ≡ Equal
unfolding differs
holds5 = refl

-- Row 8, the neighbour: every kind of ordinal type as an index, a base, a case's expression, a member, a bound.
--   program p; type c = (red, green); var a: array [c, boolean, char, 1..2, red..green] of set of c; x: c; begin case x of red: end; case 'a' of 'b': end;
--   a[red, true, 'a', 1, green] := [red..green, x]; for x := red to green do end.
abbrev tree6 : Plain
tree6 = program (name "p" (node kind.Heads Nil (node kind.Block (node kind.Consts Nil (node kind.Types (node kind.Typedef (name "c" (node kind.Enum (node kind.Names (name "red" (name "green" Nil)) Nil) Nil)) Nil) (node kind.Vars (node kind.Vardef (node kind.Names (name "a" Nil) (node kind.Array (node kind.Indexes (node kind.Tname (name "c" Nil) (node kind.Tname (name "boolean" Nil) (node kind.Tname (name "char" Nil) (node kind.Subrange (word kind.Cnumber "1" Nil (word kind.Cnumber "2" Nil Nil)) (node kind.Subrange (node kind.Cname (name "red" Nil) (node kind.Cname (name "green" Nil) Nil)) Nil))))) (node kind.Setof (node kind.Tname (name "c" Nil) Nil) Nil)) Nil)) (node kind.Vardef (node kind.Names (name "x" Nil) (node kind.Tname (name "c" Nil) Nil)) Nil)) (node kind.Routines Nil (node kind.Compound (node kind.Stmts (node kind.Case (node kind.Ref (name "x" Nil) (node kind.Arms (node kind.Arm (node kind.Labels (node kind.Cname (name "red" Nil) Nil) (node kind.Empty Nil Nil)) Nil) Nil)) (node kind.Case (word kind.Text "'a'" Nil (node kind.Arms (node kind.Arm (node kind.Labels (word kind.Cstring "'b'" Nil Nil) (node kind.Empty Nil Nil)) Nil) Nil)) (node kind.Assign (node kind.Index (node kind.Ref (name "a" Nil) (node kind.Exprs (node kind.Ref (name "red" Nil) (node kind.Ref (name "true" Nil) (word kind.Text "'a'" Nil (word kind.Number "1" Nil (node kind.Ref (name "green" Nil) Nil))))) Nil)) (node kind.Setcon (node kind.Members (node kind.Span (node kind.Ref (name "red" Nil) (node kind.Ref (name "green" Nil) Nil)) (node kind.Ref (name "x" Nil) Nil)) Nil) Nil)) (word kind.For "to" (name "x" (node kind.Ref (name "red" Nil) (node kind.Ref (name "green" Nil) (node kind.Empty Nil Nil)))) Nil)))) Nil) Nil))))) Nil)))

holds6 : differs tree6 ([]) ≡ Equal
unfolding differs
holds6 = refl

-- Row 8 at a bound: no row 11 at that bound; the other bound still has its own.
--   program p; var i: integer; begin for i := 'ab' to true do end.
abbrev tree7 : Plain
tree7 = program (name "p" (node kind.Heads Nil (node kind.Block (node kind.Consts Nil (node kind.Types Nil (node kind.Vars (node kind.Vardef (node kind.Names (name "i" Nil) (node kind.Tname (name "integer" Nil) Nil)) Nil) (node kind.Routines Nil (node kind.Compound (node kind.Stmts (word kind.For "to" (name "i" (word kind.Text "'ab'" Nil (node kind.Ref (name "true" Nil) (node kind.Empty Nil Nil)))) Nil) Nil) Nil))))) Nil)))

holds7 : differs tree7 (entry (3 ∷ 5 ∷ 1 ∷ 1 ∷ 2 ∷ []) 8 "not an ordinal type" ∷ entry (3 ∷ 5 ∷ 1 ∷ 1 ∷ 3 ∷ []) 11 "types do not agree" ∷ []) ≡ Equal
unfolding differs
holds7 = refl

-- Row 8: a pointer is no ordinal type.
--   program p; type l = ^integer; var q: l; a: array [1..2] of set of l; begin case q of 1: end end.
abbrev tree8 : Plain
tree8 = program (name "p" (node kind.Heads Nil (node kind.Block (node kind.Consts Nil (node kind.Types (node kind.Typedef (name "l" (node kind.Pointer (name "integer" Nil) Nil)) Nil) (node kind.Vars (node kind.Vardef (node kind.Names (name "q" Nil) (node kind.Tname (name "l" Nil) Nil)) (node kind.Vardef (node kind.Names (name "a" Nil) (node kind.Array (node kind.Indexes (node kind.Subrange (word kind.Cnumber "1" Nil (word kind.Cnumber "2" Nil Nil)) Nil) (node kind.Setof (node kind.Tname (name "l" Nil) Nil) Nil)) Nil)) Nil)) (node kind.Routines Nil (node kind.Compound (node kind.Stmts (node kind.Case (node kind.Ref (name "q" Nil) (node kind.Arms (node kind.Arm (node kind.Labels (word kind.Cnumber "1" Nil Nil) (node kind.Empty Nil Nil)) Nil) Nil)) Nil) Nil) Nil))))) Nil)))

holds8 : differs tree8 (entry (3 ∷ 3 ∷ 2 ∷ 2 ∷ 2 ∷ 1 ∷ []) 8 "not an ordinal type" ∷ entry (3 ∷ 5 ∷ 1 ∷ 1 ∷ 1 ∷ []) 8 "not an ordinal type" ∷ []) ≡ Equal
unfolding differs
holds8 = refl

-- Row 8 needs a type: an undeclared expression has none.
--   program p; var i: integer; begin case y of 1: end; for i := y to 1 do; i := ord([y]) end.
abbrev tree9 : Plain
tree9 = program (name "p" (node kind.Heads Nil (node kind.Block (node kind.Consts Nil (node kind.Types Nil (node kind.Vars (node kind.Vardef (node kind.Names (name "i" Nil) (node kind.Tname (name "integer" Nil) Nil)) Nil) (node kind.Routines Nil (node kind.Compound (node kind.Stmts (node kind.Case (node kind.Ref (name "y" Nil) (node kind.Arms (node kind.Arm (node kind.Labels (word kind.Cnumber "1" Nil Nil) (node kind.Empty Nil Nil)) Nil) Nil)) (word kind.For "to" (name "i" (node kind.Ref (name "y" Nil) (word kind.Number "1" Nil (node kind.Empty Nil Nil)))) (node kind.Assign (node kind.Ref (name "i" Nil) (node kind.Call (name "ord" (node kind.Exprs (node kind.Setcon (node kind.Members (node kind.Ref (name "y" Nil) Nil) Nil) Nil) Nil)) Nil)) Nil))) Nil) Nil))))) Nil)))

holds9 : differs tree9 (entry (3 ∷ 5 ∷ 1 ∷ 1 ∷ 1 ∷ 1 ∷ []) 1 "not declared: y" ∷ entry (3 ∷ 5 ∷ 1 ∷ 2 ∷ 2 ∷ 1 ∷ []) 1 "not declared: y" ∷ entry (3 ∷ 5 ∷ 1 ∷ 3 ∷ 2 ∷ 2 ∷ 1 ∷ 1 ∷ 1 ∷ 1 ∷ []) 1 "not declared: y" ∷ []) ≡ Equal
unfolding differs
holds9 = refl
