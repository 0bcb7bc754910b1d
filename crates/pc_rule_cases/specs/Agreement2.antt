-- Types that agree, and that don't: programs with the errors that they have.
use Rattle.std.specs.Prelude.{◌≡◌, [], ◌∷◌}
use Rattle.std.proofs.Common.{refl}
use Rattle.pc_syntax.specs.Plain.{Nil, Plain}
use Rattle.pc_syntax.specs.declared.kind.Kind.TheVariants as kind
use Rattle.pc_syntax.specs.declared.sort.Sort.TheVariants as sort
use Rattle.pc_rule_cases.specs.Trees.{program, node, name, word}
use Rattle.pc_rule_cases.specs.Compare.{Equal, entry, differs}

-- Row 11, the neighbour: subranges agree with their host, sets with sets of a compatible base.
--   program p; var i: 1..5; j: 2..9; s: set of 1..5; t: set of 3..200; begin i := j; j := i + 1; s := t * [1]; if i in t then; if s <= t then; if 'a' <
--   'b' then end.
abbrev tree1 : Plain
tree1 = program (name "p" (node kind.Heads Nil (node kind.Block (node kind.Consts Nil (node kind.Types Nil (node kind.Vars (node kind.Vardef (node kind.Names (name "i" Nil) (node kind.Subrange (word kind.Cnumber "1" Nil (word kind.Cnumber "5" Nil Nil)) Nil)) (node kind.Vardef (node kind.Names (name "j" Nil) (node kind.Subrange (word kind.Cnumber "2" Nil (word kind.Cnumber "9" Nil Nil)) Nil)) (node kind.Vardef (node kind.Names (name "s" Nil) (node kind.Setof (node kind.Subrange (word kind.Cnumber "1" Nil (word kind.Cnumber "5" Nil Nil)) Nil) Nil)) (node kind.Vardef (node kind.Names (name "t" Nil) (node kind.Setof (node kind.Subrange (word kind.Cnumber "3" Nil (word kind.Cnumber "200" Nil Nil)) Nil) Nil)) Nil)))) (node kind.Routines Nil (node kind.Compound (node kind.Stmts (node kind.Assign (node kind.Ref (name "i" Nil) (node kind.Ref (name "j" Nil) Nil)) (node kind.Assign (node kind.Ref (name "j" Nil) (word kind.Add "+" (node kind.Ref (name "i" Nil) (word kind.Number "1" Nil Nil)) Nil)) (node kind.Assign (node kind.Ref (name "s" Nil) (word kind.Mul "*" (node kind.Ref (name "t" Nil) (node kind.Setcon (node kind.Members (word kind.Number "1" Nil Nil) Nil) Nil)) Nil)) (node kind.If (word kind.Rel "in" (node kind.Ref (name "i" Nil) (node kind.Ref (name "t" Nil) Nil)) (node kind.Empty Nil Nil)) (node kind.If (word kind.Rel "<=" (node kind.Ref (name "s" Nil) (node kind.Ref (name "t" Nil) Nil)) (node kind.Empty Nil Nil)) (node kind.If (word kind.Rel "<" (word kind.Text "'a'" Nil (word kind.Text "'b'" Nil Nil)) (node kind.Empty Nil Nil)) Nil)))))) Nil) Nil))))) Nil)))

holds1 : differs tree1 ([]) ≡ Equal
unfolding differs
holds1 = refl

-- Row 11 at not and at a sign.
--   program p; var b: boolean; i: integer; begin b := not i; i := -b; i := +'a'; b := not b; i := -i end.
abbrev tree2 : Plain
tree2 = program (name "p" (node kind.Heads Nil (node kind.Block (node kind.Consts Nil (node kind.Types Nil (node kind.Vars (node kind.Vardef (node kind.Names (name "b" Nil) (node kind.Tname (name "boolean" Nil) Nil)) (node kind.Vardef (node kind.Names (name "i" Nil) (node kind.Tname (name "integer" Nil) Nil)) Nil)) (node kind.Routines Nil (node kind.Compound (node kind.Stmts (node kind.Assign (node kind.Ref (name "b" Nil) (node kind.Not (node kind.Ref (name "i" Nil) Nil) Nil)) (node kind.Assign (node kind.Ref (name "i" Nil) (word kind.Sign "-" (node kind.Ref (name "b" Nil) Nil) Nil)) (node kind.Assign (node kind.Ref (name "i" Nil) (word kind.Sign "+" (word kind.Text "'a'" Nil Nil) Nil)) (node kind.Assign (node kind.Ref (name "b" Nil) (node kind.Not (node kind.Ref (name "b" Nil) Nil) Nil)) (node kind.Assign (node kind.Ref (name "i" Nil) (word kind.Sign "-" (node kind.Ref (name "i" Nil) Nil) Nil)) Nil))))) Nil) Nil))))) Nil)))

holds2 : differs tree2 (entry (3 ∷ 5 ∷ 1 ∷ 1 ∷ 2 ∷ []) 11 "types do not agree" ∷ entry (3 ∷ 5 ∷ 1 ∷ 2 ∷ 2 ∷ []) 11 "types do not agree" ∷ entry (3 ∷ 5 ∷ 1 ∷ 3 ∷ 2 ∷ []) 11 "types do not agree" ∷ []) ≡ Equal
unfolding differs
holds2 = refl

-- Row 11 at the node of an operator: each kind of operand once.
--   program p; var i: integer; b: boolean; s: set of 1..9; begin i := 1 + b; b := b and i; b := i or b; i := 'a' * 2; s := s + 1; i := 7 div 'x'; i := b
--   mod 2 end.
abbrev tree3 : Plain
tree3 = program (name "p" (node kind.Heads Nil (node kind.Block (node kind.Consts Nil (node kind.Types Nil (node kind.Vars (node kind.Vardef (node kind.Names (name "i" Nil) (node kind.Tname (name "integer" Nil) Nil)) (node kind.Vardef (node kind.Names (name "b" Nil) (node kind.Tname (name "boolean" Nil) Nil)) (node kind.Vardef (node kind.Names (name "s" Nil) (node kind.Setof (node kind.Subrange (word kind.Cnumber "1" Nil (word kind.Cnumber "9" Nil Nil)) Nil) Nil)) Nil))) (node kind.Routines Nil (node kind.Compound (node kind.Stmts (node kind.Assign (node kind.Ref (name "i" Nil) (word kind.Add "+" (word kind.Number "1" Nil (node kind.Ref (name "b" Nil) Nil)) Nil)) (node kind.Assign (node kind.Ref (name "b" Nil) (word kind.Mul "and" (node kind.Ref (name "b" Nil) (node kind.Ref (name "i" Nil) Nil)) Nil)) (node kind.Assign (node kind.Ref (name "b" Nil) (word kind.Add "or" (node kind.Ref (name "i" Nil) (node kind.Ref (name "b" Nil) Nil)) Nil)) (node kind.Assign (node kind.Ref (name "i" Nil) (word kind.Mul "*" (word kind.Text "'a'" Nil (word kind.Number "2" Nil Nil)) Nil)) (node kind.Assign (node kind.Ref (name "s" Nil) (word kind.Add "+" (node kind.Ref (name "s" Nil) (word kind.Number "1" Nil Nil)) Nil)) (node kind.Assign (node kind.Ref (name "i" Nil) (word kind.Mul "div" (word kind.Number "7" Nil (word kind.Text "'x'" Nil Nil)) Nil)) (node kind.Assign (node kind.Ref (name "i" Nil) (word kind.Mul "mod" (node kind.Ref (name "b" Nil) (word kind.Number "2" Nil Nil)) Nil)) Nil))))))) Nil) Nil))))) Nil)))

holds3 : differs tree3 (entry (3 ∷ 5 ∷ 1 ∷ 1 ∷ 2 ∷ []) 11 "types do not agree" ∷ entry (3 ∷ 5 ∷ 1 ∷ 2 ∷ 2 ∷ []) 11 "types do not agree" ∷ entry (3 ∷ 5 ∷ 1 ∷ 3 ∷ 2 ∷ []) 11 "types do not agree" ∷ entry (3 ∷ 5 ∷ 1 ∷ 4 ∷ 2 ∷ []) 11 "types do not agree" ∷ entry (3 ∷ 5 ∷ 1 ∷ 5 ∷ 2 ∷ []) 11 "types do not agree" ∷ entry (3 ∷ 5 ∷ 1 ∷ 6 ∷ 2 ∷ []) 11 "types do not agree" ∷ entry (3 ∷ 5 ∷ 1 ∷ 7 ∷ 2 ∷ []) 11 "types do not agree" ∷ []) ≡ Equal
unfolding differs
holds3 = refl

-- Row 11: a packed set and one that is not do not agree; a set constructor agrees with either.
--   program p; var s: set of 1..9; t: packed set of 1..9; begin s := t; t := [1]; s := [2]; t := t + [3]; s := s + t end.
abbrev tree4 : Plain
tree4 = program (name "p" (node kind.Heads Nil (node kind.Block (node kind.Consts Nil (node kind.Types Nil (node kind.Vars (node kind.Vardef (node kind.Names (name "s" Nil) (node kind.Setof (node kind.Subrange (word kind.Cnumber "1" Nil (word kind.Cnumber "9" Nil Nil)) Nil) Nil)) (node kind.Vardef (node kind.Names (name "t" Nil) (node kind.Packed (node kind.Setof (node kind.Subrange (word kind.Cnumber "1" Nil (word kind.Cnumber "9" Nil Nil)) Nil) Nil) Nil)) Nil)) (node kind.Routines Nil (node kind.Compound (node kind.Stmts (node kind.Assign (node kind.Ref (name "s" Nil) (node kind.Ref (name "t" Nil) Nil)) (node kind.Assign (node kind.Ref (name "t" Nil) (node kind.Setcon (node kind.Members (word kind.Number "1" Nil Nil) Nil) Nil)) (node kind.Assign (node kind.Ref (name "s" Nil) (node kind.Setcon (node kind.Members (word kind.Number "2" Nil Nil) Nil) Nil)) (node kind.Assign (node kind.Ref (name "t" Nil) (word kind.Add "+" (node kind.Ref (name "t" Nil) (node kind.Setcon (node kind.Members (word kind.Number "3" Nil Nil) Nil) Nil)) Nil)) (node kind.Assign (node kind.Ref (name "s" Nil) (word kind.Add "+" (node kind.Ref (name "s" Nil) (node kind.Ref (name "t" Nil) Nil)) Nil)) Nil))))) Nil) Nil))))) Nil)))

holds4 : differs tree4 (entry (3 ∷ 5 ∷ 1 ∷ 1 ∷ []) 11 "types do not agree" ∷ entry (3 ∷ 5 ∷ 1 ∷ 5 ∷ 2 ∷ []) 11 "types do not agree" ∷ []) ≡ Equal
unfolding differs
holds4 = refl

-- Row 11: assignment through a pointer has the domain's type.
--   program p; type n = record v: char; next: ^n end; var q: ^n; begin q^.v := 1; q^ := q; q^.next := q end.
abbrev tree5 : Plain
tree5 = program (name "p" (node kind.Heads Nil (node kind.Block (node kind.Consts Nil (node kind.Types (node kind.Typedef (name "n" (node kind.Record (node kind.Fields (node kind.Field (node kind.Names (name "v" Nil) (node kind.Tname (name "char" Nil) Nil)) (node kind.Field (node kind.Names (name "next" Nil) (node kind.Pointer (name "n" Nil) Nil)) Nil)) Nil) Nil)) Nil) (node kind.Vars (node kind.Vardef (node kind.Names (name "q" Nil) (node kind.Pointer (name "n" Nil) Nil)) Nil) (node kind.Routines Nil (node kind.Compound (node kind.Stmts (node kind.Assign (node kind.Select (node kind.Deref (node kind.Ref (name "q" Nil) Nil) (name "v" Nil)) (word kind.Number "1" Nil Nil)) (node kind.Assign (node kind.Deref (node kind.Ref (name "q" Nil) Nil) (node kind.Ref (name "q" Nil) Nil)) (node kind.Assign (node kind.Select (node kind.Deref (node kind.Ref (name "q" Nil) Nil) (name "next" Nil)) (node kind.Ref (name "q" Nil) Nil)) Nil))) Nil) Nil))))) Nil)))

holds5 : differs tree5 (entry (3 ∷ 5 ∷ 1 ∷ 1 ∷ []) 11 "types do not agree" ∷ entry (3 ∷ 5 ∷ 1 ∷ 2 ∷ []) 11 "types do not agree" ∷ entry (3 ∷ 5 ∷ 1 ∷ 3 ∷ []) 11 "types do not agree" ∷ []) ≡ Equal
unfolding differs
holds5 = refl

-- Row 11: pointers agree by definition and with nil; only = and <> compare them.
--   program p; type a = ^integer; b = ^integer; var x, y: a; z: b; c: boolean; begin x := y; x := z; x := nil; c := x = y; c := x = z; c := x <> nil; c :=
--   nil = nil; c := x < y; x := 0 end.
abbrev tree6 : Plain
tree6 = program (name "p" (node kind.Heads Nil (node kind.Block (node kind.Consts Nil (node kind.Types (node kind.Typedef (name "a" (node kind.Pointer (name "integer" Nil) Nil)) (node kind.Typedef (name "b" (node kind.Pointer (name "integer" Nil) Nil)) Nil)) (node kind.Vars (node kind.Vardef (node kind.Names (name "x" (name "y" Nil)) (node kind.Tname (name "a" Nil) Nil)) (node kind.Vardef (node kind.Names (name "z" Nil) (node kind.Tname (name "b" Nil) Nil)) (node kind.Vardef (node kind.Names (name "c" Nil) (node kind.Tname (name "boolean" Nil) Nil)) Nil))) (node kind.Routines Nil (node kind.Compound (node kind.Stmts (node kind.Assign (node kind.Ref (name "x" Nil) (node kind.Ref (name "y" Nil) Nil)) (node kind.Assign (node kind.Ref (name "x" Nil) (node kind.Ref (name "z" Nil) Nil)) (node kind.Assign (node kind.Ref (name "x" Nil) (node kind.Nil Nil Nil)) (node kind.Assign (node kind.Ref (name "c" Nil) (word kind.Rel "=" (node kind.Ref (name "x" Nil) (node kind.Ref (name "y" Nil) Nil)) Nil)) (node kind.Assign (node kind.Ref (name "c" Nil) (word kind.Rel "=" (node kind.Ref (name "x" Nil) (node kind.Ref (name "z" Nil) Nil)) Nil)) (node kind.Assign (node kind.Ref (name "c" Nil) (word kind.Rel "<>" (node kind.Ref (name "x" Nil) (node kind.Nil Nil Nil)) Nil)) (node kind.Assign (node kind.Ref (name "c" Nil) (word kind.Rel "=" (node kind.Nil Nil (node kind.Nil Nil Nil)) Nil)) (node kind.Assign (node kind.Ref (name "c" Nil) (word kind.Rel "<" (node kind.Ref (name "x" Nil) (node kind.Ref (name "y" Nil) Nil)) Nil)) (node kind.Assign (node kind.Ref (name "x" Nil) (word kind.Number "0" Nil Nil)) Nil))))))))) Nil) Nil))))) Nil)))

holds6 : differs tree6 (entry (3 ∷ 5 ∷ 1 ∷ 2 ∷ []) 11 "types do not agree" ∷ entry (3 ∷ 5 ∷ 1 ∷ 5 ∷ 2 ∷ []) 11 "types do not agree" ∷ entry (3 ∷ 5 ∷ 1 ∷ 8 ∷ 2 ∷ []) 11 "types do not agree" ∷ entry (3 ∷ 5 ∷ 1 ∷ 9 ∷ []) 11 "types do not agree" ∷ []) ≡ Equal
unfolding differs
holds6 = refl

-- Row 11 at comparisons: two types, an ordering of sets with <, arrays, records.
--   program p; var a, b: array [1..2] of char; r, q: record x: char end; s: set of 1..3; c: boolean; begin c := 1 = 'a'; c := s < s; c := a = b; c := r =
--   q; c := s = [1]; c := 'a' in s; c := 1 in 2 end.
abbrev tree7 : Plain
tree7 = program (name "p" (node kind.Heads Nil (node kind.Block (node kind.Consts Nil (node kind.Types Nil (node kind.Vars (node kind.Vardef (node kind.Names (name "a" (name "b" Nil)) (node kind.Array (node kind.Indexes (node kind.Subrange (word kind.Cnumber "1" Nil (word kind.Cnumber "2" Nil Nil)) Nil) (node kind.Tname (name "char" Nil) Nil)) Nil)) (node kind.Vardef (node kind.Names (name "r" (name "q" Nil)) (node kind.Record (node kind.Fields (node kind.Field (node kind.Names (name "x" Nil) (node kind.Tname (name "char" Nil) Nil)) Nil) Nil) Nil)) (node kind.Vardef (node kind.Names (name "s" Nil) (node kind.Setof (node kind.Subrange (word kind.Cnumber "1" Nil (word kind.Cnumber "3" Nil Nil)) Nil) Nil)) (node kind.Vardef (node kind.Names (name "c" Nil) (node kind.Tname (name "boolean" Nil) Nil)) Nil)))) (node kind.Routines Nil (node kind.Compound (node kind.Stmts (node kind.Assign (node kind.Ref (name "c" Nil) (word kind.Rel "=" (word kind.Number "1" Nil (word kind.Text "'a'" Nil Nil)) Nil)) (node kind.Assign (node kind.Ref (name "c" Nil) (word kind.Rel "<" (node kind.Ref (name "s" Nil) (node kind.Ref (name "s" Nil) Nil)) Nil)) (node kind.Assign (node kind.Ref (name "c" Nil) (word kind.Rel "=" (node kind.Ref (name "a" Nil) (node kind.Ref (name "b" Nil) Nil)) Nil)) (node kind.Assign (node kind.Ref (name "c" Nil) (word kind.Rel "=" (node kind.Ref (name "r" Nil) (node kind.Ref (name "q" Nil) Nil)) Nil)) (node kind.Assign (node kind.Ref (name "c" Nil) (word kind.Rel "=" (node kind.Ref (name "s" Nil) (node kind.Setcon (node kind.Members (word kind.Number "1" Nil Nil) Nil) Nil)) Nil)) (node kind.Assign (node kind.Ref (name "c" Nil) (word kind.Rel "in" (word kind.Text "'a'" Nil (node kind.Ref (name "s" Nil) Nil)) Nil)) (node kind.Assign (node kind.Ref (name "c" Nil) (word kind.Rel "in" (word kind.Number "1" Nil (word kind.Number "2" Nil Nil)) Nil)) Nil))))))) Nil) Nil))))) Nil)))

holds7 : differs tree7 (entry (3 ∷ 5 ∷ 1 ∷ 1 ∷ 2 ∷ []) 11 "types do not agree" ∷ entry (3 ∷ 5 ∷ 1 ∷ 2 ∷ 2 ∷ []) 11 "types do not agree" ∷ entry (3 ∷ 5 ∷ 1 ∷ 3 ∷ 2 ∷ []) 11 "types do not agree" ∷ entry (3 ∷ 5 ∷ 1 ∷ 4 ∷ 2 ∷ []) 11 "types do not agree" ∷ entry (3 ∷ 5 ∷ 1 ∷ 6 ∷ 2 ∷ []) 11 "types do not agree" ∷ entry (3 ∷ 5 ∷ 1 ∷ 7 ∷ 2 ∷ []) 11 "types do not agree" ∷ []) ≡ Equal
unfolding differs
holds7 = refl

-- Row 11 at the assignment of a result.
--   program p; function f: char; begin f := 1; f := 'x' end; begin write(f) end.
abbrev tree8 : Plain
tree8 = program (name "p" (node kind.Heads Nil (node kind.Block (node kind.Consts Nil (node kind.Types Nil (node kind.Vars Nil (node kind.Routines (node kind.Function (name "f" (node kind.Params Nil (name "char" (node kind.Block (node kind.Consts Nil (node kind.Types Nil (node kind.Vars Nil (node kind.Routines Nil (node kind.Compound (node kind.Stmts (node kind.Assign (node kind.Ref (name "f" Nil) (word kind.Number "1" Nil Nil)) (node kind.Assign (node kind.Ref (name "f" Nil) (word kind.Text "'x'" Nil Nil)) Nil)) Nil) Nil))))) Nil)))) Nil) (node kind.Compound (node kind.Stmts (node kind.Proc (name "write" (node kind.Args (node kind.Ref (name "f" Nil) Nil) Nil)) Nil) Nil) Nil))))) Nil)))

holds8 : differs tree8 (entry (3 ∷ 4 ∷ 1 ∷ 4 ∷ 5 ∷ 1 ∷ 1 ∷ []) 11 "types do not agree" ∷ []) ≡ Equal
unfolding differs
holds8 = refl

-- Row 11: the index of a string type has the bounds 1 to n of type integer itself; the element is char itself and no subrange of it.
--   program p; type one = 1..3; letter = 'a'..'z'; var s: packed array [one] of char; t: packed array [one] of letter; begin s := 'abc'; t := 'abc' end.
abbrev tree9 : Plain
tree9 = program (name "p" (node kind.Heads Nil (node kind.Block (node kind.Consts Nil (node kind.Types (node kind.Typedef (name "one" (node kind.Subrange (word kind.Cnumber "1" Nil (word kind.Cnumber "3" Nil Nil)) Nil)) (node kind.Typedef (name "letter" (node kind.Subrange (word kind.Cstring "'a'" Nil (word kind.Cstring "'z'" Nil Nil)) Nil)) Nil)) (node kind.Vars (node kind.Vardef (node kind.Names (name "s" Nil) (node kind.Packed (node kind.Array (node kind.Indexes (node kind.Tname (name "one" Nil) Nil) (node kind.Tname (name "char" Nil) Nil)) Nil) Nil)) (node kind.Vardef (node kind.Names (name "t" Nil) (node kind.Packed (node kind.Array (node kind.Indexes (node kind.Tname (name "one" Nil) Nil) (node kind.Tname (name "letter" Nil) Nil)) Nil) Nil)) Nil)) (node kind.Routines Nil (node kind.Compound (node kind.Stmts (node kind.Assign (node kind.Ref (name "s" Nil) (word kind.Text "'abc'" Nil Nil)) (node kind.Assign (node kind.Ref (name "t" Nil) (word kind.Text "'abc'" Nil Nil)) Nil)) Nil) Nil))))) Nil)))

holds9 : differs tree9 (entry (3 ∷ 5 ∷ 1 ∷ 2 ∷ []) 11 "types do not agree" ∷ []) ≡ Equal
unfolding differs
holds9 = refl

-- Row 11: strings of equal length agree; others, and arrays that are no strings, do not.
--   program p; var s: packed array [1..3] of char; t: packed array [1..3] of char; u: packed array [0..2] of char; v: array [1..3] of char; w: packed
--   array [1..1] of char; begin s := t; s := 'abc'; s := 'ab'; u := 'abc'; v := 'abc'; w := 'a'; s := u; if s = 'xyz' then; if s = 'xy' then end.
abbrev tree10 : Plain
tree10 = program (name "p" (node kind.Heads Nil (node kind.Block (node kind.Consts Nil (node kind.Types Nil (node kind.Vars (node kind.Vardef (node kind.Names (name "s" Nil) (node kind.Packed (node kind.Array (node kind.Indexes (node kind.Subrange (word kind.Cnumber "1" Nil (word kind.Cnumber "3" Nil Nil)) Nil) (node kind.Tname (name "char" Nil) Nil)) Nil) Nil)) (node kind.Vardef (node kind.Names (name "t" Nil) (node kind.Packed (node kind.Array (node kind.Indexes (node kind.Subrange (word kind.Cnumber "1" Nil (word kind.Cnumber "3" Nil Nil)) Nil) (node kind.Tname (name "char" Nil) Nil)) Nil) Nil)) (node kind.Vardef (node kind.Names (name "u" Nil) (node kind.Packed (node kind.Array (node kind.Indexes (node kind.Subrange (word kind.Cnumber "0" Nil (word kind.Cnumber "2" Nil Nil)) Nil) (node kind.Tname (name "char" Nil) Nil)) Nil) Nil)) (node kind.Vardef (node kind.Names (name "v" Nil) (node kind.Array (node kind.Indexes (node kind.Subrange (word kind.Cnumber "1" Nil (word kind.Cnumber "3" Nil Nil)) Nil) (node kind.Tname (name "char" Nil) Nil)) Nil)) (node kind.Vardef (node kind.Names (name "w" Nil) (node kind.Packed (node kind.Array (node kind.Indexes (node kind.Subrange (word kind.Cnumber "1" Nil (word kind.Cnumber "1" Nil Nil)) Nil) (node kind.Tname (name "char" Nil) Nil)) Nil) Nil)) Nil))))) (node kind.Routines Nil (node kind.Compound (node kind.Stmts (node kind.Assign (node kind.Ref (name "s" Nil) (node kind.Ref (name "t" Nil) Nil)) (node kind.Assign (node kind.Ref (name "s" Nil) (word kind.Text "'abc'" Nil Nil)) (node kind.Assign (node kind.Ref (name "s" Nil) (word kind.Text "'ab'" Nil Nil)) (node kind.Assign (node kind.Ref (name "u" Nil) (word kind.Text "'abc'" Nil Nil)) (node kind.Assign (node kind.Ref (name "v" Nil) (word kind.Text "'abc'" Nil Nil)) (node kind.Assign (node kind.Ref (name "w" Nil) (word kind.Text "'a'" Nil Nil)) (node kind.Assign (node kind.Ref (name "s" Nil) (node kind.Ref (name "u" Nil) Nil)) (node kind.If (word kind.Rel "=" (node kind.Ref (name "s" Nil) (word kind.Text "'xyz'" Nil Nil)) (node kind.Empty Nil Nil)) (node kind.If (word kind.Rel "=" (node kind.Ref (name "s" Nil) (word kind.Text "'xy'" Nil Nil)) (node kind.Empty Nil Nil)) Nil))))))))) Nil) Nil))))) Nil)))

holds10 : differs tree10 (entry (3 ∷ 5 ∷ 1 ∷ 3 ∷ []) 11 "types do not agree" ∷ entry (3 ∷ 5 ∷ 1 ∷ 4 ∷ []) 11 "types do not agree" ∷ entry (3 ∷ 5 ∷ 1 ∷ 5 ∷ []) 11 "types do not agree" ∷ entry (3 ∷ 5 ∷ 1 ∷ 6 ∷ []) 11 "types do not agree" ∷ entry (3 ∷ 5 ∷ 1 ∷ 7 ∷ []) 11 "types do not agree" ∷ entry (3 ∷ 5 ∷ 1 ∷ 9 ∷ 1 ∷ []) 11 "types do not agree" ∷ []) ≡ Equal
unfolding differs
holds10 = refl

-- Row 11 needs both types: none where one operand has none, whatever the other is.
--   program p; var b: boolean; begin b := y + true; b := ?expression and 1; b := not (1 + 'a') end.
abbrev tree11 : Plain
tree11 = program (name "p" (node kind.Heads Nil (node kind.Block (node kind.Consts Nil (node kind.Types Nil (node kind.Vars (node kind.Vardef (node kind.Names (name "b" Nil) (node kind.Tname (name "boolean" Nil) Nil)) Nil) (node kind.Routines Nil (node kind.Compound (node kind.Stmts (node kind.Assign (node kind.Ref (name "b" Nil) (word kind.Add "+" (node kind.Ref (name "y" Nil) (node kind.Ref (name "true" Nil) Nil)) Nil)) (node kind.Assign (node kind.Ref (name "b" Nil) (word kind.Mul "and" (node (kind.Hole sort.Expression) Nil (word kind.Number "1" Nil Nil)) Nil)) (node kind.Assign (node kind.Ref (name "b" Nil) (node kind.Not (node kind.Parens (word kind.Add "+" (word kind.Number "1" Nil (word kind.Text "'a'" Nil Nil)) Nil) Nil) Nil)) Nil))) Nil) Nil))))) Nil)))

holds11 : differs tree11 (entry (3 ∷ 5 ∷ 1 ∷ 1 ∷ 2 ∷ 1 ∷ 1 ∷ []) 1 "not declared: y" ∷ entry (3 ∷ 5 ∷ 1 ∷ 3 ∷ 2 ∷ 1 ∷ 1 ∷ []) 11 "types do not agree" ∷ []) ≡ Equal
unfolding differs
holds11 = refl

-- Rows 11 and 13 at one place, and 13 alone where the part has no type.
--   program p; procedure q(var a: integer); begin end; begin q(not 1); q(-'a'); q(1 = 'a'); q(y = 1) end.
abbrev tree12 : Plain
tree12 = program (name "p" (node kind.Heads Nil (node kind.Block (node kind.Consts Nil (node kind.Types Nil (node kind.Vars Nil (node kind.Routines (node kind.Procedure (name "q" (node kind.Params (node kind.Varparam (node kind.Names (name "a" Nil) (name "integer" Nil)) Nil) (node kind.Block (node kind.Consts Nil (node kind.Types Nil (node kind.Vars Nil (node kind.Routines Nil (node kind.Compound (node kind.Stmts (node kind.Empty Nil Nil) Nil) Nil))))) Nil))) Nil) (node kind.Compound (node kind.Stmts (node kind.Proc (name "q" (node kind.Args (node kind.Not (word kind.Number "1" Nil Nil) Nil) Nil)) (node kind.Proc (name "q" (node kind.Args (word kind.Sign "-" (word kind.Text "'a'" Nil Nil) Nil) Nil)) (node kind.Proc (name "q" (node kind.Args (word kind.Rel "=" (word kind.Number "1" Nil (word kind.Text "'a'" Nil Nil)) Nil) Nil)) (node kind.Proc (name "q" (node kind.Args (word kind.Rel "=" (node kind.Ref (name "y" Nil) (word kind.Number "1" Nil Nil)) Nil) Nil)) Nil)))) Nil) Nil))))) Nil)))

holds12 : differs tree12 (entry (3 ∷ 5 ∷ 1 ∷ 1 ∷ 2 ∷ 1 ∷ []) 11 "types do not agree" ∷ entry (3 ∷ 5 ∷ 1 ∷ 1 ∷ 2 ∷ 1 ∷ []) 13 "not a variable" ∷ entry (3 ∷ 5 ∷ 1 ∷ 2 ∷ 2 ∷ 1 ∷ []) 11 "types do not agree" ∷ entry (3 ∷ 5 ∷ 1 ∷ 2 ∷ 2 ∷ 1 ∷ []) 13 "not a variable" ∷ entry (3 ∷ 5 ∷ 1 ∷ 3 ∷ 2 ∷ 1 ∷ []) 11 "types do not agree" ∷ entry (3 ∷ 5 ∷ 1 ∷ 3 ∷ 2 ∷ 1 ∷ []) 13 "not a variable" ∷ entry (3 ∷ 5 ∷ 1 ∷ 4 ∷ 2 ∷ 1 ∷ []) 13 "not a variable" ∷ entry (3 ∷ 5 ∷ 1 ∷ 4 ∷ 2 ∷ 1 ∷ 1 ∷ 1 ∷ []) 1 "not declared: y" ∷ []) ≡ Equal
unfolding differs
holds12 = refl
