-- Bases of sets: programs with the errors that they have.
use Rattle.std.specs.Prelude.{◌≡◌, [], ◌∷◌}
use Rattle.std.proofs.Common.{refl}
use Rattle.pc_syntax.specs.Plain.{Nil, Plain}
use Rattle.pc_syntax.specs.declared.kind.Kind.TheVariants as kind
use Rattle.pc_rule_cases.specs.Trees.{program, node, name, word}
use Rattle.pc_rule_cases.specs.Compare.{Equal, entry, differs}

-- Row 9: 0 to 255 are the largest base.
--   program p; var s: set of 0..255; begin s := [0, 255] end.
abbrev tree1 : Plain
tree1 = program (name "p" (node kind.Heads Nil (node kind.Block (node kind.Consts Nil (node kind.Types Nil (node kind.Vars (node kind.Vardef (node kind.Names (name "s" Nil) (node kind.Setof (node kind.Subrange (word kind.Cnumber "0" Nil (word kind.Cnumber "255" Nil Nil)) Nil) Nil)) Nil) (node kind.Routines Nil (node kind.Compound (node kind.Stmts (node kind.Assign (node kind.Ref (name "s" Nil) (node kind.Setcon (node kind.Members (word kind.Number "0" Nil (word kind.Number "255" Nil Nil)) Nil) Nil)) Nil) Nil) Nil))))) Nil)))

holds1 : differs tree1 ([]) ≡ Equal
unfolding differs
holds1 = refl

-- Row 9: one more is too large.
--   program p; var s: set of 0..256; begin s := [] end.
abbrev tree2 : Plain
tree2 = program (name "p" (node kind.Heads Nil (node kind.Block (node kind.Consts Nil (node kind.Types Nil (node kind.Vars (node kind.Vardef (node kind.Names (name "s" Nil) (node kind.Setof (node kind.Subrange (word kind.Cnumber "0" Nil (word kind.Cnumber "256" Nil Nil)) Nil) Nil)) Nil) (node kind.Routines Nil (node kind.Compound (node kind.Stmts (node kind.Assign (node kind.Ref (name "s" Nil) (node kind.Setcon (node kind.Members Nil Nil) Nil)) Nil) Nil) Nil))))) Nil)))

holds2 : differs tree2 (entry (3 ∷ 3 ∷ 1 ∷ 2 ∷ 1 ∷ []) 9 "set base too large" ∷ []) ≡ Equal
unfolding differs
holds2 = refl

-- Row 9 needs the base's type: bounds out of order are row 7 alone.
--   program p; var s: set of 300..200; begin end.
abbrev tree3 : Plain
tree3 = program (name "p" (node kind.Heads Nil (node kind.Block (node kind.Consts Nil (node kind.Types Nil (node kind.Vars (node kind.Vardef (node kind.Names (name "s" Nil) (node kind.Setof (node kind.Subrange (word kind.Cnumber "300" Nil (word kind.Cnumber "200" Nil Nil)) Nil) Nil)) Nil) (node kind.Routines Nil (node kind.Compound (node kind.Stmts (node kind.Empty Nil Nil) Nil) Nil))))) Nil)))

holds3 : differs tree3 (entry (3 ∷ 3 ∷ 1 ∷ 2 ∷ 1 ∷ []) 7 "bad bounds" ∷ []) ≡ Equal
unfolding differs
holds3 = refl

-- Row 9: the ordinals count and not how many there are.
--   program p; var s: set of 250..260; t: set of 250..255; begin end.
abbrev tree4 : Plain
tree4 = program (name "p" (node kind.Heads Nil (node kind.Block (node kind.Consts Nil (node kind.Types Nil (node kind.Vars (node kind.Vardef (node kind.Names (name "s" Nil) (node kind.Setof (node kind.Subrange (word kind.Cnumber "250" Nil (word kind.Cnumber "260" Nil Nil)) Nil) Nil)) (node kind.Vardef (node kind.Names (name "t" Nil) (node kind.Setof (node kind.Subrange (word kind.Cnumber "250" Nil (word kind.Cnumber "255" Nil Nil)) Nil) Nil)) Nil)) (node kind.Routines Nil (node kind.Compound (node kind.Stmts (node kind.Empty Nil Nil) Nil) Nil))))) Nil)))

holds4 : differs tree4 (entry (3 ∷ 3 ∷ 1 ∷ 2 ∷ 1 ∷ []) 9 "set base too large" ∷ []) ≡ Equal
unfolding differs
holds4 = refl

-- Row 9: integer itself; char and Boolean are bases.
--   program p; var s: set of integer; t: set of char; u: set of boolean; begin t := ['a']; u := [true] end.
abbrev tree5 : Plain
tree5 = program (name "p" (node kind.Heads Nil (node kind.Block (node kind.Consts Nil (node kind.Types Nil (node kind.Vars (node kind.Vardef (node kind.Names (name "s" Nil) (node kind.Setof (node kind.Tname (name "integer" Nil) Nil) Nil)) (node kind.Vardef (node kind.Names (name "t" Nil) (node kind.Setof (node kind.Tname (name "char" Nil) Nil) Nil)) (node kind.Vardef (node kind.Names (name "u" Nil) (node kind.Setof (node kind.Tname (name "boolean" Nil) Nil) Nil)) Nil))) (node kind.Routines Nil (node kind.Compound (node kind.Stmts (node kind.Assign (node kind.Ref (name "t" Nil) (node kind.Setcon (node kind.Members (word kind.Text "'a'" Nil Nil) Nil) Nil)) (node kind.Assign (node kind.Ref (name "u" Nil) (node kind.Setcon (node kind.Members (node kind.Ref (name "true" Nil) Nil) Nil) Nil)) Nil)) Nil) Nil))))) Nil)))

holds5 : differs tree5 (entry (3 ∷ 3 ∷ 1 ∷ 2 ∷ 1 ∷ []) 9 "set base too large" ∷ []) ≡ Equal
unfolding differs
holds5 = refl

-- Row 9: an ordinal below 0.
--   program p; type t = -1..5; var s: set of t; u: set of 0..5; begin s := [1] end.
abbrev tree6 : Plain
tree6 = program (name "p" (node kind.Heads Nil (node kind.Block (node kind.Consts Nil (node kind.Types (node kind.Typedef (name "t" (node kind.Subrange (word kind.Csign "-" (word kind.Cnumber "1" Nil Nil) (word kind.Cnumber "5" Nil Nil)) Nil)) Nil) (node kind.Vars (node kind.Vardef (node kind.Names (name "s" Nil) (node kind.Setof (node kind.Tname (name "t" Nil) Nil) Nil)) (node kind.Vardef (node kind.Names (name "u" Nil) (node kind.Setof (node kind.Subrange (word kind.Cnumber "0" Nil (word kind.Cnumber "5" Nil Nil)) Nil) Nil)) Nil)) (node kind.Routines Nil (node kind.Compound (node kind.Stmts (node kind.Assign (node kind.Ref (name "s" Nil) (node kind.Setcon (node kind.Members (word kind.Number "1" Nil Nil) Nil) Nil)) Nil) Nil) Nil))))) Nil)))

holds6 : differs tree6 (entry (3 ∷ 3 ∷ 1 ∷ 2 ∷ 1 ∷ []) 9 "set base too large" ∷ []) ≡ Equal
unfolding differs
holds6 = refl

-- Row 9: the variable has no type, so `in`, the assignment and the index have no entry.
--   program p; var s: set of 200..300; a: array [1..2] of char; begin s := 5; if 1 in s then; if s then end.
abbrev tree7 : Plain
tree7 = program (name "p" (node kind.Heads Nil (node kind.Block (node kind.Consts Nil (node kind.Types Nil (node kind.Vars (node kind.Vardef (node kind.Names (name "s" Nil) (node kind.Setof (node kind.Subrange (word kind.Cnumber "200" Nil (word kind.Cnumber "300" Nil Nil)) Nil) Nil)) (node kind.Vardef (node kind.Names (name "a" Nil) (node kind.Array (node kind.Indexes (node kind.Subrange (word kind.Cnumber "1" Nil (word kind.Cnumber "2" Nil Nil)) Nil) (node kind.Tname (name "char" Nil) Nil)) Nil)) Nil)) (node kind.Routines Nil (node kind.Compound (node kind.Stmts (node kind.Assign (node kind.Ref (name "s" Nil) (word kind.Number "5" Nil Nil)) (node kind.If (word kind.Rel "in" (word kind.Number "1" Nil (node kind.Ref (name "s" Nil) Nil)) (node kind.Empty Nil Nil)) (node kind.If (node kind.Ref (name "s" Nil) (node kind.Empty Nil Nil)) Nil))) Nil) Nil))))) Nil)))

holds7 : differs tree7 (entry (3 ∷ 3 ∷ 1 ∷ 2 ∷ 1 ∷ []) 9 "set base too large" ∷ []) ≡ Equal
unfolding differs
holds7 = refl
