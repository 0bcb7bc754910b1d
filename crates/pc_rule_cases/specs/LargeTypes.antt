-- Types over the limits: programs with the errors that they have.
use Rattle.std.specs.Prelude.{◌≡◌, [], ◌∷◌}
use Rattle.std.proofs.Common.{refl}
use Rattle.pc_syntax.specs.Plain.{Nil, Plain}
use Rattle.pc_syntax.specs.declared.kind.Kind.TheVariants as kind
use Rattle.pc_syntax.specs.declared.sort.Sort.TheVariants as sort
use Rattle.pc_rule_cases.specs.Trees.{program, node, name, word}
use Rattle.pc_rule_cases.specs.Compare.{Equal, entry, differs}

-- Row 10: 1,000,000 cells are the most.
--   program p; var a: array [1..1000000] of char; b: array [0..1000000] of char; begin end.
abbrev tree1 : Plain
tree1 = program (name "p" (node kind.Heads Nil (node kind.Block (node kind.Consts Nil (node kind.Types Nil (node kind.Vars (node kind.Vardef (node kind.Names (name "a" Nil) (node kind.Array (node kind.Indexes (node kind.Subrange (word kind.Cnumber "1" Nil (word kind.Cnumber "1000000" Nil Nil)) Nil) (node kind.Tname (name "char" Nil) Nil)) Nil)) (node kind.Vardef (node kind.Names (name "b" Nil) (node kind.Array (node kind.Indexes (node kind.Subrange (word kind.Cnumber "0" Nil (word kind.Cnumber "1000000" Nil Nil)) Nil) (node kind.Tname (name "char" Nil) Nil)) Nil)) Nil)) (node kind.Routines Nil (node kind.Compound (node kind.Stmts (node kind.Empty Nil Nil) Nil) Nil))))) Nil)))

holds1 : differs tree1 (entry (3 ∷ 3 ∷ 2 ∷ 2 ∷ []) 10 "type too large" ∷ []) ≡ Equal
unfolding differs
holds1 = refl

-- Row 10 needs the types of the parts: an array of a hole, of an undeclared type, with a bad index has none.
--   program p; var a: array [0..1000000] of ?type; b: array [0..1000000] of t; c: array [0..1000000, ?type] of char; d: array [0..1000000] of array [2..1]
--   of char; begin end.
abbrev tree2 : Plain
tree2 = program (name "p" (node kind.Heads Nil (node kind.Block (node kind.Consts Nil (node kind.Types Nil (node kind.Vars (node kind.Vardef (node kind.Names (name "a" Nil) (node kind.Array (node kind.Indexes (node kind.Subrange (word kind.Cnumber "0" Nil (word kind.Cnumber "1000000" Nil Nil)) Nil) (node (kind.Hole sort.Denoter) Nil Nil)) Nil)) (node kind.Vardef (node kind.Names (name "b" Nil) (node kind.Array (node kind.Indexes (node kind.Subrange (word kind.Cnumber "0" Nil (word kind.Cnumber "1000000" Nil Nil)) Nil) (node kind.Tname (name "t" Nil) Nil)) Nil)) (node kind.Vardef (node kind.Names (name "c" Nil) (node kind.Array (node kind.Indexes (node kind.Subrange (word kind.Cnumber "0" Nil (word kind.Cnumber "1000000" Nil Nil)) (node (kind.Hole sort.Denoter) Nil Nil)) (node kind.Tname (name "char" Nil) Nil)) Nil)) (node kind.Vardef (node kind.Names (name "d" Nil) (node kind.Array (node kind.Indexes (node kind.Subrange (word kind.Cnumber "0" Nil (word kind.Cnumber "1000000" Nil Nil)) Nil) (node kind.Array (node kind.Indexes (node kind.Subrange (word kind.Cnumber "2" Nil (word kind.Cnumber "1" Nil Nil)) Nil) (node kind.Tname (name "char" Nil) Nil)) Nil)) Nil)) Nil)))) (node kind.Routines Nil (node kind.Compound (node kind.Stmts (node kind.Empty Nil Nil) Nil) Nil))))) Nil)))

holds2 : differs tree2 (entry (3 ∷ 3 ∷ 2 ∷ 2 ∷ 2 ∷ 1 ∷ []) 1 "not declared: t" ∷ entry (3 ∷ 3 ∷ 4 ∷ 2 ∷ 2 ∷ 1 ∷ 1 ∷ []) 7 "bad bounds" ∷ []) ≡ Equal
unfolding differs
holds2 = refl

-- Row 10: the inner denoter has the entry; the outer one has a part with an error.
--   program p; var r: record a: array [0..1000000] of char; b: array [1..5] of array [0..1000000] of char end; begin end.
abbrev tree3 : Plain
tree3 = program (name "p" (node kind.Heads Nil (node kind.Block (node kind.Consts Nil (node kind.Types Nil (node kind.Vars (node kind.Vardef (node kind.Names (name "r" Nil) (node kind.Record (node kind.Fields (node kind.Field (node kind.Names (name "a" Nil) (node kind.Array (node kind.Indexes (node kind.Subrange (word kind.Cnumber "0" Nil (word kind.Cnumber "1000000" Nil Nil)) Nil) (node kind.Tname (name "char" Nil) Nil)) Nil)) (node kind.Field (node kind.Names (name "b" Nil) (node kind.Array (node kind.Indexes (node kind.Subrange (word kind.Cnumber "1" Nil (word kind.Cnumber "5" Nil Nil)) Nil) (node kind.Array (node kind.Indexes (node kind.Subrange (word kind.Cnumber "0" Nil (word kind.Cnumber "1000000" Nil Nil)) Nil) (node kind.Tname (name "char" Nil) Nil)) Nil)) Nil)) Nil)) Nil) Nil)) Nil) (node kind.Routines Nil (node kind.Compound (node kind.Stmts (node kind.Empty Nil Nil) Nil) Nil))))) Nil)))

holds3 : differs tree3 (entry (3 ∷ 3 ∷ 1 ∷ 2 ∷ 1 ∷ 1 ∷ 2 ∷ []) 10 "type too large" ∷ entry (3 ∷ 3 ∷ 1 ∷ 2 ∷ 1 ∷ 2 ∷ 2 ∷ 2 ∷ []) 10 "type too large" ∷ []) ≡ Equal
unfolding differs
holds3 = refl

-- Row 10: an index of type integer, whose number of cells is computed without wrapping.
--   program p; var a: array [integer] of char; b: array [-9223372036854775807..9223372036854775807, 1..9] of char; begin a[1] := 'x' end.
abbrev tree4 : Plain
tree4 = program (name "p" (node kind.Heads Nil (node kind.Block (node kind.Consts Nil (node kind.Types Nil (node kind.Vars (node kind.Vardef (node kind.Names (name "a" Nil) (node kind.Array (node kind.Indexes (node kind.Tname (name "integer" Nil) Nil) (node kind.Tname (name "char" Nil) Nil)) Nil)) (node kind.Vardef (node kind.Names (name "b" Nil) (node kind.Array (node kind.Indexes (node kind.Subrange (word kind.Csign "-" (word kind.Cnumber "9223372036854775807" Nil Nil) (word kind.Cnumber "9223372036854775807" Nil Nil)) (node kind.Subrange (word kind.Cnumber "1" Nil (word kind.Cnumber "9" Nil Nil)) Nil)) (node kind.Tname (name "char" Nil) Nil)) Nil)) Nil)) (node kind.Routines Nil (node kind.Compound (node kind.Stmts (node kind.Assign (node kind.Index (node kind.Ref (name "a" Nil) (node kind.Exprs (word kind.Number "1" Nil Nil) Nil)) (word kind.Text "'x'" Nil Nil)) Nil) Nil) Nil))))) Nil)))

holds4 : differs tree4 (entry (3 ∷ 3 ∷ 1 ∷ 2 ∷ []) 10 "type too large" ∷ entry (3 ∷ 3 ∷ 2 ∷ 2 ∷ []) 10 "type too large" ∷ []) ≡ Equal
unfolding differs
holds4 = refl

-- Row 10: a name equated to another adds no level; the index 1..1 has two levels, so a1 has three, a254 has 256 and a255 one too many.
--   program p; type t1 = char; u1 = t1; a1 = array [1..1] of u1; a2 = array [1..1] of a1; a3 = array [1..1] of a2; a4 = array [1..1] of a3; a5 = array
--   [1..1] of a4; a6 = array [1..1] of a5; a7 = array [1..1] of a6; a8 = array [1..1] of a7; a9 = array [1..1] of a8; a10 = array [1..1] of a9; a11 =
--   array [ .. and so on
abbrev tree5 : Plain
tree5 = program (name "p" (node kind.Heads Nil (node kind.Block (node kind.Consts Nil (node kind.Types (node kind.Typedef (name "t1" (node kind.Tname (name "char" Nil) Nil)) (node kind.Typedef (name "u1" (node kind.Tname (name "t1" Nil) Nil)) (node kind.Typedef (name "a1" (node kind.Array (node kind.Indexes (node kind.Subrange (word kind.Cnumber "1" Nil (word kind.Cnumber "1" Nil Nil)) Nil) (node kind.Tname (name "u1" Nil) Nil)) Nil)) (node kind.Typedef (name "a2" (node kind.Array (node kind.Indexes (node kind.Subrange (word kind.Cnumber "1" Nil (word kind.Cnumber "1" Nil Nil)) Nil) (node kind.Tname (name "a1" Nil) Nil)) Nil)) (node kind.Typedef (name "a3" (node kind.Array (node kind.Indexes (node kind.Subrange (word kind.Cnumber "1" Nil (word kind.Cnumber "1" Nil Nil)) Nil) (node kind.Tname (name "a2" Nil) Nil)) Nil)) (node kind.Typedef (name "a4" (node kind.Array (node kind.Indexes (node kind.Subrange (word kind.Cnumber "1" Nil (word kind.Cnumber "1" Nil Nil)) Nil) (node kind.Tname (name "a3" Nil) Nil)) Nil)) (node kind.Typedef (name "a5" (node kind.Array (node kind.Indexes (node kind.Subrange (word kind.Cnumber "1" Nil (word kind.Cnumber "1" Nil Nil)) Nil) (node kind.Tname (name "a4" Nil) Nil)) Nil)) (node kind.Typedef (name "a6" (node kind.Array (node kind.Indexes (node kind.Subrange (word kind.Cnumber "1" Nil (word kind.Cnumber "1" Nil Nil)) Nil) (node kind.Tname (name "a5" Nil) Nil)) Nil)) (node kind.Typedef (name "a7" (node kind.Array (node kind.Indexes (node kind.Subrange (word kind.Cnumber "1" Nil (word kind.Cnumber "1" Nil Nil)) Nil) (node kind.Tname (name "a6" Nil) Nil)) Nil)) (node kind.Typedef (name "a8" (node kind.Array (node kind.Indexes (node kind.Subrange (word kind.Cnumber "1" Nil (word kind.Cnumber "1" Nil Nil)) Nil) (node kind.Tname (name "a7" Nil) Nil)) Nil)) (node kind.Typedef (name "a9" (node kind.Array (node kind.Indexes (node kind.Subrange (word kind.Cnumber "1" Nil (word kind.Cnumber "1" Nil Nil)) Nil) (node kind.Tname (name "a8" Nil) Nil)) Nil)) (node kind.Typedef (name "a10" (node kind.Array (node kind.Indexes (node kind.Subrange (word kind.Cnumber "1" Nil (word kind.Cnumber "1" Nil Nil)) Nil) (node kind.Tname (name "a9" Nil) Nil)) Nil)) (node kind.Typedef (name "a11" (node kind.Array (node kind.Indexes (node kind.Subrange (word kind.Cnumber "1" Nil (word kind.Cnumber "1" Nil Nil)) Nil) (node kind.Tname (name "a10" Nil) Nil)) Nil)) (node kind.Typedef (name "a12" (node kind.Array (node kind.Indexes (node kind.Subrange (word kind.Cnumber "1" Nil (word kind.Cnumber "1" Nil Nil)) Nil) (node kind.Tname (name "a11" Nil) Nil)) Nil)) (node kind.Typedef (name "a13" (node kind.Array (node kind.Indexes (node kind.Subrange (word kind.Cnumber "1" Nil (word kind.Cnumber "1" Nil Nil)) Nil) (node kind.Tname (name "a12" Nil) Nil)) Nil)) (node kind.Typedef (name "a14" (node kind.Array (node kind.Indexes (node kind.Subrange (word kind.Cnumber "1" Nil (word kind.Cnumber "1" Nil Nil)) Nil) (node kind.Tname (name "a13" Nil) Nil)) Nil)) (node kind.Typedef (name "a15" (node kind.Array (node kind.Indexes (node kind.Subrange (word kind.Cnumber "1" Nil (word kind.Cnumber "1" Nil Nil)) Nil) (node kind.Tname (name "a14" Nil) Nil)) Nil)) (node kind.Typedef (name "a16" (node kind.Array (node kind.Indexes (node kind.Subrange (word kind.Cnumber "1" Nil (word kind.Cnumber "1" Nil Nil)) Nil) (node kind.Tname (name "a15" Nil) Nil)) Nil)) (node kind.Typedef (name "a17" (node kind.Array (node kind.Indexes (node kind.Subrange (word kind.Cnumber "1" Nil (word kind.Cnumber "1" Nil Nil)) Nil) (node kind.Tname (name "a16" Nil) Nil)) Nil)) (node kind.Typedef (name "a18" (node kind.Array (node kind.Indexes (node kind.Subrange (word kind.Cnumber "1" Nil (word kind.Cnumber "1" Nil Nil)) Nil) (node kind.Tname (name "a17" Nil) Nil)) Nil)) (node kind.Typedef (name "a19" (node kind.Array (node kind.Indexes (node kind.Subrange (word kind.Cnumber "1" Nil (word kind.Cnumber "1" Nil Nil)) Nil) (node kind.Tname (name "a18" Nil) Nil)) Nil)) (node kind.Typedef (name "a20" (node kind.Array (node kind.Indexes (node kind.Subrange (word kind.Cnumber "1" Nil (word kind.Cnumber "1" Nil Nil)) Nil) (node kind.Tname (name "a19" Nil) Nil)) Nil)) (node kind.Typedef (name "a21" (node kind.Array (node kind.Indexes (node kind.Subrange (word kind.Cnumber "1" Nil (word kind.Cnumber "1" Nil Nil)) Nil) (node kind.Tname (name "a20" Nil) Nil)) Nil)) (node kind.Typedef (name "a22" (node kind.Array (node kind.Indexes (node kind.Subrange (word kind.Cnumber "1" Nil (word kind.Cnumber "1" Nil Nil)) Nil) (node kind.Tname (name "a21" Nil) Nil)) Nil)) (node kind.Typedef (name "a23" (node kind.Array (node kind.Indexes (node kind.Subrange (word kind.Cnumber "1" Nil (word kind.Cnumber "1" Nil Nil)) Nil) (node kind.Tname (name "a22" Nil) Nil)) Nil)) (node kind.Typedef (name "a24" (node kind.Array (node kind.Indexes (node kind.Subrange (word kind.Cnumber "1" Nil (word kind.Cnumber "1" Nil Nil)) Nil) (node kind.Tname (name "a23" Nil) Nil)) Nil)) (node kind.Typedef (name "a25" (node kind.Array (node kind.Indexes (node kind.Subrange (word kind.Cnumber "1" Nil (word kind.Cnumber "1" Nil Nil)) Nil) (node kind.Tname (name "a24" Nil) Nil)) Nil)) (node kind.Typedef (name "a26" (node kind.Array (node kind.Indexes (node kind.Subrange (word kind.Cnumber "1" Nil (word kind.Cnumber "1" Nil Nil)) Nil) (node kind.Tname (name "a25" Nil) Nil)) Nil)) (node kind.Typedef (name "a27" (node kind.Array (node kind.Indexes (node kind.Subrange (word kind.Cnumber "1" Nil (word kind.Cnumber "1" Nil Nil)) Nil) (node kind.Tname (name "a26" Nil) Nil)) Nil)) (node kind.Typedef (name "a28" (node kind.Array (node kind.Indexes (node kind.Subrange (word kind.Cnumber "1" Nil (word kind.Cnumber "1" Nil Nil)) Nil) (node kind.Tname (name "a27" Nil) Nil)) Nil)) (node kind.Typedef (name "a29" (node kind.Array (node kind.Indexes (node kind.Subrange (word kind.Cnumber "1" Nil (word kind.Cnumber "1" Nil Nil)) Nil) (node kind.Tname (name "a28" Nil) Nil)) Nil)) (node kind.Typedef (name "a30" (node kind.Array (node kind.Indexes (node kind.Subrange (word kind.Cnumber "1" Nil (word kind.Cnumber "1" Nil Nil)) Nil) (node kind.Tname (name "a29" Nil) Nil)) Nil)) (node kind.Typedef (name "a31" (node kind.Array (node kind.Indexes (node kind.Subrange (word kind.Cnumber "1" Nil (word kind.Cnumber "1" Nil Nil)) Nil) (node kind.Tname (name "a30" Nil) Nil)) Nil)) (node kind.Typedef (name "a32" (node kind.Array (node kind.Indexes (node kind.Subrange (word kind.Cnumber "1" Nil (word kind.Cnumber "1" Nil Nil)) Nil) (node kind.Tname (name "a31" Nil) Nil)) Nil)) (node kind.Typedef (name "a33" (node kind.Array (node kind.Indexes (node kind.Subrange (word kind.Cnumber "1" Nil (word kind.Cnumber "1" Nil Nil)) Nil) (node kind.Tname (name "a32" Nil) Nil)) Nil)) (node kind.Typedef (name "a34" (node kind.Array (node kind.Indexes (node kind.Subrange (word kind.Cnumber "1" Nil (word kind.Cnumber "1" Nil Nil)) Nil) (node kind.Tname (name "a33" Nil) Nil)) Nil)) (node kind.Typedef (name "a35" (node kind.Array (node kind.Indexes (node kind.Subrange (word kind.Cnumber "1" Nil (word kind.Cnumber "1" Nil Nil)) Nil) (node kind.Tname (name "a34" Nil) Nil)) Nil)) (node kind.Typedef (name "a36" (node kind.Array (node kind.Indexes (node kind.Subrange (word kind.Cnumber "1" Nil (word kind.Cnumber "1" Nil Nil)) Nil) (node kind.Tname (name "a35" Nil) Nil)) Nil)) (node kind.Typedef (name "a37" (node kind.Array (node kind.Indexes (node kind.Subrange (word kind.Cnumber "1" Nil (word kind.Cnumber "1" Nil Nil)) Nil) (node kind.Tname (name "a36" Nil) Nil)) Nil)) (node kind.Typedef (name "a38" (node kind.Array (node kind.Indexes (node kind.Subrange (word kind.Cnumber "1" Nil (word kind.Cnumber "1" Nil Nil)) Nil) (node kind.Tname (name "a37" Nil) Nil)) Nil)) (node kind.Typedef (name "a39" (node kind.Array (node kind.Indexes (node kind.Subrange (word kind.Cnumber "1" Nil (word kind.Cnumber "1" Nil Nil)) Nil) (node kind.Tname (name "a38" Nil) Nil)) Nil)) (node kind.Typedef (name "a40" (node kind.Array (node kind.Indexes (node kind.Subrange (word kind.Cnumber "1" Nil (word kind.Cnumber "1" Nil Nil)) Nil) (node kind.Tname (name "a39" Nil) Nil)) Nil)) (node kind.Typedef (name "a41" (node kind.Array (node kind.Indexes (node kind.Subrange (word kind.Cnumber "1" Nil (word kind.Cnumber "1" Nil Nil)) Nil) (node kind.Tname (name "a40" Nil) Nil)) Nil)) (node kind.Typedef (name "a42" (node kind.Array (node kind.Indexes (node kind.Subrange (word kind.Cnumber "1" Nil (word kind.Cnumber "1" Nil Nil)) Nil) (node kind.Tname (name "a41" Nil) Nil)) Nil)) (node kind.Typedef (name "a43" (node kind.Array (node kind.Indexes (node kind.Subrange (word kind.Cnumber "1" Nil (word kind.Cnumber "1" Nil Nil)) Nil) (node kind.Tname (name "a42" Nil) Nil)) Nil)) (node kind.Typedef (name "a44" (node kind.Array (node kind.Indexes (node kind.Subrange (word kind.Cnumber "1" Nil (word kind.Cnumber "1" Nil Nil)) Nil) (node kind.Tname (name "a43" Nil) Nil)) Nil)) (node kind.Typedef (name "a45" (node kind.Array (node kind.Indexes (node kind.Subrange (word kind.Cnumber "1" Nil (word kind.Cnumber "1" Nil Nil)) Nil) (node kind.Tname (name "a44" Nil) Nil)) Nil)) (node kind.Typedef (name "a46" (node kind.Array (node kind.Indexes (node kind.Subrange (word kind.Cnumber "1" Nil (word kind.Cnumber "1" Nil Nil)) Nil) (node kind.Tname (name "a45" Nil) Nil)) Nil)) (node kind.Typedef (name "a47" (node kind.Array (node kind.Indexes (node kind.Subrange (word kind.Cnumber "1" Nil (word kind.Cnumber "1" Nil Nil)) Nil) (node kind.Tname (name "a46" Nil) Nil)) Nil)) (node kind.Typedef (name "a48" (node kind.Array (node kind.Indexes (node kind.Subrange (word kind.Cnumber "1" Nil (word kind.Cnumber "1" Nil Nil)) Nil) (node kind.Tname (name "a47" Nil) Nil)) Nil)) (node kind.Typedef (name "a49" (node kind.Array (node kind.Indexes (node kind.Subrange (word kind.Cnumber "1" Nil (word kind.Cnumber "1" Nil Nil)) Nil) (node kind.Tname (name "a48" Nil) Nil)) Nil)) (node kind.Typedef (name "a50" (node kind.Array (node kind.Indexes (node kind.Subrange (word kind.Cnumber "1" Nil (word kind.Cnumber "1" Nil Nil)) Nil) (node kind.Tname (name "a49" Nil) Nil)) Nil)) (node kind.Typedef (name "a51" (node kind.Array (node kind.Indexes (node kind.Subrange (word kind.Cnumber "1" Nil (word kind.Cnumber "1" Nil Nil)) Nil) (node kind.Tname (name "a50" Nil) Nil)) Nil)) (node kind.Typedef (name "a52" (node kind.Array (node kind.Indexes (node kind.Subrange (word kind.Cnumber "1" Nil (word kind.Cnumber "1" Nil Nil)) Nil) (node kind.Tname (name "a51" Nil) Nil)) Nil)) (node kind.Typedef (name "a53" (node kind.Array (node kind.Indexes (node kind.Subrange (word kind.Cnumber "1" Nil (word kind.Cnumber "1" Nil Nil)) Nil) (node kind.Tname (name "a52" Nil) Nil)) Nil)) (node kind.Typedef (name "a54" (node kind.Array (node kind.Indexes (node kind.Subrange (word kind.Cnumber "1" Nil (word kind.Cnumber "1" Nil Nil)) Nil) (node kind.Tname (name "a53" Nil) Nil)) Nil)) (node kind.Typedef (name "a55" (node kind.Array (node kind.Indexes (node kind.Subrange (word kind.Cnumber "1" Nil (word kind.Cnumber "1" Nil Nil)) Nil) (node kind.Tname (name "a54" Nil) Nil)) Nil)) (node kind.Typedef (name "a56" (node kind.Array (node kind.Indexes (node kind.Subrange (word kind.Cnumber "1" Nil (word kind.Cnumber "1" Nil Nil)) Nil) (node kind.Tname (name "a55" Nil) Nil)) Nil)) (node kind.Typedef (name "a57" (node kind.Array (node kind.Indexes (node kind.Subrange (word kind.Cnumber "1" Nil (word kind.Cnumber "1" Nil Nil)) Nil) (node kind.Tname (name "a56" Nil) Nil)) Nil)) (node kind.Typedef (name "a58" (node kind.Array (node kind.Indexes (node kind.Subrange (word kind.Cnumber "1" Nil (word kind.Cnumber "1" Nil Nil)) Nil) (node kind.Tname (name "a57" Nil) Nil)) Nil)) (node kind.Typedef (name "a59" (node kind.Array (node kind.Indexes (node kind.Subrange (word kind.Cnumber "1" Nil (word kind.Cnumber "1" Nil Nil)) Nil) (node kind.Tname (name "a58" Nil) Nil)) Nil)) (node kind.Typedef (name "a60" (node kind.Array (node kind.Indexes (node kind.Subrange (word kind.Cnumber "1" Nil (word kind.Cnumber "1" Nil Nil)) Nil) (node kind.Tname (name "a59" Nil) Nil)) Nil)) (node kind.Typedef (name "a61" (node kind.Array (node kind.Indexes (node kind.Subrange (word kind.Cnumber "1" Nil (word kind.Cnumber "1" Nil Nil)) Nil) (node kind.Tname (name "a60" Nil) Nil)) Nil)) (node kind.Typedef (name "a62" (node kind.Array (node kind.Indexes (node kind.Subrange (word kind.Cnumber "1" Nil (word kind.Cnumber "1" Nil Nil)) Nil) (node kind.Tname (name "a61" Nil) Nil)) Nil)) (node kind.Typedef (name "a63" (node kind.Array (node kind.Indexes (node kind.Subrange (word kind.Cnumber "1" Nil (word kind.Cnumber "1" Nil Nil)) Nil) (node kind.Tname (name "a62" Nil) Nil)) Nil)) (node kind.Typedef (name "a64" (node kind.Array (node kind.Indexes (node kind.Subrange (word kind.Cnumber "1" Nil (word kind.Cnumber "1" Nil Nil)) Nil) (node kind.Tname (name "a63" Nil) Nil)) Nil)) (node kind.Typedef (name "a65" (node kind.Array (node kind.Indexes (node kind.Subrange (word kind.Cnumber "1" Nil (word kind.Cnumber "1" Nil Nil)) Nil) (node kind.Tname (name "a64" Nil) Nil)) Nil)) (node kind.Typedef (name "a66" (node kind.Array (node kind.Indexes (node kind.Subrange (word kind.Cnumber "1" Nil (word kind.Cnumber "1" Nil Nil)) Nil) (node kind.Tname (name "a65" Nil) Nil)) Nil)) (node kind.Typedef (name "a67" (node kind.Array (node kind.Indexes (node kind.Subrange (word kind.Cnumber "1" Nil (word kind.Cnumber "1" Nil Nil)) Nil) (node kind.Tname (name "a66" Nil) Nil)) Nil)) (node kind.Typedef (name "a68" (node kind.Array (node kind.Indexes (node kind.Subrange (word kind.Cnumber "1" Nil (word kind.Cnumber "1" Nil Nil)) Nil) (node kind.Tname (name "a67" Nil) Nil)) Nil)) (node kind.Typedef (name "a69" (node kind.Array (node kind.Indexes (node kind.Subrange (word kind.Cnumber "1" Nil (word kind.Cnumber "1" Nil Nil)) Nil) (node kind.Tname (name "a68" Nil) Nil)) Nil)) (node kind.Typedef (name "a70" (node kind.Array (node kind.Indexes (node kind.Subrange (word kind.Cnumber "1" Nil (word kind.Cnumber "1" Nil Nil)) Nil) (node kind.Tname (name "a69" Nil) Nil)) Nil)) (node kind.Typedef (name "a71" (node kind.Array (node kind.Indexes (node kind.Subrange (word kind.Cnumber "1" Nil (word kind.Cnumber "1" Nil Nil)) Nil) (node kind.Tname (name "a70" Nil) Nil)) Nil)) (node kind.Typedef (name "a72" (node kind.Array (node kind.Indexes (node kind.Subrange (word kind.Cnumber "1" Nil (word kind.Cnumber "1" Nil Nil)) Nil) (node kind.Tname (name "a71" Nil) Nil)) Nil)) (node kind.Typedef (name "a73" (node kind.Array (node kind.Indexes (node kind.Subrange (word kind.Cnumber "1" Nil (word kind.Cnumber "1" Nil Nil)) Nil) (node kind.Tname (name "a72" Nil) Nil)) Nil)) (node kind.Typedef (name "a74" (node kind.Array (node kind.Indexes (node kind.Subrange (word kind.Cnumber "1" Nil (word kind.Cnumber "1" Nil Nil)) Nil) (node kind.Tname (name "a73" Nil) Nil)) Nil)) (node kind.Typedef (name "a75" (node kind.Array (node kind.Indexes (node kind.Subrange (word kind.Cnumber "1" Nil (word kind.Cnumber "1" Nil Nil)) Nil) (node kind.Tname (name "a74" Nil) Nil)) Nil)) (node kind.Typedef (name "a76" (node kind.Array (node kind.Indexes (node kind.Subrange (word kind.Cnumber "1" Nil (word kind.Cnumber "1" Nil Nil)) Nil) (node kind.Tname (name "a75" Nil) Nil)) Nil)) (node kind.Typedef (name "a77" (node kind.Array (node kind.Indexes (node kind.Subrange (word kind.Cnumber "1" Nil (word kind.Cnumber "1" Nil Nil)) Nil) (node kind.Tname (name "a76" Nil) Nil)) Nil)) (node kind.Typedef (name "a78" (node kind.Array (node kind.Indexes (node kind.Subrange (word kind.Cnumber "1" Nil (word kind.Cnumber "1" Nil Nil)) Nil) (node kind.Tname (name "a77" Nil) Nil)) Nil)) (node kind.Typedef (name "a79" (node kind.Array (node kind.Indexes (node kind.Subrange (word kind.Cnumber "1" Nil (word kind.Cnumber "1" Nil Nil)) Nil) (node kind.Tname (name "a78" Nil) Nil)) Nil)) (node kind.Typedef (name "a80" (node kind.Array (node kind.Indexes (node kind.Subrange (word kind.Cnumber "1" Nil (word kind.Cnumber "1" Nil Nil)) Nil) (node kind.Tname (name "a79" Nil) Nil)) Nil)) (node kind.Typedef (name "a81" (node kind.Array (node kind.Indexes (node kind.Subrange (word kind.Cnumber "1" Nil (word kind.Cnumber "1" Nil Nil)) Nil) (node kind.Tname (name "a80" Nil) Nil)) Nil)) (node kind.Typedef (name "a82" (node kind.Array (node kind.Indexes (node kind.Subrange (word kind.Cnumber "1" Nil (word kind.Cnumber "1" Nil Nil)) Nil) (node kind.Tname (name "a81" Nil) Nil)) Nil)) (node kind.Typedef (name "a83" (node kind.Array (node kind.Indexes (node kind.Subrange (word kind.Cnumber "1" Nil (word kind.Cnumber "1" Nil Nil)) Nil) (node kind.Tname (name "a82" Nil) Nil)) Nil)) (node kind.Typedef (name "a84" (node kind.Array (node kind.Indexes (node kind.Subrange (word kind.Cnumber "1" Nil (word kind.Cnumber "1" Nil Nil)) Nil) (node kind.Tname (name "a83" Nil) Nil)) Nil)) (node kind.Typedef (name "a85" (node kind.Array (node kind.Indexes (node kind.Subrange (word kind.Cnumber "1" Nil (word kind.Cnumber "1" Nil Nil)) Nil) (node kind.Tname (name "a84" Nil) Nil)) Nil)) (node kind.Typedef (name "a86" (node kind.Array (node kind.Indexes (node kind.Subrange (word kind.Cnumber "1" Nil (word kind.Cnumber "1" Nil Nil)) Nil) (node kind.Tname (name "a85" Nil) Nil)) Nil)) (node kind.Typedef (name "a87" (node kind.Array (node kind.Indexes (node kind.Subrange (word kind.Cnumber "1" Nil (word kind.Cnumber "1" Nil Nil)) Nil) (node kind.Tname (name "a86" Nil) Nil)) Nil)) (node kind.Typedef (name "a88" (node kind.Array (node kind.Indexes (node kind.Subrange (word kind.Cnumber "1" Nil (word kind.Cnumber "1" Nil Nil)) Nil) (node kind.Tname (name "a87" Nil) Nil)) Nil)) (node kind.Typedef (name "a89" (node kind.Array (node kind.Indexes (node kind.Subrange (word kind.Cnumber "1" Nil (word kind.Cnumber "1" Nil Nil)) Nil) (node kind.Tname (name "a88" Nil) Nil)) Nil)) (node kind.Typedef (name "a90" (node kind.Array (node kind.Indexes (node kind.Subrange (word kind.Cnumber "1" Nil (word kind.Cnumber "1" Nil Nil)) Nil) (node kind.Tname (name "a89" Nil) Nil)) Nil)) (node kind.Typedef (name "a91" (node kind.Array (node kind.Indexes (node kind.Subrange (word kind.Cnumber "1" Nil (word kind.Cnumber "1" Nil Nil)) Nil) (node kind.Tname (name "a90" Nil) Nil)) Nil)) (node kind.Typedef (name "a92" (node kind.Array (node kind.Indexes (node kind.Subrange (word kind.Cnumber "1" Nil (word kind.Cnumber "1" Nil Nil)) Nil) (node kind.Tname (name "a91" Nil) Nil)) Nil)) (node kind.Typedef (name "a93" (node kind.Array (node kind.Indexes (node kind.Subrange (word kind.Cnumber "1" Nil (word kind.Cnumber "1" Nil Nil)) Nil) (node kind.Tname (name "a92" Nil) Nil)) Nil)) (node kind.Typedef (name "a94" (node kind.Array (node kind.Indexes (node kind.Subrange (word kind.Cnumber "1" Nil (word kind.Cnumber "1" Nil Nil)) Nil) (node kind.Tname (name "a93" Nil) Nil)) Nil)) (node kind.Typedef (name "a95" (node kind.Array (node kind.Indexes (node kind.Subrange (word kind.Cnumber "1" Nil (word kind.Cnumber "1" Nil Nil)) Nil) (node kind.Tname (name "a94" Nil) Nil)) Nil)) (node kind.Typedef (name "a96" (node kind.Array (node kind.Indexes (node kind.Subrange (word kind.Cnumber "1" Nil (word kind.Cnumber "1" Nil Nil)) Nil) (node kind.Tname (name "a95" Nil) Nil)) Nil)) (node kind.Typedef (name "a97" (node kind.Array (node kind.Indexes (node kind.Subrange (word kind.Cnumber "1" Nil (word kind.Cnumber "1" Nil Nil)) Nil) (node kind.Tname (name "a96" Nil) Nil)) Nil)) (node kind.Typedef (name "a98" (node kind.Array (node kind.Indexes (node kind.Subrange (word kind.Cnumber "1" Nil (word kind.Cnumber "1" Nil Nil)) Nil) (node kind.Tname (name "a97" Nil) Nil)) Nil)) (node kind.Typedef (name "a99" (node kind.Array (node kind.Indexes (node kind.Subrange (word kind.Cnumber "1" Nil (word kind.Cnumber "1" Nil Nil)) Nil) (node kind.Tname (name "a98" Nil) Nil)) Nil)) (node kind.Typedef (name "a100" (node kind.Array (node kind.Indexes (node kind.Subrange (word kind.Cnumber "1" Nil (word kind.Cnumber "1" Nil Nil)) Nil) (node kind.Tname (name "a99" Nil) Nil)) Nil)) (node kind.Typedef (name "a101" (node kind.Array (node kind.Indexes (node kind.Subrange (word kind.Cnumber "1" Nil (word kind.Cnumber "1" Nil Nil)) Nil) (node kind.Tname (name "a100" Nil) Nil)) Nil)) (node kind.Typedef (name "a102" (node kind.Array (node kind.Indexes (node kind.Subrange (word kind.Cnumber "1" Nil (word kind.Cnumber "1" Nil Nil)) Nil) (node kind.Tname (name "a101" Nil) Nil)) Nil)) (node kind.Typedef (name "a103" (node kind.Array (node kind.Indexes (node kind.Subrange (word kind.Cnumber "1" Nil (word kind.Cnumber "1" Nil Nil)) Nil) (node kind.Tname (name "a102" Nil) Nil)) Nil)) (node kind.Typedef (name "a104" (node kind.Array (node kind.Indexes (node kind.Subrange (word kind.Cnumber "1" Nil (word kind.Cnumber "1" Nil Nil)) Nil) (node kind.Tname (name "a103" Nil) Nil)) Nil)) (node kind.Typedef (name "a105" (node kind.Array (node kind.Indexes (node kind.Subrange (word kind.Cnumber "1" Nil (word kind.Cnumber "1" Nil Nil)) Nil) (node kind.Tname (name "a104" Nil) Nil)) Nil)) (node kind.Typedef (name "a106" (node kind.Array (node kind.Indexes (node kind.Subrange (word kind.Cnumber "1" Nil (word kind.Cnumber "1" Nil Nil)) Nil) (node kind.Tname (name "a105" Nil) Nil)) Nil)) (node kind.Typedef (name "a107" (node kind.Array (node kind.Indexes (node kind.Subrange (word kind.Cnumber "1" Nil (word kind.Cnumber "1" Nil Nil)) Nil) (node kind.Tname (name "a106" Nil) Nil)) Nil)) (node kind.Typedef (name "a108" (node kind.Array (node kind.Indexes (node kind.Subrange (word kind.Cnumber "1" Nil (word kind.Cnumber "1" Nil Nil)) Nil) (node kind.Tname (name "a107" Nil) Nil)) Nil)) (node kind.Typedef (name "a109" (node kind.Array (node kind.Indexes (node kind.Subrange (word kind.Cnumber "1" Nil (word kind.Cnumber "1" Nil Nil)) Nil) (node kind.Tname (name "a108" Nil) Nil)) Nil)) (node kind.Typedef (name "a110" (node kind.Array (node kind.Indexes (node kind.Subrange (word kind.Cnumber "1" Nil (word kind.Cnumber "1" Nil Nil)) Nil) (node kind.Tname (name "a109" Nil) Nil)) Nil)) (node kind.Typedef (name "a111" (node kind.Array (node kind.Indexes (node kind.Subrange (word kind.Cnumber "1" Nil (word kind.Cnumber "1" Nil Nil)) Nil) (node kind.Tname (name "a110" Nil) Nil)) Nil)) (node kind.Typedef (name "a112" (node kind.Array (node kind.Indexes (node kind.Subrange (word kind.Cnumber "1" Nil (word kind.Cnumber "1" Nil Nil)) Nil) (node kind.Tname (name "a111" Nil) Nil)) Nil)) (node kind.Typedef (name "a113" (node kind.Array (node kind.Indexes (node kind.Subrange (word kind.Cnumber "1" Nil (word kind.Cnumber "1" Nil Nil)) Nil) (node kind.Tname (name "a112" Nil) Nil)) Nil)) (node kind.Typedef (name "a114" (node kind.Array (node kind.Indexes (node kind.Subrange (word kind.Cnumber "1" Nil (word kind.Cnumber "1" Nil Nil)) Nil) (node kind.Tname (name "a113" Nil) Nil)) Nil)) (node kind.Typedef (name "a115" (node kind.Array (node kind.Indexes (node kind.Subrange (word kind.Cnumber "1" Nil (word kind.Cnumber "1" Nil Nil)) Nil) (node kind.Tname (name "a114" Nil) Nil)) Nil)) (node kind.Typedef (name "a116" (node kind.Array (node kind.Indexes (node kind.Subrange (word kind.Cnumber "1" Nil (word kind.Cnumber "1" Nil Nil)) Nil) (node kind.Tname (name "a115" Nil) Nil)) Nil)) (node kind.Typedef (name "a117" (node kind.Array (node kind.Indexes (node kind.Subrange (word kind.Cnumber "1" Nil (word kind.Cnumber "1" Nil Nil)) Nil) (node kind.Tname (name "a116" Nil) Nil)) Nil)) (node kind.Typedef (name "a118" (node kind.Array (node kind.Indexes (node kind.Subrange (word kind.Cnumber "1" Nil (word kind.Cnumber "1" Nil Nil)) Nil) (node kind.Tname (name "a117" Nil) Nil)) Nil)) (node kind.Typedef (name "a119" (node kind.Array (node kind.Indexes (node kind.Subrange (word kind.Cnumber "1" Nil (word kind.Cnumber "1" Nil Nil)) Nil) (node kind.Tname (name "a118" Nil) Nil)) Nil)) (node kind.Typedef (name "a120" (node kind.Array (node kind.Indexes (node kind.Subrange (word kind.Cnumber "1" Nil (word kind.Cnumber "1" Nil Nil)) Nil) (node kind.Tname (name "a119" Nil) Nil)) Nil)) (node kind.Typedef (name "a121" (node kind.Array (node kind.Indexes (node kind.Subrange (word kind.Cnumber "1" Nil (word kind.Cnumber "1" Nil Nil)) Nil) (node kind.Tname (name "a120" Nil) Nil)) Nil)) (node kind.Typedef (name "a122" (node kind.Array (node kind.Indexes (node kind.Subrange (word kind.Cnumber "1" Nil (word kind.Cnumber "1" Nil Nil)) Nil) (node kind.Tname (name "a121" Nil) Nil)) Nil)) (node kind.Typedef (name "a123" (node kind.Array (node kind.Indexes (node kind.Subrange (word kind.Cnumber "1" Nil (word kind.Cnumber "1" Nil Nil)) Nil) (node kind.Tname (name "a122" Nil) Nil)) Nil)) (node kind.Typedef (name "a124" (node kind.Array (node kind.Indexes (node kind.Subrange (word kind.Cnumber "1" Nil (word kind.Cnumber "1" Nil Nil)) Nil) (node kind.Tname (name "a123" Nil) Nil)) Nil)) (node kind.Typedef (name "a125" (node kind.Array (node kind.Indexes (node kind.Subrange (word kind.Cnumber "1" Nil (word kind.Cnumber "1" Nil Nil)) Nil) (node kind.Tname (name "a124" Nil) Nil)) Nil)) (node kind.Typedef (name "a126" (node kind.Array (node kind.Indexes (node kind.Subrange (word kind.Cnumber "1" Nil (word kind.Cnumber "1" Nil Nil)) Nil) (node kind.Tname (name "a125" Nil) Nil)) Nil)) (node kind.Typedef (name "a127" (node kind.Array (node kind.Indexes (node kind.Subrange (word kind.Cnumber "1" Nil (word kind.Cnumber "1" Nil Nil)) Nil) (node kind.Tname (name "a126" Nil) Nil)) Nil)) (node kind.Typedef (name "a128" (node kind.Array (node kind.Indexes (node kind.Subrange (word kind.Cnumber "1" Nil (word kind.Cnumber "1" Nil Nil)) Nil) (node kind.Tname (name "a127" Nil) Nil)) Nil)) (node kind.Typedef (name "a129" (node kind.Array (node kind.Indexes (node kind.Subrange (word kind.Cnumber "1" Nil (word kind.Cnumber "1" Nil Nil)) Nil) (node kind.Tname (name "a128" Nil) Nil)) Nil)) (node kind.Typedef (name "a130" (node kind.Array (node kind.Indexes (node kind.Subrange (word kind.Cnumber "1" Nil (word kind.Cnumber "1" Nil Nil)) Nil) (node kind.Tname (name "a129" Nil) Nil)) Nil)) (node kind.Typedef (name "a131" (node kind.Array (node kind.Indexes (node kind.Subrange (word kind.Cnumber "1" Nil (word kind.Cnumber "1" Nil Nil)) Nil) (node kind.Tname (name "a130" Nil) Nil)) Nil)) (node kind.Typedef (name "a132" (node kind.Array (node kind.Indexes (node kind.Subrange (word kind.Cnumber "1" Nil (word kind.Cnumber "1" Nil Nil)) Nil) (node kind.Tname (name "a131" Nil) Nil)) Nil)) (node kind.Typedef (name "a133" (node kind.Array (node kind.Indexes (node kind.Subrange (word kind.Cnumber "1" Nil (word kind.Cnumber "1" Nil Nil)) Nil) (node kind.Tname (name "a132" Nil) Nil)) Nil)) (node kind.Typedef (name "a134" (node kind.Array (node kind.Indexes (node kind.Subrange (word kind.Cnumber "1" Nil (word kind.Cnumber "1" Nil Nil)) Nil) (node kind.Tname (name "a133" Nil) Nil)) Nil)) (node kind.Typedef (name "a135" (node kind.Array (node kind.Indexes (node kind.Subrange (word kind.Cnumber "1" Nil (word kind.Cnumber "1" Nil Nil)) Nil) (node kind.Tname (name "a134" Nil) Nil)) Nil)) (node kind.Typedef (name "a136" (node kind.Array (node kind.Indexes (node kind.Subrange (word kind.Cnumber "1" Nil (word kind.Cnumber "1" Nil Nil)) Nil) (node kind.Tname (name "a135" Nil) Nil)) Nil)) (node kind.Typedef (name "a137" (node kind.Array (node kind.Indexes (node kind.Subrange (word kind.Cnumber "1" Nil (word kind.Cnumber "1" Nil Nil)) Nil) (node kind.Tname (name "a136" Nil) Nil)) Nil)) (node kind.Typedef (name "a138" (node kind.Array (node kind.Indexes (node kind.Subrange (word kind.Cnumber "1" Nil (word kind.Cnumber "1" Nil Nil)) Nil) (node kind.Tname (name "a137" Nil) Nil)) Nil)) (node kind.Typedef (name "a139" (node kind.Array (node kind.Indexes (node kind.Subrange (word kind.Cnumber "1" Nil (word kind.Cnumber "1" Nil Nil)) Nil) (node kind.Tname (name "a138" Nil) Nil)) Nil)) (node kind.Typedef (name "a140" (node kind.Array (node kind.Indexes (node kind.Subrange (word kind.Cnumber "1" Nil (word kind.Cnumber "1" Nil Nil)) Nil) (node kind.Tname (name "a139" Nil) Nil)) Nil)) (node kind.Typedef (name "a141" (node kind.Array (node kind.Indexes (node kind.Subrange (word kind.Cnumber "1" Nil (word kind.Cnumber "1" Nil Nil)) Nil) (node kind.Tname (name "a140" Nil) Nil)) Nil)) (node kind.Typedef (name "a142" (node kind.Array (node kind.Indexes (node kind.Subrange (word kind.Cnumber "1" Nil (word kind.Cnumber "1" Nil Nil)) Nil) (node kind.Tname (name "a141" Nil) Nil)) Nil)) (node kind.Typedef (name "a143" (node kind.Array (node kind.Indexes (node kind.Subrange (word kind.Cnumber "1" Nil (word kind.Cnumber "1" Nil Nil)) Nil) (node kind.Tname (name "a142" Nil) Nil)) Nil)) (node kind.Typedef (name "a144" (node kind.Array (node kind.Indexes (node kind.Subrange (word kind.Cnumber "1" Nil (word kind.Cnumber "1" Nil Nil)) Nil) (node kind.Tname (name "a143" Nil) Nil)) Nil)) (node kind.Typedef (name "a145" (node kind.Array (node kind.Indexes (node kind.Subrange (word kind.Cnumber "1" Nil (word kind.Cnumber "1" Nil Nil)) Nil) (node kind.Tname (name "a144" Nil) Nil)) Nil)) (node kind.Typedef (name "a146" (node kind.Array (node kind.Indexes (node kind.Subrange (word kind.Cnumber "1" Nil (word kind.Cnumber "1" Nil Nil)) Nil) (node kind.Tname (name "a145" Nil) Nil)) Nil)) (node kind.Typedef (name "a147" (node kind.Array (node kind.Indexes (node kind.Subrange (word kind.Cnumber "1" Nil (word kind.Cnumber "1" Nil Nil)) Nil) (node kind.Tname (name "a146" Nil) Nil)) Nil)) (node kind.Typedef (name "a148" (node kind.Array (node kind.Indexes (node kind.Subrange (word kind.Cnumber "1" Nil (word kind.Cnumber "1" Nil Nil)) Nil) (node kind.Tname (name "a147" Nil) Nil)) Nil)) (node kind.Typedef (name "a149" (node kind.Array (node kind.Indexes (node kind.Subrange (word kind.Cnumber "1" Nil (word kind.Cnumber "1" Nil Nil)) Nil) (node kind.Tname (name "a148" Nil) Nil)) Nil)) (node kind.Typedef (name "a150" (node kind.Array (node kind.Indexes (node kind.Subrange (word kind.Cnumber "1" Nil (word kind.Cnumber "1" Nil Nil)) Nil) (node kind.Tname (name "a149" Nil) Nil)) Nil)) (node kind.Typedef (name "a151" (node kind.Array (node kind.Indexes (node kind.Subrange (word kind.Cnumber "1" Nil (word kind.Cnumber "1" Nil Nil)) Nil) (node kind.Tname (name "a150" Nil) Nil)) Nil)) (node kind.Typedef (name "a152" (node kind.Array (node kind.Indexes (node kind.Subrange (word kind.Cnumber "1" Nil (word kind.Cnumber "1" Nil Nil)) Nil) (node kind.Tname (name "a151" Nil) Nil)) Nil)) (node kind.Typedef (name "a153" (node kind.Array (node kind.Indexes (node kind.Subrange (word kind.Cnumber "1" Nil (word kind.Cnumber "1" Nil Nil)) Nil) (node kind.Tname (name "a152" Nil) Nil)) Nil)) (node kind.Typedef (name "a154" (node kind.Array (node kind.Indexes (node kind.Subrange (word kind.Cnumber "1" Nil (word kind.Cnumber "1" Nil Nil)) Nil) (node kind.Tname (name "a153" Nil) Nil)) Nil)) (node kind.Typedef (name "a155" (node kind.Array (node kind.Indexes (node kind.Subrange (word kind.Cnumber "1" Nil (word kind.Cnumber "1" Nil Nil)) Nil) (node kind.Tname (name "a154" Nil) Nil)) Nil)) (node kind.Typedef (name "a156" (node kind.Array (node kind.Indexes (node kind.Subrange (word kind.Cnumber "1" Nil (word kind.Cnumber "1" Nil Nil)) Nil) (node kind.Tname (name "a155" Nil) Nil)) Nil)) (node kind.Typedef (name "a157" (node kind.Array (node kind.Indexes (node kind.Subrange (word kind.Cnumber "1" Nil (word kind.Cnumber "1" Nil Nil)) Nil) (node kind.Tname (name "a156" Nil) Nil)) Nil)) (node kind.Typedef (name "a158" (node kind.Array (node kind.Indexes (node kind.Subrange (word kind.Cnumber "1" Nil (word kind.Cnumber "1" Nil Nil)) Nil) (node kind.Tname (name "a157" Nil) Nil)) Nil)) (node kind.Typedef (name "a159" (node kind.Array (node kind.Indexes (node kind.Subrange (word kind.Cnumber "1" Nil (word kind.Cnumber "1" Nil Nil)) Nil) (node kind.Tname (name "a158" Nil) Nil)) Nil)) (node kind.Typedef (name "a160" (node kind.Array (node kind.Indexes (node kind.Subrange (word kind.Cnumber "1" Nil (word kind.Cnumber "1" Nil Nil)) Nil) (node kind.Tname (name "a159" Nil) Nil)) Nil)) (node kind.Typedef (name "a161" (node kind.Array (node kind.Indexes (node kind.Subrange (word kind.Cnumber "1" Nil (word kind.Cnumber "1" Nil Nil)) Nil) (node kind.Tname (name "a160" Nil) Nil)) Nil)) (node kind.Typedef (name "a162" (node kind.Array (node kind.Indexes (node kind.Subrange (word kind.Cnumber "1" Nil (word kind.Cnumber "1" Nil Nil)) Nil) (node kind.Tname (name "a161" Nil) Nil)) Nil)) (node kind.Typedef (name "a163" (node kind.Array (node kind.Indexes (node kind.Subrange (word kind.Cnumber "1" Nil (word kind.Cnumber "1" Nil Nil)) Nil) (node kind.Tname (name "a162" Nil) Nil)) Nil)) (node kind.Typedef (name "a164" (node kind.Array (node kind.Indexes (node kind.Subrange (word kind.Cnumber "1" Nil (word kind.Cnumber "1" Nil Nil)) Nil) (node kind.Tname (name "a163" Nil) Nil)) Nil)) (node kind.Typedef (name "a165" (node kind.Array (node kind.Indexes (node kind.Subrange (word kind.Cnumber "1" Nil (word kind.Cnumber "1" Nil Nil)) Nil) (node kind.Tname (name "a164" Nil) Nil)) Nil)) (node kind.Typedef (name "a166" (node kind.Array (node kind.Indexes (node kind.Subrange (word kind.Cnumber "1" Nil (word kind.Cnumber "1" Nil Nil)) Nil) (node kind.Tname (name "a165" Nil) Nil)) Nil)) (node kind.Typedef (name "a167" (node kind.Array (node kind.Indexes (node kind.Subrange (word kind.Cnumber "1" Nil (word kind.Cnumber "1" Nil Nil)) Nil) (node kind.Tname (name "a166" Nil) Nil)) Nil)) (node kind.Typedef (name "a168" (node kind.Array (node kind.Indexes (node kind.Subrange (word kind.Cnumber "1" Nil (word kind.Cnumber "1" Nil Nil)) Nil) (node kind.Tname (name "a167" Nil) Nil)) Nil)) (node kind.Typedef (name "a169" (node kind.Array (node kind.Indexes (node kind.Subrange (word kind.Cnumber "1" Nil (word kind.Cnumber "1" Nil Nil)) Nil) (node kind.Tname (name "a168" Nil) Nil)) Nil)) (node kind.Typedef (name "a170" (node kind.Array (node kind.Indexes (node kind.Subrange (word kind.Cnumber "1" Nil (word kind.Cnumber "1" Nil Nil)) Nil) (node kind.Tname (name "a169" Nil) Nil)) Nil)) (node kind.Typedef (name "a171" (node kind.Array (node kind.Indexes (node kind.Subrange (word kind.Cnumber "1" Nil (word kind.Cnumber "1" Nil Nil)) Nil) (node kind.Tname (name "a170" Nil) Nil)) Nil)) (node kind.Typedef (name "a172" (node kind.Array (node kind.Indexes (node kind.Subrange (word kind.Cnumber "1" Nil (word kind.Cnumber "1" Nil Nil)) Nil) (node kind.Tname (name "a171" Nil) Nil)) Nil)) (node kind.Typedef (name "a173" (node kind.Array (node kind.Indexes (node kind.Subrange (word kind.Cnumber "1" Nil (word kind.Cnumber "1" Nil Nil)) Nil) (node kind.Tname (name "a172" Nil) Nil)) Nil)) (node kind.Typedef (name "a174" (node kind.Array (node kind.Indexes (node kind.Subrange (word kind.Cnumber "1" Nil (word kind.Cnumber "1" Nil Nil)) Nil) (node kind.Tname (name "a173" Nil) Nil)) Nil)) (node kind.Typedef (name "a175" (node kind.Array (node kind.Indexes (node kind.Subrange (word kind.Cnumber "1" Nil (word kind.Cnumber "1" Nil Nil)) Nil) (node kind.Tname (name "a174" Nil) Nil)) Nil)) (node kind.Typedef (name "a176" (node kind.Array (node kind.Indexes (node kind.Subrange (word kind.Cnumber "1" Nil (word kind.Cnumber "1" Nil Nil)) Nil) (node kind.Tname (name "a175" Nil) Nil)) Nil)) (node kind.Typedef (name "a177" (node kind.Array (node kind.Indexes (node kind.Subrange (word kind.Cnumber "1" Nil (word kind.Cnumber "1" Nil Nil)) Nil) (node kind.Tname (name "a176" Nil) Nil)) Nil)) (node kind.Typedef (name "a178" (node kind.Array (node kind.Indexes (node kind.Subrange (word kind.Cnumber "1" Nil (word kind.Cnumber "1" Nil Nil)) Nil) (node kind.Tname (name "a177" Nil) Nil)) Nil)) (node kind.Typedef (name "a179" (node kind.Array (node kind.Indexes (node kind.Subrange (word kind.Cnumber "1" Nil (word kind.Cnumber "1" Nil Nil)) Nil) (node kind.Tname (name "a178" Nil) Nil)) Nil)) (node kind.Typedef (name "a180" (node kind.Array (node kind.Indexes (node kind.Subrange (word kind.Cnumber "1" Nil (word kind.Cnumber "1" Nil Nil)) Nil) (node kind.Tname (name "a179" Nil) Nil)) Nil)) (node kind.Typedef (name "a181" (node kind.Array (node kind.Indexes (node kind.Subrange (word kind.Cnumber "1" Nil (word kind.Cnumber "1" Nil Nil)) Nil) (node kind.Tname (name "a180" Nil) Nil)) Nil)) (node kind.Typedef (name "a182" (node kind.Array (node kind.Indexes (node kind.Subrange (word kind.Cnumber "1" Nil (word kind.Cnumber "1" Nil Nil)) Nil) (node kind.Tname (name "a181" Nil) Nil)) Nil)) (node kind.Typedef (name "a183" (node kind.Array (node kind.Indexes (node kind.Subrange (word kind.Cnumber "1" Nil (word kind.Cnumber "1" Nil Nil)) Nil) (node kind.Tname (name "a182" Nil) Nil)) Nil)) (node kind.Typedef (name "a184" (node kind.Array (node kind.Indexes (node kind.Subrange (word kind.Cnumber "1" Nil (word kind.Cnumber "1" Nil Nil)) Nil) (node kind.Tname (name "a183" Nil) Nil)) Nil)) (node kind.Typedef (name "a185" (node kind.Array (node kind.Indexes (node kind.Subrange (word kind.Cnumber "1" Nil (word kind.Cnumber "1" Nil Nil)) Nil) (node kind.Tname (name "a184" Nil) Nil)) Nil)) (node kind.Typedef (name "a186" (node kind.Array (node kind.Indexes (node kind.Subrange (word kind.Cnumber "1" Nil (word kind.Cnumber "1" Nil Nil)) Nil) (node kind.Tname (name "a185" Nil) Nil)) Nil)) (node kind.Typedef (name "a187" (node kind.Array (node kind.Indexes (node kind.Subrange (word kind.Cnumber "1" Nil (word kind.Cnumber "1" Nil Nil)) Nil) (node kind.Tname (name "a186" Nil) Nil)) Nil)) (node kind.Typedef (name "a188" (node kind.Array (node kind.Indexes (node kind.Subrange (word kind.Cnumber "1" Nil (word kind.Cnumber "1" Nil Nil)) Nil) (node kind.Tname (name "a187" Nil) Nil)) Nil)) (node kind.Typedef (name "a189" (node kind.Array (node kind.Indexes (node kind.Subrange (word kind.Cnumber "1" Nil (word kind.Cnumber "1" Nil Nil)) Nil) (node kind.Tname (name "a188" Nil) Nil)) Nil)) (node kind.Typedef (name "a190" (node kind.Array (node kind.Indexes (node kind.Subrange (word kind.Cnumber "1" Nil (word kind.Cnumber "1" Nil Nil)) Nil) (node kind.Tname (name "a189" Nil) Nil)) Nil)) (node kind.Typedef (name "a191" (node kind.Array (node kind.Indexes (node kind.Subrange (word kind.Cnumber "1" Nil (word kind.Cnumber "1" Nil Nil)) Nil) (node kind.Tname (name "a190" Nil) Nil)) Nil)) (node kind.Typedef (name "a192" (node kind.Array (node kind.Indexes (node kind.Subrange (word kind.Cnumber "1" Nil (word kind.Cnumber "1" Nil Nil)) Nil) (node kind.Tname (name "a191" Nil) Nil)) Nil)) (node kind.Typedef (name "a193" (node kind.Array (node kind.Indexes (node kind.Subrange (word kind.Cnumber "1" Nil (word kind.Cnumber "1" Nil Nil)) Nil) (node kind.Tname (name "a192" Nil) Nil)) Nil)) (node kind.Typedef (name "a194" (node kind.Array (node kind.Indexes (node kind.Subrange (word kind.Cnumber "1" Nil (word kind.Cnumber "1" Nil Nil)) Nil) (node kind.Tname (name "a193" Nil) Nil)) Nil)) (node kind.Typedef (name "a195" (node kind.Array (node kind.Indexes (node kind.Subrange (word kind.Cnumber "1" Nil (word kind.Cnumber "1" Nil Nil)) Nil) (node kind.Tname (name "a194" Nil) Nil)) Nil)) (node kind.Typedef (name "a196" (node kind.Array (node kind.Indexes (node kind.Subrange (word kind.Cnumber "1" Nil (word kind.Cnumber "1" Nil Nil)) Nil) (node kind.Tname (name "a195" Nil) Nil)) Nil)) (node kind.Typedef (name "a197" (node kind.Array (node kind.Indexes (node kind.Subrange (word kind.Cnumber "1" Nil (word kind.Cnumber "1" Nil Nil)) Nil) (node kind.Tname (name "a196" Nil) Nil)) Nil)) (node kind.Typedef (name "a198" (node kind.Array (node kind.Indexes (node kind.Subrange (word kind.Cnumber "1" Nil (word kind.Cnumber "1" Nil Nil)) Nil) (node kind.Tname (name "a197" Nil) Nil)) Nil)) (node kind.Typedef (name "a199" (node kind.Array (node kind.Indexes (node kind.Subrange (word kind.Cnumber "1" Nil (word kind.Cnumber "1" Nil Nil)) Nil) (node kind.Tname (name "a198" Nil) Nil)) Nil)) (node kind.Typedef (name "a200" (node kind.Array (node kind.Indexes (node kind.Subrange (word kind.Cnumber "1" Nil (word kind.Cnumber "1" Nil Nil)) Nil) (node kind.Tname (name "a199" Nil) Nil)) Nil)) (node kind.Typedef (name "a201" (node kind.Array (node kind.Indexes (node kind.Subrange (word kind.Cnumber "1" Nil (word kind.Cnumber "1" Nil Nil)) Nil) (node kind.Tname (name "a200" Nil) Nil)) Nil)) (node kind.Typedef (name "a202" (node kind.Array (node kind.Indexes (node kind.Subrange (word kind.Cnumber "1" Nil (word kind.Cnumber "1" Nil Nil)) Nil) (node kind.Tname (name "a201" Nil) Nil)) Nil)) (node kind.Typedef (name "a203" (node kind.Array (node kind.Indexes (node kind.Subrange (word kind.Cnumber "1" Nil (word kind.Cnumber "1" Nil Nil)) Nil) (node kind.Tname (name "a202" Nil) Nil)) Nil)) (node kind.Typedef (name "a204" (node kind.Array (node kind.Indexes (node kind.Subrange (word kind.Cnumber "1" Nil (word kind.Cnumber "1" Nil Nil)) Nil) (node kind.Tname (name "a203" Nil) Nil)) Nil)) (node kind.Typedef (name "a205" (node kind.Array (node kind.Indexes (node kind.Subrange (word kind.Cnumber "1" Nil (word kind.Cnumber "1" Nil Nil)) Nil) (node kind.Tname (name "a204" Nil) Nil)) Nil)) (node kind.Typedef (name "a206" (node kind.Array (node kind.Indexes (node kind.Subrange (word kind.Cnumber "1" Nil (word kind.Cnumber "1" Nil Nil)) Nil) (node kind.Tname (name "a205" Nil) Nil)) Nil)) (node kind.Typedef (name "a207" (node kind.Array (node kind.Indexes (node kind.Subrange (word kind.Cnumber "1" Nil (word kind.Cnumber "1" Nil Nil)) Nil) (node kind.Tname (name "a206" Nil) Nil)) Nil)) (node kind.Typedef (name "a208" (node kind.Array (node kind.Indexes (node kind.Subrange (word kind.Cnumber "1" Nil (word kind.Cnumber "1" Nil Nil)) Nil) (node kind.Tname (name "a207" Nil) Nil)) Nil)) (node kind.Typedef (name "a209" (node kind.Array (node kind.Indexes (node kind.Subrange (word kind.Cnumber "1" Nil (word kind.Cnumber "1" Nil Nil)) Nil) (node kind.Tname (name "a208" Nil) Nil)) Nil)) (node kind.Typedef (name "a210" (node kind.Array (node kind.Indexes (node kind.Subrange (word kind.Cnumber "1" Nil (word kind.Cnumber "1" Nil Nil)) Nil) (node kind.Tname (name "a209" Nil) Nil)) Nil)) (node kind.Typedef (name "a211" (node kind.Array (node kind.Indexes (node kind.Subrange (word kind.Cnumber "1" Nil (word kind.Cnumber "1" Nil Nil)) Nil) (node kind.Tname (name "a210" Nil) Nil)) Nil)) (node kind.Typedef (name "a212" (node kind.Array (node kind.Indexes (node kind.Subrange (word kind.Cnumber "1" Nil (word kind.Cnumber "1" Nil Nil)) Nil) (node kind.Tname (name "a211" Nil) Nil)) Nil)) (node kind.Typedef (name "a213" (node kind.Array (node kind.Indexes (node kind.Subrange (word kind.Cnumber "1" Nil (word kind.Cnumber "1" Nil Nil)) Nil) (node kind.Tname (name "a212" Nil) Nil)) Nil)) (node kind.Typedef (name "a214" (node kind.Array (node kind.Indexes (node kind.Subrange (word kind.Cnumber "1" Nil (word kind.Cnumber "1" Nil Nil)) Nil) (node kind.Tname (name "a213" Nil) Nil)) Nil)) (node kind.Typedef (name "a215" (node kind.Array (node kind.Indexes (node kind.Subrange (word kind.Cnumber "1" Nil (word kind.Cnumber "1" Nil Nil)) Nil) (node kind.Tname (name "a214" Nil) Nil)) Nil)) (node kind.Typedef (name "a216" (node kind.Array (node kind.Indexes (node kind.Subrange (word kind.Cnumber "1" Nil (word kind.Cnumber "1" Nil Nil)) Nil) (node kind.Tname (name "a215" Nil) Nil)) Nil)) (node kind.Typedef (name "a217" (node kind.Array (node kind.Indexes (node kind.Subrange (word kind.Cnumber "1" Nil (word kind.Cnumber "1" Nil Nil)) Nil) (node kind.Tname (name "a216" Nil) Nil)) Nil)) (node kind.Typedef (name "a218" (node kind.Array (node kind.Indexes (node kind.Subrange (word kind.Cnumber "1" Nil (word kind.Cnumber "1" Nil Nil)) Nil) (node kind.Tname (name "a217" Nil) Nil)) Nil)) (node kind.Typedef (name "a219" (node kind.Array (node kind.Indexes (node kind.Subrange (word kind.Cnumber "1" Nil (word kind.Cnumber "1" Nil Nil)) Nil) (node kind.Tname (name "a218" Nil) Nil)) Nil)) (node kind.Typedef (name "a220" (node kind.Array (node kind.Indexes (node kind.Subrange (word kind.Cnumber "1" Nil (word kind.Cnumber "1" Nil Nil)) Nil) (node kind.Tname (name "a219" Nil) Nil)) Nil)) (node kind.Typedef (name "a221" (node kind.Array (node kind.Indexes (node kind.Subrange (word kind.Cnumber "1" Nil (word kind.Cnumber "1" Nil Nil)) Nil) (node kind.Tname (name "a220" Nil) Nil)) Nil)) (node kind.Typedef (name "a222" (node kind.Array (node kind.Indexes (node kind.Subrange (word kind.Cnumber "1" Nil (word kind.Cnumber "1" Nil Nil)) Nil) (node kind.Tname (name "a221" Nil) Nil)) Nil)) (node kind.Typedef (name "a223" (node kind.Array (node kind.Indexes (node kind.Subrange (word kind.Cnumber "1" Nil (word kind.Cnumber "1" Nil Nil)) Nil) (node kind.Tname (name "a222" Nil) Nil)) Nil)) (node kind.Typedef (name "a224" (node kind.Array (node kind.Indexes (node kind.Subrange (word kind.Cnumber "1" Nil (word kind.Cnumber "1" Nil Nil)) Nil) (node kind.Tname (name "a223" Nil) Nil)) Nil)) (node kind.Typedef (name "a225" (node kind.Array (node kind.Indexes (node kind.Subrange (word kind.Cnumber "1" Nil (word kind.Cnumber "1" Nil Nil)) Nil) (node kind.Tname (name "a224" Nil) Nil)) Nil)) (node kind.Typedef (name "a226" (node kind.Array (node kind.Indexes (node kind.Subrange (word kind.Cnumber "1" Nil (word kind.Cnumber "1" Nil Nil)) Nil) (node kind.Tname (name "a225" Nil) Nil)) Nil)) (node kind.Typedef (name "a227" (node kind.Array (node kind.Indexes (node kind.Subrange (word kind.Cnumber "1" Nil (word kind.Cnumber "1" Nil Nil)) Nil) (node kind.Tname (name "a226" Nil) Nil)) Nil)) (node kind.Typedef (name "a228" (node kind.Array (node kind.Indexes (node kind.Subrange (word kind.Cnumber "1" Nil (word kind.Cnumber "1" Nil Nil)) Nil) (node kind.Tname (name "a227" Nil) Nil)) Nil)) (node kind.Typedef (name "a229" (node kind.Array (node kind.Indexes (node kind.Subrange (word kind.Cnumber "1" Nil (word kind.Cnumber "1" Nil Nil)) Nil) (node kind.Tname (name "a228" Nil) Nil)) Nil)) (node kind.Typedef (name "a230" (node kind.Array (node kind.Indexes (node kind.Subrange (word kind.Cnumber "1" Nil (word kind.Cnumber "1" Nil Nil)) Nil) (node kind.Tname (name "a229" Nil) Nil)) Nil)) (node kind.Typedef (name "a231" (node kind.Array (node kind.Indexes (node kind.Subrange (word kind.Cnumber "1" Nil (word kind.Cnumber "1" Nil Nil)) Nil) (node kind.Tname (name "a230" Nil) Nil)) Nil)) (node kind.Typedef (name "a232" (node kind.Array (node kind.Indexes (node kind.Subrange (word kind.Cnumber "1" Nil (word kind.Cnumber "1" Nil Nil)) Nil) (node kind.Tname (name "a231" Nil) Nil)) Nil)) (node kind.Typedef (name "a233" (node kind.Array (node kind.Indexes (node kind.Subrange (word kind.Cnumber "1" Nil (word kind.Cnumber "1" Nil Nil)) Nil) (node kind.Tname (name "a232" Nil) Nil)) Nil)) (node kind.Typedef (name "a234" (node kind.Array (node kind.Indexes (node kind.Subrange (word kind.Cnumber "1" Nil (word kind.Cnumber "1" Nil Nil)) Nil) (node kind.Tname (name "a233" Nil) Nil)) Nil)) (node kind.Typedef (name "a235" (node kind.Array (node kind.Indexes (node kind.Subrange (word kind.Cnumber "1" Nil (word kind.Cnumber "1" Nil Nil)) Nil) (node kind.Tname (name "a234" Nil) Nil)) Nil)) (node kind.Typedef (name "a236" (node kind.Array (node kind.Indexes (node kind.Subrange (word kind.Cnumber "1" Nil (word kind.Cnumber "1" Nil Nil)) Nil) (node kind.Tname (name "a235" Nil) Nil)) Nil)) (node kind.Typedef (name "a237" (node kind.Array (node kind.Indexes (node kind.Subrange (word kind.Cnumber "1" Nil (word kind.Cnumber "1" Nil Nil)) Nil) (node kind.Tname (name "a236" Nil) Nil)) Nil)) (node kind.Typedef (name "a238" (node kind.Array (node kind.Indexes (node kind.Subrange (word kind.Cnumber "1" Nil (word kind.Cnumber "1" Nil Nil)) Nil) (node kind.Tname (name "a237" Nil) Nil)) Nil)) (node kind.Typedef (name "a239" (node kind.Array (node kind.Indexes (node kind.Subrange (word kind.Cnumber "1" Nil (word kind.Cnumber "1" Nil Nil)) Nil) (node kind.Tname (name "a238" Nil) Nil)) Nil)) (node kind.Typedef (name "a240" (node kind.Array (node kind.Indexes (node kind.Subrange (word kind.Cnumber "1" Nil (word kind.Cnumber "1" Nil Nil)) Nil) (node kind.Tname (name "a239" Nil) Nil)) Nil)) (node kind.Typedef (name "a241" (node kind.Array (node kind.Indexes (node kind.Subrange (word kind.Cnumber "1" Nil (word kind.Cnumber "1" Nil Nil)) Nil) (node kind.Tname (name "a240" Nil) Nil)) Nil)) (node kind.Typedef (name "a242" (node kind.Array (node kind.Indexes (node kind.Subrange (word kind.Cnumber "1" Nil (word kind.Cnumber "1" Nil Nil)) Nil) (node kind.Tname (name "a241" Nil) Nil)) Nil)) (node kind.Typedef (name "a243" (node kind.Array (node kind.Indexes (node kind.Subrange (word kind.Cnumber "1" Nil (word kind.Cnumber "1" Nil Nil)) Nil) (node kind.Tname (name "a242" Nil) Nil)) Nil)) (node kind.Typedef (name "a244" (node kind.Array (node kind.Indexes (node kind.Subrange (word kind.Cnumber "1" Nil (word kind.Cnumber "1" Nil Nil)) Nil) (node kind.Tname (name "a243" Nil) Nil)) Nil)) (node kind.Typedef (name "a245" (node kind.Array (node kind.Indexes (node kind.Subrange (word kind.Cnumber "1" Nil (word kind.Cnumber "1" Nil Nil)) Nil) (node kind.Tname (name "a244" Nil) Nil)) Nil)) (node kind.Typedef (name "a246" (node kind.Array (node kind.Indexes (node kind.Subrange (word kind.Cnumber "1" Nil (word kind.Cnumber "1" Nil Nil)) Nil) (node kind.Tname (name "a245" Nil) Nil)) Nil)) (node kind.Typedef (name "a247" (node kind.Array (node kind.Indexes (node kind.Subrange (word kind.Cnumber "1" Nil (word kind.Cnumber "1" Nil Nil)) Nil) (node kind.Tname (name "a246" Nil) Nil)) Nil)) (node kind.Typedef (name "a248" (node kind.Array (node kind.Indexes (node kind.Subrange (word kind.Cnumber "1" Nil (word kind.Cnumber "1" Nil Nil)) Nil) (node kind.Tname (name "a247" Nil) Nil)) Nil)) (node kind.Typedef (name "a249" (node kind.Array (node kind.Indexes (node kind.Subrange (word kind.Cnumber "1" Nil (word kind.Cnumber "1" Nil Nil)) Nil) (node kind.Tname (name "a248" Nil) Nil)) Nil)) (node kind.Typedef (name "a250" (node kind.Array (node kind.Indexes (node kind.Subrange (word kind.Cnumber "1" Nil (word kind.Cnumber "1" Nil Nil)) Nil) (node kind.Tname (name "a249" Nil) Nil)) Nil)) (node kind.Typedef (name "a251" (node kind.Array (node kind.Indexes (node kind.Subrange (word kind.Cnumber "1" Nil (word kind.Cnumber "1" Nil Nil)) Nil) (node kind.Tname (name "a250" Nil) Nil)) Nil)) (node kind.Typedef (name "a252" (node kind.Array (node kind.Indexes (node kind.Subrange (word kind.Cnumber "1" Nil (word kind.Cnumber "1" Nil Nil)) Nil) (node kind.Tname (name "a251" Nil) Nil)) Nil)) (node kind.Typedef (name "a253" (node kind.Array (node kind.Indexes (node kind.Subrange (word kind.Cnumber "1" Nil (word kind.Cnumber "1" Nil Nil)) Nil) (node kind.Tname (name "a252" Nil) Nil)) Nil)) (node kind.Typedef (name "a254" (node kind.Array (node kind.Indexes (node kind.Subrange (word kind.Cnumber "1" Nil (word kind.Cnumber "1" Nil Nil)) Nil) (node kind.Tname (name "a253" Nil) Nil)) Nil)) (node kind.Typedef (name "a255" (node kind.Array (node kind.Indexes (node kind.Subrange (word kind.Cnumber "1" Nil (word kind.Cnumber "1" Nil Nil)) Nil) (node kind.Tname (name "a254" Nil) Nil)) Nil)) (node kind.Typedef (name "b" (node kind.Tname (name "a255" Nil) Nil)) (node kind.Typedef (name "s" (node kind.Tname (name "a254" Nil) Nil)) Nil))))))))))))))))))))))))))))))))))))))))))))))))))))))))))))))))))))))))))))))))))))))))))))))))))))))))))))))))))))))))))))))))))))))))))))))))))))))))))))))))))))))))))))))))))))))))))))))))))))))))))))))))))))))))))))))))))))))))))))))))))))))))))))))))))) (node kind.Vars (node kind.Vardef (node kind.Names (name "x" Nil) (node kind.Tname (name "b" Nil) Nil)) (node kind.Vardef (node kind.Names (name "y" Nil) (node kind.Tname (name "s" Nil) Nil)) Nil)) (node kind.Routines Nil (node kind.Compound (node kind.Stmts (node kind.Empty Nil Nil) Nil) Nil))))) Nil)))

holds5 : differs tree5 (entry (3 ∷ 2 ∷ 257 ∷ 2 ∷ []) 10 "type too large" ∷ []) ≡ Equal
unfolding differs
holds5 = refl

-- Row 10: 256 levels are the most. char has one level, t1 two, t255 has 256, t256 one too many.
--   program p; type t1 = record f: char end; t2 = record f: t1 end; t3 = record f: t2 end; t4 = record f: t3 end; t5 = record f: t4 end; t6 = record f: t5
--   end; t7 = record f: t6 end; t8 = record f: t7 end; t9 = record f: t8 end; t10 = record f: t9 end; t11 = record f: t10 end; t12 = record f: t11 end; t
--   .. and so on
abbrev tree6 : Plain
tree6 = program (name "p" (node kind.Heads Nil (node kind.Block (node kind.Consts Nil (node kind.Types (node kind.Typedef (name "t1" (node kind.Record (node kind.Fields (node kind.Field (node kind.Names (name "f" Nil) (node kind.Tname (name "char" Nil) Nil)) Nil) Nil) Nil)) (node kind.Typedef (name "t2" (node kind.Record (node kind.Fields (node kind.Field (node kind.Names (name "f" Nil) (node kind.Tname (name "t1" Nil) Nil)) Nil) Nil) Nil)) (node kind.Typedef (name "t3" (node kind.Record (node kind.Fields (node kind.Field (node kind.Names (name "f" Nil) (node kind.Tname (name "t2" Nil) Nil)) Nil) Nil) Nil)) (node kind.Typedef (name "t4" (node kind.Record (node kind.Fields (node kind.Field (node kind.Names (name "f" Nil) (node kind.Tname (name "t3" Nil) Nil)) Nil) Nil) Nil)) (node kind.Typedef (name "t5" (node kind.Record (node kind.Fields (node kind.Field (node kind.Names (name "f" Nil) (node kind.Tname (name "t4" Nil) Nil)) Nil) Nil) Nil)) (node kind.Typedef (name "t6" (node kind.Record (node kind.Fields (node kind.Field (node kind.Names (name "f" Nil) (node kind.Tname (name "t5" Nil) Nil)) Nil) Nil) Nil)) (node kind.Typedef (name "t7" (node kind.Record (node kind.Fields (node kind.Field (node kind.Names (name "f" Nil) (node kind.Tname (name "t6" Nil) Nil)) Nil) Nil) Nil)) (node kind.Typedef (name "t8" (node kind.Record (node kind.Fields (node kind.Field (node kind.Names (name "f" Nil) (node kind.Tname (name "t7" Nil) Nil)) Nil) Nil) Nil)) (node kind.Typedef (name "t9" (node kind.Record (node kind.Fields (node kind.Field (node kind.Names (name "f" Nil) (node kind.Tname (name "t8" Nil) Nil)) Nil) Nil) Nil)) (node kind.Typedef (name "t10" (node kind.Record (node kind.Fields (node kind.Field (node kind.Names (name "f" Nil) (node kind.Tname (name "t9" Nil) Nil)) Nil) Nil) Nil)) (node kind.Typedef (name "t11" (node kind.Record (node kind.Fields (node kind.Field (node kind.Names (name "f" Nil) (node kind.Tname (name "t10" Nil) Nil)) Nil) Nil) Nil)) (node kind.Typedef (name "t12" (node kind.Record (node kind.Fields (node kind.Field (node kind.Names (name "f" Nil) (node kind.Tname (name "t11" Nil) Nil)) Nil) Nil) Nil)) (node kind.Typedef (name "t13" (node kind.Record (node kind.Fields (node kind.Field (node kind.Names (name "f" Nil) (node kind.Tname (name "t12" Nil) Nil)) Nil) Nil) Nil)) (node kind.Typedef (name "t14" (node kind.Record (node kind.Fields (node kind.Field (node kind.Names (name "f" Nil) (node kind.Tname (name "t13" Nil) Nil)) Nil) Nil) Nil)) (node kind.Typedef (name "t15" (node kind.Record (node kind.Fields (node kind.Field (node kind.Names (name "f" Nil) (node kind.Tname (name "t14" Nil) Nil)) Nil) Nil) Nil)) (node kind.Typedef (name "t16" (node kind.Record (node kind.Fields (node kind.Field (node kind.Names (name "f" Nil) (node kind.Tname (name "t15" Nil) Nil)) Nil) Nil) Nil)) (node kind.Typedef (name "t17" (node kind.Record (node kind.Fields (node kind.Field (node kind.Names (name "f" Nil) (node kind.Tname (name "t16" Nil) Nil)) Nil) Nil) Nil)) (node kind.Typedef (name "t18" (node kind.Record (node kind.Fields (node kind.Field (node kind.Names (name "f" Nil) (node kind.Tname (name "t17" Nil) Nil)) Nil) Nil) Nil)) (node kind.Typedef (name "t19" (node kind.Record (node kind.Fields (node kind.Field (node kind.Names (name "f" Nil) (node kind.Tname (name "t18" Nil) Nil)) Nil) Nil) Nil)) (node kind.Typedef (name "t20" (node kind.Record (node kind.Fields (node kind.Field (node kind.Names (name "f" Nil) (node kind.Tname (name "t19" Nil) Nil)) Nil) Nil) Nil)) (node kind.Typedef (name "t21" (node kind.Record (node kind.Fields (node kind.Field (node kind.Names (name "f" Nil) (node kind.Tname (name "t20" Nil) Nil)) Nil) Nil) Nil)) (node kind.Typedef (name "t22" (node kind.Record (node kind.Fields (node kind.Field (node kind.Names (name "f" Nil) (node kind.Tname (name "t21" Nil) Nil)) Nil) Nil) Nil)) (node kind.Typedef (name "t23" (node kind.Record (node kind.Fields (node kind.Field (node kind.Names (name "f" Nil) (node kind.Tname (name "t22" Nil) Nil)) Nil) Nil) Nil)) (node kind.Typedef (name "t24" (node kind.Record (node kind.Fields (node kind.Field (node kind.Names (name "f" Nil) (node kind.Tname (name "t23" Nil) Nil)) Nil) Nil) Nil)) (node kind.Typedef (name "t25" (node kind.Record (node kind.Fields (node kind.Field (node kind.Names (name "f" Nil) (node kind.Tname (name "t24" Nil) Nil)) Nil) Nil) Nil)) (node kind.Typedef (name "t26" (node kind.Record (node kind.Fields (node kind.Field (node kind.Names (name "f" Nil) (node kind.Tname (name "t25" Nil) Nil)) Nil) Nil) Nil)) (node kind.Typedef (name "t27" (node kind.Record (node kind.Fields (node kind.Field (node kind.Names (name "f" Nil) (node kind.Tname (name "t26" Nil) Nil)) Nil) Nil) Nil)) (node kind.Typedef (name "t28" (node kind.Record (node kind.Fields (node kind.Field (node kind.Names (name "f" Nil) (node kind.Tname (name "t27" Nil) Nil)) Nil) Nil) Nil)) (node kind.Typedef (name "t29" (node kind.Record (node kind.Fields (node kind.Field (node kind.Names (name "f" Nil) (node kind.Tname (name "t28" Nil) Nil)) Nil) Nil) Nil)) (node kind.Typedef (name "t30" (node kind.Record (node kind.Fields (node kind.Field (node kind.Names (name "f" Nil) (node kind.Tname (name "t29" Nil) Nil)) Nil) Nil) Nil)) (node kind.Typedef (name "t31" (node kind.Record (node kind.Fields (node kind.Field (node kind.Names (name "f" Nil) (node kind.Tname (name "t30" Nil) Nil)) Nil) Nil) Nil)) (node kind.Typedef (name "t32" (node kind.Record (node kind.Fields (node kind.Field (node kind.Names (name "f" Nil) (node kind.Tname (name "t31" Nil) Nil)) Nil) Nil) Nil)) (node kind.Typedef (name "t33" (node kind.Record (node kind.Fields (node kind.Field (node kind.Names (name "f" Nil) (node kind.Tname (name "t32" Nil) Nil)) Nil) Nil) Nil)) (node kind.Typedef (name "t34" (node kind.Record (node kind.Fields (node kind.Field (node kind.Names (name "f" Nil) (node kind.Tname (name "t33" Nil) Nil)) Nil) Nil) Nil)) (node kind.Typedef (name "t35" (node kind.Record (node kind.Fields (node kind.Field (node kind.Names (name "f" Nil) (node kind.Tname (name "t34" Nil) Nil)) Nil) Nil) Nil)) (node kind.Typedef (name "t36" (node kind.Record (node kind.Fields (node kind.Field (node kind.Names (name "f" Nil) (node kind.Tname (name "t35" Nil) Nil)) Nil) Nil) Nil)) (node kind.Typedef (name "t37" (node kind.Record (node kind.Fields (node kind.Field (node kind.Names (name "f" Nil) (node kind.Tname (name "t36" Nil) Nil)) Nil) Nil) Nil)) (node kind.Typedef (name "t38" (node kind.Record (node kind.Fields (node kind.Field (node kind.Names (name "f" Nil) (node kind.Tname (name "t37" Nil) Nil)) Nil) Nil) Nil)) (node kind.Typedef (name "t39" (node kind.Record (node kind.Fields (node kind.Field (node kind.Names (name "f" Nil) (node kind.Tname (name "t38" Nil) Nil)) Nil) Nil) Nil)) (node kind.Typedef (name "t40" (node kind.Record (node kind.Fields (node kind.Field (node kind.Names (name "f" Nil) (node kind.Tname (name "t39" Nil) Nil)) Nil) Nil) Nil)) (node kind.Typedef (name "t41" (node kind.Record (node kind.Fields (node kind.Field (node kind.Names (name "f" Nil) (node kind.Tname (name "t40" Nil) Nil)) Nil) Nil) Nil)) (node kind.Typedef (name "t42" (node kind.Record (node kind.Fields (node kind.Field (node kind.Names (name "f" Nil) (node kind.Tname (name "t41" Nil) Nil)) Nil) Nil) Nil)) (node kind.Typedef (name "t43" (node kind.Record (node kind.Fields (node kind.Field (node kind.Names (name "f" Nil) (node kind.Tname (name "t42" Nil) Nil)) Nil) Nil) Nil)) (node kind.Typedef (name "t44" (node kind.Record (node kind.Fields (node kind.Field (node kind.Names (name "f" Nil) (node kind.Tname (name "t43" Nil) Nil)) Nil) Nil) Nil)) (node kind.Typedef (name "t45" (node kind.Record (node kind.Fields (node kind.Field (node kind.Names (name "f" Nil) (node kind.Tname (name "t44" Nil) Nil)) Nil) Nil) Nil)) (node kind.Typedef (name "t46" (node kind.Record (node kind.Fields (node kind.Field (node kind.Names (name "f" Nil) (node kind.Tname (name "t45" Nil) Nil)) Nil) Nil) Nil)) (node kind.Typedef (name "t47" (node kind.Record (node kind.Fields (node kind.Field (node kind.Names (name "f" Nil) (node kind.Tname (name "t46" Nil) Nil)) Nil) Nil) Nil)) (node kind.Typedef (name "t48" (node kind.Record (node kind.Fields (node kind.Field (node kind.Names (name "f" Nil) (node kind.Tname (name "t47" Nil) Nil)) Nil) Nil) Nil)) (node kind.Typedef (name "t49" (node kind.Record (node kind.Fields (node kind.Field (node kind.Names (name "f" Nil) (node kind.Tname (name "t48" Nil) Nil)) Nil) Nil) Nil)) (node kind.Typedef (name "t50" (node kind.Record (node kind.Fields (node kind.Field (node kind.Names (name "f" Nil) (node kind.Tname (name "t49" Nil) Nil)) Nil) Nil) Nil)) (node kind.Typedef (name "t51" (node kind.Record (node kind.Fields (node kind.Field (node kind.Names (name "f" Nil) (node kind.Tname (name "t50" Nil) Nil)) Nil) Nil) Nil)) (node kind.Typedef (name "t52" (node kind.Record (node kind.Fields (node kind.Field (node kind.Names (name "f" Nil) (node kind.Tname (name "t51" Nil) Nil)) Nil) Nil) Nil)) (node kind.Typedef (name "t53" (node kind.Record (node kind.Fields (node kind.Field (node kind.Names (name "f" Nil) (node kind.Tname (name "t52" Nil) Nil)) Nil) Nil) Nil)) (node kind.Typedef (name "t54" (node kind.Record (node kind.Fields (node kind.Field (node kind.Names (name "f" Nil) (node kind.Tname (name "t53" Nil) Nil)) Nil) Nil) Nil)) (node kind.Typedef (name "t55" (node kind.Record (node kind.Fields (node kind.Field (node kind.Names (name "f" Nil) (node kind.Tname (name "t54" Nil) Nil)) Nil) Nil) Nil)) (node kind.Typedef (name "t56" (node kind.Record (node kind.Fields (node kind.Field (node kind.Names (name "f" Nil) (node kind.Tname (name "t55" Nil) Nil)) Nil) Nil) Nil)) (node kind.Typedef (name "t57" (node kind.Record (node kind.Fields (node kind.Field (node kind.Names (name "f" Nil) (node kind.Tname (name "t56" Nil) Nil)) Nil) Nil) Nil)) (node kind.Typedef (name "t58" (node kind.Record (node kind.Fields (node kind.Field (node kind.Names (name "f" Nil) (node kind.Tname (name "t57" Nil) Nil)) Nil) Nil) Nil)) (node kind.Typedef (name "t59" (node kind.Record (node kind.Fields (node kind.Field (node kind.Names (name "f" Nil) (node kind.Tname (name "t58" Nil) Nil)) Nil) Nil) Nil)) (node kind.Typedef (name "t60" (node kind.Record (node kind.Fields (node kind.Field (node kind.Names (name "f" Nil) (node kind.Tname (name "t59" Nil) Nil)) Nil) Nil) Nil)) (node kind.Typedef (name "t61" (node kind.Record (node kind.Fields (node kind.Field (node kind.Names (name "f" Nil) (node kind.Tname (name "t60" Nil) Nil)) Nil) Nil) Nil)) (node kind.Typedef (name "t62" (node kind.Record (node kind.Fields (node kind.Field (node kind.Names (name "f" Nil) (node kind.Tname (name "t61" Nil) Nil)) Nil) Nil) Nil)) (node kind.Typedef (name "t63" (node kind.Record (node kind.Fields (node kind.Field (node kind.Names (name "f" Nil) (node kind.Tname (name "t62" Nil) Nil)) Nil) Nil) Nil)) (node kind.Typedef (name "t64" (node kind.Record (node kind.Fields (node kind.Field (node kind.Names (name "f" Nil) (node kind.Tname (name "t63" Nil) Nil)) Nil) Nil) Nil)) (node kind.Typedef (name "t65" (node kind.Record (node kind.Fields (node kind.Field (node kind.Names (name "f" Nil) (node kind.Tname (name "t64" Nil) Nil)) Nil) Nil) Nil)) (node kind.Typedef (name "t66" (node kind.Record (node kind.Fields (node kind.Field (node kind.Names (name "f" Nil) (node kind.Tname (name "t65" Nil) Nil)) Nil) Nil) Nil)) (node kind.Typedef (name "t67" (node kind.Record (node kind.Fields (node kind.Field (node kind.Names (name "f" Nil) (node kind.Tname (name "t66" Nil) Nil)) Nil) Nil) Nil)) (node kind.Typedef (name "t68" (node kind.Record (node kind.Fields (node kind.Field (node kind.Names (name "f" Nil) (node kind.Tname (name "t67" Nil) Nil)) Nil) Nil) Nil)) (node kind.Typedef (name "t69" (node kind.Record (node kind.Fields (node kind.Field (node kind.Names (name "f" Nil) (node kind.Tname (name "t68" Nil) Nil)) Nil) Nil) Nil)) (node kind.Typedef (name "t70" (node kind.Record (node kind.Fields (node kind.Field (node kind.Names (name "f" Nil) (node kind.Tname (name "t69" Nil) Nil)) Nil) Nil) Nil)) (node kind.Typedef (name "t71" (node kind.Record (node kind.Fields (node kind.Field (node kind.Names (name "f" Nil) (node kind.Tname (name "t70" Nil) Nil)) Nil) Nil) Nil)) (node kind.Typedef (name "t72" (node kind.Record (node kind.Fields (node kind.Field (node kind.Names (name "f" Nil) (node kind.Tname (name "t71" Nil) Nil)) Nil) Nil) Nil)) (node kind.Typedef (name "t73" (node kind.Record (node kind.Fields (node kind.Field (node kind.Names (name "f" Nil) (node kind.Tname (name "t72" Nil) Nil)) Nil) Nil) Nil)) (node kind.Typedef (name "t74" (node kind.Record (node kind.Fields (node kind.Field (node kind.Names (name "f" Nil) (node kind.Tname (name "t73" Nil) Nil)) Nil) Nil) Nil)) (node kind.Typedef (name "t75" (node kind.Record (node kind.Fields (node kind.Field (node kind.Names (name "f" Nil) (node kind.Tname (name "t74" Nil) Nil)) Nil) Nil) Nil)) (node kind.Typedef (name "t76" (node kind.Record (node kind.Fields (node kind.Field (node kind.Names (name "f" Nil) (node kind.Tname (name "t75" Nil) Nil)) Nil) Nil) Nil)) (node kind.Typedef (name "t77" (node kind.Record (node kind.Fields (node kind.Field (node kind.Names (name "f" Nil) (node kind.Tname (name "t76" Nil) Nil)) Nil) Nil) Nil)) (node kind.Typedef (name "t78" (node kind.Record (node kind.Fields (node kind.Field (node kind.Names (name "f" Nil) (node kind.Tname (name "t77" Nil) Nil)) Nil) Nil) Nil)) (node kind.Typedef (name "t79" (node kind.Record (node kind.Fields (node kind.Field (node kind.Names (name "f" Nil) (node kind.Tname (name "t78" Nil) Nil)) Nil) Nil) Nil)) (node kind.Typedef (name "t80" (node kind.Record (node kind.Fields (node kind.Field (node kind.Names (name "f" Nil) (node kind.Tname (name "t79" Nil) Nil)) Nil) Nil) Nil)) (node kind.Typedef (name "t81" (node kind.Record (node kind.Fields (node kind.Field (node kind.Names (name "f" Nil) (node kind.Tname (name "t80" Nil) Nil)) Nil) Nil) Nil)) (node kind.Typedef (name "t82" (node kind.Record (node kind.Fields (node kind.Field (node kind.Names (name "f" Nil) (node kind.Tname (name "t81" Nil) Nil)) Nil) Nil) Nil)) (node kind.Typedef (name "t83" (node kind.Record (node kind.Fields (node kind.Field (node kind.Names (name "f" Nil) (node kind.Tname (name "t82" Nil) Nil)) Nil) Nil) Nil)) (node kind.Typedef (name "t84" (node kind.Record (node kind.Fields (node kind.Field (node kind.Names (name "f" Nil) (node kind.Tname (name "t83" Nil) Nil)) Nil) Nil) Nil)) (node kind.Typedef (name "t85" (node kind.Record (node kind.Fields (node kind.Field (node kind.Names (name "f" Nil) (node kind.Tname (name "t84" Nil) Nil)) Nil) Nil) Nil)) (node kind.Typedef (name "t86" (node kind.Record (node kind.Fields (node kind.Field (node kind.Names (name "f" Nil) (node kind.Tname (name "t85" Nil) Nil)) Nil) Nil) Nil)) (node kind.Typedef (name "t87" (node kind.Record (node kind.Fields (node kind.Field (node kind.Names (name "f" Nil) (node kind.Tname (name "t86" Nil) Nil)) Nil) Nil) Nil)) (node kind.Typedef (name "t88" (node kind.Record (node kind.Fields (node kind.Field (node kind.Names (name "f" Nil) (node kind.Tname (name "t87" Nil) Nil)) Nil) Nil) Nil)) (node kind.Typedef (name "t89" (node kind.Record (node kind.Fields (node kind.Field (node kind.Names (name "f" Nil) (node kind.Tname (name "t88" Nil) Nil)) Nil) Nil) Nil)) (node kind.Typedef (name "t90" (node kind.Record (node kind.Fields (node kind.Field (node kind.Names (name "f" Nil) (node kind.Tname (name "t89" Nil) Nil)) Nil) Nil) Nil)) (node kind.Typedef (name "t91" (node kind.Record (node kind.Fields (node kind.Field (node kind.Names (name "f" Nil) (node kind.Tname (name "t90" Nil) Nil)) Nil) Nil) Nil)) (node kind.Typedef (name "t92" (node kind.Record (node kind.Fields (node kind.Field (node kind.Names (name "f" Nil) (node kind.Tname (name "t91" Nil) Nil)) Nil) Nil) Nil)) (node kind.Typedef (name "t93" (node kind.Record (node kind.Fields (node kind.Field (node kind.Names (name "f" Nil) (node kind.Tname (name "t92" Nil) Nil)) Nil) Nil) Nil)) (node kind.Typedef (name "t94" (node kind.Record (node kind.Fields (node kind.Field (node kind.Names (name "f" Nil) (node kind.Tname (name "t93" Nil) Nil)) Nil) Nil) Nil)) (node kind.Typedef (name "t95" (node kind.Record (node kind.Fields (node kind.Field (node kind.Names (name "f" Nil) (node kind.Tname (name "t94" Nil) Nil)) Nil) Nil) Nil)) (node kind.Typedef (name "t96" (node kind.Record (node kind.Fields (node kind.Field (node kind.Names (name "f" Nil) (node kind.Tname (name "t95" Nil) Nil)) Nil) Nil) Nil)) (node kind.Typedef (name "t97" (node kind.Record (node kind.Fields (node kind.Field (node kind.Names (name "f" Nil) (node kind.Tname (name "t96" Nil) Nil)) Nil) Nil) Nil)) (node kind.Typedef (name "t98" (node kind.Record (node kind.Fields (node kind.Field (node kind.Names (name "f" Nil) (node kind.Tname (name "t97" Nil) Nil)) Nil) Nil) Nil)) (node kind.Typedef (name "t99" (node kind.Record (node kind.Fields (node kind.Field (node kind.Names (name "f" Nil) (node kind.Tname (name "t98" Nil) Nil)) Nil) Nil) Nil)) (node kind.Typedef (name "t100" (node kind.Record (node kind.Fields (node kind.Field (node kind.Names (name "f" Nil) (node kind.Tname (name "t99" Nil) Nil)) Nil) Nil) Nil)) (node kind.Typedef (name "t101" (node kind.Record (node kind.Fields (node kind.Field (node kind.Names (name "f" Nil) (node kind.Tname (name "t100" Nil) Nil)) Nil) Nil) Nil)) (node kind.Typedef (name "t102" (node kind.Record (node kind.Fields (node kind.Field (node kind.Names (name "f" Nil) (node kind.Tname (name "t101" Nil) Nil)) Nil) Nil) Nil)) (node kind.Typedef (name "t103" (node kind.Record (node kind.Fields (node kind.Field (node kind.Names (name "f" Nil) (node kind.Tname (name "t102" Nil) Nil)) Nil) Nil) Nil)) (node kind.Typedef (name "t104" (node kind.Record (node kind.Fields (node kind.Field (node kind.Names (name "f" Nil) (node kind.Tname (name "t103" Nil) Nil)) Nil) Nil) Nil)) (node kind.Typedef (name "t105" (node kind.Record (node kind.Fields (node kind.Field (node kind.Names (name "f" Nil) (node kind.Tname (name "t104" Nil) Nil)) Nil) Nil) Nil)) (node kind.Typedef (name "t106" (node kind.Record (node kind.Fields (node kind.Field (node kind.Names (name "f" Nil) (node kind.Tname (name "t105" Nil) Nil)) Nil) Nil) Nil)) (node kind.Typedef (name "t107" (node kind.Record (node kind.Fields (node kind.Field (node kind.Names (name "f" Nil) (node kind.Tname (name "t106" Nil) Nil)) Nil) Nil) Nil)) (node kind.Typedef (name "t108" (node kind.Record (node kind.Fields (node kind.Field (node kind.Names (name "f" Nil) (node kind.Tname (name "t107" Nil) Nil)) Nil) Nil) Nil)) (node kind.Typedef (name "t109" (node kind.Record (node kind.Fields (node kind.Field (node kind.Names (name "f" Nil) (node kind.Tname (name "t108" Nil) Nil)) Nil) Nil) Nil)) (node kind.Typedef (name "t110" (node kind.Record (node kind.Fields (node kind.Field (node kind.Names (name "f" Nil) (node kind.Tname (name "t109" Nil) Nil)) Nil) Nil) Nil)) (node kind.Typedef (name "t111" (node kind.Record (node kind.Fields (node kind.Field (node kind.Names (name "f" Nil) (node kind.Tname (name "t110" Nil) Nil)) Nil) Nil) Nil)) (node kind.Typedef (name "t112" (node kind.Record (node kind.Fields (node kind.Field (node kind.Names (name "f" Nil) (node kind.Tname (name "t111" Nil) Nil)) Nil) Nil) Nil)) (node kind.Typedef (name "t113" (node kind.Record (node kind.Fields (node kind.Field (node kind.Names (name "f" Nil) (node kind.Tname (name "t112" Nil) Nil)) Nil) Nil) Nil)) (node kind.Typedef (name "t114" (node kind.Record (node kind.Fields (node kind.Field (node kind.Names (name "f" Nil) (node kind.Tname (name "t113" Nil) Nil)) Nil) Nil) Nil)) (node kind.Typedef (name "t115" (node kind.Record (node kind.Fields (node kind.Field (node kind.Names (name "f" Nil) (node kind.Tname (name "t114" Nil) Nil)) Nil) Nil) Nil)) (node kind.Typedef (name "t116" (node kind.Record (node kind.Fields (node kind.Field (node kind.Names (name "f" Nil) (node kind.Tname (name "t115" Nil) Nil)) Nil) Nil) Nil)) (node kind.Typedef (name "t117" (node kind.Record (node kind.Fields (node kind.Field (node kind.Names (name "f" Nil) (node kind.Tname (name "t116" Nil) Nil)) Nil) Nil) Nil)) (node kind.Typedef (name "t118" (node kind.Record (node kind.Fields (node kind.Field (node kind.Names (name "f" Nil) (node kind.Tname (name "t117" Nil) Nil)) Nil) Nil) Nil)) (node kind.Typedef (name "t119" (node kind.Record (node kind.Fields (node kind.Field (node kind.Names (name "f" Nil) (node kind.Tname (name "t118" Nil) Nil)) Nil) Nil) Nil)) (node kind.Typedef (name "t120" (node kind.Record (node kind.Fields (node kind.Field (node kind.Names (name "f" Nil) (node kind.Tname (name "t119" Nil) Nil)) Nil) Nil) Nil)) (node kind.Typedef (name "t121" (node kind.Record (node kind.Fields (node kind.Field (node kind.Names (name "f" Nil) (node kind.Tname (name "t120" Nil) Nil)) Nil) Nil) Nil)) (node kind.Typedef (name "t122" (node kind.Record (node kind.Fields (node kind.Field (node kind.Names (name "f" Nil) (node kind.Tname (name "t121" Nil) Nil)) Nil) Nil) Nil)) (node kind.Typedef (name "t123" (node kind.Record (node kind.Fields (node kind.Field (node kind.Names (name "f" Nil) (node kind.Tname (name "t122" Nil) Nil)) Nil) Nil) Nil)) (node kind.Typedef (name "t124" (node kind.Record (node kind.Fields (node kind.Field (node kind.Names (name "f" Nil) (node kind.Tname (name "t123" Nil) Nil)) Nil) Nil) Nil)) (node kind.Typedef (name "t125" (node kind.Record (node kind.Fields (node kind.Field (node kind.Names (name "f" Nil) (node kind.Tname (name "t124" Nil) Nil)) Nil) Nil) Nil)) (node kind.Typedef (name "t126" (node kind.Record (node kind.Fields (node kind.Field (node kind.Names (name "f" Nil) (node kind.Tname (name "t125" Nil) Nil)) Nil) Nil) Nil)) (node kind.Typedef (name "t127" (node kind.Record (node kind.Fields (node kind.Field (node kind.Names (name "f" Nil) (node kind.Tname (name "t126" Nil) Nil)) Nil) Nil) Nil)) (node kind.Typedef (name "t128" (node kind.Record (node kind.Fields (node kind.Field (node kind.Names (name "f" Nil) (node kind.Tname (name "t127" Nil) Nil)) Nil) Nil) Nil)) (node kind.Typedef (name "t129" (node kind.Record (node kind.Fields (node kind.Field (node kind.Names (name "f" Nil) (node kind.Tname (name "t128" Nil) Nil)) Nil) Nil) Nil)) (node kind.Typedef (name "t130" (node kind.Record (node kind.Fields (node kind.Field (node kind.Names (name "f" Nil) (node kind.Tname (name "t129" Nil) Nil)) Nil) Nil) Nil)) (node kind.Typedef (name "t131" (node kind.Record (node kind.Fields (node kind.Field (node kind.Names (name "f" Nil) (node kind.Tname (name "t130" Nil) Nil)) Nil) Nil) Nil)) (node kind.Typedef (name "t132" (node kind.Record (node kind.Fields (node kind.Field (node kind.Names (name "f" Nil) (node kind.Tname (name "t131" Nil) Nil)) Nil) Nil) Nil)) (node kind.Typedef (name "t133" (node kind.Record (node kind.Fields (node kind.Field (node kind.Names (name "f" Nil) (node kind.Tname (name "t132" Nil) Nil)) Nil) Nil) Nil)) (node kind.Typedef (name "t134" (node kind.Record (node kind.Fields (node kind.Field (node kind.Names (name "f" Nil) (node kind.Tname (name "t133" Nil) Nil)) Nil) Nil) Nil)) (node kind.Typedef (name "t135" (node kind.Record (node kind.Fields (node kind.Field (node kind.Names (name "f" Nil) (node kind.Tname (name "t134" Nil) Nil)) Nil) Nil) Nil)) (node kind.Typedef (name "t136" (node kind.Record (node kind.Fields (node kind.Field (node kind.Names (name "f" Nil) (node kind.Tname (name "t135" Nil) Nil)) Nil) Nil) Nil)) (node kind.Typedef (name "t137" (node kind.Record (node kind.Fields (node kind.Field (node kind.Names (name "f" Nil) (node kind.Tname (name "t136" Nil) Nil)) Nil) Nil) Nil)) (node kind.Typedef (name "t138" (node kind.Record (node kind.Fields (node kind.Field (node kind.Names (name "f" Nil) (node kind.Tname (name "t137" Nil) Nil)) Nil) Nil) Nil)) (node kind.Typedef (name "t139" (node kind.Record (node kind.Fields (node kind.Field (node kind.Names (name "f" Nil) (node kind.Tname (name "t138" Nil) Nil)) Nil) Nil) Nil)) (node kind.Typedef (name "t140" (node kind.Record (node kind.Fields (node kind.Field (node kind.Names (name "f" Nil) (node kind.Tname (name "t139" Nil) Nil)) Nil) Nil) Nil)) (node kind.Typedef (name "t141" (node kind.Record (node kind.Fields (node kind.Field (node kind.Names (name "f" Nil) (node kind.Tname (name "t140" Nil) Nil)) Nil) Nil) Nil)) (node kind.Typedef (name "t142" (node kind.Record (node kind.Fields (node kind.Field (node kind.Names (name "f" Nil) (node kind.Tname (name "t141" Nil) Nil)) Nil) Nil) Nil)) (node kind.Typedef (name "t143" (node kind.Record (node kind.Fields (node kind.Field (node kind.Names (name "f" Nil) (node kind.Tname (name "t142" Nil) Nil)) Nil) Nil) Nil)) (node kind.Typedef (name "t144" (node kind.Record (node kind.Fields (node kind.Field (node kind.Names (name "f" Nil) (node kind.Tname (name "t143" Nil) Nil)) Nil) Nil) Nil)) (node kind.Typedef (name "t145" (node kind.Record (node kind.Fields (node kind.Field (node kind.Names (name "f" Nil) (node kind.Tname (name "t144" Nil) Nil)) Nil) Nil) Nil)) (node kind.Typedef (name "t146" (node kind.Record (node kind.Fields (node kind.Field (node kind.Names (name "f" Nil) (node kind.Tname (name "t145" Nil) Nil)) Nil) Nil) Nil)) (node kind.Typedef (name "t147" (node kind.Record (node kind.Fields (node kind.Field (node kind.Names (name "f" Nil) (node kind.Tname (name "t146" Nil) Nil)) Nil) Nil) Nil)) (node kind.Typedef (name "t148" (node kind.Record (node kind.Fields (node kind.Field (node kind.Names (name "f" Nil) (node kind.Tname (name "t147" Nil) Nil)) Nil) Nil) Nil)) (node kind.Typedef (name "t149" (node kind.Record (node kind.Fields (node kind.Field (node kind.Names (name "f" Nil) (node kind.Tname (name "t148" Nil) Nil)) Nil) Nil) Nil)) (node kind.Typedef (name "t150" (node kind.Record (node kind.Fields (node kind.Field (node kind.Names (name "f" Nil) (node kind.Tname (name "t149" Nil) Nil)) Nil) Nil) Nil)) (node kind.Typedef (name "t151" (node kind.Record (node kind.Fields (node kind.Field (node kind.Names (name "f" Nil) (node kind.Tname (name "t150" Nil) Nil)) Nil) Nil) Nil)) (node kind.Typedef (name "t152" (node kind.Record (node kind.Fields (node kind.Field (node kind.Names (name "f" Nil) (node kind.Tname (name "t151" Nil) Nil)) Nil) Nil) Nil)) (node kind.Typedef (name "t153" (node kind.Record (node kind.Fields (node kind.Field (node kind.Names (name "f" Nil) (node kind.Tname (name "t152" Nil) Nil)) Nil) Nil) Nil)) (node kind.Typedef (name "t154" (node kind.Record (node kind.Fields (node kind.Field (node kind.Names (name "f" Nil) (node kind.Tname (name "t153" Nil) Nil)) Nil) Nil) Nil)) (node kind.Typedef (name "t155" (node kind.Record (node kind.Fields (node kind.Field (node kind.Names (name "f" Nil) (node kind.Tname (name "t154" Nil) Nil)) Nil) Nil) Nil)) (node kind.Typedef (name "t156" (node kind.Record (node kind.Fields (node kind.Field (node kind.Names (name "f" Nil) (node kind.Tname (name "t155" Nil) Nil)) Nil) Nil) Nil)) (node kind.Typedef (name "t157" (node kind.Record (node kind.Fields (node kind.Field (node kind.Names (name "f" Nil) (node kind.Tname (name "t156" Nil) Nil)) Nil) Nil) Nil)) (node kind.Typedef (name "t158" (node kind.Record (node kind.Fields (node kind.Field (node kind.Names (name "f" Nil) (node kind.Tname (name "t157" Nil) Nil)) Nil) Nil) Nil)) (node kind.Typedef (name "t159" (node kind.Record (node kind.Fields (node kind.Field (node kind.Names (name "f" Nil) (node kind.Tname (name "t158" Nil) Nil)) Nil) Nil) Nil)) (node kind.Typedef (name "t160" (node kind.Record (node kind.Fields (node kind.Field (node kind.Names (name "f" Nil) (node kind.Tname (name "t159" Nil) Nil)) Nil) Nil) Nil)) (node kind.Typedef (name "t161" (node kind.Record (node kind.Fields (node kind.Field (node kind.Names (name "f" Nil) (node kind.Tname (name "t160" Nil) Nil)) Nil) Nil) Nil)) (node kind.Typedef (name "t162" (node kind.Record (node kind.Fields (node kind.Field (node kind.Names (name "f" Nil) (node kind.Tname (name "t161" Nil) Nil)) Nil) Nil) Nil)) (node kind.Typedef (name "t163" (node kind.Record (node kind.Fields (node kind.Field (node kind.Names (name "f" Nil) (node kind.Tname (name "t162" Nil) Nil)) Nil) Nil) Nil)) (node kind.Typedef (name "t164" (node kind.Record (node kind.Fields (node kind.Field (node kind.Names (name "f" Nil) (node kind.Tname (name "t163" Nil) Nil)) Nil) Nil) Nil)) (node kind.Typedef (name "t165" (node kind.Record (node kind.Fields (node kind.Field (node kind.Names (name "f" Nil) (node kind.Tname (name "t164" Nil) Nil)) Nil) Nil) Nil)) (node kind.Typedef (name "t166" (node kind.Record (node kind.Fields (node kind.Field (node kind.Names (name "f" Nil) (node kind.Tname (name "t165" Nil) Nil)) Nil) Nil) Nil)) (node kind.Typedef (name "t167" (node kind.Record (node kind.Fields (node kind.Field (node kind.Names (name "f" Nil) (node kind.Tname (name "t166" Nil) Nil)) Nil) Nil) Nil)) (node kind.Typedef (name "t168" (node kind.Record (node kind.Fields (node kind.Field (node kind.Names (name "f" Nil) (node kind.Tname (name "t167" Nil) Nil)) Nil) Nil) Nil)) (node kind.Typedef (name "t169" (node kind.Record (node kind.Fields (node kind.Field (node kind.Names (name "f" Nil) (node kind.Tname (name "t168" Nil) Nil)) Nil) Nil) Nil)) (node kind.Typedef (name "t170" (node kind.Record (node kind.Fields (node kind.Field (node kind.Names (name "f" Nil) (node kind.Tname (name "t169" Nil) Nil)) Nil) Nil) Nil)) (node kind.Typedef (name "t171" (node kind.Record (node kind.Fields (node kind.Field (node kind.Names (name "f" Nil) (node kind.Tname (name "t170" Nil) Nil)) Nil) Nil) Nil)) (node kind.Typedef (name "t172" (node kind.Record (node kind.Fields (node kind.Field (node kind.Names (name "f" Nil) (node kind.Tname (name "t171" Nil) Nil)) Nil) Nil) Nil)) (node kind.Typedef (name "t173" (node kind.Record (node kind.Fields (node kind.Field (node kind.Names (name "f" Nil) (node kind.Tname (name "t172" Nil) Nil)) Nil) Nil) Nil)) (node kind.Typedef (name "t174" (node kind.Record (node kind.Fields (node kind.Field (node kind.Names (name "f" Nil) (node kind.Tname (name "t173" Nil) Nil)) Nil) Nil) Nil)) (node kind.Typedef (name "t175" (node kind.Record (node kind.Fields (node kind.Field (node kind.Names (name "f" Nil) (node kind.Tname (name "t174" Nil) Nil)) Nil) Nil) Nil)) (node kind.Typedef (name "t176" (node kind.Record (node kind.Fields (node kind.Field (node kind.Names (name "f" Nil) (node kind.Tname (name "t175" Nil) Nil)) Nil) Nil) Nil)) (node kind.Typedef (name "t177" (node kind.Record (node kind.Fields (node kind.Field (node kind.Names (name "f" Nil) (node kind.Tname (name "t176" Nil) Nil)) Nil) Nil) Nil)) (node kind.Typedef (name "t178" (node kind.Record (node kind.Fields (node kind.Field (node kind.Names (name "f" Nil) (node kind.Tname (name "t177" Nil) Nil)) Nil) Nil) Nil)) (node kind.Typedef (name "t179" (node kind.Record (node kind.Fields (node kind.Field (node kind.Names (name "f" Nil) (node kind.Tname (name "t178" Nil) Nil)) Nil) Nil) Nil)) (node kind.Typedef (name "t180" (node kind.Record (node kind.Fields (node kind.Field (node kind.Names (name "f" Nil) (node kind.Tname (name "t179" Nil) Nil)) Nil) Nil) Nil)) (node kind.Typedef (name "t181" (node kind.Record (node kind.Fields (node kind.Field (node kind.Names (name "f" Nil) (node kind.Tname (name "t180" Nil) Nil)) Nil) Nil) Nil)) (node kind.Typedef (name "t182" (node kind.Record (node kind.Fields (node kind.Field (node kind.Names (name "f" Nil) (node kind.Tname (name "t181" Nil) Nil)) Nil) Nil) Nil)) (node kind.Typedef (name "t183" (node kind.Record (node kind.Fields (node kind.Field (node kind.Names (name "f" Nil) (node kind.Tname (name "t182" Nil) Nil)) Nil) Nil) Nil)) (node kind.Typedef (name "t184" (node kind.Record (node kind.Fields (node kind.Field (node kind.Names (name "f" Nil) (node kind.Tname (name "t183" Nil) Nil)) Nil) Nil) Nil)) (node kind.Typedef (name "t185" (node kind.Record (node kind.Fields (node kind.Field (node kind.Names (name "f" Nil) (node kind.Tname (name "t184" Nil) Nil)) Nil) Nil) Nil)) (node kind.Typedef (name "t186" (node kind.Record (node kind.Fields (node kind.Field (node kind.Names (name "f" Nil) (node kind.Tname (name "t185" Nil) Nil)) Nil) Nil) Nil)) (node kind.Typedef (name "t187" (node kind.Record (node kind.Fields (node kind.Field (node kind.Names (name "f" Nil) (node kind.Tname (name "t186" Nil) Nil)) Nil) Nil) Nil)) (node kind.Typedef (name "t188" (node kind.Record (node kind.Fields (node kind.Field (node kind.Names (name "f" Nil) (node kind.Tname (name "t187" Nil) Nil)) Nil) Nil) Nil)) (node kind.Typedef (name "t189" (node kind.Record (node kind.Fields (node kind.Field (node kind.Names (name "f" Nil) (node kind.Tname (name "t188" Nil) Nil)) Nil) Nil) Nil)) (node kind.Typedef (name "t190" (node kind.Record (node kind.Fields (node kind.Field (node kind.Names (name "f" Nil) (node kind.Tname (name "t189" Nil) Nil)) Nil) Nil) Nil)) (node kind.Typedef (name "t191" (node kind.Record (node kind.Fields (node kind.Field (node kind.Names (name "f" Nil) (node kind.Tname (name "t190" Nil) Nil)) Nil) Nil) Nil)) (node kind.Typedef (name "t192" (node kind.Record (node kind.Fields (node kind.Field (node kind.Names (name "f" Nil) (node kind.Tname (name "t191" Nil) Nil)) Nil) Nil) Nil)) (node kind.Typedef (name "t193" (node kind.Record (node kind.Fields (node kind.Field (node kind.Names (name "f" Nil) (node kind.Tname (name "t192" Nil) Nil)) Nil) Nil) Nil)) (node kind.Typedef (name "t194" (node kind.Record (node kind.Fields (node kind.Field (node kind.Names (name "f" Nil) (node kind.Tname (name "t193" Nil) Nil)) Nil) Nil) Nil)) (node kind.Typedef (name "t195" (node kind.Record (node kind.Fields (node kind.Field (node kind.Names (name "f" Nil) (node kind.Tname (name "t194" Nil) Nil)) Nil) Nil) Nil)) (node kind.Typedef (name "t196" (node kind.Record (node kind.Fields (node kind.Field (node kind.Names (name "f" Nil) (node kind.Tname (name "t195" Nil) Nil)) Nil) Nil) Nil)) (node kind.Typedef (name "t197" (node kind.Record (node kind.Fields (node kind.Field (node kind.Names (name "f" Nil) (node kind.Tname (name "t196" Nil) Nil)) Nil) Nil) Nil)) (node kind.Typedef (name "t198" (node kind.Record (node kind.Fields (node kind.Field (node kind.Names (name "f" Nil) (node kind.Tname (name "t197" Nil) Nil)) Nil) Nil) Nil)) (node kind.Typedef (name "t199" (node kind.Record (node kind.Fields (node kind.Field (node kind.Names (name "f" Nil) (node kind.Tname (name "t198" Nil) Nil)) Nil) Nil) Nil)) (node kind.Typedef (name "t200" (node kind.Record (node kind.Fields (node kind.Field (node kind.Names (name "f" Nil) (node kind.Tname (name "t199" Nil) Nil)) Nil) Nil) Nil)) (node kind.Typedef (name "t201" (node kind.Record (node kind.Fields (node kind.Field (node kind.Names (name "f" Nil) (node kind.Tname (name "t200" Nil) Nil)) Nil) Nil) Nil)) (node kind.Typedef (name "t202" (node kind.Record (node kind.Fields (node kind.Field (node kind.Names (name "f" Nil) (node kind.Tname (name "t201" Nil) Nil)) Nil) Nil) Nil)) (node kind.Typedef (name "t203" (node kind.Record (node kind.Fields (node kind.Field (node kind.Names (name "f" Nil) (node kind.Tname (name "t202" Nil) Nil)) Nil) Nil) Nil)) (node kind.Typedef (name "t204" (node kind.Record (node kind.Fields (node kind.Field (node kind.Names (name "f" Nil) (node kind.Tname (name "t203" Nil) Nil)) Nil) Nil) Nil)) (node kind.Typedef (name "t205" (node kind.Record (node kind.Fields (node kind.Field (node kind.Names (name "f" Nil) (node kind.Tname (name "t204" Nil) Nil)) Nil) Nil) Nil)) (node kind.Typedef (name "t206" (node kind.Record (node kind.Fields (node kind.Field (node kind.Names (name "f" Nil) (node kind.Tname (name "t205" Nil) Nil)) Nil) Nil) Nil)) (node kind.Typedef (name "t207" (node kind.Record (node kind.Fields (node kind.Field (node kind.Names (name "f" Nil) (node kind.Tname (name "t206" Nil) Nil)) Nil) Nil) Nil)) (node kind.Typedef (name "t208" (node kind.Record (node kind.Fields (node kind.Field (node kind.Names (name "f" Nil) (node kind.Tname (name "t207" Nil) Nil)) Nil) Nil) Nil)) (node kind.Typedef (name "t209" (node kind.Record (node kind.Fields (node kind.Field (node kind.Names (name "f" Nil) (node kind.Tname (name "t208" Nil) Nil)) Nil) Nil) Nil)) (node kind.Typedef (name "t210" (node kind.Record (node kind.Fields (node kind.Field (node kind.Names (name "f" Nil) (node kind.Tname (name "t209" Nil) Nil)) Nil) Nil) Nil)) (node kind.Typedef (name "t211" (node kind.Record (node kind.Fields (node kind.Field (node kind.Names (name "f" Nil) (node kind.Tname (name "t210" Nil) Nil)) Nil) Nil) Nil)) (node kind.Typedef (name "t212" (node kind.Record (node kind.Fields (node kind.Field (node kind.Names (name "f" Nil) (node kind.Tname (name "t211" Nil) Nil)) Nil) Nil) Nil)) (node kind.Typedef (name "t213" (node kind.Record (node kind.Fields (node kind.Field (node kind.Names (name "f" Nil) (node kind.Tname (name "t212" Nil) Nil)) Nil) Nil) Nil)) (node kind.Typedef (name "t214" (node kind.Record (node kind.Fields (node kind.Field (node kind.Names (name "f" Nil) (node kind.Tname (name "t213" Nil) Nil)) Nil) Nil) Nil)) (node kind.Typedef (name "t215" (node kind.Record (node kind.Fields (node kind.Field (node kind.Names (name "f" Nil) (node kind.Tname (name "t214" Nil) Nil)) Nil) Nil) Nil)) (node kind.Typedef (name "t216" (node kind.Record (node kind.Fields (node kind.Field (node kind.Names (name "f" Nil) (node kind.Tname (name "t215" Nil) Nil)) Nil) Nil) Nil)) (node kind.Typedef (name "t217" (node kind.Record (node kind.Fields (node kind.Field (node kind.Names (name "f" Nil) (node kind.Tname (name "t216" Nil) Nil)) Nil) Nil) Nil)) (node kind.Typedef (name "t218" (node kind.Record (node kind.Fields (node kind.Field (node kind.Names (name "f" Nil) (node kind.Tname (name "t217" Nil) Nil)) Nil) Nil) Nil)) (node kind.Typedef (name "t219" (node kind.Record (node kind.Fields (node kind.Field (node kind.Names (name "f" Nil) (node kind.Tname (name "t218" Nil) Nil)) Nil) Nil) Nil)) (node kind.Typedef (name "t220" (node kind.Record (node kind.Fields (node kind.Field (node kind.Names (name "f" Nil) (node kind.Tname (name "t219" Nil) Nil)) Nil) Nil) Nil)) (node kind.Typedef (name "t221" (node kind.Record (node kind.Fields (node kind.Field (node kind.Names (name "f" Nil) (node kind.Tname (name "t220" Nil) Nil)) Nil) Nil) Nil)) (node kind.Typedef (name "t222" (node kind.Record (node kind.Fields (node kind.Field (node kind.Names (name "f" Nil) (node kind.Tname (name "t221" Nil) Nil)) Nil) Nil) Nil)) (node kind.Typedef (name "t223" (node kind.Record (node kind.Fields (node kind.Field (node kind.Names (name "f" Nil) (node kind.Tname (name "t222" Nil) Nil)) Nil) Nil) Nil)) (node kind.Typedef (name "t224" (node kind.Record (node kind.Fields (node kind.Field (node kind.Names (name "f" Nil) (node kind.Tname (name "t223" Nil) Nil)) Nil) Nil) Nil)) (node kind.Typedef (name "t225" (node kind.Record (node kind.Fields (node kind.Field (node kind.Names (name "f" Nil) (node kind.Tname (name "t224" Nil) Nil)) Nil) Nil) Nil)) (node kind.Typedef (name "t226" (node kind.Record (node kind.Fields (node kind.Field (node kind.Names (name "f" Nil) (node kind.Tname (name "t225" Nil) Nil)) Nil) Nil) Nil)) (node kind.Typedef (name "t227" (node kind.Record (node kind.Fields (node kind.Field (node kind.Names (name "f" Nil) (node kind.Tname (name "t226" Nil) Nil)) Nil) Nil) Nil)) (node kind.Typedef (name "t228" (node kind.Record (node kind.Fields (node kind.Field (node kind.Names (name "f" Nil) (node kind.Tname (name "t227" Nil) Nil)) Nil) Nil) Nil)) (node kind.Typedef (name "t229" (node kind.Record (node kind.Fields (node kind.Field (node kind.Names (name "f" Nil) (node kind.Tname (name "t228" Nil) Nil)) Nil) Nil) Nil)) (node kind.Typedef (name "t230" (node kind.Record (node kind.Fields (node kind.Field (node kind.Names (name "f" Nil) (node kind.Tname (name "t229" Nil) Nil)) Nil) Nil) Nil)) (node kind.Typedef (name "t231" (node kind.Record (node kind.Fields (node kind.Field (node kind.Names (name "f" Nil) (node kind.Tname (name "t230" Nil) Nil)) Nil) Nil) Nil)) (node kind.Typedef (name "t232" (node kind.Record (node kind.Fields (node kind.Field (node kind.Names (name "f" Nil) (node kind.Tname (name "t231" Nil) Nil)) Nil) Nil) Nil)) (node kind.Typedef (name "t233" (node kind.Record (node kind.Fields (node kind.Field (node kind.Names (name "f" Nil) (node kind.Tname (name "t232" Nil) Nil)) Nil) Nil) Nil)) (node kind.Typedef (name "t234" (node kind.Record (node kind.Fields (node kind.Field (node kind.Names (name "f" Nil) (node kind.Tname (name "t233" Nil) Nil)) Nil) Nil) Nil)) (node kind.Typedef (name "t235" (node kind.Record (node kind.Fields (node kind.Field (node kind.Names (name "f" Nil) (node kind.Tname (name "t234" Nil) Nil)) Nil) Nil) Nil)) (node kind.Typedef (name "t236" (node kind.Record (node kind.Fields (node kind.Field (node kind.Names (name "f" Nil) (node kind.Tname (name "t235" Nil) Nil)) Nil) Nil) Nil)) (node kind.Typedef (name "t237" (node kind.Record (node kind.Fields (node kind.Field (node kind.Names (name "f" Nil) (node kind.Tname (name "t236" Nil) Nil)) Nil) Nil) Nil)) (node kind.Typedef (name "t238" (node kind.Record (node kind.Fields (node kind.Field (node kind.Names (name "f" Nil) (node kind.Tname (name "t237" Nil) Nil)) Nil) Nil) Nil)) (node kind.Typedef (name "t239" (node kind.Record (node kind.Fields (node kind.Field (node kind.Names (name "f" Nil) (node kind.Tname (name "t238" Nil) Nil)) Nil) Nil) Nil)) (node kind.Typedef (name "t240" (node kind.Record (node kind.Fields (node kind.Field (node kind.Names (name "f" Nil) (node kind.Tname (name "t239" Nil) Nil)) Nil) Nil) Nil)) (node kind.Typedef (name "t241" (node kind.Record (node kind.Fields (node kind.Field (node kind.Names (name "f" Nil) (node kind.Tname (name "t240" Nil) Nil)) Nil) Nil) Nil)) (node kind.Typedef (name "t242" (node kind.Record (node kind.Fields (node kind.Field (node kind.Names (name "f" Nil) (node kind.Tname (name "t241" Nil) Nil)) Nil) Nil) Nil)) (node kind.Typedef (name "t243" (node kind.Record (node kind.Fields (node kind.Field (node kind.Names (name "f" Nil) (node kind.Tname (name "t242" Nil) Nil)) Nil) Nil) Nil)) (node kind.Typedef (name "t244" (node kind.Record (node kind.Fields (node kind.Field (node kind.Names (name "f" Nil) (node kind.Tname (name "t243" Nil) Nil)) Nil) Nil) Nil)) (node kind.Typedef (name "t245" (node kind.Record (node kind.Fields (node kind.Field (node kind.Names (name "f" Nil) (node kind.Tname (name "t244" Nil) Nil)) Nil) Nil) Nil)) (node kind.Typedef (name "t246" (node kind.Record (node kind.Fields (node kind.Field (node kind.Names (name "f" Nil) (node kind.Tname (name "t245" Nil) Nil)) Nil) Nil) Nil)) (node kind.Typedef (name "t247" (node kind.Record (node kind.Fields (node kind.Field (node kind.Names (name "f" Nil) (node kind.Tname (name "t246" Nil) Nil)) Nil) Nil) Nil)) (node kind.Typedef (name "t248" (node kind.Record (node kind.Fields (node kind.Field (node kind.Names (name "f" Nil) (node kind.Tname (name "t247" Nil) Nil)) Nil) Nil) Nil)) (node kind.Typedef (name "t249" (node kind.Record (node kind.Fields (node kind.Field (node kind.Names (name "f" Nil) (node kind.Tname (name "t248" Nil) Nil)) Nil) Nil) Nil)) (node kind.Typedef (name "t250" (node kind.Record (node kind.Fields (node kind.Field (node kind.Names (name "f" Nil) (node kind.Tname (name "t249" Nil) Nil)) Nil) Nil) Nil)) (node kind.Typedef (name "t251" (node kind.Record (node kind.Fields (node kind.Field (node kind.Names (name "f" Nil) (node kind.Tname (name "t250" Nil) Nil)) Nil) Nil) Nil)) (node kind.Typedef (name "t252" (node kind.Record (node kind.Fields (node kind.Field (node kind.Names (name "f" Nil) (node kind.Tname (name "t251" Nil) Nil)) Nil) Nil) Nil)) (node kind.Typedef (name "t253" (node kind.Record (node kind.Fields (node kind.Field (node kind.Names (name "f" Nil) (node kind.Tname (name "t252" Nil) Nil)) Nil) Nil) Nil)) (node kind.Typedef (name "t254" (node kind.Record (node kind.Fields (node kind.Field (node kind.Names (name "f" Nil) (node kind.Tname (name "t253" Nil) Nil)) Nil) Nil) Nil)) (node kind.Typedef (name "t255" (node kind.Record (node kind.Fields (node kind.Field (node kind.Names (name "f" Nil) (node kind.Tname (name "t254" Nil) Nil)) Nil) Nil) Nil)) (node kind.Typedef (name "t256" (node kind.Record (node kind.Fields (node kind.Field (node kind.Names (name "f" Nil) (node kind.Tname (name "t255" Nil) Nil)) Nil) Nil) Nil)) Nil)))))))))))))))))))))))))))))))))))))))))))))))))))))))))))))))))))))))))))))))))))))))))))))))))))))))))))))))))))))))))))))))))))))))))))))))))))))))))))))))))))))))))))))))))))))))))))))))))))))))))))))))))))))))))))))))))))))))))))))))))))))))))))))))) (node kind.Vars Nil (node kind.Routines Nil (node kind.Compound (node kind.Stmts (node kind.Empty Nil Nil) Nil) Nil))))) Nil)))

holds6 : differs tree6 (entry (3 ∷ 2 ∷ 256 ∷ 2 ∷ []) 10 "type too large" ∷ []) ≡ Equal
unfolding differs
holds6 = refl

-- Row 10 under packed: the node inside has the entry.
--   program p; var a: packed array [0..1000000] of char; begin a[1] := 1 end.
abbrev tree7 : Plain
tree7 = program (name "p" (node kind.Heads Nil (node kind.Block (node kind.Consts Nil (node kind.Types Nil (node kind.Vars (node kind.Vardef (node kind.Names (name "a" Nil) (node kind.Packed (node kind.Array (node kind.Indexes (node kind.Subrange (word kind.Cnumber "0" Nil (word kind.Cnumber "1000000" Nil Nil)) Nil) (node kind.Tname (name "char" Nil) Nil)) Nil) Nil)) Nil) (node kind.Routines Nil (node kind.Compound (node kind.Stmts (node kind.Assign (node kind.Index (node kind.Ref (name "a" Nil) (node kind.Exprs (word kind.Number "1" Nil Nil) Nil)) (word kind.Number "1" Nil Nil)) Nil) Nil) Nil))))) Nil)))

holds7 : differs tree7 (entry (3 ∷ 3 ∷ 1 ∷ 2 ∷ 1 ∷ []) 10 "type too large" ∷ []) ≡ Equal
unfolding differs
holds7 = refl

-- Row 10: a pointer has one cell and one level, whatever its domain has.
--   program p; type b = array [1..1000000] of char; q = ^b; var a: array [1..1000000] of q; begin new(a[7]) end.
abbrev tree8 : Plain
tree8 = program (name "p" (node kind.Heads Nil (node kind.Block (node kind.Consts Nil (node kind.Types (node kind.Typedef (name "b" (node kind.Array (node kind.Indexes (node kind.Subrange (word kind.Cnumber "1" Nil (word kind.Cnumber "1000000" Nil Nil)) Nil) (node kind.Tname (name "char" Nil) Nil)) Nil)) (node kind.Typedef (name "q" (node kind.Pointer (name "b" Nil) Nil)) Nil)) (node kind.Vars (node kind.Vardef (node kind.Names (name "a" Nil) (node kind.Array (node kind.Indexes (node kind.Subrange (word kind.Cnumber "1" Nil (word kind.Cnumber "1000000" Nil Nil)) Nil) (node kind.Tname (name "q" Nil) Nil)) Nil)) Nil) (node kind.Routines Nil (node kind.Compound (node kind.Stmts (node kind.Proc (name "new" (node kind.Args (node kind.Index (node kind.Ref (name "a" Nil) (node kind.Exprs (word kind.Number "7" Nil Nil) Nil)) Nil) Nil)) Nil) Nil) Nil))))) Nil)))

holds8 : differs tree8 ([]) ≡ Equal
unfolding differs
holds8 = refl

-- Row 10: cells multiply; several indexes are one denoter with one entry at its node.
--   program p; var a: array [1..1000, 1..1000] of char; b: array [1..1000, 1..1001] of char; begin end.
abbrev tree9 : Plain
tree9 = program (name "p" (node kind.Heads Nil (node kind.Block (node kind.Consts Nil (node kind.Types Nil (node kind.Vars (node kind.Vardef (node kind.Names (name "a" Nil) (node kind.Array (node kind.Indexes (node kind.Subrange (word kind.Cnumber "1" Nil (word kind.Cnumber "1000" Nil Nil)) (node kind.Subrange (word kind.Cnumber "1" Nil (word kind.Cnumber "1000" Nil Nil)) Nil)) (node kind.Tname (name "char" Nil) Nil)) Nil)) (node kind.Vardef (node kind.Names (name "b" Nil) (node kind.Array (node kind.Indexes (node kind.Subrange (word kind.Cnumber "1" Nil (word kind.Cnumber "1000" Nil Nil)) (node kind.Subrange (word kind.Cnumber "1" Nil (word kind.Cnumber "1001" Nil Nil)) Nil)) (node kind.Tname (name "char" Nil) Nil)) Nil)) Nil)) (node kind.Routines Nil (node kind.Compound (node kind.Stmts (node kind.Empty Nil Nil) Nil) Nil))))) Nil)))

holds9 : differs tree9 (entry (3 ∷ 3 ∷ 2 ∷ 2 ∷ []) 10 "type too large" ∷ []) ≡ Equal
unfolding differs
holds9 = refl

-- Row 10: the cells of a record are the sum of its fields; a record without fields has one.
--   program p; type a = array [1..500000] of char; r = record x, y: a end; s = record x, y: a; z: char end; e = record end; f = array [1..1000000] of e; g
--   = array [1..1000001] of e; begin end.
abbrev tree10 : Plain
tree10 = program (name "p" (node kind.Heads Nil (node kind.Block (node kind.Consts Nil (node kind.Types (node kind.Typedef (name "a" (node kind.Array (node kind.Indexes (node kind.Subrange (word kind.Cnumber "1" Nil (word kind.Cnumber "500000" Nil Nil)) Nil) (node kind.Tname (name "char" Nil) Nil)) Nil)) (node kind.Typedef (name "r" (node kind.Record (node kind.Fields (node kind.Field (node kind.Names (name "x" (name "y" Nil)) (node kind.Tname (name "a" Nil) Nil)) Nil) Nil) Nil)) (node kind.Typedef (name "s" (node kind.Record (node kind.Fields (node kind.Field (node kind.Names (name "x" (name "y" Nil)) (node kind.Tname (name "a" Nil) Nil)) (node kind.Field (node kind.Names (name "z" Nil) (node kind.Tname (name "char" Nil) Nil)) Nil)) Nil) Nil)) (node kind.Typedef (name "e" (node kind.Record0 Nil Nil)) (node kind.Typedef (name "f" (node kind.Array (node kind.Indexes (node kind.Subrange (word kind.Cnumber "1" Nil (word kind.Cnumber "1000000" Nil Nil)) Nil) (node kind.Tname (name "e" Nil) Nil)) Nil)) (node kind.Typedef (name "g" (node kind.Array (node kind.Indexes (node kind.Subrange (word kind.Cnumber "1" Nil (word kind.Cnumber "1000001" Nil Nil)) Nil) (node kind.Tname (name "e" Nil) Nil)) Nil)) Nil)))))) (node kind.Vars Nil (node kind.Routines Nil (node kind.Compound (node kind.Stmts (node kind.Empty Nil Nil) Nil) Nil))))) Nil)))

holds10 : differs tree10 (entry (3 ∷ 2 ∷ 3 ∷ 2 ∷ []) 10 "type too large" ∷ entry (3 ∷ 2 ∷ 6 ∷ 2 ∷ []) 10 "type too large" ∷ []) ≡ Equal
unfolding differs
holds10 = refl

-- Row 10: the variable has no type.
--   program p; var a: array [0..1000000] of char; begin a[true] := 1; a := 3 end.
abbrev tree11 : Plain
tree11 = program (name "p" (node kind.Heads Nil (node kind.Block (node kind.Consts Nil (node kind.Types Nil (node kind.Vars (node kind.Vardef (node kind.Names (name "a" Nil) (node kind.Array (node kind.Indexes (node kind.Subrange (word kind.Cnumber "0" Nil (word kind.Cnumber "1000000" Nil Nil)) Nil) (node kind.Tname (name "char" Nil) Nil)) Nil)) Nil) (node kind.Routines Nil (node kind.Compound (node kind.Stmts (node kind.Assign (node kind.Index (node kind.Ref (name "a" Nil) (node kind.Exprs (node kind.Ref (name "true" Nil) Nil) Nil)) (word kind.Number "1" Nil Nil)) (node kind.Assign (node kind.Ref (name "a" Nil) (word kind.Number "3" Nil Nil)) Nil)) Nil) Nil))))) Nil)))

holds11 : differs tree11 (entry (3 ∷ 3 ∷ 1 ∷ 2 ∷ []) 10 "type too large" ∷ []) ≡ Equal
unfolding differs
holds11 = refl
