-- Names that are used before their declaration: programs with the errors that they have.
use Rattle.std.specs.Prelude.{◌≡◌, [], ◌∷◌}
use Rattle.std.proofs.Common.{refl}
use Rattle.pc_syntax.specs.Plain.{Nil, Plain}
use Rattle.pc_syntax.specs.declared.kind.Kind.TheVariants as kind
use Rattle.pc_rule_cases.specs.Trees.{program, node, name, word}
use Rattle.pc_rule_cases.specs.Compare.{Equal, entry, differs}

-- Row 2: an enumerated constant may be used right of its place in the same denoter.
--   program p; type r = record a: (u, v, w); b: u..v end; begin end.
abbrev tree1 : Plain
tree1 = program (name "p" (node kind.Heads Nil (node kind.Block (node kind.Consts Nil (node kind.Types (node kind.Typedef (name "r" (node kind.Record (node kind.Fields (node kind.Field (node kind.Names (name "a" Nil) (node kind.Enum (node kind.Names (name "u" (name "v" (name "w" Nil))) Nil) Nil)) (node kind.Field (node kind.Names (name "b" Nil) (node kind.Subrange (node kind.Cname (name "u" Nil) (node kind.Cname (name "v" Nil) Nil)) Nil)) Nil)) Nil) Nil)) Nil) (node kind.Vars Nil (node kind.Routines Nil (node kind.Compound (node kind.Stmts (node kind.Empty Nil Nil) Nil) Nil))))) Nil)))

holds1 : differs tree1 ([]) ≡ Equal
unfolding differs
holds1 = refl

-- Row 2: a type used before its declaration in the same type part.
--   program p; type a = b; b = integer; var x: a; begin x := 1 end.
abbrev tree2 : Plain
tree2 = program (name "p" (node kind.Heads Nil (node kind.Block (node kind.Consts Nil (node kind.Types (node kind.Typedef (name "a" (node kind.Tname (name "b" Nil) Nil)) (node kind.Typedef (name "b" (node kind.Tname (name "integer" Nil) Nil)) Nil)) (node kind.Vars (node kind.Vardef (node kind.Names (name "x" Nil) (node kind.Tname (name "a" Nil) Nil)) Nil) (node kind.Routines Nil (node kind.Compound (node kind.Stmts (node kind.Assign (node kind.Ref (name "x" Nil) (word kind.Number "1" Nil Nil)) Nil) Nil) Nil))))) Nil)))

holds2 : differs tree2 (entry (3 ∷ 2 ∷ 1 ∷ 2 ∷ 1 ∷ []) 2 "used before its declaration: b" ∷ []) ≡ Equal
unfolding differs
holds2 = refl

-- Rows 2, 4 and 18 at one name: a for's name that is a function declared later.
--   program p; procedure q; begin for f := 1 to 2 do end; function f: integer; begin f := 1 end; begin q end.
abbrev tree3 : Plain
tree3 = program (name "p" (node kind.Heads Nil (node kind.Block (node kind.Consts Nil (node kind.Types Nil (node kind.Vars Nil (node kind.Routines (node kind.Procedure (name "q" (node kind.Params Nil (node kind.Block (node kind.Consts Nil (node kind.Types Nil (node kind.Vars Nil (node kind.Routines Nil (node kind.Compound (node kind.Stmts (word kind.For "to" (name "f" (word kind.Number "1" Nil (word kind.Number "2" Nil (node kind.Empty Nil Nil)))) Nil) Nil) Nil))))) Nil))) (node kind.Function (name "f" (node kind.Params Nil (name "integer" (node kind.Block (node kind.Consts Nil (node kind.Types Nil (node kind.Vars Nil (node kind.Routines Nil (node kind.Compound (node kind.Stmts (node kind.Assign (node kind.Ref (name "f" Nil) (word kind.Number "1" Nil Nil)) Nil) Nil) Nil))))) Nil)))) Nil)) (node kind.Compound (node kind.Stmts (node kind.Proc (name "q" (node kind.Args Nil Nil)) Nil) Nil) Nil))))) Nil)))

holds3 : differs tree3 (entry (3 ∷ 4 ∷ 1 ∷ 3 ∷ 5 ∷ 1 ∷ 1 ∷ 1 ∷ []) 2 "used before its declaration: f" ∷ entry (3 ∷ 4 ∷ 1 ∷ 3 ∷ 5 ∷ 1 ∷ 1 ∷ 1 ∷ []) 4 "not a variable: f" ∷ entry (3 ∷ 4 ∷ 1 ∷ 3 ∷ 5 ∷ 1 ∷ 1 ∷ 1 ∷ []) 18 "control variable not local: f" ∷ []) ≡ Equal
unfolding differs
holds3 = refl

-- Rows 2 and 4 at one name: Later has a meaning, and its class is wrong.
--   program p; var x: q; procedure q; begin end; begin end.
abbrev tree4 : Plain
tree4 = program (name "p" (node kind.Heads Nil (node kind.Block (node kind.Consts Nil (node kind.Types Nil (node kind.Vars (node kind.Vardef (node kind.Names (name "x" Nil) (node kind.Tname (name "q" Nil) Nil)) Nil) (node kind.Routines (node kind.Procedure (name "q" (node kind.Params Nil (node kind.Block (node kind.Consts Nil (node kind.Types Nil (node kind.Vars Nil (node kind.Routines Nil (node kind.Compound (node kind.Stmts (node kind.Empty Nil Nil) Nil) Nil))))) Nil))) Nil) (node kind.Compound (node kind.Stmts (node kind.Empty Nil Nil) Nil) Nil))))) Nil)))

holds4 : differs tree4 (entry (3 ∷ 3 ∷ 1 ∷ 2 ∷ 1 ∷ []) 2 "used before its declaration: q" ∷ entry (3 ∷ 3 ∷ 1 ∷ 2 ∷ 1 ∷ []) 4 "not a type: q" ∷ []) ≡ Equal
unfolding differs
holds4 = refl
