-- Conditions: programs with the errors that they have.
use Rattle.std.specs.Prelude.{◌≡◌, [], ◌∷◌}
use Rattle.std.proofs.Common.{refl}
use Rattle.pc_syntax.specs.Plain.{Nil, Plain}
use Rattle.pc_syntax.specs.declared.kind.Kind.TheVariants as kind
use Rattle.pc_syntax.specs.declared.sort.Sort.TheVariants as sort
use Rattle.pc_rule_cases.specs.Trees.{program, node, name, word}
use Rattle.pc_rule_cases.specs.Compare.{Equal, entry, differs}

-- Row 17, the neighbour: Boolean and a subrange of it.
--   program p; var b: boolean; c: true..true; begin if b then; while c do; repeat until not b or c; if odd(1) then end.
abbrev tree1 : Plain
tree1 = program (name "p" (node kind.Heads Nil (node kind.Block (node kind.Consts Nil (node kind.Types Nil (node kind.Vars (node kind.Vardef (node kind.Names (name "b" Nil) (node kind.Tname (name "boolean" Nil) Nil)) (node kind.Vardef (node kind.Names (name "c" Nil) (node kind.Subrange (node kind.Cname (name "true" Nil) (node kind.Cname (name "true" Nil) Nil)) Nil)) Nil)) (node kind.Routines Nil (node kind.Compound (node kind.Stmts (node kind.If (node kind.Ref (name "b" Nil) (node kind.Empty Nil Nil)) (node kind.While (node kind.Ref (name "c" Nil) (node kind.Empty Nil Nil)) (node kind.Repeat (node kind.Stmts (node kind.Empty Nil Nil) (word kind.Add "or" (node kind.Not (node kind.Ref (name "b" Nil) Nil) (node kind.Ref (name "c" Nil) Nil)) Nil)) (node kind.If (node kind.Call (name "odd" (node kind.Exprs (word kind.Number "1" Nil Nil) Nil)) (node kind.Empty Nil Nil)) Nil)))) Nil) Nil))))) Nil)))

holds1 : differs tree1 ([]) ≡ Equal
unfolding differs
holds1 = refl

-- Row 17: the expression of if, while, repeat, at the expression.
--   program p; var i: integer; begin if i then; if 1 then else; while 'a' do; repeat until i + 1 end.
abbrev tree2 : Plain
tree2 = program (name "p" (node kind.Heads Nil (node kind.Block (node kind.Consts Nil (node kind.Types Nil (node kind.Vars (node kind.Vardef (node kind.Names (name "i" Nil) (node kind.Tname (name "integer" Nil) Nil)) Nil) (node kind.Routines Nil (node kind.Compound (node kind.Stmts (node kind.If (node kind.Ref (name "i" Nil) (node kind.Empty Nil Nil)) (node kind.Ifelse (word kind.Number "1" Nil (node kind.Empty Nil (node kind.Empty Nil Nil))) (node kind.While (word kind.Text "'a'" Nil (node kind.Empty Nil Nil)) (node kind.Repeat (node kind.Stmts (node kind.Empty Nil Nil) (word kind.Add "+" (node kind.Ref (name "i" Nil) (word kind.Number "1" Nil Nil)) Nil)) Nil)))) Nil) Nil))))) Nil)))

holds2 : differs tree2 (entry (3 ∷ 5 ∷ 1 ∷ 1 ∷ 1 ∷ []) 17 "condition is not Boolean" ∷ entry (3 ∷ 5 ∷ 1 ∷ 2 ∷ 1 ∷ []) 17 "condition is not Boolean" ∷ entry (3 ∷ 5 ∷ 1 ∷ 3 ∷ 1 ∷ []) 17 "condition is not Boolean" ∷ entry (3 ∷ 5 ∷ 1 ∷ 4 ∷ 2 ∷ []) 17 "condition is not Boolean" ∷ []) ≡ Equal
unfolding differs
holds2 = refl

-- Row 17 needs the type: undeclared, hole, a part with an error.
--   program p; begin if y then; while ?expression do; repeat until 1 + true; if (y) then end.
abbrev tree3 : Plain
tree3 = program (name "p" (node kind.Heads Nil (node kind.Block (node kind.Consts Nil (node kind.Types Nil (node kind.Vars Nil (node kind.Routines Nil (node kind.Compound (node kind.Stmts (node kind.If (node kind.Ref (name "y" Nil) (node kind.Empty Nil Nil)) (node kind.While (node (kind.Hole sort.Expression) Nil (node kind.Empty Nil Nil)) (node kind.Repeat (node kind.Stmts (node kind.Empty Nil Nil) (word kind.Add "+" (word kind.Number "1" Nil (node kind.Ref (name "true" Nil) Nil)) Nil)) (node kind.If (node kind.Parens (node kind.Ref (name "y" Nil) Nil) (node kind.Empty Nil Nil)) Nil)))) Nil) Nil))))) Nil)))

holds3 : differs tree3 (entry (3 ∷ 5 ∷ 1 ∷ 1 ∷ 1 ∷ 1 ∷ []) 1 "not declared: y" ∷ entry (3 ∷ 5 ∷ 1 ∷ 3 ∷ 2 ∷ []) 11 "types do not agree" ∷ entry (3 ∷ 5 ∷ 1 ∷ 4 ∷ 1 ∷ 1 ∷ 1 ∷ []) 1 "not declared: y" ∷ []) ≡ Equal
unfolding differs
holds3 = refl

-- Row 17: boolean defined anew is another type; a comparison still gives the required one.
--   program p; type boolean = (no, yes); var b: boolean; begin b := yes; if b then; if b = yes then; b := 1 = 1 end.
abbrev tree4 : Plain
tree4 = program (name "p" (node kind.Heads Nil (node kind.Block (node kind.Consts Nil (node kind.Types (node kind.Typedef (name "boolean" (node kind.Enum (node kind.Names (name "no" (name "yes" Nil)) Nil) Nil)) Nil) (node kind.Vars (node kind.Vardef (node kind.Names (name "b" Nil) (node kind.Tname (name "boolean" Nil) Nil)) Nil) (node kind.Routines Nil (node kind.Compound (node kind.Stmts (node kind.Assign (node kind.Ref (name "b" Nil) (node kind.Ref (name "yes" Nil) Nil)) (node kind.If (node kind.Ref (name "b" Nil) (node kind.Empty Nil Nil)) (node kind.If (word kind.Rel "=" (node kind.Ref (name "b" Nil) (node kind.Ref (name "yes" Nil) Nil)) (node kind.Empty Nil Nil)) (node kind.Assign (node kind.Ref (name "b" Nil) (word kind.Rel "=" (word kind.Number "1" Nil (word kind.Number "1" Nil Nil)) Nil)) Nil)))) Nil) Nil))))) Nil)))

holds4 : differs tree4 (entry (3 ∷ 5 ∷ 1 ∷ 2 ∷ 1 ∷ []) 17 "condition is not Boolean" ∷ entry (3 ∷ 5 ∷ 1 ∷ 4 ∷ []) 11 "types do not agree" ∷ []) ≡ Equal
unfolding differs
holds4 = refl

-- Row 17: sets, strings, records, pointers.
--   program p; var r: record end; q: ^char; begin if [] then; if 'ab' then; if r then; if nil then; while q do end.
abbrev tree5 : Plain
tree5 = program (name "p" (node kind.Heads Nil (node kind.Block (node kind.Consts Nil (node kind.Types Nil (node kind.Vars (node kind.Vardef (node kind.Names (name "r" Nil) (node kind.Record0 Nil Nil)) (node kind.Vardef (node kind.Names (name "q" Nil) (node kind.Pointer (name "char" Nil) Nil)) Nil)) (node kind.Routines Nil (node kind.Compound (node kind.Stmts (node kind.If (node kind.Setcon (node kind.Members Nil Nil) (node kind.Empty Nil Nil)) (node kind.If (word kind.Text "'ab'" Nil (node kind.Empty Nil Nil)) (node kind.If (node kind.Ref (name "r" Nil) (node kind.Empty Nil Nil)) (node kind.If (node kind.Nil Nil (node kind.Empty Nil Nil)) (node kind.While (node kind.Ref (name "q" Nil) (node kind.Empty Nil Nil)) Nil))))) Nil) Nil))))) Nil)))

holds5 : differs tree5 (entry (3 ∷ 5 ∷ 1 ∷ 1 ∷ 1 ∷ []) 17 "condition is not Boolean" ∷ entry (3 ∷ 5 ∷ 1 ∷ 2 ∷ 1 ∷ []) 17 "condition is not Boolean" ∷ entry (3 ∷ 5 ∷ 1 ∷ 3 ∷ 1 ∷ []) 17 "condition is not Boolean" ∷ entry (3 ∷ 5 ∷ 1 ∷ 4 ∷ 1 ∷ []) 17 "condition is not Boolean" ∷ entry (3 ∷ 5 ∷ 1 ∷ 5 ∷ 1 ∷ []) 17 "condition is not Boolean" ∷ []) ≡ Equal
unfolding differs
holds5 = refl
