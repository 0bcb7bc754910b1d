-- Forward routines: programs with the errors that they have.
use Rattle.std.specs.Prelude.{◌≡◌, [], ◌∷◌}
use Rattle.std.proofs.Common.{refl}
use Rattle.pc_syntax.specs.Plain.{Nil, Plain}
use Rattle.pc_syntax.specs.declared.kind.Kind.TheVariants as kind
use Rattle.pc_syntax.specs.declared.sort.Sort.TheVariants as sort
use Rattle.pc_rule_cases.specs.Trees.{program, node, name, word}
use Rattle.pc_rule_cases.specs.Compare.{Equal, entry, differs}
use Rattle.pc_rule_cases.specs.Lookups.{HereAt, MissingAt, RequiredAt, query, first_wrong}

-- Row 20: a declaration before the forward heading is not later.
--   program p; procedure q; begin end; procedure q; forward; begin q end.
abbrev tree1 : Plain
tree1 = program (name "p" (node kind.Heads Nil (node kind.Block (node kind.Consts Nil (node kind.Types Nil (node kind.Vars Nil (node kind.Routines (node kind.Procedure (name "q" (node kind.Params Nil (node kind.Block (node kind.Consts Nil (node kind.Types Nil (node kind.Vars Nil (node kind.Routines Nil (node kind.Compound (node kind.Stmts (node kind.Empty Nil Nil) Nil) Nil))))) Nil))) (node kind.Procedure (name "q" (node kind.Params Nil (word kind.Forward "forward" Nil Nil))) Nil)) (node kind.Compound (node kind.Stmts (node kind.Proc (name "q" (node kind.Args Nil Nil)) Nil) Nil) Nil))))) Nil)))

holds1 : differs tree1 (entry (3 ∷ 4 ∷ 2 ∷ []) 20 "forward has no block: q" ∷ entry (3 ∷ 4 ∷ 2 ∷ 1 ∷ []) 3 "declared twice: q" ∷ []) ≡ Equal
unfolding differs
holds1 = refl

-- Row 20: a function without parameters and result type counts as a forward function; its name has row 22 too.
--   program p; function f; forward; begin end.
abbrev tree2 : Plain
tree2 = program (name "p" (node kind.Heads Nil (node kind.Block (node kind.Consts Nil (node kind.Types Nil (node kind.Vars Nil (node kind.Routines (node kind.Funbody (name "f" (word kind.Forward "forward" Nil Nil)) Nil) (node kind.Compound (node kind.Stmts (node kind.Empty Nil Nil) Nil) Nil))))) Nil)))

holds2 : differs tree2 (entry (3 ∷ 4 ∷ 1 ∷ []) 20 "forward has no block: f" ∷ entry (3 ∷ 4 ∷ 1 ∷ 1 ∷ []) 22 "result type not simple: f" ∷ []) ≡ Equal
unfolding differs
holds2 = refl

-- what names mean in it
looked_up2 : first_wrong tree2 (query "f" (3 ∷ 4 ∷ 1 ∷ 1 ∷ []) (HereAt (3 ∷ 4 ∷ 1 ∷ 1 ∷ [])) ∷ query "F" (3 ∷ 5 ∷ []) (HereAt (3 ∷ 4 ∷ 1 ∷ 1 ∷ [])) ∷ query "Integer" (3 ∷ 5 ∷ []) RequiredAt ∷ query "zz" (3 ∷ 5 ∷ []) MissingAt ∷ query "F" (2 ∷ []) MissingAt ∷ []) ≡ 0
unfolding first_wrong
looked_up2 = refl

-- Row 20: no entry where the name is a hole.
--   program p; procedure ?name; forward; begin end.
abbrev tree3 : Plain
tree3 = program (name "p" (node kind.Heads Nil (node kind.Block (node kind.Consts Nil (node kind.Types Nil (node kind.Vars Nil (node kind.Routines (node kind.Procedure (node (kind.Hole sort.Name) Nil (node kind.Params Nil (word kind.Forward "forward" Nil Nil))) Nil) (node kind.Compound (node kind.Stmts (node kind.Empty Nil Nil) Nil) Nil))))) Nil)))

holds3 : differs tree3 ([]) ≡ Equal
unfolding differs
holds3 = refl

-- Row 20: the later declaration must stand in the same block.
--   program p; procedure q; forward; procedure r; procedure q; begin end; begin q end; begin r end.
abbrev tree4 : Plain
tree4 = program (name "p" (node kind.Heads Nil (node kind.Block (node kind.Consts Nil (node kind.Types Nil (node kind.Vars Nil (node kind.Routines (node kind.Procedure (name "q" (node kind.Params Nil (word kind.Forward "forward" Nil Nil))) (node kind.Procedure (name "r" (node kind.Params Nil (node kind.Block (node kind.Consts Nil (node kind.Types Nil (node kind.Vars Nil (node kind.Routines (node kind.Procedure (name "q" (node kind.Params Nil (node kind.Block (node kind.Consts Nil (node kind.Types Nil (node kind.Vars Nil (node kind.Routines Nil (node kind.Compound (node kind.Stmts (node kind.Empty Nil Nil) Nil) Nil))))) Nil))) Nil) (node kind.Compound (node kind.Stmts (node kind.Proc (name "q" (node kind.Args Nil Nil)) Nil) Nil) Nil))))) Nil))) Nil)) (node kind.Compound (node kind.Stmts (node kind.Proc (name "r" (node kind.Args Nil Nil)) Nil) Nil) Nil))))) Nil)))

holds4 : differs tree4 (entry (3 ∷ 4 ∷ 1 ∷ []) 20 "forward has no block: q" ∷ []) ≡ Equal
unfolding differs
holds4 = refl

-- what names mean in it
looked_up4 : first_wrong tree4 (query "q" (3 ∷ 4 ∷ 1 ∷ 1 ∷ []) (HereAt (3 ∷ 4 ∷ 1 ∷ 1 ∷ [])) ∷ query "r" (3 ∷ 4 ∷ 2 ∷ 1 ∷ []) (HereAt (3 ∷ 4 ∷ 2 ∷ 1 ∷ [])) ∷ query "q" (3 ∷ 4 ∷ 2 ∷ 3 ∷ 4 ∷ 1 ∷ 1 ∷ []) (HereAt (3 ∷ 4 ∷ 2 ∷ 3 ∷ 4 ∷ 1 ∷ 1 ∷ [])) ∷ query "q" (3 ∷ 4 ∷ 2 ∷ 3 ∷ 5 ∷ 1 ∷ 1 ∷ 1 ∷ []) (HereAt (3 ∷ 4 ∷ 2 ∷ 3 ∷ 4 ∷ 1 ∷ 1 ∷ [])) ∷ query "r" (3 ∷ 5 ∷ 1 ∷ 1 ∷ 1 ∷ []) (HereAt (3 ∷ 4 ∷ 2 ∷ 1 ∷ [])) ∷ query "Q" (3 ∷ 4 ∷ 2 ∷ 3 ∷ 4 ∷ 1 ∷ 3 ∷ 5 ∷ []) (HereAt (3 ∷ 4 ∷ 2 ∷ 3 ∷ 4 ∷ 1 ∷ 1 ∷ [])) ∷ query "R" (3 ∷ 4 ∷ 2 ∷ 3 ∷ 4 ∷ 1 ∷ 3 ∷ 5 ∷ []) (HereAt (3 ∷ 4 ∷ 2 ∷ 1 ∷ [])) ∷ query "Integer" (3 ∷ 5 ∷ []) RequiredAt ∷ query "zz" (3 ∷ 5 ∷ []) MissingAt ∷ query "Q" (2 ∷ []) MissingAt ∷ []) ≡ 0
unfolding first_wrong
looked_up4 = refl

-- Row 20: a function is no later declaration of a procedure; it is a second name, so q in its body means the procedure.
--   program p; procedure q; forward; function q: integer; begin q := 1 end; begin end.
abbrev tree5 : Plain
tree5 = program (name "p" (node kind.Heads Nil (node kind.Block (node kind.Consts Nil (node kind.Types Nil (node kind.Vars Nil (node kind.Routines (node kind.Procedure (name "q" (node kind.Params Nil (word kind.Forward "forward" Nil Nil))) (node kind.Function (name "q" (node kind.Params Nil (name "integer" (node kind.Block (node kind.Consts Nil (node kind.Types Nil (node kind.Vars Nil (node kind.Routines Nil (node kind.Compound (node kind.Stmts (node kind.Assign (node kind.Ref (name "q" Nil) (word kind.Number "1" Nil Nil)) Nil) Nil) Nil))))) Nil)))) Nil)) (node kind.Compound (node kind.Stmts (node kind.Empty Nil Nil) Nil) Nil))))) Nil)))

holds5 : differs tree5 (entry (3 ∷ 4 ∷ 1 ∷ []) 20 "forward has no block: q" ∷ entry (3 ∷ 4 ∷ 2 ∷ 1 ∷ []) 3 "declared twice: q" ∷ entry (3 ∷ 4 ∷ 2 ∷ 4 ∷ 5 ∷ 1 ∷ 1 ∷ 1 ∷ 1 ∷ []) 4 "not a variable: q" ∷ []) ≡ Equal
unfolding differs
holds5 = refl

-- Row 20: a later declaration whose block is a hole is one.
--   program p; procedure q; forward; procedure q; ?block; begin end.
abbrev tree6 : Plain
tree6 = program (name "p" (node kind.Heads Nil (node kind.Block (node kind.Consts Nil (node kind.Types Nil (node kind.Vars Nil (node kind.Routines (node kind.Procedure (name "q" (node kind.Params Nil (word kind.Forward "forward" Nil Nil))) (node kind.Procedure (name "q" (node kind.Params Nil (node (kind.Hole sort.Block) Nil Nil))) Nil)) (node kind.Compound (node kind.Stmts (node kind.Empty Nil Nil) Nil) Nil))))) Nil)))

holds6 : differs tree6 ([]) ≡ Equal
unfolding differs
holds6 = refl

-- what names mean in it
looked_up6 : first_wrong tree6 (query "q" (3 ∷ 4 ∷ 1 ∷ 1 ∷ []) (HereAt (3 ∷ 4 ∷ 1 ∷ 1 ∷ [])) ∷ query "q" (3 ∷ 4 ∷ 2 ∷ 1 ∷ []) (HereAt (3 ∷ 4 ∷ 1 ∷ 1 ∷ [])) ∷ query "Q" (3 ∷ 5 ∷ []) (HereAt (3 ∷ 4 ∷ 1 ∷ 1 ∷ [])) ∷ query "Integer" (3 ∷ 5 ∷ []) RequiredAt ∷ query "zz" (3 ∷ 5 ∷ []) MissingAt ∷ query "Q" (2 ∷ []) MissingAt ∷ []) ≡ 0
unfolding first_wrong
looked_up6 = refl

-- Row 20, the neighbour: forward headings in an inner block, with their later declarations in it.
--   program p; procedure q; procedure a; forward; function b: char; forward; procedure a; begin write(b) end; function b; begin b := 'b' end; begin a end;
--   begin q end.
abbrev tree7 : Plain
tree7 = program (name "p" (node kind.Heads Nil (node kind.Block (node kind.Consts Nil (node kind.Types Nil (node kind.Vars Nil (node kind.Routines (node kind.Procedure (name "q" (node kind.Params Nil (node kind.Block (node kind.Consts Nil (node kind.Types Nil (node kind.Vars Nil (node kind.Routines (node kind.Procedure (name "a" (node kind.Params Nil (word kind.Forward "forward" Nil Nil))) (node kind.Function (name "b" (node kind.Params Nil (name "char" (word kind.Forward "forward" Nil Nil)))) (node kind.Procedure (name "a" (node kind.Params Nil (node kind.Block (node kind.Consts Nil (node kind.Types Nil (node kind.Vars Nil (node kind.Routines Nil (node kind.Compound (node kind.Stmts (node kind.Proc (name "write" (node kind.Args (node kind.Ref (name "b" Nil) Nil) Nil)) Nil) Nil) Nil))))) Nil))) (node kind.Funbody (name "b" (node kind.Block (node kind.Consts Nil (node kind.Types Nil (node kind.Vars Nil (node kind.Routines Nil (node kind.Compound (node kind.Stmts (node kind.Assign (node kind.Ref (name "b" Nil) (word kind.Text "'b'" Nil Nil)) Nil) Nil) Nil))))) Nil)) Nil)))) (node kind.Compound (node kind.Stmts (node kind.Proc (name "a" (node kind.Args Nil Nil)) Nil) Nil) Nil))))) Nil))) Nil) (node kind.Compound (node kind.Stmts (node kind.Proc (name "q" (node kind.Args Nil Nil)) Nil) Nil) Nil))))) Nil)))

holds7 : differs tree7 ([]) ≡ Equal
unfolding differs
holds7 = refl

-- Row 20: a forward routine without a later declaration, at its node.
--   program p; procedure q; forward; function f: integer; forward; begin q end.
abbrev tree8 : Plain
tree8 = program (name "p" (node kind.Heads Nil (node kind.Block (node kind.Consts Nil (node kind.Types Nil (node kind.Vars Nil (node kind.Routines (node kind.Procedure (name "q" (node kind.Params Nil (word kind.Forward "forward" Nil Nil))) (node kind.Function (name "f" (node kind.Params Nil (name "integer" (word kind.Forward "forward" Nil Nil)))) Nil)) (node kind.Compound (node kind.Stmts (node kind.Proc (name "q" (node kind.Args Nil Nil)) Nil) Nil) Nil))))) Nil)))

holds8 : differs tree8 (entry (3 ∷ 4 ∷ 1 ∷ []) 20 "forward has no block: q" ∷ entry (3 ∷ 4 ∷ 2 ∷ []) 20 "forward has no block: f" ∷ []) ≡ Equal
unfolding differs
holds8 = refl

-- Row 20: two forward headings of one later declaration; the second is a second name.
--   program p; procedure q; forward; procedure q; forward; procedure q; begin end; begin q end.
abbrev tree9 : Plain
tree9 = program (name "p" (node kind.Heads Nil (node kind.Block (node kind.Consts Nil (node kind.Types Nil (node kind.Vars Nil (node kind.Routines (node kind.Procedure (name "q" (node kind.Params Nil (word kind.Forward "forward" Nil Nil))) (node kind.Procedure (name "q" (node kind.Params Nil (word kind.Forward "forward" Nil Nil))) (node kind.Procedure (name "q" (node kind.Params Nil (node kind.Block (node kind.Consts Nil (node kind.Types Nil (node kind.Vars Nil (node kind.Routines Nil (node kind.Compound (node kind.Stmts (node kind.Empty Nil Nil) Nil) Nil))))) Nil))) Nil))) (node kind.Compound (node kind.Stmts (node kind.Proc (name "q" (node kind.Args Nil Nil)) Nil) Nil) Nil))))) Nil)))

holds9 : differs tree9 (entry (3 ∷ 4 ∷ 2 ∷ 1 ∷ []) 3 "declared twice: q" ∷ []) ≡ Equal
unfolding differs
holds9 = refl
