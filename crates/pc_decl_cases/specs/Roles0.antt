-- Programs with the view `expr` at places where an expression is wanted as a variable, as a target or for its value.
use Rattle.std.specs.Prelude.{◌≡◌, [], ◌∷◌, codes}
use Rattle.std.proofs.Common.{refl}
use Rattle.std.specs.Fmt.{digits}
use Rattle.pc_syntax.specs.Plain.{Nil, Cons, Plain, kids_of}
use Rattle.pc_syntax.specs.declared.kind.Kind.TheVariants as kind
use Rattle.pc_types.specs.Sameness.{same}
use Rattle.pc_types.specs.TypeClasses.{largest_number}
use Rattle.pc_types.specs.Compatibility.{compatible, assignable}
use Rattle.pc_types.specs.Sizes.{cell_limit, is_too_large}
use Rattle.pc_types.specs.Domains.{reached}
use Rattle.pc_scope.specs.Lookup.{declaration_in, declaration, lookup}
use Rattle.pc_rules.specs.Meanings.{find}
use Rattle.pc_rules.specs.Decorated.{rule, decorate}
use Rattle.pc_rules.specs.OwnBlock.{own}
use Rattle.pc_rules.specs.RoutineList.{routines_in, routines_of}
use Rattle.pc_rules.specs.Outsides.{outside_of}
use Rattle.pc_rules.specs.Errors.{own_entries, errors_of}
use Rattle.pc_rules.specs.Routines.{heading_marks}
use Rattle.pc_decl.specs.Annotated.{annotated}
use Rattle.pc_decl.specs.Found.{routine_around, attributes_at}
use Rattle.pc_decl.specs.Roles.{expression_type}
use Rattle.pc_decl.specs.Uses.{opened_at}
use Rattle.pc_decl.specs.Records.{field_of}
use Rattle.pc_decl.specs.Meant.{meant_in, meant}
use Rattle.pc_decl.specs.Declared.{routines_with_key, meaning_in}
use Rattle.pc_decl.specs.TypeAt.{shape_at, type_in, type_at}
use Rattle.pc_decl.specs.Shown.{path_text, key_text}
use Rattle.pc_decl.specs.ErrorsText.{errors_text}
use Rattle.pc_decl.specs.DeclsText.{decls_text}
use Rattle.pc_decl.specs.UsesText.{uses_text}
use Rattle.pc_decl.specs.ExprText.{expr_text}
use Rattle.pc_decl_cases.specs.Agreement.{disagreement, Agrees}

-- a constant and a function are no variables: as an argument of read, of new and of a var parameter, before a bracket and before an arrow
abbrev pub tree-roles-0 : Plain
tree-roles-0 = record { kind = kind.Program; word = []; notes = []; kids = (Cons kind.Name (codes "p") [] Nil (Cons kind.Heads [] [] Nil (Cons kind.Block [] [] (Cons kind.Consts [] [] (Cons kind.Constdef [] [] (Cons kind.Name (codes "k") [] Nil (Cons kind.Cstring (codes "'ab'") [] Nil Nil)) Nil) (Cons kind.Types [] [] (Cons kind.Typedef [] [] (Cons kind.Name (codes "l") [] Nil (Cons kind.Pointer [] [] (Cons kind.Name (codes "m") [] Nil Nil) Nil)) (Cons kind.Typedef [] [] (Cons kind.Name (codes "m") [] Nil (Cons kind.Record [] [] (Cons kind.Fields [] [] (Cons kind.Field [] [] (Cons kind.Names [] [] (Cons kind.Name (codes "a") [] Nil Nil) (Cons kind.Tname [] [] (Cons kind.Name (codes "char") [] Nil Nil) Nil)) Nil) Nil) Nil)) Nil)) (Cons kind.Vars [] [] (Cons kind.Vardef [] [] (Cons kind.Names [] [] (Cons kind.Name (codes "i") [] Nil Nil) (Cons kind.Tname [] [] (Cons kind.Name (codes "integer") [] Nil Nil) Nil)) (Cons kind.Vardef [] [] (Cons kind.Names [] [] (Cons kind.Name (codes "x") [] Nil Nil) (Cons kind.Tname [] [] (Cons kind.Name (codes "m") [] Nil Nil) Nil)) (Cons kind.Vardef [] [] (Cons kind.Names [] [] (Cons kind.Name (codes "n") [] Nil Nil) (Cons kind.Tname [] [] (Cons kind.Name (codes "l") [] Nil Nil) Nil)) Nil))) (Cons kind.Routines [] [] (Cons kind.Function [] [] (Cons kind.Name (codes "f") [] Nil (Cons kind.Params [] [] Nil (Cons kind.Name (codes "l") [] Nil (Cons kind.Block [] [] (Cons kind.Consts [] [] Nil (Cons kind.Types [] [] Nil (Cons kind.Vars [] [] Nil (Cons kind.Routines [] [] Nil (Cons kind.Compound [] [] (Cons kind.Stmts [] [] (Cons kind.Assign [] [] (Cons kind.Ref [] [] (Cons kind.Name (codes "f") [] Nil Nil) (Cons kind.Nil [] [] Nil Nil)) Nil) Nil) Nil))))) Nil)))) (Cons kind.Function [] [] (Cons kind.Name (codes "g") [] Nil (Cons kind.Params [] [] (Cons kind.Varparam [] [] (Cons kind.Names [] [] (Cons kind.Name (codes "j") [] Nil Nil) (Cons kind.Name (codes "integer") [] Nil Nil)) (Cons kind.Valparam [] [] (Cons kind.Names [] [] (Cons kind.Name (codes "h") [] Nil Nil) (Cons kind.Name (codes "integer") [] Nil Nil)) Nil)) (Cons kind.Name (codes "char") [] Nil (Cons kind.Block [] [] (Cons kind.Consts [] [] Nil (Cons kind.Types [] [] Nil (Cons kind.Vars [] [] Nil (Cons kind.Routines [] [] Nil (Cons kind.Compound [] [] (Cons kind.Stmts [] [] (Cons kind.Assign [] [] (Cons kind.Ref [] [] (Cons kind.Name (codes "g") [] Nil Nil) (Cons kind.Text (codes "'x'") [] Nil Nil)) Nil) Nil) Nil))))) Nil)))) (Cons kind.Procedure [] [] (Cons kind.Name (codes "q") [] Nil (Cons kind.Params [] [] (Cons kind.Varparam [] [] (Cons kind.Names [] [] (Cons kind.Name (codes "j") [] Nil Nil) (Cons kind.Name (codes "integer") [] Nil Nil)) (Cons kind.Valparam [] [] (Cons kind.Names [] [] (Cons kind.Name (codes "h") [] Nil Nil) (Cons kind.Name (codes "integer") [] Nil Nil)) Nil)) (Cons kind.Block [] [] (Cons kind.Consts [] [] Nil (Cons kind.Types [] [] Nil (Cons kind.Vars [] [] Nil (Cons kind.Routines [] [] Nil (Cons kind.Compound [] [] (Cons kind.Stmts [] [] (Cons kind.Empty [] [] Nil Nil) Nil) Nil))))) Nil))) Nil))) (Cons kind.Compound [] [] (Cons kind.Stmts [] [] (Cons kind.Proc [] [] (Cons kind.Name (codes "read") [] Nil (Cons kind.Args [] [] (Cons kind.Ref [] [] (Cons kind.Name (codes "k") [] Nil Nil) Nil) Nil)) (Cons kind.Proc [] [] (Cons kind.Name (codes "new") [] Nil (Cons kind.Args [] [] (Cons kind.Ref [] [] (Cons kind.Name (codes "f") [] Nil Nil) Nil) Nil)) (Cons kind.Proc [] [] (Cons kind.Name (codes "q") [] Nil (Cons kind.Args [] [] (Cons kind.Ref [] [] (Cons kind.Name (codes "k") [] Nil Nil) (Cons kind.Ref [] [] (Cons kind.Name (codes "i") [] Nil Nil) Nil)) Nil)) (Cons kind.Assign [] [] (Cons kind.Index [] [] (Cons kind.Ref [] [] (Cons kind.Name (codes "k") [] Nil Nil) (Cons kind.Exprs [] [] (Cons kind.Number (codes "1") [] Nil Nil) Nil)) (Cons kind.Text (codes "'x'") [] Nil Nil)) (Cons kind.Assign [] [] (Cons kind.Select [] [] (Cons kind.Deref [] [] (Cons kind.Ref [] [] (Cons kind.Name (codes "f") [] Nil Nil) Nil) (Cons kind.Name (codes "a") [] Nil Nil)) (Cons kind.Text (codes "'x'") [] Nil Nil)) (Cons kind.With [] [] (Cons kind.Accesses [] [] (Cons kind.Ref [] [] (Cons kind.Name (codes "f") [] Nil Nil) Nil) (Cons kind.Empty [] [] Nil Nil)) Nil)))))) Nil) Nil))))) Nil))) }

pub agreement-roles-0 : disagreement tree-roles-0 ≡ Agrees
unfolding kids_of digits same largest_number compatible assignable cell_limit is_too_large reached declaration_in declaration lookup find rule decorate own routines_in routines_of outside_of own_entries errors_of heading_marks annotated routine_around attributes_at expression_type opened_at field_of meant_in meant routines_with_key meaning_in shape_at type_in type_at path_text key_text errors_text decls_text uses_text expr_text disagreement
agreement-roles-0 = refl

pub roles-0-0 : expr_text tree-roles-0 (3 ∷ 5 ∷ 1 ∷ 1 ∷ 2 ∷ 1 ∷ []) ≡ (codes "ref k ?\n")
unfolding kids_of digits same largest_number compatible assignable cell_limit is_too_large reached declaration_in declaration lookup find rule decorate own routines_in routines_of outside_of own_entries errors_of heading_marks annotated routine_around attributes_at expression_type opened_at field_of meant_in meant routines_with_key meaning_in shape_at type_in type_at path_text key_text errors_text decls_text uses_text expr_text disagreement
roles-0-0 = refl

pub roles-0-1 : expr_text tree-roles-0 (3 ∷ 5 ∷ 1 ∷ 2 ∷ 2 ∷ 1 ∷ []) ≡ (codes "ref f ?\n")
unfolding kids_of digits same largest_number compatible assignable cell_limit is_too_large reached declaration_in declaration lookup find rule decorate own routines_in routines_of outside_of own_entries errors_of heading_marks annotated routine_around attributes_at expression_type opened_at field_of meant_in meant routines_with_key meaning_in shape_at type_in type_at path_text key_text errors_text decls_text uses_text expr_text disagreement
roles-0-1 = refl

pub roles-0-2 : expr_text tree-roles-0 (3 ∷ 5 ∷ 1 ∷ 3 ∷ 2 ∷ 1 ∷ []) ≡ (codes "ref k ?\n")
unfolding kids_of digits same largest_number compatible assignable cell_limit is_too_large reached declaration_in declaration lookup find rule decorate own routines_in routines_of outside_of own_entries errors_of heading_marks annotated routine_around attributes_at expression_type opened_at field_of meant_in meant routines_with_key meaning_in shape_at type_in type_at path_text key_text errors_text decls_text uses_text expr_text disagreement
roles-0-2 = refl

pub roles-0-3 : expr_text tree-roles-0 (3 ∷ 5 ∷ 1 ∷ 4 ∷ 1 ∷ []) ≡ (codes "index ?\n  ref k ?\n  number 1 integer\n")
unfolding kids_of digits same largest_number compatible assignable cell_limit is_too_large reached declaration_in declaration lookup find rule decorate own routines_in routines_of outside_of own_entries errors_of heading_marks annotated routine_around attributes_at expression_type opened_at field_of meant_in meant routines_with_key meaning_in shape_at type_in type_at path_text key_text errors_text decls_text uses_text expr_text disagreement
roles-0-3 = refl

pub roles-0-4 : expr_text tree-roles-0 (3 ∷ 5 ∷ 1 ∷ 5 ∷ 1 ∷ []) ≡ (codes "select a ?\n  deref ?\n    ref f ?\n")
unfolding kids_of digits same largest_number compatible assignable cell_limit is_too_large reached declaration_in declaration lookup find rule decorate own routines_in routines_of outside_of own_entries errors_of heading_marks annotated routine_around attributes_at expression_type opened_at field_of meant_in meant routines_with_key meaning_in shape_at type_in type_at path_text key_text errors_text decls_text uses_text expr_text disagreement
roles-0-4 = refl

pub roles-0-5 : expr_text tree-roles-0 (3 ∷ 5 ∷ 1 ∷ 6 ∷ 1 ∷ 1 ∷ []) ≡ (codes "ref f ?\n")
unfolding kids_of digits same largest_number compatible assignable cell_limit is_too_large reached declaration_in declaration lookup find rule decorate own routines_in routines_of outside_of own_entries errors_of heading_marks annotated routine_around attributes_at expression_type opened_at field_of meant_in meant routines_with_key meaning_in shape_at type_in type_at path_text key_text errors_text decls_text uses_text expr_text disagreement
roles-0-5 = refl

-- they are values: as an argument of write, of dispose, of a value parameter, and in an index
abbrev pub tree-roles-1 : Plain
tree-roles-1 = record { kind = kind.Program; word = []; notes = []; kids = (Cons kind.Name (codes "p") [] Nil (Cons kind.Heads [] [] Nil (Cons kind.Block [] [] (Cons kind.Consts [] [] (Cons kind.Constdef [] [] (Cons kind.Name (codes "k") [] Nil (Cons kind.Cstring (codes "'ab'") [] Nil Nil)) Nil) (Cons kind.Types [] [] (Cons kind.Typedef [] [] (Cons kind.Name (codes "l") [] Nil (Cons kind.Pointer [] [] (Cons kind.Name (codes "m") [] Nil Nil) Nil)) (Cons kind.Typedef [] [] (Cons kind.Name (codes "m") [] Nil (Cons kind.Record [] [] (Cons kind.Fields [] [] (Cons kind.Field [] [] (Cons kind.Names [] [] (Cons kind.Name (codes "a") [] Nil Nil) (Cons kind.Tname [] [] (Cons kind.Name (codes "char") [] Nil Nil) Nil)) Nil) Nil) Nil)) Nil)) (Cons kind.Vars [] [] (Cons kind.Vardef [] [] (Cons kind.Names [] [] (Cons kind.Name (codes "i") [] Nil Nil) (Cons kind.Tname [] [] (Cons kind.Name (codes "integer") [] Nil Nil) Nil)) (Cons kind.Vardef [] [] (Cons kind.Names [] [] (Cons kind.Name (codes "x") [] Nil Nil) (Cons kind.Tname [] [] (Cons kind.Name (codes "m") [] Nil Nil) Nil)) (Cons kind.Vardef [] [] (Cons kind.Names [] [] (Cons kind.Name (codes "n") [] Nil Nil) (Cons kind.Tname [] [] (Cons kind.Name (codes "l") [] Nil Nil) Nil)) Nil))) (Cons kind.Routines [] [] (Cons kind.Function [] [] (Cons kind.Name (codes "f") [] Nil (Cons kind.Params [] [] Nil (Cons kind.Name (codes "l") [] Nil (Cons kind.Block [] [] (Cons kind.Consts [] [] Nil (Cons kind.Types [] [] Nil (Cons kind.Vars [] [] Nil (Cons kind.Routines [] [] Nil (Cons kind.Compound [] [] (Cons kind.Stmts [] [] (Cons kind.Assign [] [] (Cons kind.Ref [] [] (Cons kind.Name (codes "f") [] Nil Nil) (Cons kind.Nil [] [] Nil Nil)) Nil) Nil) Nil))))) Nil)))) (Cons kind.Function [] [] (Cons kind.Name (codes "g") [] Nil (Cons kind.Params [] [] (Cons kind.Varparam [] [] (Cons kind.Names [] [] (Cons kind.Name (codes "j") [] Nil Nil) (Cons kind.Name (codes "integer") [] Nil Nil)) (Cons kind.Valparam [] [] (Cons kind.Names [] [] (Cons kind.Name (codes "h") [] Nil Nil) (Cons kind.Name (codes "integer") [] Nil Nil)) Nil)) (Cons kind.Name (codes "char") [] Nil (Cons kind.Block [] [] (Cons kind.Consts [] [] Nil (Cons kind.Types [] [] Nil (Cons kind.Vars [] [] Nil (Cons kind.Routines [] [] Nil (Cons kind.Compound [] [] (Cons kind.Stmts [] [] (Cons kind.Assign [] [] (Cons kind.Ref [] [] (Cons kind.Name (codes "g") [] Nil Nil) (Cons kind.Text (codes "'x'") [] Nil Nil)) Nil) Nil) Nil))))) Nil)))) (Cons kind.Procedure [] [] (Cons kind.Name (codes "q") [] Nil (Cons kind.Params [] [] (Cons kind.Varparam [] [] (Cons kind.Names [] [] (Cons kind.Name (codes "j") [] Nil Nil) (Cons kind.Name (codes "integer") [] Nil Nil)) (Cons kind.Valparam [] [] (Cons kind.Names [] [] (Cons kind.Name (codes "h") [] Nil Nil) (Cons kind.Name (codes "integer") [] Nil Nil)) Nil)) (Cons kind.Block [] [] (Cons kind.Consts [] [] Nil (Cons kind.Types [] [] Nil (Cons kind.Vars [] [] Nil (Cons kind.Routines [] [] Nil (Cons kind.Compound [] [] (Cons kind.Stmts [] [] (Cons kind.Empty [] [] Nil Nil) Nil) Nil))))) Nil))) Nil))) (Cons kind.Compound [] [] (Cons kind.Stmts [] [] (Cons kind.Proc [] [] (Cons kind.Name (codes "write") [] Nil (Cons kind.Args [] [] (Cons kind.Ref [] [] (Cons kind.Name (codes "k") [] Nil Nil) Nil) Nil)) (Cons kind.Proc [] [] (Cons kind.Name (codes "dispose") [] Nil (Cons kind.Args [] [] (Cons kind.Ref [] [] (Cons kind.Name (codes "f") [] Nil Nil) Nil) Nil)) (Cons kind.Proc [] [] (Cons kind.Name (codes "q") [] Nil (Cons kind.Args [] [] (Cons kind.Ref [] [] (Cons kind.Name (codes "i") [] Nil Nil) (Cons kind.Ref [] [] (Cons kind.Name (codes "maxint") [] Nil Nil) Nil)) Nil)) (Cons kind.Assign [] [] (Cons kind.Ref [] [] (Cons kind.Name (codes "n") [] Nil Nil) (Cons kind.Ref [] [] (Cons kind.Name (codes "f") [] Nil Nil) Nil)) (Cons kind.Assign [] [] (Cons kind.Select [] [] (Cons kind.Ref [] [] (Cons kind.Name (codes "x") [] Nil Nil) (Cons kind.Name (codes "a") [] Nil Nil)) (Cons kind.Call [] [] (Cons kind.Name (codes "g") [] Nil (Cons kind.Exprs [] [] (Cons kind.Ref [] [] (Cons kind.Name (codes "i") [] Nil Nil) (Cons kind.Ref [] [] (Cons kind.Name (codes "k") [] Nil Nil) Nil)) Nil)) Nil)) Nil))))) Nil) Nil))))) Nil))) }

pub agreement-roles-1 : disagreement tree-roles-1 ≡ Agrees
unfolding kids_of digits same largest_number compatible assignable cell_limit is_too_large reached declaration_in declaration lookup find rule decorate own routines_in routines_of outside_of own_entries errors_of heading_marks annotated routine_around attributes_at expression_type opened_at field_of meant_in meant routines_with_key meaning_in shape_at type_in type_at path_text key_text errors_text decls_text uses_text expr_text disagreement
agreement-roles-1 = refl

pub roles-1-0 : expr_text tree-roles-1 (3 ∷ 5 ∷ 1 ∷ 1 ∷ 2 ∷ 1 ∷ []) ≡ (codes "ref k packed array [1..2] of char\n")
unfolding kids_of digits same largest_number compatible assignable cell_limit is_too_large reached declaration_in declaration lookup find rule decorate own routines_in routines_of outside_of own_entries errors_of heading_marks annotated routine_around attributes_at expression_type opened_at field_of meant_in meant routines_with_key meaning_in shape_at type_in type_at path_text key_text errors_text decls_text uses_text expr_text disagreement
roles-1-0 = refl

pub roles-1-1 : expr_text tree-roles-1 (3 ∷ 5 ∷ 1 ∷ 2 ∷ 2 ∷ 1 ∷ []) ≡ (codes "ref f ^m\n")
unfolding kids_of digits same largest_number compatible assignable cell_limit is_too_large reached declaration_in declaration lookup find rule decorate own routines_in routines_of outside_of own_entries errors_of heading_marks annotated routine_around attributes_at expression_type opened_at field_of meant_in meant routines_with_key meaning_in shape_at type_in type_at path_text key_text errors_text decls_text uses_text expr_text disagreement
roles-1-1 = refl

pub roles-1-2 : expr_text tree-roles-1 (3 ∷ 5 ∷ 1 ∷ 3 ∷ 2 ∷ 2 ∷ []) ≡ (codes "ref maxint integer\n")
unfolding kids_of digits same largest_number compatible assignable cell_limit is_too_large reached declaration_in declaration lookup find rule decorate own routines_in routines_of outside_of own_entries errors_of heading_marks annotated routine_around attributes_at expression_type opened_at field_of meant_in meant routines_with_key meaning_in shape_at type_in type_at path_text key_text errors_text decls_text uses_text expr_text disagreement
roles-1-2 = refl

pub roles-1-3 : expr_text tree-roles-1 (3 ∷ 5 ∷ 1 ∷ 4 ∷ 2 ∷ []) ≡ (codes "ref f ^m\n")
unfolding kids_of digits same largest_number compatible assignable cell_limit is_too_large reached declaration_in declaration lookup find rule decorate own routines_in routines_of outside_of own_entries errors_of heading_marks annotated routine_around attributes_at expression_type opened_at field_of meant_in meant routines_with_key meaning_in shape_at type_in type_at path_text key_text errors_text decls_text uses_text expr_text disagreement
roles-1-3 = refl

pub roles-1-4 : expr_text tree-roles-1 (3 ∷ 5 ∷ 1 ∷ 5 ∷ 2 ∷ []) ≡ (codes "call g ?\n  ref i integer\n  ref k packed array [1..2] of char\n")
unfolding kids_of digits same largest_number compatible assignable cell_limit is_too_large reached declaration_in declaration lookup find rule decorate own routines_in routines_of outside_of own_entries errors_of heading_marks annotated routine_around attributes_at expression_type opened_at field_of meant_in meant routines_with_key meaning_in shape_at type_in type_at path_text key_text errors_text decls_text uses_text expr_text disagreement
roles-1-4 = refl

-- the target of an assignment: a function's name outside of its own block, and a constant, have no type
abbrev pub tree-roles-2 : Plain
tree-roles-2 = record { kind = kind.Program; word = []; notes = []; kids = (Cons kind.Name (codes "p") [] Nil (Cons kind.Heads [] [] Nil (Cons kind.Block [] [] (Cons kind.Consts [] [] (Cons kind.Constdef [] [] (Cons kind.Name (codes "k") [] Nil (Cons kind.Cstring (codes "'ab'") [] Nil Nil)) Nil) (Cons kind.Types [] [] (Cons kind.Typedef [] [] (Cons kind.Name (codes "l") [] Nil (Cons kind.Pointer [] [] (Cons kind.Name (codes "m") [] Nil Nil) Nil)) (Cons kind.Typedef [] [] (Cons kind.Name (codes "m") [] Nil (Cons kind.Record [] [] (Cons kind.Fields [] [] (Cons kind.Field [] [] (Cons kind.Names [] [] (Cons kind.Name (codes "a") [] Nil Nil) (Cons kind.Tname [] [] (Cons kind.Name (codes "char") [] Nil Nil) Nil)) Nil) Nil) Nil)) Nil)) (Cons kind.Vars [] [] (Cons kind.Vardef [] [] (Cons kind.Names [] [] (Cons kind.Name (codes "i") [] Nil Nil) (Cons kind.Tname [] [] (Cons kind.Name (codes "integer") [] Nil Nil) Nil)) (Cons kind.Vardef [] [] (Cons kind.Names [] [] (Cons kind.Name (codes "x") [] Nil Nil) (Cons kind.Tname [] [] (Cons kind.Name (codes "m") [] Nil Nil) Nil)) (Cons kind.Vardef [] [] (Cons kind.Names [] [] (Cons kind.Name (codes "n") [] Nil Nil) (Cons kind.Tname [] [] (Cons kind.Name (codes "l") [] Nil Nil) Nil)) Nil))) (Cons kind.Routines [] [] (Cons kind.Function [] [] (Cons kind.Name (codes "f") [] Nil (Cons kind.Params [] [] Nil (Cons kind.Name (codes "l") [] Nil (Cons kind.Block [] [] (Cons kind.Consts [] [] Nil (Cons kind.Types [] [] Nil (Cons kind.Vars [] [] Nil (Cons kind.Routines [] [] Nil (Cons kind.Compound [] [] (Cons kind.Stmts [] [] (Cons kind.Assign [] [] (Cons kind.Ref [] [] (Cons kind.Name (codes "f") [] Nil Nil) (Cons kind.Nil [] [] Nil Nil)) Nil) Nil) Nil))))) Nil)))) (Cons kind.Function [] [] (Cons kind.Name (codes "g") [] Nil (Cons kind.Params [] [] (Cons kind.Varparam [] [] (Cons kind.Names [] [] (Cons kind.Name (codes "j") [] Nil Nil) (Cons kind.Name (codes "integer") [] Nil Nil)) (Cons kind.Valparam [] [] (Cons kind.Names [] [] (Cons kind.Name (codes "h") [] Nil Nil) (Cons kind.Name (codes "integer") [] Nil Nil)) Nil)) (Cons kind.Name (codes "char") [] Nil (Cons kind.Block [] [] (Cons kind.Consts [] [] Nil (Cons kind.Types [] [] Nil (Cons kind.Vars [] [] Nil (Cons kind.Routines [] [] Nil (Cons kind.Compound [] [] (Cons kind.Stmts [] [] (Cons kind.Assign [] [] (Cons kind.Ref [] [] (Cons kind.Name (codes "g") [] Nil Nil) (Cons kind.Text (codes "'x'") [] Nil Nil)) Nil) Nil) Nil))))) Nil)))) (Cons kind.Procedure [] [] (Cons kind.Name (codes "q") [] Nil (Cons kind.Params [] [] (Cons kind.Varparam [] [] (Cons kind.Names [] [] (Cons kind.Name (codes "j") [] Nil Nil) (Cons kind.Name (codes "integer") [] Nil Nil)) (Cons kind.Valparam [] [] (Cons kind.Names [] [] (Cons kind.Name (codes "h") [] Nil Nil) (Cons kind.Name (codes "integer") [] Nil Nil)) Nil)) (Cons kind.Block [] [] (Cons kind.Consts [] [] Nil (Cons kind.Types [] [] Nil (Cons kind.Vars [] [] Nil (Cons kind.Routines [] [] Nil (Cons kind.Compound [] [] (Cons kind.Stmts [] [] (Cons kind.Empty [] [] Nil Nil) Nil) Nil))))) Nil))) Nil))) (Cons kind.Compound [] [] (Cons kind.Stmts [] [] (Cons kind.Assign [] [] (Cons kind.Ref [] [] (Cons kind.Name (codes "f") [] Nil Nil) (Cons kind.Ref [] [] (Cons kind.Name (codes "n") [] Nil Nil) Nil)) (Cons kind.Assign [] [] (Cons kind.Ref [] [] (Cons kind.Name (codes "k") [] Nil Nil) (Cons kind.Text (codes "'ab'") [] Nil Nil)) (Cons kind.Assign [] [] (Cons kind.Ref [] [] (Cons kind.Name (codes "x") [] Nil Nil) (Cons kind.Ref [] [] (Cons kind.Name (codes "x") [] Nil Nil) Nil)) Nil))) Nil) Nil))))) Nil))) }

pub agreement-roles-2 : disagreement tree-roles-2 ≡ Agrees
unfolding kids_of digits same largest_number compatible assignable cell_limit is_too_large reached declaration_in declaration lookup find rule decorate own routines_in routines_of outside_of own_entries errors_of heading_marks annotated routine_around attributes_at expression_type opened_at field_of meant_in meant routines_with_key meaning_in shape_at type_in type_at path_text key_text errors_text decls_text uses_text expr_text disagreement
agreement-roles-2 = refl

pub roles-2-0 : expr_text tree-roles-2 (3 ∷ 5 ∷ 1 ∷ 1 ∷ 1 ∷ []) ≡ (codes "ref f ?\n")
unfolding kids_of digits same largest_number compatible assignable cell_limit is_too_large reached declaration_in declaration lookup find rule decorate own routines_in routines_of outside_of own_entries errors_of heading_marks annotated routine_around attributes_at expression_type opened_at field_of meant_in meant routines_with_key meaning_in shape_at type_in type_at path_text key_text errors_text decls_text uses_text expr_text disagreement
roles-2-0 = refl

pub roles-2-1 : expr_text tree-roles-2 (3 ∷ 5 ∷ 1 ∷ 2 ∷ 1 ∷ []) ≡ (codes "ref k ?\n")
unfolding kids_of digits same largest_number compatible assignable cell_limit is_too_large reached declaration_in declaration lookup find rule decorate own routines_in routines_of outside_of own_entries errors_of heading_marks annotated routine_around attributes_at expression_type opened_at field_of meant_in meant routines_with_key meaning_in shape_at type_in type_at path_text key_text errors_text decls_text uses_text expr_text disagreement
roles-2-1 = refl

pub roles-2-2 : expr_text tree-roles-2 (3 ∷ 5 ∷ 1 ∷ 3 ∷ 1 ∷ []) ≡ (codes "ref x record a: char end\n")
unfolding kids_of digits same largest_number compatible assignable cell_limit is_too_large reached declaration_in declaration lookup find rule decorate own routines_in routines_of outside_of own_entries errors_of heading_marks annotated routine_around attributes_at expression_type opened_at field_of meant_in meant routines_with_key meaning_in shape_at type_in type_at path_text key_text errors_text decls_text uses_text expr_text disagreement
roles-2-2 = refl

-- a function whose name is called as a procedure, and a procedure as a function, have no parameters: their arguments are values
abbrev pub tree-roles-3 : Plain
tree-roles-3 = record { kind = kind.Program; word = []; notes = []; kids = (Cons kind.Name (codes "p") [] Nil (Cons kind.Heads [] [] Nil (Cons kind.Block [] [] (Cons kind.Consts [] [] (Cons kind.Constdef [] [] (Cons kind.Name (codes "k") [] Nil (Cons kind.Cstring (codes "'ab'") [] Nil Nil)) Nil) (Cons kind.Types [] [] (Cons kind.Typedef [] [] (Cons kind.Name (codes "l") [] Nil (Cons kind.Pointer [] [] (Cons kind.Name (codes "m") [] Nil Nil) Nil)) (Cons kind.Typedef [] [] (Cons kind.Name (codes "m") [] Nil (Cons kind.Record [] [] (Cons kind.Fields [] [] (Cons kind.Field [] [] (Cons kind.Names [] [] (Cons kind.Name (codes "a") [] Nil Nil) (Cons kind.Tname [] [] (Cons kind.Name (codes "char") [] Nil Nil) Nil)) Nil) Nil) Nil)) Nil)) (Cons kind.Vars [] [] (Cons kind.Vardef [] [] (Cons kind.Names [] [] (Cons kind.Name (codes "i") [] Nil Nil) (Cons kind.Tname [] [] (Cons kind.Name (codes "integer") [] Nil Nil) Nil)) (Cons kind.Vardef [] [] (Cons kind.Names [] [] (Cons kind.Name (codes "x") [] Nil Nil) (Cons kind.Tname [] [] (Cons kind.Name (codes "m") [] Nil Nil) Nil)) (Cons kind.Vardef [] [] (Cons kind.Names [] [] (Cons kind.Name (codes "n") [] Nil Nil) (Cons kind.Tname [] [] (Cons kind.Name (codes "l") [] Nil Nil) Nil)) Nil))) (Cons kind.Routines [] [] (Cons kind.Function [] [] (Cons kind.Name (codes "f") [] Nil (Cons kind.Params [] [] Nil (Cons kind.Name (codes "l") [] Nil (Cons kind.Block [] [] (Cons kind.Consts [] [] Nil (Cons kind.Types [] [] Nil (Cons kind.Vars [] [] Nil (Cons kind.Routines [] [] Nil (Cons kind.Compound [] [] (Cons kind.Stmts [] [] (Cons kind.Assign [] [] (Cons kind.Ref [] [] (Cons kind.Name (codes "f") [] Nil Nil) (Cons kind.Nil [] [] Nil Nil)) Nil) Nil) Nil))))) Nil)))) (Cons kind.Function [] [] (Cons kind.Name (codes "g") [] Nil (Cons kind.Params [] [] (Cons kind.Varparam [] [] (Cons kind.Names [] [] (Cons kind.Name (codes "j") [] Nil Nil) (Cons kind.Name (codes "integer") [] Nil Nil)) (Cons kind.Valparam [] [] (Cons kind.Names [] [] (Cons kind.Name (codes "h") [] Nil Nil) (Cons kind.Name (codes "integer") [] Nil Nil)) Nil)) (Cons kind.Name (codes "char") [] Nil (Cons kind.Block [] [] (Cons kind.Consts [] [] Nil (Cons kind.Types [] [] Nil (Cons kind.Vars [] [] Nil (Cons kind.Routines [] [] Nil (Cons kind.Compound [] [] (Cons kind.Stmts [] [] (Cons kind.Assign [] [] (Cons kind.Ref [] [] (Cons kind.Name (codes "g") [] Nil Nil) (Cons kind.Text (codes "'x'") [] Nil Nil)) Nil) Nil) Nil))))) Nil)))) (Cons kind.Procedure [] [] (Cons kind.Name (codes "q") [] Nil (Cons kind.Params [] [] (Cons kind.Varparam [] [] (Cons kind.Names [] [] (Cons kind.Name (codes "j") [] Nil Nil) (Cons kind.Name (codes "integer") [] Nil Nil)) (Cons kind.Valparam [] [] (Cons kind.Names [] [] (Cons kind.Name (codes "h") [] Nil Nil) (Cons kind.Name (codes "integer") [] Nil Nil)) Nil)) (Cons kind.Block [] [] (Cons kind.Consts [] [] Nil (Cons kind.Types [] [] Nil (Cons kind.Vars [] [] Nil (Cons kind.Routines [] [] Nil (Cons kind.Compound [] [] (Cons kind.Stmts [] [] (Cons kind.Empty [] [] Nil Nil) Nil) Nil))))) Nil))) Nil))) (Cons kind.Compound [] [] (Cons kind.Stmts [] [] (Cons kind.Proc [] [] (Cons kind.Name (codes "g") [] Nil (Cons kind.Args [] [] (Cons kind.Ref [] [] (Cons kind.Name (codes "k") [] Nil Nil) (Cons kind.Ref [] [] (Cons kind.Name (codes "i") [] Nil Nil) Nil)) Nil)) (Cons kind.Assign [] [] (Cons kind.Ref [] [] (Cons kind.Name (codes "i") [] Nil Nil) (Cons kind.Call [] [] (Cons kind.Name (codes "q") [] Nil (Cons kind.Exprs [] [] (Cons kind.Ref [] [] (Cons kind.Name (codes "k") [] Nil Nil) (Cons kind.Ref [] [] (Cons kind.Name (codes "i") [] Nil Nil) Nil)) Nil)) Nil)) Nil)) Nil) Nil))))) Nil))) }

pub agreement-roles-3 : disagreement tree-roles-3 ≡ Agrees
unfolding kids_of digits same largest_number compatible assignable cell_limit is_too_large reached declaration_in declaration lookup find rule decorate own routines_in routines_of outside_of own_entries errors_of heading_marks annotated routine_around attributes_at expression_type opened_at field_of meant_in meant routines_with_key meaning_in shape_at type_in type_at path_text key_text errors_text decls_text uses_text expr_text disagreement
agreement-roles-3 = refl

pub roles-3-0 : expr_text tree-roles-3 (3 ∷ 5 ∷ 1 ∷ 1 ∷ 2 ∷ 1 ∷ []) ≡ (codes "ref k packed array [1..2] of char\n")
unfolding kids_of digits same largest_number compatible assignable cell_limit is_too_large reached declaration_in declaration lookup find rule decorate own routines_in routines_of outside_of own_entries errors_of heading_marks annotated routine_around attributes_at expression_type opened_at field_of meant_in meant routines_with_key meaning_in shape_at type_in type_at path_text key_text errors_text decls_text uses_text expr_text disagreement
roles-3-0 = refl

pub roles-3-1 : expr_text tree-roles-3 (3 ∷ 5 ∷ 1 ∷ 2 ∷ 2 ∷ []) ≡ (codes "call q ?\n  ref k packed array [1..2] of char\n  ref i integer\n")
unfolding kids_of digits same largest_number compatible assignable cell_limit is_too_large reached declaration_in declaration lookup find rule decorate own routines_in routines_of outside_of own_entries errors_of heading_marks annotated routine_around attributes_at expression_type opened_at field_of meant_in meant routines_with_key meaning_in shape_at type_in type_at path_text key_text errors_text decls_text uses_text expr_text disagreement
roles-3-1 = refl

-- more arguments than parameters: those are values
abbrev pub tree-roles-4 : Plain
tree-roles-4 = record { kind = kind.Program; word = []; notes = []; kids = (Cons kind.Name (codes "p") [] Nil (Cons kind.Heads [] [] Nil (Cons kind.Block [] [] (Cons kind.Consts [] [] (Cons kind.Constdef [] [] (Cons kind.Name (codes "k") [] Nil (Cons kind.Cstring (codes "'ab'") [] Nil Nil)) Nil) (Cons kind.Types [] [] (Cons kind.Typedef [] [] (Cons kind.Name (codes "l") [] Nil (Cons kind.Pointer [] [] (Cons kind.Name (codes "m") [] Nil Nil) Nil)) (Cons kind.Typedef [] [] (Cons kind.Name (codes "m") [] Nil (Cons kind.Record [] [] (Cons kind.Fields [] [] (Cons kind.Field [] [] (Cons kind.Names [] [] (Cons kind.Name (codes "a") [] Nil Nil) (Cons kind.Tname [] [] (Cons kind.Name (codes "char") [] Nil Nil) Nil)) Nil) Nil) Nil)) Nil)) (Cons kind.Vars [] [] (Cons kind.Vardef [] [] (Cons kind.Names [] [] (Cons kind.Name (codes "i") [] Nil Nil) (Cons kind.Tname [] [] (Cons kind.Name (codes "integer") [] Nil Nil) Nil)) (Cons kind.Vardef [] [] (Cons kind.Names [] [] (Cons kind.Name (codes "x") [] Nil Nil) (Cons kind.Tname [] [] (Cons kind.Name (codes "m") [] Nil Nil) Nil)) (Cons kind.Vardef [] [] (Cons kind.Names [] [] (Cons kind.Name (codes "n") [] Nil Nil) (Cons kind.Tname [] [] (Cons kind.Name (codes "l") [] Nil Nil) Nil)) Nil))) (Cons kind.Routines [] [] (Cons kind.Function [] [] (Cons kind.Name (codes "f") [] Nil (Cons kind.Params [] [] Nil (Cons kind.Name (codes "l") [] Nil (Cons kind.Block [] [] (Cons kind.Consts [] [] Nil (Cons kind.Types [] [] Nil (Cons kind.Vars [] [] Nil (Cons kind.Routines [] [] Nil (Cons kind.Compound [] [] (Cons kind.Stmts [] [] (Cons kind.Assign [] [] (Cons kind.Ref [] [] (Cons kind.Name (codes "f") [] Nil Nil) (Cons kind.Nil [] [] Nil Nil)) Nil) Nil) Nil))))) Nil)))) (Cons kind.Function [] [] (Cons kind.Name (codes "g") [] Nil (Cons kind.Params [] [] (Cons kind.Varparam [] [] (Cons kind.Names [] [] (Cons kind.Name (codes "j") [] Nil Nil) (Cons kind.Name (codes "integer") [] Nil Nil)) (Cons kind.Valparam [] [] (Cons kind.Names [] [] (Cons kind.Name (codes "h") [] Nil Nil) (Cons kind.Name (codes "integer") [] Nil Nil)) Nil)) (Cons kind.Name (codes "char") [] Nil (Cons kind.Block [] [] (Cons kind.Consts [] [] Nil (Cons kind.Types [] [] Nil (Cons kind.Vars [] [] Nil (Cons kind.Routines [] [] Nil (Cons kind.Compound [] [] (Cons kind.Stmts [] [] (Cons kind.Assign [] [] (Cons kind.Ref [] [] (Cons kind.Name (codes "g") [] Nil Nil) (Cons kind.Text (codes "'x'") [] Nil Nil)) Nil) Nil) Nil))))) Nil)))) (Cons kind.Procedure [] [] (Cons kind.Name (codes "q") [] Nil (Cons kind.Params [] [] (Cons kind.Varparam [] [] (Cons kind.Names [] [] (Cons kind.Name (codes "j") [] Nil Nil) (Cons kind.Name (codes "integer") [] Nil Nil)) (Cons kind.Valparam [] [] (Cons kind.Names [] [] (Cons kind.Name (codes "h") [] Nil Nil) (Cons kind.Name (codes "integer") [] Nil Nil)) Nil)) (Cons kind.Block [] [] (Cons kind.Consts [] [] Nil (Cons kind.Types [] [] Nil (Cons kind.Vars [] [] Nil (Cons kind.Routines [] [] Nil (Cons kind.Compound [] [] (Cons kind.Stmts [] [] (Cons kind.Empty [] [] Nil Nil) Nil) Nil))))) Nil))) Nil))) (Cons kind.Compound [] [] (Cons kind.Stmts [] [] (Cons kind.Proc [] [] (Cons kind.Name (codes "q") [] Nil (Cons kind.Args [] [] (Cons kind.Ref [] [] (Cons kind.Name (codes "i") [] Nil Nil) (Cons kind.Ref [] [] (Cons kind.Name (codes "i") [] Nil Nil) (Cons kind.Ref [] [] (Cons kind.Name (codes "k") [] Nil Nil) Nil))) Nil)) Nil) Nil) Nil))))) Nil))) }

pub agreement-roles-4 : disagreement tree-roles-4 ≡ Agrees
unfolding kids_of digits same largest_number compatible assignable cell_limit is_too_large reached declaration_in declaration lookup find rule decorate own routines_in routines_of outside_of own_entries errors_of heading_marks annotated routine_around attributes_at expression_type opened_at field_of meant_in meant routines_with_key meaning_in shape_at type_in type_at path_text key_text errors_text decls_text uses_text expr_text disagreement
agreement-roles-4 = refl

pub roles-4-0 : expr_text tree-roles-4 (3 ∷ 5 ∷ 1 ∷ 1 ∷ 2 ∷ 3 ∷ []) ≡ (codes "ref k packed array [1..2] of char\n")
unfolding kids_of digits same largest_number compatible assignable cell_limit is_too_large reached declaration_in declaration lookup find rule decorate own routines_in routines_of outside_of own_entries errors_of heading_marks annotated routine_around attributes_at expression_type opened_at field_of meant_in meant routines_with_key meaning_in shape_at type_in type_at path_text key_text errors_text decls_text uses_text expr_text disagreement
roles-4-0 = refl

-- a variable that is opened by with, and a field of it; the parts of a width
abbrev pub tree-roles-5 : Plain
tree-roles-5 = record { kind = kind.Program; word = []; notes = []; kids = (Cons kind.Name (codes "p") [] Nil (Cons kind.Heads [] [] Nil (Cons kind.Block [] [] (Cons kind.Consts [] [] (Cons kind.Constdef [] [] (Cons kind.Name (codes "k") [] Nil (Cons kind.Cstring (codes "'ab'") [] Nil Nil)) Nil) (Cons kind.Types [] [] (Cons kind.Typedef [] [] (Cons kind.Name (codes "l") [] Nil (Cons kind.Pointer [] [] (Cons kind.Name (codes "m") [] Nil Nil) Nil)) (Cons kind.Typedef [] [] (Cons kind.Name (codes "m") [] Nil (Cons kind.Record [] [] (Cons kind.Fields [] [] (Cons kind.Field [] [] (Cons kind.Names [] [] (Cons kind.Name (codes "a") [] Nil Nil) (Cons kind.Tname [] [] (Cons kind.Name (codes "char") [] Nil Nil) Nil)) Nil) Nil) Nil)) Nil)) (Cons kind.Vars [] [] (Cons kind.Vardef [] [] (Cons kind.Names [] [] (Cons kind.Name (codes "i") [] Nil Nil) (Cons kind.Tname [] [] (Cons kind.Name (codes "integer") [] Nil Nil) Nil)) (Cons kind.Vardef [] [] (Cons kind.Names [] [] (Cons kind.Name (codes "x") [] Nil Nil) (Cons kind.Tname [] [] (Cons kind.Name (codes "m") [] Nil Nil) Nil)) (Cons kind.Vardef [] [] (Cons kind.Names [] [] (Cons kind.Name (codes "n") [] Nil Nil) (Cons kind.Tname [] [] (Cons kind.Name (codes "l") [] Nil Nil) Nil)) Nil))) (Cons kind.Routines [] [] (Cons kind.Function [] [] (Cons kind.Name (codes "f") [] Nil (Cons kind.Params [] [] Nil (Cons kind.Name (codes "l") [] Nil (Cons kind.Block [] [] (Cons kind.Consts [] [] Nil (Cons kind.Types [] [] Nil (Cons kind.Vars [] [] Nil (Cons kind.Routines [] [] Nil (Cons kind.Compound [] [] (Cons kind.Stmts [] [] (Cons kind.Assign [] [] (Cons kind.Ref [] [] (Cons kind.Name (codes "f") [] Nil Nil) (Cons kind.Nil [] [] Nil Nil)) Nil) Nil) Nil))))) Nil)))) (Cons kind.Function [] [] (Cons kind.Name (codes "g") [] Nil (Cons kind.Params [] [] (Cons kind.Varparam [] [] (Cons kind.Names [] [] (Cons kind.Name (codes "j") [] Nil Nil) (Cons kind.Name (codes "integer") [] Nil Nil)) (Cons kind.Valparam [] [] (Cons kind.Names [] [] (Cons kind.Name (codes "h") [] Nil Nil) (Cons kind.Name (codes "integer") [] Nil Nil)) Nil)) (Cons kind.Name (codes "char") [] Nil (Cons kind.Block [] [] (Cons kind.Consts [] [] Nil (Cons kind.Types [] [] Nil (Cons kind.Vars [] [] Nil (Cons kind.Routines [] [] Nil (Cons kind.Compound [] [] (Cons kind.Stmts [] [] (Cons kind.Assign [] [] (Cons kind.Ref [] [] (Cons kind.Name (codes "g") [] Nil Nil) (Cons kind.Text (codes "'x'") [] Nil Nil)) Nil) Nil) Nil))))) Nil)))) (Cons kind.Procedure [] [] (Cons kind.Name (codes "q") [] Nil (Cons kind.Params [] [] (Cons kind.Varparam [] [] (Cons kind.Names [] [] (Cons kind.Name (codes "j") [] Nil Nil) (Cons kind.Name (codes "integer") [] Nil Nil)) (Cons kind.Valparam [] [] (Cons kind.Names [] [] (Cons kind.Name (codes "h") [] Nil Nil) (Cons kind.Name (codes "integer") [] Nil Nil)) Nil)) (Cons kind.Block [] [] (Cons kind.Consts [] [] Nil (Cons kind.Types [] [] Nil (Cons kind.Vars [] [] Nil (Cons kind.Routines [] [] Nil (Cons kind.Compound [] [] (Cons kind.Stmts [] [] (Cons kind.Empty [] [] Nil Nil) Nil) Nil))))) Nil))) Nil))) (Cons kind.Compound [] [] (Cons kind.Stmts [] [] (Cons kind.With [] [] (Cons kind.Accesses [] [] (Cons kind.Deref [] [] (Cons kind.Ref [] [] (Cons kind.Name (codes "n") [] Nil Nil) Nil) (Cons kind.Ref [] [] (Cons kind.Name (codes "x") [] Nil Nil) Nil)) (Cons kind.Assign [] [] (Cons kind.Ref [] [] (Cons kind.Name (codes "a") [] Nil Nil) (Cons kind.Text (codes "'x'") [] Nil Nil)) Nil)) (Cons kind.Proc [] [] (Cons kind.Name (codes "write") [] Nil (Cons kind.Args [] [] (Cons kind.Ref [] [] (Cons kind.Name (codes "a") [] Nil Nil) (Cons kind.Width [] [] (Cons kind.Select [] [] (Cons kind.Ref [] [] (Cons kind.Name (codes "x") [] Nil Nil) (Cons kind.Name (codes "a") [] Nil Nil)) (Cons kind.Ref [] [] (Cons kind.Name (codes "i") [] Nil Nil) Nil)) Nil)) Nil)) Nil)) Nil) Nil))))) Nil))) }

pub agreement-roles-5 : disagreement tree-roles-5 ≡ Agrees
unfolding kids_of digits same largest_number compatible assignable cell_limit is_too_large reached declaration_in declaration lookup find rule decorate own routines_in routines_of outside_of own_entries errors_of heading_marks annotated routine_around attributes_at expression_type opened_at field_of meant_in meant routines_with_key meaning_in shape_at type_in type_at path_text key_text errors_text decls_text uses_text expr_text disagreement
agreement-roles-5 = refl

pub roles-5-0 : expr_text tree-roles-5 (3 ∷ 5 ∷ 1 ∷ 1 ∷ 1 ∷ 1 ∷ []) ≡ (codes "deref record a: char end\n  ref n ^m\n")
unfolding kids_of digits same largest_number compatible assignable cell_limit is_too_large reached declaration_in declaration lookup find rule decorate own routines_in routines_of outside_of own_entries errors_of heading_marks annotated routine_around attributes_at expression_type opened_at field_of meant_in meant routines_with_key meaning_in shape_at type_in type_at path_text key_text errors_text decls_text uses_text expr_text disagreement
roles-5-0 = refl

pub roles-5-1 : expr_text tree-roles-5 (3 ∷ 5 ∷ 1 ∷ 1 ∷ 2 ∷ 1 ∷ []) ≡ (codes "ref a char\n")
unfolding kids_of digits same largest_number compatible assignable cell_limit is_too_large reached declaration_in declaration lookup find rule decorate own routines_in routines_of outside_of own_entries errors_of heading_marks annotated routine_around attributes_at expression_type opened_at field_of meant_in meant routines_with_key meaning_in shape_at type_in type_at path_text key_text errors_text decls_text uses_text expr_text disagreement
roles-5-1 = refl

pub roles-5-2 : expr_text tree-roles-5 (3 ∷ 5 ∷ 1 ∷ 2 ∷ 2 ∷ 1 ∷ []) ≡ (codes "ref a ?\n")
unfolding kids_of digits same largest_number compatible assignable cell_limit is_too_large reached declaration_in declaration lookup find rule decorate own routines_in routines_of outside_of own_entries errors_of heading_marks annotated routine_around attributes_at expression_type opened_at field_of meant_in meant routines_with_key meaning_in shape_at type_in type_at path_text key_text errors_text decls_text uses_text expr_text disagreement
roles-5-2 = refl

pub roles-5-3 : expr_text tree-roles-5 (3 ∷ 5 ∷ 1 ∷ 2 ∷ 2 ∷ 2 ∷ []) ≡ (codes "width ?\n  select a char\n    ref x record a: char end\n  ref i integer\n")
unfolding kids_of digits same largest_number compatible assignable cell_limit is_too_large reached declaration_in declaration lookup find rule decorate own routines_in routines_of outside_of own_entries errors_of heading_marks annotated routine_around attributes_at expression_type opened_at field_of meant_in meant routines_with_key meaning_in shape_at type_in type_at path_text key_text errors_text decls_text uses_text expr_text disagreement
roles-5-3 = refl
