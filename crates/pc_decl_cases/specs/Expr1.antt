-- Programs with the texts of their views.
use Rattle.std.specs.Prelude.{◌≡◌, [], ◌∷◌, codes}
use Rattle.std.proofs.Common.{refl}
use Rattle.std.specs.Fmt.{digits}
use Rattle.pc_syntax.specs.Plain.{Nil, Cons, Plain, kids_of}
use Rattle.pc_syntax.specs.declared.kind.Kind.TheVariants as kind
use Rattle.pc_syntax.specs.declared.sort.Sort.TheVariants as sort
use Rattle.pc_types.specs.Sameness.{same}
use Rattle.pc_types.specs.TypeClasses.{largest_number}
use Rattle.pc_types.specs.Compatibility.{compatible, assignable}
use Rattle.pc_types.specs.Sizes.{cell_limit, is_too_large}
use Rattle.pc_types.specs.Domains.{reached}
use Rattle.pc_scope.specs.Lookup.{declaration_in, declaration, lookup}
use Rattle.pc_rules.specs.Meanings.{find}
use Rattle.pc_rules.specs.Decorated.{rule, decorate}
use Rattle.pc_rules.specs.OwnBlock.{own}
use Rattle.pc_rules.specs.RoutineList.{routines_in, routines_of}
use Rattle.pc_rules.specs.Outsides.{outside_of}
use Rattle.pc_rules.specs.Errors.{own_entries, errors_of}
use Rattle.pc_rules.specs.Routines.{heading_marks}
use Rattle.pc_decl.specs.Annotated.{annotated}
use Rattle.pc_decl.specs.Found.{routine_around, attributes_at}
use Rattle.pc_decl.specs.Roles.{expression_type}
use Rattle.pc_decl.specs.Uses.{opened_at}
use Rattle.pc_decl.specs.Records.{field_of}
use Rattle.pc_decl.specs.Meant.{meant_in, meant}
use Rattle.pc_decl.specs.Declared.{routines_with_key, meaning_in}
use Rattle.pc_decl.specs.TypeAt.{shape_at, type_in, type_at}
use Rattle.pc_decl.specs.Shown.{path_text, key_text}
use Rattle.pc_decl.specs.ErrorsText.{errors_text}
use Rattle.pc_decl.specs.DeclsText.{decls_text}
use Rattle.pc_decl.specs.UsesText.{uses_text}
use Rattle.pc_decl.specs.ExprText.{expr_text}
use Rattle.pc_decl_cases.specs.Agreement.{disagreement, Agrees}

-- expr: a hole prints as it is and has ?; so has all around it.
abbrev pub tree-expr-holes : Plain
tree-expr-holes = record { kind = kind.Program; word = []; notes = []; kids = (Cons kind.Name (codes "p") [] Nil (Cons kind.Heads [] [] Nil (Cons kind.Block [] [] (Cons kind.Consts [] [] Nil (Cons kind.Types [] [] Nil (Cons kind.Vars [] [] (Cons kind.Vardef [] [] (Cons kind.Names [] [] (Cons kind.Name (codes "i") [] Nil Nil) (Cons kind.Tname [] [] (Cons kind.Name (codes "integer") [] Nil Nil) Nil)) Nil) (Cons kind.Routines [] [] Nil (Cons kind.Compound [] [] (Cons kind.Stmts [] [] (Cons kind.Assign [] [] (Cons kind.Ref [] [] (Cons kind.Name (codes "i") [] Nil Nil) (Cons kind.Mul (codes "*") [] (Cons kind.Parens [] [] (Cons kind.Add (codes "+") [] (Cons (kind.Hole sort.Expression) [] [] Nil (Cons kind.Number (codes "1") [] Nil Nil)) Nil) (Cons kind.Call [] [] (Cons kind.Name (codes "abs") [] Nil (Cons kind.Exprs [] [] (Cons kind.Ref [] [] (Cons kind.Name (codes "i") [] Nil Nil) Nil) Nil)) Nil)) Nil)) Nil) Nil) Nil))))) Nil))) }

pub agreement-expr-holes : disagreement tree-expr-holes ≡ Agrees
unfolding kids_of digits same largest_number compatible assignable cell_limit is_too_large reached declaration_in declaration lookup find rule decorate own routines_in routines_of outside_of own_entries errors_of heading_marks annotated routine_around attributes_at expression_type opened_at field_of meant_in meant routines_with_key meaning_in shape_at type_in type_at path_text key_text errors_text decls_text uses_text expr_text disagreement
agreement-expr-holes = refl

pub expr-holes : expr_text tree-expr-holes (3 ∷ 5 ∷ 1 ∷ 1 ∷ 2 ∷ []) ≡ (codes "mul * ?\n  parens ?\n    add + ?\n      ?expression ?\n      number 1 integer\n  call abs integer\n    ref i integer\n")
unfolding kids_of digits same largest_number compatible assignable cell_limit is_too_large reached declaration_in declaration lookup find rule decorate own routines_in routines_of outside_of own_entries errors_of heading_marks annotated routine_around attributes_at expression_type opened_at field_of meant_in meant routines_with_key meaning_in shape_at type_in type_at path_text key_text errors_text decls_text uses_text expr_text disagreement
expr-holes = refl

-- expr: in the statement part of an inner routine, names of all blocks.
abbrev pub tree-expr-in-heading : Plain
tree-expr-in-heading = record { kind = kind.Program; word = []; notes = []; kids = (Cons kind.Name (codes "p") [] Nil (Cons kind.Heads [] [] Nil (Cons kind.Block [] [] (Cons kind.Consts [] [] Nil (Cons kind.Types [] [] Nil (Cons kind.Vars [] [] (Cons kind.Vardef [] [] (Cons kind.Names [] [] (Cons kind.Name (codes "g") [] Nil Nil) (Cons kind.Tname [] [] (Cons kind.Name (codes "integer") [] Nil Nil) Nil)) Nil) (Cons kind.Routines [] [] (Cons kind.Procedure [] [] (Cons kind.Name (codes "q") [] Nil (Cons kind.Params [] [] (Cons kind.Valparam [] [] (Cons kind.Names [] [] (Cons kind.Name (codes "v") [] Nil Nil) (Cons kind.Name (codes "char") [] Nil Nil)) (Cons kind.Varparam [] [] (Cons kind.Names [] [] (Cons kind.Name (codes "w") [] Nil Nil) (Cons kind.Name (codes "boolean") [] Nil Nil)) Nil)) (Cons kind.Block [] [] (Cons kind.Consts [] [] Nil (Cons kind.Types [] [] Nil (Cons kind.Vars [] [] (Cons kind.Vardef [] [] (Cons kind.Names [] [] (Cons kind.Name (codes "l") [] Nil Nil) (Cons kind.Setof [] [] (Cons kind.Tname [] [] (Cons kind.Name (codes "char") [] Nil Nil) Nil) Nil)) Nil) (Cons kind.Routines [] [] Nil (Cons kind.Compound [] [] (Cons kind.Stmts [] [] (Cons kind.Assign [] [] (Cons kind.Ref [] [] (Cons kind.Name (codes "w") [] Nil Nil) (Cons kind.Mul (codes "and") [] (Cons kind.Parens [] [] (Cons kind.Rel (codes "in") [] (Cons kind.Ref [] [] (Cons kind.Name (codes "v") [] Nil Nil) (Cons kind.Ref [] [] (Cons kind.Name (codes "l") [] Nil Nil) Nil)) Nil) (Cons kind.Parens [] [] (Cons kind.Rel (codes "=") [] (Cons kind.Ref [] [] (Cons kind.Name (codes "g") [] Nil Nil) (Cons kind.Number (codes "1") [] Nil Nil)) Nil) Nil)) Nil)) Nil) Nil) Nil))))) Nil))) Nil) (Cons kind.Compound [] [] (Cons kind.Stmts [] [] (Cons kind.Empty [] [] Nil Nil) Nil) Nil))))) Nil))) }

pub agreement-expr-in-heading : disagreement tree-expr-in-heading ≡ Agrees
unfolding kids_of digits same largest_number compatible assignable cell_limit is_too_large reached declaration_in declaration lookup find rule decorate own routines_in routines_of outside_of own_entries errors_of heading_marks annotated routine_around attributes_at expression_type opened_at field_of meant_in meant routines_with_key meaning_in shape_at type_in type_at path_text key_text errors_text decls_text uses_text expr_text disagreement
agreement-expr-in-heading = refl

pub expr-in-heading-1 : expr_text tree-expr-in-heading (3 ∷ 4 ∷ 1 ∷ 3 ∷ 5 ∷ 1 ∷ 1 ∷ 2 ∷ []) ≡ (codes "mul and boolean\n  parens boolean\n    rel in boolean\n      ref v char\n      ref l set of char\n  parens boolean\n    rel = boolean\n      ref g integer\n      number 1 integer\n")
unfolding kids_of digits same largest_number compatible assignable cell_limit is_too_large reached declaration_in declaration lookup find rule decorate own routines_in routines_of outside_of own_entries errors_of heading_marks annotated routine_around attributes_at expression_type opened_at field_of meant_in meant routines_with_key meaning_in shape_at type_in type_at path_text key_text errors_text decls_text uses_text expr_text disagreement
expr-in-heading-1 = refl

pub expr-in-heading-2 : expr_text tree-expr-in-heading (3 ∷ 4 ∷ 1 ∷ 3 ∷ 5 ∷ 1 ∷ 1 ∷ 1 ∷ []) ≡ (codes "ref w boolean\n")
unfolding kids_of digits same largest_number compatible assignable cell_limit is_too_large reached declaration_in declaration lookup find rule decorate own routines_in routines_of outside_of own_entries errors_of heading_marks annotated routine_around attributes_at expression_type opened_at field_of meant_in meant routines_with_key meaning_in shape_at type_in type_at path_text key_text errors_text decls_text uses_text expr_text disagreement
expr-in-heading-2 = refl

-- expr: a numeral over maxint has ?, its word as written with its zeros.
abbrev pub tree-expr-large-number : Plain
tree-expr-large-number = record { kind = kind.Program; word = []; notes = []; kids = (Cons kind.Name (codes "p") [] Nil (Cons kind.Heads [] [] Nil (Cons kind.Block [] [] (Cons kind.Consts [] [] Nil (Cons kind.Types [] [] Nil (Cons kind.Vars [] [] (Cons kind.Vardef [] [] (Cons kind.Names [] [] (Cons kind.Name (codes "i") [] Nil Nil) (Cons kind.Tname [] [] (Cons kind.Name (codes "integer") [] Nil Nil) Nil)) Nil) (Cons kind.Routines [] [] Nil (Cons kind.Compound [] [] (Cons kind.Stmts [] [] (Cons kind.Assign [] [] (Cons kind.Ref [] [] (Cons kind.Name (codes "i") [] Nil Nil) (Cons kind.Add (codes "+") [] (Cons kind.Number (codes "007") [] Nil (Cons kind.Number (codes "9223372036854775808") [] Nil Nil)) Nil)) Nil) Nil) Nil))))) Nil))) }

pub agreement-expr-large-number : disagreement tree-expr-large-number ≡ Agrees
unfolding kids_of digits same largest_number compatible assignable cell_limit is_too_large reached declaration_in declaration lookup find rule decorate own routines_in routines_of outside_of own_entries errors_of heading_marks annotated routine_around attributes_at expression_type opened_at field_of meant_in meant routines_with_key meaning_in shape_at type_in type_at path_text key_text errors_text decls_text uses_text expr_text disagreement
agreement-expr-large-number = refl

pub expr-large-number : expr_text tree-expr-large-number (3 ∷ 5 ∷ 1 ∷ 1 ∷ 2 ∷ []) ≡ (codes "add + ?\n  number 007 integer\n  number 9223372036854775808 ?\n")
unfolding kids_of digits same largest_number compatible assignable cell_limit is_too_large reached declaration_in declaration lookup find rule decorate own routines_in routines_of outside_of own_entries errors_of heading_marks annotated routine_around attributes_at expression_type opened_at field_of meant_in meant routines_with_key meaning_in shape_at type_in type_at path_text key_text errors_text decls_text uses_text expr_text disagreement
expr-large-number = refl

-- expr: an index with several expressions is one node; its type is the innermost element.
abbrev pub tree-expr-multi-index : Plain
tree-expr-multi-index = record { kind = kind.Program; word = []; notes = []; kids = (Cons kind.Name (codes "p") [] Nil (Cons kind.Heads [] [] Nil (Cons kind.Block [] [] (Cons kind.Consts [] [] Nil (Cons kind.Types [] [] Nil (Cons kind.Vars [] [] (Cons kind.Vardef [] [] (Cons kind.Names [] [] (Cons kind.Name (codes "a") [] Nil Nil) (Cons kind.Array [] [] (Cons kind.Indexes [] [] (Cons kind.Subrange [] [] (Cons kind.Cnumber (codes "1") [] Nil (Cons kind.Cnumber (codes "2") [] Nil Nil)) (Cons kind.Tname [] [] (Cons kind.Name (codes "char") [] Nil Nil) Nil)) (Cons kind.Tname [] [] (Cons kind.Name (codes "boolean") [] Nil Nil) Nil)) Nil)) (Cons kind.Vardef [] [] (Cons kind.Names [] [] (Cons kind.Name (codes "i") [] Nil Nil) (Cons kind.Tname [] [] (Cons kind.Name (codes "integer") [] Nil Nil) Nil)) Nil)) (Cons kind.Routines [] [] Nil (Cons kind.Compound [] [] (Cons kind.Stmts [] [] (Cons kind.Assign [] [] (Cons kind.Index [] [] (Cons kind.Ref [] [] (Cons kind.Name (codes "a") [] Nil Nil) (Cons kind.Exprs [] [] (Cons kind.Add (codes "+") [] (Cons kind.Ref [] [] (Cons kind.Name (codes "i") [] Nil Nil) (Cons kind.Number (codes "1") [] Nil Nil)) (Cons kind.Text (codes "'x'") [] Nil Nil)) Nil)) (Cons kind.Index [] [] (Cons kind.Index [] [] (Cons kind.Ref [] [] (Cons kind.Name (codes "a") [] Nil Nil) (Cons kind.Exprs [] [] (Cons kind.Number (codes "1") [] Nil Nil) Nil)) (Cons kind.Exprs [] [] (Cons kind.Text (codes "'y'") [] Nil Nil) Nil)) Nil)) Nil) Nil) Nil))))) Nil))) }

pub agreement-expr-multi-index : disagreement tree-expr-multi-index ≡ Agrees
unfolding kids_of digits same largest_number compatible assignable cell_limit is_too_large reached declaration_in declaration lookup find rule decorate own routines_in routines_of outside_of own_entries errors_of heading_marks annotated routine_around attributes_at expression_type opened_at field_of meant_in meant routines_with_key meaning_in shape_at type_in type_at path_text key_text errors_text decls_text uses_text expr_text disagreement
agreement-expr-multi-index = refl

pub expr-multi-index-1 : expr_text tree-expr-multi-index (3 ∷ 5 ∷ 1 ∷ 1 ∷ 1 ∷ []) ≡ (codes "index boolean\n  ref a array [1..2] of array [char] of boolean\n  add + integer\n    ref i integer\n    number 1 integer\n  text 'x' char\n")
unfolding kids_of digits same largest_number compatible assignable cell_limit is_too_large reached declaration_in declaration lookup find rule decorate own routines_in routines_of outside_of own_entries errors_of heading_marks annotated routine_around attributes_at expression_type opened_at field_of meant_in meant routines_with_key meaning_in shape_at type_in type_at path_text key_text errors_text decls_text uses_text expr_text disagreement
expr-multi-index-1 = refl

pub expr-multi-index-2 : expr_text tree-expr-multi-index (3 ∷ 5 ∷ 1 ∷ 1 ∷ 2 ∷ []) ≡ (codes "index boolean\n  index array [char] of boolean\n    ref a array [1..2] of array [char] of boolean\n    number 1 integer\n  text 'y' char\n")
unfolding kids_of digits same largest_number compatible assignable cell_limit is_too_large reached declaration_in declaration lookup find rule decorate own routines_in routines_of outside_of own_entries errors_of heading_marks annotated routine_around attributes_at expression_type opened_at field_of meant_in meant routines_with_key meaning_in shape_at type_in type_at path_text key_text errors_text decls_text uses_text expr_text disagreement
expr-multi-index-2 = refl

-- expr: the type of nil is nil; of a comparison boolean.
abbrev pub tree-expr-nil : Plain
tree-expr-nil = record { kind = kind.Program; word = []; notes = []; kids = (Cons kind.Name (codes "p") [] Nil (Cons kind.Heads [] [] Nil (Cons kind.Block [] [] (Cons kind.Consts [] [] Nil (Cons kind.Types [] [] Nil (Cons kind.Vars [] [] (Cons kind.Vardef [] [] (Cons kind.Names [] [] (Cons kind.Name (codes "q") [] Nil Nil) (Cons kind.Pointer [] [] (Cons kind.Name (codes "char") [] Nil Nil) Nil)) (Cons kind.Vardef [] [] (Cons kind.Names [] [] (Cons kind.Name (codes "b") [] Nil Nil) (Cons kind.Tname [] [] (Cons kind.Name (codes "boolean") [] Nil Nil) Nil)) Nil)) (Cons kind.Routines [] [] Nil (Cons kind.Compound [] [] (Cons kind.Stmts [] [] (Cons kind.Assign [] [] (Cons kind.Ref [] [] (Cons kind.Name (codes "b") [] Nil Nil) (Cons kind.Rel (codes "=") [] (Cons kind.Ref [] [] (Cons kind.Name (codes "q") [] Nil Nil) (Cons kind.Nil [] [] Nil Nil)) Nil)) (Cons kind.Assign [] [] (Cons kind.Ref [] [] (Cons kind.Name (codes "q") [] Nil Nil) (Cons kind.Nil [] [] Nil Nil)) Nil)) Nil) Nil))))) Nil))) }

pub agreement-expr-nil : disagreement tree-expr-nil ≡ Agrees
unfolding kids_of digits same largest_number compatible assignable cell_limit is_too_large reached declaration_in declaration lookup find rule decorate own routines_in routines_of outside_of own_entries errors_of heading_marks annotated routine_around attributes_at expression_type opened_at field_of meant_in meant routines_with_key meaning_in shape_at type_in type_at path_text key_text errors_text decls_text uses_text expr_text disagreement
agreement-expr-nil = refl

pub expr-nil-1 : expr_text tree-expr-nil (3 ∷ 5 ∷ 1 ∷ 1 ∷ 2 ∷ []) ≡ (codes "rel = boolean\n  ref q ^char\n  nil nil\n")
unfolding kids_of digits same largest_number compatible assignable cell_limit is_too_large reached declaration_in declaration lookup find rule decorate own routines_in routines_of outside_of own_entries errors_of heading_marks annotated routine_around attributes_at expression_type opened_at field_of meant_in meant routines_with_key meaning_in shape_at type_in type_at path_text key_text errors_text decls_text uses_text expr_text disagreement
expr-nil-1 = refl

pub expr-nil-2 : expr_text tree-expr-nil (3 ∷ 5 ∷ 1 ∷ 2 ∷ 2 ∷ []) ≡ (codes "nil nil\n")
unfolding kids_of digits same largest_number compatible assignable cell_limit is_too_large reached declaration_in declaration lookup find rule decorate own routines_in routines_of outside_of own_entries errors_of heading_marks annotated routine_around attributes_at expression_type opened_at field_of meant_in meant routines_with_key meaning_in shape_at type_in type_at path_text key_text errors_text decls_text uses_text expr_text disagreement
expr-nil-2 = refl

-- expr: no such place; and places that are no expressions: a name, a list, a statement, a constant, the root.
abbrev pub tree-expr-no-place : Plain
tree-expr-no-place = record { kind = kind.Program; word = []; notes = []; kids = (Cons kind.Name (codes "p") [] Nil (Cons kind.Heads [] [] Nil (Cons kind.Block [] [] (Cons kind.Consts [] [] (Cons kind.Constdef [] [] (Cons kind.Name (codes "c") [] Nil (Cons kind.Cnumber (codes "1") [] Nil Nil)) Nil) (Cons kind.Types [] [] Nil (Cons kind.Vars [] [] (Cons kind.Vardef [] [] (Cons kind.Names [] [] (Cons kind.Name (codes "i") [] Nil Nil) (Cons kind.Tname [] [] (Cons kind.Name (codes "integer") [] Nil Nil) Nil)) Nil) (Cons kind.Routines [] [] Nil (Cons kind.Compound [] [] (Cons kind.Stmts [] [] (Cons kind.Proc [] [] (Cons kind.Name (codes "write") [] Nil (Cons kind.Args [] [] (Cons kind.Ref [] [] (Cons kind.Name (codes "i") [] Nil Nil) (Cons kind.Number (codes "2") [] Nil Nil)) Nil)) Nil) Nil) Nil))))) Nil))) }

pub agreement-expr-no-place : disagreement tree-expr-no-place ≡ Agrees
unfolding kids_of digits same largest_number compatible assignable cell_limit is_too_large reached declaration_in declaration lookup find rule decorate own routines_in routines_of outside_of own_entries errors_of heading_marks annotated routine_around attributes_at expression_type opened_at field_of meant_in meant routines_with_key meaning_in shape_at type_in type_at path_text key_text errors_text decls_text uses_text expr_text disagreement
agreement-expr-no-place = refl

pub expr-no-place-1 : expr_text tree-expr-no-place (3 ∷ 5 ∷ 1 ∷ 2 ∷ []) ≡ (codes "no such place\n")
unfolding kids_of digits same largest_number compatible assignable cell_limit is_too_large reached declaration_in declaration lookup find rule decorate own routines_in routines_of outside_of own_entries errors_of heading_marks annotated routine_around attributes_at expression_type opened_at field_of meant_in meant routines_with_key meaning_in shape_at type_in type_at path_text key_text errors_text decls_text uses_text expr_text disagreement
expr-no-place-1 = refl

pub expr-no-place-2 : expr_text tree-expr-no-place (3 ∷ 5 ∷ 1 ∷ 1 ∷ 2 ∷ 3 ∷ []) ≡ (codes "no such place\n")
unfolding kids_of digits same largest_number compatible assignable cell_limit is_too_large reached declaration_in declaration lookup find rule decorate own routines_in routines_of outside_of own_entries errors_of heading_marks annotated routine_around attributes_at expression_type opened_at field_of meant_in meant routines_with_key meaning_in shape_at type_in type_at path_text key_text errors_text decls_text uses_text expr_text disagreement
expr-no-place-2 = refl

pub expr-no-place-3 : expr_text tree-expr-no-place (3 ∷ 5 ∷ 1 ∷ 1 ∷ 2 ∷ []) ≡ (codes "not an expression\n")
unfolding kids_of digits same largest_number compatible assignable cell_limit is_too_large reached declaration_in declaration lookup find rule decorate own routines_in routines_of outside_of own_entries errors_of heading_marks annotated routine_around attributes_at expression_type opened_at field_of meant_in meant routines_with_key meaning_in shape_at type_in type_at path_text key_text errors_text decls_text uses_text expr_text disagreement
expr-no-place-3 = refl

pub expr-no-place-4 : expr_text tree-expr-no-place (3 ∷ 5 ∷ 1 ∷ 1 ∷ 1 ∷ []) ≡ (codes "not an expression\n")
unfolding kids_of digits same largest_number compatible assignable cell_limit is_too_large reached declaration_in declaration lookup find rule decorate own routines_in routines_of outside_of own_entries errors_of heading_marks annotated routine_around attributes_at expression_type opened_at field_of meant_in meant routines_with_key meaning_in shape_at type_in type_at path_text key_text errors_text decls_text uses_text expr_text disagreement
expr-no-place-4 = refl

pub expr-no-place-5 : expr_text tree-expr-no-place (3 ∷ 1 ∷ 1 ∷ 2 ∷ []) ≡ (codes "not an expression\n")
unfolding kids_of digits same largest_number compatible assignable cell_limit is_too_large reached declaration_in declaration lookup find rule decorate own routines_in routines_of outside_of own_entries errors_of heading_marks annotated routine_around attributes_at expression_type opened_at field_of meant_in meant routines_with_key meaning_in shape_at type_in type_at path_text key_text errors_text decls_text uses_text expr_text disagreement
expr-no-place-5 = refl

pub expr-no-place-6 : expr_text tree-expr-no-place [] ≡ (codes "not an expression\n")
unfolding kids_of digits same largest_number compatible assignable cell_limit is_too_large reached declaration_in declaration lookup find rule decorate own routines_in routines_of outside_of own_entries errors_of heading_marks annotated routine_around attributes_at expression_type opened_at field_of meant_in meant routines_with_key meaning_in shape_at type_in type_at path_text key_text errors_text decls_text uses_text expr_text disagreement
expr-no-place-6 = refl

pub expr-no-place-7 : expr_text tree-expr-no-place (3 ∷ 5 ∷ 1 ∷ 1 ∷ 2 ∷ 1 ∷ 1 ∷ []) ≡ (codes "not an expression\n")
unfolding kids_of digits same largest_number compatible assignable cell_limit is_too_large reached declaration_in declaration lookup find rule decorate own routines_in routines_of outside_of own_entries errors_of heading_marks annotated routine_around attributes_at expression_type opened_at field_of meant_in meant routines_with_key meaning_in shape_at type_in type_at path_text key_text errors_text decls_text uses_text expr_text disagreement
expr-no-place-7 = refl

pub expr-no-place-8 : expr_text tree-expr-no-place (3 ∷ 5 ∷ 1 ∷ 1 ∷ 2 ∷ 1 ∷ []) ≡ (codes "ref i integer\n")
unfolding kids_of digits same largest_number compatible assignable cell_limit is_too_large reached declaration_in declaration lookup find rule decorate own routines_in routines_of outside_of own_entries errors_of heading_marks annotated routine_around attributes_at expression_type opened_at field_of meant_in meant routines_with_key meaning_in shape_at type_in type_at path_text key_text errors_text decls_text uses_text expr_text disagreement
expr-no-place-8 = refl
