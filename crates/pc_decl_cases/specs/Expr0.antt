-- Programs with the texts of their views.
use Rattle.std.specs.Prelude.{◌≡◌, [], ◌∷◌, codes}
use Rattle.std.proofs.Common.{refl}
use Rattle.std.specs.Fmt.{digits}
use Rattle.pc_syntax.specs.Plain.{Nil, Cons, Plain, kids_of}
use Rattle.pc_syntax.specs.declared.kind.Kind.TheVariants as kind
use Rattle.pc_syntax.specs.declared.sort.Sort.TheVariants as sort
use Rattle.pc_types.specs.Sameness.{same}
use Rattle.pc_types.specs.TypeClasses.{largest_number}
use Rattle.pc_types.specs.Compatibility.{compatible, assignable}
use Rattle.pc_types.specs.Sizes.{cell_limit, is_too_large}
use Rattle.pc_types.specs.Domains.{reached}
use Rattle.pc_scope.specs.Lookup.{declaration_in, declaration, lookup}
use Rattle.pc_rules.specs.Meanings.{find}
use Rattle.pc_rules.specs.Decorated.{rule, decorate}
use Rattle.pc_rules.specs.OwnBlock.{own}
use Rattle.pc_rules.specs.RoutineList.{routines_in, routines_of}
use Rattle.pc_rules.specs.Outsides.{outside_of}
use Rattle.pc_rules.specs.Errors.{own_entries, errors_of}
use Rattle.pc_rules.specs.Routines.{heading_marks}
use Rattle.pc_decl.specs.Annotated.{annotated}
use Rattle.pc_decl.specs.Found.{routine_around, attributes_at}
use Rattle.pc_decl.specs.Roles.{expression_type}
use Rattle.pc_decl.specs.Uses.{opened_at}
use Rattle.pc_decl.specs.Records.{field_of}
use Rattle.pc_decl.specs.Meant.{meant_in, meant}
use Rattle.pc_decl.specs.Declared.{routines_with_key, meaning_in}
use Rattle.pc_decl.specs.TypeAt.{shape_at, type_in, type_at}
use Rattle.pc_decl.specs.Shown.{path_text, key_text}
use Rattle.pc_decl.specs.ErrorsText.{errors_text}
use Rattle.pc_decl.specs.DeclsText.{decls_text}
use Rattle.pc_decl.specs.UsesText.{uses_text}
use Rattle.pc_decl.specs.ExprText.{expr_text}
use Rattle.pc_decl_cases.specs.Agreement.{disagreement, Agrees}

-- expr: index, select and deref; the word of a select is its field's name as written.
abbrev pub tree-expr-accesses : Plain
tree-expr-accesses = record { kind = kind.Program; word = []; notes = []; kids = (Cons kind.Name (codes "p") [] Nil (Cons kind.Heads [] [] Nil (Cons kind.Block [] [] (Cons kind.Consts [] [] Nil (Cons kind.Types [] [] (Cons kind.Typedef [] [] (Cons kind.Name (codes "n") [] Nil (Cons kind.Record [] [] (Cons kind.Fields [] [] (Cons kind.Field [] [] (Cons kind.Names [] [] (Cons kind.Name (codes "Val") [] Nil Nil) (Cons kind.Tname [] [] (Cons kind.Name (codes "integer") [] Nil Nil) Nil)) Nil) Nil) Nil)) Nil) (Cons kind.Vars [] [] (Cons kind.Vardef [] [] (Cons kind.Names [] [] (Cons kind.Name (codes "a") [] Nil Nil) (Cons kind.Array [] [] (Cons kind.Indexes [] [] (Cons kind.Subrange [] [] (Cons kind.Cnumber (codes "1") [] Nil (Cons kind.Cnumber (codes "3") [] Nil Nil)) Nil) (Cons kind.Tname [] [] (Cons kind.Name (codes "n") [] Nil Nil) Nil)) Nil)) (Cons kind.Vardef [] [] (Cons kind.Names [] [] (Cons kind.Name (codes "q") [] Nil Nil) (Cons kind.Pointer [] [] (Cons kind.Name (codes "n") [] Nil Nil) Nil)) Nil)) (Cons kind.Routines [] [] Nil (Cons kind.Compound [] [] (Cons kind.Stmts [] [] (Cons kind.Assign [] [] (Cons kind.Select [] [] (Cons kind.Index [] [] (Cons kind.Ref [] [] (Cons kind.Name (codes "a") [] Nil Nil) (Cons kind.Exprs [] [] (Cons kind.Number (codes "1") [] Nil Nil) Nil)) (Cons kind.Name (codes "VAL") [] Nil Nil)) (Cons kind.Select [] [] (Cons kind.Deref [] [] (Cons kind.Ref [] [] (Cons kind.Name (codes "q") [] Nil Nil) Nil) (Cons kind.Name (codes "val") [] Nil Nil)) Nil)) Nil) Nil) Nil))))) Nil))) }

pub agreement-expr-accesses : disagreement tree-expr-accesses ≡ Agrees
unfolding kids_of digits same largest_number compatible assignable cell_limit is_too_large reached declaration_in declaration lookup find rule decorate own routines_in routines_of outside_of own_entries errors_of heading_marks annotated routine_around attributes_at expression_type opened_at field_of meant_in meant routines_with_key meaning_in shape_at type_in type_at path_text key_text errors_text decls_text uses_text expr_text disagreement
agreement-expr-accesses = refl

pub expr-accesses-1 : expr_text tree-expr-accesses (3 ∷ 5 ∷ 1 ∷ 1 ∷ 1 ∷ []) ≡ (codes "select VAL integer\n  index record val: integer end\n    ref a array [1..3] of record val: integer end\n    number 1 integer\n")
unfolding kids_of digits same largest_number compatible assignable cell_limit is_too_large reached declaration_in declaration lookup find rule decorate own routines_in routines_of outside_of own_entries errors_of heading_marks annotated routine_around attributes_at expression_type opened_at field_of meant_in meant routines_with_key meaning_in shape_at type_in type_at path_text key_text errors_text decls_text uses_text expr_text disagreement
expr-accesses-1 = refl

pub expr-accesses-2 : expr_text tree-expr-accesses (3 ∷ 5 ∷ 1 ∷ 1 ∷ 2 ∷ []) ≡ (codes "select val integer\n  deref record val: integer end\n    ref q ^n\n")
unfolding kids_of digits same largest_number compatible assignable cell_limit is_too_large reached declaration_in declaration lookup find rule decorate own routines_in routines_of outside_of own_entries errors_of heading_marks annotated routine_around attributes_at expression_type opened_at field_of meant_in meant routines_with_key meaning_in shape_at type_in type_at path_text key_text errors_text decls_text uses_text expr_text disagreement
expr-accesses-2 = refl

-- expr: a variable whose type has an error, a pointer to a bad domain, a field of such a record.
abbrev pub tree-expr-bad-types : Plain
tree-expr-bad-types = record { kind = kind.Program; word = []; notes = []; kids = (Cons kind.Name (codes "p") [] Nil (Cons kind.Heads [] [] Nil (Cons kind.Block [] [] (Cons kind.Consts [] [] Nil (Cons kind.Types [] [] (Cons kind.Typedef [] [] (Cons kind.Name (codes "l") [] Nil (Cons kind.Pointer [] [] (Cons kind.Name (codes "n") [] Nil Nil) Nil)) (Cons kind.Typedef [] [] (Cons kind.Name (codes "n") [] Nil (Cons kind.Record [] [] (Cons kind.Fields [] [] (Cons kind.Field [] [] (Cons kind.Names [] [] (Cons kind.Name (codes "v") [] Nil Nil) (Cons kind.Tname [] [] (Cons kind.Name (codes "t") [] Nil Nil) Nil)) Nil) Nil) Nil)) Nil)) (Cons kind.Vars [] [] (Cons kind.Vardef [] [] (Cons kind.Names [] [] (Cons kind.Name (codes "a") [] Nil Nil) (Cons kind.Tname [] [] (Cons kind.Name (codes "t") [] Nil Nil) Nil)) (Cons kind.Vardef [] [] (Cons kind.Names [] [] (Cons kind.Name (codes "q") [] Nil Nil) (Cons kind.Tname [] [] (Cons kind.Name (codes "l") [] Nil Nil) Nil)) (Cons kind.Vardef [] [] (Cons kind.Names [] [] (Cons kind.Name (codes "r") [] Nil Nil) (Cons kind.Record [] [] (Cons kind.Fields [] [] (Cons kind.Field [] [] (Cons kind.Names [] [] (Cons kind.Name (codes "x") [] Nil Nil) (Cons kind.Tname [] [] (Cons kind.Name (codes "t") [] Nil Nil) Nil)) (Cons kind.Field [] [] (Cons kind.Names [] [] (Cons kind.Name (codes "z") [] Nil Nil) (Cons kind.Tname [] [] (Cons kind.Name (codes "char") [] Nil Nil) Nil)) Nil)) Nil) Nil)) Nil))) (Cons kind.Routines [] [] Nil (Cons kind.Compound [] [] (Cons kind.Stmts [] [] (Cons kind.Assign [] [] (Cons kind.Ref [] [] (Cons kind.Name (codes "a") [] Nil Nil) (Cons kind.Number (codes "1") [] Nil Nil)) (Cons kind.Assign [] [] (Cons kind.Select [] [] (Cons kind.Deref [] [] (Cons kind.Ref [] [] (Cons kind.Name (codes "q") [] Nil Nil) Nil) (Cons kind.Name (codes "v") [] Nil Nil)) (Cons kind.Select [] [] (Cons kind.Ref [] [] (Cons kind.Name (codes "r") [] Nil Nil) (Cons kind.Name (codes "z") [] Nil Nil)) Nil)) Nil)) Nil) Nil))))) Nil))) }

pub agreement-expr-bad-types : disagreement tree-expr-bad-types ≡ Agrees
unfolding kids_of digits same largest_number compatible assignable cell_limit is_too_large reached declaration_in declaration lookup find rule decorate own routines_in routines_of outside_of own_entries errors_of heading_marks annotated routine_around attributes_at expression_type opened_at field_of meant_in meant routines_with_key meaning_in shape_at type_in type_at path_text key_text errors_text decls_text uses_text expr_text disagreement
agreement-expr-bad-types = refl

pub expr-bad-types-1 : expr_text tree-expr-bad-types (3 ∷ 5 ∷ 1 ∷ 1 ∷ 1 ∷ []) ≡ (codes "ref a ?\n")
unfolding kids_of digits same largest_number compatible assignable cell_limit is_too_large reached declaration_in declaration lookup find rule decorate own routines_in routines_of outside_of own_entries errors_of heading_marks annotated routine_around attributes_at expression_type opened_at field_of meant_in meant routines_with_key meaning_in shape_at type_in type_at path_text key_text errors_text decls_text uses_text expr_text disagreement
expr-bad-types-1 = refl

pub expr-bad-types-2 : expr_text tree-expr-bad-types (3 ∷ 5 ∷ 1 ∷ 2 ∷ 1 ∷ []) ≡ (codes "select v ?\n  deref ?\n    ref q ?\n")
unfolding kids_of digits same largest_number compatible assignable cell_limit is_too_large reached declaration_in declaration lookup find rule decorate own routines_in routines_of outside_of own_entries errors_of heading_marks annotated routine_around attributes_at expression_type opened_at field_of meant_in meant routines_with_key meaning_in shape_at type_in type_at path_text key_text errors_text decls_text uses_text expr_text disagreement
expr-bad-types-2 = refl

pub expr-bad-types-3 : expr_text tree-expr-bad-types (3 ∷ 5 ∷ 1 ∷ 2 ∷ 2 ∷ []) ≡ (codes "select z ?\n  ref r ?\n")
unfolding kids_of digits same largest_number compatible assignable cell_limit is_too_large reached declaration_in declaration lookup find rule decorate own routines_in routines_of outside_of own_entries errors_of heading_marks annotated routine_around attributes_at expression_type opened_at field_of meant_in meant routines_with_key meaning_in shape_at type_in type_at path_text key_text errors_text decls_text uses_text expr_text disagreement
expr-bad-types-3 = refl

-- expr: calls declared and required, a function without arguments, an enumerated constant, a constant.
abbrev pub tree-expr-calls : Plain
tree-expr-calls = record { kind = kind.Program; word = []; notes = []; kids = (Cons kind.Name (codes "p") [] Nil (Cons kind.Heads [] [] Nil (Cons kind.Block [] [] (Cons kind.Consts [] [] (Cons kind.Constdef [] [] (Cons kind.Name (codes "k") [] Nil (Cons kind.Cstring (codes "'hi'") [] Nil Nil)) Nil) (Cons kind.Types [] [] (Cons kind.Typedef [] [] (Cons kind.Name (codes "c") [] Nil (Cons kind.Enum [] [] (Cons kind.Names [] [] (Cons kind.Name (codes "red") [] Nil (Cons kind.Name (codes "green") [] Nil Nil)) Nil) Nil)) Nil) (Cons kind.Vars [] [] (Cons kind.Vardef [] [] (Cons kind.Names [] [] (Cons kind.Name (codes "x") [] Nil Nil) (Cons kind.Tname [] [] (Cons kind.Name (codes "c") [] Nil Nil) Nil)) (Cons kind.Vardef [] [] (Cons kind.Names [] [] (Cons kind.Name (codes "i") [] Nil Nil) (Cons kind.Tname [] [] (Cons kind.Name (codes "integer") [] Nil Nil) Nil)) Nil)) (Cons kind.Routines [] [] (Cons kind.Function [] [] (Cons kind.Name (codes "f") [] Nil (Cons kind.Params [] [] Nil (Cons kind.Name (codes "char") [] Nil (Cons kind.Block [] [] (Cons kind.Consts [] [] Nil (Cons kind.Types [] [] Nil (Cons kind.Vars [] [] Nil (Cons kind.Routines [] [] Nil (Cons kind.Compound [] [] (Cons kind.Stmts [] [] (Cons kind.Assign [] [] (Cons kind.Ref [] [] (Cons kind.Name (codes "f") [] Nil Nil) (Cons kind.Text (codes "'x'") [] Nil Nil)) Nil) Nil) Nil))))) Nil)))) (Cons kind.Function [] [] (Cons kind.Name (codes "g") [] Nil (Cons kind.Params [] [] (Cons kind.Valparam [] [] (Cons kind.Names [] [] (Cons kind.Name (codes "a") [] Nil Nil) (Cons kind.Name (codes "c") [] Nil Nil)) (Cons kind.Valparam [] [] (Cons kind.Names [] [] (Cons kind.Name (codes "b") [] Nil Nil) (Cons kind.Name (codes "integer") [] Nil Nil)) Nil)) (Cons kind.Name (codes "integer") [] Nil (Cons kind.Block [] [] (Cons kind.Consts [] [] Nil (Cons kind.Types [] [] Nil (Cons kind.Vars [] [] Nil (Cons kind.Routines [] [] Nil (Cons kind.Compound [] [] (Cons kind.Stmts [] [] (Cons kind.Assign [] [] (Cons kind.Ref [] [] (Cons kind.Name (codes "g") [] Nil Nil) (Cons kind.Call [] [] (Cons kind.Name (codes "ord") [] Nil (Cons kind.Exprs [] [] (Cons kind.Ref [] [] (Cons kind.Name (codes "a") [] Nil Nil) Nil) Nil)) Nil)) Nil) Nil) Nil))))) Nil)))) Nil)) (Cons kind.Compound [] [] (Cons kind.Stmts [] [] (Cons kind.Assign [] [] (Cons kind.Ref [] [] (Cons kind.Name (codes "i") [] Nil Nil) (Cons kind.Add (codes "+") [] (Cons kind.Call [] [] (Cons kind.Name (codes "g") [] Nil (Cons kind.Exprs [] [] (Cons kind.Call [] [] (Cons kind.Name (codes "succ") [] Nil (Cons kind.Exprs [] [] (Cons kind.Ref [] [] (Cons kind.Name (codes "red") [] Nil Nil) Nil) Nil)) (Cons kind.Call [] [] (Cons kind.Name (codes "ord") [] Nil (Cons kind.Exprs [] [] (Cons kind.Ref [] [] (Cons kind.Name (codes "f") [] Nil Nil) Nil) Nil)) Nil)) Nil)) (Cons kind.Call [] [] (Cons kind.Name (codes "abs") [] Nil (Cons kind.Exprs [] [] (Cons kind.Sign (codes "-") [] (Cons kind.Number (codes "1") [] Nil Nil) Nil) Nil)) Nil)) Nil)) Nil) Nil) Nil))))) Nil))) }

pub agreement-expr-calls : disagreement tree-expr-calls ≡ Agrees
unfolding kids_of digits same largest_number compatible assignable cell_limit is_too_large reached declaration_in declaration lookup find rule decorate own routines_in routines_of outside_of own_entries errors_of heading_marks annotated routine_around attributes_at expression_type opened_at field_of meant_in meant routines_with_key meaning_in shape_at type_in type_at path_text key_text errors_text decls_text uses_text expr_text disagreement
agreement-expr-calls = refl

pub expr-calls : expr_text tree-expr-calls (3 ∷ 5 ∷ 1 ∷ 1 ∷ 2 ∷ []) ≡ (codes "add + integer\n  call g integer\n    call succ (red, green)\n      ref red (red, green)\n    call ord integer\n      ref f char\n  call abs integer\n    sign - integer\n      number 1 integer\n")
unfolding kids_of digits same largest_number compatible assignable cell_limit is_too_large reached declaration_in declaration lookup find rule decorate own routines_in routines_of outside_of own_entries errors_of heading_marks annotated routine_around attributes_at expression_type opened_at field_of meant_in meant routines_with_key meaning_in shape_at type_in type_at path_text key_text errors_text decls_text uses_text expr_text disagreement
expr-calls = refl

-- expr: a part with an entry and all around it have ?; a part that the context finds wrong keeps its type.
abbrev pub tree-expr-errors : Plain
tree-expr-errors = record { kind = kind.Program; word = []; notes = []; kids = (Cons kind.Name (codes "p") [] Nil (Cons kind.Heads [] [] Nil (Cons kind.Block [] [] (Cons kind.Consts [] [] Nil (Cons kind.Types [] [] Nil (Cons kind.Vars [] [] (Cons kind.Vardef [] [] (Cons kind.Names [] [] (Cons kind.Name (codes "i") [] Nil Nil) (Cons kind.Tname [] [] (Cons kind.Name (codes "integer") [] Nil Nil) Nil)) Nil) (Cons kind.Routines [] [] Nil (Cons kind.Compound [] [] (Cons kind.Stmts [] [] (Cons kind.Assign [] [] (Cons kind.Ref [] [] (Cons kind.Name (codes "i") [] Nil Nil) (Cons kind.Add (codes "+") [] (Cons kind.Number (codes "1") [] Nil (Cons kind.Parens [] [] (Cons kind.Mul (codes "*") [] (Cons kind.Ref [] [] (Cons kind.Name (codes "true") [] Nil Nil) (Cons kind.Ref [] [] (Cons kind.Name (codes "y") [] Nil Nil) Nil)) Nil) Nil)) Nil)) (Cons kind.If [] [] (Cons kind.Ref [] [] (Cons kind.Name (codes "i") [] Nil Nil) (Cons kind.Empty [] [] Nil Nil)) (Cons kind.Assign [] [] (Cons kind.Ref [] [] (Cons kind.Name (codes "i") [] Nil Nil) (Cons kind.Call [] [] (Cons kind.Name (codes "abs") [] Nil (Cons kind.Exprs [] [] (Cons kind.Text (codes "'x'") [] Nil Nil) Nil)) Nil)) Nil))) Nil) Nil))))) Nil))) }

pub agreement-expr-errors : disagreement tree-expr-errors ≡ Agrees
unfolding kids_of digits same largest_number compatible assignable cell_limit is_too_large reached declaration_in declaration lookup find rule decorate own routines_in routines_of outside_of own_entries errors_of heading_marks annotated routine_around attributes_at expression_type opened_at field_of meant_in meant routines_with_key meaning_in shape_at type_in type_at path_text key_text errors_text decls_text uses_text expr_text disagreement
agreement-expr-errors = refl

pub expr-errors-1 : expr_text tree-expr-errors (3 ∷ 5 ∷ 1 ∷ 1 ∷ 2 ∷ []) ≡ (codes "add + ?\n  number 1 integer\n  parens ?\n    mul * ?\n      ref true boolean\n      ref y ?\n")
unfolding kids_of digits same largest_number compatible assignable cell_limit is_too_large reached declaration_in declaration lookup find rule decorate own routines_in routines_of outside_of own_entries errors_of heading_marks annotated routine_around attributes_at expression_type opened_at field_of meant_in meant routines_with_key meaning_in shape_at type_in type_at path_text key_text errors_text decls_text uses_text expr_text disagreement
expr-errors-1 = refl

pub expr-errors-2 : expr_text tree-expr-errors (3 ∷ 5 ∷ 1 ∷ 2 ∷ 1 ∷ []) ≡ (codes "ref i integer\n")
unfolding kids_of digits same largest_number compatible assignable cell_limit is_too_large reached declaration_in declaration lookup find rule decorate own routines_in routines_of outside_of own_entries errors_of heading_marks annotated routine_around attributes_at expression_type opened_at field_of meant_in meant routines_with_key meaning_in shape_at type_in type_at path_text key_text errors_text decls_text uses_text expr_text disagreement
expr-errors-2 = refl

pub expr-errors-3 : expr_text tree-expr-errors (3 ∷ 5 ∷ 1 ∷ 3 ∷ 2 ∷ []) ≡ (codes "call abs ?\n  text 'x' char\n")
unfolding kids_of digits same largest_number compatible assignable cell_limit is_too_large reached declaration_in declaration lookup find rule decorate own routines_in routines_of outside_of own_entries errors_of heading_marks annotated routine_around attributes_at expression_type opened_at field_of meant_in meant routines_with_key meaning_in shape_at type_in type_at path_text key_text errors_text decls_text uses_text expr_text disagreement
expr-errors-3 = refl

-- expr: the files input and output as first arguments have ?.
abbrev pub tree-expr-files : Plain
tree-expr-files = record { kind = kind.Program; word = []; notes = []; kids = (Cons kind.Name (codes "p") [] Nil (Cons kind.Heads [] [] Nil (Cons kind.Block [] [] (Cons kind.Consts [] [] Nil (Cons kind.Types [] [] Nil (Cons kind.Vars [] [] (Cons kind.Vardef [] [] (Cons kind.Names [] [] (Cons kind.Name (codes "c") [] Nil Nil) (Cons kind.Tname [] [] (Cons kind.Name (codes "char") [] Nil Nil) Nil)) Nil) (Cons kind.Routines [] [] Nil (Cons kind.Compound [] [] (Cons kind.Stmts [] [] (Cons kind.Proc [] [] (Cons kind.Name (codes "read") [] Nil (Cons kind.Args [] [] (Cons kind.Ref [] [] (Cons kind.Name (codes "input") [] Nil Nil) (Cons kind.Ref [] [] (Cons kind.Name (codes "c") [] Nil Nil) Nil)) Nil)) (Cons kind.Proc [] [] (Cons kind.Name (codes "write") [] Nil (Cons kind.Args [] [] (Cons kind.Ref [] [] (Cons kind.Name (codes "output") [] Nil Nil) (Cons kind.Ref [] [] (Cons kind.Name (codes "c") [] Nil Nil) Nil)) Nil)) (Cons kind.If [] [] (Cons kind.Call [] [] (Cons kind.Name (codes "eof") [] Nil (Cons kind.Exprs [] [] (Cons kind.Ref [] [] (Cons kind.Name (codes "input") [] Nil Nil) Nil) Nil)) (Cons kind.Empty [] [] Nil Nil)) Nil))) Nil) Nil))))) Nil))) }

pub agreement-expr-files : disagreement tree-expr-files ≡ Agrees
unfolding kids_of digits same largest_number compatible assignable cell_limit is_too_large reached declaration_in declaration lookup find rule decorate own routines_in routines_of outside_of own_entries errors_of heading_marks annotated routine_around attributes_at expression_type opened_at field_of meant_in meant routines_with_key meaning_in shape_at type_in type_at path_text key_text errors_text decls_text uses_text expr_text disagreement
agreement-expr-files = refl

pub expr-files-1 : expr_text tree-expr-files (3 ∷ 5 ∷ 1 ∷ 1 ∷ 2 ∷ 1 ∷ []) ≡ (codes "ref input ?\n")
unfolding kids_of digits same largest_number compatible assignable cell_limit is_too_large reached declaration_in declaration lookup find rule decorate own routines_in routines_of outside_of own_entries errors_of heading_marks annotated routine_around attributes_at expression_type opened_at field_of meant_in meant routines_with_key meaning_in shape_at type_in type_at path_text key_text errors_text decls_text uses_text expr_text disagreement
expr-files-1 = refl

pub expr-files-2 : expr_text tree-expr-files (3 ∷ 5 ∷ 1 ∷ 2 ∷ 2 ∷ 1 ∷ []) ≡ (codes "ref output ?\n")
unfolding kids_of digits same largest_number compatible assignable cell_limit is_too_large reached declaration_in declaration lookup find rule decorate own routines_in routines_of outside_of own_entries errors_of heading_marks annotated routine_around attributes_at expression_type opened_at field_of meant_in meant routines_with_key meaning_in shape_at type_in type_at path_text key_text errors_text decls_text uses_text expr_text disagreement
expr-files-2 = refl

pub expr-files-3 : expr_text tree-expr-files (3 ∷ 5 ∷ 1 ∷ 3 ∷ 1 ∷ []) ≡ (codes "call eof boolean\n  ref input ?\n")
unfolding kids_of digits same largest_number compatible assignable cell_limit is_too_large reached declaration_in declaration lookup find rule decorate own routines_in routines_of outside_of own_entries errors_of heading_marks annotated routine_around attributes_at expression_type opened_at field_of meant_in meant routines_with_key meaning_in shape_at type_in type_at path_text key_text errors_text decls_text uses_text expr_text disagreement
expr-files-3 = refl

-- expr: a hole as the name shows ?name as the word.
abbrev pub tree-expr-hole-names : Plain
tree-expr-hole-names = record { kind = kind.Program; word = []; notes = []; kids = (Cons kind.Name (codes "p") [] Nil (Cons kind.Heads [] [] Nil (Cons kind.Block [] [] (Cons kind.Consts [] [] Nil (Cons kind.Types [] [] Nil (Cons kind.Vars [] [] (Cons kind.Vardef [] [] (Cons kind.Names [] [] (Cons kind.Name (codes "r") [] Nil Nil) (Cons kind.Record [] [] (Cons kind.Fields [] [] (Cons kind.Field [] [] (Cons kind.Names [] [] (Cons kind.Name (codes "a") [] Nil Nil) (Cons kind.Tname [] [] (Cons kind.Name (codes "char") [] Nil Nil) Nil)) Nil) Nil) Nil)) (Cons kind.Vardef [] [] (Cons kind.Names [] [] (Cons kind.Name (codes "i") [] Nil Nil) (Cons kind.Tname [] [] (Cons kind.Name (codes "integer") [] Nil Nil) Nil)) Nil)) (Cons kind.Routines [] [] Nil (Cons kind.Compound [] [] (Cons kind.Stmts [] [] (Cons kind.Assign [] [] (Cons kind.Ref [] [] (Cons kind.Name (codes "i") [] Nil Nil) (Cons kind.Add (codes "+") [] (Cons kind.Ref [] [] (Cons (kind.Hole sort.Name) [] [] Nil Nil) (Cons kind.Call [] [] (Cons (kind.Hole sort.Name) [] [] Nil (Cons kind.Exprs [] [] (Cons kind.Number (codes "1") [] Nil Nil) Nil)) Nil)) Nil)) (Cons kind.Assign [] [] (Cons kind.Select [] [] (Cons kind.Ref [] [] (Cons kind.Name (codes "r") [] Nil Nil) (Cons (kind.Hole sort.Name) [] [] Nil Nil)) (Cons kind.Text (codes "'x'") [] Nil Nil)) Nil)) Nil) Nil))))) Nil))) }

pub agreement-expr-hole-names : disagreement tree-expr-hole-names ≡ Agrees
unfolding kids_of digits same largest_number compatible assignable cell_limit is_too_large reached declaration_in declaration lookup find rule decorate own routines_in routines_of outside_of own_entries errors_of heading_marks annotated routine_around attributes_at expression_type opened_at field_of meant_in meant routines_with_key meaning_in shape_at type_in type_at path_text key_text errors_text decls_text uses_text expr_text disagreement
agreement-expr-hole-names = refl

pub expr-hole-names-1 : expr_text tree-expr-hole-names (3 ∷ 5 ∷ 1 ∷ 1 ∷ 2 ∷ []) ≡ (codes "add + ?\n  ref ?name ?\n  call ?name ?\n    number 1 integer\n")
unfolding kids_of digits same largest_number compatible assignable cell_limit is_too_large reached declaration_in declaration lookup find rule decorate own routines_in routines_of outside_of own_entries errors_of heading_marks annotated routine_around attributes_at expression_type opened_at field_of meant_in meant routines_with_key meaning_in shape_at type_in type_at path_text key_text errors_text decls_text uses_text expr_text disagreement
expr-hole-names-1 = refl

pub expr-hole-names-2 : expr_text tree-expr-hole-names (3 ∷ 5 ∷ 1 ∷ 2 ∷ 1 ∷ []) ≡ (codes "select ?name ?\n  ref r record a: char end\n")
unfolding kids_of digits same largest_number compatible assignable cell_limit is_too_large reached declaration_in declaration lookup find rule decorate own routines_in routines_of outside_of own_entries errors_of heading_marks annotated routine_around attributes_at expression_type opened_at field_of meant_in meant routines_with_key meaning_in shape_at type_in type_at path_text key_text errors_text decls_text uses_text expr_text disagreement
expr-hole-names-2 = refl
