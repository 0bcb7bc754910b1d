-- Programs with the texts of their views.
use Rattle.std.specs.Prelude.{◌≡◌, [], ◌∷◌, codes}
use Rattle.std.proofs.Common.{refl}
use Rattle.std.specs.Fmt.{digits}
use Rattle.pc_syntax.specs.Plain.{Nil, Cons, Plain, kids_of}
use Rattle.pc_syntax.specs.declared.kind.Kind.TheVariants as kind
use Rattle.pc_types.specs.Sameness.{same}
use Rattle.pc_types.specs.TypeClasses.{largest_number}
use Rattle.pc_types.specs.Compatibility.{compatible, assignable}
use Rattle.pc_types.specs.Sizes.{cell_limit, is_too_large}
use Rattle.pc_types.specs.Domains.{reached}
use Rattle.pc_scope.specs.Lookup.{declaration_in, declaration, lookup}
use Rattle.pc_rules.specs.Meanings.{find}
use Rattle.pc_rules.specs.Decorated.{rule, decorate}
use Rattle.pc_rules.specs.OwnBlock.{own}
use Rattle.pc_rules.specs.RoutineList.{routines_in, routines_of}
use Rattle.pc_rules.specs.Outsides.{outside_of}
use Rattle.pc_rules.specs.Errors.{own_entries, errors_of}
use Rattle.pc_rules.specs.Routines.{heading_marks}
use Rattle.pc_decl.specs.Annotated.{annotated}
use Rattle.pc_decl.specs.Found.{routine_around, attributes_at}
use Rattle.pc_decl.specs.Roles.{expression_type}
use Rattle.pc_decl.specs.Uses.{opened_at}
use Rattle.pc_decl.specs.Records.{field_of}
use Rattle.pc_decl.specs.Meant.{meant_in, meant}
use Rattle.pc_decl.specs.Declared.{routines_with_key, meaning_in}
use Rattle.pc_decl.specs.TypeAt.{shape_at, type_in, type_at}
use Rattle.pc_decl.specs.Shown.{path_text, key_text}
use Rattle.pc_decl.specs.ErrorsText.{errors_text}
use Rattle.pc_decl.specs.DeclsText.{decls_text}
use Rattle.pc_decl.specs.UsesText.{uses_text}
use Rattle.pc_decl.specs.ExprText.{expr_text}
use Rattle.pc_decl_cases.specs.Agreement.{disagreement, Agrees}

-- expr: a width is a node of sort expression and has ?.
abbrev pub tree-expr-widths : Plain
tree-expr-widths = record { kind = kind.Program; word = []; notes = []; kids = (Cons kind.Name (codes "p") [] Nil (Cons kind.Heads [] [] Nil (Cons kind.Block [] [] (Cons kind.Consts [] [] Nil (Cons kind.Types [] [] Nil (Cons kind.Vars [] [] (Cons kind.Vardef [] [] (Cons kind.Names [] [] (Cons kind.Name (codes "i") [] Nil Nil) (Cons kind.Tname [] [] (Cons kind.Name (codes "integer") [] Nil Nil) Nil)) Nil) (Cons kind.Routines [] [] Nil (Cons kind.Compound [] [] (Cons kind.Stmts [] [] (Cons kind.Proc [] [] (Cons kind.Name (codes "write") [] Nil (Cons kind.Args [] [] (Cons kind.Width [] [] (Cons kind.Add (codes "+") [] (Cons kind.Ref [] [] (Cons kind.Name (codes "i") [] Nil Nil) (Cons kind.Number (codes "1") [] Nil Nil)) (Cons kind.Ref [] [] (Cons kind.Name (codes "i") [] Nil Nil) Nil)) Nil) Nil)) Nil) Nil) Nil))))) Nil))) }

pub agreement-expr-widths : disagreement tree-expr-widths ≡ Agrees
unfolding kids_of digits same largest_number compatible assignable cell_limit is_too_large reached declaration_in declaration lookup find rule decorate own routines_in routines_of outside_of own_entries errors_of heading_marks annotated routine_around attributes_at expression_type opened_at field_of meant_in meant routines_with_key meaning_in shape_at type_in type_at path_text key_text errors_text decls_text uses_text expr_text disagreement
agreement-expr-widths = refl

pub expr-widths : expr_text tree-expr-widths (3 ∷ 5 ∷ 1 ∷ 1 ∷ 2 ∷ 1 ∷ []) ≡ (codes "width ?\n  add + integer\n    ref i integer\n    number 1 integer\n  ref i integer\n")
unfolding kids_of digits same largest_number compatible assignable cell_limit is_too_large reached declaration_in declaration lookup find rule decorate own routines_in routines_of outside_of own_entries errors_of heading_marks annotated routine_around attributes_at expression_type opened_at field_of meant_in meant routines_with_key meaning_in shape_at type_in type_at path_text key_text errors_text decls_text uses_text expr_text disagreement
expr-widths = refl

-- expr: a field in a with has the field's type; outside the name means the variable.
abbrev pub tree-expr-with : Plain
tree-expr-with = record { kind = kind.Program; word = []; notes = []; kids = (Cons kind.Name (codes "p") [] Nil (Cons kind.Heads [] [] Nil (Cons kind.Block [] [] (Cons kind.Consts [] [] Nil (Cons kind.Types [] [] Nil (Cons kind.Vars [] [] (Cons kind.Vardef [] [] (Cons kind.Names [] [] (Cons kind.Name (codes "x") [] Nil Nil) (Cons kind.Tname [] [] (Cons kind.Name (codes "integer") [] Nil Nil) Nil)) (Cons kind.Vardef [] [] (Cons kind.Names [] [] (Cons kind.Name (codes "r") [] Nil Nil) (Cons kind.Record [] [] (Cons kind.Fields [] [] (Cons kind.Field [] [] (Cons kind.Names [] [] (Cons kind.Name (codes "x") [] Nil Nil) (Cons kind.Tname [] [] (Cons kind.Name (codes "char") [] Nil Nil) Nil)) Nil) Nil) Nil)) Nil)) (Cons kind.Routines [] [] Nil (Cons kind.Compound [] [] (Cons kind.Stmts [] [] (Cons kind.With [] [] (Cons kind.Accesses [] [] (Cons kind.Ref [] [] (Cons kind.Name (codes "r") [] Nil Nil) Nil) (Cons kind.Assign [] [] (Cons kind.Ref [] [] (Cons kind.Name (codes "x") [] Nil Nil) (Cons kind.Text (codes "'a'") [] Nil Nil)) Nil)) (Cons kind.Assign [] [] (Cons kind.Ref [] [] (Cons kind.Name (codes "x") [] Nil Nil) (Cons kind.Ref [] [] (Cons kind.Name (codes "x") [] Nil Nil) Nil)) Nil)) Nil) Nil))))) Nil))) }

pub agreement-expr-with : disagreement tree-expr-with ≡ Agrees
unfolding kids_of digits same largest_number compatible assignable cell_limit is_too_large reached declaration_in declaration lookup find rule decorate own routines_in routines_of outside_of own_entries errors_of heading_marks annotated routine_around attributes_at expression_type opened_at field_of meant_in meant routines_with_key meaning_in shape_at type_in type_at path_text key_text errors_text decls_text uses_text expr_text disagreement
agreement-expr-with = refl

pub expr-with-1 : expr_text tree-expr-with (3 ∷ 5 ∷ 1 ∷ 1 ∷ 2 ∷ 1 ∷ []) ≡ (codes "ref x char\n")
unfolding kids_of digits same largest_number compatible assignable cell_limit is_too_large reached declaration_in declaration lookup find rule decorate own routines_in routines_of outside_of own_entries errors_of heading_marks annotated routine_around attributes_at expression_type opened_at field_of meant_in meant routines_with_key meaning_in shape_at type_in type_at path_text key_text errors_text decls_text uses_text expr_text disagreement
expr-with-1 = refl

pub expr-with-2 : expr_text tree-expr-with (3 ∷ 5 ∷ 1 ∷ 2 ∷ 1 ∷ []) ≡ (codes "ref x integer\n")
unfolding kids_of digits same largest_number compatible assignable cell_limit is_too_large reached declaration_in declaration lookup find rule decorate own routines_in routines_of outside_of own_entries errors_of heading_marks annotated routine_around attributes_at expression_type opened_at field_of meant_in meant routines_with_key meaning_in shape_at type_in type_at path_text key_text errors_text decls_text uses_text expr_text disagreement
expr-with-2 = refl

-- expr: a call with a wrong number of arguments has no type; an argument that disagrees keeps its own.
abbrev pub tree-expr-wrong-count : Plain
tree-expr-wrong-count = record { kind = kind.Program; word = []; notes = []; kids = (Cons kind.Name (codes "p") [] Nil (Cons kind.Heads [] [] Nil (Cons kind.Block [] [] (Cons kind.Consts [] [] Nil (Cons kind.Types [] [] Nil (Cons kind.Vars [] [] (Cons kind.Vardef [] [] (Cons kind.Names [] [] (Cons kind.Name (codes "i") [] Nil Nil) (Cons kind.Tname [] [] (Cons kind.Name (codes "integer") [] Nil Nil) Nil)) Nil) (Cons kind.Routines [] [] (Cons kind.Function [] [] (Cons kind.Name (codes "f") [] Nil (Cons kind.Params [] [] (Cons kind.Valparam [] [] (Cons kind.Names [] [] (Cons kind.Name (codes "a") [] Nil Nil) (Cons kind.Name (codes "integer") [] Nil Nil)) Nil) (Cons kind.Name (codes "integer") [] Nil (Cons kind.Block [] [] (Cons kind.Consts [] [] Nil (Cons kind.Types [] [] Nil (Cons kind.Vars [] [] Nil (Cons kind.Routines [] [] Nil (Cons kind.Compound [] [] (Cons kind.Stmts [] [] (Cons kind.Assign [] [] (Cons kind.Ref [] [] (Cons kind.Name (codes "f") [] Nil Nil) (Cons kind.Ref [] [] (Cons kind.Name (codes "a") [] Nil Nil) Nil)) Nil) Nil) Nil))))) Nil)))) Nil) (Cons kind.Compound [] [] (Cons kind.Stmts [] [] (Cons kind.Assign [] [] (Cons kind.Ref [] [] (Cons kind.Name (codes "i") [] Nil Nil) (Cons kind.Call [] [] (Cons kind.Name (codes "f") [] Nil (Cons kind.Exprs [] [] (Cons kind.Number (codes "1") [] Nil (Cons kind.Number (codes "2") [] Nil Nil)) Nil)) Nil)) (Cons kind.Assign [] [] (Cons kind.Ref [] [] (Cons kind.Name (codes "i") [] Nil Nil) (Cons kind.Call [] [] (Cons kind.Name (codes "f") [] Nil (Cons kind.Exprs [] [] (Cons kind.Text (codes "'x'") [] Nil Nil) Nil)) Nil)) (Cons kind.Assign [] [] (Cons kind.Ref [] [] (Cons kind.Name (codes "i") [] Nil Nil) (Cons kind.Ref [] [] (Cons kind.Name (codes "f") [] Nil Nil) Nil)) Nil))) Nil) Nil))))) Nil))) }

pub agreement-expr-wrong-count : disagreement tree-expr-wrong-count ≡ Agrees
unfolding kids_of digits same largest_number compatible assignable cell_limit is_too_large reached declaration_in declaration lookup find rule decorate own routines_in routines_of outside_of own_entries errors_of heading_marks annotated routine_around attributes_at expression_type opened_at field_of meant_in meant routines_with_key meaning_in shape_at type_in type_at path_text key_text errors_text decls_text uses_text expr_text disagreement
agreement-expr-wrong-count = refl

pub expr-wrong-count-1 : expr_text tree-expr-wrong-count (3 ∷ 5 ∷ 1 ∷ 1 ∷ 2 ∷ []) ≡ (codes "call f ?\n  number 1 integer\n  number 2 integer\n")
unfolding kids_of digits same largest_number compatible assignable cell_limit is_too_large reached declaration_in declaration lookup find rule decorate own routines_in routines_of outside_of own_entries errors_of heading_marks annotated routine_around attributes_at expression_type opened_at field_of meant_in meant routines_with_key meaning_in shape_at type_in type_at path_text key_text errors_text decls_text uses_text expr_text disagreement
expr-wrong-count-1 = refl

pub expr-wrong-count-2 : expr_text tree-expr-wrong-count (3 ∷ 5 ∷ 1 ∷ 2 ∷ 2 ∷ []) ≡ (codes "call f ?\n  text 'x' char\n")
unfolding kids_of digits same largest_number compatible assignable cell_limit is_too_large reached declaration_in declaration lookup find rule decorate own routines_in routines_of outside_of own_entries errors_of heading_marks annotated routine_around attributes_at expression_type opened_at field_of meant_in meant routines_with_key meaning_in shape_at type_in type_at path_text key_text errors_text decls_text uses_text expr_text disagreement
expr-wrong-count-2 = refl

pub expr-wrong-count-3 : expr_text tree-expr-wrong-count (3 ∷ 5 ∷ 1 ∷ 3 ∷ 2 ∷ []) ≡ (codes "ref f ?\n")
unfolding kids_of digits same largest_number compatible assignable cell_limit is_too_large reached declaration_in declaration lookup find rule decorate own routines_in routines_of outside_of own_entries errors_of heading_marks annotated routine_around attributes_at expression_type opened_at field_of meant_in meant routines_with_key meaning_in shape_at type_in type_at path_text key_text errors_text decls_text uses_text expr_text disagreement
expr-wrong-count-3 = refl
