-- What the used names of a program mean; x@2 is the second name x in the text.
use Rattle.std.specs.Prelude.{◌≡◌, [], ◌∷◌, codes, Some, None}
use Rattle.std.proofs.Common.{refl}
use Rattle.std.specs.Fmt.{digits}
use Rattle.pc_syntax.specs.Plain.{Nil, Cons, Plain, kids_of}
use Rattle.pc_syntax.specs.declared.kind.Kind.TheVariants as kind
use Rattle.pc_syntax.specs.declared.sort.Sort.TheVariants as sort
use Rattle.pc_types.specs.Sameness.{same}
use Rattle.pc_types.specs.TypeClasses.{largest_number}
use Rattle.pc_types.specs.Compatibility.{compatible, assignable}
use Rattle.pc_types.specs.Sizes.{cell_limit, is_too_large}
use Rattle.pc_types.specs.Domains.{reached}
use Rattle.pc_scope.specs.Lookup.{declaration_in, declaration, lookup}
use Rattle.pc_rules.specs.Meanings.{find}
use Rattle.pc_rules.specs.Decorated.{rule, decorate}
use Rattle.pc_rules.specs.OwnBlock.{own}
use Rattle.pc_rules.specs.RoutineList.{routines_in, routines_of}
use Rattle.pc_rules.specs.Outsides.{outside_of}
use Rattle.pc_rules.specs.Errors.{own_entries, errors_of}
use Rattle.pc_rules.specs.Routines.{heading_marks}
use Rattle.pc_decl.specs.Annotated.{annotated}
use Rattle.pc_decl.specs.Found.{routine_around, attributes_at}
use Rattle.pc_decl.specs.Roles.{expression_type}
use Rattle.pc_decl.specs.Uses.{opened_at}
use Rattle.pc_decl.specs.Records.{field_of}
use Rattle.pc_decl.specs.Meant.{meant_in, meant}
use Rattle.pc_decl.specs.Declared.{routines_with_key, meaning_in}
use Rattle.pc_decl.specs.TypeAt.{shape_at, type_in, type_at}
use Rattle.pc_decl.specs.Shown.{path_text, key_text}
use Rattle.pc_decl.specs.ErrorsText.{errors_text}
use Rattle.pc_decl.specs.DeclsText.{decls_text}
use Rattle.pc_decl.specs.UsesText.{uses_text}
use Rattle.pc_decl.specs.ExprText.{expr_text}
use Rattle.pc_decl_cases.specs.Agreement.{disagreement, Agrees}

-- program p(input); const k = 3; type n = record v: integer; w: record v: char end; next: ^n end; var x, v: integer; r: n; q: ^n; X: char; procedure f(a: n); forward; procedure g; begin f(r); h end; procedure f; var b: n; begin a.v := b.w.v; with a, w do v := next end; procedure h; begin end; begin x := k; r.w.v := q^.v; with r do begin v := w.v; with w do v := x end; write(?name, y, maxint); r.z := r.w.next end.
abbrev pub tree-meant : Plain
tree-meant = record { kind = kind.Program; word = []; notes = []; kids = (Cons kind.Name (codes "p") [] Nil (Cons kind.Heads [] [] (Cons kind.Name (codes "input") [] Nil Nil) (Cons kind.Block [] [] (Cons kind.Consts [] [] (Cons kind.Constdef [] [] (Cons kind.Name (codes "k") [] Nil (Cons kind.Cnumber (codes "3") [] Nil Nil)) Nil) (Cons kind.Types [] [] (Cons kind.Typedef [] [] (Cons kind.Name (codes "n") [] Nil (Cons kind.Record [] [] (Cons kind.Fields [] [] (Cons kind.Field [] [] (Cons kind.Names [] [] (Cons kind.Name (codes "v") [] Nil Nil) (Cons kind.Tname [] [] (Cons kind.Name (codes "integer") [] Nil Nil) Nil)) (Cons kind.Field [] [] (Cons kind.Names [] [] (Cons kind.Name (codes "w") [] Nil Nil) (Cons kind.Record [] [] (Cons kind.Fields [] [] (Cons kind.Field [] [] (Cons kind.Names [] [] (Cons kind.Name (codes "v") [] Nil Nil) (Cons kind.Tname [] [] (Cons kind.Name (codes "char") [] Nil Nil) Nil)) Nil) Nil) Nil)) (Cons kind.Field [] [] (Cons kind.Names [] [] (Cons kind.Name (codes "next") [] Nil Nil) (Cons kind.Pointer [] [] (Cons kind.Name (codes "n") [] Nil Nil) Nil)) Nil))) Nil) Nil)) Nil) (Cons kind.Vars [] [] (Cons kind.Vardef [] [] (Cons kind.Names [] [] (Cons kind.Name (codes "x") [] Nil (Cons kind.Name (codes "v") [] Nil Nil)) (Cons kind.Tname [] [] (Cons kind.Name (codes "integer") [] Nil Nil) Nil)) (Cons kind.Vardef [] [] (Cons kind.Names [] [] (Cons kind.Name (codes "r") [] Nil Nil) (Cons kind.Tname [] [] (Cons kind.Name (codes "n") [] Nil Nil) Nil)) (Cons kind.Vardef [] [] (Cons kind.Names [] [] (Cons kind.Name (codes "q") [] Nil Nil) (Cons kind.Pointer [] [] (Cons kind.Name (codes "n") [] Nil Nil) Nil)) (Cons kind.Vardef [] [] (Cons kind.Names [] [] (Cons kind.Name (codes "X") [] Nil Nil) (Cons kind.Tname [] [] (Cons kind.Name (codes "char") [] Nil Nil) Nil)) Nil)))) (Cons kind.Routines [] [] (Cons kind.Procedure [] [] (Cons kind.Name (codes "f") [] Nil (Cons kind.Params [] [] (Cons kind.Valparam [] [] (Cons kind.Names [] [] (Cons kind.Name (codes "a") [] Nil Nil) (Cons kind.Name (codes "n") [] Nil Nil)) Nil) (Cons kind.Forward (codes "forward") [] Nil Nil))) (Cons kind.Procedure [] [] (Cons kind.Name (codes "g") [] Nil (Cons kind.Params [] [] Nil (Cons kind.Block [] [] (Cons kind.Consts [] [] Nil (Cons kind.Types [] [] Nil (Cons kind.Vars [] [] Nil (Cons kind.Routines [] [] Nil (Cons kind.Compound [] [] (Cons kind.Stmts [] [] (Cons kind.Proc [] [] (Cons kind.Name (codes "f") [] Nil (Cons kind.Args [] [] (Cons kind.Ref [] [] (Cons kind.Name (codes "r") [] Nil Nil) Nil) Nil)) (Cons kind.Proc [] [] (Cons kind.Name (codes "h") [] Nil (Cons kind.Args [] [] Nil Nil)) Nil)) Nil) Nil))))) Nil))) (Cons kind.Procedure [] [] (Cons kind.Name (codes "f") [] Nil (Cons kind.Params [] [] Nil (Cons kind.Block [] [] (Cons kind.Consts [] [] Nil (Cons kind.Types [] [] Nil (Cons kind.Vars [] [] (Cons kind.Vardef [] [] (Cons kind.Names [] [] (Cons kind.Name (codes "b") [] Nil Nil) (Cons kind.Tname [] [] (Cons kind.Name (codes "n") [] Nil Nil) Nil)) Nil) (Cons kind.Routines [] [] Nil (Cons kind.Compound [] [] (Cons kind.Stmts [] [] (Cons kind.Assign [] [] (Cons kind.Select [] [] (Cons kind.Ref [] [] (Cons kind.Name (codes "a") [] Nil Nil) (Cons kind.Name (codes "v") [] Nil Nil)) (Cons kind.Select [] [] (Cons kind.Select [] [] (Cons kind.Ref [] [] (Cons kind.Name (codes "b") [] Nil Nil) (Cons kind.Name (codes "w") [] Nil Nil)) (Cons kind.Name (codes "v") [] Nil Nil)) Nil)) (Cons kind.With [] [] (Cons kind.Accesses [] [] (Cons kind.Ref [] [] (Cons kind.Name (codes "a") [] Nil Nil) (Cons kind.Ref [] [] (Cons kind.Name (codes "w") [] Nil Nil) Nil)) (Cons kind.Assign [] [] (Cons kind.Ref [] [] (Cons kind.Name (codes "v") [] Nil Nil) (Cons kind.Ref [] [] (Cons kind.Name (codes "next") [] Nil Nil) Nil)) Nil)) Nil)) Nil) Nil))))) Nil))) (Cons kind.Procedure [] [] (Cons kind.Name (codes "h") [] Nil (Cons kind.Params [] [] Nil (Cons kind.Block [] [] (Cons kind.Consts [] [] Nil (Cons kind.Types [] [] Nil (Cons kind.Vars [] [] Nil (Cons kind.Routines [] [] Nil (Cons kind.Compound [] [] (Cons kind.Stmts [] [] (Cons kind.Empty [] [] Nil Nil) Nil) Nil))))) Nil))) Nil)))) (Cons kind.Compound [] [] (Cons kind.Stmts [] [] (Cons kind.Assign [] [] (Cons kind.Ref [] [] (Cons kind.Name (codes "x") [] Nil Nil) (Cons kind.Ref [] [] (Cons kind.Name (codes "k") [] Nil Nil) Nil)) (Cons kind.Assign [] [] (Cons kind.Select [] [] (Cons kind.Select [] [] (Cons kind.Ref [] [] (Cons kind.Name (codes "r") [] Nil Nil) (Cons kind.Name (codes "w") [] Nil Nil)) (Cons kind.Name (codes "v") [] Nil Nil)) (Cons kind.Select [] [] (Cons kind.Deref [] [] (Cons kind.Ref [] [] (Cons kind.Name (codes "q") [] Nil Nil) Nil) (Cons kind.Name (codes "v") [] Nil Nil)) Nil)) (Cons kind.With [] [] (Cons kind.Accesses [] [] (Cons kind.Ref [] [] (Cons kind.Name (codes "r") [] Nil Nil) Nil) (Cons kind.Compound [] [] (Cons kind.Stmts [] [] (Cons kind.Assign [] [] (Cons kind.Ref [] [] (Cons kind.Name (codes "v") [] Nil Nil) (Cons kind.Select [] [] (Cons kind.Ref [] [] (Cons kind.Name (codes "w") [] Nil Nil) (Cons kind.Name (codes "v") [] Nil Nil)) Nil)) (Cons kind.With [] [] (Cons kind.Accesses [] [] (Cons kind.Ref [] [] (Cons kind.Name (codes "w") [] Nil Nil) Nil) (Cons kind.Assign [] [] (Cons kind.Ref [] [] (Cons kind.Name (codes "v") [] Nil Nil) (Cons kind.Ref [] [] (Cons kind.Name (codes "x") [] Nil Nil) Nil)) Nil)) Nil)) Nil) Nil)) (Cons kind.Proc [] [] (Cons kind.Name (codes "write") [] Nil (Cons kind.Args [] [] (Cons kind.Ref [] [] (Cons (kind.Hole sort.Name) [] [] Nil Nil) (Cons kind.Ref [] [] (Cons kind.Name (codes "y") [] Nil Nil) (Cons kind.Ref [] [] (Cons kind.Name (codes "maxint") [] Nil Nil) Nil))) Nil)) (Cons kind.Assign [] [] (Cons kind.Select [] [] (Cons kind.Ref [] [] (Cons kind.Name (codes "r") [] Nil Nil) (Cons kind.Name (codes "z") [] Nil Nil)) (Cons kind.Select [] [] (Cons kind.Select [] [] (Cons kind.Ref [] [] (Cons kind.Name (codes "r") [] Nil Nil) (Cons kind.Name (codes "w") [] Nil Nil)) (Cons kind.Name (codes "next") [] Nil Nil)) Nil)) Nil))))) Nil) Nil))))) Nil))) }

pub agreement-meant : disagreement tree-meant ≡ Agrees
unfolding kids_of digits same largest_number compatible assignable cell_limit is_too_large reached declaration_in declaration lookup find rule decorate own routines_in routines_of outside_of own_entries errors_of heading_marks annotated routine_around attributes_at expression_type opened_at field_of meant_in meant routines_with_key meaning_in shape_at type_in type_at path_text key_text errors_text decls_text uses_text expr_text disagreement
agreement-meant = refl

-- the name k@2 means what k@1 declares
pub meant-k-2 : meant tree-meant (3 ∷ 5 ∷ 1 ∷ 1 ∷ 2 ∷ 1 ∷ []) ≡ Some (3 ∷ 1 ∷ 1 ∷ 1 ∷ [])
unfolding kids_of digits same largest_number compatible assignable cell_limit is_too_large reached declaration_in declaration lookup find rule decorate own routines_in routines_of outside_of own_entries errors_of heading_marks annotated routine_around attributes_at expression_type opened_at field_of meant_in meant routines_with_key meaning_in shape_at type_in type_at path_text key_text errors_text decls_text uses_text expr_text disagreement
meant-k-2 = refl

-- the name n@2 means what n@1 declares
pub meant-n-2 : meant tree-meant (3 ∷ 2 ∷ 1 ∷ 2 ∷ 1 ∷ 3 ∷ 2 ∷ 1 ∷ []) ≡ Some (3 ∷ 2 ∷ 1 ∷ 1 ∷ [])
unfolding kids_of digits same largest_number compatible assignable cell_limit is_too_large reached declaration_in declaration lookup find rule decorate own routines_in routines_of outside_of own_entries errors_of heading_marks annotated routine_around attributes_at expression_type opened_at field_of meant_in meant routines_with_key meaning_in shape_at type_in type_at path_text key_text errors_text decls_text uses_text expr_text disagreement
meant-n-2 = refl

-- the name n@3 means what n@1 declares
pub meant-n-3 : meant tree-meant (3 ∷ 3 ∷ 2 ∷ 2 ∷ 1 ∷ []) ≡ Some (3 ∷ 2 ∷ 1 ∷ 1 ∷ [])
unfolding kids_of digits same largest_number compatible assignable cell_limit is_too_large reached declaration_in declaration lookup find rule decorate own routines_in routines_of outside_of own_entries errors_of heading_marks annotated routine_around attributes_at expression_type opened_at field_of meant_in meant routines_with_key meaning_in shape_at type_in type_at path_text key_text errors_text decls_text uses_text expr_text disagreement
meant-n-3 = refl

-- the name n@5 means what n@1 declares
pub meant-n-5 : meant tree-meant (3 ∷ 4 ∷ 1 ∷ 2 ∷ 1 ∷ 2 ∷ []) ≡ Some (3 ∷ 2 ∷ 1 ∷ 1 ∷ [])
unfolding kids_of digits same largest_number compatible assignable cell_limit is_too_large reached declaration_in declaration lookup find rule decorate own routines_in routines_of outside_of own_entries errors_of heading_marks annotated routine_around attributes_at expression_type opened_at field_of meant_in meant routines_with_key meaning_in shape_at type_in type_at path_text key_text errors_text decls_text uses_text expr_text disagreement
meant-n-5 = refl

-- the name n@6 means what n@1 declares
pub meant-n-6 : meant tree-meant (3 ∷ 4 ∷ 3 ∷ 3 ∷ 3 ∷ 1 ∷ 2 ∷ 1 ∷ []) ≡ Some (3 ∷ 2 ∷ 1 ∷ 1 ∷ [])
unfolding kids_of digits same largest_number compatible assignable cell_limit is_too_large reached declaration_in declaration lookup find rule decorate own routines_in routines_of outside_of own_entries errors_of heading_marks annotated routine_around attributes_at expression_type opened_at field_of meant_in meant routines_with_key meaning_in shape_at type_in type_at path_text key_text errors_text decls_text uses_text expr_text disagreement
meant-n-6 = refl

-- the name integer@1 means nothing
pub meant-integer-1 : meant tree-meant (3 ∷ 2 ∷ 1 ∷ 2 ∷ 1 ∷ 1 ∷ 2 ∷ 1 ∷ []) ≡ None
unfolding kids_of digits same largest_number compatible assignable cell_limit is_too_large reached declaration_in declaration lookup find rule decorate own routines_in routines_of outside_of own_entries errors_of heading_marks annotated routine_around attributes_at expression_type opened_at field_of meant_in meant routines_with_key meaning_in shape_at type_in type_at path_text key_text errors_text decls_text uses_text expr_text disagreement
meant-integer-1 = refl

-- the name f@2 means what f@1 declares
pub meant-f-2 : meant tree-meant (3 ∷ 4 ∷ 2 ∷ 3 ∷ 5 ∷ 1 ∷ 1 ∷ 1 ∷ []) ≡ Some (3 ∷ 4 ∷ 1 ∷ 1 ∷ [])
unfolding kids_of digits same largest_number compatible assignable cell_limit is_too_large reached declaration_in declaration lookup find rule decorate own routines_in routines_of outside_of own_entries errors_of heading_marks annotated routine_around attributes_at expression_type opened_at field_of meant_in meant routines_with_key meaning_in shape_at type_in type_at path_text key_text errors_text decls_text uses_text expr_text disagreement
meant-f-2 = refl

-- the name r@2 means what r@1 declares
pub meant-r-2 : meant tree-meant (3 ∷ 4 ∷ 2 ∷ 3 ∷ 5 ∷ 1 ∷ 1 ∷ 2 ∷ 1 ∷ 1 ∷ []) ≡ Some (3 ∷ 3 ∷ 2 ∷ 1 ∷ 1 ∷ [])
unfolding kids_of digits same largest_number compatible assignable cell_limit is_too_large reached declaration_in declaration lookup find rule decorate own routines_in routines_of outside_of own_entries errors_of heading_marks annotated routine_around attributes_at expression_type opened_at field_of meant_in meant routines_with_key meaning_in shape_at type_in type_at path_text key_text errors_text decls_text uses_text expr_text disagreement
meant-r-2 = refl

-- the name h@1 means what h@2 declares
pub meant-h-1 : meant tree-meant (3 ∷ 4 ∷ 2 ∷ 3 ∷ 5 ∷ 1 ∷ 2 ∷ 1 ∷ []) ≡ Some (3 ∷ 4 ∷ 4 ∷ 1 ∷ [])
unfolding kids_of digits same largest_number compatible assignable cell_limit is_too_large reached declaration_in declaration lookup find rule decorate own routines_in routines_of outside_of own_entries errors_of heading_marks annotated routine_around attributes_at expression_type opened_at field_of meant_in meant routines_with_key meaning_in shape_at type_in type_at path_text key_text errors_text decls_text uses_text expr_text disagreement
meant-h-1 = refl

-- the name f@3 means nothing
pub meant-f-3 : meant tree-meant (3 ∷ 4 ∷ 3 ∷ 1 ∷ []) ≡ None
unfolding kids_of digits same largest_number compatible assignable cell_limit is_too_large reached declaration_in declaration lookup find rule decorate own routines_in routines_of outside_of own_entries errors_of heading_marks annotated routine_around attributes_at expression_type opened_at field_of meant_in meant routines_with_key meaning_in shape_at type_in type_at path_text key_text errors_text decls_text uses_text expr_text disagreement
meant-f-3 = refl

-- the name a@2 means what a@1 declares
pub meant-a-2 : meant tree-meant (3 ∷ 4 ∷ 3 ∷ 3 ∷ 5 ∷ 1 ∷ 1 ∷ 1 ∷ 1 ∷ 1 ∷ []) ≡ Some (3 ∷ 4 ∷ 1 ∷ 2 ∷ 1 ∷ 1 ∷ 1 ∷ [])
unfolding kids_of digits same largest_number compatible assignable cell_limit is_too_large reached declaration_in declaration lookup find rule decorate own routines_in routines_of outside_of own_entries errors_of heading_marks annotated routine_around attributes_at expression_type opened_at field_of meant_in meant routines_with_key meaning_in shape_at type_in type_at path_text key_text errors_text decls_text uses_text expr_text disagreement
meant-a-2 = refl

-- the name v@4 means what v@1 declares
pub meant-v-4 : meant tree-meant (3 ∷ 4 ∷ 3 ∷ 3 ∷ 5 ∷ 1 ∷ 1 ∷ 1 ∷ 2 ∷ []) ≡ Some (3 ∷ 2 ∷ 1 ∷ 2 ∷ 1 ∷ 1 ∷ 1 ∷ 1 ∷ [])
unfolding kids_of digits same largest_number compatible assignable cell_limit is_too_large reached declaration_in declaration lookup find rule decorate own routines_in routines_of outside_of own_entries errors_of heading_marks annotated routine_around attributes_at expression_type opened_at field_of meant_in meant routines_with_key meaning_in shape_at type_in type_at path_text key_text errors_text decls_text uses_text expr_text disagreement
meant-v-4 = refl

-- the name b@2 means what b@1 declares
pub meant-b-2 : meant tree-meant (3 ∷ 4 ∷ 3 ∷ 3 ∷ 5 ∷ 1 ∷ 1 ∷ 2 ∷ 1 ∷ 1 ∷ 1 ∷ []) ≡ Some (3 ∷ 4 ∷ 3 ∷ 3 ∷ 3 ∷ 1 ∷ 1 ∷ 1 ∷ [])
unfolding kids_of digits same largest_number compatible assignable cell_limit is_too_large reached declaration_in declaration lookup find rule decorate own routines_in routines_of outside_of own_entries errors_of heading_marks annotated routine_around attributes_at expression_type opened_at field_of meant_in meant routines_with_key meaning_in shape_at type_in type_at path_text key_text errors_text decls_text uses_text expr_text disagreement
meant-b-2 = refl

-- the name w@2 means what w@1 declares
pub meant-w-2 : meant tree-meant (3 ∷ 4 ∷ 3 ∷ 3 ∷ 5 ∷ 1 ∷ 1 ∷ 2 ∷ 1 ∷ 2 ∷ []) ≡ Some (3 ∷ 2 ∷ 1 ∷ 2 ∷ 1 ∷ 2 ∷ 1 ∷ 1 ∷ [])
unfolding kids_of digits same largest_number compatible assignable cell_limit is_too_large reached declaration_in declaration lookup find rule decorate own routines_in routines_of outside_of own_entries errors_of heading_marks annotated routine_around attributes_at expression_type opened_at field_of meant_in meant routines_with_key meaning_in shape_at type_in type_at path_text key_text errors_text decls_text uses_text expr_text disagreement
meant-w-2 = refl

-- the name v@5 means what v@2 declares
pub meant-v-5 : meant tree-meant (3 ∷ 4 ∷ 3 ∷ 3 ∷ 5 ∷ 1 ∷ 1 ∷ 2 ∷ 2 ∷ []) ≡ Some (3 ∷ 2 ∷ 1 ∷ 2 ∷ 1 ∷ 2 ∷ 2 ∷ 1 ∷ 1 ∷ 1 ∷ 1 ∷ [])
unfolding kids_of digits same largest_number compatible assignable cell_limit is_too_large reached declaration_in declaration lookup find rule decorate own routines_in routines_of outside_of own_entries errors_of heading_marks annotated routine_around attributes_at expression_type opened_at field_of meant_in meant routines_with_key meaning_in shape_at type_in type_at path_text key_text errors_text decls_text uses_text expr_text disagreement
meant-v-5 = refl

-- the name a@3 means what a@1 declares
pub meant-a-3 : meant tree-meant (3 ∷ 4 ∷ 3 ∷ 3 ∷ 5 ∷ 1 ∷ 2 ∷ 1 ∷ 1 ∷ 1 ∷ []) ≡ Some (3 ∷ 4 ∷ 1 ∷ 2 ∷ 1 ∷ 1 ∷ 1 ∷ [])
unfolding kids_of digits same largest_number compatible assignable cell_limit is_too_large reached declaration_in declaration lookup find rule decorate own routines_in routines_of outside_of own_entries errors_of heading_marks annotated routine_around attributes_at expression_type opened_at field_of meant_in meant routines_with_key meaning_in shape_at type_in type_at path_text key_text errors_text decls_text uses_text expr_text disagreement
meant-a-3 = refl

-- the name w@3 means what w@1 declares
pub meant-w-3 : meant tree-meant (3 ∷ 4 ∷ 3 ∷ 3 ∷ 5 ∷ 1 ∷ 2 ∷ 1 ∷ 2 ∷ 1 ∷ []) ≡ Some (3 ∷ 2 ∷ 1 ∷ 2 ∷ 1 ∷ 2 ∷ 1 ∷ 1 ∷ [])
unfolding kids_of digits same largest_number compatible assignable cell_limit is_too_large reached declaration_in declaration lookup find rule decorate own routines_in routines_of outside_of own_entries errors_of heading_marks annotated routine_around attributes_at expression_type opened_at field_of meant_in meant routines_with_key meaning_in shape_at type_in type_at path_text key_text errors_text decls_text uses_text expr_text disagreement
meant-w-3 = refl

-- the name v@6 means what v@2 declares
pub meant-v-6 : meant tree-meant (3 ∷ 4 ∷ 3 ∷ 3 ∷ 5 ∷ 1 ∷ 2 ∷ 2 ∷ 1 ∷ 1 ∷ []) ≡ Some (3 ∷ 2 ∷ 1 ∷ 2 ∷ 1 ∷ 2 ∷ 2 ∷ 1 ∷ 1 ∷ 1 ∷ 1 ∷ [])
unfolding kids_of digits same largest_number compatible assignable cell_limit is_too_large reached declaration_in declaration lookup find rule decorate own routines_in routines_of outside_of own_entries errors_of heading_marks annotated routine_around attributes_at expression_type opened_at field_of meant_in meant routines_with_key meaning_in shape_at type_in type_at path_text key_text errors_text decls_text uses_text expr_text disagreement
meant-v-6 = refl

-- the name next@2 means what next@1 declares
pub meant-next-2 : meant tree-meant (3 ∷ 4 ∷ 3 ∷ 3 ∷ 5 ∷ 1 ∷ 2 ∷ 2 ∷ 2 ∷ 1 ∷ []) ≡ Some (3 ∷ 2 ∷ 1 ∷ 2 ∷ 1 ∷ 3 ∷ 1 ∷ 1 ∷ [])
unfolding kids_of digits same largest_number compatible assignable cell_limit is_too_large reached declaration_in declaration lookup find rule decorate own routines_in routines_of outside_of own_entries errors_of heading_marks annotated routine_around attributes_at expression_type opened_at field_of meant_in meant routines_with_key meaning_in shape_at type_in type_at path_text key_text errors_text decls_text uses_text expr_text disagreement
meant-next-2 = refl

-- the name x@3 means what x@1 declares
pub meant-x-3 : meant tree-meant (3 ∷ 5 ∷ 1 ∷ 1 ∷ 1 ∷ 1 ∷ []) ≡ Some (3 ∷ 3 ∷ 1 ∷ 1 ∷ 1 ∷ [])
unfolding kids_of digits same largest_number compatible assignable cell_limit is_too_large reached declaration_in declaration lookup find rule decorate own routines_in routines_of outside_of own_entries errors_of heading_marks annotated routine_around attributes_at expression_type opened_at field_of meant_in meant routines_with_key meaning_in shape_at type_in type_at path_text key_text errors_text decls_text uses_text expr_text disagreement
meant-x-3 = refl

-- the name r@3 means what r@1 declares
pub meant-r-3 : meant tree-meant (3 ∷ 5 ∷ 1 ∷ 2 ∷ 1 ∷ 1 ∷ 1 ∷ 1 ∷ []) ≡ Some (3 ∷ 3 ∷ 2 ∷ 1 ∷ 1 ∷ [])
unfolding kids_of digits same largest_number compatible assignable cell_limit is_too_large reached declaration_in declaration lookup find rule decorate own routines_in routines_of outside_of own_entries errors_of heading_marks annotated routine_around attributes_at expression_type opened_at field_of meant_in meant routines_with_key meaning_in shape_at type_in type_at path_text key_text errors_text decls_text uses_text expr_text disagreement
meant-r-3 = refl

-- the name w@4 means what w@1 declares
pub meant-w-4 : meant tree-meant (3 ∷ 5 ∷ 1 ∷ 2 ∷ 1 ∷ 1 ∷ 2 ∷ []) ≡ Some (3 ∷ 2 ∷ 1 ∷ 2 ∷ 1 ∷ 2 ∷ 1 ∷ 1 ∷ [])
unfolding kids_of digits same largest_number compatible assignable cell_limit is_too_large reached declaration_in declaration lookup find rule decorate own routines_in routines_of outside_of own_entries errors_of heading_marks annotated routine_around attributes_at expression_type opened_at field_of meant_in meant routines_with_key meaning_in shape_at type_in type_at path_text key_text errors_text decls_text uses_text expr_text disagreement
meant-w-4 = refl

-- the name v@7 means what v@2 declares
pub meant-v-7 : meant tree-meant (3 ∷ 5 ∷ 1 ∷ 2 ∷ 1 ∷ 2 ∷ []) ≡ Some (3 ∷ 2 ∷ 1 ∷ 2 ∷ 1 ∷ 2 ∷ 2 ∷ 1 ∷ 1 ∷ 1 ∷ 1 ∷ [])
unfolding kids_of digits same largest_number compatible assignable cell_limit is_too_large reached declaration_in declaration lookup find rule decorate own routines_in routines_of outside_of own_entries errors_of heading_marks annotated routine_around attributes_at expression_type opened_at field_of meant_in meant routines_with_key meaning_in shape_at type_in type_at path_text key_text errors_text decls_text uses_text expr_text disagreement
meant-v-7 = refl

-- the name q@2 means what q@1 declares
pub meant-q-2 : meant tree-meant (3 ∷ 5 ∷ 1 ∷ 2 ∷ 2 ∷ 1 ∷ 1 ∷ 1 ∷ []) ≡ Some (3 ∷ 3 ∷ 3 ∷ 1 ∷ 1 ∷ [])
unfolding kids_of digits same largest_number compatible assignable cell_limit is_too_large reached declaration_in declaration lookup find rule decorate own routines_in routines_of outside_of own_entries errors_of heading_marks annotated routine_around attributes_at expression_type opened_at field_of meant_in meant routines_with_key meaning_in shape_at type_in type_at path_text key_text errors_text decls_text uses_text expr_text disagreement
meant-q-2 = refl
