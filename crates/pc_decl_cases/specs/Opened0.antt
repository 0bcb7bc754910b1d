-- What names mean in statements with `with`, and in their accesses; x@2 is the second name x in the text.
use Rattle.std.specs.Prelude.{◌≡◌, [], ◌∷◌, codes, Some}
use Rattle.std.proofs.Common.{refl}
use Rattle.std.specs.Fmt.{digits}
use Rattle.pc_syntax.specs.Plain.{Nil, Cons, Plain, kids_of}
use Rattle.pc_syntax.specs.declared.kind.Kind.TheVariants as kind
use Rattle.pc_types.specs.Sameness.{same}
use Rattle.pc_types.specs.TypeClasses.{largest_number}
use Rattle.pc_types.specs.Compatibility.{compatible, assignable}
use Rattle.pc_types.specs.Sizes.{cell_limit, is_too_large}
use Rattle.pc_types.specs.Domains.{reached}
use Rattle.pc_scope.specs.Lookup.{declaration_in, declaration, lookup}
use Rattle.pc_rules.specs.Meanings.{find}
use Rattle.pc_rules.specs.Decorated.{rule, decorate}
use Rattle.pc_rules.specs.OwnBlock.{own}
use Rattle.pc_rules.specs.RoutineList.{routines_in, routines_of}
use Rattle.pc_rules.specs.Outsides.{outside_of}
use Rattle.pc_rules.specs.Errors.{own_entries, errors_of}
use Rattle.pc_rules.specs.Routines.{heading_marks}
use Rattle.pc_decl.specs.Annotated.{annotated}
use Rattle.pc_decl.specs.Found.{routine_around, attributes_at}
use Rattle.pc_decl.specs.Roles.{expression_type}
use Rattle.pc_decl.specs.Uses.{opened_at}
use Rattle.pc_decl.specs.Records.{field_of}
use Rattle.pc_decl.specs.Meant.{meant_in, meant}
use Rattle.pc_decl.specs.Declared.{routines_with_key, meaning_in}
use Rattle.pc_decl.specs.TypeAt.{shape_at, type_in, type_at}
use Rattle.pc_decl.specs.Shown.{path_text, key_text}
use Rattle.pc_decl.specs.ErrorsText.{errors_text}
use Rattle.pc_decl.specs.DeclsText.{decls_text}
use Rattle.pc_decl.specs.UsesText.{uses_text}
use Rattle.pc_decl.specs.ExprText.{expr_text}
use Rattle.pc_decl_cases.specs.Agreement.{disagreement, Agrees}

-- program p; var r: record r, s: record r: char end end; s: char; begin with r.r do r := s; with r, s, r do r := s end.
abbrev pub tree-opened : Plain
tree-opened = record { kind = kind.Program; word = []; notes = []; kids = (Cons kind.Name (codes "p") [] Nil (Cons kind.Heads [] [] Nil (Cons kind.Block [] [] (Cons kind.Consts [] [] Nil (Cons kind.Types [] [] Nil (Cons kind.Vars [] [] (Cons kind.Vardef [] [] (Cons kind.Names [] [] (Cons kind.Name (codes "r") [] Nil Nil) (Cons kind.Record [] [] (Cons kind.Fields [] [] (Cons kind.Field [] [] (Cons kind.Names [] [] (Cons kind.Name (codes "r") [] Nil (Cons kind.Name (codes "s") [] Nil Nil)) (Cons kind.Record [] [] (Cons kind.Fields [] [] (Cons kind.Field [] [] (Cons kind.Names [] [] (Cons kind.Name (codes "r") [] Nil Nil) (Cons kind.Tname [] [] (Cons kind.Name (codes "char") [] Nil Nil) Nil)) Nil) Nil) Nil)) Nil) Nil) Nil)) (Cons kind.Vardef [] [] (Cons kind.Names [] [] (Cons kind.Name (codes "s") [] Nil Nil) (Cons kind.Tname [] [] (Cons kind.Name (codes "char") [] Nil Nil) Nil)) Nil)) (Cons kind.Routines [] [] Nil (Cons kind.Compound [] [] (Cons kind.Stmts [] [] (Cons kind.With [] [] (Cons kind.Accesses [] [] (Cons kind.Select [] [] (Cons kind.Ref [] [] (Cons kind.Name (codes "r") [] Nil Nil) (Cons kind.Name (codes "r") [] Nil Nil)) Nil) (Cons kind.Assign [] [] (Cons kind.Ref [] [] (Cons kind.Name (codes "r") [] Nil Nil) (Cons kind.Ref [] [] (Cons kind.Name (codes "s") [] Nil Nil) Nil)) Nil)) (Cons kind.With [] [] (Cons kind.Accesses [] [] (Cons kind.Ref [] [] (Cons kind.Name (codes "r") [] Nil Nil) (Cons kind.Ref [] [] (Cons kind.Name (codes "s") [] Nil Nil) (Cons kind.Ref [] [] (Cons kind.Name (codes "r") [] Nil Nil) Nil))) (Cons kind.Assign [] [] (Cons kind.Ref [] [] (Cons kind.Name (codes "r") [] Nil Nil) (Cons kind.Ref [] [] (Cons kind.Name (codes "s") [] Nil Nil) Nil)) Nil)) Nil)) Nil) Nil))))) Nil))) }

pub agreement-opened : disagreement tree-opened ≡ Agrees
unfolding kids_of digits same largest_number compatible assignable cell_limit is_too_large reached declaration_in declaration lookup find rule decorate own routines_in routines_of outside_of own_entries errors_of heading_marks annotated routine_around attributes_at expression_type opened_at field_of meant_in meant routines_with_key meaning_in shape_at type_in type_at path_text key_text errors_text decls_text uses_text expr_text disagreement
agreement-opened = refl

-- the name r@4 means what r@1 declares
pub opened-r-4 : meant tree-opened (3 ∷ 5 ∷ 1 ∷ 1 ∷ 1 ∷ 1 ∷ 1 ∷ 1 ∷ []) ≡ Some (3 ∷ 3 ∷ 1 ∷ 1 ∷ 1 ∷ [])
unfolding kids_of digits same largest_number compatible assignable cell_limit is_too_large reached declaration_in declaration lookup find rule decorate own routines_in routines_of outside_of own_entries errors_of heading_marks annotated routine_around attributes_at expression_type opened_at field_of meant_in meant routines_with_key meaning_in shape_at type_in type_at path_text key_text errors_text decls_text uses_text expr_text disagreement
opened-r-4 = refl

-- the name r@5 means what r@2 declares
pub opened-r-5 : meant tree-opened (3 ∷ 5 ∷ 1 ∷ 1 ∷ 1 ∷ 1 ∷ 2 ∷ []) ≡ Some (3 ∷ 3 ∷ 1 ∷ 2 ∷ 1 ∷ 1 ∷ 1 ∷ 1 ∷ [])
unfolding kids_of digits same largest_number compatible assignable cell_limit is_too_large reached declaration_in declaration lookup find rule decorate own routines_in routines_of outside_of own_entries errors_of heading_marks annotated routine_around attributes_at expression_type opened_at field_of meant_in meant routines_with_key meaning_in shape_at type_in type_at path_text key_text errors_text decls_text uses_text expr_text disagreement
opened-r-5 = refl

-- the name r@6 means what r@3 declares
pub opened-r-6 : meant tree-opened (3 ∷ 5 ∷ 1 ∷ 1 ∷ 2 ∷ 1 ∷ 1 ∷ []) ≡ Some (3 ∷ 3 ∷ 1 ∷ 2 ∷ 1 ∷ 1 ∷ 2 ∷ 1 ∷ 1 ∷ 1 ∷ 1 ∷ [])
unfolding kids_of digits same largest_number compatible assignable cell_limit is_too_large reached declaration_in declaration lookup find rule decorate own routines_in routines_of outside_of own_entries errors_of heading_marks annotated routine_around attributes_at expression_type opened_at field_of meant_in meant routines_with_key meaning_in shape_at type_in type_at path_text key_text errors_text decls_text uses_text expr_text disagreement
opened-r-6 = refl

-- the name s@3 means what s@2 declares
pub opened-s-3 : meant tree-opened (3 ∷ 5 ∷ 1 ∷ 1 ∷ 2 ∷ 2 ∷ 1 ∷ []) ≡ Some (3 ∷ 3 ∷ 2 ∷ 1 ∷ 1 ∷ [])
unfolding kids_of digits same largest_number compatible assignable cell_limit is_too_large reached declaration_in declaration lookup find rule decorate own routines_in routines_of outside_of own_entries errors_of heading_marks annotated routine_around attributes_at expression_type opened_at field_of meant_in meant routines_with_key meaning_in shape_at type_in type_at path_text key_text errors_text decls_text uses_text expr_text disagreement
opened-s-3 = refl

-- the name r@7 means what r@1 declares
pub opened-r-7 : meant tree-opened (3 ∷ 5 ∷ 1 ∷ 2 ∷ 1 ∷ 1 ∷ 1 ∷ []) ≡ Some (3 ∷ 3 ∷ 1 ∷ 1 ∷ 1 ∷ [])
unfolding kids_of digits same largest_number compatible assignable cell_limit is_too_large reached declaration_in declaration lookup find rule decorate own routines_in routines_of outside_of own_entries errors_of heading_marks annotated routine_around attributes_at expression_type opened_at field_of meant_in meant routines_with_key meaning_in shape_at type_in type_at path_text key_text errors_text decls_text uses_text expr_text disagreement
opened-r-7 = refl

-- the name s@4 means what s@1 declares
pub opened-s-4 : meant tree-opened (3 ∷ 5 ∷ 1 ∷ 2 ∷ 1 ∷ 2 ∷ 1 ∷ []) ≡ Some (3 ∷ 3 ∷ 1 ∷ 2 ∷ 1 ∷ 1 ∷ 1 ∷ 2 ∷ [])
unfolding kids_of digits same largest_number compatible assignable cell_limit is_too_large reached declaration_in declaration lookup find rule decorate own routines_in routines_of outside_of own_entries errors_of heading_marks annotated routine_around attributes_at expression_type opened_at field_of meant_in meant routines_with_key meaning_in shape_at type_in type_at path_text key_text errors_text decls_text uses_text expr_text disagreement
opened-s-4 = refl

-- the name r@8 means what r@3 declares
pub opened-r-8 : meant tree-opened (3 ∷ 5 ∷ 1 ∷ 2 ∷ 1 ∷ 3 ∷ 1 ∷ []) ≡ Some (3 ∷ 3 ∷ 1 ∷ 2 ∷ 1 ∷ 1 ∷ 2 ∷ 1 ∷ 1 ∷ 1 ∷ 1 ∷ [])
unfolding kids_of digits same largest_number compatible assignable cell_limit is_too_large reached declaration_in declaration lookup find rule decorate own routines_in routines_of outside_of own_entries errors_of heading_marks annotated routine_around attributes_at expression_type opened_at field_of meant_in meant routines_with_key meaning_in shape_at type_in type_at path_text key_text errors_text decls_text uses_text expr_text disagreement
opened-r-8 = refl

-- the name r@9 means what r@3 declares
pub opened-r-9 : meant tree-opened (3 ∷ 5 ∷ 1 ∷ 2 ∷ 2 ∷ 1 ∷ 1 ∷ []) ≡ Some (3 ∷ 3 ∷ 1 ∷ 2 ∷ 1 ∷ 1 ∷ 2 ∷ 1 ∷ 1 ∷ 1 ∷ 1 ∷ [])
unfolding kids_of digits same largest_number compatible assignable cell_limit is_too_large reached declaration_in declaration lookup find rule decorate own routines_in routines_of outside_of own_entries errors_of heading_marks annotated routine_around attributes_at expression_type opened_at field_of meant_in meant routines_with_key meaning_in shape_at type_in type_at path_text key_text errors_text decls_text uses_text expr_text disagreement
opened-r-9 = refl

-- the name s@5 means what s@1 declares
pub opened-s-5 : meant tree-opened (3 ∷ 5 ∷ 1 ∷ 2 ∷ 2 ∷ 2 ∷ 1 ∷ []) ≡ Some (3 ∷ 3 ∷ 1 ∷ 2 ∷ 1 ∷ 1 ∷ 1 ∷ 2 ∷ [])
unfolding kids_of digits same largest_number compatible assignable cell_limit is_too_large reached declaration_in declaration lookup find rule decorate own routines_in routines_of outside_of own_entries errors_of heading_marks annotated routine_around attributes_at expression_type opened_at field_of meant_in meant routines_with_key meaning_in shape_at type_in type_at path_text key_text errors_text decls_text uses_text expr_text disagreement
opened-s-5 = refl
