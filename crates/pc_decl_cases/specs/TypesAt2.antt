-- The types at places of a program; x@2 is the second name x in the text.
use Rattle.std.specs.Prelude.{◌≡◌, [], ◌∷◌, None}
use Rattle.std.proofs.Common.{refl}
use Rattle.std.specs.Fmt.{digits}
use Rattle.pc_syntax.specs.Plain.{kids_of}
use Rattle.pc_types.specs.Sameness.{same}
use Rattle.pc_types.specs.TypeClasses.{largest_number}
use Rattle.pc_types.specs.Compatibility.{compatible, assignable}
use Rattle.pc_types.specs.Sizes.{cell_limit, is_too_large}
use Rattle.pc_types.specs.Domains.{reached}
use Rattle.pc_scope.specs.Lookup.{declaration_in, declaration, lookup}
use Rattle.pc_rules.specs.Meanings.{find}
use Rattle.pc_rules.specs.Decorated.{rule, decorate}
use Rattle.pc_rules.specs.OwnBlock.{own}
use Rattle.pc_rules.specs.RoutineList.{routines_in, routines_of}
use Rattle.pc_rules.specs.Outsides.{outside_of}
use Rattle.pc_rules.specs.Errors.{own_entries, errors_of}
use Rattle.pc_rules.specs.Routines.{heading_marks}
use Rattle.pc_decl.specs.Annotated.{annotated}
use Rattle.pc_decl.specs.Found.{routine_around, attributes_at}
use Rattle.pc_decl.specs.Roles.{expression_type}
use Rattle.pc_decl.specs.Uses.{opened_at}
use Rattle.pc_decl.specs.Records.{field_of}
use Rattle.pc_decl.specs.Meant.{meant_in, meant}
use Rattle.pc_decl.specs.Declared.{routines_with_key, meaning_in}
use Rattle.pc_decl.specs.TypeAt.{shape_at, type_in, type_at}
use Rattle.pc_decl.specs.Shown.{path_text, key_text}
use Rattle.pc_decl.specs.ErrorsText.{errors_text}
use Rattle.pc_decl.specs.DeclsText.{decls_text}
use Rattle.pc_decl.specs.UsesText.{uses_text}
use Rattle.pc_decl.specs.ExprText.{expr_text}
use Rattle.pc_decl_cases.specs.Agreement.{disagreement}
use Rattle.pc_decl_cases.specs.TypesAt0.{tree-types}

-- the name c@2
pub type-c-2 : type_at tree-types (3 ∷ 2 ∷ 3 ∷ 2 ∷ 1 ∷ 2 ∷ 2 ∷ 1 ∷ 1 ∷ 1 ∷ []) ≡ None
unfolding kids_of digits same largest_number compatible assignable cell_limit is_too_large reached declaration_in declaration lookup find rule decorate own routines_in routines_of outside_of own_entries errors_of heading_marks annotated routine_around attributes_at expression_type opened_at field_of meant_in meant routines_with_key meaning_in shape_at type_in type_at path_text key_text errors_text decls_text uses_text expr_text disagreement
type-c-2 = refl

-- the name p@1
pub type-p-1 : type_at tree-types (1 ∷ []) ≡ None
unfolding kids_of digits same largest_number compatible assignable cell_limit is_too_large reached declaration_in declaration lookup find rule decorate own routines_in routines_of outside_of own_entries errors_of heading_marks annotated routine_around attributes_at expression_type opened_at field_of meant_in meant routines_with_key meaning_in shape_at type_in type_at path_text key_text errors_text decls_text uses_text expr_text disagreement
type-p-1 = refl

-- the node at /3/5/1/1
pub type-at-3-5-1-1 : type_at tree-types (3 ∷ 5 ∷ 1 ∷ 1 ∷ []) ≡ None
unfolding kids_of digits same largest_number compatible assignable cell_limit is_too_large reached declaration_in declaration lookup find rule decorate own routines_in routines_of outside_of own_entries errors_of heading_marks annotated routine_around attributes_at expression_type opened_at field_of meant_in meant routines_with_key meaning_in shape_at type_in type_at path_text key_text errors_text decls_text uses_text expr_text disagreement
type-at-3-5-1-1 = refl

-- the node at /
pub type-at- : type_at tree-types [] ≡ None
unfolding kids_of digits same largest_number compatible assignable cell_limit is_too_large reached declaration_in declaration lookup find rule decorate own routines_in routines_of outside_of own_entries errors_of heading_marks annotated routine_around attributes_at expression_type opened_at field_of meant_in meant routines_with_key meaning_in shape_at type_in type_at path_text key_text errors_text decls_text uses_text expr_text disagreement
type-at- = refl

-- the node at /7
pub type-at-7 : type_at tree-types (7 ∷ []) ≡ None
unfolding kids_of digits same largest_number compatible assignable cell_limit is_too_large reached declaration_in declaration lookup find rule decorate own routines_in routines_of outside_of own_entries errors_of heading_marks annotated routine_around attributes_at expression_type opened_at field_of meant_in meant routines_with_key meaning_in shape_at type_in type_at path_text key_text errors_text decls_text uses_text expr_text disagreement
type-at-7 = refl
