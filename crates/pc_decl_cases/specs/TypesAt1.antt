-- The types at places of a program; x@2 is the second name x in the text.
use Rattle.std.specs.Prelude.{◌≡◌, [], ◌∷◌, codes, Some, None, true, false, pos}
use Rattle.std.proofs.Common.{refl}
use Rattle.std.specs.Fmt.{digits}
use Rattle.pc_syntax.specs.Plain.{kids_of}
use Rattle.pc_types.specs.Sameness.{same}
use Rattle.pc_types.specs.TypeClasses.{largest_number}
use Rattle.pc_types.specs.Compatibility.{compatible, assignable}
use Rattle.pc_types.specs.Sizes.{cell_limit, is_too_large}
use Rattle.pc_types.specs.Domains.{reached}
use Rattle.pc_scope.specs.Lookup.{declaration_in, declaration, lookup}
use Rattle.pc_rules.specs.Meanings.{find}
use Rattle.pc_rules.specs.Decorated.{rule, decorate}
use Rattle.pc_rules.specs.OwnBlock.{own}
use Rattle.pc_rules.specs.RoutineList.{routines_in, routines_of}
use Rattle.pc_rules.specs.Outsides.{outside_of}
use Rattle.pc_rules.specs.Errors.{own_entries, errors_of}
use Rattle.pc_rules.specs.Routines.{heading_marks}
use Rattle.pc_decl.specs.Annotated.{annotated}
use Rattle.pc_decl.specs.Found.{routine_around, attributes_at}
use Rattle.pc_decl.specs.Roles.{expression_type}
use Rattle.pc_decl.specs.Uses.{opened_at}
use Rattle.pc_decl.specs.Records.{field_of}
use Rattle.pc_decl.specs.Meant.{meant_in, meant}
use Rattle.pc_decl.specs.Declared.{routines_with_key, meaning_in}
use Rattle.pc_decl.specs.TypeAt.{shape_at, type_in, type_at}
use Rattle.pc_decl.specs.Shown.{path_text, key_text}
use Rattle.pc_decl.specs.ErrorsText.{errors_text}
use Rattle.pc_decl.specs.DeclsText.{decls_text}
use Rattle.pc_decl.specs.UsesText.{uses_text}
use Rattle.pc_decl.specs.ExprText.{expr_text}
use Rattle.pc_decl_cases.specs.Agreement.{disagreement}
use Rattle.pc_types.specs.Shapes.{Keyed}
use Rattle.pc_types.specs.Expanded.{IntTy, TruthTy, LetterTy, NamedTy, SubTy, ArrayTy, RecordTy, SetTy, PointerTy, LastTy, FieldTy}
use Rattle.pc_decl_cases.specs.TypesAt0.{tree-types}

-- the name q@1
pub type-q-1 : type_at tree-types (3 ∷ 3 ∷ 4 ∷ 1 ∷ 1 ∷ []) ≡ Some (PointerTy (Keyed []) (codes "m"))
unfolding kids_of digits same largest_number compatible assignable cell_limit is_too_large reached declaration_in declaration lookup find rule decorate own routines_in routines_of outside_of own_entries errors_of heading_marks annotated routine_around attributes_at expression_type opened_at field_of meant_in meant routines_with_key meaning_in shape_at type_in type_at path_text key_text errors_text decls_text uses_text expr_text disagreement
type-q-1 = refl

-- the name v@1
pub type-v-1 : type_at tree-types (3 ∷ 3 ∷ 5 ∷ 1 ∷ 1 ∷ []) ≡ Some (RecordTy true (FieldTy (codes "e") (SetTy false LetterTy) (FieldTy (codes "h") (PointerTy (Keyed []) (codes "m")) LastTy)))
unfolding kids_of digits same largest_number compatible assignable cell_limit is_too_large reached declaration_in declaration lookup find rule decorate own routines_in routines_of outside_of own_entries errors_of heading_marks annotated routine_around attributes_at expression_type opened_at field_of meant_in meant routines_with_key meaning_in shape_at type_in type_at path_text key_text errors_text decls_text uses_text expr_text disagreement
type-v-1 = refl

-- the name f@1
pub type-f-1 : type_at tree-types (3 ∷ 4 ∷ 1 ∷ 1 ∷ []) ≡ Some (PointerTy (Keyed []) (codes "n"))
unfolding kids_of digits same largest_number compatible assignable cell_limit is_too_large reached declaration_in declaration lookup find rule decorate own routines_in routines_of outside_of own_entries errors_of heading_marks annotated routine_around attributes_at expression_type opened_at field_of meant_in meant routines_with_key meaning_in shape_at type_in type_at path_text key_text errors_text decls_text uses_text expr_text disagreement
type-f-1 = refl

-- the name i@2
pub type-i-2 : type_at tree-types (3 ∷ 4 ∷ 1 ∷ 2 ∷ 1 ∷ 1 ∷ 1 ∷ []) ≡ Some (NamedTy (codes "red" ∷ codes "green" ∷ []))
unfolding kids_of digits same largest_number compatible assignable cell_limit is_too_large reached declaration_in declaration lookup find rule decorate own routines_in routines_of outside_of own_entries errors_of heading_marks annotated routine_around attributes_at expression_type opened_at field_of meant_in meant routines_with_key meaning_in shape_at type_in type_at path_text key_text errors_text decls_text uses_text expr_text disagreement
type-i-2 = refl

-- the name j@1
pub type-j-1 : type_at tree-types (3 ∷ 4 ∷ 1 ∷ 2 ∷ 2 ∷ 1 ∷ 1 ∷ []) ≡ Some (RecordTy false (FieldTy (codes "a") (PointerTy (Keyed []) (codes "n")) (FieldTy (codes "b") (SubTy IntTy (pos 1) (pos 3)) LastTy)))
unfolding kids_of digits same largest_number compatible assignable cell_limit is_too_large reached declaration_in declaration lookup find rule decorate own routines_in routines_of outside_of own_entries errors_of heading_marks annotated routine_around attributes_at expression_type opened_at field_of meant_in meant routines_with_key meaning_in shape_at type_in type_at path_text key_text errors_text decls_text uses_text expr_text disagreement
type-j-1 = refl

-- the name g@1
pub type-g-1 : type_at tree-types (3 ∷ 4 ∷ 2 ∷ 1 ∷ []) ≡ None
unfolding kids_of digits same largest_number compatible assignable cell_limit is_too_large reached declaration_in declaration lookup find rule decorate own routines_in routines_of outside_of own_entries errors_of heading_marks annotated routine_around attributes_at expression_type opened_at field_of meant_in meant routines_with_key meaning_in shape_at type_in type_at path_text key_text errors_text decls_text uses_text expr_text disagreement
type-g-1 = refl

-- the name i@3
pub type-i-3 : type_at tree-types (3 ∷ 4 ∷ 2 ∷ 2 ∷ 1 ∷ 1 ∷ 1 ∷ []) ≡ None
unfolding kids_of digits same largest_number compatible assignable cell_limit is_too_large reached declaration_in declaration lookup find rule decorate own routines_in routines_of outside_of own_entries errors_of heading_marks annotated routine_around attributes_at expression_type opened_at field_of meant_in meant routines_with_key meaning_in shape_at type_in type_at path_text key_text errors_text decls_text uses_text expr_text disagreement
type-i-3 = refl

-- the name f@2
pub type-f-2 : type_at tree-types (3 ∷ 4 ∷ 3 ∷ 1 ∷ []) ≡ None
unfolding kids_of digits same largest_number compatible assignable cell_limit is_too_large reached declaration_in declaration lookup find rule decorate own routines_in routines_of outside_of own_entries errors_of heading_marks annotated routine_around attributes_at expression_type opened_at field_of meant_in meant routines_with_key meaning_in shape_at type_in type_at path_text key_text errors_text decls_text uses_text expr_text disagreement
type-f-2 = refl

-- the name s@1
pub type-s-1 : type_at tree-types (3 ∷ 4 ∷ 3 ∷ 2 ∷ 3 ∷ 1 ∷ 1 ∷ 1 ∷ []) ≡ Some (SetTy false (NamedTy (codes "red" ∷ codes "green" ∷ [])))
unfolding kids_of digits same largest_number compatible assignable cell_limit is_too_large reached declaration_in declaration lookup find rule decorate own routines_in routines_of outside_of own_entries errors_of heading_marks annotated routine_around attributes_at expression_type opened_at field_of meant_in meant routines_with_key meaning_in shape_at type_in type_at path_text key_text errors_text decls_text uses_text expr_text disagreement
type-s-1 = refl

-- the name i@4
pub type-i-4 : type_at tree-types (3 ∷ 4 ∷ 3 ∷ 2 ∷ 3 ∷ 2 ∷ 1 ∷ 1 ∷ []) ≡ None
unfolding kids_of digits same largest_number compatible assignable cell_limit is_too_large reached declaration_in declaration lookup find rule decorate own routines_in routines_of outside_of own_entries errors_of heading_marks annotated routine_around attributes_at expression_type opened_at field_of meant_in meant routines_with_key meaning_in shape_at type_in type_at path_text key_text errors_text decls_text uses_text expr_text disagreement
type-i-4 = refl

-- the name w@1
pub type-w-1 : type_at tree-types (3 ∷ 4 ∷ 4 ∷ 1 ∷ []) ≡ None
unfolding kids_of digits same largest_number compatible assignable cell_limit is_too_large reached declaration_in declaration lookup find rule decorate own routines_in routines_of outside_of own_entries errors_of heading_marks annotated routine_around attributes_at expression_type opened_at field_of meant_in meant routines_with_key meaning_in shape_at type_in type_at path_text key_text errors_text decls_text uses_text expr_text disagreement
type-w-1 = refl

-- the name w@2
pub type-w-2 : type_at tree-types (3 ∷ 4 ∷ 5 ∷ 1 ∷ []) ≡ None
unfolding kids_of digits same largest_number compatible assignable cell_limit is_too_large reached declaration_in declaration lookup find rule decorate own routines_in routines_of outside_of own_entries errors_of heading_marks annotated routine_around attributes_at expression_type opened_at field_of meant_in meant routines_with_key meaning_in shape_at type_in type_at path_text key_text errors_text decls_text uses_text expr_text disagreement
type-w-2 = refl

-- the name t@2
pub type-t-2 : type_at tree-types (3 ∷ 4 ∷ 5 ∷ 3 ∷ 3 ∷ 1 ∷ 1 ∷ 1 ∷ []) ≡ Some (LetterTy)
unfolding kids_of digits same largest_number compatible assignable cell_limit is_too_large reached declaration_in declaration lookup find rule decorate own routines_in routines_of outside_of own_entries errors_of heading_marks annotated routine_around attributes_at expression_type opened_at field_of meant_in meant routines_with_key meaning_in shape_at type_in type_at path_text key_text errors_text decls_text uses_text expr_text disagreement
type-t-2 = refl

-- the expression above the name f@3
pub type-expression-f-3 : type_at tree-types (3 ∷ 4 ∷ 3 ∷ 2 ∷ 5 ∷ 1 ∷ 1 ∷ 1 ∷ []) ≡ Some (PointerTy (Keyed []) (codes "n"))
unfolding kids_of digits same largest_number compatible assignable cell_limit is_too_large reached declaration_in declaration lookup find rule decorate own routines_in routines_of outside_of own_entries errors_of heading_marks annotated routine_around attributes_at expression_type opened_at field_of meant_in meant routines_with_key meaning_in shape_at type_in type_at path_text key_text errors_text decls_text uses_text expr_text disagreement
type-expression-f-3 = refl

-- the node at /3/4/3/2/5/1/1/2
pub type-at-3-4-3-2-5-1-1-2 : type_at tree-types (3 ∷ 4 ∷ 3 ∷ 2 ∷ 5 ∷ 1 ∷ 1 ∷ 2 ∷ []) ≡ None
unfolding kids_of digits same largest_number compatible assignable cell_limit is_too_large reached declaration_in declaration lookup find rule decorate own routines_in routines_of outside_of own_entries errors_of heading_marks annotated routine_around attributes_at expression_type opened_at field_of meant_in meant routines_with_key meaning_in shape_at type_in type_at path_text key_text errors_text decls_text uses_text expr_text disagreement
type-at-3-4-3-2-5-1-1-2 = refl

-- the node at /3/4/3/2/5/1/2/2
pub type-at-3-4-3-2-5-1-2-2 : type_at tree-types (3 ∷ 4 ∷ 3 ∷ 2 ∷ 5 ∷ 1 ∷ 2 ∷ 2 ∷ []) ≡ None
unfolding kids_of digits same largest_number compatible assignable cell_limit is_too_large reached declaration_in declaration lookup find rule decorate own routines_in routines_of outside_of own_entries errors_of heading_marks annotated routine_around attributes_at expression_type opened_at field_of meant_in meant routines_with_key meaning_in shape_at type_in type_at path_text key_text errors_text decls_text uses_text expr_text disagreement
type-at-3-4-3-2-5-1-2-2 = refl

-- the expression above the name b@3
pub type-expression-b-3 : type_at tree-types (3 ∷ 5 ∷ 1 ∷ 1 ∷ 1 ∷ []) ≡ Some (SubTy IntTy (pos 1) (pos 3))
unfolding kids_of digits same largest_number compatible assignable cell_limit is_too_large reached declaration_in declaration lookup find rule decorate own routines_in routines_of outside_of own_entries errors_of heading_marks annotated routine_around attributes_at expression_type opened_at field_of meant_in meant routines_with_key meaning_in shape_at type_in type_at path_text key_text errors_text decls_text uses_text expr_text disagreement
type-expression-b-3 = refl

-- the expression above the name x@4
pub type-expression-x-4 : type_at tree-types (3 ∷ 5 ∷ 1 ∷ 2 ∷ 2 ∷ 2 ∷ []) ≡ Some (RecordTy false (FieldTy (codes "a") (PointerTy (Keyed []) (codes "n")) (FieldTy (codes "b") (SubTy IntTy (pos 1) (pos 3)) LastTy)))
unfolding kids_of digits same largest_number compatible assignable cell_limit is_too_large reached declaration_in declaration lookup find rule decorate own routines_in routines_of outside_of own_entries errors_of heading_marks annotated routine_around attributes_at expression_type opened_at field_of meant_in meant routines_with_key meaning_in shape_at type_in type_at path_text key_text errors_text decls_text uses_text expr_text disagreement
type-expression-x-4 = refl

-- the expression above the name z@2
pub type-expression-z-2 : type_at tree-types (3 ∷ 5 ∷ 1 ∷ 1 ∷ 2 ∷ 1 ∷ 1 ∷ 1 ∷ []) ≡ Some (RecordTy false (FieldTy (codes "a") (PointerTy (Keyed []) (codes "n")) (FieldTy (codes "b") (ArrayTy false (NamedTy (codes "red" ∷ codes "green" ∷ [])) TruthTy) (FieldTy (codes "d") (ArrayTy false (NamedTy (codes "red" ∷ codes "green" ∷ [])) TruthTy) LastTy))))
unfolding kids_of digits same largest_number compatible assignable cell_limit is_too_large reached declaration_in declaration lookup find rule decorate own routines_in routines_of outside_of own_entries errors_of heading_marks annotated routine_around attributes_at expression_type opened_at field_of meant_in meant routines_with_key meaning_in shape_at type_in type_at path_text key_text errors_text decls_text uses_text expr_text disagreement
type-expression-z-2 = refl

-- the expression above the name d@2
pub type-expression-d-2 : type_at tree-types (3 ∷ 5 ∷ 1 ∷ 1 ∷ 2 ∷ 1 ∷ 1 ∷ []) ≡ Some (ArrayTy false (NamedTy (codes "red" ∷ codes "green" ∷ [])) TruthTy)
unfolding kids_of digits same largest_number compatible assignable cell_limit is_too_large reached declaration_in declaration lookup find rule decorate own routines_in routines_of outside_of own_entries errors_of heading_marks annotated routine_around attributes_at expression_type opened_at field_of meant_in meant routines_with_key meaning_in shape_at type_in type_at path_text key_text errors_text decls_text uses_text expr_text disagreement
type-expression-d-2 = refl

-- the node at /3/5/1/1/2/1
pub type-at-3-5-1-1-2-1 : type_at tree-types (3 ∷ 5 ∷ 1 ∷ 1 ∷ 2 ∷ 1 ∷ []) ≡ Some (TruthTy)
unfolding kids_of digits same largest_number compatible assignable cell_limit is_too_large reached declaration_in declaration lookup find rule decorate own routines_in routines_of outside_of own_entries errors_of heading_marks annotated routine_around attributes_at expression_type opened_at field_of meant_in meant routines_with_key meaning_in shape_at type_in type_at path_text key_text errors_text decls_text uses_text expr_text disagreement
type-at-3-5-1-1-2-1 = refl

-- the node at /3/5/1/1/2
pub type-at-3-5-1-1-2 : type_at tree-types (3 ∷ 5 ∷ 1 ∷ 1 ∷ 2 ∷ []) ≡ None
unfolding kids_of digits same largest_number compatible assignable cell_limit is_too_large reached declaration_in declaration lookup find rule decorate own routines_in routines_of outside_of own_entries errors_of heading_marks annotated routine_around attributes_at expression_type opened_at field_of meant_in meant routines_with_key meaning_in shape_at type_in type_at path_text key_text errors_text decls_text uses_text expr_text disagreement
type-at-3-5-1-1-2 = refl

-- the expression above the name k@2
pub type-expression-k-2 : type_at tree-types (3 ∷ 4 ∷ 5 ∷ 3 ∷ 5 ∷ 1 ∷ 1 ∷ 2 ∷ []) ≡ Some (ArrayTy true (SubTy IntTy (pos 1) (pos 2)) LetterTy)
unfolding kids_of digits same largest_number compatible assignable cell_limit is_too_large reached declaration_in declaration lookup find rule decorate own routines_in routines_of outside_of own_entries errors_of heading_marks annotated routine_around attributes_at expression_type opened_at field_of meant_in meant routines_with_key meaning_in shape_at type_in type_at path_text key_text errors_text decls_text uses_text expr_text disagreement
type-expression-k-2 = refl

-- the name k@2
pub type-k-2 : type_at tree-types (3 ∷ 4 ∷ 5 ∷ 3 ∷ 5 ∷ 1 ∷ 1 ∷ 2 ∷ 1 ∷ []) ≡ None
unfolding kids_of digits same largest_number compatible assignable cell_limit is_too_large reached declaration_in declaration lookup find rule decorate own routines_in routines_of outside_of own_entries errors_of heading_marks annotated routine_around attributes_at expression_type opened_at field_of meant_in meant routines_with_key meaning_in shape_at type_in type_at path_text key_text errors_text decls_text uses_text expr_text disagreement
type-k-2 = refl
