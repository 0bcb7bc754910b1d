-- The types at places of a program; x@2 is the second name x in the text.
use Rattle.std.specs.Prelude.{◌≡◌, [], ◌∷◌, codes, Some, None, true, false, pos}
use Rattle.std.proofs.Common.{refl}
use Rattle.std.specs.Fmt.{digits}
use Rattle.pc_syntax.specs.Plain.{Nil, Cons, Plain, kids_of}
use Rattle.pc_syntax.specs.declared.kind.Kind.TheVariants as kind
use Rattle.pc_types.specs.Sameness.{same}
use Rattle.pc_types.specs.TypeClasses.{largest_number}
use Rattle.pc_types.specs.Compatibility.{compatible, assignable}
use Rattle.pc_types.specs.Sizes.{cell_limit, is_too_large}
use Rattle.pc_types.specs.Domains.{reached}
use Rattle.pc_scope.specs.Lookup.{declaration_in, declaration, lookup}
use Rattle.pc_rules.specs.Meanings.{find}
use Rattle.pc_rules.specs.Decorated.{rule, decorate}
use Rattle.pc_rules.specs.OwnBlock.{own}
use Rattle.pc_rules.specs.RoutineList.{routines_in, routines_of}
use Rattle.pc_rules.specs.Outsides.{outside_of}
use Rattle.pc_rules.specs.Errors.{own_entries, errors_of}
use Rattle.pc_rules.specs.Routines.{heading_marks}
use Rattle.pc_decl.specs.Annotated.{annotated}
use Rattle.pc_decl.specs.Found.{routine_around, attributes_at}
use Rattle.pc_decl.specs.Roles.{expression_type}
use Rattle.pc_decl.specs.Uses.{opened_at}
use Rattle.pc_decl.specs.Records.{field_of}
use Rattle.pc_decl.specs.Meant.{meant_in, meant}
use Rattle.pc_decl.specs.Declared.{routines_with_key, meaning_in}
use Rattle.pc_decl.specs.TypeAt.{shape_at, type_in, type_at}
use Rattle.pc_decl.specs.Shown.{path_text, key_text}
use Rattle.pc_decl.specs.ErrorsText.{errors_text}
use Rattle.pc_decl.specs.DeclsText.{decls_text}
use Rattle.pc_decl.specs.UsesText.{uses_text}
use Rattle.pc_decl.specs.ExprText.{expr_text}
use Rattle.pc_decl_cases.specs.Agreement.{disagreement, Agrees}
use Rattle.pc_types.specs.Shapes.{Keyed}
use Rattle.pc_types.specs.Expanded.{IntTy, TruthTy, LetterTy, NamedTy, SubTy, ArrayTy, RecordTy, SetTy, PointerTy, LastTy, FieldTy}

-- program p; const k = 'ab'; type c = (red, green); l = ^n; n = record a: l; b, d: array [c] of boolean end; m = record a: l; b: 1..3 end; o = record a: c; a: c end; t = record h: ^u; i: char end; u = 2..1; var x, y: m; z: n; x: char; q: ^m; v: packed record e: set of char; h: ^m end; function f(i: c; var j: m): l; forward; function g(i: none): c; begin g := red end; function f; var s: set of c; i: char; begin f := nil; s := [] end; procedure w; begin end; procedure w; var t: char; begin t := k end; begin x.b := z.d[green] + 1; f(red, x); x.a := nil end.
abbrev pub tree-types : Plain
tree-types = record { kind = kind.Program; word = []; notes = []; kids = (Cons kind.Name (codes "p") [] Nil (Cons kind.Heads [] [] Nil (Cons kind.Block [] [] (Cons kind.Consts [] [] (Cons kind.Constdef [] [] (Cons kind.Name (codes "k") [] Nil (Cons kind.Cstring (codes "'ab'") [] Nil Nil)) Nil) (Cons kind.Types [] [] (Cons kind.Typedef [] [] (Cons kind.Name (codes "c") [] Nil (Cons kind.Enum [] [] (Cons kind.Names [] [] (Cons kind.Name (codes "red") [] Nil (Cons kind.Name (codes "green") [] Nil Nil)) Nil) Nil)) (Cons kind.Typedef [] [] (Cons kind.Name (codes "l") [] Nil (Cons kind.Pointer [] [] (Cons kind.Name (codes "n") [] Nil Nil) Nil)) (Cons kind.Typedef [] [] (Cons kind.Name (codes "n") [] Nil (Cons kind.Record [] [] (Cons kind.Fields [] [] (Cons kind.Field [] [] (Cons kind.Names [] [] (Cons kind.Name (codes "a") [] Nil Nil) (Cons kind.Tname [] [] (Cons kind.Name (codes "l") [] Nil Nil) Nil)) (Cons kind.Field [] [] (Cons kind.Names [] [] (Cons kind.Name (codes "b") [] Nil (Cons kind.Name (codes "d") [] Nil Nil)) (Cons kind.Array [] [] (Cons kind.Indexes [] [] (Cons kind.Tname [] [] (Cons kind.Name (codes "c") [] Nil Nil) Nil) (Cons kind.Tname [] [] (Cons kind.Name (codes "boolean") [] Nil Nil) Nil)) Nil)) Nil)) Nil) Nil)) (Cons kind.Typedef [] [] (Cons kind.Name (codes "m") [] Nil (Cons kind.Record [] [] (Cons kind.Fields [] [] (Cons kind.Field [] [] (Cons kind.Names [] [] (Cons kind.Name (codes "a") [] Nil Nil) (Cons kind.Tname [] [] (Cons kind.Name (codes "l") [] Nil Nil) Nil)) (Cons kind.Field [] [] (Cons kind.Names [] [] (Cons kind.Name (codes "b") [] Nil Nil) (Cons kind.Subrange [] [] (Cons kind.Cnumber (codes "1") [] Nil (Cons kind.Cnumber (codes "3") [] Nil Nil)) Nil)) Nil)) Nil) Nil)) (Cons kind.Typedef [] [] (Cons kind.Name (codes "o") [] Nil (Cons kind.Record [] [] (Cons kind.Fields [] [] (Cons kind.Field [] [] (Cons kind.Names [] [] (Cons kind.Name (codes "a") [] Nil Nil) (Cons kind.Tname [] [] (Cons kind.Name (codes "c") [] Nil Nil) Nil)) (Cons kind.Field [] [] (Cons kind.Names [] [] (Cons kind.Name (codes "a") [] Nil Nil) (Cons kind.Tname [] [] (Cons kind.Name (codes "c") [] Nil Nil) Nil)) Nil)) Nil) Nil)) (Cons kind.Typedef [] [] (Cons kind.Name (codes "t") [] Nil (Cons kind.Record [] [] (Cons kind.Fields [] [] (Cons kind.Field [] [] (Cons kind.Names [] [] (Cons kind.Name (codes "h") [] Nil Nil) (Cons kind.Pointer [] [] (Cons kind.Name (codes "u") [] Nil Nil) Nil)) (Cons kind.Field [] [] (Cons kind.Names [] [] (Cons kind.Name (codes "i") [] Nil Nil) (Cons kind.Tname [] [] (Cons kind.Name (codes "char") [] Nil Nil) Nil)) Nil)) Nil) Nil)) (Cons kind.Typedef [] [] (Cons kind.Name (codes "u") [] Nil (Cons kind.Subrange [] [] (Cons kind.Cnumber (codes "2") [] Nil (Cons kind.Cnumber (codes "1") [] Nil Nil)) Nil)) Nil))))))) (Cons kind.Vars [] [] (Cons kind.Vardef [] [] (Cons kind.Names [] [] (Cons kind.Name (codes "x") [] Nil (Cons kind.Name (codes "y") [] Nil Nil)) (Cons kind.Tname [] [] (Cons kind.Name (codes "m") [] Nil Nil) Nil)) (Cons kind.Vardef [] [] (Cons kind.Names [] [] (Cons kind.Name (codes "z") [] Nil Nil) (Cons kind.Tname [] [] (Cons kind.Name (codes "n") [] Nil Nil) Nil)) (Cons kind.Vardef [] [] (Cons kind.Names [] [] (Cons kind.Name (codes "x") [] Nil Nil) (Cons kind.Tname [] [] (Cons kind.Name (codes "char") [] Nil Nil) Nil)) (Cons kind.Vardef [] [] (Cons kind.Names [] [] (Cons kind.Name (codes "q") [] Nil Nil) (Cons kind.Pointer [] [] (Cons kind.Name (codes "m") [] Nil Nil) Nil)) (Cons kind.Vardef [] [] (Cons kind.Names [] [] (Cons kind.Name (codes "v") [] Nil Nil) (Cons kind.Packed [] [] (Cons kind.Record [] [] (Cons kind.Fields [] [] (Cons kind.Field [] [] (Cons kind.Names [] [] (Cons kind.Name (codes "e") [] Nil Nil) (Cons kind.Setof [] [] (Cons kind.Tname [] [] (Cons kind.Name (codes "char") [] Nil Nil) Nil) Nil)) (Cons kind.Field [] [] (Cons kind.Names [] [] (Cons kind.Name (codes "h") [] Nil Nil) (Cons kind.Pointer [] [] (Cons kind.Name (codes "m") [] Nil Nil) Nil)) Nil)) Nil) Nil) Nil)) Nil))))) (Cons kind.Routines [] [] (Cons kind.Function [] [] (Cons kind.Name (codes "f") [] Nil (Cons kind.Params [] [] (Cons kind.Valparam [] [] (Cons kind.Names [] [] (Cons kind.Name (codes "i") [] Nil Nil) (Cons kind.Name (codes "c") [] Nil Nil)) (Cons kind.Varparam [] [] (Cons kind.Names [] [] (Cons kind.Name (codes "j") [] Nil Nil) (Cons kind.Name (codes "m") [] Nil Nil)) Nil)) (Cons kind.Name (codes "l") [] Nil (Cons kind.Forward (codes "forward") [] Nil Nil)))) (Cons kind.Function [] [] (Cons kind.Name (codes "g") [] Nil (Cons kind.Params [] [] (Cons kind.Valparam [] [] (Cons kind.Names [] [] (Cons kind.Name (codes "i") [] Nil Nil) (Cons kind.Name (codes "none") [] Nil Nil)) Nil) (Cons kind.Name (codes "c") [] Nil (Cons kind.Block [] [] (Cons kind.Consts [] [] Nil (Cons kind.Types [] [] Nil (Cons kind.Vars [] [] Nil (Cons kind.Routines [] [] Nil (Cons kind.Compound [] [] (Cons kind.Stmts [] [] (Cons kind.Assign [] [] (Cons kind.Ref [] [] (Cons kind.Name (codes "g") [] Nil Nil) (Cons kind.Ref [] [] (Cons kind.Name (codes "red") [] Nil Nil) Nil)) Nil) Nil) Nil))))) Nil)))) (Cons kind.Funbody [] [] (Cons kind.Name (codes "f") [] Nil (Cons kind.Block [] [] (Cons kind.Consts [] [] Nil (Cons kind.Types [] [] Nil (Cons kind.Vars [] [] (Cons kind.Vardef [] [] (Cons kind.Names [] [] (Cons kind.Name (codes "s") [] Nil Nil) (Cons kind.Setof [] [] (Cons kind.Tname [] [] (Cons kind.Name (codes "c") [] Nil Nil) Nil) Nil)) (Cons kind.Vardef [] [] (Cons kind.Names [] [] (Cons kind.Name (codes "i") [] Nil Nil) (Cons kind.Tname [] [] (Cons kind.Name (codes "char") [] Nil Nil) Nil)) Nil)) (Cons kind.Routines [] [] Nil (Cons kind.Compound [] [] (Cons kind.Stmts [] [] (Cons kind.Assign [] [] (Cons kind.Ref [] [] (Cons kind.Name (codes "f") [] Nil Nil) (Cons kind.Nil [] [] Nil Nil)) (Cons kind.Assign [] [] (Cons kind.Ref [] [] (Cons kind.Name (codes "s") [] Nil Nil) (Cons kind.Setcon [] [] (Cons kind.Members [] [] Nil Nil) Nil)) Nil)) Nil) Nil))))) Nil)) (Cons kind.Procedure [] [] (Cons kind.Name (codes "w") [] Nil (Cons kind.Params [] [] Nil (Cons kind.Block [] [] (Cons kind.Consts [] [] Nil (Cons kind.Types [] [] Nil (Cons kind.Vars [] [] Nil (Cons kind.Routines [] [] Nil (Cons kind.Compound [] [] (Cons kind.Stmts [] [] (Cons kind.Empty [] [] Nil Nil) Nil) Nil))))) Nil))) (Cons kind.Procedure [] [] (Cons kind.Name (codes "w") [] Nil (Cons kind.Params [] [] Nil (Cons kind.Block [] [] (Cons kind.Consts [] [] Nil (Cons kind.Types [] [] Nil (Cons kind.Vars [] [] (Cons kind.Vardef [] [] (Cons kind.Names [] [] (Cons kind.Name (codes "t") [] Nil Nil) (Cons kind.Tname [] [] (Cons kind.Name (codes "char") [] Nil Nil) Nil)) Nil) (Cons kind.Routines [] [] Nil (Cons kind.Compound [] [] (Cons kind.Stmts [] [] (Cons kind.Assign [] [] (Cons kind.Ref [] [] (Cons kind.Name (codes "t") [] Nil Nil) (Cons kind.Ref [] [] (Cons kind.Name (codes "k") [] Nil Nil) Nil)) Nil) Nil) Nil))))) Nil))) Nil))))) (Cons kind.Compound [] [] (Cons kind.Stmts [] [] (Cons kind.Assign [] [] (Cons kind.Select [] [] (Cons kind.Ref [] [] (Cons kind.Name (codes "x") [] Nil Nil) (Cons kind.Name (codes "b") [] Nil Nil)) (Cons kind.Add (codes "+") [] (Cons kind.Index [] [] (Cons kind.Select [] [] (Cons kind.Ref [] [] (Cons kind.Name (codes "z") [] Nil Nil) (Cons kind.Name (codes "d") [] Nil Nil)) (Cons kind.Exprs [] [] (Cons kind.Ref [] [] (Cons kind.Name (codes "green") [] Nil Nil) Nil) Nil)) (Cons kind.Number (codes "1") [] Nil Nil)) Nil)) (Cons kind.Proc [] [] (Cons kind.Name (codes "f") [] Nil (Cons kind.Args [] [] (Cons kind.Ref [] [] (Cons kind.Name (codes "red") [] Nil Nil) (Cons kind.Ref [] [] (Cons kind.Name (codes "x") [] Nil Nil) Nil)) Nil)) (Cons kind.Assign [] [] (Cons kind.Select [] [] (Cons kind.Ref [] [] (Cons kind.Name (codes "x") [] Nil Nil) (Cons kind.Name (codes "a") [] Nil Nil)) (Cons kind.Nil [] [] Nil Nil)) Nil))) Nil) Nil))))) Nil))) }

pub agreement-types : disagreement tree-types ≡ Agrees
unfolding kids_of digits same largest_number compatible assignable cell_limit is_too_large reached declaration_in declaration lookup find rule decorate own routines_in routines_of outside_of own_entries errors_of heading_marks annotated routine_around attributes_at expression_type opened_at field_of meant_in meant routines_with_key meaning_in shape_at type_in type_at path_text key_text errors_text decls_text uses_text expr_text disagreement
agreement-types = refl

-- the name k@1
pub type-k-1 : type_at tree-types (3 ∷ 1 ∷ 1 ∷ 1 ∷ []) ≡ Some (ArrayTy true (SubTy IntTy (pos 1) (pos 2)) LetterTy)
unfolding kids_of digits same largest_number compatible assignable cell_limit is_too_large reached declaration_in declaration lookup find rule decorate own routines_in routines_of outside_of own_entries errors_of heading_marks annotated routine_around attributes_at expression_type opened_at field_of meant_in meant routines_with_key meaning_in shape_at type_in type_at path_text key_text errors_text decls_text uses_text expr_text disagreement
type-k-1 = refl

-- the name c@1
pub type-c-1 : type_at tree-types (3 ∷ 2 ∷ 1 ∷ 1 ∷ []) ≡ Some (NamedTy (codes "red" ∷ codes "green" ∷ []))
unfolding kids_of digits same largest_number compatible assignable cell_limit is_too_large reached declaration_in declaration lookup find rule decorate own routines_in routines_of outside_of own_entries errors_of heading_marks annotated routine_around attributes_at expression_type opened_at field_of meant_in meant routines_with_key meaning_in shape_at type_in type_at path_text key_text errors_text decls_text uses_text expr_text disagreement
type-c-1 = refl

-- the name red@1
pub type-red-1 : type_at tree-types (3 ∷ 2 ∷ 1 ∷ 2 ∷ 1 ∷ 1 ∷ []) ≡ Some (NamedTy (codes "red" ∷ codes "green" ∷ []))
unfolding kids_of digits same largest_number compatible assignable cell_limit is_too_large reached declaration_in declaration lookup find rule decorate own routines_in routines_of outside_of own_entries errors_of heading_marks annotated routine_around attributes_at expression_type opened_at field_of meant_in meant routines_with_key meaning_in shape_at type_in type_at path_text key_text errors_text decls_text uses_text expr_text disagreement
type-red-1 = refl

-- the name green@1
pub type-green-1 : type_at tree-types (3 ∷ 2 ∷ 1 ∷ 2 ∷ 1 ∷ 2 ∷ []) ≡ Some (NamedTy (codes "red" ∷ codes "green" ∷ []))
unfolding kids_of digits same largest_number compatible assignable cell_limit is_too_large reached declaration_in declaration lookup find rule decorate own routines_in routines_of outside_of own_entries errors_of heading_marks annotated routine_around attributes_at expression_type opened_at field_of meant_in meant routines_with_key meaning_in shape_at type_in type_at path_text key_text errors_text decls_text uses_text expr_text disagreement
type-green-1 = refl

-- the name l@1
pub type-l-1 : type_at tree-types (3 ∷ 2 ∷ 2 ∷ 1 ∷ []) ≡ Some (PointerTy (Keyed []) (codes "n"))
unfolding kids_of digits same largest_number compatible assignable cell_limit is_too_large reached declaration_in declaration lookup find rule decorate own routines_in routines_of outside_of own_entries errors_of heading_marks annotated routine_around attributes_at expression_type opened_at field_of meant_in meant routines_with_key meaning_in shape_at type_in type_at path_text key_text errors_text decls_text uses_text expr_text disagreement
type-l-1 = refl

-- the name n@2
pub type-n-2 : type_at tree-types (3 ∷ 2 ∷ 3 ∷ 1 ∷ []) ≡ Some (RecordTy false (FieldTy (codes "a") (PointerTy (Keyed []) (codes "n")) (FieldTy (codes "b") (ArrayTy false (NamedTy (codes "red" ∷ codes "green" ∷ [])) TruthTy) (FieldTy (codes "d") (ArrayTy false (NamedTy (codes "red" ∷ codes "green" ∷ [])) TruthTy) LastTy))))
unfolding kids_of digits same largest_number compatible assignable cell_limit is_too_large reached declaration_in declaration lookup find rule decorate own routines_in routines_of outside_of own_entries errors_of heading_marks annotated routine_around attributes_at expression_type opened_at field_of meant_in meant routines_with_key meaning_in shape_at type_in type_at path_text key_text errors_text decls_text uses_text expr_text disagreement
type-n-2 = refl

-- the name m@1
pub type-m-1 : type_at tree-types (3 ∷ 2 ∷ 4 ∷ 1 ∷ []) ≡ Some (RecordTy false (FieldTy (codes "a") (PointerTy (Keyed []) (codes "n")) (FieldTy (codes "b") (SubTy IntTy (pos 1) (pos 3)) LastTy)))
unfolding kids_of digits same largest_number compatible assignable cell_limit is_too_large reached declaration_in declaration lookup find rule decorate own routines_in routines_of outside_of own_entries errors_of heading_marks annotated routine_around attributes_at expression_type opened_at field_of meant_in meant routines_with_key meaning_in shape_at type_in type_at path_text key_text errors_text decls_text uses_text expr_text disagreement
type-m-1 = refl

-- the name o@1
pub type-o-1 : type_at tree-types (3 ∷ 2 ∷ 5 ∷ 1 ∷ []) ≡ None
unfolding kids_of digits same largest_number compatible assignable cell_limit is_too_large reached declaration_in declaration lookup find rule decorate own routines_in routines_of outside_of own_entries errors_of heading_marks annotated routine_around attributes_at expression_type opened_at field_of meant_in meant routines_with_key meaning_in shape_at type_in type_at path_text key_text errors_text decls_text uses_text expr_text disagreement
type-o-1 = refl

-- the name t@1
pub type-t-1 : type_at tree-types (3 ∷ 2 ∷ 6 ∷ 1 ∷ []) ≡ None
unfolding kids_of digits same largest_number compatible assignable cell_limit is_too_large reached declaration_in declaration lookup find rule decorate own routines_in routines_of outside_of own_entries errors_of heading_marks annotated routine_around attributes_at expression_type opened_at field_of meant_in meant routines_with_key meaning_in shape_at type_in type_at path_text key_text errors_text decls_text uses_text expr_text disagreement
type-t-1 = refl

-- the name u@2
pub type-u-2 : type_at tree-types (3 ∷ 2 ∷ 7 ∷ 1 ∷ []) ≡ None
unfolding kids_of digits same largest_number compatible assignable cell_limit is_too_large reached declaration_in declaration lookup find rule decorate own routines_in routines_of outside_of own_entries errors_of heading_marks annotated routine_around attributes_at expression_type opened_at field_of meant_in meant routines_with_key meaning_in shape_at type_in type_at path_text key_text errors_text decls_text uses_text expr_text disagreement
type-u-2 = refl

-- the name a@1
pub type-a-1 : type_at tree-types (3 ∷ 2 ∷ 3 ∷ 2 ∷ 1 ∷ 1 ∷ 1 ∷ 1 ∷ []) ≡ Some (PointerTy (Keyed []) (codes "n"))
unfolding kids_of digits same largest_number compatible assignable cell_limit is_too_large reached declaration_in declaration lookup find rule decorate own routines_in routines_of outside_of own_entries errors_of heading_marks annotated routine_around attributes_at expression_type opened_at field_of meant_in meant routines_with_key meaning_in shape_at type_in type_at path_text key_text errors_text decls_text uses_text expr_text disagreement
type-a-1 = refl

-- the name b@1
pub type-b-1 : type_at tree-types (3 ∷ 2 ∷ 3 ∷ 2 ∷ 1 ∷ 2 ∷ 1 ∷ 1 ∷ []) ≡ Some (ArrayTy false (NamedTy (codes "red" ∷ codes "green" ∷ [])) TruthTy)
unfolding kids_of digits same largest_number compatible assignable cell_limit is_too_large reached declaration_in declaration lookup find rule decorate own routines_in routines_of outside_of own_entries errors_of heading_marks annotated routine_around attributes_at expression_type opened_at field_of meant_in meant routines_with_key meaning_in shape_at type_in type_at path_text key_text errors_text decls_text uses_text expr_text disagreement
type-b-1 = refl

-- the name d@1
pub type-d-1 : type_at tree-types (3 ∷ 2 ∷ 3 ∷ 2 ∷ 1 ∷ 2 ∷ 1 ∷ 2 ∷ []) ≡ Some (ArrayTy false (NamedTy (codes "red" ∷ codes "green" ∷ [])) TruthTy)
unfolding kids_of digits same largest_number compatible assignable cell_limit is_too_large reached declaration_in declaration lookup find rule decorate own routines_in routines_of outside_of own_entries errors_of heading_marks annotated routine_around attributes_at expression_type opened_at field_of meant_in meant routines_with_key meaning_in shape_at type_in type_at path_text key_text errors_text decls_text uses_text expr_text disagreement
type-d-1 = refl

-- the name b@2
pub type-b-2 : type_at tree-types (3 ∷ 2 ∷ 4 ∷ 2 ∷ 1 ∷ 2 ∷ 1 ∷ 1 ∷ []) ≡ Some (SubTy IntTy (pos 1) (pos 3))
unfolding kids_of digits same largest_number compatible assignable cell_limit is_too_large reached declaration_in declaration lookup find rule decorate own routines_in routines_of outside_of own_entries errors_of heading_marks annotated routine_around attributes_at expression_type opened_at field_of meant_in meant routines_with_key meaning_in shape_at type_in type_at path_text key_text errors_text decls_text uses_text expr_text disagreement
type-b-2 = refl

-- the name a@3
pub type-a-3 : type_at tree-types (3 ∷ 2 ∷ 5 ∷ 2 ∷ 1 ∷ 1 ∷ 1 ∷ 1 ∷ []) ≡ None
unfolding kids_of digits same largest_number compatible assignable cell_limit is_too_large reached declaration_in declaration lookup find rule decorate own routines_in routines_of outside_of own_entries errors_of heading_marks annotated routine_around attributes_at expression_type opened_at field_of meant_in meant routines_with_key meaning_in shape_at type_in type_at path_text key_text errors_text decls_text uses_text expr_text disagreement
type-a-3 = refl

-- the name a@4
pub type-a-4 : type_at tree-types (3 ∷ 2 ∷ 5 ∷ 2 ∷ 1 ∷ 2 ∷ 1 ∷ 1 ∷ []) ≡ None
unfolding kids_of digits same largest_number compatible assignable cell_limit is_too_large reached declaration_in declaration lookup find rule decorate own routines_in routines_of outside_of own_entries errors_of heading_marks annotated routine_around attributes_at expression_type opened_at field_of meant_in meant routines_with_key meaning_in shape_at type_in type_at path_text key_text errors_text decls_text uses_text expr_text disagreement
type-a-4 = refl

-- the name i@1
pub type-i-1 : type_at tree-types (3 ∷ 2 ∷ 6 ∷ 2 ∷ 1 ∷ 2 ∷ 1 ∷ 1 ∷ []) ≡ None
unfolding kids_of digits same largest_number compatible assignable cell_limit is_too_large reached declaration_in declaration lookup find rule decorate own routines_in routines_of outside_of own_entries errors_of heading_marks annotated routine_around attributes_at expression_type opened_at field_of meant_in meant routines_with_key meaning_in shape_at type_in type_at path_text key_text errors_text decls_text uses_text expr_text disagreement
type-i-1 = refl

-- the name h@1
pub type-h-1 : type_at tree-types (3 ∷ 2 ∷ 6 ∷ 2 ∷ 1 ∷ 1 ∷ 1 ∷ 1 ∷ []) ≡ None
unfolding kids_of digits same largest_number compatible assignable cell_limit is_too_large reached declaration_in declaration lookup find rule decorate own routines_in routines_of outside_of own_entries errors_of heading_marks annotated routine_around attributes_at expression_type opened_at field_of meant_in meant routines_with_key meaning_in shape_at type_in type_at path_text key_text errors_text decls_text uses_text expr_text disagreement
type-h-1 = refl

-- the name e@1
pub type-e-1 : type_at tree-types (3 ∷ 3 ∷ 5 ∷ 2 ∷ 1 ∷ 1 ∷ 1 ∷ 1 ∷ 1 ∷ []) ≡ Some (SetTy false LetterTy)
unfolding kids_of digits same largest_number compatible assignable cell_limit is_too_large reached declaration_in declaration lookup find rule decorate own routines_in routines_of outside_of own_entries errors_of heading_marks annotated routine_around attributes_at expression_type opened_at field_of meant_in meant routines_with_key meaning_in shape_at type_in type_at path_text key_text errors_text decls_text uses_text expr_text disagreement
type-e-1 = refl

-- the name h@2
pub type-h-2 : type_at tree-types (3 ∷ 3 ∷ 5 ∷ 2 ∷ 1 ∷ 1 ∷ 2 ∷ 1 ∷ 1 ∷ []) ≡ Some (PointerTy (Keyed []) (codes "m"))
unfolding kids_of digits same largest_number compatible assignable cell_limit is_too_large reached declaration_in declaration lookup find rule decorate own routines_in routines_of outside_of own_entries errors_of heading_marks annotated routine_around attributes_at expression_type opened_at field_of meant_in meant routines_with_key meaning_in shape_at type_in type_at path_text key_text errors_text decls_text uses_text expr_text disagreement
type-h-2 = refl

-- the name x@1
pub type-x-1 : type_at tree-types (3 ∷ 3 ∷ 1 ∷ 1 ∷ 1 ∷ []) ≡ Some (RecordTy false (FieldTy (codes "a") (PointerTy (Keyed []) (codes "n")) (FieldTy (codes "b") (SubTy IntTy (pos 1) (pos 3)) LastTy)))
unfolding kids_of digits same largest_number compatible assignable cell_limit is_too_large reached declaration_in declaration lookup find rule decorate own routines_in routines_of outside_of own_entries errors_of heading_marks annotated routine_around attributes_at expression_type opened_at field_of meant_in meant routines_with_key meaning_in shape_at type_in type_at path_text key_text errors_text decls_text uses_text expr_text disagreement
type-x-1 = refl

-- the name y@1
pub type-y-1 : type_at tree-types (3 ∷ 3 ∷ 1 ∷ 1 ∷ 2 ∷ []) ≡ Some (RecordTy false (FieldTy (codes "a") (PointerTy (Keyed []) (codes "n")) (FieldTy (codes "b") (SubTy IntTy (pos 1) (pos 3)) LastTy)))
unfolding kids_of digits same largest_number compatible assignable cell_limit is_too_large reached declaration_in declaration lookup find rule decorate own routines_in routines_of outside_of own_entries errors_of heading_marks annotated routine_around attributes_at expression_type opened_at field_of meant_in meant routines_with_key meaning_in shape_at type_in type_at path_text key_text errors_text decls_text uses_text expr_text disagreement
type-y-1 = refl

-- the name z@1
pub type-z-1 : type_at tree-types (3 ∷ 3 ∷ 2 ∷ 1 ∷ 1 ∷ []) ≡ Some (RecordTy false (FieldTy (codes "a") (PointerTy (Keyed []) (codes "n")) (FieldTy (codes "b") (ArrayTy false (NamedTy (codes "red" ∷ codes "green" ∷ [])) TruthTy) (FieldTy (codes "d") (ArrayTy false (NamedTy (codes "red" ∷ codes "green" ∷ [])) TruthTy) LastTy))))
unfolding kids_of digits same largest_number compatible assignable cell_limit is_too_large reached declaration_in declaration lookup find rule decorate own routines_in routines_of outside_of own_entries errors_of heading_marks annotated routine_around attributes_at expression_type opened_at field_of meant_in meant routines_with_key meaning_in shape_at type_in type_at path_text key_text errors_text decls_text uses_text expr_text disagreement
type-z-1 = refl

-- the name x@2
pub type-x-2 : type_at tree-types (3 ∷ 3 ∷ 3 ∷ 1 ∷ 1 ∷ []) ≡ None
unfolding kids_of digits same largest_number compatible assignable cell_limit is_too_large reached declaration_in declaration lookup find rule decorate own routines_in routines_of outside_of own_entries errors_of heading_marks annotated routine_around attributes_at expression_type opened_at field_of meant_in meant routines_with_key meaning_in shape_at type_in type_at path_text key_text errors_text decls_text uses_text expr_text disagreement
type-x-2 = refl
