-- Programs with the texts of their views.
use Rattle.std.specs.Prelude.{◌≡◌, [], codes}
use Rattle.std.proofs.Common.{refl}
use Rattle.std.specs.Fmt.{digits}
use Rattle.pc_syntax.specs.Plain.{Nil, Cons, Plain, kids_of}
use Rattle.pc_syntax.specs.declared.kind.Kind.TheVariants as kind
use Rattle.pc_syntax.specs.declared.sort.Sort.TheVariants as sort
use Rattle.pc_types.specs.Sameness.{same}
use Rattle.pc_types.specs.TypeClasses.{largest_number}
use Rattle.pc_types.specs.Compatibility.{compatible, assignable}
use Rattle.pc_types.specs.Sizes.{cell_limit, is_too_large}
use Rattle.pc_types.specs.Domains.{reached}
use Rattle.pc_scope.specs.Lookup.{declaration_in, declaration, lookup}
use Rattle.pc_rules.specs.Meanings.{find}
use Rattle.pc_rules.specs.Decorated.{rule, decorate}
use Rattle.pc_rules.specs.OwnBlock.{own}
use Rattle.pc_rules.specs.RoutineList.{routines_in, routines_of}
use Rattle.pc_rules.specs.Outsides.{outside_of}
use Rattle.pc_rules.specs.Errors.{own_entries, errors_of}
use Rattle.pc_rules.specs.Routines.{heading_marks}
use Rattle.pc_decl.specs.Annotated.{annotated}
use Rattle.pc_decl.specs.Found.{routine_around, attributes_at}
use Rattle.pc_decl.specs.Roles.{expression_type}
use Rattle.pc_decl.specs.Uses.{opened_at}
use Rattle.pc_decl.specs.Records.{field_of}
use Rattle.pc_decl.specs.Meant.{meant_in, meant}
use Rattle.pc_decl.specs.Declared.{routines_with_key, meaning_in}
use Rattle.pc_decl.specs.TypeAt.{shape_at, type_in, type_at}
use Rattle.pc_decl.specs.Shown.{path_text, key_text}
use Rattle.pc_decl.specs.ErrorsText.{errors_text}
use Rattle.pc_decl.specs.DeclsText.{decls_text}
use Rattle.pc_decl.specs.UsesText.{uses_text}
use Rattle.pc_decl.specs.ExprText.{expr_text}
use Rattle.pc_decl_cases.specs.Agreement.{disagreement, Agrees}

-- decls and uses of ?program print nothing; of a program whose block is a hole the key alone.
abbrev pub tree-decls-no-program : Plain
tree-decls-no-program = record { kind = kind.Hole sort.Program; word = []; notes = []; kids = Nil }

pub agreement-decls-no-program : disagreement tree-decls-no-program ≡ Agrees
unfolding kids_of digits same largest_number compatible assignable cell_limit is_too_large reached declaration_in declaration lookup find rule decorate own routines_in routines_of outside_of own_entries errors_of heading_marks annotated routine_around attributes_at expression_type opened_at field_of meant_in meant routines_with_key meaning_in shape_at type_in type_at path_text key_text errors_text decls_text uses_text expr_text disagreement
agreement-decls-no-program = refl

abbrev pub tree-decls-no-program-1 : Plain
tree-decls-no-program-1 = record { kind = kind.Program; word = []; notes = []; kids = (Cons (kind.Hole sort.Name) [] [] Nil (Cons kind.Heads [] [] Nil (Cons (kind.Hole sort.Block) [] [] Nil Nil))) }

pub agreement-decls-no-program-1 : disagreement tree-decls-no-program-1 ≡ Agrees
unfolding kids_of digits same largest_number compatible assignable cell_limit is_too_large reached declaration_in declaration lookup find rule decorate own routines_in routines_of outside_of own_entries errors_of heading_marks annotated routine_around attributes_at expression_type opened_at field_of meant_in meant routines_with_key meaning_in shape_at type_in type_at path_text key_text errors_text decls_text uses_text expr_text disagreement
agreement-decls-no-program-1 = refl

pub decls-no-program-1 : decls_text tree-decls-no-program ≡ []
unfolding kids_of digits same largest_number compatible assignable cell_limit is_too_large reached declaration_in declaration lookup find rule decorate own routines_in routines_of outside_of own_entries errors_of heading_marks annotated routine_around attributes_at expression_type opened_at field_of meant_in meant routines_with_key meaning_in shape_at type_in type_at path_text key_text errors_text decls_text uses_text expr_text disagreement
decls-no-program-1 = refl

pub decls-no-program-2 : uses_text tree-decls-no-program ≡ []
unfolding kids_of digits same largest_number compatible assignable cell_limit is_too_large reached declaration_in declaration lookup find rule decorate own routines_in routines_of outside_of own_entries errors_of heading_marks annotated routine_around attributes_at expression_type opened_at field_of meant_in meant routines_with_key meaning_in shape_at type_in type_at path_text key_text errors_text decls_text uses_text expr_text disagreement
decls-no-program-2 = refl

pub decls-no-program-3 : decls_text tree-decls-no-program-1 ≡ (codes ".\n")
unfolding kids_of digits same largest_number compatible assignable cell_limit is_too_large reached declaration_in declaration lookup find rule decorate own routines_in routines_of outside_of own_entries errors_of heading_marks annotated routine_around attributes_at expression_type opened_at field_of meant_in meant routines_with_key meaning_in shape_at type_in type_at path_text key_text errors_text decls_text uses_text expr_text disagreement
decls-no-program-3 = refl

pub decls-no-program-4 : uses_text tree-decls-no-program-1 ≡ []
unfolding kids_of digits same largest_number compatible assignable cell_limit is_too_large reached declaration_in declaration lookup find rule decorate own routines_in routines_of outside_of own_entries errors_of heading_marks annotated routine_around attributes_at expression_type opened_at field_of meant_in meant routines_with_key meaning_in shape_at type_in type_at path_text key_text errors_text decls_text uses_text expr_text disagreement
decls-no-program-4 = refl

-- decls: a pointer type's text is ^ and the domain's name in lower case; it is ? where the domain is bad.
abbrev pub tree-decls-pointers : Plain
tree-decls-pointers = record { kind = kind.Program; word = []; notes = []; kids = (Cons kind.Name (codes "p") [] Nil (Cons kind.Heads [] [] Nil (Cons kind.Block [] [] (Cons kind.Consts [] [] Nil (Cons kind.Types [] [] (Cons kind.Typedef [] [] (Cons kind.Name (codes "L") [] Nil (Cons kind.Pointer [] [] (Cons kind.Name (codes "Node") [] Nil Nil) Nil)) (Cons kind.Typedef [] [] (Cons kind.Name (codes "node") [] Nil (Cons kind.Record [] [] (Cons kind.Fields [] [] (Cons kind.Field [] [] (Cons kind.Names [] [] (Cons kind.Name (codes "v") [] Nil Nil) (Cons kind.Pointer [] [] (Cons kind.Name (codes "integer") [] Nil Nil) Nil)) (Cons kind.Field [] [] (Cons kind.Names [] [] (Cons kind.Name (codes "next") [] Nil Nil) (Cons kind.Tname [] [] (Cons kind.Name (codes "L") [] Nil Nil) Nil)) Nil)) Nil) Nil)) (Cons kind.Typedef [] [] (Cons kind.Name (codes "bad") [] Nil (Cons kind.Pointer [] [] (Cons kind.Name (codes "t") [] Nil Nil) Nil)) (Cons kind.Typedef [] [] (Cons kind.Name (codes "worse") [] Nil (Cons kind.Pointer [] [] (Cons kind.Name (codes "w") [] Nil Nil) Nil)) (Cons kind.Typedef [] [] (Cons kind.Name (codes "w") [] Nil (Cons kind.Subrange [] [] (Cons kind.Cnumber (codes "2") [] Nil (Cons kind.Cnumber (codes "1") [] Nil Nil)) Nil)) Nil))))) (Cons kind.Vars [] [] (Cons kind.Vardef [] [] (Cons kind.Names [] [] (Cons kind.Name (codes "q") [] Nil Nil) (Cons kind.Pointer [] [] (Cons kind.Name (codes "NODE") [] Nil Nil) Nil)) (Cons kind.Vardef [] [] (Cons kind.Names [] [] (Cons kind.Name (codes "r") [] Nil Nil) (Cons kind.Tname [] [] (Cons kind.Name (codes "worse") [] Nil Nil) Nil)) Nil)) (Cons kind.Routines [] [] Nil (Cons kind.Compound [] [] (Cons kind.Stmts [] [] (Cons kind.Empty [] [] Nil Nil) Nil) Nil))))) Nil))) }

pub agreement-decls-pointers : disagreement tree-decls-pointers ≡ Agrees
unfolding kids_of digits same largest_number compatible assignable cell_limit is_too_large reached declaration_in declaration lookup find rule decorate own routines_in routines_of outside_of own_entries errors_of heading_marks annotated routine_around attributes_at expression_type opened_at field_of meant_in meant routines_with_key meaning_in shape_at type_in type_at path_text key_text errors_text decls_text uses_text expr_text disagreement
agreement-decls-pointers = refl

pub decls-pointers : decls_text tree-decls-pointers ≡ (codes ".\n  l type ^node\n  node type record v: ^integer; next: ^node end\n  bad type ?\n  worse type ?\n  w type ?\n  q var ^node\n  r var ?\n")
unfolding kids_of digits same largest_number compatible assignable cell_limit is_too_large reached declaration_in declaration lookup find rule decorate own routines_in routines_of outside_of own_entries errors_of heading_marks annotated routine_around attributes_at expression_type opened_at field_of meant_in meant routines_with_key meaning_in shape_at type_in type_at path_text key_text errors_text decls_text uses_text expr_text disagreement
decls-pointers = refl

-- decls: what the later declaration repeats declares nothing.
abbrev pub tree-decls-repeated : Plain
tree-decls-repeated = record { kind = kind.Program; word = []; notes = []; kids = (Cons kind.Name (codes "p") [] Nil (Cons kind.Heads [] [] Nil (Cons kind.Block [] [] (Cons kind.Consts [] [] Nil (Cons kind.Types [] [] Nil (Cons kind.Vars [] [] Nil (Cons kind.Routines [] [] (Cons kind.Function [] [] (Cons kind.Name (codes "f") [] Nil (Cons kind.Params [] [] (Cons kind.Valparam [] [] (Cons kind.Names [] [] (Cons kind.Name (codes "a") [] Nil Nil) (Cons kind.Name (codes "integer") [] Nil Nil)) Nil) (Cons kind.Name (codes "integer") [] Nil (Cons kind.Forward (codes "forward") [] Nil Nil)))) (Cons kind.Function [] [] (Cons kind.Name (codes "f") [] Nil (Cons kind.Params [] [] (Cons kind.Valparam [] [] (Cons kind.Names [] [] (Cons kind.Name (codes "b") [] Nil Nil) (Cons kind.Name (codes "char") [] Nil Nil)) Nil) (Cons kind.Name (codes "char") [] Nil (Cons kind.Block [] [] (Cons kind.Consts [] [] Nil (Cons kind.Types [] [] Nil (Cons kind.Vars [] [] (Cons kind.Vardef [] [] (Cons kind.Names [] [] (Cons kind.Name (codes "c") [] Nil Nil) (Cons kind.Tname [] [] (Cons kind.Name (codes "char") [] Nil Nil) Nil)) Nil) (Cons kind.Routines [] [] Nil (Cons kind.Compound [] [] (Cons kind.Stmts [] [] (Cons kind.Empty [] [] Nil Nil) Nil) Nil))))) Nil)))) Nil)) (Cons kind.Compound [] [] (Cons kind.Stmts [] [] (Cons kind.Empty [] [] Nil Nil) Nil) Nil))))) Nil))) }

pub agreement-decls-repeated : disagreement tree-decls-repeated ≡ Agrees
unfolding kids_of digits same largest_number compatible assignable cell_limit is_too_large reached declaration_in declaration lookup find rule decorate own routines_in routines_of outside_of own_entries errors_of heading_marks annotated routine_around attributes_at expression_type opened_at field_of meant_in meant routines_with_key meaning_in shape_at type_in type_at path_text key_text errors_text decls_text uses_text expr_text disagreement
agreement-decls-repeated = refl

pub decls-repeated : decls_text tree-decls-repeated ≡ (codes ".\n  f function integer\n.f\n  a value integer\n  c var char\n")
unfolding kids_of digits same largest_number compatible assignable cell_limit is_too_large reached declaration_in declaration lookup find rule decorate own routines_in routines_of outside_of own_entries errors_of heading_marks annotated routine_around attributes_at expression_type opened_at field_of meant_in meant routines_with_key meaning_in shape_at type_in type_at path_text key_text errors_text decls_text uses_text expr_text disagreement
decls-repeated = refl

-- decls: required names that the block defines anew are listed; the text of a type is its expansion.
abbrev pub tree-decls-required-anew : Plain
tree-decls-required-anew = record { kind = kind.Program; word = []; notes = []; kids = (Cons kind.Name (codes "p") [] Nil (Cons kind.Heads [] [] Nil (Cons kind.Block [] [] (Cons kind.Consts [] [] Nil (Cons kind.Types [] [] (Cons kind.Typedef [] [] (Cons kind.Name (codes "integer") [] Nil (Cons kind.Tname [] [] (Cons kind.Name (codes "char") [] Nil Nil) Nil)) (Cons kind.Typedef [] [] (Cons kind.Name (codes "boolean") [] Nil (Cons kind.Tname [] [] (Cons kind.Name (codes "integer") [] Nil Nil) Nil)) Nil)) (Cons kind.Vars [] [] (Cons kind.Vardef [] [] (Cons kind.Names [] [] (Cons kind.Name (codes "true") [] Nil Nil) (Cons kind.Tname [] [] (Cons kind.Name (codes "boolean") [] Nil Nil) Nil)) Nil) (Cons kind.Routines [] [] Nil (Cons kind.Compound [] [] (Cons kind.Stmts [] [] (Cons kind.Empty [] [] Nil Nil) Nil) Nil))))) Nil))) }

pub agreement-decls-required-anew : disagreement tree-decls-required-anew ≡ Agrees
unfolding kids_of digits same largest_number compatible assignable cell_limit is_too_large reached declaration_in declaration lookup find rule decorate own routines_in routines_of outside_of own_entries errors_of heading_marks annotated routine_around attributes_at expression_type opened_at field_of meant_in meant routines_with_key meaning_in shape_at type_in type_at path_text key_text errors_text decls_text uses_text expr_text disagreement
agreement-decls-required-anew = refl

pub decls-required-anew : decls_text tree-decls-required-anew ≡ (codes ".\n  integer type char\n  boolean type char\n  true var char\n")
unfolding kids_of digits same largest_number compatible assignable cell_limit is_too_large reached declaration_in declaration lookup find rule decorate own routines_in routines_of outside_of own_entries errors_of heading_marks annotated routine_around attributes_at expression_type opened_at field_of meant_in meant routines_with_key meaning_in shape_at type_in type_at path_text key_text errors_text decls_text uses_text expr_text disagreement
decls-required-anew = refl

-- decls: the text of a function is its result type: a subrange, an enumeration by name, a pointer.
abbrev pub tree-decls-result-types : Plain
tree-decls-result-types = record { kind = kind.Program; word = []; notes = []; kids = (Cons kind.Name (codes "p") [] Nil (Cons kind.Heads [] [] Nil (Cons kind.Block [] [] (Cons kind.Consts [] [] Nil (Cons kind.Types [] [] (Cons kind.Typedef [] [] (Cons kind.Name (codes "c") [] Nil (Cons kind.Enum [] [] (Cons kind.Names [] [] (Cons kind.Name (codes "red") [] Nil Nil) Nil) Nil)) (Cons kind.Typedef [] [] (Cons kind.Name (codes "l") [] Nil (Cons kind.Pointer [] [] (Cons kind.Name (codes "c") [] Nil Nil) Nil)) Nil)) (Cons kind.Vars [] [] Nil (Cons kind.Routines [] [] (Cons kind.Function [] [] (Cons kind.Name (codes "f") [] Nil (Cons kind.Params [] [] Nil (Cons kind.Name (codes "c") [] Nil (Cons kind.Block [] [] (Cons kind.Consts [] [] Nil (Cons kind.Types [] [] Nil (Cons kind.Vars [] [] Nil (Cons kind.Routines [] [] Nil (Cons kind.Compound [] [] (Cons kind.Stmts [] [] (Cons kind.Empty [] [] Nil Nil) Nil) Nil))))) Nil)))) (Cons kind.Function [] [] (Cons kind.Name (codes "g") [] Nil (Cons kind.Params [] [] Nil (Cons kind.Name (codes "l") [] Nil (Cons kind.Block [] [] (Cons kind.Consts [] [] Nil (Cons kind.Types [] [] Nil (Cons kind.Vars [] [] Nil (Cons kind.Routines [] [] Nil (Cons kind.Compound [] [] (Cons kind.Stmts [] [] (Cons kind.Empty [] [] Nil Nil) Nil) Nil))))) Nil)))) (Cons kind.Function [] [] (Cons kind.Name (codes "h") [] Nil (Cons kind.Params [] [] Nil (Cons kind.Name (codes "boolean") [] Nil (Cons kind.Block [] [] (Cons kind.Consts [] [] Nil (Cons kind.Types [] [] Nil (Cons kind.Vars [] [] Nil (Cons kind.Routines [] [] Nil (Cons kind.Compound [] [] (Cons kind.Stmts [] [] (Cons kind.Empty [] [] Nil Nil) Nil) Nil))))) Nil)))) Nil))) (Cons kind.Compound [] [] (Cons kind.Stmts [] [] (Cons kind.Empty [] [] Nil Nil) Nil) Nil))))) Nil))) }

pub agreement-decls-result-types : disagreement tree-decls-result-types ≡ Agrees
unfolding kids_of digits same largest_number compatible assignable cell_limit is_too_large reached declaration_in declaration lookup find rule decorate own routines_in routines_of outside_of own_entries errors_of heading_marks annotated routine_around attributes_at expression_type opened_at field_of meant_in meant routines_with_key meaning_in shape_at type_in type_at path_text key_text errors_text decls_text uses_text expr_text disagreement
agreement-decls-result-types = refl

pub decls-result-types : decls_text tree-decls-result-types ≡ (codes ".\n  c type (red)\n  red element (red)\n  l type ^c\n  f function (red)\n  g function ^c\n  h function boolean\n.f\n.g\n.h\n")
unfolding kids_of digits same largest_number compatible assignable cell_limit is_too_large reached declaration_in declaration lookup find rule decorate own routines_in routines_of outside_of own_entries errors_of heading_marks annotated routine_around attributes_at expression_type opened_at field_of meant_in meant routines_with_key meaning_in shape_at type_in type_at path_text key_text errors_text decls_text uses_text expr_text disagreement
decls-result-types = refl

-- decls: arrays with several indexes are arrays of arrays; packed stands at each of them; records on one line.
abbrev pub tree-decls-structured : Plain
tree-decls-structured = record { kind = kind.Program; word = []; notes = []; kids = (Cons kind.Name (codes "p") [] Nil (Cons kind.Heads [] [] Nil (Cons kind.Block [] [] (Cons kind.Consts [] [] Nil (Cons kind.Types [] [] (Cons kind.Typedef [] [] (Cons kind.Name (codes "a") [] Nil (Cons kind.Array [] [] (Cons kind.Indexes [] [] (Cons kind.Subrange [] [] (Cons kind.Cnumber (codes "1") [] Nil (Cons kind.Cnumber (codes "2") [] Nil Nil)) (Cons kind.Tname [] [] (Cons kind.Name (codes "char") [] Nil Nil) Nil)) (Cons kind.Tname [] [] (Cons kind.Name (codes "boolean") [] Nil Nil) Nil)) Nil)) (Cons kind.Typedef [] [] (Cons kind.Name (codes "b") [] Nil (Cons kind.Packed [] [] (Cons kind.Array [] [] (Cons kind.Indexes [] [] (Cons kind.Tname [] [] (Cons kind.Name (codes "boolean") [] Nil Nil) Nil) (Cons kind.Subrange [] [] (Cons kind.Cnumber (codes "1") [] Nil (Cons kind.Cnumber (codes "3") [] Nil Nil)) Nil)) Nil) Nil)) (Cons kind.Typedef [] [] (Cons kind.Name (codes "r") [] Nil (Cons kind.Record (codes ";") [] (Cons kind.Fields [] [] (Cons kind.Field [] [] (Cons kind.Names [] [] (Cons kind.Name (codes "X") [] Nil (Cons kind.Name (codes "y") [] Nil Nil)) (Cons kind.Tname [] [] (Cons kind.Name (codes "integer") [] Nil Nil) Nil)) (Cons kind.Field [] [] (Cons kind.Names [] [] (Cons kind.Name (codes "z") [] Nil Nil) (Cons kind.Record0 [] [] Nil Nil)) (Cons kind.Field [] [] (Cons kind.Names [] [] (Cons kind.Name (codes "w") [] Nil Nil) (Cons kind.Setof [] [] (Cons kind.Tname [] [] (Cons kind.Name (codes "char") [] Nil Nil) Nil) Nil)) Nil))) Nil) Nil)) (Cons kind.Typedef [] [] (Cons kind.Name (codes "s") [] Nil (Cons kind.Packed [] [] (Cons kind.Record [] [] (Cons kind.Fields [] [] (Cons kind.Field [] [] (Cons kind.Names [] [] (Cons kind.Name (codes "q") [] Nil Nil) (Cons kind.Tname [] [] (Cons kind.Name (codes "r") [] Nil Nil) Nil)) Nil) Nil) Nil) Nil)) (Cons kind.Typedef [] [] (Cons kind.Name (codes "c") [] Nil (Cons kind.Packed [] [] (Cons kind.Setof [] [] (Cons kind.Subrange [] [] (Cons kind.Cnumber (codes "1") [] Nil (Cons kind.Cnumber (codes "5") [] Nil Nil)) Nil) Nil) Nil)) (Cons kind.Typedef [] [] (Cons kind.Name (codes "d") [] Nil (Cons kind.Packed [] [] (Cons kind.Array [] [] (Cons kind.Indexes [] [] (Cons kind.Subrange [] [] (Cons kind.Cnumber (codes "1") [] Nil (Cons kind.Cnumber (codes "2") [] Nil Nil)) (Cons kind.Subrange [] [] (Cons kind.Cnumber (codes "3") [] Nil (Cons kind.Cnumber (codes "4") [] Nil Nil)) Nil)) (Cons kind.Tname [] [] (Cons kind.Name (codes "char") [] Nil Nil) Nil)) Nil) Nil)) (Cons kind.Typedef [] [] (Cons kind.Name (codes "e") [] Nil (Cons kind.Record0 [] [] Nil Nil)) (Cons kind.Typedef [] [] (Cons kind.Name (codes "f") [] Nil (Cons kind.Packed [] [] (Cons kind.Record0 [] [] Nil Nil) Nil)) Nil)))))))) (Cons kind.Vars [] [] Nil (Cons kind.Routines [] [] Nil (Cons kind.Compound [] [] (Cons kind.Stmts [] [] (Cons kind.Empty [] [] Nil Nil) Nil) Nil))))) Nil))) }

pub agreement-decls-structured : disagreement tree-decls-structured ≡ Agrees
unfolding kids_of digits same largest_number compatible assignable cell_limit is_too_large reached declaration_in declaration lookup find rule decorate own routines_in routines_of outside_of own_entries errors_of heading_marks annotated routine_around attributes_at expression_type opened_at field_of meant_in meant routines_with_key meaning_in shape_at type_in type_at path_text key_text errors_text decls_text uses_text expr_text disagreement
agreement-decls-structured = refl

pub decls-structured : decls_text tree-decls-structured ≡ (codes ".\n  a type array [1..2] of array [char] of boolean\n  b type packed array [boolean] of 1..3\n  r type record x: integer; y: integer; z: record end; w: set of char end\n  s type packed record q: record x: integer; y: integer; z: record end; w: set of char end end\n  c type packed set of 1..5\n  d type packed array [1..2] of packed array [3..4] of char\n  e type record end\n  f type packed record end\n")
unfolding kids_of digits same largest_number compatible assignable cell_limit is_too_large reached declaration_in declaration lookup find rule decorate own routines_in routines_of outside_of own_entries errors_of heading_marks annotated routine_around attributes_at expression_type opened_at field_of meant_in meant routines_with_key meaning_in shape_at type_in type_at path_text key_text errors_text decls_text uses_text expr_text disagreement
decls-structured = refl
