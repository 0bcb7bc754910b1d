-- Programs with the texts of their views.
use Rattle.std.specs.Prelude.{◌≡◌, [], codes}
use Rattle.std.proofs.Common.{refl}
use Rattle.std.specs.Fmt.{digits}
use Rattle.pc_syntax.specs.Plain.{Nil, Cons, Plain, kids_of}
use Rattle.pc_syntax.specs.declared.kind.Kind.TheVariants as kind
use Rattle.pc_syntax.specs.declared.sort.Sort.TheVariants as sort
use Rattle.pc_types.specs.Sameness.{same}
use Rattle.pc_types.specs.TypeClasses.{largest_number}
use Rattle.pc_types.specs.Compatibility.{compatible, assignable}
use Rattle.pc_types.specs.Sizes.{cell_limit, is_too_large}
use Rattle.pc_types.specs.Domains.{reached}
use Rattle.pc_scope.specs.Lookup.{declaration_in, declaration, lookup}
use Rattle.pc_rules.specs.Meanings.{find}
use Rattle.pc_rules.specs.Decorated.{rule, decorate}
use Rattle.pc_rules.specs.OwnBlock.{own}
use Rattle.pc_rules.specs.RoutineList.{routines_in, routines_of}
use Rattle.pc_rules.specs.Outsides.{outside_of}
use Rattle.pc_rules.specs.Errors.{own_entries, errors_of}
use Rattle.pc_rules.specs.Routines.{heading_marks}
use Rattle.pc_decl.specs.Annotated.{annotated}
use Rattle.pc_decl.specs.Found.{routine_around, attributes_at}
use Rattle.pc_decl.specs.Roles.{expression_type}
use Rattle.pc_decl.specs.Uses.{opened_at}
use Rattle.pc_decl.specs.Records.{field_of}
use Rattle.pc_decl.specs.Meant.{meant_in, meant}
use Rattle.pc_decl.specs.Declared.{routines_with_key, meaning_in}
use Rattle.pc_decl.specs.TypeAt.{shape_at, type_in, type_at}
use Rattle.pc_decl.specs.Shown.{path_text, key_text}
use Rattle.pc_decl.specs.ErrorsText.{errors_text}
use Rattle.pc_decl.specs.DeclsText.{decls_text}
use Rattle.pc_decl.specs.UsesText.{uses_text}
use Rattle.pc_decl.specs.ExprText.{expr_text}
use Rattle.pc_decl_cases.specs.Agreement.{disagreement, Agrees}

-- decls after edits: a renamed variable, a cut type, an added parameter.
abbrev pub tree-decls-after-edits : Plain
tree-decls-after-edits = record { kind = kind.Program; word = []; notes = []; kids = (Cons kind.Name (codes "p") [] Nil (Cons kind.Heads [] [] Nil (Cons kind.Block [] [] (Cons kind.Consts [] [] Nil (Cons kind.Types [] [] Nil (Cons kind.Vars [] [] (Cons kind.Vardef [] [] (Cons kind.Names [] [] (Cons kind.Name (codes "Y") [] Nil Nil) (Cons kind.Tname [] [] (Cons kind.Name (codes "t") [] Nil Nil) Nil)) Nil) (Cons kind.Routines [] [] (Cons kind.Procedure [] [] (Cons kind.Name (codes "q") [] Nil (Cons kind.Params [] [] (Cons kind.Valparam [] [] (Cons kind.Names [] [] (Cons kind.Name (codes "a") [] Nil (Cons kind.Name (codes "b") [] Nil Nil)) (Cons kind.Name (codes "char") [] Nil Nil)) Nil) (Cons kind.Block [] [] (Cons kind.Consts [] [] Nil (Cons kind.Types [] [] Nil (Cons kind.Vars [] [] Nil (Cons kind.Routines [] [] Nil (Cons kind.Compound [] [] (Cons kind.Stmts [] [] (Cons kind.Empty [] [] Nil Nil) Nil) Nil))))) Nil))) Nil) (Cons kind.Compound [] [] (Cons kind.Stmts [] [] (Cons kind.Empty [] [] Nil Nil) Nil) Nil))))) Nil))) }

pub agreement-decls-after-edits : disagreement tree-decls-after-edits ≡ Agrees
unfolding kids_of digits same largest_number compatible assignable cell_limit is_too_large reached declaration_in declaration lookup find rule decorate own routines_in routines_of outside_of own_entries errors_of heading_marks annotated routine_around attributes_at expression_type opened_at field_of meant_in meant routines_with_key meaning_in shape_at type_in type_at path_text key_text errors_text decls_text uses_text expr_text disagreement
agreement-decls-after-edits = refl

pub decls-after-edits : decls_text tree-decls-after-edits ≡ (codes ".\n  y var ?\n  q procedure\n.q\n  a value char\n  b value char\n")
unfolding kids_of digits same largest_number compatible assignable cell_limit is_too_large reached declaration_in declaration lookup find rule decorate own routines_in routines_of outside_of own_entries errors_of heading_marks annotated routine_around attributes_at expression_type opened_at field_of meant_in meant routines_with_key meaning_in shape_at type_in type_at path_text key_text errors_text decls_text uses_text expr_text disagreement
decls-after-edits = refl

-- decls: a bound that is a tab prints as it is; one that is a space too.
abbrev pub tree-decls-char-bounds : Plain
tree-decls-char-bounds = record { kind = kind.Program; word = []; notes = []; kids = (Cons kind.Name (codes "p") [] Nil (Cons kind.Heads [] [] Nil (Cons kind.Block [] [] (Cons kind.Consts [] [] Nil (Cons kind.Types [] [] (Cons kind.Typedef [] [] (Cons kind.Name (codes "a") [] Nil (Cons kind.Subrange [] [] (Cons kind.Cstring (codes "'\t'") [] Nil (Cons kind.Cstring (codes "' '") [] Nil Nil)) Nil)) (Cons kind.Typedef [] [] (Cons kind.Name (codes "b") [] Nil (Cons kind.Subrange [] [] (Cons kind.Cstring (codes "' '") [] Nil (Cons kind.Cstring (codes "'~'") [] Nil Nil)) Nil)) Nil)) (Cons kind.Vars [] [] Nil (Cons kind.Routines [] [] Nil (Cons kind.Compound [] [] (Cons kind.Stmts [] [] (Cons kind.Empty [] [] Nil Nil) Nil) Nil))))) Nil))) }

pub agreement-decls-char-bounds : disagreement tree-decls-char-bounds ≡ Agrees
unfolding kids_of digits same largest_number compatible assignable cell_limit is_too_large reached declaration_in declaration lookup find rule decorate own routines_in routines_of outside_of own_entries errors_of heading_marks annotated routine_around attributes_at expression_type opened_at field_of meant_in meant routines_with_key meaning_in shape_at type_in type_at path_text key_text errors_text decls_text uses_text expr_text disagreement
agreement-decls-char-bounds = refl

pub decls-char-bounds : decls_text tree-decls-char-bounds ≡ (codes ".\n  a type '\t'..' '\n  b type ' '..'~'\n")
unfolding kids_of digits same largest_number compatible assignable cell_limit is_too_large reached declaration_in declaration lookup find rule decorate own routines_in routines_of outside_of own_entries errors_of heading_marks annotated routine_around attributes_at expression_type opened_at field_of meant_in meant routines_with_key meaning_in shape_at type_in type_at path_text key_text errors_text decls_text uses_text expr_text disagreement
decls-char-bounds = refl

-- decls: every class once, in text order, names in lower case; a procedure has no type.
abbrev pub tree-decls-classes : Plain
tree-decls-classes = record { kind = kind.Program; word = []; notes = []; kids = (Cons kind.Name (codes "p") [] Nil (Cons kind.Heads [] [] Nil (Cons kind.Block [] [] (Cons kind.Consts [] [] (Cons kind.Constdef [] [] (Cons kind.Name (codes "C") [] Nil (Cons kind.Cnumber (codes "1") [] Nil Nil)) Nil) (Cons kind.Types [] [] (Cons kind.Typedef [] [] (Cons kind.Name (codes "T") [] Nil (Cons kind.Enum [] [] (Cons kind.Names [] [] (Cons kind.Name (codes "Red") [] Nil (Cons kind.Name (codes "Green") [] Nil Nil)) Nil) Nil)) Nil) (Cons kind.Vars [] [] (Cons kind.Vardef [] [] (Cons kind.Names [] [] (Cons kind.Name (codes "V") [] Nil Nil) (Cons kind.Tname [] [] (Cons kind.Name (codes "T") [] Nil Nil) Nil)) Nil) (Cons kind.Routines [] [] (Cons kind.Procedure [] [] (Cons kind.Name (codes "Q") [] Nil (Cons kind.Params [] [] (Cons kind.Valparam [] [] (Cons kind.Names [] [] (Cons kind.Name (codes "A") [] Nil Nil) (Cons kind.Name (codes "integer") [] Nil Nil)) (Cons kind.Varparam [] [] (Cons kind.Names [] [] (Cons kind.Name (codes "B") [] Nil Nil) (Cons kind.Name (codes "T") [] Nil Nil)) Nil)) (Cons kind.Block [] [] (Cons kind.Consts [] [] Nil (Cons kind.Types [] [] Nil (Cons kind.Vars [] [] Nil (Cons kind.Routines [] [] Nil (Cons kind.Compound [] [] (Cons kind.Stmts [] [] (Cons kind.Empty [] [] Nil Nil) Nil) Nil))))) Nil))) (Cons kind.Function [] [] (Cons kind.Name (codes "F") [] Nil (Cons kind.Params [] [] Nil (Cons kind.Name (codes "char") [] Nil (Cons kind.Block [] [] (Cons kind.Consts [] [] Nil (Cons kind.Types [] [] Nil (Cons kind.Vars [] [] Nil (Cons kind.Routines [] [] Nil (Cons kind.Compound [] [] (Cons kind.Stmts [] [] (Cons kind.Assign [] [] (Cons kind.Ref [] [] (Cons kind.Name (codes "F") [] Nil Nil) (Cons kind.Text (codes "'x'") [] Nil Nil)) Nil) Nil) Nil))))) Nil)))) Nil)) (Cons kind.Compound [] [] (Cons kind.Stmts [] [] (Cons kind.Empty [] [] Nil Nil) Nil) Nil))))) Nil))) }

pub agreement-decls-classes : disagreement tree-decls-classes ≡ Agrees
unfolding kids_of digits same largest_number compatible assignable cell_limit is_too_large reached declaration_in declaration lookup find rule decorate own routines_in routines_of outside_of own_entries errors_of heading_marks annotated routine_around attributes_at expression_type opened_at field_of meant_in meant routines_with_key meaning_in shape_at type_in type_at path_text key_text errors_text decls_text uses_text expr_text disagreement
agreement-decls-classes = refl

pub decls-classes : decls_text tree-decls-classes ≡ (codes ".\n  c const integer\n  t type (red, green)\n  red element (red, green)\n  green element (red, green)\n  v var (red, green)\n  q procedure\n  f function char\n.q\n  a value integer\n  b ref (red, green)\n.f\n")
unfolding kids_of digits same largest_number compatible assignable cell_limit is_too_large reached declaration_in declaration lookup find rule decorate own routines_in routines_of outside_of own_entries errors_of heading_marks annotated routine_around attributes_at expression_type opened_at field_of meant_in meant routines_with_key meaning_in shape_at type_in type_at path_text key_text errors_text decls_text uses_text expr_text disagreement
decls-classes = refl

-- decls: constants of each type; a text of one character is a char, a longer one a packed array of char.
abbrev pub tree-decls-constants : Plain
tree-decls-constants = record { kind = kind.Program; word = []; notes = []; kids = (Cons kind.Name (codes "p") [] Nil (Cons kind.Heads [] [] Nil (Cons kind.Block [] [] (Cons kind.Consts [] [] (Cons kind.Constdef [] [] (Cons kind.Name (codes "a") [] Nil (Cons kind.Csign (codes "-") [] (Cons kind.Cnumber (codes "5") [] Nil Nil) Nil)) (Cons kind.Constdef [] [] (Cons kind.Name (codes "b") [] Nil (Cons kind.Cstring (codes "'x'") [] Nil Nil)) (Cons kind.Constdef [] [] (Cons kind.Name (codes "c") [] Nil (Cons kind.Cstring (codes "'hello'") [] Nil Nil)) (Cons kind.Constdef [] [] (Cons kind.Name (codes "d") [] Nil (Cons kind.Cname [] [] (Cons kind.Name (codes "true") [] Nil Nil) Nil)) (Cons kind.Constdef [] [] (Cons kind.Name (codes "e") [] Nil (Cons kind.Cname [] [] (Cons kind.Name (codes "a") [] Nil Nil) Nil)) (Cons kind.Constdef [] [] (Cons kind.Name (codes "f") [] Nil (Cons kind.Cname [] [] (Cons kind.Name (codes "maxint") [] Nil Nil) Nil)) Nil)))))) (Cons kind.Types [] [] (Cons kind.Typedef [] [] (Cons kind.Name (codes "k") [] Nil (Cons kind.Enum [] [] (Cons kind.Names [] [] (Cons kind.Name (codes "u") [] Nil (Cons kind.Name (codes "v") [] Nil Nil)) Nil) Nil)) Nil) (Cons kind.Vars [] [] Nil (Cons kind.Routines [] [] Nil (Cons kind.Compound [] [] (Cons kind.Stmts [] [] (Cons kind.Empty [] [] Nil Nil) Nil) Nil))))) Nil))) }

pub agreement-decls-constants : disagreement tree-decls-constants ≡ Agrees
unfolding kids_of digits same largest_number compatible assignable cell_limit is_too_large reached declaration_in declaration lookup find rule decorate own routines_in routines_of outside_of own_entries errors_of heading_marks annotated routine_around attributes_at expression_type opened_at field_of meant_in meant routines_with_key meaning_in shape_at type_in type_at path_text key_text errors_text decls_text uses_text expr_text disagreement
agreement-decls-constants = refl

pub decls-constants : decls_text tree-decls-constants ≡ (codes ".\n  a const integer\n  b const char\n  c const packed array [1..5] of char\n  d const boolean\n  e const integer\n  f const integer\n  k type (u, v)\n  u element (u, v)\n  v element (u, v)\n")
unfolding kids_of digits same largest_number compatible assignable cell_limit is_too_large reached declaration_in declaration lookup find rule decorate own routines_in routines_of outside_of own_entries errors_of heading_marks annotated routine_around attributes_at expression_type opened_at field_of meant_in meant routines_with_key meaning_in shape_at type_in type_at path_text key_text errors_text decls_text uses_text expr_text disagreement
decls-constants = refl

-- decls: enumerated constants stand in text order at their denoter, also inside a record of the var part.
abbrev pub tree-decls-elements-in-vars : Plain
tree-decls-elements-in-vars = record { kind = kind.Program; word = []; notes = []; kids = (Cons kind.Name (codes "p") [] Nil (Cons kind.Heads [] [] Nil (Cons kind.Block [] [] (Cons kind.Consts [] [] Nil (Cons kind.Types [] [] Nil (Cons kind.Vars [] [] (Cons kind.Vardef [] [] (Cons kind.Names [] [] (Cons kind.Name (codes "a") [] Nil Nil) (Cons kind.Enum [] [] (Cons kind.Names [] [] (Cons kind.Name (codes "u") [] Nil (Cons kind.Name (codes "v") [] Nil Nil)) Nil) Nil)) (Cons kind.Vardef [] [] (Cons kind.Names [] [] (Cons kind.Name (codes "b") [] Nil Nil) (Cons kind.Record [] [] (Cons kind.Fields [] [] (Cons kind.Field [] [] (Cons kind.Names [] [] (Cons kind.Name (codes "c") [] Nil Nil) (Cons kind.Enum [] [] (Cons kind.Names [] [] (Cons kind.Name (codes "w") [] Nil Nil) Nil) Nil)) (Cons kind.Field [] [] (Cons kind.Names [] [] (Cons kind.Name (codes "d") [] Nil Nil) (Cons kind.Setof [] [] (Cons kind.Enum [] [] (Cons kind.Names [] [] (Cons kind.Name (codes "x") [] Nil (Cons kind.Name (codes "y") [] Nil Nil)) Nil) Nil) Nil)) Nil)) Nil) Nil)) (Cons kind.Vardef [] [] (Cons kind.Names [] [] (Cons kind.Name (codes "e") [] Nil Nil) (Cons kind.Array [] [] (Cons kind.Indexes [] [] (Cons kind.Enum [] [] (Cons kind.Names [] [] (Cons kind.Name (codes "m") [] Nil (Cons kind.Name (codes "n") [] Nil Nil)) Nil) Nil) (Cons kind.Tname [] [] (Cons kind.Name (codes "char") [] Nil Nil) Nil)) Nil)) Nil))) (Cons kind.Routines [] [] Nil (Cons kind.Compound [] [] (Cons kind.Stmts [] [] (Cons kind.Empty [] [] Nil Nil) Nil) Nil))))) Nil))) }

pub agreement-decls-elements-in-vars : disagreement tree-decls-elements-in-vars ≡ Agrees
unfolding kids_of digits same largest_number compatible assignable cell_limit is_too_large reached declaration_in declaration lookup find rule decorate own routines_in routines_of outside_of own_entries errors_of heading_marks annotated routine_around attributes_at expression_type opened_at field_of meant_in meant routines_with_key meaning_in shape_at type_in type_at path_text key_text errors_text decls_text uses_text expr_text disagreement
agreement-decls-elements-in-vars = refl

pub decls-elements-in-vars : decls_text tree-decls-elements-in-vars ≡ (codes ".\n  a var (u, v)\n  u element (u, v)\n  v element (u, v)\n  b var record c: (w); d: set of (x, y) end\n  w element (w)\n  x element (x, y)\n  y element (x, y)\n  e var array [(m, n)] of char\n  m element (m, n)\n  n element (m, n)\n")
unfolding kids_of digits same largest_number compatible assignable cell_limit is_too_large reached declaration_in declaration lookup find rule decorate own routines_in routines_of outside_of own_entries errors_of heading_marks annotated routine_around attributes_at expression_type opened_at field_of meant_in meant routines_with_key meaning_in shape_at type_in type_at path_text key_text errors_text decls_text uses_text expr_text disagreement
decls-elements-in-vars = refl

-- decls: the elements of an enumeration with a second name or a hole have no type either.
abbrev pub tree-decls-enum-error : Plain
tree-decls-enum-error = record { kind = kind.Program; word = []; notes = []; kids = (Cons kind.Name (codes "p") [] Nil (Cons kind.Heads [] [] Nil (Cons kind.Block [] [] (Cons kind.Consts [] [] Nil (Cons kind.Types [] [] (Cons kind.Typedef [] [] (Cons kind.Name (codes "c") [] Nil (Cons kind.Enum [] [] (Cons kind.Names [] [] (Cons kind.Name (codes "red") [] Nil (Cons kind.Name (codes "green") [] Nil (Cons kind.Name (codes "Red") [] Nil Nil))) Nil) Nil)) (Cons kind.Typedef [] [] (Cons kind.Name (codes "d") [] Nil (Cons kind.Enum [] [] (Cons kind.Names [] [] (Cons kind.Name (codes "blue") [] Nil (Cons (kind.Hole sort.Name) [] [] Nil Nil)) Nil) Nil)) Nil)) (Cons kind.Vars [] [] Nil (Cons kind.Routines [] [] Nil (Cons kind.Compound [] [] (Cons kind.Stmts [] [] (Cons kind.Empty [] [] Nil Nil) Nil) Nil))))) Nil))) }

pub agreement-decls-enum-error : disagreement tree-decls-enum-error ≡ Agrees
unfolding kids_of digits same largest_number compatible assignable cell_limit is_too_large reached declaration_in declaration lookup find rule decorate own routines_in routines_of outside_of own_entries errors_of heading_marks annotated routine_around attributes_at expression_type opened_at field_of meant_in meant routines_with_key meaning_in shape_at type_in type_at path_text key_text errors_text decls_text uses_text expr_text disagreement
agreement-decls-enum-error = refl

pub decls-enum-error : decls_text tree-decls-enum-error ≡ (codes ".\n  c type ?\n  red element ?\n  green element ?\n  d type ?\n  blue element ?\n")
unfolding kids_of digits same largest_number compatible assignable cell_limit is_too_large reached declaration_in declaration lookup find rule decorate own routines_in routines_of outside_of own_entries errors_of heading_marks annotated routine_around attributes_at expression_type opened_at field_of meant_in meant routines_with_key meaning_in shape_at type_in type_at path_text key_text errors_text decls_text uses_text expr_text disagreement
decls-enum-error = refl
