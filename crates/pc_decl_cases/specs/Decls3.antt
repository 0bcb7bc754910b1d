-- Programs with the texts of their views.
use Rattle.std.specs.Prelude.{◌≡◌, [], codes}
use Rattle.std.proofs.Common.{refl}
use Rattle.std.specs.Fmt.{digits}
use Rattle.pc_syntax.specs.Plain.{Nil, Cons, Plain, kids_of}
use Rattle.pc_syntax.specs.declared.kind.Kind.TheVariants as kind
use Rattle.pc_syntax.specs.declared.sort.Sort.TheVariants as sort
use Rattle.pc_types.specs.Sameness.{same}
use Rattle.pc_types.specs.TypeClasses.{largest_number}
use Rattle.pc_types.specs.Compatibility.{compatible, assignable}
use Rattle.pc_types.specs.Sizes.{cell_limit, is_too_large}
use Rattle.pc_types.specs.Domains.{reached}
use Rattle.pc_scope.specs.Lookup.{declaration_in, declaration, lookup}
use Rattle.pc_rules.specs.Meanings.{find}
use Rattle.pc_rules.specs.Decorated.{rule, decorate}
use Rattle.pc_rules.specs.OwnBlock.{own}
use Rattle.pc_rules.specs.RoutineList.{routines_in, routines_of}
use Rattle.pc_rules.specs.Outsides.{outside_of}
use Rattle.pc_rules.specs.Errors.{own_entries, errors_of}
use Rattle.pc_rules.specs.Routines.{heading_marks}
use Rattle.pc_decl.specs.Annotated.{annotated}
use Rattle.pc_decl.specs.Found.{routine_around, attributes_at}
use Rattle.pc_decl.specs.Roles.{expression_type}
use Rattle.pc_decl.specs.Uses.{opened_at}
use Rattle.pc_decl.specs.Records.{field_of}
use Rattle.pc_decl.specs.Meant.{meant_in, meant}
use Rattle.pc_decl.specs.Declared.{routines_with_key, meaning_in}
use Rattle.pc_decl.specs.TypeAt.{shape_at, type_in, type_at}
use Rattle.pc_decl.specs.Shown.{path_text, key_text}
use Rattle.pc_decl.specs.ErrorsText.{errors_text}
use Rattle.pc_decl.specs.DeclsText.{decls_text}
use Rattle.pc_decl.specs.UsesText.{uses_text}
use Rattle.pc_decl.specs.ExprText.{expr_text}
use Rattle.pc_decl_cases.specs.Agreement.{disagreement, Agrees}

-- decls: bounds print as constants: negative, chars with their apostrophes, Booleans and enumerated ones in lower case.
abbrev pub tree-decls-subranges : Plain
tree-decls-subranges = record { kind = kind.Program; word = []; notes = []; kids = (Cons kind.Name (codes "p") [] Nil (Cons kind.Heads [] [] Nil (Cons kind.Block [] [] (Cons kind.Consts [] [] (Cons kind.Constdef [] [] (Cons kind.Name (codes "n") [] Nil (Cons kind.Cnumber (codes "9") [] Nil Nil)) Nil) (Cons kind.Types [] [] (Cons kind.Typedef [] [] (Cons kind.Name (codes "a") [] Nil (Cons kind.Subrange [] [] (Cons kind.Csign (codes "-") [] (Cons kind.Cnumber (codes "3") [] Nil Nil) (Cons kind.Cname [] [] (Cons kind.Name (codes "n") [] Nil Nil) Nil)) Nil)) (Cons kind.Typedef [] [] (Cons kind.Name (codes "b") [] Nil (Cons kind.Subrange [] [] (Cons kind.Cstring (codes "'A'") [] Nil (Cons kind.Cstring (codes "'z'") [] Nil Nil)) Nil)) (Cons kind.Typedef [] [] (Cons kind.Name (codes "c") [] Nil (Cons kind.Enum [] [] (Cons kind.Names [] [] (Cons kind.Name (codes "Lo") [] Nil (Cons kind.Name (codes "Mid") [] Nil (Cons kind.Name (codes "Hi") [] Nil Nil))) Nil) Nil)) (Cons kind.Typedef [] [] (Cons kind.Name (codes "d") [] Nil (Cons kind.Subrange [] [] (Cons kind.Cname [] [] (Cons kind.Name (codes "Lo") [] Nil Nil) (Cons kind.Cname [] [] (Cons kind.Name (codes "MID") [] Nil Nil) Nil)) Nil)) (Cons kind.Typedef [] [] (Cons kind.Name (codes "e") [] Nil (Cons kind.Subrange [] [] (Cons kind.Cname [] [] (Cons kind.Name (codes "False") [] Nil Nil) (Cons kind.Cname [] [] (Cons kind.Name (codes "true") [] Nil Nil) Nil)) Nil)) (Cons kind.Typedef [] [] (Cons kind.Name (codes "f") [] Nil (Cons kind.Subrange [] [] (Cons kind.Cstring (codes "''''") [] Nil (Cons kind.Cstring (codes "'A'") [] Nil Nil)) Nil)) Nil)))))) (Cons kind.Vars [] [] (Cons kind.Vardef [] [] (Cons kind.Names [] [] (Cons kind.Name (codes "x") [] Nil Nil) (Cons kind.Tname [] [] (Cons kind.Name (codes "d") [] Nil Nil) Nil)) Nil) (Cons kind.Routines [] [] Nil (Cons kind.Compound [] [] (Cons kind.Stmts [] [] (Cons kind.Empty [] [] Nil Nil) Nil) Nil))))) Nil))) }

pub agreement-decls-subranges : disagreement tree-decls-subranges ≡ Agrees
unfolding kids_of digits same largest_number compatible assignable cell_limit is_too_large reached declaration_in declaration lookup find rule decorate own routines_in routines_of outside_of own_entries errors_of heading_marks annotated routine_around attributes_at expression_type opened_at field_of meant_in meant routines_with_key meaning_in shape_at type_in type_at path_text key_text errors_text decls_text uses_text expr_text disagreement
agreement-decls-subranges = refl

pub decls-subranges : decls_text tree-decls-subranges ≡ (codes ".\n  n const integer\n  a type -3..9\n  b type 'A'..'z'\n  c type (lo, mid, hi)\n  lo element (lo, mid, hi)\n  mid element (lo, mid, hi)\n  hi element (lo, mid, hi)\n  d type lo..mid\n  e type false..true\n  f type ''''..'A'\n  x var lo..mid\n")
unfolding kids_of digits same largest_number compatible assignable cell_limit is_too_large reached declaration_in declaration lookup find rule decorate own routines_in routines_of outside_of own_entries errors_of heading_marks annotated routine_around attributes_at expression_type opened_at field_of meant_in meant routines_with_key meaning_in shape_at type_in type_at path_text key_text errors_text decls_text uses_text expr_text disagreement
decls-subranges = refl

-- decls: a type over the limits has an error, so it is ?; a set with a base too large too.
abbrev pub tree-decls-too-large : Plain
tree-decls-too-large = record { kind = kind.Program; word = []; notes = []; kids = (Cons kind.Name (codes "p") [] Nil (Cons kind.Heads [] [] Nil (Cons kind.Block [] [] (Cons kind.Consts [] [] Nil (Cons kind.Types [] [] (Cons kind.Typedef [] [] (Cons kind.Name (codes "a") [] Nil (Cons kind.Array [] [] (Cons kind.Indexes [] [] (Cons kind.Subrange [] [] (Cons kind.Cnumber (codes "0") [] Nil (Cons kind.Cnumber (codes "1000000") [] Nil Nil)) Nil) (Cons kind.Tname [] [] (Cons kind.Name (codes "char") [] Nil Nil) Nil)) Nil)) (Cons kind.Typedef [] [] (Cons kind.Name (codes "s") [] Nil (Cons kind.Setof [] [] (Cons kind.Subrange [] [] (Cons kind.Cnumber (codes "0") [] Nil (Cons kind.Cnumber (codes "256") [] Nil Nil)) Nil) Nil)) (Cons kind.Typedef [] [] (Cons kind.Name (codes "r") [] Nil (Cons kind.Record [] [] (Cons kind.Fields [] [] (Cons kind.Field [] [] (Cons kind.Names [] [] (Cons kind.Name (codes "x") [] Nil Nil) (Cons kind.Tname [] [] (Cons kind.Name (codes "s") [] Nil Nil) Nil)) Nil) Nil) Nil)) (Cons kind.Typedef [] [] (Cons kind.Name (codes "q") [] Nil (Cons kind.Pointer [] [] (Cons kind.Name (codes "a") [] Nil Nil) Nil)) Nil)))) (Cons kind.Vars [] [] Nil (Cons kind.Routines [] [] Nil (Cons kind.Compound [] [] (Cons kind.Stmts [] [] (Cons kind.Empty [] [] Nil Nil) Nil) Nil))))) Nil))) }

pub agreement-decls-too-large : disagreement tree-decls-too-large ≡ Agrees
unfolding kids_of digits same largest_number compatible assignable cell_limit is_too_large reached declaration_in declaration lookup find rule decorate own routines_in routines_of outside_of own_entries errors_of heading_marks annotated routine_around attributes_at expression_type opened_at field_of meant_in meant routines_with_key meaning_in shape_at type_in type_at path_text key_text errors_text decls_text uses_text expr_text disagreement
agreement-decls-too-large = refl

pub decls-too-large : decls_text tree-decls-too-large ≡ (codes ".\n  a type ?\n  s type ?\n  r type ?\n  q type ?\n")
unfolding kids_of digits same largest_number compatible assignable cell_limit is_too_large reached declaration_in declaration lookup find rule decorate own routines_in routines_of outside_of own_entries errors_of heading_marks annotated routine_around attributes_at expression_type opened_at field_of meant_in meant routines_with_key meaning_in shape_at type_in type_at path_text key_text errors_text decls_text uses_text expr_text disagreement
decls-too-large = refl

-- decls: an unknown type is ?: undeclared, a hole, bad bounds, a class that is wrong, a constant without a value.
abbrev pub tree-decls-unknown : Plain
tree-decls-unknown = record { kind = kind.Program; word = []; notes = []; kids = (Cons kind.Name (codes "p") [] Nil (Cons kind.Heads [] [] Nil (Cons kind.Block [] [] (Cons kind.Consts [] [] (Cons kind.Constdef [] [] (Cons kind.Name (codes "a") [] Nil (Cons kind.Cname [] [] (Cons kind.Name (codes "y") [] Nil Nil) Nil)) (Cons kind.Constdef [] [] (Cons kind.Name (codes "b") [] Nil (Cons (kind.Hole sort.Constant) [] [] Nil Nil)) Nil)) (Cons kind.Types [] [] (Cons kind.Typedef [] [] (Cons kind.Name (codes "t") [] Nil (Cons kind.Subrange [] [] (Cons kind.Cnumber (codes "2") [] Nil (Cons kind.Cnumber (codes "1") [] Nil Nil)) Nil)) (Cons kind.Typedef [] [] (Cons kind.Name (codes "u") [] Nil (Cons kind.Array [] [] (Cons kind.Indexes [] [] (Cons kind.Tname [] [] (Cons kind.Name (codes "t") [] Nil Nil) Nil) (Cons kind.Tname [] [] (Cons kind.Name (codes "char") [] Nil Nil) Nil)) Nil)) (Cons kind.Typedef [] [] (Cons kind.Name (codes "v") [] Nil (Cons (kind.Hole sort.Denoter) [] [] Nil Nil)) Nil))) (Cons kind.Vars [] [] (Cons kind.Vardef [] [] (Cons kind.Names [] [] (Cons kind.Name (codes "w") [] Nil Nil) (Cons kind.Tname [] [] (Cons kind.Name (codes "a") [] Nil Nil) Nil)) (Cons kind.Vardef [] [] (Cons kind.Names [] [] (Cons kind.Name (codes "x") [] Nil (Cons kind.Name (codes "z") [] Nil Nil)) (Cons kind.Record [] [] (Cons kind.Fields [] [] (Cons kind.Field [] [] (Cons kind.Names [] [] (Cons kind.Name (codes "f") [] Nil Nil) (Cons kind.Tname [] [] (Cons kind.Name (codes "v") [] Nil Nil) Nil)) Nil) Nil) Nil)) Nil)) (Cons kind.Routines [] [] (Cons kind.Function [] [] (Cons kind.Name (codes "f") [] Nil (Cons kind.Params [] [] Nil (Cons kind.Name (codes "u") [] Nil (Cons kind.Block [] [] (Cons kind.Consts [] [] Nil (Cons kind.Types [] [] Nil (Cons kind.Vars [] [] Nil (Cons kind.Routines [] [] Nil (Cons kind.Compound [] [] (Cons kind.Stmts [] [] (Cons kind.Empty [] [] Nil Nil) Nil) Nil))))) Nil)))) (Cons kind.Procedure [] [] (Cons kind.Name (codes "q") [] Nil (Cons kind.Params [] [] (Cons kind.Valparam [] [] (Cons kind.Names [] [] (Cons kind.Name (codes "g") [] Nil Nil) (Cons kind.Name (codes "t") [] Nil Nil)) (Cons kind.Varparam [] [] (Cons kind.Names [] [] (Cons kind.Name (codes "h") [] Nil Nil) (Cons kind.Name (codes "real") [] Nil Nil)) Nil)) (Cons kind.Block [] [] (Cons kind.Consts [] [] Nil (Cons kind.Types [] [] Nil (Cons kind.Vars [] [] Nil (Cons kind.Routines [] [] Nil (Cons kind.Compound [] [] (Cons kind.Stmts [] [] (Cons kind.Empty [] [] Nil Nil) Nil) Nil))))) Nil))) Nil)) (Cons kind.Compound [] [] (Cons kind.Stmts [] [] (Cons kind.Empty [] [] Nil Nil) Nil) Nil))))) Nil))) }

pub agreement-decls-unknown : disagreement tree-decls-unknown ≡ Agrees
unfolding kids_of digits same largest_number compatible assignable cell_limit is_too_large reached declaration_in declaration lookup find rule decorate own routines_in routines_of outside_of own_entries errors_of heading_marks annotated routine_around attributes_at expression_type opened_at field_of meant_in meant routines_with_key meaning_in shape_at type_in type_at path_text key_text errors_text decls_text uses_text expr_text disagreement
agreement-decls-unknown = refl

pub decls-unknown : decls_text tree-decls-unknown ≡ (codes ".\n  a const ?\n  b const ?\n  t type ?\n  u type ?\n  v type ?\n  w var ?\n  x var ?\n  z var ?\n  f function ?\n  q procedure\n.f\n.q\n  g value ?\n  h ref ?\n")
unfolding kids_of digits same largest_number compatible assignable cell_limit is_too_large reached declaration_in declaration lookup find rule decorate own routines_in routines_of outside_of own_entries errors_of heading_marks annotated routine_around attributes_at expression_type opened_at field_of meant_in meant routines_with_key meaning_in shape_at type_in type_at path_text key_text errors_text decls_text uses_text expr_text disagreement
decls-unknown = refl
