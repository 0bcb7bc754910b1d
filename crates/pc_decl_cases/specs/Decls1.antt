-- Programs with the texts of their views.
use Rattle.std.specs.Prelude.{◌≡◌, [], codes}
use Rattle.std.proofs.Common.{refl}
use Rattle.std.specs.Fmt.{digits}
use Rattle.pc_syntax.specs.Plain.{Nil, Cons, Plain, kids_of}
use Rattle.pc_syntax.specs.declared.kind.Kind.TheVariants as kind
use Rattle.pc_syntax.specs.declared.sort.Sort.TheVariants as sort
use Rattle.pc_types.specs.Sameness.{same}
use Rattle.pc_types.specs.TypeClasses.{largest_number}
use Rattle.pc_types.specs.Compatibility.{compatible, assignable}
use Rattle.pc_types.specs.Sizes.{cell_limit, is_too_large}
use Rattle.pc_types.specs.Domains.{reached}
use Rattle.pc_scope.specs.Lookup.{declaration_in, declaration, lookup}
use Rattle.pc_rules.specs.Meanings.{find}
use Rattle.pc_rules.specs.Decorated.{rule, decorate}
use Rattle.pc_rules.specs.OwnBlock.{own}
use Rattle.pc_rules.specs.RoutineList.{routines_in, routines_of}
use Rattle.pc_rules.specs.Outsides.{outside_of}
use Rattle.pc_rules.specs.Errors.{own_entries, errors_of}
use Rattle.pc_rules.specs.Routines.{heading_marks}
use Rattle.pc_decl.specs.Annotated.{annotated}
use Rattle.pc_decl.specs.Found.{routine_around, attributes_at}
use Rattle.pc_decl.specs.Roles.{expression_type}
use Rattle.pc_decl.specs.Uses.{opened_at}
use Rattle.pc_decl.specs.Records.{field_of}
use Rattle.pc_decl.specs.Meant.{meant_in, meant}
use Rattle.pc_decl.specs.Declared.{routines_with_key, meaning_in}
use Rattle.pc_decl.specs.TypeAt.{shape_at, type_in, type_at}
use Rattle.pc_decl.specs.Shown.{path_text, key_text}
use Rattle.pc_decl.specs.ErrorsText.{errors_text}
use Rattle.pc_decl.specs.DeclsText.{decls_text}
use Rattle.pc_decl.specs.UsesText.{uses_text}
use Rattle.pc_decl.specs.ExprText.{expr_text}
use Rattle.pc_decl_cases.specs.Agreement.{disagreement, Agrees}

-- decls: of equal names of one block the first alone; a routine that is not the first of its name has no key.
abbrev pub tree-decls-equal : Plain
tree-decls-equal = record { kind = kind.Program; word = []; notes = []; kids = (Cons kind.Name (codes "p") [] Nil (Cons kind.Heads [] [] Nil (Cons kind.Block [] [] (Cons kind.Consts [] [] Nil (Cons kind.Types [] [] Nil (Cons kind.Vars [] [] (Cons kind.Vardef [] [] (Cons kind.Names [] [] (Cons kind.Name (codes "x") [] Nil Nil) (Cons kind.Tname [] [] (Cons kind.Name (codes "integer") [] Nil Nil) Nil)) (Cons kind.Vardef [] [] (Cons kind.Names [] [] (Cons kind.Name (codes "X") [] Nil Nil) (Cons kind.Tname [] [] (Cons kind.Name (codes "char") [] Nil Nil) Nil)) Nil)) (Cons kind.Routines [] [] (Cons kind.Procedure [] [] (Cons kind.Name (codes "q") [] Nil (Cons kind.Params [] [] Nil (Cons kind.Block [] [] (Cons kind.Consts [] [] Nil (Cons kind.Types [] [] Nil (Cons kind.Vars [] [] (Cons kind.Vardef [] [] (Cons kind.Names [] [] (Cons kind.Name (codes "a") [] Nil Nil) (Cons kind.Tname [] [] (Cons kind.Name (codes "char") [] Nil Nil) Nil)) Nil) (Cons kind.Routines [] [] Nil (Cons kind.Compound [] [] (Cons kind.Stmts [] [] (Cons kind.Empty [] [] Nil Nil) Nil) Nil))))) Nil))) (Cons kind.Procedure [] [] (Cons kind.Name (codes "q") [] Nil (Cons kind.Params [] [] Nil (Cons kind.Block [] [] (Cons kind.Consts [] [] Nil (Cons kind.Types [] [] Nil (Cons kind.Vars [] [] (Cons kind.Vardef [] [] (Cons kind.Names [] [] (Cons kind.Name (codes "b") [] Nil Nil) (Cons kind.Tname [] [] (Cons kind.Name (codes "char") [] Nil Nil) Nil)) Nil) (Cons kind.Routines [] [] (Cons kind.Procedure [] [] (Cons kind.Name (codes "r") [] Nil (Cons kind.Params [] [] Nil (Cons kind.Block [] [] (Cons kind.Consts [] [] Nil (Cons kind.Types [] [] Nil (Cons kind.Vars [] [] Nil (Cons kind.Routines [] [] Nil (Cons kind.Compound [] [] (Cons kind.Stmts [] [] (Cons kind.Empty [] [] Nil Nil) Nil) Nil))))) Nil))) Nil) (Cons kind.Compound [] [] (Cons kind.Stmts [] [] (Cons kind.Empty [] [] Nil Nil) Nil) Nil))))) Nil))) (Cons kind.Procedure [] [] (Cons kind.Name (codes "x") [] Nil (Cons kind.Params [] [] Nil (Cons kind.Block [] [] (Cons kind.Consts [] [] Nil (Cons kind.Types [] [] Nil (Cons kind.Vars [] [] Nil (Cons kind.Routines [] [] Nil (Cons kind.Compound [] [] (Cons kind.Stmts [] [] (Cons kind.Empty [] [] Nil Nil) Nil) Nil))))) Nil))) Nil))) (Cons kind.Compound [] [] (Cons kind.Stmts [] [] (Cons kind.Empty [] [] Nil Nil) Nil) Nil))))) Nil))) }

pub agreement-decls-equal : disagreement tree-decls-equal ≡ Agrees
unfolding kids_of digits same largest_number compatible assignable cell_limit is_too_large reached declaration_in declaration lookup find rule decorate own routines_in routines_of outside_of own_entries errors_of heading_marks annotated routine_around attributes_at expression_type opened_at field_of meant_in meant routines_with_key meaning_in shape_at type_in type_at path_text key_text errors_text decls_text uses_text expr_text disagreement
agreement-decls-equal = refl

pub decls-equal : decls_text tree-decls-equal ≡ (codes ".\n  x var integer\n  q procedure\n.q\n  a var char\n")
unfolding kids_of digits same largest_number compatible assignable cell_limit is_too_large reached declaration_in declaration lookup find rule decorate own routines_in routines_of outside_of own_entries errors_of heading_marks annotated routine_around attributes_at expression_type opened_at field_of meant_in meant routines_with_key meaning_in shape_at type_in type_at path_text key_text errors_text decls_text uses_text expr_text disagreement
decls-equal = refl

-- decls: a forward heading without a block, a routine whose block is a hole, one whose name is a hole.
abbrev pub tree-decls-forward-alone : Plain
tree-decls-forward-alone = record { kind = kind.Program; word = []; notes = []; kids = (Cons kind.Name (codes "p") [] Nil (Cons kind.Heads [] [] Nil (Cons kind.Block [] [] (Cons kind.Consts [] [] Nil (Cons kind.Types [] [] Nil (Cons kind.Vars [] [] Nil (Cons kind.Routines [] [] (Cons kind.Procedure [] [] (Cons kind.Name (codes "q") [] Nil (Cons kind.Params [] [] (Cons kind.Valparam [] [] (Cons kind.Names [] [] (Cons kind.Name (codes "a") [] Nil Nil) (Cons kind.Name (codes "char") [] Nil Nil)) Nil) (Cons kind.Forward (codes "forward") [] Nil Nil))) (Cons kind.Procedure [] [] (Cons kind.Name (codes "r") [] Nil (Cons kind.Params [] [] (Cons kind.Valparam [] [] (Cons kind.Names [] [] (Cons kind.Name (codes "b") [] Nil Nil) (Cons kind.Name (codes "char") [] Nil Nil)) Nil) (Cons (kind.Hole sort.Block) [] [] Nil Nil))) (Cons kind.Procedure [] [] (Cons (kind.Hole sort.Name) [] [] Nil (Cons kind.Params [] [] Nil (Cons kind.Block [] [] (Cons kind.Consts [] [] Nil (Cons kind.Types [] [] Nil (Cons kind.Vars [] [] (Cons kind.Vardef [] [] (Cons kind.Names [] [] (Cons kind.Name (codes "c") [] Nil Nil) (Cons kind.Tname [] [] (Cons kind.Name (codes "char") [] Nil Nil) Nil)) Nil) (Cons kind.Routines [] [] Nil (Cons kind.Compound [] [] (Cons kind.Stmts [] [] (Cons kind.Empty [] [] Nil Nil) Nil) Nil))))) Nil))) Nil))) (Cons kind.Compound [] [] (Cons kind.Stmts [] [] (Cons kind.Empty [] [] Nil Nil) Nil) Nil))))) Nil))) }

pub agreement-decls-forward-alone : disagreement tree-decls-forward-alone ≡ Agrees
unfolding kids_of digits same largest_number compatible assignable cell_limit is_too_large reached declaration_in declaration lookup find rule decorate own routines_in routines_of outside_of own_entries errors_of heading_marks annotated routine_around attributes_at expression_type opened_at field_of meant_in meant routines_with_key meaning_in shape_at type_in type_at path_text key_text errors_text decls_text uses_text expr_text disagreement
agreement-decls-forward-alone = refl

pub decls-forward-alone : decls_text tree-decls-forward-alone ≡ (codes ".\n  q procedure\n  r procedure\n.q\n  a value char\n.r\n  b value char\n")
unfolding kids_of digits same largest_number compatible assignable cell_limit is_too_large reached declaration_in declaration lookup find rule decorate own routines_in routines_of outside_of own_entries errors_of heading_marks annotated routine_around attributes_at expression_type opened_at field_of meant_in meant routines_with_key meaning_in shape_at type_in type_at path_text key_text errors_text decls_text uses_text expr_text disagreement
decls-forward-alone = refl

-- decls: a forward heading and its later declaration are one routine, at the heading's place, with the block of the later one; s, in that block, comes after r.
abbrev pub tree-decls-forward : Plain
tree-decls-forward = record { kind = kind.Program; word = []; notes = []; kids = (Cons kind.Name (codes "p") [] Nil (Cons kind.Heads [] [] Nil (Cons kind.Block [] [] (Cons kind.Consts [] [] Nil (Cons kind.Types [] [] Nil (Cons kind.Vars [] [] Nil (Cons kind.Routines [] [] (Cons kind.Procedure [] [] (Cons kind.Name (codes "q") [] Nil (Cons kind.Params [] [] (Cons kind.Valparam [] [] (Cons kind.Names [] [] (Cons kind.Name (codes "a") [] Nil Nil) (Cons kind.Name (codes "integer") [] Nil Nil)) Nil) (Cons kind.Forward (codes "forward") [] Nil Nil))) (Cons kind.Procedure [] [] (Cons kind.Name (codes "r") [] Nil (Cons kind.Params [] [] Nil (Cons kind.Block [] [] (Cons kind.Consts [] [] Nil (Cons kind.Types [] [] Nil (Cons kind.Vars [] [] (Cons kind.Vardef [] [] (Cons kind.Names [] [] (Cons kind.Name (codes "c") [] Nil Nil) (Cons kind.Tname [] [] (Cons kind.Name (codes "char") [] Nil Nil) Nil)) Nil) (Cons kind.Routines [] [] Nil (Cons kind.Compound [] [] (Cons kind.Stmts [] [] (Cons kind.Empty [] [] Nil Nil) Nil) Nil))))) Nil))) (Cons kind.Procedure [] [] (Cons kind.Name (codes "q") [] Nil (Cons kind.Params [] [] Nil (Cons kind.Block [] [] (Cons kind.Consts [] [] Nil (Cons kind.Types [] [] Nil (Cons kind.Vars [] [] (Cons kind.Vardef [] [] (Cons kind.Names [] [] (Cons kind.Name (codes "b") [] Nil Nil) (Cons kind.Tname [] [] (Cons kind.Name (codes "char") [] Nil Nil) Nil)) Nil) (Cons kind.Routines [] [] (Cons kind.Procedure [] [] (Cons kind.Name (codes "s") [] Nil (Cons kind.Params [] [] Nil (Cons kind.Block [] [] (Cons kind.Consts [] [] Nil (Cons kind.Types [] [] Nil (Cons kind.Vars [] [] Nil (Cons kind.Routines [] [] Nil (Cons kind.Compound [] [] (Cons kind.Stmts [] [] (Cons kind.Empty [] [] Nil Nil) Nil) Nil))))) Nil))) Nil) (Cons kind.Compound [] [] (Cons kind.Stmts [] [] (Cons kind.Empty [] [] Nil Nil) Nil) Nil))))) Nil))) Nil))) (Cons kind.Compound [] [] (Cons kind.Stmts [] [] (Cons kind.Empty [] [] Nil Nil) Nil) Nil))))) Nil))) }

pub agreement-decls-forward : disagreement tree-decls-forward ≡ Agrees
unfolding kids_of digits same largest_number compatible assignable cell_limit is_too_large reached declaration_in declaration lookup find rule decorate own routines_in routines_of outside_of own_entries errors_of heading_marks annotated routine_around attributes_at expression_type opened_at field_of meant_in meant routines_with_key meaning_in shape_at type_in type_at path_text key_text errors_text decls_text uses_text expr_text disagreement
agreement-decls-forward = refl

pub decls-forward : decls_text tree-decls-forward ≡ (codes ".\n  q procedure\n  r procedure\n.q\n  a value integer\n  b var char\n  s procedure\n.r\n  c var char\n.q.s\n")
unfolding kids_of digits same largest_number compatible assignable cell_limit is_too_large reached declaration_in declaration lookup find rule decorate own routines_in routines_of outside_of own_entries errors_of heading_marks annotated routine_around attributes_at expression_type opened_at field_of meant_in meant routines_with_key meaning_in shape_at type_in type_at path_text key_text errors_text decls_text uses_text expr_text disagreement
decls-forward = refl

-- decls: a function without a result type and without forward heading has the type ?.
abbrev pub tree-decls-funbody : Plain
tree-decls-funbody = record { kind = kind.Program; word = []; notes = []; kids = (Cons kind.Name (codes "p") [] Nil (Cons kind.Heads [] [] Nil (Cons kind.Block [] [] (Cons kind.Consts [] [] Nil (Cons kind.Types [] [] Nil (Cons kind.Vars [] [] Nil (Cons kind.Routines [] [] (Cons kind.Funbody [] [] (Cons kind.Name (codes "f") [] Nil (Cons kind.Block [] [] (Cons kind.Consts [] [] Nil (Cons kind.Types [] [] Nil (Cons kind.Vars [] [] (Cons kind.Vardef [] [] (Cons kind.Names [] [] (Cons kind.Name (codes "a") [] Nil Nil) (Cons kind.Tname [] [] (Cons kind.Name (codes "char") [] Nil Nil) Nil)) Nil) (Cons kind.Routines [] [] Nil (Cons kind.Compound [] [] (Cons kind.Stmts [] [] (Cons kind.Empty [] [] Nil Nil) Nil) Nil))))) Nil)) Nil) (Cons kind.Compound [] [] (Cons kind.Stmts [] [] (Cons kind.Empty [] [] Nil Nil) Nil) Nil))))) Nil))) }

pub agreement-decls-funbody : disagreement tree-decls-funbody ≡ Agrees
unfolding kids_of digits same largest_number compatible assignable cell_limit is_too_large reached declaration_in declaration lookup find rule decorate own routines_in routines_of outside_of own_entries errors_of heading_marks annotated routine_around attributes_at expression_type opened_at field_of meant_in meant routines_with_key meaning_in shape_at type_in type_at path_text key_text errors_text decls_text uses_text expr_text disagreement
agreement-decls-funbody = refl

pub decls-funbody : decls_text tree-decls-funbody ≡ (codes ".\n  f function ?\n.f\n  a var char\n")
unfolding kids_of digits same largest_number compatible assignable cell_limit is_too_large reached declaration_in declaration lookup find rule decorate own routines_in routines_of outside_of own_entries errors_of heading_marks annotated routine_around attributes_at expression_type opened_at field_of meant_in meant routines_with_key meaning_in shape_at type_in type_at path_text key_text errors_text decls_text uses_text expr_text disagreement
decls-funbody = refl

-- decls: the variables of one list have a line each; the names of lists come in order before the elements of their denoter.
abbrev pub tree-decls-names-list : Plain
tree-decls-names-list = record { kind = kind.Program; word = []; notes = []; kids = (Cons kind.Name (codes "p") [] Nil (Cons kind.Heads [] [] Nil (Cons kind.Block [] [] (Cons kind.Consts [] [] Nil (Cons kind.Types [] [] Nil (Cons kind.Vars [] [] (Cons kind.Vardef [] [] (Cons kind.Names [] [] (Cons kind.Name (codes "B") [] Nil (Cons kind.Name (codes "a") [] Nil Nil)) (Cons kind.Enum [] [] (Cons kind.Names [] [] (Cons kind.Name (codes "z") [] Nil (Cons kind.Name (codes "y") [] Nil Nil)) Nil) Nil)) Nil) (Cons kind.Routines [] [] Nil (Cons kind.Compound [] [] (Cons kind.Stmts [] [] (Cons kind.Empty [] [] Nil Nil) Nil) Nil))))) Nil))) }

pub agreement-decls-names-list : disagreement tree-decls-names-list ≡ Agrees
unfolding kids_of digits same largest_number compatible assignable cell_limit is_too_large reached declaration_in declaration lookup find rule decorate own routines_in routines_of outside_of own_entries errors_of heading_marks annotated routine_around attributes_at expression_type opened_at field_of meant_in meant routines_with_key meaning_in shape_at type_in type_at path_text key_text errors_text decls_text uses_text expr_text disagreement
agreement-decls-names-list = refl

pub decls-names-list : decls_text tree-decls-names-list ≡ (codes ".\n  b var (z, y)\n  a var (z, y)\n  z element (z, y)\n  y element (z, y)\n")
unfolding kids_of digits same largest_number compatible assignable cell_limit is_too_large reached declaration_in declaration lookup find rule decorate own routines_in routines_of outside_of own_entries errors_of heading_marks annotated routine_around attributes_at expression_type opened_at field_of meant_in meant routines_with_key meaning_in shape_at type_in type_at path_text key_text errors_text decls_text uses_text expr_text disagreement
decls-names-list = refl

-- decls: nested routines, each with its key, in the text order of their headings.
abbrev pub tree-decls-nested : Plain
tree-decls-nested = record { kind = kind.Program; word = []; notes = []; kids = (Cons kind.Name (codes "p") [] Nil (Cons kind.Heads [] [] Nil (Cons kind.Block [] [] (Cons kind.Consts [] [] Nil (Cons kind.Types [] [] Nil (Cons kind.Vars [] [] Nil (Cons kind.Routines [] [] (Cons kind.Procedure [] [] (Cons kind.Name (codes "a") [] Nil (Cons kind.Params [] [] Nil (Cons kind.Block [] [] (Cons kind.Consts [] [] Nil (Cons kind.Types [] [] Nil (Cons kind.Vars [] [] Nil (Cons kind.Routines [] [] (Cons kind.Procedure [] [] (Cons kind.Name (codes "b") [] Nil (Cons kind.Params [] [] Nil (Cons kind.Block [] [] (Cons kind.Consts [] [] Nil (Cons kind.Types [] [] Nil (Cons kind.Vars [] [] Nil (Cons kind.Routines [] [] (Cons kind.Procedure [] [] (Cons kind.Name (codes "c") [] Nil (Cons kind.Params [] [] Nil (Cons kind.Block [] [] (Cons kind.Consts [] [] Nil (Cons kind.Types [] [] Nil (Cons kind.Vars [] [] Nil (Cons kind.Routines [] [] Nil (Cons kind.Compound [] [] (Cons kind.Stmts [] [] (Cons kind.Empty [] [] Nil Nil) Nil) Nil))))) Nil))) Nil) (Cons kind.Compound [] [] (Cons kind.Stmts [] [] (Cons kind.Empty [] [] Nil Nil) Nil) Nil))))) Nil))) (Cons kind.Procedure [] [] (Cons kind.Name (codes "d") [] Nil (Cons kind.Params [] [] Nil (Cons kind.Block [] [] (Cons kind.Consts [] [] Nil (Cons kind.Types [] [] Nil (Cons kind.Vars [] [] Nil (Cons kind.Routines [] [] Nil (Cons kind.Compound [] [] (Cons kind.Stmts [] [] (Cons kind.Empty [] [] Nil Nil) Nil) Nil))))) Nil))) Nil)) (Cons kind.Compound [] [] (Cons kind.Stmts [] [] (Cons kind.Empty [] [] Nil Nil) Nil) Nil))))) Nil))) (Cons kind.Procedure [] [] (Cons kind.Name (codes "b") [] Nil (Cons kind.Params [] [] Nil (Cons kind.Block [] [] (Cons kind.Consts [] [] Nil (Cons kind.Types [] [] Nil (Cons kind.Vars [] [] Nil (Cons kind.Routines [] [] Nil (Cons kind.Compound [] [] (Cons kind.Stmts [] [] (Cons kind.Empty [] [] Nil Nil) Nil) Nil))))) Nil))) Nil)) (Cons kind.Compound [] [] (Cons kind.Stmts [] [] (Cons kind.Empty [] [] Nil Nil) Nil) Nil))))) Nil))) }

pub agreement-decls-nested : disagreement tree-decls-nested ≡ Agrees
unfolding kids_of digits same largest_number compatible assignable cell_limit is_too_large reached declaration_in declaration lookup find rule decorate own routines_in routines_of outside_of own_entries errors_of heading_marks annotated routine_around attributes_at expression_type opened_at field_of meant_in meant routines_with_key meaning_in shape_at type_in type_at path_text key_text errors_text decls_text uses_text expr_text disagreement
agreement-decls-nested = refl

pub decls-nested : decls_text tree-decls-nested ≡ (codes ".\n  a procedure\n  b procedure\n.a\n  b procedure\n  d procedure\n.a.b\n  c procedure\n.a.b.c\n.a.d\n.b\n")
unfolding kids_of digits same largest_number compatible assignable cell_limit is_too_large reached declaration_in declaration lookup find rule decorate own routines_in routines_of outside_of own_entries errors_of heading_marks annotated routine_around attributes_at expression_type opened_at field_of meant_in meant routines_with_key meaning_in shape_at type_in type_at path_text key_text errors_text decls_text uses_text expr_text disagreement
decls-nested = refl
