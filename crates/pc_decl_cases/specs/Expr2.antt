-- Programs with the texts of their views.
use Rattle.std.specs.Prelude.{◌≡◌, [], ◌∷◌, codes}
use Rattle.std.proofs.Common.{refl}
use Rattle.std.specs.Fmt.{digits}
use Rattle.pc_syntax.specs.Plain.{Nil, Cons, Plain, kids_of}
use Rattle.pc_syntax.specs.declared.kind.Kind.TheVariants as kind
use Rattle.pc_types.specs.Sameness.{same}
use Rattle.pc_types.specs.TypeClasses.{largest_number}
use Rattle.pc_types.specs.Compatibility.{compatible, assignable}
use Rattle.pc_types.specs.Sizes.{cell_limit, is_too_large}
use Rattle.pc_types.specs.Domains.{reached}
use Rattle.pc_scope.specs.Lookup.{declaration_in, declaration, lookup}
use Rattle.pc_rules.specs.Meanings.{find}
use Rattle.pc_rules.specs.Decorated.{rule, decorate}
use Rattle.pc_rules.specs.OwnBlock.{own}
use Rattle.pc_rules.specs.RoutineList.{routines_in, routines_of}
use Rattle.pc_rules.specs.Outsides.{outside_of}
use Rattle.pc_rules.specs.Errors.{own_entries, errors_of}
use Rattle.pc_rules.specs.Routines.{heading_marks}
use Rattle.pc_decl.specs.Annotated.{annotated}
use Rattle.pc_decl.specs.Found.{routine_around, attributes_at}
use Rattle.pc_decl.specs.Roles.{expression_type}
use Rattle.pc_decl.specs.Uses.{opened_at}
use Rattle.pc_decl.specs.Records.{field_of}
use Rattle.pc_decl.specs.Meant.{meant_in, meant}
use Rattle.pc_decl.specs.Declared.{routines_with_key, meaning_in}
use Rattle.pc_decl.specs.TypeAt.{shape_at, type_in, type_at}
use Rattle.pc_decl.specs.Shown.{path_text, key_text}
use Rattle.pc_decl.specs.ErrorsText.{errors_text}
use Rattle.pc_decl.specs.DeclsText.{decls_text}
use Rattle.pc_decl.specs.UsesText.{uses_text}
use Rattle.pc_decl.specs.ExprText.{expr_text}
use Rattle.pc_decl_cases.specs.Agreement.{disagreement, Agrees}

-- expr: a line per node of sort expression in preorder, two spaces a level, kind, word, type.
abbrev pub tree-expr-operators : Plain
tree-expr-operators = record { kind = kind.Program; word = []; notes = []; kids = (Cons kind.Name (codes "p") [] Nil (Cons kind.Heads [] [] Nil (Cons kind.Block [] [] (Cons kind.Consts [] [] Nil (Cons kind.Types [] [] Nil (Cons kind.Vars [] [] (Cons kind.Vardef [] [] (Cons kind.Names [] [] (Cons kind.Name (codes "i") [] Nil Nil) (Cons kind.Tname [] [] (Cons kind.Name (codes "integer") [] Nil Nil) Nil)) (Cons kind.Vardef [] [] (Cons kind.Names [] [] (Cons kind.Name (codes "b") [] Nil Nil) (Cons kind.Tname [] [] (Cons kind.Name (codes "boolean") [] Nil Nil) Nil)) Nil)) (Cons kind.Routines [] [] Nil (Cons kind.Compound [] [] (Cons kind.Stmts [] [] (Cons kind.Assign [] [] (Cons kind.Ref [] [] (Cons kind.Name (codes "b") [] Nil Nil) (Cons kind.Add (codes "or") [] (Cons kind.Not [] [] (Cons kind.Parens [] [] (Cons kind.Rel (codes ">=") [] (Cons kind.Add (codes "-") [] (Cons kind.Mul (codes "*") [] (Cons kind.Ref [] [] (Cons kind.Name (codes "i") [] Nil Nil) (Cons kind.Number (codes "2") [] Nil Nil)) (Cons kind.Number (codes "1") [] Nil Nil)) (Cons kind.Sign (codes "-") [] (Cons kind.Ref [] [] (Cons kind.Name (codes "i") [] Nil Nil) Nil) Nil)) Nil) Nil) (Cons kind.Ref [] [] (Cons kind.Name (codes "b") [] Nil Nil) Nil)) Nil)) Nil) Nil) Nil))))) Nil))) }

pub agreement-expr-operators : disagreement tree-expr-operators ≡ Agrees
unfolding kids_of digits same largest_number compatible assignable cell_limit is_too_large reached declaration_in declaration lookup find rule decorate own routines_in routines_of outside_of own_entries errors_of heading_marks annotated routine_around attributes_at expression_type opened_at field_of meant_in meant routines_with_key meaning_in shape_at type_in type_at path_text key_text errors_text decls_text uses_text expr_text disagreement
agreement-expr-operators = refl

pub expr-operators : expr_text tree-expr-operators (3 ∷ 5 ∷ 1 ∷ 1 ∷ 2 ∷ []) ≡ (codes "add or boolean\n  not boolean\n    parens boolean\n      rel >= boolean\n        add - integer\n          mul * integer\n            ref i integer\n            number 2 integer\n          number 1 integer\n        sign - integer\n          ref i integer\n  ref b boolean\n")
unfolding kids_of digits same largest_number compatible assignable cell_limit is_too_large reached declaration_in declaration lookup find rule decorate own routines_in routines_of outside_of own_entries errors_of heading_marks annotated routine_around attributes_at expression_type opened_at field_of meant_in meant routines_with_key meaning_in shape_at type_in type_at path_text key_text errors_text decls_text uses_text expr_text disagreement
expr-operators = refl

-- expr: required constants, eof and eoln without arguments, chr, odd, sqr, pred.
abbrev pub tree-expr-required : Plain
tree-expr-required = record { kind = kind.Program; word = []; notes = []; kids = (Cons kind.Name (codes "p") [] Nil (Cons kind.Heads [] [] Nil (Cons kind.Block [] [] (Cons kind.Consts [] [] Nil (Cons kind.Types [] [] Nil (Cons kind.Vars [] [] (Cons kind.Vardef [] [] (Cons kind.Names [] [] (Cons kind.Name (codes "b") [] Nil Nil) (Cons kind.Tname [] [] (Cons kind.Name (codes "boolean") [] Nil Nil) Nil)) (Cons kind.Vardef [] [] (Cons kind.Names [] [] (Cons kind.Name (codes "i") [] Nil Nil) (Cons kind.Tname [] [] (Cons kind.Name (codes "integer") [] Nil Nil) Nil)) Nil)) (Cons kind.Routines [] [] Nil (Cons kind.Compound [] [] (Cons kind.Stmts [] [] (Cons kind.Assign [] [] (Cons kind.Ref [] [] (Cons kind.Name (codes "b") [] Nil Nil) (Cons kind.Add (codes "or") [] (Cons kind.Add (codes "or") [] (Cons kind.Ref [] [] (Cons kind.Name (codes "eof") [] Nil Nil) (Cons kind.Ref [] [] (Cons kind.Name (codes "eoln") [] Nil Nil) Nil)) (Cons kind.Call [] [] (Cons kind.Name (codes "odd") [] Nil (Cons kind.Exprs [] [] (Cons kind.Call [] [] (Cons kind.Name (codes "sqr") [] Nil (Cons kind.Exprs [] [] (Cons kind.Ref [] [] (Cons kind.Name (codes "maxint") [] Nil Nil) Nil) Nil)) Nil) Nil)) Nil)) Nil)) (Cons kind.Assign [] [] (Cons kind.Ref [] [] (Cons kind.Name (codes "i") [] Nil Nil) (Cons kind.Call [] [] (Cons kind.Name (codes "ord") [] Nil (Cons kind.Exprs [] [] (Cons kind.Call [] [] (Cons kind.Name (codes "pred") [] Nil (Cons kind.Exprs [] [] (Cons kind.Text (codes "'b'") [] Nil Nil) Nil)) Nil) Nil)) Nil)) Nil)) Nil) Nil))))) Nil))) }

pub agreement-expr-required : disagreement tree-expr-required ≡ Agrees
unfolding kids_of digits same largest_number compatible assignable cell_limit is_too_large reached declaration_in declaration lookup find rule decorate own routines_in routines_of outside_of own_entries errors_of heading_marks annotated routine_around attributes_at expression_type opened_at field_of meant_in meant routines_with_key meaning_in shape_at type_in type_at path_text key_text errors_text decls_text uses_text expr_text disagreement
agreement-expr-required = refl

pub expr-required-1 : expr_text tree-expr-required (3 ∷ 5 ∷ 1 ∷ 1 ∷ 2 ∷ []) ≡ (codes "add or boolean\n  add or boolean\n    ref eof boolean\n    ref eoln boolean\n  call odd boolean\n    call sqr integer\n      ref maxint integer\n")
unfolding kids_of digits same largest_number compatible assignable cell_limit is_too_large reached declaration_in declaration lookup find rule decorate own routines_in routines_of outside_of own_entries errors_of heading_marks annotated routine_around attributes_at expression_type opened_at field_of meant_in meant routines_with_key meaning_in shape_at type_in type_at path_text key_text errors_text decls_text uses_text expr_text disagreement
expr-required-1 = refl

pub expr-required-2 : expr_text tree-expr-required (3 ∷ 5 ∷ 1 ∷ 2 ∷ 2 ∷ []) ≡ (codes "call ord integer\n  call pred char\n    text 'b' char\n")
unfolding kids_of digits same largest_number compatible assignable cell_limit is_too_large reached declaration_in declaration lookup find rule decorate own routines_in routines_of outside_of own_entries errors_of heading_marks annotated routine_around attributes_at expression_type opened_at field_of meant_in meant routines_with_key meaning_in shape_at type_in type_at path_text key_text errors_text decls_text uses_text expr_text disagreement
expr-required-2 = refl

-- expr: the own function's name as target has the result type; a call of it in the same function.
abbrev pub tree-expr-result : Plain
tree-expr-result = record { kind = kind.Program; word = []; notes = []; kids = (Cons kind.Name (codes "p") [] Nil (Cons kind.Heads [] [] Nil (Cons kind.Block [] [] (Cons kind.Consts [] [] Nil (Cons kind.Types [] [] Nil (Cons kind.Vars [] [] Nil (Cons kind.Routines [] [] (Cons kind.Function [] [] (Cons kind.Name (codes "f") [] Nil (Cons kind.Params [] [] (Cons kind.Valparam [] [] (Cons kind.Names [] [] (Cons kind.Name (codes "a") [] Nil Nil) (Cons kind.Name (codes "integer") [] Nil Nil)) Nil) (Cons kind.Name (codes "char") [] Nil (Cons kind.Block [] [] (Cons kind.Consts [] [] Nil (Cons kind.Types [] [] Nil (Cons kind.Vars [] [] Nil (Cons kind.Routines [] [] Nil (Cons kind.Compound [] [] (Cons kind.Stmts [] [] (Cons kind.Assign [] [] (Cons kind.Ref [] [] (Cons kind.Name (codes "f") [] Nil Nil) (Cons kind.Text (codes "'x'") [] Nil Nil)) (Cons kind.Assign [] [] (Cons kind.Ref [] [] (Cons kind.Name (codes "f") [] Nil Nil) (Cons kind.Call [] [] (Cons kind.Name (codes "f") [] Nil (Cons kind.Exprs [] [] (Cons kind.Number (codes "1") [] Nil Nil) Nil)) Nil)) (Cons kind.Assign [] [] (Cons kind.Ref [] [] (Cons kind.Name (codes "f") [] Nil Nil) (Cons kind.Ref [] [] (Cons kind.Name (codes "f") [] Nil Nil) Nil)) Nil))) Nil) Nil))))) Nil)))) Nil) (Cons kind.Compound [] [] (Cons kind.Stmts [] [] (Cons kind.Empty [] [] Nil Nil) Nil) Nil))))) Nil))) }

pub agreement-expr-result : disagreement tree-expr-result ≡ Agrees
unfolding kids_of digits same largest_number compatible assignable cell_limit is_too_large reached declaration_in declaration lookup find rule decorate own routines_in routines_of outside_of own_entries errors_of heading_marks annotated routine_around attributes_at expression_type opened_at field_of meant_in meant routines_with_key meaning_in shape_at type_in type_at path_text key_text errors_text decls_text uses_text expr_text disagreement
agreement-expr-result = refl

pub expr-result-1 : expr_text tree-expr-result (3 ∷ 4 ∷ 1 ∷ 4 ∷ 5 ∷ 1 ∷ 1 ∷ 1 ∷ []) ≡ (codes "ref f char\n")
unfolding kids_of digits same largest_number compatible assignable cell_limit is_too_large reached declaration_in declaration lookup find rule decorate own routines_in routines_of outside_of own_entries errors_of heading_marks annotated routine_around attributes_at expression_type opened_at field_of meant_in meant routines_with_key meaning_in shape_at type_in type_at path_text key_text errors_text decls_text uses_text expr_text disagreement
expr-result-1 = refl

pub expr-result-2 : expr_text tree-expr-result (3 ∷ 4 ∷ 1 ∷ 4 ∷ 5 ∷ 1 ∷ 2 ∷ 2 ∷ []) ≡ (codes "call f char\n  number 1 integer\n")
unfolding kids_of digits same largest_number compatible assignable cell_limit is_too_large reached declaration_in declaration lookup find rule decorate own routines_in routines_of outside_of own_entries errors_of heading_marks annotated routine_around attributes_at expression_type opened_at field_of meant_in meant routines_with_key meaning_in shape_at type_in type_at path_text key_text errors_text decls_text uses_text expr_text disagreement
expr-result-2 = refl

pub expr-result-3 : expr_text tree-expr-result (3 ∷ 4 ∷ 1 ∷ 4 ∷ 5 ∷ 1 ∷ 3 ∷ 2 ∷ []) ≡ (codes "ref f ?\n")
unfolding kids_of digits same largest_number compatible assignable cell_limit is_too_large reached declaration_in declaration lookup find rule decorate own routines_in routines_of outside_of own_entries errors_of heading_marks annotated routine_around attributes_at expression_type opened_at field_of meant_in meant routines_with_key meaning_in shape_at type_in type_at path_text key_text errors_text decls_text uses_text expr_text disagreement
expr-result-3 = refl

-- expr: a set constructor has the type of the first member or its host; [] and a span have ?.
abbrev pub tree-expr-sets : Plain
tree-expr-sets = record { kind = kind.Program; word = []; notes = []; kids = (Cons kind.Name (codes "p") [] Nil (Cons kind.Heads [] [] Nil (Cons kind.Block [] [] (Cons kind.Consts [] [] Nil (Cons kind.Types [] [] Nil (Cons kind.Vars [] [] (Cons kind.Vardef [] [] (Cons kind.Names [] [] (Cons kind.Name (codes "s") [] Nil Nil) (Cons kind.Setof [] [] (Cons kind.Subrange [] [] (Cons kind.Cnumber (codes "1") [] Nil (Cons kind.Cnumber (codes "5") [] Nil Nil)) Nil) Nil)) (Cons kind.Vardef [] [] (Cons kind.Names [] [] (Cons kind.Name (codes "i") [] Nil Nil) (Cons kind.Subrange [] [] (Cons kind.Cnumber (codes "1") [] Nil (Cons kind.Cnumber (codes "5") [] Nil Nil)) Nil)) Nil)) (Cons kind.Routines [] [] Nil (Cons kind.Compound [] [] (Cons kind.Stmts [] [] (Cons kind.Assign [] [] (Cons kind.Ref [] [] (Cons kind.Name (codes "s") [] Nil Nil) (Cons kind.Add (codes "+") [] (Cons kind.Setcon [] [] (Cons kind.Members [] [] (Cons kind.Ref [] [] (Cons kind.Name (codes "i") [] Nil Nil) (Cons kind.Span [] [] (Cons kind.Number (codes "2") [] Nil (Cons kind.Number (codes "3") [] Nil Nil)) Nil)) Nil) (Cons kind.Setcon [] [] (Cons kind.Members [] [] Nil Nil) Nil)) Nil)) (Cons kind.Assign [] [] (Cons kind.Ref [] [] (Cons kind.Name (codes "s") [] Nil Nil) (Cons kind.Mul (codes "*") [] (Cons kind.Ref [] [] (Cons kind.Name (codes "s") [] Nil Nil) (Cons kind.Setcon [] [] (Cons kind.Members [] [] (Cons kind.Number (codes "1") [] Nil Nil) Nil) Nil)) Nil)) (Cons kind.Assign [] [] (Cons kind.Ref [] [] (Cons kind.Name (codes "s") [] Nil Nil) (Cons kind.Add (codes "-") [] (Cons kind.Setcon [] [] (Cons kind.Members [] [] (Cons kind.Number (codes "1") [] Nil Nil) Nil) (Cons kind.Ref [] [] (Cons kind.Name (codes "s") [] Nil Nil) Nil)) Nil)) (Cons kind.Assign [] [] (Cons kind.Ref [] [] (Cons kind.Name (codes "s") [] Nil Nil) (Cons kind.Add (codes "+") [] (Cons kind.Setcon [] [] (Cons kind.Members [] [] Nil Nil) (Cons kind.Setcon [] [] (Cons kind.Members [] [] Nil Nil) Nil)) Nil)) Nil)))) Nil) Nil))))) Nil))) }

pub agreement-expr-sets : disagreement tree-expr-sets ≡ Agrees
unfolding kids_of digits same largest_number compatible assignable cell_limit is_too_large reached declaration_in declaration lookup find rule decorate own routines_in routines_of outside_of own_entries errors_of heading_marks annotated routine_around attributes_at expression_type opened_at field_of meant_in meant routines_with_key meaning_in shape_at type_in type_at path_text key_text errors_text decls_text uses_text expr_text disagreement
agreement-expr-sets = refl

pub expr-sets-1 : expr_text tree-expr-sets (3 ∷ 5 ∷ 1 ∷ 1 ∷ 2 ∷ []) ≡ (codes "add + set of integer\n  setcon set of integer\n    ref i 1..5\n    span ?\n      number 2 integer\n      number 3 integer\n  setcon ?\n")
unfolding kids_of digits same largest_number compatible assignable cell_limit is_too_large reached declaration_in declaration lookup find rule decorate own routines_in routines_of outside_of own_entries errors_of heading_marks annotated routine_around attributes_at expression_type opened_at field_of meant_in meant routines_with_key meaning_in shape_at type_in type_at path_text key_text errors_text decls_text uses_text expr_text disagreement
expr-sets-1 = refl

pub expr-sets-2 : expr_text tree-expr-sets (3 ∷ 5 ∷ 1 ∷ 2 ∷ 2 ∷ []) ≡ (codes "mul * set of 1..5\n  ref s set of 1..5\n  setcon set of integer\n    number 1 integer\n")
unfolding kids_of digits same largest_number compatible assignable cell_limit is_too_large reached declaration_in declaration lookup find rule decorate own routines_in routines_of outside_of own_entries errors_of heading_marks annotated routine_around attributes_at expression_type opened_at field_of meant_in meant routines_with_key meaning_in shape_at type_in type_at path_text key_text errors_text decls_text uses_text expr_text disagreement
expr-sets-2 = refl

pub expr-sets-3 : expr_text tree-expr-sets (3 ∷ 5 ∷ 1 ∷ 3 ∷ 2 ∷ []) ≡ (codes "add - set of 1..5\n  setcon set of integer\n    number 1 integer\n  ref s set of 1..5\n")
unfolding kids_of digits same largest_number compatible assignable cell_limit is_too_large reached declaration_in declaration lookup find rule decorate own routines_in routines_of outside_of own_entries errors_of heading_marks annotated routine_around attributes_at expression_type opened_at field_of meant_in meant routines_with_key meaning_in shape_at type_in type_at path_text key_text errors_text decls_text uses_text expr_text disagreement
expr-sets-3 = refl

pub expr-sets-4 : expr_text tree-expr-sets (3 ∷ 5 ∷ 1 ∷ 4 ∷ 2 ∷ []) ≡ (codes "add + ?\n  setcon ?\n  setcon ?\n")
unfolding kids_of digits same largest_number compatible assignable cell_limit is_too_large reached declaration_in declaration lookup find rule decorate own routines_in routines_of outside_of own_entries errors_of heading_marks annotated routine_around attributes_at expression_type opened_at field_of meant_in meant routines_with_key meaning_in shape_at type_in type_at path_text key_text errors_text decls_text uses_text expr_text disagreement
expr-sets-4 = refl

-- expr: a ref shows its declared subrange, parens what they hold; an operator and a succ have the host.
abbrev pub tree-expr-subranges : Plain
tree-expr-subranges = record { kind = kind.Program; word = []; notes = []; kids = (Cons kind.Name (codes "p") [] Nil (Cons kind.Heads [] [] Nil (Cons kind.Block [] [] (Cons kind.Consts [] [] Nil (Cons kind.Types [] [] (Cons kind.Typedef [] [] (Cons kind.Name (codes "s") [] Nil (Cons kind.Subrange [] [] (Cons kind.Cnumber (codes "1") [] Nil (Cons kind.Cnumber (codes "5") [] Nil Nil)) Nil)) (Cons kind.Typedef [] [] (Cons kind.Name (codes "c") [] Nil (Cons kind.Enum [] [] (Cons kind.Names [] [] (Cons kind.Name (codes "u") [] Nil (Cons kind.Name (codes "v") [] Nil (Cons kind.Name (codes "w") [] Nil Nil))) Nil) Nil)) (Cons kind.Typedef [] [] (Cons kind.Name (codes "d") [] Nil (Cons kind.Subrange [] [] (Cons kind.Cname [] [] (Cons kind.Name (codes "u") [] Nil Nil) (Cons kind.Cname [] [] (Cons kind.Name (codes "v") [] Nil Nil) Nil)) Nil)) Nil))) (Cons kind.Vars [] [] (Cons kind.Vardef [] [] (Cons kind.Names [] [] (Cons kind.Name (codes "x") [] Nil Nil) (Cons kind.Tname [] [] (Cons kind.Name (codes "s") [] Nil Nil) Nil)) (Cons kind.Vardef [] [] (Cons kind.Names [] [] (Cons kind.Name (codes "y") [] Nil Nil) (Cons kind.Tname [] [] (Cons kind.Name (codes "d") [] Nil Nil) Nil)) (Cons kind.Vardef [] [] (Cons kind.Names [] [] (Cons kind.Name (codes "i") [] Nil Nil) (Cons kind.Tname [] [] (Cons kind.Name (codes "integer") [] Nil Nil) Nil)) Nil))) (Cons kind.Routines [] [] Nil (Cons kind.Compound [] [] (Cons kind.Stmts [] [] (Cons kind.Assign [] [] (Cons kind.Ref [] [] (Cons kind.Name (codes "i") [] Nil Nil) (Cons kind.Add (codes "+") [] (Cons kind.Parens [] [] (Cons kind.Ref [] [] (Cons kind.Name (codes "x") [] Nil Nil) Nil) (Cons kind.Ref [] [] (Cons kind.Name (codes "x") [] Nil Nil) Nil)) Nil)) (Cons kind.Assign [] [] (Cons kind.Ref [] [] (Cons kind.Name (codes "y") [] Nil Nil) (Cons kind.Call [] [] (Cons kind.Name (codes "succ") [] Nil (Cons kind.Exprs [] [] (Cons kind.Ref [] [] (Cons kind.Name (codes "y") [] Nil Nil) Nil) Nil)) Nil)) Nil)) Nil) Nil))))) Nil))) }

pub agreement-expr-subranges : disagreement tree-expr-subranges ≡ Agrees
unfolding kids_of digits same largest_number compatible assignable cell_limit is_too_large reached declaration_in declaration lookup find rule decorate own routines_in routines_of outside_of own_entries errors_of heading_marks annotated routine_around attributes_at expression_type opened_at field_of meant_in meant routines_with_key meaning_in shape_at type_in type_at path_text key_text errors_text decls_text uses_text expr_text disagreement
agreement-expr-subranges = refl

pub expr-subranges-1 : expr_text tree-expr-subranges (3 ∷ 5 ∷ 1 ∷ 1 ∷ 2 ∷ []) ≡ (codes "add + integer\n  parens 1..5\n    ref x 1..5\n  ref x 1..5\n")
unfolding kids_of digits same largest_number compatible assignable cell_limit is_too_large reached declaration_in declaration lookup find rule decorate own routines_in routines_of outside_of own_entries errors_of heading_marks annotated routine_around attributes_at expression_type opened_at field_of meant_in meant routines_with_key meaning_in shape_at type_in type_at path_text key_text errors_text decls_text uses_text expr_text disagreement
expr-subranges-1 = refl

pub expr-subranges-2 : expr_text tree-expr-subranges (3 ∷ 5 ∷ 1 ∷ 2 ∷ 2 ∷ []) ≡ (codes "call succ (u, v, w)\n  ref y u..v\n")
unfolding kids_of digits same largest_number compatible assignable cell_limit is_too_large reached declaration_in declaration lookup find rule decorate own routines_in routines_of outside_of own_entries errors_of heading_marks annotated routine_around attributes_at expression_type opened_at field_of meant_in meant routines_with_key meaning_in shape_at type_in type_at path_text key_text errors_text decls_text uses_text expr_text disagreement
expr-subranges-2 = refl

-- expr: a text's word is as written with its apostrophes; one character is a char.
abbrev pub tree-expr-texts : Plain
tree-expr-texts = record { kind = kind.Program; word = []; notes = []; kids = (Cons kind.Name (codes "p") [] Nil (Cons kind.Heads [] [] Nil (Cons kind.Block [] [] (Cons kind.Consts [] [] (Cons kind.Constdef [] [] (Cons kind.Name (codes "k") [] Nil (Cons kind.Cstring (codes "'hi'") [] Nil Nil)) Nil) (Cons kind.Types [] [] Nil (Cons kind.Vars [] [] (Cons kind.Vardef [] [] (Cons kind.Names [] [] (Cons kind.Name (codes "b") [] Nil Nil) (Cons kind.Tname [] [] (Cons kind.Name (codes "boolean") [] Nil Nil) Nil)) Nil) (Cons kind.Routines [] [] Nil (Cons kind.Compound [] [] (Cons kind.Stmts [] [] (Cons kind.Assign [] [] (Cons kind.Ref [] [] (Cons kind.Name (codes "b") [] Nil Nil) (Cons kind.Rel (codes "=") [] (Cons kind.Text (codes "'it''s'") [] Nil (Cons kind.Text (codes "'abcd'") [] Nil Nil)) Nil)) (Cons kind.Assign [] [] (Cons kind.Ref [] [] (Cons kind.Name (codes "b") [] Nil Nil) (Cons kind.Rel (codes "=") [] (Cons kind.Text (codes "''''") [] Nil (Cons kind.Text (codes "'x'") [] Nil Nil)) Nil)) (Cons kind.Assign [] [] (Cons kind.Ref [] [] (Cons kind.Name (codes "b") [] Nil Nil) (Cons kind.Rel (codes "=") [] (Cons kind.Ref [] [] (Cons kind.Name (codes "k") [] Nil Nil) (Cons kind.Text (codes "'ab'") [] Nil Nil)) Nil)) Nil))) Nil) Nil))))) Nil))) }

pub agreement-expr-texts : disagreement tree-expr-texts ≡ Agrees
unfolding kids_of digits same largest_number compatible assignable cell_limit is_too_large reached declaration_in declaration lookup find rule decorate own routines_in routines_of outside_of own_entries errors_of heading_marks annotated routine_around attributes_at expression_type opened_at field_of meant_in meant routines_with_key meaning_in shape_at type_in type_at path_text key_text errors_text decls_text uses_text expr_text disagreement
agreement-expr-texts = refl

pub expr-texts-1 : expr_text tree-expr-texts (3 ∷ 5 ∷ 1 ∷ 1 ∷ 2 ∷ []) ≡ (codes "rel = boolean\n  text 'it''s' packed array [1..4] of char\n  text 'abcd' packed array [1..4] of char\n")
unfolding kids_of digits same largest_number compatible assignable cell_limit is_too_large reached declaration_in declaration lookup find rule decorate own routines_in routines_of outside_of own_entries errors_of heading_marks annotated routine_around attributes_at expression_type opened_at field_of meant_in meant routines_with_key meaning_in shape_at type_in type_at path_text key_text errors_text decls_text uses_text expr_text disagreement
expr-texts-1 = refl

pub expr-texts-2 : expr_text tree-expr-texts (3 ∷ 5 ∷ 1 ∷ 2 ∷ 2 ∷ []) ≡ (codes "rel = boolean\n  text '''' char\n  text 'x' char\n")
unfolding kids_of digits same largest_number compatible assignable cell_limit is_too_large reached declaration_in declaration lookup find rule decorate own routines_in routines_of outside_of own_entries errors_of heading_marks annotated routine_around attributes_at expression_type opened_at field_of meant_in meant routines_with_key meaning_in shape_at type_in type_at path_text key_text errors_text decls_text uses_text expr_text disagreement
expr-texts-2 = refl

pub expr-texts-3 : expr_text tree-expr-texts (3 ∷ 5 ∷ 1 ∷ 3 ∷ 2 ∷ []) ≡ (codes "rel = boolean\n  ref k packed array [1..2] of char\n  text 'ab' packed array [1..2] of char\n")
unfolding kids_of digits same largest_number compatible assignable cell_limit is_too_large reached declaration_in declaration lookup find rule decorate own routines_in routines_of outside_of own_entries errors_of heading_marks annotated routine_around attributes_at expression_type opened_at field_of meant_in meant routines_with_key meaning_in shape_at type_in type_at path_text key_text errors_text decls_text uses_text expr_text disagreement
expr-texts-3 = refl
