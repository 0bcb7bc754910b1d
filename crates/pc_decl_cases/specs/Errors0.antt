-- Programs with the texts of their views.
use Rattle.std.specs.Prelude.{◌≡◌, [], codes}
use Rattle.std.proofs.Common.{refl}
use Rattle.std.specs.Fmt.{digits}
use Rattle.pc_syntax.specs.Plain.{Nil, Cons, Plain, kids_of}
use Rattle.pc_syntax.specs.declared.kind.Kind.TheVariants as kind
use Rattle.pc_syntax.specs.declared.sort.Sort.TheVariants as sort
use Rattle.pc_types.specs.Sameness.{same}
use Rattle.pc_types.specs.TypeClasses.{largest_number}
use Rattle.pc_types.specs.Compatibility.{compatible, assignable}
use Rattle.pc_types.specs.Sizes.{cell_limit, is_too_large}
use Rattle.pc_types.specs.Domains.{reached}
use Rattle.pc_scope.specs.Lookup.{declaration_in, declaration, lookup}
use Rattle.pc_rules.specs.Meanings.{find}
use Rattle.pc_rules.specs.Decorated.{rule, decorate}
use Rattle.pc_rules.specs.OwnBlock.{own}
use Rattle.pc_rules.specs.RoutineList.{routines_in, routines_of}
use Rattle.pc_rules.specs.Outsides.{outside_of}
use Rattle.pc_rules.specs.Errors.{own_entries, errors_of}
use Rattle.pc_rules.specs.Routines.{heading_marks}
use Rattle.pc_decl.specs.Annotated.{annotated}
use Rattle.pc_decl.specs.Found.{routine_around, attributes_at}
use Rattle.pc_decl.specs.Roles.{expression_type}
use Rattle.pc_decl.specs.Uses.{opened_at}
use Rattle.pc_decl.specs.Records.{field_of}
use Rattle.pc_decl.specs.Meant.{meant_in, meant}
use Rattle.pc_decl.specs.Declared.{routines_with_key, meaning_in}
use Rattle.pc_decl.specs.TypeAt.{shape_at, type_in, type_at}
use Rattle.pc_decl.specs.Shown.{path_text, key_text}
use Rattle.pc_decl.specs.ErrorsText.{errors_text}
use Rattle.pc_decl.specs.DeclsText.{decls_text}
use Rattle.pc_decl.specs.UsesText.{uses_text}
use Rattle.pc_decl.specs.ExprText.{expr_text}
use Rattle.pc_decl_cases.specs.Agreement.{disagreement, Agrees}

-- An empty program with all required names unused has no entry.
abbrev pub tree-errors-i-empty-program : Plain
tree-errors-i-empty-program = record { kind = kind.Program; word = []; notes = []; kids = (Cons kind.Name (codes "p") [] Nil (Cons kind.Heads [] [] Nil (Cons kind.Block [] [] (Cons kind.Consts [] [] Nil (Cons kind.Types [] [] Nil (Cons kind.Vars [] [] Nil (Cons kind.Routines [] [] Nil (Cons kind.Compound [] [] (Cons kind.Stmts [] [] (Cons kind.Empty [] [] Nil Nil) Nil) Nil))))) Nil))) }

pub agreement-errors-i-empty-program : disagreement tree-errors-i-empty-program ≡ Agrees
unfolding kids_of digits same largest_number compatible assignable cell_limit is_too_large reached declaration_in declaration lookup find rule decorate own routines_in routines_of outside_of own_entries errors_of heading_marks annotated routine_around attributes_at expression_type opened_at field_of meant_in meant routines_with_key meaning_in shape_at type_in type_at path_text key_text errors_text decls_text uses_text expr_text disagreement
agreement-errors-i-empty-program = refl

pub errors-i-empty-program : errors_text tree-errors-i-empty-program ≡ []
unfolding kids_of digits same largest_number compatible assignable cell_limit is_too_large reached declaration_in declaration lookup find rule decorate own routines_in routines_of outside_of own_entries errors_of heading_marks annotated routine_around attributes_at expression_type opened_at field_of meant_in meant routines_with_key meaning_in shape_at type_in type_at path_text key_text errors_text decls_text uses_text expr_text disagreement
errors-i-empty-program = refl

-- A node's own entry comes before those of its kids.
abbrev pub tree-errors-i-order-node-before-kids : Plain
tree-errors-i-order-node-before-kids = record { kind = kind.Program; word = []; notes = []; kids = (Cons kind.Name (codes "p") [] Nil (Cons kind.Heads [] [] Nil (Cons kind.Block [] [] (Cons kind.Consts [] [] Nil (Cons kind.Types [] [] Nil (Cons kind.Vars [] [] Nil (Cons kind.Routines [] [] (Cons kind.Procedure [] [] (Cons kind.Name (codes "q") [] Nil (Cons kind.Params [] [] (Cons kind.Valparam [] [] (Cons kind.Names [] [] (Cons kind.Name (codes "a") [] Nil Nil) (Cons kind.Name (codes "integer") [] Nil Nil)) Nil) (Cons kind.Block [] [] (Cons kind.Consts [] [] Nil (Cons kind.Types [] [] Nil (Cons kind.Vars [] [] Nil (Cons kind.Routines [] [] Nil (Cons kind.Compound [] [] (Cons kind.Stmts [] [] (Cons kind.Empty [] [] Nil Nil) Nil) Nil))))) Nil))) Nil) (Cons kind.Compound [] [] (Cons kind.Stmts [] [] (Cons kind.Proc [] [] (Cons kind.Name (codes "q") [] Nil (Cons kind.Args [] [] (Cons kind.Ref [] [] (Cons kind.Name (codes "y") [] Nil Nil) (Cons kind.Ref [] [] (Cons kind.Name (codes "z") [] Nil Nil) Nil)) Nil)) (Cons kind.Assign [] [] (Cons kind.Ref [] [] (Cons kind.Name (codes "x") [] Nil Nil) (Cons kind.Parens [] [] (Cons kind.Add (codes "+") [] (Cons kind.Number (codes "1") [] Nil (Cons kind.Text (codes "'a'") [] Nil Nil)) Nil) Nil)) Nil)) Nil) Nil))))) Nil))) }

pub agreement-errors-i-order-node-before-kids : disagreement tree-errors-i-order-node-before-kids ≡ Agrees
unfolding kids_of digits same largest_number compatible assignable cell_limit is_too_large reached declaration_in declaration lookup find rule decorate own routines_in routines_of outside_of own_entries errors_of heading_marks annotated routine_around attributes_at expression_type opened_at field_of meant_in meant routines_with_key meaning_in shape_at type_in type_at path_text key_text errors_text decls_text uses_text expr_text disagreement
agreement-errors-i-order-node-before-kids = refl

pub errors-i-order-node-before-kids : errors_text tree-errors-i-order-node-before-kids ≡ (codes "/3/5/1/1 wrong number of arguments\n/3/5/1/1/2/1/1 not declared: y\n/3/5/1/1/2/2/1 not declared: z\n/3/5/1/2/1/1 not declared: x\n/3/5/1/2/2/1 types do not agree\n")
unfolding kids_of digits same largest_number compatible assignable cell_limit is_too_large reached declaration_in declaration lookup find rule decorate own routines_in routines_of outside_of own_entries errors_of heading_marks annotated routine_around attributes_at expression_type opened_at field_of meant_in meant routines_with_key meaning_in shape_at type_in type_at path_text key_text errors_text decls_text uses_text expr_text disagreement
errors-i-order-node-before-kids = refl

-- A field hides a procedure, a function, a constant and a type of the block in the with's body.
abbrev pub tree-errors-i-with-hides : Plain
tree-errors-i-with-hides = record { kind = kind.Program; word = []; notes = []; kids = (Cons kind.Name (codes "p") [] Nil (Cons kind.Heads [] [] Nil (Cons kind.Block [] [] (Cons kind.Consts [] [] (Cons kind.Constdef [] [] (Cons kind.Name (codes "c") [] Nil (Cons kind.Cnumber (codes "1") [] Nil Nil)) Nil) (Cons kind.Types [] [] Nil (Cons kind.Vars [] [] (Cons kind.Vardef [] [] (Cons kind.Names [] [] (Cons kind.Name (codes "r") [] Nil Nil) (Cons kind.Record [] [] (Cons kind.Fields [] [] (Cons kind.Field [] [] (Cons kind.Names [] [] (Cons kind.Name (codes "q") [] Nil (Cons kind.Name (codes "f") [] Nil (Cons kind.Name (codes "c") [] Nil Nil))) (Cons kind.Tname [] [] (Cons kind.Name (codes "integer") [] Nil Nil) Nil)) Nil) Nil) Nil)) Nil) (Cons kind.Routines [] [] (Cons kind.Procedure [] [] (Cons kind.Name (codes "q") [] Nil (Cons kind.Params [] [] Nil (Cons kind.Block [] [] (Cons kind.Consts [] [] Nil (Cons kind.Types [] [] Nil (Cons kind.Vars [] [] Nil (Cons kind.Routines [] [] Nil (Cons kind.Compound [] [] (Cons kind.Stmts [] [] (Cons kind.Empty [] [] Nil Nil) Nil) Nil))))) Nil))) (Cons kind.Function [] [] (Cons kind.Name (codes "f") [] Nil (Cons kind.Params [] [] (Cons kind.Valparam [] [] (Cons kind.Names [] [] (Cons kind.Name (codes "a") [] Nil Nil) (Cons kind.Name (codes "integer") [] Nil Nil)) Nil) (Cons kind.Name (codes "integer") [] Nil (Cons kind.Block [] [] (Cons kind.Consts [] [] Nil (Cons kind.Types [] [] Nil (Cons kind.Vars [] [] Nil (Cons kind.Routines [] [] Nil (Cons kind.Compound [] [] (Cons kind.Stmts [] [] (Cons kind.Assign [] [] (Cons kind.Ref [] [] (Cons kind.Name (codes "f") [] Nil Nil) (Cons kind.Ref [] [] (Cons kind.Name (codes "a") [] Nil Nil) Nil)) Nil) Nil) Nil))))) Nil)))) Nil)) (Cons kind.Compound [] [] (Cons kind.Stmts [] [] (Cons kind.With [] [] (Cons kind.Accesses [] [] (Cons kind.Ref [] [] (Cons kind.Name (codes "r") [] Nil Nil) Nil) (Cons kind.Compound [] [] (Cons kind.Stmts [] [] (Cons kind.Proc [] [] (Cons kind.Name (codes "q") [] Nil (Cons kind.Args [] [] Nil Nil)) (Cons kind.Assign [] [] (Cons kind.Ref [] [] (Cons kind.Name (codes "q") [] Nil Nil) (Cons kind.Call [] [] (Cons kind.Name (codes "f") [] Nil (Cons kind.Exprs [] [] (Cons kind.Number (codes "1") [] Nil Nil) Nil)) Nil)) (Cons kind.Assign [] [] (Cons kind.Ref [] [] (Cons kind.Name (codes "c") [] Nil Nil) (Cons kind.Number (codes "2") [] Nil Nil)) (Cons kind.Case [] [] (Cons kind.Number (codes "1") [] Nil (Cons kind.Arms [] [] (Cons kind.Arm [] [] (Cons kind.Labels [] [] (Cons kind.Cname [] [] (Cons kind.Name (codes "c") [] Nil Nil) Nil) (Cons kind.Empty [] [] Nil Nil)) Nil) Nil)) Nil)))) Nil) Nil)) (Cons kind.Proc [] [] (Cons kind.Name (codes "q") [] Nil (Cons kind.Args [] [] Nil Nil)) (Cons kind.Assign [] [] (Cons kind.Ref [] [] (Cons kind.Name (codes "c") [] Nil Nil) (Cons kind.Number (codes "3") [] Nil Nil)) Nil))) Nil) Nil))))) Nil))) }

pub agreement-errors-i-with-hides : disagreement tree-errors-i-with-hides ≡ Agrees
unfolding kids_of digits same largest_number compatible assignable cell_limit is_too_large reached declaration_in declaration lookup find rule decorate own routines_in routines_of outside_of own_entries errors_of heading_marks annotated routine_around attributes_at expression_type opened_at field_of meant_in meant routines_with_key meaning_in shape_at type_in type_at path_text key_text errors_text decls_text uses_text expr_text disagreement
agreement-errors-i-with-hides = refl

pub errors-i-with-hides : errors_text tree-errors-i-with-hides ≡ (codes "/3/5/1/1/2/1/1/1 not a procedure: q\n/3/5/1/1/2/1/2/2/1 not a function: f\n/3/5/1/1/2/1/4/2/1/1/1/1 not a constant: c\n/3/5/1/3/1/1 not a variable: c\n")
unfolding kids_of digits same largest_number compatible assignable cell_limit is_too_large reached declaration_in declaration lookup find rule decorate own routines_in routines_of outside_of own_entries errors_of heading_marks annotated routine_around attributes_at expression_type opened_at field_of meant_in meant routines_with_key meaning_in shape_at type_in type_at path_text key_text errors_text decls_text uses_text expr_text disagreement
errors-i-with-hides = refl

-- Row 3: twice in one list of names, without regard to case.
abbrev pub tree-errors-r03-list : Plain
tree-errors-r03-list = record { kind = kind.Program; word = []; notes = []; kids = (Cons kind.Name (codes "p") [] Nil (Cons kind.Heads [] [] Nil (Cons kind.Block [] [] (Cons kind.Consts [] [] Nil (Cons kind.Types [] [] Nil (Cons kind.Vars [] [] (Cons kind.Vardef [] [] (Cons kind.Names [] [] (Cons kind.Name (codes "a") [] Nil (Cons kind.Name (codes "b") [] Nil (Cons kind.Name (codes "A") [] Nil Nil))) (Cons kind.Tname [] [] (Cons kind.Name (codes "integer") [] Nil Nil) Nil)) Nil) (Cons kind.Routines [] [] Nil (Cons kind.Compound [] [] (Cons kind.Stmts [] [] (Cons kind.Assign [] [] (Cons kind.Ref [] [] (Cons kind.Name (codes "a") [] Nil Nil) (Cons kind.Ref [] [] (Cons kind.Name (codes "b") [] Nil Nil) Nil)) Nil) Nil) Nil))))) Nil))) }

pub agreement-errors-r03-list : disagreement tree-errors-r03-list ≡ Agrees
unfolding kids_of digits same largest_number compatible assignable cell_limit is_too_large reached declaration_in declaration lookup find rule decorate own routines_in routines_of outside_of own_entries errors_of heading_marks annotated routine_around attributes_at expression_type opened_at field_of meant_in meant routines_with_key meaning_in shape_at type_in type_at path_text key_text errors_text decls_text uses_text expr_text disagreement
agreement-errors-r03-list = refl

pub errors-r03-list : errors_text tree-errors-r03-list ≡ (codes "/3/3/1/1/3 declared twice: A\n")
unfolding kids_of digits same largest_number compatible assignable cell_limit is_too_large reached declaration_in declaration lookup find rule decorate own routines_in routines_of outside_of own_entries errors_of heading_marks annotated routine_around attributes_at expression_type opened_at field_of meant_in meant routines_with_key meaning_in shape_at type_in type_at path_text key_text errors_text decls_text uses_text expr_text disagreement
errors-r03-list = refl

-- Row 4: a parameter hides the type of that name in the body, not in the heading.
abbrev pub tree-errors-r04-hidden : Plain
tree-errors-r04-hidden = record { kind = kind.Program; word = []; notes = []; kids = (Cons kind.Name (codes "p") [] Nil (Cons kind.Heads [] [] Nil (Cons kind.Block [] [] (Cons kind.Consts [] [] Nil (Cons kind.Types [] [] (Cons kind.Typedef [] [] (Cons kind.Name (codes "t") [] Nil (Cons kind.Tname [] [] (Cons kind.Name (codes "integer") [] Nil Nil) Nil)) Nil) (Cons kind.Vars [] [] Nil (Cons kind.Routines [] [] (Cons kind.Procedure [] [] (Cons kind.Name (codes "q") [] Nil (Cons kind.Params [] [] (Cons kind.Valparam [] [] (Cons kind.Names [] [] (Cons kind.Name (codes "t") [] Nil Nil) (Cons kind.Name (codes "t") [] Nil Nil)) (Cons kind.Valparam [] [] (Cons kind.Names [] [] (Cons kind.Name (codes "u") [] Nil Nil) (Cons kind.Name (codes "t") [] Nil Nil)) Nil)) (Cons kind.Block [] [] (Cons kind.Consts [] [] Nil (Cons kind.Types [] [] Nil (Cons kind.Vars [] [] (Cons kind.Vardef [] [] (Cons kind.Names [] [] (Cons kind.Name (codes "v") [] Nil Nil) (Cons kind.Tname [] [] (Cons kind.Name (codes "t") [] Nil Nil) Nil)) Nil) (Cons kind.Routines [] [] Nil (Cons kind.Compound [] [] (Cons kind.Stmts [] [] (Cons kind.Assign [] [] (Cons kind.Ref [] [] (Cons kind.Name (codes "t") [] Nil Nil) (Cons kind.Ref [] [] (Cons kind.Name (codes "u") [] Nil Nil) Nil)) Nil) Nil) Nil))))) Nil))) Nil) (Cons kind.Compound [] [] (Cons kind.Stmts [] [] (Cons kind.Proc [] [] (Cons kind.Name (codes "q") [] Nil (Cons kind.Args [] [] (Cons kind.Number (codes "1") [] Nil (Cons kind.Number (codes "2") [] Nil Nil)) Nil)) Nil) Nil) Nil))))) Nil))) }

pub agreement-errors-r04-hidden : disagreement tree-errors-r04-hidden ≡ Agrees
unfolding kids_of digits same largest_number compatible assignable cell_limit is_too_large reached declaration_in declaration lookup find rule decorate own routines_in routines_of outside_of own_entries errors_of heading_marks annotated routine_around attributes_at expression_type opened_at field_of meant_in meant routines_with_key meaning_in shape_at type_in type_at path_text key_text errors_text decls_text uses_text expr_text disagreement
agreement-errors-r04-hidden = refl

pub errors-r04-hidden : errors_text tree-errors-r04-hidden ≡ (codes "/3/4/1/3/3/1/2/1 not a type: t\n")
unfolding kids_of digits same largest_number compatible assignable cell_limit is_too_large reached declaration_in declaration lookup find rule decorate own routines_in routines_of outside_of own_entries errors_of heading_marks annotated routine_around attributes_at expression_type opened_at field_of meant_in meant routines_with_key meaning_in shape_at type_in type_at path_text key_text errors_text decls_text uses_text expr_text disagreement
errors-r04-hidden = refl

-- Row 11 at the node of an operator: each kind of operand once.
abbrev pub tree-errors-r11-operators : Plain
tree-errors-r11-operators = record { kind = kind.Program; word = []; notes = []; kids = (Cons kind.Name (codes "p") [] Nil (Cons kind.Heads [] [] Nil (Cons kind.Block [] [] (Cons kind.Consts [] [] Nil (Cons kind.Types [] [] Nil (Cons kind.Vars [] [] (Cons kind.Vardef [] [] (Cons kind.Names [] [] (Cons kind.Name (codes "i") [] Nil Nil) (Cons kind.Tname [] [] (Cons kind.Name (codes "integer") [] Nil Nil) Nil)) (Cons kind.Vardef [] [] (Cons kind.Names [] [] (Cons kind.Name (codes "b") [] Nil Nil) (Cons kind.Tname [] [] (Cons kind.Name (codes "boolean") [] Nil Nil) Nil)) (Cons kind.Vardef [] [] (Cons kind.Names [] [] (Cons kind.Name (codes "s") [] Nil Nil) (Cons kind.Setof [] [] (Cons kind.Subrange [] [] (Cons kind.Cnumber (codes "1") [] Nil (Cons kind.Cnumber (codes "9") [] Nil Nil)) Nil) Nil)) Nil))) (Cons kind.Routines [] [] Nil (Cons kind.Compound [] [] (Cons kind.Stmts [] [] (Cons kind.Assign [] [] (Cons kind.Ref [] [] (Cons kind.Name (codes "i") [] Nil Nil) (Cons kind.Add (codes "+") [] (Cons kind.Number (codes "1") [] Nil (Cons kind.Ref [] [] (Cons kind.Name (codes "b") [] Nil Nil) Nil)) Nil)) (Cons kind.Assign [] [] (Cons kind.Ref [] [] (Cons kind.Name (codes "b") [] Nil Nil) (Cons kind.Mul (codes "and") [] (Cons kind.Ref [] [] (Cons kind.Name (codes "b") [] Nil Nil) (Cons kind.Ref [] [] (Cons kind.Name (codes "i") [] Nil Nil) Nil)) Nil)) (Cons kind.Assign [] [] (Cons kind.Ref [] [] (Cons kind.Name (codes "b") [] Nil Nil) (Cons kind.Add (codes "or") [] (Cons kind.Ref [] [] (Cons kind.Name (codes "i") [] Nil Nil) (Cons kind.Ref [] [] (Cons kind.Name (codes "b") [] Nil Nil) Nil)) Nil)) (Cons kind.Assign [] [] (Cons kind.Ref [] [] (Cons kind.Name (codes "i") [] Nil Nil) (Cons kind.Mul (codes "*") [] (Cons kind.Text (codes "'a'") [] Nil (Cons kind.Number (codes "2") [] Nil Nil)) Nil)) (Cons kind.Assign [] [] (Cons kind.Ref [] [] (Cons kind.Name (codes "s") [] Nil Nil) (Cons kind.Add (codes "+") [] (Cons kind.Ref [] [] (Cons kind.Name (codes "s") [] Nil Nil) (Cons kind.Number (codes "1") [] Nil Nil)) Nil)) (Cons kind.Assign [] [] (Cons kind.Ref [] [] (Cons kind.Name (codes "i") [] Nil Nil) (Cons kind.Mul (codes "div") [] (Cons kind.Number (codes "7") [] Nil (Cons kind.Text (codes "'x'") [] Nil Nil)) Nil)) (Cons kind.Assign [] [] (Cons kind.Ref [] [] (Cons kind.Name (codes "i") [] Nil Nil) (Cons kind.Mul (codes "mod") [] (Cons kind.Ref [] [] (Cons kind.Name (codes "b") [] Nil Nil) (Cons kind.Number (codes "2") [] Nil Nil)) Nil)) Nil))))))) Nil) Nil))))) Nil))) }

pub agreement-errors-r11-operators : disagreement tree-errors-r11-operators ≡ Agrees
unfolding kids_of digits same largest_number compatible assignable cell_limit is_too_large reached declaration_in declaration lookup find rule decorate own routines_in routines_of outside_of own_entries errors_of heading_marks annotated routine_around attributes_at expression_type opened_at field_of meant_in meant routines_with_key meaning_in shape_at type_in type_at path_text key_text errors_text decls_text uses_text expr_text disagreement
agreement-errors-r11-operators = refl

pub errors-r11-operators : errors_text tree-errors-r11-operators ≡ (codes "/3/5/1/1/2 types do not agree\n/3/5/1/2/2 types do not agree\n/3/5/1/3/2 types do not agree\n/3/5/1/4/2 types do not agree\n/3/5/1/5/2 types do not agree\n/3/5/1/6/2 types do not agree\n/3/5/1/7/2 types do not agree\n")
unfolding kids_of digits same largest_number compatible assignable cell_limit is_too_large reached declaration_in declaration lookup find rule decorate own routines_in routines_of outside_of own_entries errors_of heading_marks annotated routine_around attributes_at expression_type opened_at field_of meant_in meant routines_with_key meaning_in shape_at type_in type_at path_text key_text errors_text decls_text uses_text expr_text disagreement
errors-r11-operators = refl

-- Rows 1 and 18, rows 4 and 18 at one name; a hole has neither.
abbrev pub tree-errors-r18-with-1-4 : Plain
tree-errors-r18-with-1-4 = record { kind = kind.Program; word = []; notes = []; kids = (Cons kind.Name (codes "p") [] Nil (Cons kind.Heads [] [] Nil (Cons kind.Block [] [] (Cons kind.Consts [] [] (Cons kind.Constdef [] [] (Cons kind.Name (codes "c") [] Nil (Cons kind.Cnumber (codes "1") [] Nil Nil)) Nil) (Cons kind.Types [] [] Nil (Cons kind.Vars [] [] Nil (Cons kind.Routines [] [] (Cons kind.Procedure [] [] (Cons kind.Name (codes "q") [] Nil (Cons kind.Params [] [] Nil (Cons kind.Block [] [] (Cons kind.Consts [] [] Nil (Cons kind.Types [] [] Nil (Cons kind.Vars [] [] Nil (Cons kind.Routines [] [] Nil (Cons kind.Compound [] [] (Cons kind.Stmts [] [] (Cons kind.Empty [] [] Nil Nil) Nil) Nil))))) Nil))) Nil) (Cons kind.Compound [] [] (Cons kind.Stmts [] [] (Cons kind.For (codes "to") [] (Cons kind.Name (codes "y") [] Nil (Cons kind.Number (codes "1") [] Nil (Cons kind.Number (codes "2") [] Nil (Cons kind.Empty [] [] Nil Nil)))) (Cons kind.For (codes "to") [] (Cons kind.Name (codes "c") [] Nil (Cons kind.Number (codes "1") [] Nil (Cons kind.Number (codes "2") [] Nil (Cons kind.Empty [] [] Nil Nil)))) (Cons kind.For (codes "to") [] (Cons kind.Name (codes "q") [] Nil (Cons kind.Number (codes "1") [] Nil (Cons kind.Number (codes "2") [] Nil (Cons kind.Empty [] [] Nil Nil)))) (Cons kind.For (codes "to") [] (Cons (kind.Hole sort.Name) [] [] Nil (Cons kind.Number (codes "1") [] Nil (Cons kind.Number (codes "2") [] Nil (Cons kind.Empty [] [] Nil Nil)))) (Cons kind.For (codes "to") [] (Cons kind.Name (codes "integer") [] Nil (Cons kind.Number (codes "1") [] Nil (Cons kind.Number (codes "2") [] Nil (Cons kind.Empty [] [] Nil Nil)))) Nil))))) Nil) Nil))))) Nil))) }

pub agreement-errors-r18-with-1-4 : disagreement tree-errors-r18-with-1-4 ≡ Agrees
unfolding kids_of digits same largest_number compatible assignable cell_limit is_too_large reached declaration_in declaration lookup find rule decorate own routines_in routines_of outside_of own_entries errors_of heading_marks annotated routine_around attributes_at expression_type opened_at field_of meant_in meant routines_with_key meaning_in shape_at type_in type_at path_text key_text errors_text decls_text uses_text expr_text disagreement
agreement-errors-r18-with-1-4 = refl

pub errors-r18-with-1-4 : errors_text tree-errors-r18-with-1-4 ≡ (codes "/3/5/1/1/1 not declared: y\n/3/5/1/1/1 control variable not local: y\n/3/5/1/2/1 not a variable: c\n/3/5/1/2/1 control variable not local: c\n/3/5/1/3/1 not a variable: q\n/3/5/1/3/1 control variable not local: q\n/3/5/1/5/1 not a variable: integer\n/3/5/1/5/1 control variable not local: integer\n")
unfolding kids_of digits same largest_number compatible assignable cell_limit is_too_large reached declaration_in declaration lookup find rule decorate own routines_in routines_of outside_of own_entries errors_of heading_marks annotated routine_around attributes_at expression_type opened_at field_of meant_in meant routines_with_key meaning_in shape_at type_in type_at path_text key_text errors_text decls_text uses_text expr_text disagreement
errors-r18-with-1-4 = refl

-- Row 20: two forward headings of one later declaration; the second is a second name.
abbrev pub tree-errors-r20-two-forwards : Plain
tree-errors-r20-two-forwards = record { kind = kind.Program; word = []; notes = []; kids = (Cons kind.Name (codes "p") [] Nil (Cons kind.Heads [] [] Nil (Cons kind.Block [] [] (Cons kind.Consts [] [] Nil (Cons kind.Types [] [] Nil (Cons kind.Vars [] [] Nil (Cons kind.Routines [] [] (Cons kind.Procedure [] [] (Cons kind.Name (codes "q") [] Nil (Cons kind.Params [] [] Nil (Cons kind.Forward (codes "forward") [] Nil Nil))) (Cons kind.Procedure [] [] (Cons kind.Name (codes "q") [] Nil (Cons kind.Params [] [] Nil (Cons kind.Forward (codes "forward") [] Nil Nil))) (Cons kind.Procedure [] [] (Cons kind.Name (codes "q") [] Nil (Cons kind.Params [] [] Nil (Cons kind.Block [] [] (Cons kind.Consts [] [] Nil (Cons kind.Types [] [] Nil (Cons kind.Vars [] [] Nil (Cons kind.Routines [] [] Nil (Cons kind.Compound [] [] (Cons kind.Stmts [] [] (Cons kind.Empty [] [] Nil Nil) Nil) Nil))))) Nil))) Nil))) (Cons kind.Compound [] [] (Cons kind.Stmts [] [] (Cons kind.Proc [] [] (Cons kind.Name (codes "q") [] Nil (Cons kind.Args [] [] Nil Nil)) Nil) Nil) Nil))))) Nil))) }

pub agreement-errors-r20-two-forwards : disagreement tree-errors-r20-two-forwards ≡ Agrees
unfolding kids_of digits same largest_number compatible assignable cell_limit is_too_large reached declaration_in declaration lookup find rule decorate own routines_in routines_of outside_of own_entries errors_of heading_marks annotated routine_around attributes_at expression_type opened_at field_of meant_in meant routines_with_key meaning_in shape_at type_in type_at path_text key_text errors_text decls_text uses_text expr_text disagreement
agreement-errors-r20-two-forwards = refl

pub errors-r20-two-forwards : errors_text tree-errors-r20-two-forwards ≡ (codes "/3/4/2/1 declared twice: q\n")
unfolding kids_of digits same largest_number compatible assignable cell_limit is_too_large reached declaration_in declaration lookup find rule decorate own routines_in routines_of outside_of own_entries errors_of heading_marks annotated routine_around attributes_at expression_type opened_at field_of meant_in meant routines_with_key meaning_in shape_at type_in type_at path_text key_text errors_text decls_text uses_text expr_text disagreement
errors-r20-two-forwards = refl

-- Row 22 needs the type: an undeclared one is row 1, a hole nothing.
abbrev pub tree-errors-r22-undeclared : Plain
tree-errors-r22-undeclared = record { kind = kind.Program; word = []; notes = []; kids = (Cons kind.Name (codes "p") [] Nil (Cons kind.Heads [] [] Nil (Cons kind.Block [] [] (Cons kind.Consts [] [] Nil (Cons kind.Types [] [] Nil (Cons kind.Vars [] [] Nil (Cons kind.Routines [] [] (Cons kind.Function [] [] (Cons kind.Name (codes "f") [] Nil (Cons kind.Params [] [] Nil (Cons kind.Name (codes "t") [] Nil (Cons kind.Block [] [] (Cons kind.Consts [] [] Nil (Cons kind.Types [] [] Nil (Cons kind.Vars [] [] Nil (Cons kind.Routines [] [] Nil (Cons kind.Compound [] [] (Cons kind.Stmts [] [] (Cons kind.Assign [] [] (Cons kind.Ref [] [] (Cons kind.Name (codes "f") [] Nil Nil) (Cons kind.Number (codes "1") [] Nil Nil)) Nil) Nil) Nil))))) Nil)))) (Cons kind.Function [] [] (Cons kind.Name (codes "g") [] Nil (Cons kind.Params [] [] Nil (Cons (kind.Hole sort.Name) [] [] Nil (Cons kind.Block [] [] (Cons kind.Consts [] [] Nil (Cons kind.Types [] [] Nil (Cons kind.Vars [] [] Nil (Cons kind.Routines [] [] Nil (Cons kind.Compound [] [] (Cons kind.Stmts [] [] (Cons kind.Assign [] [] (Cons kind.Ref [] [] (Cons kind.Name (codes "g") [] Nil Nil) (Cons kind.Number (codes "1") [] Nil Nil)) Nil) Nil) Nil))))) Nil)))) Nil)) (Cons kind.Compound [] [] (Cons kind.Stmts [] [] (Cons kind.Empty [] [] Nil Nil) Nil) Nil))))) Nil))) }

pub agreement-errors-r22-undeclared : disagreement tree-errors-r22-undeclared ≡ Agrees
unfolding kids_of digits same largest_number compatible assignable cell_limit is_too_large reached declaration_in declaration lookup find rule decorate own routines_in routines_of outside_of own_entries errors_of heading_marks annotated routine_around attributes_at expression_type opened_at field_of meant_in meant routines_with_key meaning_in shape_at type_in type_at path_text key_text errors_text decls_text uses_text expr_text disagreement
agreement-errors-r22-undeclared = refl

pub errors-r22-undeclared : errors_text tree-errors-r22-undeclared ≡ (codes "/3/4/1/3 not declared: t\n")
unfolding kids_of digits same largest_number compatible assignable cell_limit is_too_large reached declaration_in declaration lookup find rule decorate own routines_in routines_of outside_of own_entries errors_of heading_marks annotated routine_around attributes_at expression_type opened_at field_of meant_in meant routines_with_key meaning_in shape_at type_in type_at path_text key_text errors_text decls_text uses_text expr_text disagreement
errors-r22-undeclared = refl

-- Row 25 comes first in the preorder; the program's own name has no entry.
abbrev pub tree-errors-r25-order : Plain
tree-errors-r25-order = record { kind = kind.Program; word = []; notes = []; kids = (Cons kind.Name (codes "x") [] Nil (Cons kind.Heads [] [] (Cons kind.Name (codes "y") [] Nil Nil) (Cons kind.Block [] [] (Cons kind.Consts [] [] Nil (Cons kind.Types [] [] Nil (Cons kind.Vars [] [] Nil (Cons kind.Routines [] [] Nil (Cons kind.Compound [] [] (Cons kind.Stmts [] [] (Cons kind.Assign [] [] (Cons kind.Ref [] [] (Cons kind.Name (codes "y") [] Nil Nil) (Cons kind.Ref [] [] (Cons kind.Name (codes "x") [] Nil Nil) Nil)) Nil) Nil) Nil))))) Nil))) }

pub agreement-errors-r25-order : disagreement tree-errors-r25-order ≡ Agrees
unfolding kids_of digits same largest_number compatible assignable cell_limit is_too_large reached declaration_in declaration lookup find rule decorate own routines_in routines_of outside_of own_entries errors_of heading_marks annotated routine_around attributes_at expression_type opened_at field_of meant_in meant routines_with_key meaning_in shape_at type_in type_at path_text key_text errors_text decls_text uses_text expr_text disagreement
agreement-errors-r25-order = refl

pub errors-r25-order : errors_text tree-errors-r25-order ≡ (codes "/2/1 program parameter: y\n/3/5/1/1/1/1 not declared: y\n/3/5/1/1/2/1 not declared: x\n")
unfolding kids_of digits same largest_number compatible assignable cell_limit is_too_large reached declaration_in declaration lookup find rule decorate own routines_in routines_of outside_of own_entries errors_of heading_marks annotated routine_around attributes_at expression_type opened_at field_of meant_in meant routines_with_key meaning_in shape_at type_in type_at path_text key_text errors_text decls_text uses_text expr_text disagreement
errors-r25-order = refl
