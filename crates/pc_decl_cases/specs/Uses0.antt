-- Programs with the texts of their views.
use Rattle.std.specs.Prelude.{◌≡◌, [], codes}
use Rattle.std.proofs.Common.{refl}
use Rattle.std.specs.Fmt.{digits}
use Rattle.pc_syntax.specs.Plain.{Nil, Cons, Plain, kids_of}
use Rattle.pc_syntax.specs.declared.kind.Kind.TheVariants as kind
use Rattle.pc_types.specs.Sameness.{same}
use Rattle.pc_types.specs.TypeClasses.{largest_number}
use Rattle.pc_types.specs.Compatibility.{compatible, assignable}
use Rattle.pc_types.specs.Sizes.{cell_limit, is_too_large}
use Rattle.pc_types.specs.Domains.{reached}
use Rattle.pc_scope.specs.Lookup.{declaration_in, declaration, lookup}
use Rattle.pc_rules.specs.Meanings.{find}
use Rattle.pc_rules.specs.Decorated.{rule, decorate}
use Rattle.pc_rules.specs.OwnBlock.{own}
use Rattle.pc_rules.specs.RoutineList.{routines_in, routines_of}
use Rattle.pc_rules.specs.Outsides.{outside_of}
use Rattle.pc_rules.specs.Errors.{own_entries, errors_of}
use Rattle.pc_rules.specs.Routines.{heading_marks}
use Rattle.pc_decl.specs.Annotated.{annotated}
use Rattle.pc_decl.specs.Found.{routine_around, attributes_at}
use Rattle.pc_decl.specs.Roles.{expression_type}
use Rattle.pc_decl.specs.Uses.{opened_at}
use Rattle.pc_decl.specs.Records.{field_of}
use Rattle.pc_decl.specs.Meant.{meant_in, meant}
use Rattle.pc_decl.specs.Declared.{routines_with_key, meaning_in}
use Rattle.pc_decl.specs.TypeAt.{shape_at, type_in, type_at}
use Rattle.pc_decl.specs.Shown.{path_text, key_text}
use Rattle.pc_decl.specs.ErrorsText.{errors_text}
use Rattle.pc_decl.specs.DeclsText.{decls_text}
use Rattle.pc_decl.specs.UsesText.{uses_text}
use Rattle.pc_decl.specs.ExprText.{expr_text}
use Rattle.pc_decl_cases.specs.Agreement.{disagreement, Agrees}

-- uses: without regard to case; keys and names in lower case.
abbrev pub tree-uses-case : Plain
tree-uses-case = record { kind = kind.Program; word = []; notes = []; kids = (Cons kind.Name (codes "p") [] Nil (Cons kind.Heads [] [] Nil (Cons kind.Block [] [] (Cons kind.Consts [] [] Nil (Cons kind.Types [] [] Nil (Cons kind.Vars [] [] (Cons kind.Vardef [] [] (Cons kind.Names [] [] (Cons kind.Name (codes "X") [] Nil Nil) (Cons kind.Tname [] [] (Cons kind.Name (codes "integer") [] Nil Nil) Nil)) Nil) (Cons kind.Routines [] [] (Cons kind.Procedure [] [] (Cons kind.Name (codes "Q") [] Nil (Cons kind.Params [] [] Nil (Cons kind.Block [] [] (Cons kind.Consts [] [] Nil (Cons kind.Types [] [] Nil (Cons kind.Vars [] [] Nil (Cons kind.Routines [] [] Nil (Cons kind.Compound [] [] (Cons kind.Stmts [] [] (Cons kind.Assign [] [] (Cons kind.Ref [] [] (Cons kind.Name (codes "x") [] Nil Nil) (Cons kind.Ref [] [] (Cons kind.Name (codes "X") [] Nil Nil) Nil)) Nil) Nil) Nil))))) Nil))) Nil) (Cons kind.Compound [] [] (Cons kind.Stmts [] [] (Cons kind.Proc [] [] (Cons kind.Name (codes "q") [] Nil (Cons kind.Args [] [] Nil Nil)) (Cons kind.Proc [] [] (Cons kind.Name (codes "Q") [] Nil (Cons kind.Args [] [] Nil Nil)) Nil)) Nil) Nil))))) Nil))) }

pub agreement-uses-case : disagreement tree-uses-case ≡ Agrees
unfolding kids_of digits same largest_number compatible assignable cell_limit is_too_large reached declaration_in declaration lookup find rule decorate own routines_in routines_of outside_of own_entries errors_of heading_marks annotated routine_around attributes_at expression_type opened_at field_of meant_in meant routines_with_key meaning_in shape_at type_in type_at path_text key_text errors_text decls_text uses_text expr_text disagreement
agreement-uses-case = refl

pub uses-case : uses_text tree-uses-case ≡ (codes ". x: /3/4/1/3/5/1/1/1/1 /3/4/1/3/5/1/1/2/1\n. q: /3/5/1/1/1 /3/5/1/2/1\n")
unfolding kids_of digits same largest_number compatible assignable cell_limit is_too_large reached declaration_in declaration lookup find rule decorate own routines_in routines_of outside_of own_entries errors_of heading_marks annotated routine_around attributes_at expression_type opened_at field_of meant_in meant routines_with_key meaning_in shape_at type_in type_at path_text key_text errors_text decls_text uses_text expr_text disagreement
uses-case = refl

-- uses: of equal names the first has all the uses; the second has no line.
abbrev pub tree-uses-equal : Plain
tree-uses-equal = record { kind = kind.Program; word = []; notes = []; kids = (Cons kind.Name (codes "p") [] Nil (Cons kind.Heads [] [] Nil (Cons kind.Block [] [] (Cons kind.Consts [] [] Nil (Cons kind.Types [] [] Nil (Cons kind.Vars [] [] (Cons kind.Vardef [] [] (Cons kind.Names [] [] (Cons kind.Name (codes "x") [] Nil Nil) (Cons kind.Tname [] [] (Cons kind.Name (codes "char") [] Nil Nil) Nil)) (Cons kind.Vardef [] [] (Cons kind.Names [] [] (Cons kind.Name (codes "x") [] Nil Nil) (Cons kind.Tname [] [] (Cons kind.Name (codes "integer") [] Nil Nil) Nil)) Nil)) (Cons kind.Routines [] [] Nil (Cons kind.Compound [] [] (Cons kind.Stmts [] [] (Cons kind.Assign [] [] (Cons kind.Ref [] [] (Cons kind.Name (codes "x") [] Nil Nil) (Cons kind.Number (codes "1") [] Nil Nil)) Nil) Nil) Nil))))) Nil))) }

pub agreement-uses-equal : disagreement tree-uses-equal ≡ Agrees
unfolding kids_of digits same largest_number compatible assignable cell_limit is_too_large reached declaration_in declaration lookup find rule decorate own routines_in routines_of outside_of own_entries errors_of heading_marks annotated routine_around attributes_at expression_type opened_at field_of meant_in meant routines_with_key meaning_in shape_at type_in type_at path_text key_text errors_text decls_text uses_text expr_text disagreement
agreement-uses-equal = refl

pub uses-equal : uses_text tree-uses-equal ≡ (codes ". x: /3/5/1/1/1/1\n")
unfolding kids_of digits same largest_number compatible assignable cell_limit is_too_large reached declaration_in declaration lookup find rule decorate own routines_in routines_of outside_of own_entries errors_of heading_marks annotated routine_around attributes_at expression_type opened_at field_of meant_in meant routines_with_key meaning_in shape_at type_in type_at path_text key_text errors_text decls_text uses_text expr_text disagreement
uses-equal = refl

-- uses: names of fields are no declared names, and a name that a with makes a field does not mean the variable.
abbrev pub tree-uses-fields : Plain
tree-uses-fields = record { kind = kind.Program; word = []; notes = []; kids = (Cons kind.Name (codes "p") [] Nil (Cons kind.Heads [] [] Nil (Cons kind.Block [] [] (Cons kind.Consts [] [] Nil (Cons kind.Types [] [] Nil (Cons kind.Vars [] [] (Cons kind.Vardef [] [] (Cons kind.Names [] [] (Cons kind.Name (codes "x") [] Nil Nil) (Cons kind.Tname [] [] (Cons kind.Name (codes "char") [] Nil Nil) Nil)) (Cons kind.Vardef [] [] (Cons kind.Names [] [] (Cons kind.Name (codes "r") [] Nil Nil) (Cons kind.Record [] [] (Cons kind.Fields [] [] (Cons kind.Field [] [] (Cons kind.Names [] [] (Cons kind.Name (codes "x") [] Nil Nil) (Cons kind.Tname [] [] (Cons kind.Name (codes "char") [] Nil Nil) Nil)) Nil) Nil) Nil)) Nil)) (Cons kind.Routines [] [] Nil (Cons kind.Compound [] [] (Cons kind.Stmts [] [] (Cons kind.Assign [] [] (Cons kind.Select [] [] (Cons kind.Ref [] [] (Cons kind.Name (codes "r") [] Nil Nil) (Cons kind.Name (codes "x") [] Nil Nil)) (Cons kind.Ref [] [] (Cons kind.Name (codes "x") [] Nil Nil) Nil)) (Cons kind.With [] [] (Cons kind.Accesses [] [] (Cons kind.Ref [] [] (Cons kind.Name (codes "r") [] Nil Nil) Nil) (Cons kind.Assign [] [] (Cons kind.Ref [] [] (Cons kind.Name (codes "x") [] Nil Nil) (Cons kind.Text (codes "'a'") [] Nil Nil)) Nil)) (Cons kind.Assign [] [] (Cons kind.Ref [] [] (Cons kind.Name (codes "x") [] Nil Nil) (Cons kind.Text (codes "'b'") [] Nil Nil)) Nil))) Nil) Nil))))) Nil))) }

pub agreement-uses-fields : disagreement tree-uses-fields ≡ Agrees
unfolding kids_of digits same largest_number compatible assignable cell_limit is_too_large reached declaration_in declaration lookup find rule decorate own routines_in routines_of outside_of own_entries errors_of heading_marks annotated routine_around attributes_at expression_type opened_at field_of meant_in meant routines_with_key meaning_in shape_at type_in type_at path_text key_text errors_text decls_text uses_text expr_text disagreement
agreement-uses-fields = refl

pub uses-fields : uses_text tree-uses-fields ≡ (codes ". x: /3/5/1/1/2/1 /3/5/1/3/1/1\n. r: /3/5/1/1/1/1/1 /3/5/1/2/1/1/1\n")
unfolding kids_of digits same largest_number compatible assignable cell_limit is_too_large reached declaration_in declaration lookup find rule decorate own routines_in routines_of outside_of own_entries errors_of heading_marks annotated routine_around attributes_at expression_type opened_at field_of meant_in meant routines_with_key meaning_in shape_at type_in type_at path_text key_text errors_text decls_text uses_text expr_text disagreement
uses-fields = refl

-- uses: a for's name, a with's access, a set's member, an index.
abbrev pub tree-uses-for-with : Plain
tree-uses-for-with = record { kind = kind.Program; word = []; notes = []; kids = (Cons kind.Name (codes "p") [] Nil (Cons kind.Heads [] [] Nil (Cons kind.Block [] [] (Cons kind.Consts [] [] Nil (Cons kind.Types [] [] Nil (Cons kind.Vars [] [] (Cons kind.Vardef [] [] (Cons kind.Names [] [] (Cons kind.Name (codes "i") [] Nil Nil) (Cons kind.Tname [] [] (Cons kind.Name (codes "integer") [] Nil Nil) Nil)) (Cons kind.Vardef [] [] (Cons kind.Names [] [] (Cons kind.Name (codes "r") [] Nil Nil) (Cons kind.Record [] [] (Cons kind.Fields [] [] (Cons kind.Field [] [] (Cons kind.Names [] [] (Cons kind.Name (codes "a") [] Nil Nil) (Cons kind.Array [] [] (Cons kind.Indexes [] [] (Cons kind.Subrange [] [] (Cons kind.Cnumber (codes "1") [] Nil (Cons kind.Cnumber (codes "3") [] Nil Nil)) Nil) (Cons kind.Setof [] [] (Cons kind.Subrange [] [] (Cons kind.Cnumber (codes "1") [] Nil (Cons kind.Cnumber (codes "3") [] Nil Nil)) Nil) Nil)) Nil)) Nil) Nil) Nil)) Nil)) (Cons kind.Routines [] [] Nil (Cons kind.Compound [] [] (Cons kind.Stmts [] [] (Cons kind.For (codes "to") [] (Cons kind.Name (codes "i") [] Nil (Cons kind.Ref [] [] (Cons kind.Name (codes "i") [] Nil Nil) (Cons kind.Number (codes "3") [] Nil (Cons kind.With [] [] (Cons kind.Accesses [] [] (Cons kind.Ref [] [] (Cons kind.Name (codes "r") [] Nil Nil) Nil) (Cons kind.Assign [] [] (Cons kind.Index [] [] (Cons kind.Ref [] [] (Cons kind.Name (codes "a") [] Nil Nil) (Cons kind.Exprs [] [] (Cons kind.Ref [] [] (Cons kind.Name (codes "i") [] Nil Nil) Nil) Nil)) (Cons kind.Setcon [] [] (Cons kind.Members [] [] (Cons kind.Span [] [] (Cons kind.Ref [] [] (Cons kind.Name (codes "i") [] Nil Nil) (Cons kind.Number (codes "3") [] Nil Nil)) Nil) Nil) Nil)) Nil)) Nil)))) Nil) Nil) Nil))))) Nil))) }

pub agreement-uses-for-with : disagreement tree-uses-for-with ≡ Agrees
unfolding kids_of digits same largest_number compatible assignable cell_limit is_too_large reached declaration_in declaration lookup find rule decorate own routines_in routines_of outside_of own_entries errors_of heading_marks annotated routine_around attributes_at expression_type opened_at field_of meant_in meant routines_with_key meaning_in shape_at type_in type_at path_text key_text errors_text decls_text uses_text expr_text disagreement
agreement-uses-for-with = refl

pub uses-for-with : uses_text tree-uses-for-with ≡ (codes ". i: /3/5/1/1/1 /3/5/1/1/2/1 /3/5/1/1/4/2/1/2/1/1 /3/5/1/1/4/2/2/1/1/1/1\n. r: /3/5/1/1/4/1/1/1\n")
unfolding kids_of digits same largest_number compatible assignable cell_limit is_too_large reached declaration_in declaration lookup find rule decorate own routines_in routines_of outside_of own_entries errors_of heading_marks annotated routine_around attributes_at expression_type opened_at field_of meant_in meant routines_with_key meaning_in shape_at type_in type_at path_text key_text errors_text decls_text uses_text expr_text disagreement
uses-for-with = refl

-- uses: the name of the later declaration is no use; parameters are used in its block; the type names it repeats are uses.
abbrev pub tree-uses-forward : Plain
tree-uses-forward = record { kind = kind.Program; word = []; notes = []; kids = (Cons kind.Name (codes "p") [] Nil (Cons kind.Heads [] [] Nil (Cons kind.Block [] [] (Cons kind.Consts [] [] Nil (Cons kind.Types [] [] (Cons kind.Typedef [] [] (Cons kind.Name (codes "t") [] Nil (Cons kind.Tname [] [] (Cons kind.Name (codes "char") [] Nil Nil) Nil)) Nil) (Cons kind.Vars [] [] Nil (Cons kind.Routines [] [] (Cons kind.Function [] [] (Cons kind.Name (codes "f") [] Nil (Cons kind.Params [] [] (Cons kind.Valparam [] [] (Cons kind.Names [] [] (Cons kind.Name (codes "a") [] Nil Nil) (Cons kind.Name (codes "t") [] Nil Nil)) Nil) (Cons kind.Name (codes "t") [] Nil (Cons kind.Forward (codes "forward") [] Nil Nil)))) (Cons kind.Function [] [] (Cons kind.Name (codes "f") [] Nil (Cons kind.Params [] [] (Cons kind.Valparam [] [] (Cons kind.Names [] [] (Cons kind.Name (codes "b") [] Nil Nil) (Cons kind.Name (codes "t") [] Nil Nil)) Nil) (Cons kind.Name (codes "t") [] Nil (Cons kind.Block [] [] (Cons kind.Consts [] [] Nil (Cons kind.Types [] [] Nil (Cons kind.Vars [] [] Nil (Cons kind.Routines [] [] Nil (Cons kind.Compound [] [] (Cons kind.Stmts [] [] (Cons kind.Assign [] [] (Cons kind.Ref [] [] (Cons kind.Name (codes "f") [] Nil Nil) (Cons kind.Ref [] [] (Cons kind.Name (codes "a") [] Nil Nil) Nil)) Nil) Nil) Nil))))) Nil)))) Nil)) (Cons kind.Compound [] [] (Cons kind.Stmts [] [] (Cons kind.Proc [] [] (Cons kind.Name (codes "write") [] Nil (Cons kind.Args [] [] (Cons kind.Call [] [] (Cons kind.Name (codes "f") [] Nil (Cons kind.Exprs [] [] (Cons kind.Text (codes "'x'") [] Nil Nil) Nil)) Nil) Nil)) Nil) Nil) Nil))))) Nil))) }

pub agreement-uses-forward : disagreement tree-uses-forward ≡ Agrees
unfolding kids_of digits same largest_number compatible assignable cell_limit is_too_large reached declaration_in declaration lookup find rule decorate own routines_in routines_of outside_of own_entries errors_of heading_marks annotated routine_around attributes_at expression_type opened_at field_of meant_in meant routines_with_key meaning_in shape_at type_in type_at path_text key_text errors_text decls_text uses_text expr_text disagreement
agreement-uses-forward = refl

pub uses-forward : uses_text tree-uses-forward ≡ (codes ". t: /3/4/1/2/1/2 /3/4/1/3 /3/4/2/2/1/2 /3/4/2/3\n. f: /3/4/2/4/5/1/1/1/1 /3/5/1/1/2/1/1\n.f a: /3/4/2/4/5/1/1/2/1\n")
unfolding kids_of digits same largest_number compatible assignable cell_limit is_too_large reached declaration_in declaration lookup find rule decorate own routines_in routines_of outside_of own_entries errors_of heading_marks annotated routine_around attributes_at expression_type opened_at field_of meant_in meant routines_with_key meaning_in shape_at type_in type_at path_text key_text errors_text decls_text uses_text expr_text disagreement
uses-forward = refl

-- uses: the names in the program's heads are no uses, nor is the program's own name.
abbrev pub tree-uses-heads : Plain
tree-uses-heads = record { kind = kind.Program; word = []; notes = []; kids = (Cons kind.Name (codes "x") [] Nil (Cons kind.Heads [] [] (Cons kind.Name (codes "x") [] Nil (Cons kind.Name (codes "output") [] Nil Nil)) (Cons kind.Block [] [] (Cons kind.Consts [] [] Nil (Cons kind.Types [] [] Nil (Cons kind.Vars [] [] (Cons kind.Vardef [] [] (Cons kind.Names [] [] (Cons kind.Name (codes "x") [] Nil (Cons kind.Name (codes "output") [] Nil Nil)) (Cons kind.Tname [] [] (Cons kind.Name (codes "integer") [] Nil Nil) Nil)) Nil) (Cons kind.Routines [] [] Nil (Cons kind.Compound [] [] (Cons kind.Stmts [] [] (Cons kind.Assign [] [] (Cons kind.Ref [] [] (Cons kind.Name (codes "x") [] Nil Nil) (Cons kind.Ref [] [] (Cons kind.Name (codes "output") [] Nil Nil) Nil)) Nil) Nil) Nil))))) Nil))) }

pub agreement-uses-heads : disagreement tree-uses-heads ≡ Agrees
unfolding kids_of digits same largest_number compatible assignable cell_limit is_too_large reached declaration_in declaration lookup find rule decorate own routines_in routines_of outside_of own_entries errors_of heading_marks annotated routine_around attributes_at expression_type opened_at field_of meant_in meant routines_with_key meaning_in shape_at type_in type_at path_text key_text errors_text decls_text uses_text expr_text disagreement
agreement-uses-heads = refl

pub uses-heads : uses_text tree-uses-heads ≡ (codes ". x: /3/5/1/1/1/1\n. output: /3/5/1/1/2/1\n")
unfolding kids_of digits same largest_number compatible assignable cell_limit is_too_large reached declaration_in declaration lookup find rule decorate own routines_in routines_of outside_of own_entries errors_of heading_marks annotated routine_around attributes_at expression_type opened_at field_of meant_in meant routines_with_key meaning_in shape_at type_in type_at path_text key_text errors_text decls_text uses_text expr_text disagreement
uses-heads = refl
