-- The form of a node: what it is, with its parts by their names.
use Rattle.std.specs.Prelude.{ℕ, List, [], get_or}
use Rattle.pc_syntax.specs.declared.kind.Kind.{Kind}
use Rattle.pc_syntax.specs.declared.kind.Kind.TheVariants.{Program, Block, Forward, Constdef, Typedef, Vardef, Field, Valparam, Varparam, Procedure, Function, Funbody, Tname, Enum, Subrange, Array, Record, Record0, Setof, Packed, Pointer, Cnumber, Cstring, Cname, Csign, Empty, Assign, Proc, Compound, If, Ifelse, Case, Arm, Repeat, While, For, With, Ref, Index, Select, Deref, Number, Text, Nil, Call, Parens, Not, Setcon, Mul, Add, Sign, Rel, Width, Span, Name, Heads, Args, Params, Names, Labels, Indexes, Exprs, Accesses, Members, Consts, Types, Vars, Routines, Fields, Stmts, Arms, Hole}
use Rattle.pc_syntax.specs.declared.sort.Sort.TheVariants as sort
use Rattle.pc_syntax.specs.Plain.{Plain, Nil, kids_of}
use Rattle.pc_forms.specs.declared.form.Form.{Form}
use Rattle.pc_forms.specs.declared.form.Form.TheVariants as form
use Rattle.pc_forms.specs.Operators.{is_downto, sign_of, mul_of, add_of, rel_of}

-- the form of a node with this kind, this word and these kids; the last argument stands for a kid that isn't there
abbrev pub form_from : {A : Type 0} → Kind → List ℕ → List A → A → Form A (List A) (List ℕ)
form_from Program w ks d = form.Program (get_or ks 0 d) (get_or ks 1 d) (get_or ks 2 d)
form_from Block w ks d = form.Block (get_or ks 0 d) (get_or ks 1 d) (get_or ks 2 d) (get_or ks 3 d) (get_or ks 4 d)
form_from Forward w ks d = form.Forward w
form_from Constdef w ks d = form.Constdef (get_or ks 0 d) (get_or ks 1 d)
form_from Typedef w ks d = form.Typedef (get_or ks 0 d) (get_or ks 1 d)
form_from Vardef w ks d = form.Vardef (get_or ks 0 d) (get_or ks 1 d)
form_from Field w ks d = form.Field (get_or ks 0 d) (get_or ks 1 d)
form_from Valparam w ks d = form.Valparam (get_or ks 0 d) (get_or ks 1 d)
form_from Varparam w ks d = form.Varparam (get_or ks 0 d) (get_or ks 1 d)
form_from Procedure w ks d = form.Procedure (get_or ks 0 d) (get_or ks 1 d) (get_or ks 2 d)
form_from Function w ks d = form.Function (get_or ks 0 d) (get_or ks 1 d) (get_or ks 2 d) (get_or ks 3 d)
form_from Funbody w ks d = form.Funbody (get_or ks 0 d) (get_or ks 1 d)
form_from Tname w ks d = form.Tname (get_or ks 0 d)
form_from Enum w ks d = form.Enum (get_or ks 0 d)
form_from Subrange w ks d = form.Subrange (get_or ks 0 d) (get_or ks 1 d)
form_from Array w ks d = form.Array (get_or ks 0 d) (get_or ks 1 d)
form_from Record w ks d = form.Record (get_or ks 0 d)
form_from Record0 w ks d = form.Record0
form_from Setof w ks d = form.Setof (get_or ks 0 d)
form_from Packed w ks d = form.Packed (get_or ks 0 d)
form_from Pointer w ks d = form.Pointer (get_or ks 0 d)
form_from Cnumber w ks d = form.Cnumber w
form_from Cstring w ks d = form.Cstring w
form_from Cname w ks d = form.Cname (get_or ks 0 d)
form_from Csign w ks d = form.Csign (sign_of w) (get_or ks 0 d)
form_from Empty w ks d = form.Empty
form_from Assign w ks d = form.Assign (get_or ks 0 d) (get_or ks 1 d)
form_from Proc w ks d = form.Proc (get_or ks 0 d) (get_or ks 1 d)
form_from Compound w ks d = form.Compound (get_or ks 0 d)
form_from If w ks d = form.If (get_or ks 0 d) (get_or ks 1 d)
form_from Ifelse w ks d = form.Ifelse (get_or ks 0 d) (get_or ks 1 d) (get_or ks 2 d)
form_from Case w ks d = form.Case (get_or ks 0 d) (get_or ks 1 d)
form_from Arm w ks d = form.Arm (get_or ks 0 d) (get_or ks 1 d)
form_from Repeat w ks d = form.Repeat (get_or ks 0 d) (get_or ks 1 d)
form_from While w ks d = form.While (get_or ks 0 d) (get_or ks 1 d)
form_from For w ks d = form.For (get_or ks 0 d) (get_or ks 1 d) (is_downto w) (get_or ks 2 d) (get_or ks 3 d)
form_from With w ks d = form.With (get_or ks 0 d) (get_or ks 1 d)
form_from Ref w ks d = form.Ref (get_or ks 0 d)
form_from Index w ks d = form.Index (get_or ks 0 d) (get_or ks 1 d)
form_from Select w ks d = form.Select (get_or ks 0 d) (get_or ks 1 d)
form_from Deref w ks d = form.Deref (get_or ks 0 d)
form_from Number w ks d = form.Number w
form_from Text w ks d = form.Text w
form_from Nil w ks d = form.Nil
form_from Call w ks d = form.Call (get_or ks 0 d) (get_or ks 1 d)
form_from Parens w ks d = form.Parens (get_or ks 0 d)
form_from Not w ks d = form.Not (get_or ks 0 d)
form_from Setcon w ks d = form.Setcon (get_or ks 0 d)
form_from Mul w ks d = form.Mul (get_or ks 0 d) (mul_of w) (get_or ks 1 d)
form_from Add w ks d = form.Add (get_or ks 0 d) (add_of w) (get_or ks 1 d)
form_from Sign w ks d = form.Sign (sign_of w) (get_or ks 0 d)
form_from Rel w ks d = form.Rel (get_or ks 0 d) (rel_of w) (get_or ks 1 d)
form_from Width w ks d = form.Width (get_or ks 0 d) (get_or ks 1 d)
form_from Span w ks d = form.Span (get_or ks 0 d) (get_or ks 1 d)
form_from Name w ks d = form.Name w
form_from Heads w ks d = form.Heads ks
form_from Args w ks d = form.Args ks
form_from Params w ks d = form.Params ks
form_from Names w ks d = form.Names ks
form_from Labels w ks d = form.Labels ks
form_from Indexes w ks d = form.Indexes ks
form_from Exprs w ks d = form.Exprs ks
form_from Accesses w ks d = form.Accesses ks
form_from Members w ks d = form.Members ks
form_from Consts w ks d = form.Consts ks
form_from Types w ks d = form.Types ks
form_from Vars w ks d = form.Vars ks
form_from Routines w ks d = form.Routines ks
form_from Fields w ks d = form.Fields ks
form_from Stmts w ks d = form.Stmts ks
form_from Arms w ks d = form.Arms ks
form_from (Hole s) w ks d = form.Hole s

-- a form of plain trees
abbrev pub PlainForm : Type 0
PlainForm = Form Plain (List Plain) (List ℕ)

-- what stands for a kid that isn't there; a well-formed tree has all of them
abbrev pub nothing : Plain
nothing = record { kind = Hole sort.Program; word = []; notes = []; kids = Nil }

-- the form of a tree
unfoldable pub form_of : Plain → PlainForm
form_of p = form_from p.kind p.word (kids_of p) nothing
