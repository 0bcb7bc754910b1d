-- Which kinds may stand at a place.
use Rattle.std.specs.Prelude.{Bool, true, false}
use Rattle.std.specs.Prelude.{◌||◌}
use denote.Enum.Bare.{sameb}
use Rattle.pc_syntax.specs.contracts.sort.Sort.{the_type}
use Rattle.pc_syntax.specs.declared.kind.Kind.{Kind}
use Rattle.pc_syntax.specs.declared.kind.Kind.TheVariants.{Program, Block, Forward, Constdef, Typedef, Vardef, Field, Valparam, Varparam, Procedure, Function, Funbody, Tname, Enum, Subrange, Array, Record, Record0, Setof, Packed, Pointer, Cnumber, Cstring, Cname, Csign, Empty, Assign, Proc, Compound, If, Ifelse, Case, Arm, Repeat, While, For, With, Ref, Index, Select, Deref, Number, Text, Nil, Call, Parens, Not, Setcon, Mul, Add, Sign, Rel, Width, Span, Name, Heads, Args, Params, Names, Labels, Indexes, Exprs, Accesses, Members, Consts, Types, Vars, Routines, Fields, Stmts, Arms, Hole}
use Rattle.pc_syntax.specs.declared.sort.Sort.{Sort}
use Rattle.pc_syntax.specs.declared.sort.Sort.TheVariants as sort
use Rattle.pc_syntax.specs.declared.class.Class.{Class}
use Rattle.pc_syntax.specs.declared.class.Class.TheVariants as class

-- whether two sorts are one
abbrev pub same_sort : Sort → Sort → Bool
same_sort = sameb the_type

-- an access: a variable, a component or what a pointer leads to
abbrev pub is_access : Kind → Bool
is_access Ref = true
is_access Index = true
is_access Select = true
is_access Deref = true
is_access (Hole s) = same_sort s sort.Expression
is_access _ = false

-- a factor
abbrev pub is_factor : Kind → Bool
is_factor Number = true
is_factor Text = true
is_factor Nil = true
is_factor Call = true
is_factor Parens = true
is_factor Not = true
is_factor Setcon = true
is_factor k = is_access k

-- a term
abbrev pub is_term : Kind → Bool
is_term Mul = true
is_term k = is_factor k

-- a simple expression
abbrev pub is_simple : Kind → Bool
is_simple Add = true
is_simple Sign = true
is_simple k = is_term k

-- an expression
abbrev pub is_expression : Kind → Bool
is_expression Rel = true
is_expression k = is_simple k

-- an argument: an expression, or one with a width
abbrev pub is_argument : Kind → Bool
is_argument Width = true
is_argument k = is_expression k

-- a member of a set: an expression, or two with all between
abbrev pub is_member : Kind → Bool
is_member Span = true
is_member k = is_expression k

-- any kind of the sort expression
abbrev pub is_operand : Kind → Bool
is_operand Width = true
is_operand Span = true
is_operand k = is_expression k

-- an ordinal type
abbrev pub is_ordinal : Kind → Bool
is_ordinal Tname = true
is_ordinal Enum = true
is_ordinal Subrange = true
is_ordinal (Hole s) = same_sort s sort.Denoter
is_ordinal _ = false

-- a structured type that is not packed
abbrev pub is_structured : Kind → Bool
is_structured Array = true
is_structured Record = true
is_structured Record0 = true
is_structured Setof = true
is_structured (Hole s) = same_sort s sort.Denoter
is_structured _ = false

-- a type denoter
abbrev pub is_denoter : Kind → Bool
is_denoter Packed = true
is_denoter Pointer = true
is_denoter k = is_ordinal k || is_structured k

-- a constant without a sign that is no text
abbrev pub is_bare : Kind → Bool
is_bare Cnumber = true
is_bare Cname = true
is_bare (Hole s) = same_sort s sort.Constant
is_bare _ = false

-- a constant
abbrev pub is_constant : Kind → Bool
is_constant Cstring = true
is_constant Csign = true
is_constant k = is_bare k

-- the body of a block
abbrev pub is_body : Kind → Bool
is_body Compound = true
is_body (Hole s) = same_sort s sort.Statement
is_body _ = false

-- any kind of the sort program
abbrev pub is_program : Kind → Bool
is_program Program = true
is_program (Hole s) = same_sort s sort.Program
is_program _ = false

-- any kind of the sort block
abbrev pub is_block : Kind → Bool
is_block Block = true
is_block Forward = true
is_block (Hole s) = same_sort s sort.Block
is_block _ = false

-- any kind of the sort constdef
abbrev pub is_constdef : Kind → Bool
is_constdef Constdef = true
is_constdef (Hole s) = same_sort s sort.ConstDef
is_constdef _ = false

-- any kind of the sort typedef
abbrev pub is_typedef : Kind → Bool
is_typedef Typedef = true
is_typedef (Hole s) = same_sort s sort.TypeDef
is_typedef _ = false

-- any kind of the sort vardef
abbrev pub is_vardef : Kind → Bool
is_vardef Vardef = true
is_vardef (Hole s) = same_sort s sort.VarDef
is_vardef _ = false

-- any kind of the sort routine
abbrev pub is_routine : Kind → Bool
is_routine Procedure = true
is_routine Function = true
is_routine Funbody = true
is_routine (Hole s) = same_sort s sort.Routine
is_routine _ = false

-- any kind of the sort parameter
abbrev pub is_parameter : Kind → Bool
is_parameter Valparam = true
is_parameter Varparam = true
is_parameter (Hole s) = same_sort s sort.Parameter
is_parameter _ = false

-- any kind of the sort field
abbrev pub is_field : Kind → Bool
is_field Field = true
is_field (Hole s) = same_sort s sort.Field
is_field _ = false

-- any kind of the sort statement
abbrev pub is_statement : Kind → Bool
is_statement Empty = true
is_statement Assign = true
is_statement Proc = true
is_statement Compound = true
is_statement If = true
is_statement Ifelse = true
is_statement Case = true
is_statement Repeat = true
is_statement While = true
is_statement For = true
is_statement With = true
is_statement (Hole s) = same_sort s sort.Statement
is_statement _ = false

-- any kind of the sort arm
abbrev pub is_arm : Kind → Bool
is_arm Arm = true
is_arm (Hole s) = same_sort s sort.Arm
is_arm _ = false

-- any kind of the sort name
abbrev pub is_name : Kind → Bool
is_name Name = true
is_name (Hole s) = same_sort s sort.Name
is_name _ = false

-- that list kind alone
abbrev pub is_heads : Kind → Bool
is_heads Heads = true
is_heads _ = false

-- that list kind alone
abbrev pub is_args : Kind → Bool
is_args Args = true
is_args _ = false

-- that list kind alone
abbrev pub is_params : Kind → Bool
is_params Params = true
is_params _ = false

-- that list kind alone
abbrev pub is_names : Kind → Bool
is_names Names = true
is_names _ = false

-- that list kind alone
abbrev pub is_labels : Kind → Bool
is_labels Labels = true
is_labels _ = false

-- that list kind alone
abbrev pub is_indexes : Kind → Bool
is_indexes Indexes = true
is_indexes _ = false

-- that list kind alone
abbrev pub is_exprs : Kind → Bool
is_exprs Exprs = true
is_exprs _ = false

-- that list kind alone
abbrev pub is_accesses : Kind → Bool
is_accesses Accesses = true
is_accesses _ = false

-- that list kind alone
abbrev pub is_members : Kind → Bool
is_members Members = true
is_members _ = false

-- that list kind alone
abbrev pub is_consts : Kind → Bool
is_consts Consts = true
is_consts _ = false

-- that list kind alone
abbrev pub is_types : Kind → Bool
is_types Types = true
is_types _ = false

-- that list kind alone
abbrev pub is_vars : Kind → Bool
is_vars Vars = true
is_vars _ = false

-- that list kind alone
abbrev pub is_routines : Kind → Bool
is_routines Routines = true
is_routines _ = false

-- that list kind alone
abbrev pub is_fields : Kind → Bool
is_fields Fields = true
is_fields _ = false

-- that list kind alone
abbrev pub is_stmts : Kind → Bool
is_stmts Stmts = true
is_stmts _ = false

-- that list kind alone
abbrev pub is_arms : Kind → Bool
is_arms Arms = true
is_arms _ = false

-- whether a kind belongs to a class
abbrev pub has : Class → Kind → Bool
has class.Program k = is_program k
has class.Block k = is_block k
has class.Constdef k = is_constdef k
has class.Typedef k = is_typedef k
has class.Vardef k = is_vardef k
has class.Routine k = is_routine k
has class.Parameter k = is_parameter k
has class.Denoter k = is_denoter k
has class.Structured k = is_structured k
has class.Ordinal k = is_ordinal k
has class.Field k = is_field k
has class.Constant k = is_constant k
has class.Bare k = is_bare k
has class.Statement k = is_statement k
has class.Body k = is_body k
has class.Arm k = is_arm k
has class.Argument k = is_argument k
has class.Member k = is_member k
has class.Operand k = is_operand k
has class.Expression k = is_expression k
has class.Simple k = is_simple k
has class.Term k = is_term k
has class.Factor k = is_factor k
has class.Access k = is_access k
has class.Name k = is_name k
has class.Heads k = is_heads k
has class.Args k = is_args k
has class.Params k = is_params k
has class.Names k = is_names k
has class.Labels k = is_labels k
has class.Indexes k = is_indexes k
has class.Exprs k = is_exprs k
has class.Accesses k = is_accesses k
has class.Members k = is_members k
has class.Consts k = is_consts k
has class.Types k = is_types k
has class.Vars k = is_vars k
has class.Routines k = is_routines k
has class.Fields k = is_fields k
has class.Stmts k = is_stmts k
has class.Arms k = is_arms k
