-- What a kind can stand for.
use Rattle.std.specs.Prelude.{Bool, true, false, Option, Some, None}
use Rattle.pc_syntax.specs.declared.kind.Kind.{Kind}
use Rattle.pc_syntax.specs.declared.kind.Kind.TheVariants.{Program, Block, Forward, Constdef, Typedef, Vardef, Field, Valparam, Varparam, Procedure, Function, Funbody, Tname, Enum, Subrange, Array, Record, Record0, Setof, Packed, Pointer, Cnumber, Cstring, Cname, Csign, Empty, Assign, Proc, Compound, If, Ifelse, Case, Arm, Repeat, While, For, With, Ref, Index, Select, Deref, Number, Text, Nil, Call, Parens, Not, Setcon, Mul, Add, Sign, Rel, Width, Span, Name, Consts, Types, Vars, Hole}
use Rattle.pc_syntax.specs.declared.sort.Sort.{Sort}
use Rattle.pc_syntax.specs.declared.sort.Sort.TheVariants as sort

-- the sort of a kind; a list has none
abbrev pub sort_of : Kind → Option Sort
sort_of Program = Some sort.Program
sort_of Block = Some sort.Block
sort_of Forward = Some sort.Block
sort_of Constdef = Some sort.ConstDef
sort_of Typedef = Some sort.TypeDef
sort_of Vardef = Some sort.VarDef
sort_of Field = Some sort.Field
sort_of Valparam = Some sort.Parameter
sort_of Varparam = Some sort.Parameter
sort_of Procedure = Some sort.Routine
sort_of Function = Some sort.Routine
sort_of Funbody = Some sort.Routine
sort_of Tname = Some sort.Denoter
sort_of Enum = Some sort.Denoter
sort_of Subrange = Some sort.Denoter
sort_of Array = Some sort.Denoter
sort_of Record = Some sort.Denoter
sort_of Record0 = Some sort.Denoter
sort_of Setof = Some sort.Denoter
sort_of Packed = Some sort.Denoter
sort_of Pointer = Some sort.Denoter
sort_of Cnumber = Some sort.Constant
sort_of Cstring = Some sort.Constant
sort_of Cname = Some sort.Constant
sort_of Csign = Some sort.Constant
sort_of Empty = Some sort.Statement
sort_of Assign = Some sort.Statement
sort_of Proc = Some sort.Statement
sort_of Compound = Some sort.Statement
sort_of If = Some sort.Statement
sort_of Ifelse = Some sort.Statement
sort_of Case = Some sort.Statement
sort_of Arm = Some sort.Arm
sort_of Repeat = Some sort.Statement
sort_of While = Some sort.Statement
sort_of For = Some sort.Statement
sort_of With = Some sort.Statement
sort_of Ref = Some sort.Expression
sort_of Index = Some sort.Expression
sort_of Select = Some sort.Expression
sort_of Deref = Some sort.Expression
sort_of Number = Some sort.Expression
sort_of Text = Some sort.Expression
sort_of Nil = Some sort.Expression
sort_of Call = Some sort.Expression
sort_of Parens = Some sort.Expression
sort_of Not = Some sort.Expression
sort_of Setcon = Some sort.Expression
sort_of Mul = Some sort.Expression
sort_of Add = Some sort.Expression
sort_of Sign = Some sort.Expression
sort_of Rel = Some sort.Expression
sort_of Width = Some sort.Expression
sort_of Span = Some sort.Expression
sort_of Name = Some sort.Name
sort_of (Hole s) = Some s
sort_of _ = None

-- whether it is still to be written
abbrev pub is_hole : Kind → Bool
is_hole (Hole s) = true
is_hole _ = false

-- whether its sort is that one of those which may bear notes
abbrev pub is_noted_sort : Sort → Bool
is_noted_sort sort.Program = true
is_noted_sort sort.ConstDef = true
is_noted_sort sort.TypeDef = true
is_noted_sort sort.VarDef = true
is_noted_sort sort.Routine = true
is_noted_sort sort.Field = true
is_noted_sort sort.Statement = true
is_noted_sort sort.Arm = true
is_noted_sort _ = false

-- whether a node of this kind may bear notes, of a list where it has elements: the comments directly before its first symbol
abbrev pub bears_notes : Kind → Bool
bears_notes Program = true
bears_notes Consts = true
bears_notes Types = true
bears_notes Vars = true
bears_notes Constdef = true
bears_notes Typedef = true
bears_notes Vardef = true
bears_notes Field = true
bears_notes Procedure = true
bears_notes Function = true
bears_notes Funbody = true
bears_notes Arm = true
bears_notes Assign = true
bears_notes Proc = true
bears_notes Compound = true
bears_notes If = true
bears_notes Ifelse = true
bears_notes Case = true
bears_notes Repeat = true
bears_notes While = true
bears_notes For = true
bears_notes With = true
bears_notes (Hole s) = is_noted_sort s
bears_notes _ = false
