-- The kind that a form has.
use Rattle.pc_syntax.specs.declared.kind.Kind.{Kind}
use Rattle.pc_syntax.specs.declared.kind.Kind.TheVariants.{Program, Block, Forward, Constdef, Typedef, Vardef, Field, Valparam, Varparam, Procedure, Function, Funbody, Tname, Enum, Subrange, Array, Record, Record0, Setof, Packed, Pointer, Cnumber, Cstring, Cname, Csign, Empty, Assign, Proc, Compound, If, Ifelse, Case, Arm, Repeat, While, For, With, Ref, Index, Select, Deref, Number, Text, Nil, Call, Parens, Not, Setcon, Mul, Add, Sign, Rel, Width, Span, Name, Heads, Args, Params, Names, Labels, Indexes, Exprs, Accesses, Members, Consts, Types, Vars, Routines, Fields, Stmts, Arms, Hole}
use Rattle.pc_forms.specs.declared.form.Form.{Form}
use Rattle.pc_forms.specs.declared.form.Form.TheVariants as form

-- the kind of a node with this form
abbrev pub kind_in : {A L W : Type 0} → Form A L W → Kind
kind_in (form.Program name heads block) = Program
kind_in (form.Block consts types vars routines body) = Block
kind_in (form.Forward word) = Forward
kind_in (form.Constdef name value) = Constdef
kind_in (form.Typedef name denoter) = Typedef
kind_in (form.Vardef names denoter) = Vardef
kind_in (form.Field names denoter) = Field
kind_in (form.Valparam names type_name) = Valparam
kind_in (form.Varparam names type_name) = Varparam
kind_in (form.Procedure name params block) = Procedure
kind_in (form.Function name params result_type block) = Function
kind_in (form.Funbody name block) = Funbody
kind_in (form.Tname name) = Tname
kind_in (form.Enum names) = Enum
kind_in (form.Subrange low high) = Subrange
kind_in (form.Array indexes element) = Array
kind_in (form.Record fields) = Record
kind_in form.Record0 = Record0
kind_in (form.Setof base) = Setof
kind_in (form.Packed unpacked) = Packed
kind_in (form.Pointer name) = Pointer
kind_in (form.Cnumber word) = Cnumber
kind_in (form.Cstring word) = Cstring
kind_in (form.Cname name) = Cname
kind_in (form.Csign sign constant) = Csign
kind_in form.Empty = Empty
kind_in (form.Assign target value) = Assign
kind_in (form.Proc name args) = Proc
kind_in (form.Compound stmts) = Compound
kind_in (form.If condition body) = If
kind_in (form.Ifelse condition body otherwise) = Ifelse
kind_in (form.Case selector arms) = Case
kind_in (form.Arm labels body) = Arm
kind_in (form.Repeat stmts condition) = Repeat
kind_in (form.While condition body) = While
kind_in (form.For control first downwards last body) = For
kind_in (form.With records body) = With
kind_in (form.Ref name) = Ref
kind_in (form.Index array indexes) = Index
kind_in (form.Select whole field) = Select
kind_in (form.Deref pointer) = Deref
kind_in (form.Number word) = Number
kind_in (form.Text word) = Text
kind_in form.Nil = Nil
kind_in (form.Call name args) = Call
kind_in (form.Parens inner) = Parens
kind_in (form.Not operand) = Not
kind_in (form.Setcon members) = Setcon
kind_in (form.Mul left operator right) = Mul
kind_in (form.Add left operator right) = Add
kind_in (form.Sign sign operand) = Sign
kind_in (form.Rel left operator right) = Rel
kind_in (form.Width value width) = Width
kind_in (form.Span low high) = Span
kind_in (form.Name word) = Name
kind_in (form.Heads ks) = Heads
kind_in (form.Args ks) = Args
kind_in (form.Params ks) = Params
kind_in (form.Names ks) = Names
kind_in (form.Labels ks) = Labels
kind_in (form.Indexes ks) = Indexes
kind_in (form.Exprs ks) = Exprs
kind_in (form.Accesses ks) = Accesses
kind_in (form.Members ks) = Members
kind_in (form.Consts ks) = Consts
kind_in (form.Types ks) = Types
kind_in (form.Vars ks) = Vars
kind_in (form.Routines ks) = Routines
kind_in (form.Fields ks) = Fields
kind_in (form.Stmts ks) = Stmts
kind_in (form.Arms ks) = Arms
kind_in (form.Hole s) = Hole s
