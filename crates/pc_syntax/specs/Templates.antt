-- Templates: names of nodes at whose places nothing is written yet.
use Rattle.std.specs.Prelude.{ℕ, if◌then◌else◌, List, [], ◌∷◌, Option, Some, None, option_map, codes}
use Rattle.std.specs.Str.{bytes_eq}
use Rattle.pc_syntax.specs.declared.kind.Kind.{Kind}
use Rattle.pc_syntax.specs.declared.kind.Kind.TheVariants.{Program, Block, Forward, Constdef, Typedef, Vardef, Field, Valparam, Varparam, Procedure, Function, Funbody, Tname, Enum, Subrange, Array, Record, Record0, Setof, Packed, Pointer, Cnumber, Cstring, Cname, Csign, Empty, Assign, Proc, Compound, If, Ifelse, Case, Arm, Repeat, While, For, With, Ref, Index, Select, Deref, Number, Text, Nil, Call, Parens, Not, Setcon, Mul, Add, Sign, Rel, Width, Span, Name, Heads, Args, Params, Names, Labels, Indexes, Exprs, Accesses, Members, Consts, Types, Vars, Routines, Fields, Stmts, Arms, Hole}
use Rattle.pc_syntax.specs.declared.sort.Sort.TheVariants as sort
use Rattle.pc_syntax.specs.Plain.{Plain}
use Rattle.pc_syntax.specs.Spellings.{sort_name}
use Rattle.pc_syntax.specs.Fits.{word_fits}
use Rattle.pc_syntax.specs.Blanks.{fresh}

-- the name of a kind; that of a hole is as it is written
abbrev pub kind_name : Kind → List ℕ
kind_name Program = codes "program"
kind_name Block = codes "block"
kind_name Forward = codes "forward"
kind_name Constdef = codes "constdef"
kind_name Typedef = codes "typedef"
kind_name Vardef = codes "vardef"
kind_name Field = codes "field"
kind_name Valparam = codes "valparam"
kind_name Varparam = codes "varparam"
kind_name Procedure = codes "procedure"
kind_name Function = codes "function"
kind_name Funbody = codes "funbody"
kind_name Tname = codes "tname"
kind_name Enum = codes "enum"
kind_name Subrange = codes "subrange"
kind_name Array = codes "array"
kind_name Record = codes "record"
kind_name Record0 = codes "record0"
kind_name Setof = codes "setof"
kind_name Packed = codes "packed"
kind_name Pointer = codes "pointer"
kind_name Cnumber = codes "cnumber"
kind_name Cstring = codes "cstring"
kind_name Cname = codes "cname"
kind_name Csign = codes "csign"
kind_name Empty = codes "empty"
kind_name Assign = codes "assign"
kind_name Proc = codes "proc"
kind_name Compound = codes "compound"
kind_name If = codes "if"
kind_name Ifelse = codes "ifelse"
kind_name Case = codes "case"
kind_name Arm = codes "arm"
kind_name Repeat = codes "repeat"
kind_name While = codes "while"
kind_name For = codes "for"
kind_name With = codes "with"
kind_name Ref = codes "ref"
kind_name Index = codes "index"
kind_name Select = codes "select"
kind_name Deref = codes "deref"
kind_name Number = codes "number"
kind_name Text = codes "text"
kind_name Nil = codes "nil"
kind_name Call = codes "call"
kind_name Parens = codes "parens"
kind_name Not = codes "not"
kind_name Setcon = codes "setcon"
kind_name Mul = codes "mul"
kind_name Add = codes "add"
kind_name Sign = codes "sign"
kind_name Rel = codes "rel"
kind_name Width = codes "width"
kind_name Span = codes "span"
kind_name Name = codes "name"
kind_name Heads = codes "heads"
kind_name Args = codes "args"
kind_name Params = codes "params"
kind_name Names = codes "names"
kind_name Labels = codes "labels"
kind_name Indexes = codes "indexes"
kind_name Exprs = codes "exprs"
kind_name Accesses = codes "accesses"
kind_name Members = codes "members"
kind_name Consts = codes "consts"
kind_name Types = codes "types"
kind_name Vars = codes "vars"
kind_name Routines = codes "routines"
kind_name Fields = codes "fields"
kind_name Stmts = codes "stmts"
kind_name Arms = codes "arms"
kind_name (Hole s) = 63 ∷ sort_name s

-- the kinds whose name is that of a template
abbrev pub named_kinds : List Kind
named_kinds =
    Hole sort.Program ∷ Hole sort.Block ∷ Hole sort.ConstDef ∷ Hole sort.TypeDef ∷ Hole sort.VarDef ∷ Hole sort.Routine ∷ Hole sort.Parameter ∷ Hole sort.Denoter ∷ Hole sort.Field ∷ Hole sort.Constant ∷ Hole sort.Statement ∷ Hole sort.Arm ∷ Hole sort.Expression ∷ Hole sort.Name
    ∷ Program ∷ Block ∷ Constdef ∷ Typedef ∷ Vardef ∷ Procedure ∷ Function ∷ Funbody ∷ Forward ∷ Valparam ∷ Varparam ∷ Field ∷ Tname ∷ Enum ∷ Subrange ∷ Array ∷ Record ∷ Record0 ∷ Setof ∷ Packed ∷ Pointer ∷ Empty ∷ Assign ∷ Proc ∷ Compound ∷ If ∷ Ifelse ∷ Case ∷ Arm ∷ Repeat ∷ While ∷ For ∷ With ∷ Ref ∷ Index ∷ Select ∷ Deref ∷ Nil ∷ Call ∷ Parens ∷ Not ∷ Setcon ∷ Width ∷ Span
    ∷ []

-- the first of these kinds that has this name
abbrev pub kind_among : List Kind → List ℕ → Option Kind
kind_among [] name = None
kind_among (k ∷ ks) name = if bytes_eq (kind_name k) name then Some k else kind_among ks name

-- the kind of a template with another name: the word of a loop, a sign, or an operator
abbrev pub worded_kind : List ℕ → Option Kind
worded_kind name =
    if bytes_eq (codes "downto") name then Some For
    else if bytes_eq (codes "neg") name then Some Sign
    else if bytes_eq (codes "pos") name then Some Sign
    else if word_fits Mul name then Some Mul
    else if word_fits Add name then Some Add
    else if word_fits Rel name then Some Rel
    else None

abbrev pub or_worded : Option Kind → List ℕ → Option Kind
or_worded None name = worded_kind name
or_worded (Some k) name = Some k

-- the kind of the template with this name
unfoldable pub template_kind : List ℕ → Option Kind
template_kind name = or_worded (kind_among named_kinds name) name

-- the word of its node
unfoldable pub template_word : Kind → List ℕ → List ℕ
template_word Forward name = name
template_word For name = if bytes_eq (codes "downto") name then name else codes "to"
template_word Sign name = if bytes_eq (codes "neg") name then codes "-" else codes "+"
template_word Mul name = name
template_word Add name = name
template_word Rel name = name
template_word _ name = []

-- the template with this name, if there is one
unfoldable pub template_of : List ℕ → Option Plain
template_of name = option_map (λ k. fresh k (template_word k name)) (template_kind name)
