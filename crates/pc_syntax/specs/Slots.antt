-- The kids that a kind has.
use Rattle.std.specs.Prelude.{ℕ, ◌-◌, ◌==◌, Bool, true, false, List, [], ◌∷◌, Option, None, length, slice_get, if◌then◌else◌}
use Rattle.pc_syntax.specs.declared.kind.Kind.{Kind}
use Rattle.pc_syntax.specs.declared.kind.Kind.TheVariants.{Program, Block, Constdef, Typedef, Vardef, Field, Valparam, Varparam, Procedure, Function, Funbody, Tname, Enum, Subrange, Array, Record, Setof, Packed, Pointer, Cname, Csign, Assign, Proc, Compound, If, Ifelse, Case, Arm, Repeat, While, For, With, Ref, Index, Select, Deref, Call, Parens, Not, Setcon, Mul, Add, Sign, Rel, Width, Span, Heads, Args, Params, Names, Labels, Indexes, Exprs, Accesses, Members, Consts, Types, Vars, Routines, Fields, Stmts, Arms}
use Rattle.pc_syntax.specs.declared.class.Class.{Class}
use Rattle.pc_syntax.specs.declared.class.Class.TheVariants as class

-- whether it is a list of any number of kids
abbrev pub is_list : Kind → Bool
is_list Heads = true
is_list Args = true
is_list Params = true
is_list Names = true
is_list Labels = true
is_list Indexes = true
is_list Exprs = true
is_list Accesses = true
is_list Members = true
is_list Consts = true
is_list Types = true
is_list Vars = true
is_list Routines = true
is_list Fields = true
is_list Stmts = true
is_list Arms = true
is_list _ = false

-- how many elements a list has at least
abbrev pub least_of : Kind → ℕ
least_of Names = 1
least_of Labels = 1
least_of Indexes = 1
least_of Exprs = 1
least_of Accesses = 1
least_of Fields = 1
least_of Stmts = 1
least_of Arms = 1
least_of _ = 0

-- the classes of the kids in order; of a list that of its elements
abbrev pub places_of : Kind → List Class
places_of Program = class.Name ∷ class.Heads ∷ class.Block ∷ []
places_of Block = class.Consts ∷ class.Types ∷ class.Vars ∷ class.Routines ∷ class.Body ∷ []
places_of Constdef = class.Name ∷ class.Constant ∷ []
places_of Typedef = class.Name ∷ class.Denoter ∷ []
places_of Vardef = class.Names ∷ class.Denoter ∷ []
places_of Field = class.Names ∷ class.Denoter ∷ []
places_of Valparam = class.Names ∷ class.Name ∷ []
places_of Varparam = class.Names ∷ class.Name ∷ []
places_of Procedure = class.Name ∷ class.Params ∷ class.Block ∷ []
places_of Function = class.Name ∷ class.Params ∷ class.Name ∷ class.Block ∷ []
places_of Funbody = class.Name ∷ class.Block ∷ []
places_of Tname = class.Name ∷ []
places_of Enum = class.Names ∷ []
places_of Subrange = class.Constant ∷ class.Constant ∷ []
places_of Array = class.Indexes ∷ class.Denoter ∷ []
places_of Record = class.Fields ∷ []
places_of Setof = class.Ordinal ∷ []
places_of Packed = class.Structured ∷ []
places_of Pointer = class.Name ∷ []
places_of Cname = class.Name ∷ []
places_of Csign = class.Bare ∷ []
places_of Assign = class.Access ∷ class.Expression ∷ []
places_of Proc = class.Name ∷ class.Args ∷ []
places_of Compound = class.Stmts ∷ []
places_of If = class.Expression ∷ class.Statement ∷ []
places_of Ifelse = class.Expression ∷ class.Statement ∷ class.Statement ∷ []
places_of Case = class.Expression ∷ class.Arms ∷ []
places_of Arm = class.Labels ∷ class.Statement ∷ []
places_of Repeat = class.Stmts ∷ class.Expression ∷ []
places_of While = class.Expression ∷ class.Statement ∷ []
places_of For = class.Name ∷ class.Expression ∷ class.Expression ∷ class.Statement ∷ []
places_of With = class.Accesses ∷ class.Statement ∷ []
places_of Ref = class.Name ∷ []
places_of Index = class.Access ∷ class.Exprs ∷ []
places_of Select = class.Access ∷ class.Name ∷ []
places_of Deref = class.Access ∷ []
places_of Call = class.Name ∷ class.Exprs ∷ []
places_of Parens = class.Expression ∷ []
places_of Not = class.Factor ∷ []
places_of Setcon = class.Members ∷ []
places_of Mul = class.Term ∷ class.Factor ∷ []
places_of Add = class.Simple ∷ class.Term ∷ []
places_of Sign = class.Term ∷ []
places_of Rel = class.Simple ∷ class.Simple ∷ []
places_of Width = class.Expression ∷ class.Expression ∷ []
places_of Span = class.Expression ∷ class.Expression ∷ []
places_of Heads = class.Name ∷ []
places_of Args = class.Argument ∷ []
places_of Params = class.Parameter ∷ []
places_of Names = class.Name ∷ []
places_of Labels = class.Constant ∷ []
places_of Indexes = class.Ordinal ∷ []
places_of Exprs = class.Expression ∷ []
places_of Accesses = class.Access ∷ []
places_of Members = class.Member ∷ []
places_of Consts = class.Constdef ∷ []
places_of Types = class.Typedef ∷ []
places_of Vars = class.Vardef ∷ []
places_of Routines = class.Routine ∷ []
places_of Fields = class.Field ∷ []
places_of Stmts = class.Statement ∷ []
places_of Arms = class.Arm ∷ []
places_of _ = []

-- the number of kids, of a list the least one
abbrev pub count_of : Kind → ℕ
count_of k = if is_list k then least_of k else length (places_of k)

-- the class of the kid with a number from 0
abbrev pub class_from : Kind → ℕ → Option Class
class_from k i = slice_get (places_of k) (if is_list k then 0 else i)

-- the class of the kid with a number from 1
abbrev pub class_at : Kind → ℕ → Option Class
class_at k i = if i == 0 then None else class_from k (i - 1)
