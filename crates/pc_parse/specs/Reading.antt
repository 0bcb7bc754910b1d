-- What reading is.
use Rattle.std.specs.Prelude.{◌≡◌, true, false, List, []}
use Rattle.pc_syntax.specs.declared.class.Class.{Class}
use Rattle.pc_syntax.specs.declared.class.Class.TheVariants as class
use Rattle.pc_syntax.specs.declared.sort.Sort.{Sort}
use Rattle.pc_syntax.specs.declared.sort.Sort.TheVariants as sort
use Rattle.pc_syntax.specs.Plain.{Forest, Nil, Cons, Plain, count, kinds}
use Rattle.pc_syntax.specs.Layout.{layout}
use Rattle.pc_syntax.specs.Classes.{has}
use Rattle.pc_syntax.specs.Symbols.{Sym, symbols_of}
use Rattle.pc_syntax.specs.WellFormed.{fits_some, breaks_else_rule, IsWellFormed}

-- every node has a word and kids as the grammar allows, keeps the else rule and bears no notes
abbrev pub Good : Forest → Type 0
Good Nil = Unit {0}
Good (Cons k w ns ks ts) = (fits_some (layout k w (count ks)) (kinds ks) ≡ true) × (breaks_else_rule k ks ≡ false) × (ns ≡ []) × Good ks × Good ts

abbrev pub IsGood : Plain → Type 0
IsGood t = Good (Cons t.kind t.word t.notes t.kids Nil)

-- the class of all nodes of a sort
abbrev pub class_of : Sort → Class
class_of sort.Program = class.Program
class_of sort.Block = class.Block
class_of sort.ConstDef = class.Constdef
class_of sort.TypeDef = class.Typedef
class_of sort.VarDef = class.Vardef
class_of sort.Routine = class.Routine
class_of sort.Parameter = class.Parameter
class_of sort.Denoter = class.Denoter
class_of sort.Field = class.Field
class_of sort.Constant = class.Constant
class_of sort.Statement = class.Statement
class_of sort.Arm = class.Arm
class_of sort.Expression = class.Operand
class_of sort.Name = class.Name

-- a tree of the class without notes that has these symbols
pub record ReadsBare (c : Class) (t : Plain) (ys : List Sym) : Type 0 where
  pub member : has c t.kind ≡ true
  pub good : IsGood t
  pub spelled : ys ≡ symbols_of t

-- a well-formed tree of the class that has these symbols
pub record Reads (c : Class) (t : Plain) (ys : List Sym) : Type 0 where
  pub member : has c t.kind ≡ true
  pub formed : IsWellFormed t
  pub spelled : ys ≡ symbols_of t
