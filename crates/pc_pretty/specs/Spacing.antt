-- How a program is printed: which space stands before each item of a node.
use Rattle.std.specs.Prelude.{ℕ, zero, suc, ◌+◌, ◌==◌, List, [], ◌∷◌, Option, Some, None, slice_get, if◌then◌else◌}
use Rattle.pc_syntax.specs.declared.kind.Kind.{Kind}
use Rattle.pc_syntax.specs.declared.kind.Kind.TheVariants as kind
use Rattle.pc_syntax.specs.declared.lexeme.Lexeme.TheVariants as lexeme
use Rattle.pc_syntax.specs.declared.item.Item.{Item}
use Rattle.pc_syntax.specs.declared.item.Item.TheVariants.{Literal, Word, Kid}
use Rattle.pc_pretty.specs.declared.spacing.Spacing.{Spacing}
use Rattle.pc_pretty.specs.declared.spacing.Spacing.TheVariants.{Tight, Space, Line, Deeper}

-- so many spaces
abbrev pub spaces : ℕ → List ℕ
spaces zero = []
spaces (suc n) = 32 ∷ spaces n

-- the bytes of a space at an indentation: nothing, a space, or a new line at it or two deeper
abbrev pub gap : Spacing → ℕ → List ℕ
gap Tight n = []
gap Space n = 32 ∷ []
gap Line n = 10 ∷ spaces n
gap Deeper n = 10 ∷ spaces (n + 2)

-- the indentation of the line on which stands what comes after the space
abbrev pub indentation : Spacing → ℕ → ℕ
indentation Deeper n = n + 2
indentation s n = n

-- the spaces before the items of a node in order; that of the first comes from the node around it
unfoldable pub spacings : Kind → List Spacing
spacings kind.Program = Tight ∷ Space ∷ Tight ∷ Tight ∷ Line ∷ Tight ∷ []
spacings kind.Block = Line ∷ Line ∷ Line ∷ Line ∷ Line ∷ []
spacings kind.Constdef = Tight ∷ Space ∷ Space ∷ Tight ∷ []
spacings kind.Typedef = Tight ∷ Space ∷ Space ∷ Tight ∷ []
spacings kind.Vardef = Tight ∷ Tight ∷ Space ∷ Tight ∷ []
spacings kind.Field = Tight ∷ Tight ∷ Space ∷ []
spacings kind.Valparam = Tight ∷ Tight ∷ Space ∷ []
spacings kind.Varparam = Tight ∷ Space ∷ Tight ∷ Space ∷ []
spacings kind.Procedure = Tight ∷ Space ∷ Tight ∷ Tight ∷ Deeper ∷ Tight ∷ []
spacings kind.Function = Tight ∷ Space ∷ Tight ∷ Tight ∷ Space ∷ Tight ∷ Deeper ∷ Tight ∷ []
spacings kind.Funbody = Tight ∷ Space ∷ Tight ∷ Deeper ∷ Tight ∷ []
spacings kind.Tname = Tight ∷ []
spacings kind.Enum = Tight ∷ Tight ∷ Tight ∷ []
spacings kind.Subrange = Tight ∷ Tight ∷ Tight ∷ []
spacings kind.Array = Tight ∷ Space ∷ Tight ∷ Tight ∷ Space ∷ Space ∷ []
spacings kind.Record0 = Tight ∷ Space ∷ []
spacings kind.Setof = Tight ∷ Space ∷ Space ∷ []
spacings kind.Packed = Tight ∷ Space ∷ []
spacings kind.Pointer = Tight ∷ Tight ∷ []
spacings kind.Assign = Tight ∷ Space ∷ Space ∷ []
spacings kind.Proc = Tight ∷ Tight ∷ []
spacings kind.Compound = Tight ∷ Deeper ∷ Line ∷ []
spacings kind.If = Tight ∷ Space ∷ Space ∷ Deeper ∷ []
spacings kind.Ifelse = Tight ∷ Space ∷ Space ∷ Deeper ∷ Line ∷ Deeper ∷ []
spacings kind.Arm = Tight ∷ Tight ∷ Deeper ∷ []
spacings kind.Repeat = Tight ∷ Deeper ∷ Line ∷ Space ∷ []
spacings kind.While = Tight ∷ Space ∷ Space ∷ Deeper ∷ []
spacings kind.For = Tight ∷ Space ∷ Space ∷ Space ∷ Space ∷ Space ∷ Space ∷ Deeper ∷ []
spacings kind.With = Tight ∷ Space ∷ Space ∷ Deeper ∷ []
spacings kind.Index = Tight ∷ Tight ∷ Tight ∷ Tight ∷ []
spacings kind.Select = Tight ∷ Tight ∷ Tight ∷ []
spacings kind.Deref = Tight ∷ Tight ∷ []
spacings kind.Call = Tight ∷ Tight ∷ Tight ∷ Tight ∷ []
spacings kind.Parens = Tight ∷ Tight ∷ Tight ∷ []
spacings kind.Not = Tight ∷ Space ∷ []
spacings kind.Setcon = Tight ∷ Tight ∷ Tight ∷ []
spacings kind.Mul = Tight ∷ Space ∷ Space ∷ []
spacings kind.Add = Tight ∷ Space ∷ Space ∷ []
spacings kind.Rel = Tight ∷ Space ∷ Space ∷ []
spacings kind.Sign = Tight ∷ Tight ∷ []
spacings kind.Csign = Tight ∷ Tight ∷ []
spacings kind.Width = Tight ∷ Tight ∷ Tight ∷ []
spacings kind.Span = Tight ∷ Tight ∷ Tight ∷ []
spacings _ = []

-- the space of an item of a list in round parentheses: the first element follows the parenthesis at once
abbrev pub enclosed : ℕ → Item → Spacing
enclosed n (Literal x) = Tight
enclosed n (Word x) = Tight
enclosed n (Kid c) = if n == 1 then Tight else Space

-- of a list without parentheses: each element has this space, and a separator follows at once
abbrev pub before_kid : Spacing → Item → Spacing
before_kid s (Kid c) = s
before_kid s _ = Tight

-- nothing behind the last of a row
abbrev pub or_tight : Option Spacing → Spacing
or_tight None = Tight
or_tight (Some s) = s

-- of a record or case: its elements deeper, a last `;` at once, `end` on a line of its own
abbrev pub between_ends : List Spacing → ℕ → Item → Spacing
between_ends before n (Literal lexeme.KeyEnd) = Line
between_ends before n (Literal lexeme.Semicolon) = Tight
between_ends before n x = or_tight (slice_get before n)

-- the space before the item with a number from 0 of a node
unfoldable pub space : Kind → ℕ → Item → Spacing
space kind.Heads n x = enclosed n x
space kind.Args n x = enclosed n x
space kind.Params n x = enclosed n x
space kind.Names n x = before_kid Space x
space kind.Labels n x = before_kid Space x
space kind.Indexes n x = before_kid Space x
space kind.Exprs n x = before_kid Space x
space kind.Accesses n x = before_kid Space x
space kind.Members n x = before_kid Space x
space kind.Consts n x = before_kid Deeper x
space kind.Types n x = before_kid Deeper x
space kind.Vars n x = before_kid Deeper x
space kind.Routines n x = before_kid Line x
space kind.Fields n x = before_kid Line x
space kind.Stmts n x = before_kid Line x
space kind.Arms n x = before_kid Line x
space kind.Record n x = between_ends (Tight ∷ Deeper ∷ []) n x
space kind.Case n x = between_ends (Tight ∷ Space ∷ Space ∷ Deeper ∷ []) n x
space k n x = or_tight (slice_get (spacings k) n)
