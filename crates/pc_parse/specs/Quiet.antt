-- The kinds of which no node bears notes, nor any node below.
use Rattle.std.specs.Prelude.{ℕ, ◌+◌, ◌-◌, ◌==◌, Bool, true, false, if◌then◌else◌}
use Rattle.pc_syntax.specs.declared.kind.Kind.{Kind}
use Rattle.pc_syntax.specs.declared.kind.Kind.TheVariants.{Cnumber, Cstring, Cname, Csign, Ref, Index, Select, Deref, Number, Text, Nil, Call, Parens, Not, Setcon, Mul, Add, Sign, Rel, Width, Span, Name, Args, Names, Labels, Exprs, Members, Hole}
use Rattle.pc_syntax.specs.declared.sort.Sort.TheVariants as sort

-- expressions, constants, names, and lists of them
abbrev pub quiet : Kind → Bool
quiet Cnumber = true
quiet Cstring = true
quiet Cname = true
quiet Csign = true
quiet Ref = true
quiet Index = true
quiet Select = true
quiet Deref = true
quiet Number = true
quiet Text = true
quiet Nil = true
quiet Call = true
quiet Parens = true
quiet Not = true
quiet Setcon = true
quiet Mul = true
quiet Add = true
quiet Sign = true
quiet Rel = true
quiet Width = true
quiet Span = true
quiet Name = true
quiet Args = true
quiet Names = true
quiet Labels = true
quiet Exprs = true
quiet Members = true
quiet (Hole sort.Constant) = true
quiet (Hole sort.Expression) = true
quiet (Hole sort.Name) = true
quiet _ = false

-- how many symbols such a node with so many kids has beside those of its kids
abbrev pub own_symbols : Kind → ℕ → ℕ
own_symbols Cname n = 0
own_symbols Ref n = 0
own_symbols Index n = 2
own_symbols Call n = 2
own_symbols Parens n = 2
own_symbols Setcon n = 2
own_symbols Names n = n - 1
own_symbols Labels n = n - 1
own_symbols Exprs n = n - 1
own_symbols Members n = n - 1
own_symbols Args n = if n == 0 then 0 else n + 1
own_symbols _ n = 1
