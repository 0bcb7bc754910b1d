-- What a node of a statement part sees of its place (ISO 7185, 6.2.2).
use Rattle.std.specs.Prelude.{ℕ, Bool, true, false, List, Option}
use Rattle.pc_syntax.specs.declared.kind.Kind.{Kind}
use Rattle.pc_syntax.specs.declared.kind.Kind.TheVariants as kind
use Rattle.pc_types.specs.Shapes.{Owner}
use Rattle.pc_rules.specs.Meanings.{Found, Local, Outside, find}

-- what names mean, the function whose block this is, the block, and which of its variables a routine in it changes
pub record Sight : Type 0 where
  pub means : List ℕ → Found
  pub self : Option (Owner × List ℕ)
  pub owner : Owner
  pub touched : List ℕ → Bool

-- what is seen from a place
abbrev pub sight_of : Outside → Local → Sight
sight_of out l = record { means = find out l; self = l.self; owner = l.owner; touched = out.touched }

-- the kinds of nodes that stand in a statement part, at or below a statement or a constant
abbrev pub is_body : Kind → Bool
is_body kind.Cnumber = true
is_body kind.Cstring = true
is_body kind.Cname = true
is_body kind.Csign = true
is_body kind.Empty = true
is_body kind.Assign = true
is_body kind.Proc = true
is_body kind.Compound = true
is_body kind.If = true
is_body kind.Ifelse = true
is_body kind.Case = true
is_body kind.Arm = true
is_body kind.Repeat = true
is_body kind.While = true
is_body kind.For = true
is_body kind.With = true
is_body kind.Ref = true
is_body kind.Index = true
is_body kind.Select = true
is_body kind.Deref = true
is_body kind.Number = true
is_body kind.Text = true
is_body kind.Nil = true
is_body kind.Call = true
is_body kind.Parens = true
is_body kind.Not = true
is_body kind.Setcon = true
is_body kind.Mul = true
is_body kind.Add = true
is_body kind.Sign = true
is_body kind.Rel = true
is_body kind.Width = true
is_body kind.Span = true
is_body kind.Name = true
is_body kind.Args = true
is_body kind.Labels = true
is_body kind.Exprs = true
is_body kind.Accesses = true
is_body kind.Members = true
is_body kind.Stmts = true
is_body kind.Arms = true
is_body (kind.Hole s) = true
is_body k = false
