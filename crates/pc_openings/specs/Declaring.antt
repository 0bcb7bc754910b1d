-- What the nodes of a block declare, one by one (ISO 7185, 6.2.2).
use Rattle.std.specs.Prelude.{ℕ, Bool, true, false, if◌then◌else◌, List, [], ◌∷◌, ◌++◌}
use Rattle.pc_syntax.specs.Plain.{Plain}
use Rattle.pc_syntax.specs.Sorts.{is_hole}
use Rattle.pc_syntax.specs.Words.{lowered}
use Rattle.pc_syntax.specs.declared.kind.Kind.{Kind}
use Rattle.pc_syntax.specs.declared.kind.Kind.TheVariants as kind
use Rattle.pc_scope.specs.Headings.{is_routine_kind}
use Rattle.pc_rules.specs.Meanings.{Class}
use Rattle.pc_rules.specs.OwnBlock.{declared_by, declared_in}

-- the name that a node is, in small letters, and nothing where it is a hole
abbrev pub name_of : Plain → List ℕ
name_of t = if is_hole t.kind then [] else lowered t.word

-- a name of a list, of this class; a hole is none
abbrev pub listed : Class → Plain → List (List ℕ × Class)
listed c t = if is_hole t.kind then [] else (lowered t.word, c) ∷ []

-- the names of a list, all of one class
abbrev pub all_listed : Class → List Plain → List (List ℕ × Class)
all_listed c [] = []
all_listed c (t ∷ ts) = listed c t ++ all_listed c ts

-- what the nodes below a node declare in its block
abbrev pub declared_below : Plain → List (List ℕ × Class)
declared_below t = if is_routine_kind t.kind then [] else declared_in t.kids

-- what a node declares in its block, with the nodes below it
abbrev pub declared_at : Plain → List (List ℕ × Class)
declared_at t = declared_by t.kind t.kids ++ declared_below t

-- the same of some nodes
abbrev pub all_declared : List Plain → List (List ℕ × Class)
all_declared [] = []
all_declared (t ∷ ts) = declared_at t ++ all_declared ts

-- whether nodes that declare something in its block may stand below a node of this kind
abbrev pub may_declare_below : Kind → Bool
may_declare_below kind.Program = true
may_declare_below kind.Block = true
may_declare_below kind.Typedef = true
may_declare_below kind.Vardef = true
may_declare_below kind.Field = true
may_declare_below kind.Valparam = true
may_declare_below kind.Varparam = true
may_declare_below kind.Enum = true
may_declare_below kind.Array = true
may_declare_below kind.Record = true
may_declare_below kind.Setof = true
may_declare_below kind.Packed = true
may_declare_below kind.Params = true
may_declare_below kind.Indexes = true
may_declare_below kind.Consts = true
may_declare_below kind.Types = true
may_declare_below kind.Vars = true
may_declare_below kind.Routines = true
may_declare_below kind.Fields = true
may_declare_below _ = false
