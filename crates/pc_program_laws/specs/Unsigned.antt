-- What is found among the declarations of a block doesn't look at the parameters and results of routines (ISO 7185, 6.2.1).
use Rattle.std.specs.Prelude.{ℕ, ◌≡◌, Bool, true, false, List, None}
use Rattle.pc_syntax.specs.declared.kind.Kind.{Kind}
use Rattle.pc_syntax.specs.declared.kind.Kind.TheVariants as kind
use Rattle.pc_syntax.specs.Layout.{layout}
use Rattle.pc_syntax.specs.Plain.{Forest, Nil, Cons, Plain, count, kinds, forest_of}
use Rattle.pc_syntax.specs.WellFormed.{WellFormed, IsProper, fits_some}
use Rattle.pc_rules.specs.Attributes.{Attributes, Marked, Done, Mark}
use Rattle.pc_rules.specs.Decorated.{decorate}
use Rattle.pc_rules.specs.Meanings.{Meaning, Found, Here, Local, Outside}
use Rattle.pc_rules.specs.Outsides.{outside_of, quiet}
use Rattle.pc_rules.specs.OwnBlock.{own}
use Rattle.pc_rules.specs.RoutineList.{routines_of}
use Rattle.pc_rules.specs.Routines.{Routine, bare}
use Rattle.pc_environment.specs.Decorating.{attributes_at}
use Rattle.pc_environment.specs.Decorating as here
use Rattle.pc_needs.specs.Answers.{place_behind}
use Rattle.pc_needs.specs.Unaffected.{IsOneOf}

-- a meaning without parameters and result
abbrev pub unsigned : Meaning → Meaning
unsigned m = record m { signature = None }

-- the same of what a name means
abbrev pub unsigned_found : Found → Found
unsigned_found (Here m) = Here (unsigned m)
unsigned_found f = f

-- what is found at a node, with another meaning of its name, and without whether a routine in the block changes that
abbrev pub faded : (Found → Found) → Attributes → Attributes
faded g a = record a { found = g a.found; changed = false }

-- the same at all nodes
abbrev pub all_faded : (Found → Found) → Marked → Marked
all_faded g Done = Done
all_faded g (Mark a below rest) = Mark (faded g a) (all_faded g below) (all_faded g rest)

-- two blocks have the same from outside, but for the parameters and results of routines, and which variables are changed
abbrev pub MeanAlike : Outside → Outside → Type 0
MeanAlike a b = (n : List ℕ) → unsigned_found (a.means n) ≡ unsigned_found (b.means n)

-- the kinds of nodes among declarations: those of constants, types, variables, and headings of routines
abbrev pub is_declaring : Kind → Bool
is_declaring kind.Block = true
is_declaring kind.Forward = true
is_declaring kind.Constdef = true
is_declaring kind.Typedef = true
is_declaring kind.Vardef = true
is_declaring kind.Field = true
is_declaring kind.Valparam = true
is_declaring kind.Varparam = true
is_declaring kind.Procedure = true
is_declaring kind.Function = true
is_declaring kind.Funbody = true
is_declaring kind.Tname = true
is_declaring kind.Enum = true
is_declaring kind.Subrange = true
is_declaring kind.Array = true
is_declaring kind.Record = true
is_declaring kind.Record0 = true
is_declaring kind.Setof = true
is_declaring kind.Packed = true
is_declaring kind.Pointer = true
is_declaring kind.Cnumber = true
is_declaring kind.Cstring = true
is_declaring kind.Cname = true
is_declaring kind.Csign = true
is_declaring kind.Name = true
is_declaring (kind.Hole s) = true
is_declaring kind.Params = true
is_declaring kind.Names = true
is_declaring kind.Indexes = true
is_declaring kind.Consts = true
is_declaring kind.Types = true
is_declaring kind.Vars = true
is_declaring kind.Routines = true
is_declaring kind.Fields = true
is_declaring _ = false

-- a test holds of the kind of each node of some trees
abbrev pub AllOfKind : (Kind → Bool) → Forest → Type 0
AllOfKind test Nil = Unit {0}
AllOfKind test (Cons k w ns ks ts) = (test k ≡ true) × AllOfKind test ks × AllOfKind test ts

-- the declarations of a block: its kids but for the statement part
abbrev pub declarations_of : Forest → Forest
declarations_of (Cons a v1 n1 k1 (Cons b v2 n2 k2 (Cons c v3 n3 k3 (Cons d v4 n4 k4 ts)))) = Cons a v1 n1 k1 (Cons b v2 n2 k2 (Cons c v3 n3 k3 (Cons d v4 n4 k4 Nil)))
declarations_of f = Nil

-- trees among declarations: the same is found at their nodes but for the parameters and results that names mean, and the same stands behind them
abbrev pub AlikeLaw : Type 0
AlikeLaw = (a b : Outside) (l : Local) (f : Forest) → AllOfKind is_declaring f → MeanAlike a b →
    (all_faded unsigned_found (decorate a l f) ≡ all_faded unsigned_found (decorate b l f)) × (place_behind a l f ≡ place_behind b l f)

-- one of them
abbrev pub AlikeNodeLaw : Type 0
AlikeNodeLaw = (a b : Outside) (l : Local) (t : Plain) → AllOfKind is_declaring (Cons t.kind t.word t.notes t.kids Nil) → MeanAlike a b →
    (faded unsigned_found (attributes_at a l t) ≡ faded unsigned_found (attributes_at b l t)) × (here.place_behind a l t ≡ here.place_behind b l t)

-- several of them in a row
abbrev pub AlikeRowLaw : Type 0
AlikeRowLaw = (a b : Outside) (l : Local) (ts : List Plain) → AllOfKind is_declaring (forest_of ts) → MeanAlike a b →
    (all_faded unsigned_found (here.marks_of a l ts) ≡ all_faded unsigned_found (here.marks_of b l ts)) × (here.place_after a l ts ≡ here.place_after b l ts)

-- the declarations of the own block of a routine are such trees
abbrev pub DeclaringLaw : Type 0
DeclaringLaw = (w : List ℕ) (f : Forest) → fits_some (layout kind.Block w (count f)) (kinds f) ≡ true → WellFormed f → AllOfKind is_declaring (declarations_of (own f))

-- what a routine's block has from outside, and the bare meanings around it
abbrev pub OutsidesAlikeLaw : Type 0
OutsidesAlikeLaw = (rs : List Routine) (r : Routine) → MeanAlike (bare r.means) (outside_of rs r) × MeanAlike (bare r.means) (quiet rs r)

-- among the declarations of a routine's block, and behind them, the same is found with what is said of routines and without
abbrev pub RoutineAlikeLaw : Type 0
RoutineAlikeLaw = (t : Plain) (q : Routine) (rs : List Routine) (l : Local) → IsProper t → IsOneOf (routines_of t) q →
    (all_faded unsigned_found (decorate (bare q.means) l (declarations_of q.block)) ≡ all_faded unsigned_found (decorate (outside_of rs q) l (declarations_of q.block)))
    × (place_behind (bare q.means) l (declarations_of q.block) ≡ place_behind (outside_of rs q) l (declarations_of q.block))

-- declarations don't look at the parameters and results of routines
pub record UnsignedLaw : Type 0 where
  pub alike : AlikeLaw
  pub node : AlikeNodeLaw
  pub row : AlikeRowLaw
  pub declaring : DeclaringLaw
  pub outsides : OutsidesAlikeLaw
  pub routine : RoutineAlikeLaw
