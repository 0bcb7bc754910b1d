-- Values of the code, as plain values.
use Rattle.std.specs.Prelude.{◌≡◌, true, List, [], ◌∷◌, ◌++◌, Option, Some, None, IfSome}
use Rattle.std.specs.Borrow.{Bor}
use Rattle.pc_syntax.specs.declared.kind.Kind.{Kind}
use Rattle.pc_syntax.specs.declared.class.Class.{Class}
use Rattle.pc_syntax.specs.declared.item.Item.{Item}
use Rattle.pc_syntax.specs.Plain.{Plain, node}
use Rattle.pc_syntax.specs.WellFormed.{IsProper}
use Rattle.pc_parse.specs.declared.beginnings.Beginning.{Beginning}
use Rattle.pc_parse.specs.declared.beginnings.Beginning.TheVariants as begins
use Rattle.pc_parse.specs.declared.growths.Growth.{Growth}
use Rattle.pc_parse.specs.declared.growths.Growth.TheVariants as grows
use Rattle.pc_parse.specs.declared.rows.Row as code_row
use Rattle.pc_parse.specs.declared.rows.Node as code_node
use Rattle.pc_parse.specs.declared.machine.Frame as code_frame
use Rattle.pc_parse.specs.declared.machine.Position.{Position}
use Rattle.pc_parse.specs.declared.machine.Position.TheVariants as position
use Rattle.pc_parse.specs.declared.machine.Outcome.{Outcome}
use Rattle.pc_parse.specs.declared.machine.Outcome.TheVariants as outcome
use Rattle.pc_parse.specs.Tables.{Start, Leaf, Open, Predict, Blank, NoStart, Grow, Give, Wrap, Shift, Enter, closes}
use Rattle.pc_parse.specs.Rows.{Row, has_kids, made}
use Rattle.pc_parse.specs.Measured as measured
use Rattle.std.specs.declared.vec.Vec.{Vec}

abbrev pub start_view : Beginning → Start
start_view (begins.Leaf k) = Leaf k
start_view (begins.Open k w m) = Open k w.now m.now
start_view (begins.Predict k m) = Predict k m.now
start_view (begins.Blank k) = Blank k
start_view begins.Nothing = NoStart

abbrev pub grow_view : Growth → Grow
grow_view grows.Give = Give
grow_view (grows.Wrap k) = Wrap k
grow_view (grows.Shift k w m) = Shift k w.now m.now
grow_view (grows.Enter k m) = Enter k m.now

abbrev pub switch_view : Option (Kind × Bor (List Item)) → Option (Kind × List Item)
switch_view None = None
switch_view (Some p) = Some (p.0, p.1.now)

abbrev pub awaited_view : Option (Class × Bor (List Item)) → Option (Class × List Item)
awaited_view None = None
awaited_view (Some p) = Some (p.0, p.1.now)

-- the items whose first is given with the others
abbrev pub first_view : Option (Item × Bor (List Item)) → List Item
first_view None = []
first_view (Some p) = p.0 ∷ p.1.now

abbrev pub trees_view : {A : Type 0} → Option (Vec Plain A) → Option (List Plain)
trees_view None = None
trees_view (Some v) = Some v.items

abbrev pub row_view : code_row.Row → Row
row_view r = record { depth = r.depth; size = r.size; trees = trees_view r.trees }

abbrev pub frame_view : code_frame.Frame → measured.Frame
frame_view f = measured.frame f.node.kind f.node.word.now (row_view f.node.kids) f.items.now

-- the frames, the last one first
abbrev pub stack : List code_frame.Frame → List measured.Frame
stack [] = []
stack (f ∷ fs) = stack fs ++ frame_view f ∷ []

abbrev pub holding : code_node.Node → List measured.Frame → measured.State
holding n fs = measured.Holding n.kind (made n.kind n.word.now (row_view n.kids)) fs

abbrev pub state_view : Position → List measured.Frame → measured.State
state_view position.Opening fs = measured.Opening
state_view (position.Within f) fs = measured.Reading (frame_view f) fs
state_view (position.Ended n) fs = holding n fs

abbrev pub outcome_view : Outcome → List measured.Frame → measured.Plan
outcome_view (outcome.Moved p) fs = measured.Stay (state_view p fs)
outcome_view (outcome.Took p) fs = measured.Take (state_view p fs)
outcome_view (outcome.Accepted c) fs = measured.End c
outcome_view outcome.Refused fs = measured.Stuck

-- a node, where its kids are kept, is a tree that may be made
abbrev pub IsWhole : code_node.Node → Type 0
IsWhole n = IfSome (trees_view n.kids.trees) (λ ts. IsProper (node n.kind n.word.now [] ts))

-- the node that has ended, or that may end in front of its last separator, is one that may be made
abbrev pub IsBuildable : Position → Type 0
IsBuildable position.Opening = Unit {0}
IsBuildable (position.Within f) = (k : Kind) (m : List Item) → closes f.node.kind f.items.now k m ≡ true → has_kids (row_view f.node.kids) ≡ true → IsWhole f.node
IsBuildable (position.Ended n) = IsWhole n
