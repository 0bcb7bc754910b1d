-- Where the nodes of a statement part stand: the way to them from its own node, and their places for the rules along it.
use Rattle.std.specs.Prelude.{ℕ, zero, suc, ◌≡◌, List, [], ◌∷◌, ◌++◌, Some, take}
use Rattle.pc_syntax.specs.Parts.{kid_at}
use Rattle.pc_syntax.specs.Places.{at}
use Rattle.pc_syntax.specs.Plain.{Plain, trees_of, kids_of}
use Rattle.pc_environment.specs.Decorating.{place_after}
use Rattle.pc_rules.specs.Meanings.{Local, Outside}
use Rattle.pc_rules.specs.Outsides.{outside_of}
use Rattle.pc_rules.specs.Places.{inner}
use Rattle.pc_rules.specs.RoutineList.{routines_of}
use Rattle.pc_rules.specs.Routines.{Routine, start_of}

-- where a kid of a node stands, counted from 0: behind the kids before it
abbrev pub kid_place : Outside → Local → Plain → ℕ → Local
kid_place out l x i = place_after out (inner l x.kind x.kids) (take i (kids_of x))

-- from a node at a place of the rules, this way leads down to that node at that place
abbrev pub Reaches : Outside → Local → Plain → List ℕ → Plain → Local → Type 0
Reaches out l x [] y m = (x ≡ y) × (l ≡ m)
Reaches out l x (zero ∷ way) y m = ⊥
Reaches out l x (suc i ∷ way) y m = (z : Plain) × (kid_at x (suc i) ≡ Some z) × Reaches out (kid_place out l x i) z way y m

-- the path of the statement part of a routine: the fifth kid of its block
abbrev pub part_path : Routine → List ℕ
part_path r = r.place ++ r.block_kid ∷ 5 ∷ []

-- where it stands for the rules: behind the other parts of the own block
abbrev pub part_place : Plain → Routine → Local
part_place t r = place_after (outside_of (routines_of t) r) (start_of r) (take 4 (trees_of r.block))

-- this node stands at this path, in the statement part of a routine of the program, and there for the rules
pub record StandsIn (t : Plain) (r : Routine) (path : List ℕ) (x : Plain) (l : Local) : Type 0 where
  pub part : Plain
  pub here : at (part_path r) t ≡ Some part
  pub way : List ℕ
  pub path_is : path ≡ r.place ++ r.block_kid ∷ 5 ∷ way
  pub reaches : Reaches (outside_of (routines_of t) r) (part_place t r) part way x l

-- the statement part itself
abbrev pub WholeLaw : Type 0
WholeLaw = (t : Plain) (r : Routine) (x : Plain) → at (part_path r) t ≡ Some x → StandsIn t r (part_path r) x (part_place t r)

-- a kid of a node that stands so
abbrev pub KidLaw : Type 0
KidLaw = (t : Plain) (r : Routine) (path : List ℕ) (x : Plain) (l : Local) (i : ℕ) (y : Plain) → StandsIn t r path x l → kid_at x (suc i) ≡ Some y →
    StandsIn t r (path ++ suc i ∷ []) y (kid_place (outside_of (routines_of t) r) l x i)

-- the node is the one at its path
abbrev pub NodeLaw : Type 0
NodeLaw = (t : Plain) (r : Routine) (path : List ℕ) (x : Plain) (l : Local) → StandsIn t r path x l → at path t ≡ Some x

-- each node whose path leads through the statement part stands so
abbrev pub PathLaw : Type 0
PathLaw = (t : Plain) (r : Routine) (way : List ℕ) (x : Plain) → at (r.place ++ r.block_kid ∷ 5 ∷ way) t ≡ Some x → (l : Local) × StandsIn t r (r.place ++ r.block_kid ∷ 5 ∷ way) x l

-- how one comes from the statement part down to its nodes, kid by kid
pub record WaysLaw : Type 0 where
  pub whole : WholeLaw
  pub kid : KidLaw
  pub node : NodeLaw
  pub path : PathLaw
