-- Which variables a block touches: its statement part alone does (ISO 7185, 6.2.1, 6.8.3.9).
use Rattle.std.specs.Prelude.{ℕ, ◌≡◌, true, List, get_or}
use Rattle.pc_syntax.specs.declared.kind.Kind.TheVariants as kind
use Rattle.pc_syntax.specs.Layout.{layout}
use Rattle.pc_syntax.specs.Plain.{Forest, Plain, count, kinds}
use Rattle.pc_syntax.specs.WellFormed.{WellFormed, IsProper, fits_some}
use Rattle.pc_types.specs.Shapes.{Owner}
use Rattle.pc_rules.specs.Attributes.{Marked, nodes, missing}
use Rattle.pc_rules.specs.Decorated.{decorate}
use Rattle.pc_rules.specs.HandedOn.{all_touches}
use Rattle.pc_rules.specs.Meanings.{Local, Outside}
use Rattle.pc_rules.specs.OwnBlock.{own}
use Rattle.pc_rules.specs.RoutineList.{routines_of}
use Rattle.pc_rules.specs.Routines.{Routine}
use Rattle.pc_needs.specs.Unaffected.{IsOneOf}

-- the variables that the statement part of a block touches, its fifth kid; none where there is no block
abbrev pub body_touches : Marked → List (Owner × List ℕ)
body_touches m = (get_or (nodes m) 4 missing).touches

-- a well-formed block
abbrev pub BlockTouchesLaw : Type 0
BlockTouchesLaw = (out : Outside) (l : Local) (w : List ℕ) (f : Forest) → fits_some (layout kind.Block w (count f)) (kinds f) ≡ true → WellFormed f →
    all_touches (nodes (decorate out l (own f))) ≡ body_touches (decorate out l (own f))

-- the block of a routine of a program
abbrev pub RoutineTouchesLaw : Type 0
RoutineTouchesLaw = (t : Plain) (q : Routine) (out : Outside) (l : Local) → IsProper t → IsOneOf (routines_of t) q →
    all_touches (nodes (decorate out l q.block)) ≡ body_touches (decorate out l q.block)

-- only statement parts touch variables
pub record BodyTouchesLaw : Type 0 where
  pub block : BlockTouchesLaw
  pub routine : RoutineTouchesLaw
