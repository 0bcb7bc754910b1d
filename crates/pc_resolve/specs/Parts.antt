-- The block among the kids of a routine's tree (ISO 7185, 6.6.1, 6.6.2).
use Rattle.std.specs.Prelude.{◌≡◌, ◌≤◌, ◌+◌, ℕ, true, [], ◌∷◌, Some}
use Rattle.pc_syntax.specs.Places.{at}
use Rattle.pc_syntax.specs.Plain.{Nil, Plain}
use Rattle.pc_syntax.specs.WellFormed.{size_of}
use Rattle.pc_syntax.specs.declared.kind.Kind.TheVariants as kind
use Rattle.pc_scope.specs.Blocks.{block_kids, kid_count}
use Rattle.pc_needs.specs.Answers.{has_block}
use Rattle.pc_rules.specs.OwnBlock.{heading_part}
use Rattle.pc_rules.specs.RoutineList.{routines_below}
use Rattle.pc_rules.specs.Routines.{Routine}

-- the kid of a routine's tree with this number, its last one, is its block
pub record IsRoutinePart (x : Plain) (number : ℕ) (node : Plain) : Type 0 where
  pub is : node.kind ≡ kind.Block
  pub there : at (number ∷ []) x ≡ Some node
  pub has : has_block (heading_part x.kids) ≡ true
  pub kids : block_kids x.kids ≡ node.kids
  pub number_is : kid_count x.kids ≡ number
  pub smaller : size_of node + 1 ≤ size_of x

-- no kid of it is a block, and so no routine is inside it
pub record HasNoBlock (x : Plain) : Type 0 where
  pub kids : block_kids x.kids ≡ Nil
  pub inside : (r : Routine) → routines_below r 1 x.kids ≡ []
