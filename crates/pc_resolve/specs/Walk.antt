-- The list of the routines of a block, gone through up to some tree: what the loop over it keeps.
use Rattle.std.specs.Prelude.{◌≡◌, ◌+◌, ℕ, List, [], ◌++◌, Option}
use Rattle.pc_syntax.specs.Plain.{Forest, Plain, trees_of}
use Rattle.pc_rules.specs.Attributes.{Entry, nodes}
use Rattle.pc_rules.specs.Decorated.{decorate}
use Rattle.pc_rules.specs.Errors.{entries_of}
use Rattle.pc_rules.specs.HandedOn.{kid_entries}
use Rattle.pc_rules.specs.Meanings.{Local}
use Rattle.pc_rules.specs.Outsides.{outside_of}
use Rattle.pc_rules.specs.OwnBlock.{own}
use Rattle.pc_rules.specs.RoutineList.{Forwarded, key_of, routines_in, routines_of}
use Rattle.pc_rules.specs.Routines.{Routine, bare}
use Rattle.pc_environment.specs.Decorating.{place_after}
use Rattle.pc_pointers.specs.Good.{Targets}
use Rattle.pc_routines.specs.declared.forward.Forward.{Forward}
use Rattle.pc_routine_sites.specs.Visits.{Visits}
use Rattle.pc_resolve.specs.Blocks.{Notes}
use Rattle.pc_resolve.specs.Lists.{IsListOf, StandsAmong}
use Rattle.pc_resolve.specs.declared.resolver.Resolver.{Resolver}

-- Of the trees of a list, the first of which stands here, these are left. There are a place, forward routines, and routines that were gone
-- through: the first tree that is left stands there, behind them; and with what is found at the trees that are left, what was found so far is
-- what is found at all. The number of trees gone through is that of the place, less one.
pub record SoFar (t : Plain) (targets : Targets) (r : Routine) (done beyond : List Routine) (l : Local) (list : List ℕ) (all rest : Forest) (block owner count : ℕ) (old : Resolver) (w : List ((ℕ × ℕ) × Option Forward)) (new : Resolver)
    (own_so inside_so : List Entry) : Type 0 where
  pub place : Local
  pub forwarded : List Forwarded
  pub inside : List Routine
  pub so_many : count + 1 ≡ place.kid
  pub left : IsListOf t targets r (done ++ inside) beyond place forwarded list rest
  pub stands : StandsAmong (routines_of t) targets r (done ++ inside) place forwarded block owner w new
  pub visits : Visits block old.tables new.tables
  pub notes : Notes (routines_of t) inside old new
  pub routines : routines_in r.means l [] list (key_of r.owner) all ≡ inside ++ routines_in r.means place forwarded list (key_of r.owner) rest
  pub own_are : kid_entries 1 (nodes (decorate (outside_of (routines_of t) r) l (own all))) ≡ own_so ++ kid_entries place.kid (nodes (decorate (outside_of (routines_of t) r) place (own rest)))
  pub inside_are : inside_so ≡ entries_of (routines_of t) inside
  pub behind : place_after (bare r.means) l (trees_of (own all)) ≡ place_after (bare r.means) place (trees_of (own rest))
