-- The loop over the list of the routines of a block: what is so before each of its trees (ISO 7185, 6.2.1, 6.6.1, 6.6.2).
use Rattle.std.specs.Prelude.{◌≡◌, ◌<◌, ◌≤◌, ◌+◌, ℕ, true, List, [], ◌∷◌, ◌++◌, Option, length}
use Rattle.pc_forms.specs.FormClasses.{Every}
use Rattle.pc_syntax.specs.Classes.{is_routine}
use Rattle.pc_syntax.specs.Plain.{Plain, forest_of}
use Rattle.pc_syntax.specs.WellFormed.{IsProper, size_of}
use Rattle.pc_scope.specs.Headings.{headings_in}
use Rattle.pc_rules.specs.Attributes.{Entry}
use Rattle.pc_rules.specs.Meanings.{Local}
use Rattle.pc_rules.specs.RoutineList.{routines_of}
use Rattle.pc_rules.specs.Routines.{Routine}
use Rattle.pc_pointers.specs.Good.{Targets}
use Rattle.pc_routines.specs.Heads.{ShowsHeads}
use Rattle.pc_routines.specs.declared.forward.Forward.{Forward}
use Rattle.pc_routines.specs.declared.head.RoutineHead.{RoutineHead}
use Rattle.pc_routine_sites.specs.declared.site.RoutineSite.{RoutineSite}
use Rattle.pc_resolve.specs.Lists.{IsListOf, IsSite, StandsIn}
use Rattle.pc_resolve.specs.Walk.{SoFar}
use Rattle.pc_resolve.specs.declared.resolver.Resolver.{Resolver}

-- Of the kids of this list, which stands at this place, these are left, with these headings; and whichever program it is in, so many were
-- gone through.
pub record Walking (block : ℕ) (site : RoutineSite) (number : ℕ) (list : Plain) (place : List ℕ) (rest : List Plain) (headings : List RoutineHead) (count : ℕ) (old : Resolver)
    (w : List ((ℕ × ℕ) × Option Forward)) (new : Resolver) (own_so inside_so : List Entry) : Type 0 where
  pub there : block < length new.tables.names.chains
  pub place_is : place ≡ site.place ++ number ∷ 4 ∷ []
  pub heads : ShowsHeads new.tables.names.texts headings (headings_in (forest_of rest))
  pub listed : Every (λ u. is_routine u.kind ≡ true) rest
  pub smaller : Every (λ u. size_of u + 1 ≤ size_of list) rest
  pub proper : Every IsProper rest
  pub so_far : (t : Plain) (targets : Targets) (r : Routine) (done beyond : List Routine) (l : Local) → IsListOf t targets r done beyond l [] place list.kids → l.kid ≡ 1 → l.waiting ≡ [] → IsSite r site →
      StandsIn (routines_of t) targets r done l block site.owner.0 old →
      SoFar t targets r done beyond l place list.kids (forest_of rest) block site.owner.0 count old w new own_so inside_so
