-- Where the walk over a program begins (ISO 7185, 6.10).
use Rattle.std.specs.Prelude.{◌≡◌, false, [], Some, None}
use Rattle.pc_syntax.specs.Plain.{Plain}
use Rattle.pc_types.specs.Growth.{opening}
use Rattle.pc_types.specs.Rows.{seen}
use Rattle.pc_facts.specs.Known.{Known}
use Rattle.pc_pointers.specs.Good.{Targets}
use Rattle.pc_rules.specs.RoutineList.{program_routine, routines_below, routines_of}
use Rattle.pc_sightings.specs.TouchedLog.{AreApart}
use Rattle.pc_places.specs.Places.{known}
use Rattle.pc_domains.specs.Told.{IsTold}
use Rattle.pc_routine_sites.specs.declared.site.RoutineSite.{RoutineSite}
use Rattle.pc_resolve.specs.Blocks.{EntriesShown}
use Rattle.pc_resolve.specs.Kept.{AreKept}
use Rattle.pc_resolve.specs.declared.resolver.Resolver.{Resolver}
use Rattle.pc_resolve.specs.declared.resolver.BlockEntries.{BlockEntries}

-- the program as a routine: the first owner, with the key of the root and no parameters
pub record IsProgramSite (site : RoutineSite) : Type 0 where
  pub owner : site.owner.0 ≡ 0
  pub key : site.key ≡ Some []
  pub place : site.place ≡ []
  pub own_function : site.own_function ≡ None
  pub parameters : site.parameters.items ≡ []
  pub later : site.is_later ≡ false

-- nothing is known but the required types
pub record IsBegun (s : Resolver) : Type 0 where
  pub types : seen s.tables.types ≡ opening
  pub texts : s.tables.names.texts ≡ []
  pub slots : s.tables.names.slots ≡ []
  pub chains : s.tables.names.chains ≡ []
  pub declarations : s.tables.declarations.items ≡ []
  pub domains : (targets : Targets) (k : Known) → IsTold targets s.domains k
  pub touched : s.touched ≡ []
  pub kept : s.kept.items ≡ []

-- all routines of a program are kept, and owners have one number each
pub record IsProgramKept (t : Plain) (s : Resolver) : Type 0 where
  pub kept : AreKept (routines_of t) (known s.tables) s.kept.items (routines_of t)
  pub apart : AreApart (known s.tables).table.owners

-- what was found at the block of a program and at the routines inside is what the rules find
abbrev pub IsProgramFound : Plain → BlockEntries → Type 0
IsProgramFound t es = EntriesShown (routines_of t) (program_routine t) (routines_below (program_routine t) 1 t.kids) es
