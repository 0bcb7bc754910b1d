-- What is found at the block of a routine, and at the routines in it (ISO 7185, 6.2.1, 6.8.3.9).
use Rattle.std.specs.Prelude.{◌≡◌, ℕ, Bool, true, false, List, [], ◌∷◌, ◌++◌, Some, length}
use Rattle.pc_syntax.specs.Places.{at}
use Rattle.pc_syntax.specs.Plain.{Plain}
use Rattle.pc_syntax.specs.WellFormed.{IsProper}
use Rattle.pc_scope.specs.Blocks.{block_kids, kid_count}
use Rattle.pc_types.specs.Shapes.{Owner}
use Rattle.pc_rules.specs.Attributes.{at_kid, nodes}
use Rattle.pc_rules.specs.Decorated.{decorate}
use Rattle.pc_rules.specs.Errors.{entries_of}
use Rattle.pc_rules.specs.ForStatements.{stands_among}
use Rattle.pc_rules.specs.HandedOn.{kid_entries}
use Rattle.pc_rules.specs.Outsides.{outside_of}
use Rattle.pc_rules.specs.OwnBlock.{heading_part, own}
use Rattle.pc_rules.specs.RoutineList.{routines_below, routines_of}
use Rattle.pc_rules.specs.Routines.{Routine, start_of}
use Rattle.pc_needs.specs.Answers.{has_block}
use Rattle.pc_needs.specs.Unaffected.{IsOneOf}
use Rattle.pc_program_laws.specs.Inside.{touches_of}
use Rattle.pc_program_laws.specs.Routines.{has_heading}
use Rattle.pc_pointers.specs.Good.{Targets}
use Rattle.pc_sightings.specs.TouchedLog.{ShowsTouched}
use Rattle.pc_places.specs.Places.{known}
use Rattle.pc_domains.specs.Told.{IsTold}
use Rattle.pc_routine_sites.specs.Sites.{Sound, StandsAround}
use Rattle.pc_routine_sites.specs.Visits.{Visits}
use Rattle.pc_routine_sites.specs.declared.site.RoutineSite.{RoutineSite}
use Rattle.pc_own_names.specs.declared.own_name.RoutineNames.{RoutineNames}
use Rattle.pc_resolve.specs.Facts.{ProgramFacts, is_root}
use Rattle.pc_resolve.specs.Kept.{AreKept}
use Rattle.pc_resolve.specs.Parts.{HasNoBlock}
use Rattle.pc_resolve.specs.declared.resolver.Resolver.{Resolver}
use Rattle.pc_resolve.specs.declared.resolver.BlockEntries.{BlockEntries}

-- a routine of a program is this tree; these were gone through before what is inside it, it among them, and these stand beyond
pub record IsRoutineOf (t : Plain) (targets : Targets) (r : Routine) (x : Plain) (done beyond : List Routine) : Type 0 where
  pub facts : ProgramFacts t targets
  pub among : IsOneOf (routines_of t) r
  pub gone : IsOneOf done r
  pub here : at r.place t ≡ Some x
  pub proper : IsProper x
  pub heading : has_heading x.kind ≡ true
  pub heading_is : r.heading ≡ heading_part x.kids
  pub block : r.block ≡ own (block_kids x.kids)
  pub block_kid : r.block_kid ≡ kid_count x.kids
  pub order : routines_of t ≡ done ++ routines_below r 1 x.kids ++ beyond

-- the kid of a tree with this number, its last one, is this block
pub record IsPart (x : Plain) (number : ℕ) (node : Plain) : Type 0 where
  pub kids : block_kids x.kids ≡ node.kids
  pub number_is : kid_count x.kids ≡ number
  pub there : at (number ∷ []) x ≡ Some node
  pub has : has_block (heading_part x.kids) ≡ true

-- the state says what is so where the block of a routine begins, which stands in these blocks
pub record StandsBegun (all : List Routine) (targets : Targets) (r : Routine) (done : List Routine) (blocks : List ℕ) (site : RoutineSite) (s : Resolver) : Type 0 where
  pub sound : Sound all done s.tables blocks
  pub around : StandsAround all r s.tables blocks site
  pub told : IsTold targets s.domains (known s.tables)
  pub first : is_root r ≡ true → site.owner.0 ≡ 0

-- the log of touched variables has grown by those that these routines touch, in some order; and these routines were kept, in their order
pub record Notes (all rs : List Routine) (old new : Resolver) : Type 0 where
  pub more : List (ℕ × ℕ)
  pub variables : List (Owner × List ℕ)
  pub log : new.touched ≡ old.touched ++ more
  pub shown : ShowsTouched (known new.tables).table.owners (known new.tables).names more variables
  pub same : (o : Owner) (n : List ℕ) → stands_among variables o n ≡ stands_among (touches_of all rs) o n
  pub records : List RoutineNames
  pub kept : new.kept.items ≡ old.kept.items ++ records
  pub declared : AreKept all (known new.tables) records rs

-- what was found at the block of a routine and at the routines inside it is what the rules find, and the state stands for what comes behind
pub record BlockShown (all : List Routine) (targets : Targets) (r : Routine) (inside done : List Routine) (blocks : List ℕ) (old new : Resolver) : Type 0 where
  pub visits : Visits (length old.tables.names.chains) old.tables new.tables
  pub sound : Sound all (done ++ inside) new.tables blocks
  pub told : IsTold targets new.domains (known new.tables)
  pub notes : Notes all (r ∷ inside) old new

-- the entries of a block and of the routines inside it are these of the rules
pub record EntriesShown (all : List Routine) (r : Routine) (inside : List Routine) (es : BlockEntries) : Type 0 where
  pub own : es.own.items ≡ kid_entries 1 (nodes (decorate (outside_of all r) (start_of r) r.block))
  pub inside_are : es.inside.items ≡ entries_of all inside

-- What is made of the block of a routine's tree: whichever routine of a program it is, and wherever it stands in the list of all, this is what
-- the rules find there.
abbrev pub ResolvesBlock : List ℕ → RoutineSite → Bool → ℕ → Plain → Plain → Resolver → Resolver → BlockEntries → Type 0
ResolvesBlock blocks site program number node x old new es = (t : Plain) (targets : Targets) (r : Routine) (done beyond : List Routine) → IsRoutineOf t targets r x done beyond → IsPart x number node →
    program ≡ is_root r → StandsBegun (routines_of t) targets r done blocks site old →
    EntriesShown (routines_of t) r (routines_below r 1 x.kids) es × BlockShown (routines_of t) targets r (routines_below r 1 x.kids) done blocks old new

-- there is such a routine of a program
abbrev pub IsSomeBlock : List ℕ → RoutineSite → Bool → ℕ → Plain → Plain → Resolver → Type 0
IsSomeBlock blocks site program number node x s = (t : Plain) × (targets : Targets) × (r : Routine) × (done : List Routine) × (beyond : List Routine) × IsRoutineOf t targets r x done beyond × IsPart x number node
    × (program ≡ is_root r) × StandsBegun (routines_of t) targets r done blocks site s

-- What is made of a routine's tree without a block: no routine is inside it, and it is kept.
abbrev pub ResolvesBare : List ℕ → RoutineSite → Plain → Resolver → Resolver → Type 0
ResolvesBare blocks site x old new = (t : Plain) (targets : Targets) (r : Routine) (done beyond : List Routine) → IsRoutineOf t targets r x done beyond → HasNoBlock x →
    StandsBegun (routines_of t) targets r done blocks site old → BlockShown (routines_of t) targets r [] done blocks old new

-- What is made of a routine's tree, where its block is to be gone through if it has one: the entries of this kid.
abbrev pub ResolvesWithin : List ℕ → RoutineSite → Plain → ℕ → Resolver → Resolver → BlockEntries → Type 0
ResolvesWithin blocks site x number old new es = (t : Plain) (targets : Targets) (r : Routine) (done beyond : List Routine) → IsRoutineOf t targets r x done beyond → is_root r ≡ false →
    StandsBegun (routines_of t) targets r done blocks site old →
    (at_kid number es.own.items ≡ at_kid r.block_kid (kid_entries 1 (nodes (decorate (outside_of (routines_of t) r) (start_of r) r.block))))
    × (es.inside.items ≡ entries_of (routines_of t) (routines_below r 1 x.kids)) × BlockShown (routines_of t) targets r (routines_below r 1 x.kids) done blocks old new

-- there is such a routine of a program
abbrev pub IsSomeWithin : List ℕ → RoutineSite → Plain → Resolver → Type 0
IsSomeWithin blocks site x s = (t : Plain) × (targets : Targets) × (r : Routine) × (done : List Routine) × (beyond : List Routine) × IsRoutineOf t targets r x done beyond × (is_root r ≡ false)
    × StandsBegun (routines_of t) targets r done blocks site s
