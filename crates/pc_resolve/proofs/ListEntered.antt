-- The list of the routines of a block, with what the state says where it begins: lemmas.
use Rattle.std.proofs.Common.{◌≡◌, ◌+◌, ◌<◌, ℕ, Bool, true, List, [], ◌∷◌, ◌++◌, Some, length, refl, ap, ◌∙◌, arith}
use Rattle.std.proofs.lemmas.List.{length-append}
use Rattle.pc_syntax.specs.Classes.{has}
use Rattle.pc_syntax.specs.Plain.{Plain, kids_of}
use Rattle.pc_syntax.specs.WellFormed.{IsProper}
use Rattle.pc_syntax.specs.declared.class.Class.TheVariants as class
use Rattle.pc_syntax.specs.declared.kind.Kind.TheVariants as kind
use Rattle.pc_types.specs.Rows.{IsInOrder}
use Rattle.pc_rules.specs.Meanings.{Local}
use Rattle.pc_rules.specs.Outsides.{outside_of}
use Rattle.pc_rules.specs.Places.{inner}
use Rattle.pc_rules.specs.RoutineList.{routines_of}
use Rattle.pc_rules.specs.Routines.{Routine, parameters_of, start_of}
use Rattle.pc_environment.specs.Decorating.{place_after}
use Rattle.pc_needs.proofs.HeadingKinds.{routines-kind}
use Rattle.pc_program_laws.specs.Routines.{RoutinesLaw}
use Rattle.pc_program_laws.specs.Unsigned.{UnsignedLaw}
use Rattle.pc_pointers.specs.Good.{Targets}
use Rattle.pc_places.specs.Places.{known, Changes}
use Rattle.pc_places.specs.declared.tables.Tables.{Tables}
use Rattle.pc_definitions.specs.Rows.{consts-kind, types-kind, vars-kind}
use Rattle.pc_openings.specs.Opened.{AreFirst, Opens}
use Rattle.pc_standing.specs.Standing.{OwnLaw}
use Rattle.pc_block_laws.specs.BodyPlace.{BodyPlaceLaw}
use Rattle.pc_block_laws.specs.Once.{OnceLaw}
use Rattle.pc_declaration_parts.specs.Blocks.{ShowsParts}
use Rattle.pc_declaration_parts.specs.declared.parts.Parts.{Parts}
use Rattle.pc_routine_sites.specs.declared.site.RoutineSite.{RoutineSite}
use Rattle.pc_resolve.specs.Facts.{is_root}
use Rattle.pc_resolve.specs.Blocks.{IsPart, IsRoutineOf, IsSomeBlock, StandsBegun}
use Rattle.pc_resolve.specs.Lists.{IsListOf, IsSite, IsSomeList, StandsIn}
use Rattle.pc_resolve.specs.declared.resolver.Resolver.{Resolver}
use Rattle.pc_resolve.proofs.BlockList.{block-list}
use Rattle.pc_resolve.proofs.ListStart.{list-start}
use Rattle.pc_resolve.proofs.OpenedLemmas.{first-once}
use Rattle.pc_resolve.proofs.PartsLemmas.{MakesParts, block-parts}

-- the laws on which the first half of a block stands
pub record BlockLaws : Type 0 where
  pub routines : RoutinesLaw
  pub unsigned : UnsignedLaw
  pub body : BodyPlaceLaw
  pub own : OwnLaw
  pub once : OnceLaw

-- the five trees of a block
pub record HasFive (node a b c d e : Plain) : Type 0 where
  pub is : node.kind ≡ kind.Block
  pub proper : IsProper node
  pub kids : kids_of node ≡ a ∷ b ∷ c ∷ d ∷ e ∷ []
  pub constants : has class.Consts a.kind ≡ true
  pub types : has class.Types b.kind ≡ true
  pub variables : has class.Vars c.kind ≡ true
  pub routines : has class.Routines d.kind ≡ true
  pub body : has class.Body e.kind ≡ true

-- what was made of the block up to the list of its routines
pub record ComesToList (blocks : List ℕ) (site : RoutineSite) (program : Bool) (node a b c : Plain) (block : ℕ) (s : Resolver) (t1 : Tables) (p : Parts) (new : Resolver) : Type 0 where
  pub order : IsInOrder s.tables.types
  pub opens : Opens blocks site.parameters.items (Some node) block s.tables t1
  pub makes : MakesParts block site.owner.0 program site.parameters.items a b c s.domains new.domains t1 new.tables p
  pub changes : Changes block t1 new.tables

-- where the first tree of the list stands
abbrev pub list_begins : Plain → Routine → Plain → Plain → Plain → Plain → Local
list_begins t r a b c d = inner (place_after (outside_of (routines_of t) r) (start_of r) (a ∷ b ∷ c ∷ [])) kind.Routines d.kids

-- what is so at the list, and what was found at the parts before it
pub record ListEntered (t : Plain) (targets : Targets) (r : Routine) (done beyond : List Routine) (number : ℕ) (a b c d : Plain) (block : ℕ) (site : RoutineSite) (p : Parts) (new : Resolver) : Type 0 where
  pub list : IsListOf t targets r done beyond (list_begins t r a b c d) [] (r.place ++ number ∷ 4 ∷ []) d.kids
  pub kid : (list_begins t r a b c d).kid ≡ 1
  pub waiting : (list_begins t r a b c d).waiting ≡ []
  pub site_is : IsSite r site
  pub stands : StandsIn (routines_of t) targets r done (list_begins t r a b c d) block site.owner.0 new
  pub parts : ShowsParts (known new.tables) p (outside_of (routines_of t) r) (start_of r) a b c

-- the parameters of a routine of a program have no name twice
pub parameters-first : OnceLaw → (t : Plain) (targets : Targets) (r : Routine) (x : Plain) (done beyond : List Routine) → IsRoutineOf t targets r x done beyond → AreFirst [] (parameters_of r)
parameters-first law t targets r x done beyond h = first-once [] (parameters_of r) (law.parameters t r h.facts.proper h.facts.program h.among) (λ n some. refl)

-- whichever routine's block it is, the state stands at the list of its routines
pub list-entered : BlockLaws → (t : Plain) (targets : Targets) (r : Routine) (x : Plain) (done beyond : List Routine) (number : ℕ) (node a b c d e : Plain) (blocks : List ℕ) (site : RoutineSite) (program : Bool) (s new : Resolver)
    (block : ℕ) (t1 : Tables) (p : Parts) → HasFive node a b c d e → ComesToList blocks site program node a b c block s t1 p new → IsRoutineOf t targets r x done beyond → IsPart x number node → program ≡ is_root r →
    StandsBegun (routines_of t) targets r done blocks site s → ListEntered t targets r done beyond number a b c d block site p new
list-entered laws t targets r x done beyond number node a b c d e blocks site program s new block t1 p five comes h part same begun =
    let list = routines-kind d.kind five.routines in
    let found = block-parts laws.routines.own_block t targets r x done beyond number node a b c d e blocks site program s block t1 new.tables new.domains p h part five.is five.proper five.kids same begun
    (parameters-first laws.once t targets r x done beyond h) comes.order comes.opens comes.makes in
    record {
      list = block-list laws.routines laws.unsigned laws.body t targets r x done beyond number node a b c d e h part five.is five.proper five.kids list;
      kid = refl;
      waiting = refl;
      site_is = record { key = begun.around.key; place = begun.around.place };
      stands =
          list-start laws.own t targets r x done beyond node a b c d e blocks site s new block t1 h five.proper five.kids (consts-kind a.kind five.constants) (types-kind b.kind five.types) (vars-kind c.kind five.variables) begun
          comes.opens comes.changes found.1 found.2;
      parts = found.0;
    }

-- so there is such a list, where there is such a block
pub some-list : BlockLaws → (number : ℕ) (node x a b c d e : Plain) (blocks : List ℕ) (site : RoutineSite) (program : Bool) (s new : Resolver) (block : ℕ) (t1 : Tables) (p : Parts) →
    HasFive node a b c d e → ComesToList blocks site program node a b c block s t1 p new → IsSomeBlock blocks site program number node x s → IsSomeList block site number d.kids new
some-list laws number node x a b c d e blocks site program s new block t1 p five comes some =
    let t = some.0 in
    let r = some.2 in
    let at = list-entered laws t some.1 r x some.3 some.4 number node a b c d e blocks site program s new block t1 p five comes some.5 some.6 some.7 some.8 in
    (t, some.1, r, some.3, some.4, list_begins t r a b c d, at.list, at.kid, at.waiting, at.site_is, at.stands)

-- a block that was begun is there
pub begun-there : (blocks : List ℕ) (block : ℕ) (old new : List (List ℕ)) → block ≡ length old → new ≡ old ++ (length old ∷ blocks) ∷ [] → block < length new
begun-there blocks block old new is chains =
    let n : length new ≡ length old + 1 = ap length chains ∙ length-append old ((length old ∷ blocks) ∷ []) in
    omega (arith, is, n)
