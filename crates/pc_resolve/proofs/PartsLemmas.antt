-- Behind the declaration parts of a routine's block: lemmas.
use Rattle.std.proofs.Common.{◌≡◌, ℕ, Bool, true, List, [], ◌∷◌, Some, map, refl, ap, sym, ◌∙◌, subst}
use Rattle.pc_syntax.specs.Plain.{Plain, kids_of, forest_of}
use Rattle.pc_syntax.specs.WellFormed.{IsProper}
use Rattle.pc_syntax.specs.declared.kind.Kind.TheVariants as kind
use Rattle.pc_types.specs.Rows.{IsInOrder}
use Rattle.pc_rules.specs.Meanings.{Meaning, Local, Outside}
use Rattle.pc_rules.specs.Outsides.{outside_of}
use Rattle.pc_rules.specs.OwnBlock.{own}
use Rattle.pc_rules.specs.RoutineList.{routines_of}
use Rattle.pc_rules.specs.Routines.{Routine, parameters_of, start_of}
use Rattle.pc_environment.specs.Decorating.{place_behind}
use Rattle.pc_needs.specs.Answers.{has_block}
use Rattle.pc_program_laws.specs.Routines.{OwnBlockLaw}
use Rattle.pc_pointers.specs.Good.{Targets}
use Rattle.pc_sightings.specs.TouchedLog.{AreApart}
use Rattle.pc_places.specs.Parameters.{ShowsParameters}
use Rattle.pc_places.specs.ParametersLaws.{ShowsParameters-grows}
use Rattle.pc_places.specs.Places.{known, IsPlace}
use Rattle.pc_places.specs.declared.parameter.Parameter.{Parameter}
use Rattle.pc_places.specs.declared.tables.Tables.{Tables}
use Rattle.pc_openings.specs.Opened.{AreFirst, Opens}
use Rattle.pc_domains.specs.Told.{Told, IsTold}
use Rattle.pc_domains.specs.ToldLaws.{IsTold-moves}
use Rattle.pc_declaration_parts.specs.Blocks.{BlockFacts, ShowsParts}
use Rattle.pc_declaration_parts.specs.declared.parts.Parts.{Parts}
use Rattle.pc_routine_sites.specs.declared.site.RoutineSite.{RoutineSite}
use Rattle.pc_resolve.specs.Facts.{is_root}
use Rattle.pc_resolve.specs.Blocks.{IsRoutineOf, IsPart, StandsBegun}
use Rattle.pc_resolve.specs.declared.resolver.Resolver.{Resolver}
use Rattle.pc_resolve.proofs.OpenedLemmas.{begin-place}
use Rattle.pc_resolve.proofs.OwnParts.{own_list, own-five}

-- what was made of the declaration parts of a block
abbrev pub MakesParts : ℕ → ℕ → Bool → List Parameter → Plain → Plain → Plain → Told → Told → Tables → Tables → Parts → Type 0
MakesParts block owner program ps constants types variables d e old new p = (targets : Targets) (out : Outside) (l : Local) (es : List (List ℕ × Meaning)) → BlockFacts targets program out l constants types →
    IsPlace old block owner out l → ShowsParameters (known old) old.declarations.items ps es → l.passed ≡ map (λ d. d.0) es → AreApart (known old).table.owners → IsTold targets d (known old) → (program ≡ true → owner ≡ 0) →
    ShowsParts (known new) p out l constants types variables × IsPlace new block owner out (place_behind out (place_behind out (place_behind out l constants) types) variables) × IsTold targets e (known new)

-- the trees of the routine's own block
pub block-five : OwnBlockLaw → (t : Plain) (targets : Targets) (r : Routine) (x : Plain) (done beyond : List Routine) (number : ℕ) (node a b c d e : Plain) → IsRoutineOf t targets r x done beyond → IsPart x number node →
    node.kind ≡ kind.Block → IsProper node → kids_of node ≡ a ∷ b ∷ c ∷ d ∷ e ∷ [] → r.block ≡ forest_of (a ∷ b ∷ c ∷ own_list d ∷ e ∷ [])
block-five law t targets r x done beyond number node a b c d e h part is proper five = h.block ∙ ap own part.kids ∙ own-five law node a b c d e is proper five

-- what is found at the parts of the block, and the tables behind them
pub block-parts : OwnBlockLaw → (t : Plain) (targets : Targets) (r : Routine) (x : Plain) (done beyond : List Routine) (number : ℕ) (node a b c d e : Plain) (blocks : List ℕ) (site : RoutineSite) (program : Bool) (s : Resolver)
    (block : ℕ) (t1 t2 : Tables) (told : Told) (p : Parts) → IsRoutineOf t targets r x done beyond → IsPart x number node → node.kind ≡ kind.Block → IsProper node → kids_of node ≡ a ∷ b ∷ c ∷ d ∷ e ∷ [] →
    program ≡ is_root r → StandsBegun (routines_of t) targets r done blocks site s → AreFirst [] (parameters_of r) → IsInOrder s.tables.types → Opens blocks site.parameters.items (Some node) block s.tables t1 →
    MakesParts block site.owner.0 program site.parameters.items a b c s.domains told t1 t2 p →
    let out = outside_of (routines_of t) r in
    ShowsParts (known t2) p out (start_of r) a b c × IsPlace t2 block site.owner.0 out (place_behind out (place_behind out (place_behind out (start_of r) a) b) c) × IsTold targets told (known t2)
block-parts law t targets r x done beyond number node a b c d e blocks site program s block t1 t2 told p h part is proper five same begun first order opens makes =
    let all = routines_of t in
    let out = outside_of all r in
    let moves = opens.moves begun.around.have_names in
    let own_is = block-five law t targets r x done beyond number node a b c d e h part is proper five in
    makes targets out (start_of r) (parameters_of r)
    (subst (λ (q : Bool). BlockFacts targets q out (start_of r) a b) (sym same) (h.facts.blocks r a b c (own_list d) e h.among (ap has_block h.heading_is ∙ part.has) own_is))
    (begin-place all targets r done blocks site s t1 node block opens (h.block ∙ ap own part.kids) first begun)
    (ShowsParameters-grows (known s.tables) (known t1) s.tables.declarations.items t1.declarations.items site.parameters.items (parameters_of r) moves.grows moves.declarations begun.around.parameters)
    refl (subst AreApart (sym moves.owners) begun.sound.apart) (IsTold-moves targets s.domains s.tables t1 order moves.grows moves.domains begun.told) (λ q. begun.first (sym same ∙ q))
