-- What `statement_part` asks is so behind the list of a block's routines: lemmas.
use Rattle.std.proofs.Common.{◌≡◌, ℕ, true, List, [], ◌∷◌, Option, length, ap, sym, ◌∙◌, subst}
use Rattle.pc_syntax.specs.Plain.{Plain}
use Rattle.pc_types.specs.Shapes.{Owner}
use Rattle.pc_names.specs.Chains.{chain_of}
use Rattle.pc_rules.specs.Attributes.{Attributes}
use Rattle.pc_rules.specs.Outsides.{outside_of}
use Rattle.pc_rules.specs.RoutineList.{routines_below, routines_of}
use Rattle.pc_rules.specs.Routines.{Routine, self_of, start_of}
use Rattle.pc_environment.specs.Decorating.{attributes_at, place_after}
use Rattle.pc_needs.specs.Answers.{has_block}
use Rattle.pc_program_laws.specs.Inside.{InsideLaw}
use Rattle.pc_pointers.specs.Good.{Targets}
use Rattle.pc_access_rules.specs.Selves.{ShowsSelf}
use Rattle.pc_growth.specs.Grows.{Grows}
use Rattle.pc_places.specs.Places.{known, IsPlace}
use Rattle.pc_bodies.specs.DeclarationLaws.{ShowsSelf-grows}
use Rattle.pc_standing.specs.Standing.{OwnLaw}
use Rattle.pc_domains.specs.Told.{IsAllTold}
use Rattle.pc_domains.specs.ToldLaws.{AllTold-rows}
use Rattle.pc_block_laws.specs.BodyPlace.{BodyPlaceLaw}
use Rattle.pc_block_laws.specs.OwnTypes.{IsOwnBlock}
use Rattle.pc_block_laws.specs.Touched.{TouchedLaw}
use Rattle.pc_routine_sites.specs.Sites.{Sound}
use Rattle.pc_routine_sites.specs.declared.site.RoutineSite.{RoutineSite}
use Rattle.pc_statement_parts.specs.Parts.{AtPart}
use Rattle.pc_resolve.specs.Blocks.{IsPart, IsRoutineOf, Notes}
use Rattle.pc_resolve.specs.declared.resolver.Resolver.{Resolver}
use Rattle.pc_resolve.proofs.TouchedInside.{touched-inside}

-- what holds at each place for which the tables stand holds at the block's statement part
pub body-found : InsideLaw → TouchedLaw → BodyPlaceLaw → OwnLaw → (t : Plain) (targets : Targets) (r : Routine) (x : Plain) (done gone beyond : List Routine) (number : ℕ) (node a b c d e : Plain) (block mark : ℕ) (site : RoutineSite)
    (old new : Resolver) (P : Attributes → Type 0) → IsRoutineOf t targets r x done beyond → IsPart x number node → IsOwnBlock r a b c d e →
    IsPlace new.tables block site.owner.0 (outside_of (routines_of t) r) (place_after (outside_of (routines_of t) r) (start_of r) (a ∷ b ∷ c ∷ d ∷ [])) →
    Sound (routines_of t) gone new.tables (chain_of new.tables.names.chains block) → ShowsSelf (known old.tables) site.own_function (self_of r) → Grows (known old.tables) (known new.tables) →
    IsAllTold targets new.domains (known new.tables) → Notes (routines_of t) (routines_below r 1 x.kids) old new → mark ≡ length old.touched →
    AtPart new.tables block site.owner.0 site.own_function new.touched mark e P →
    P (attributes_at (outside_of (routines_of t) r) (place_after (outside_of (routines_of t) r) (start_of r) (a ∷ b ∷ c ∷ d ∷ [])) e)
body-found inside law body own t targets r x done gone beyond number node a b c d e block mark site old new P h part five place sound self grows told notes start at =
    let all = routines_of t in
    let out = outside_of all r in
    let l = start_of r in
    let m = place_after out l (a ∷ b ∷ c ∷ d ∷ []) in
    let has : has_block r.heading ≡ true = ap has_block h.heading_is ∙ part.has in
    let same = body.behind out l (a ∷ b ∷ c ∷ d ∷ []) in
    let shown : ShowsSelf (known new.tables) site.own_function (self_of r) = ShowsSelf-grows (known old.tables) (known new.tables) site.own_function (self_of r) grows self in
    at targets all r m place (own.after r.owner out l (a ∷ b ∷ c ∷ d ∷ []) (own.start t r h.facts.proper h.facts.program h.among)).1 sound.named sound.signed
    (subst (λ (o : Option (Owner × List ℕ)). ShowsSelf (known new.tables) site.own_function o) (sym same.self) shown) sound.apart (AllTold-rows targets new.domains (known new.tables) told h.facts.none)
    (h.facts.bodies r a b c d e h.among has five)
    (touched-inside inside law t x r site.owner.0 mark old new h.facts.proper h.facts.program h.among has h.here notes start sound.apart sound.distinct place.there (place.owner_is ∙ same.owner))
