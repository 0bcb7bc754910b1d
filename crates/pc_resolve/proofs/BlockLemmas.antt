-- The block of a routine, from its steps: lemmas.
use Rattle.std.proofs.Common.{◌≡◌, ℕ, true, List, [], ◌∷◌, length, refl, ap, sym, ◌∙◌, subst}
use Rattle.pc_forms.specs.FormClasses.{Every}
use Rattle.pc_syntax.specs.Plain.{Cons, Forest, Nil, Plain, forest_of, kids_of, trees_of}
use Rattle.pc_syntax.specs.PartsLaws.{forest_of-kids_of}
use Rattle.pc_syntax.specs.declared.kind.Kind.TheVariants as kind
use Rattle.pc_names.specs.Chains.{chain_of}
use Rattle.pc_names.specs.Table.{Table}
use Rattle.pc_rules.specs.Attributes.{Attributes}
use Rattle.pc_rules.specs.Meanings.{Local}
use Rattle.pc_rules.specs.Outsides.{outside_of}
use Rattle.pc_rules.specs.OwnBlock.{own}
use Rattle.pc_rules.specs.Places.{inner}
use Rattle.pc_rules.specs.RoutineList.{routines_below, routines_of}
use Rattle.pc_rules.specs.Routines.{Routine, bare, start_of}
use Rattle.pc_environment.specs.Decorating.{attributes_at, place_after, place_behind}
use Rattle.pc_program_laws.specs.Inside.{InsideLaw}
use Rattle.pc_program_laws.specs.Routines.{RoutinesLaw, SamePlaceLaw}
use Rattle.pc_program_laws.specs.Unsigned.{AllOfKind, UnsignedLaw, is_declaring}
use Rattle.pc_pointers.specs.Good.{Targets}
use Rattle.pc_growth.specs.Grows.{Grows}
use Rattle.pc_places.specs.Places.{known, IsPlace}
use Rattle.pc_places.specs.declared.tables.Tables.{Tables}
use Rattle.pc_standing.specs.Standing.{OwnLaw}
use Rattle.pc_domains.specs.RetargetedLaws.{IsPlace-retargeted}
use Rattle.pc_domains.specs.Told.{IsAllTold, Retargeted}
use Rattle.pc_block_laws.specs.BodyPlace.{BodyPlaceLaw}
use Rattle.pc_block_laws.specs.OwnTypes.{IsOwnBlock}
use Rattle.pc_block_laws.specs.Touched.{TouchedLaw}
use Rattle.pc_routine_sites.specs.Sites.{Sound}
use Rattle.pc_routine_sites.specs.declared.site.RoutineSite.{RoutineSite}
use Rattle.pc_statement_parts.specs.Parts.{AtPart}
use Rattle.pc_resolve.specs.Blocks.{IsPart, IsRoutineOf, Notes, StandsBegun}
use Rattle.pc_resolve.specs.Lists.{StandsIn}
use Rattle.pc_resolve.specs.declared.resolver.Resolver.{Resolver}
use Rattle.pc_resolve.proofs.BodyFound.{body-found}
use Rattle.pc_resolve.proofs.BodyLemmas.{body-place}
use Rattle.pc_resolve.proofs.ListPlaces.{is_listed}
use Rattle.pc_resolve.proofs.OwnParts.{own_list}
use Rattle.pc_resolve.proofs.SoundLemmas.{sound-retargeted}

kids-trees : (d : Plain) → kids_of d ≡ trees_of d.kids
unfolding kids_of
kids-trees d = refl

-- behind the last tree of the list in the own block
list-end : SamePlaceLaw → (r : Routine) (l : Local) (d : Plain) →
    place_after (bare r.means) (inner l kind.Routines (forest_of (kids_of (own_list d)))) (kids_of (own_list d)) ≡ place_after (bare r.means) (inner l kind.Routines d.kids) (trees_of (own d.kids))
list-end law r l d =
    let q = kids_of (own_list d) in
    let out = bare r.means in
    ap (λ (f : Forest). place_after out (inner l kind.Routines f) q) (forest_of-kids_of (own_list d)) ∙ ap (λ (p : Local). place_after out p q) (law l d.kids)
    ∙ ap (place_after out (inner l kind.Routines d.kids)) (kids-trees (own_list d))

-- the place of the statement part, once the list of the routines was gone through and the domains have their types
pub body-stands : RoutinesLaw → UnsignedLaw → (all : List Routine) (targets : Targets) (r : Routine) (gone : List Routine) (l : Local) (d : Plain) (block owner : ℕ) (s : Resolver) (new : Tables) → d.kind ≡ kind.Routines →
    Every (λ u. is_listed u.kind ≡ true) (kids_of (own_list d)) → AllOfKind is_declaring (Cons d.kind d.word d.notes (own d.kids) Nil) →
    StandsIn all targets r gone (place_after (bare r.means) (inner l kind.Routines d.kids) (trees_of (own d.kids))) block owner s → Retargeted s.tables new →
    IsPlace new block owner (outside_of all r) (place_behind (outside_of all r) l (own_list d))
body-stands law unsigned all targets r gone l d block owner s new is listed declaring stands h =
    IsPlace-retargeted s.tables new block owner (outside_of all r) (place_behind (outside_of all r) l (own_list d)) h
    (body-place unsigned s.tables block owner all r l (own_list d) is listed declaring
    (subst (λ (p : Local). IsPlace s.tables block owner (bare r.means) p) (sym (list-end law.start r l d)) stands.place))

-- what the rules find at the statement part, behind all that
pub body-shown : RoutinesLaw → UnsignedLaw → InsideLaw → TouchedLaw → BodyPlaceLaw → OwnLaw → (t : Plain) (targets : Targets) (r : Routine) (x : Plain) (done gone beyond : List Routine) (number : ℕ) (node a b c d e : Plain)
    (block mark : ℕ) (blocks : List ℕ) (site : RoutineSite) (s0 s3 s4 : Resolver) (P : Attributes → Type 0) → IsRoutineOf t targets r x done beyond → IsPart x number node → IsOwnBlock r a b c (own_list d) e → d.kind ≡ kind.Routines →
    Every (λ u. is_listed u.kind ≡ true) (kids_of (own_list d)) → AllOfKind is_declaring (Cons d.kind d.word d.notes (own d.kids) Nil) → StandsBegun (routines_of t) targets r done blocks site s0 →
    StandsIn (routines_of t) targets r gone (place_after (bare r.means) (inner (place_after (outside_of (routines_of t) r) (start_of r) (a ∷ b ∷ c ∷ [])) kind.Routines d.kids) (trees_of (own d.kids))) block site.owner.0 s3 →
    Retargeted s3.tables s4.tables → Grows (known s0.tables) (known s4.tables) → IsAllTold targets s4.domains (known s4.tables) → Notes (routines_of t) (routines_below r 1 x.kids) s0 s4 → mark ≡ length s0.touched →
    AtPart s4.tables block site.owner.0 site.own_function s4.touched mark e P →
    P (attributes_at (outside_of (routines_of t) r) (place_after (outside_of (routines_of t) r) (start_of r) (a ∷ b ∷ c ∷ own_list d ∷ [])) e)
body-shown law unsigned inside touched body own_law t targets r x done gone beyond number node a b c d e block mark blocks site s0 s3 s4 P h part five is listed declaring begun stands retargeted grows told notes start at =
    let all = routines_of t in
    let l3 = place_after (outside_of all r) (start_of r) (a ∷ b ∷ c ∷ []) in
    let place = body-stands law unsigned all targets r gone l3 d block site.owner.0 s3 s4.tables is listed declaring stands retargeted in
    let sound : Sound all gone s4.tables (chain_of s4.tables.names.chains block) =
    subst (λ (cs : List (List ℕ)). Sound all gone s4.tables (chain_of cs block)) (sym (ap (λ (n : Table). n.chains) retargeted.names)) (sound-retargeted all gone block s3.tables s4.tables (chain_of s3.tables.names.chains block) retargeted stands.sound) in
    body-found inside touched body own_law t targets r x done gone beyond number node a b c (own_list d) e block mark site s0 s4 P h part five place sound begun.around.self grows told notes start at
