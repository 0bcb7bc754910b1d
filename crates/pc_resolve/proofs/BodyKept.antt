-- What was kept of a routine before its statement part is what the rules find where its block ends: lemmas.
use Rattle.std.proofs.Common.{◌≡◌, ℕ, true, List, [], ◌∷◌, Option, Some, ap, sym, ◌∙◌, subst}
use Rattle.std.specs.Option.{option_map_or}
use Rattle.pc_forms.specs.FormClasses.{Every}
use Rattle.pc_syntax.specs.Places.{at}
use Rattle.pc_syntax.specs.Plain.{Cons, Nil, Plain, kids_of, trees_of}
use Rattle.pc_syntax.specs.declared.kind.Kind.TheVariants as kind
use Rattle.pc_types.specs.Table.{nobody}
use Rattle.pc_names.specs.Chains.{chain_of}
use Rattle.pc_names.specs.Table.{Table}
use Rattle.pc_rules.specs.Outsides.{outside_of}
use Rattle.pc_rules.specs.OwnBlock.{own}
use Rattle.pc_rules.specs.Places.{inner}
use Rattle.pc_rules.specs.RoutineList.{routines_of}
use Rattle.pc_rules.specs.Routines.{Routine, bare, start_of}
use Rattle.pc_environment.specs.Decorating.{place_after}
use Rattle.pc_environment.specs.Sight.{is_body}
use Rattle.pc_decl.specs.Nodes.{kids_at}
use Rattle.pc_own_names.specs.OwnKinds.{AreDeclared, own_kinds}
use Rattle.pc_own_names.specs.declared.own_name.DeclaredName.{DeclaredName}
use Rattle.pc_own_names.specs.declared.own_name.RoutineNames.{RoutineNames}
use Rattle.pc_program_laws.specs.Routines.{RoutinesLaw}
use Rattle.pc_program_laws.specs.Unsigned.{AllOfKind, UnsignedLaw, is_declaring}
use Rattle.pc_pointers.specs.Good.{Targets}
use Rattle.pc_growth.specs.Grows.{Grows}
use Rattle.pc_growth.specs.GrowsLaws.{get_or-begins}
use Rattle.pc_places.specs.Places.{known}
use Rattle.pc_standing.specs.Standing.{OwnLaw}
use Rattle.pc_domains.specs.Told.{Retargeted}
use Rattle.pc_block_laws.specs.BodyPlace.{BodyPlaceLaw}
use Rattle.pc_block_laws.specs.OwnTypes.{IsOwnBlock}
use Rattle.pc_routine_sites.specs.Sites.{Sound}
use Rattle.pc_routine_sites.specs.declared.site.RoutineSite.{RoutineSite}
use Rattle.pc_resolve.specs.Blocks.{IsRoutineOf, StandsBegun}
use Rattle.pc_resolve.specs.Kept.{IsKept, ShowsAtEnd}
use Rattle.pc_resolve.specs.Lists.{StandsIn}
use Rattle.pc_resolve.specs.declared.resolver.Resolver.{Resolver}
use Rattle.pc_resolve.proofs.BlockLemmas.{body-stands}
use Rattle.pc_resolve.proofs.EndingLemmas.{ending-means}
use Rattle.pc_resolve.proofs.ListPlaces.{is_listed}
use Rattle.pc_resolve.proofs.OwnParts.{own_list}
use Rattle.pc_resolve.proofs.SoundLemmas.{sound-retargeted}

-- the kids of a node of a program
pub kids-here : (t : Plain) (q : List ℕ) (x : Plain) → at q t ≡ Some x → kids_at t q ≡ x.kids
kids-here t q x e = ap (λ (o : Option Plain). option_map_or (λ (n : Plain). n.kids) o Nil) e

-- behind the list of the routines of a block
pub body-kept : RoutinesLaw → UnsignedLaw → BodyPlaceLaw → OwnLaw → (t : Plain) (targets : Targets) (r : Routine) (x : Plain) (done gone beyond : List Routine) (a b c d e : Plain) (block : ℕ) (blocks : List ℕ) (site : RoutineSite)
    (s0 s3 s4 : Resolver) (declared : List DeclaredName) (one : RoutineNames) → IsRoutineOf t targets r x done beyond → IsOwnBlock r a b c (own_list d) e → d.kind ≡ kind.Routines → is_body e.kind ≡ true →
    Every (λ u. is_listed u.kind ≡ true) (kids_of (own_list d)) → AllOfKind is_declaring (Cons d.kind d.word d.notes (own d.kids) Nil) → StandsBegun (routines_of t) targets r done blocks site s0 →
    StandsIn (routines_of t) targets r gone (place_after (bare r.means) (inner (place_after (outside_of (routines_of t) r) (start_of r) (a ∷ b ∷ c ∷ [])) kind.Routines d.kids) (trees_of (own d.kids))) block site.owner.0 s3 →
    Retargeted s3.tables s4.tables → Grows (known s0.tables) (known s4.tables) → AreDeclared declared (own_kinds t r) → ShowsAtEnd s4.tables declared block site one → IsKept (routines_of t) (known s4.tables) one r
body-kept law unsigned body own_law t targets r x done gone beyond a b c d e block blocks site s0 s3 s4 declared one h five is statement listed declaring begun stands retargeted grows declares shows =
    let all = routines_of t in
    let out = outside_of all r in
    let l = start_of r in
    let before = a ∷ b ∷ c ∷ own_list d ∷ [] in
    let sound : Sound all gone s4.tables (chain_of s4.tables.names.chains block) =
    subst (λ (cs : List (List ℕ)). Sound all gone s4.tables (chain_of cs block)) (sym (ap (λ (n : Table). n.chains) retargeted.names)) (sound-retargeted all gone block s3.tables s4.tables (chain_of s3.tables.names.chains block) retargeted stands.sound) in
    shows t r (place_after out l before) (record {
      node = x;
      kids = kids-here t r.place x h.here;
      heading = h.heading_is;
      block_is = h.block;
      later = begun.around.later;
      key = begun.around.key;
      declares = declares;
      place = body-stands law unsigned all targets r gone (place_after out l (a ∷ b ∷ c ∷ [])) d block site.owner.0 s3 s4.tables is listed declaring stands retargeted;
      owner = get_or-begins (known s0.tables).table.owners (known s4.tables).table.owners site.owner.0 nobody grows.owners begun.around.there ∙ begun.around.owner_is;
      owns = (own_law.after r.owner out l before (own_law.start t r h.facts.proper h.facts.program h.among)).1;
      named = sound.named;
      signed = sound.signed;
      ends = ending-means body all r a b c (own_list d) e five statement;
    })
