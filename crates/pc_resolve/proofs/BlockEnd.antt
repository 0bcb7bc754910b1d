-- The block of a routine from its statement part to its end: lemmas.
use Rattle.std.proofs.Common.{◌≡◌, ℕ, Bool, List, [], ◌∷◌, ◌++◌, None, insert, length, refl, ap, sym, ◌∙◌, subst}
use Rattle.pc_syntax.specs.Plain.{Plain}
use Rattle.pc_syntax.specs.declared.class.Class.TheVariants as class
use Rattle.pc_names.specs.Chains.{chain_of}
use Rattle.pc_types.specs.Rows.{IsInOrder}
use Rattle.pc_types.specs.Table.{nobody}
use Rattle.pc_facts.specs.Shows.{value_of}
use Rattle.pc_rules.specs.Attributes.{Attributes, Entry, at_kid}
use Rattle.pc_rules.specs.Outsides.{outside_of}
use Rattle.pc_rules.specs.RoutineList.{routines_below, routines_of}
use Rattle.pc_rules.specs.Routines.{Routine, start_of}
use Rattle.pc_environment.specs.Decorating.{attributes_at, place_after}
use Rattle.pc_needs.proofs.HeadingKinds.{routines-kind}
use Rattle.pc_program_laws.specs.Changed.{ChangedLaw}
use Rattle.pc_program_laws.specs.Inside.{InsideLaw}
use Rattle.pc_program_laws.specs.Touches.{BodyTouchesLaw}
use Rattle.pc_pointers.specs.Good.{Targets}
use Rattle.pc_own_names.specs.declared.own_name.DeclaredName.{DeclaredName}
use Rattle.pc_places.specs.Places.{known, Keeps}
use Rattle.pc_places.specs.declared.tables.Tables.{Tables}
use Rattle.pc_bodies.specs.BodyLaws.{class-body}
use Rattle.pc_domains.specs.RetargetedLaws.{Grows-retargeted}
use Rattle.pc_domains.specs.Told.{IsAllTold, IsTold, Retargeted, Told}
use Rattle.pc_domains.specs.ToldLaws.{IsTold-moves}
use Rattle.pc_block_laws.specs.Touched.{TouchedLaw}
use Rattle.pc_declaration_parts.specs.declared.parts.Parts.{Parts}
use Rattle.pc_routine_sites.specs.Sites.{Sound}
use Rattle.pc_routine_sites.specs.Visits.{Visits}
use Rattle.pc_routine_sites.specs.declared.site.RoutineSite.{RoutineSite}
use Rattle.pc_statement_parts.specs.Noting.{NotesTouched}
use Rattle.pc_statement_parts.specs.Parts.{AtPart}
use Rattle.pc_resolve.specs.Blocks.{ResolvesBlock}
use Rattle.pc_resolve.specs.Kept.{DeclaresNames, KeepsOne}
use Rattle.pc_resolve.specs.Lists.{ResolvesList}
use Rattle.pc_resolve.specs.declared.resolver.BlockEntries.{BlockEntries}
use Rattle.pc_resolve.specs.declared.resolver.Resolver.{Resolver}
use Rattle.pc_resolve.proofs.BehindList.{Notes-around, chain-behind, list-gone, visits-before, visits-behind}
use Rattle.pc_resolve.proofs.BlockEntries.{own-shown}
use Rattle.pc_resolve.proofs.BlockLemmas.{body-shown}
use Rattle.pc_resolve.proofs.BodyKept.{body-kept, kids-here}
use Rattle.pc_resolve.proofs.BodyTouches.{body-touches}
use Rattle.pc_resolve.proofs.KeptLemmas.{kept-grows}
use Rattle.pc_resolve.proofs.ListEntered.{BlockLaws, ComesToList, HasFive, list-entered}
use Rattle.pc_resolve.proofs.ListedLemmas.{all-listed, list-declaring}
use Rattle.pc_resolve.proofs.NotesLemmas.{Notes-own}
use Rattle.pc_resolve.proofs.OwnParts.{own_list}
use Rattle.pc_resolve.proofs.PartsLemmas.{block-five}
use Rattle.pc_resolve.proofs.SoundLemmas.{sound-around, sound-kept, sound-retargeted}

-- the laws on which the second half of a block stands
pub record EndLaws : Type 0 where
  pub inside : InsideLaw
  pub touched : TouchedLaw
  pub touches : BodyTouchesLaw
  pub changed : ChangedLaw

-- what the statement part shows where it was found
abbrev pub BodyShown : List Entry → Resolver → Resolver → Attributes → Type 0
BodyShown own s4 s5 a = (own ≡ a.as_value.entries) × NotesTouched (known s5.tables) s4.touched s5.touched a.touches

-- what was made of the block from the list of its routines on
pub record ComesToEnd (number : ℕ) (d e : Plain) (block mark index : ℕ) (declared : List DeclaredName) (site : RoutineSite) (s2 s3 s4 s5 : Resolver) (below : BlockEntries) (own : List Entry) : Type 0 where
  pub list : ResolvesList block site number d s2 s3 below
  pub told : (targets : Targets) → targets nobody [] ≡ None → IsTold targets s3.domains (known s3.tables) → IsAllTold targets s4.domains (known s4.tables)
  pub retargeted : Retargeted s3.tables s4.tables
  pub logged : s4.touched ≡ s3.touched
  pub before : s4.kept ≡ s3.kept
  pub keeps_one : KeepsOne s4.tables declared block site index s4.kept.items s5.kept.items
  pub order : IsInOrder s4.tables.types
  pub body : AtPart s4.tables block site.owner.0 site.own_function s4.touched mark e (BodyShown own s4 s5)
  pub keeps : Keeps s4.tables s5.tables
  pub domains : s5.domains ≡ s4.domains

-- the entries of the block are those of its parts
pub record AreEntries (p : Parts) (below : BlockEntries) (own : List Entry) (es : BlockEntries) : Type 0 where
  pub own_are : es.own.items ≡ at_kid 1 (value_of p.constants.judgement).entries.items ++ at_kid 2 (value_of p.types.judgement).entries.items ++ at_kid 3 (value_of p.variables.judgement).entries.items ++ at_kid 4 below.own.items ++ at_kid 5 own
  pub inside_are : es.inside.items ≡ below.inside.items

-- the tables are sound behind the statement part, for the blocks around
sound-end : (all gone : List Routine) (block : ℕ) (blocks : List ℕ) (t3 t4 t5 : Tables) → Retargeted t3 t4 → Keeps t4 t5 → chain_of t3.names.chains block ≡ block ∷ blocks → Sound all gone t3 (chain_of t3.names.chains block) →
    Sound all gone t5 blocks
sound-end all gone block blocks t3 t4 t5 retargeted keeps chain sound =
    sound-around all gone t5 block blocks
    (sound-kept all gone block t4 t5 (block ∷ blocks) keeps (sound-retargeted all gone block t3 t4 (block ∷ blocks) retargeted (subst (λ (bs : List ℕ). Sound all gone t3 bs) chain sound)))

-- whichever routine's block it is, this is what the rules find
pub block-end : BlockLaws → EndLaws → (number : ℕ) (node x a b c d e : Plain) (blocks : List ℕ) (site : RoutineSite) (program : Bool) (s0 s2 s3 s4 s5 : Resolver) (block mark index : ℕ) (declared : List DeclaredName) (t1 : Tables) (p : Parts) (below es : BlockEntries)
    (own : List Entry) → HasFive node a b c d e → ComesToList blocks site program node a b c block s0 t1 p s2 → s2.touched ≡ s0.touched → s2.kept ≡ s0.kept → mark ≡ length s0.touched →
    index ≡ length s0.kept.items → DeclaresNames s0.tables site x declared → ComesToEnd number d e block mark index declared site s2 s3 s4 s5 below own → AreEntries p below own es → ResolvesBlock blocks site program number node x s0 s5 es
block-end laws more number node x a b c d e blocks site program s0 s2 s3 s4 s5 block mark index declared t1 p below es own five comes log kept start begins declares ends made = λ t targets r done beyond h part same begun.
    let all = routines_of t in
    let out = outside_of all r in
    let l = start_of r in
    let inside = routines_below r 1 x.kids in
    let at = list-entered laws t targets r x done beyond number node a b c d e blocks site program s0 s2 block t1 p five comes h part same begun in
    let gone = list-gone laws t targets r x done beyond number node a b c d e block site p s2 s3 below five h part at ends.list in
    let list = routines-kind d.kind five.routines in
    let own_is = block-five laws.routines.own_block t targets r x done beyond number node a b c d e h part five.is five.proper five.kids in
    let moves = comes.opens.moves begun.around.have_names in
    let visits = visits-before block s0.tables t1 s2.tables s3.tables s4.tables moves comes.changes gone.visits ends.retargeted in
    let all_told = ends.told targets h.facts.none gone.stands.told in
    let notes = Notes-around more.touched all inside s0 s2 s3 s4 log kept ends.logged ends.before (Grows-retargeted s3.tables s4.tables ends.retargeted) gone.notes in
    let shown = body-shown laws.routines laws.unsigned more.inside more.touched laws.body laws.own t targets r x done (done ++ inside) beyond number node a b c d e block mark blocks site s0 s3 s4 (BodyShown own s4 s5) h part own_is list
    (all-listed node a b c d e five.proper five.kids list) (list-declaring laws.unsigned laws.routines.own_block node a b c d e five.is five.proper five.kids) begun gone.stands ends.retargeted visits.grows all_told notes start ends.body in
    let noted = shown.1 in
    let names_are = declares t r blocks h.facts.proper h.facts.program h.among (kids-here t r.place x h.here) begun.around in
    let one = ends.keeps_one.one in
    let here =
    body-kept laws.routines laws.unsigned laws.body laws.own t targets r x done (done ++ inside) beyond a b c d e block blocks site s0 s3 s4 declared one h own_is list (class-body class.Body e.kind refl five.body)
    (all-listed node a b c d e five.proper five.kids list) (list-declaring laws.unsigned laws.routines.own_block node a b c d e five.is five.proper five.kids) begun gone.stands ends.retargeted visits.grows names_are ends.keeps_one.shows in
    let chain = chain-behind blocks block s0.tables.names.chains t1.names.chains s2.tables.names.chains s3.tables.names.chains comes.opens.number comes.opens.chains comes.changes.chains gone.visits.chains in (
      record {
        own = own-shown laws.routines.start (known s2.tables) p out l a b c d e r.block below.own.items own es.own.items list own_is at.parts gone.own_are shown.0 made.own_are;
        inside_are = made.inside_are ∙ gone.inside_are;
      },
      record {
        visits = subst (λ (n : ℕ). Visits n s0.tables s5.tables) comes.opens.number (visits-behind block s0.tables s4.tables s5.tables visits ends.keeps);
        sound = sound-end all (done ++ inside) block blocks s3.tables s4.tables s5.tables ends.retargeted ends.keeps chain gone.stands.sound;
        told =
            subst (λ (q : Told). IsTold targets q (known s5.tables)) (sym ends.domains)
            (IsTold-moves targets s4.domains s4.tables s5.tables ends.order ends.keeps.grows ends.keeps.domains all_told.told);
        notes =
            Notes-own more.touched all inside r s0 s4 s5 noted.0 (attributes_at out (place_after out l (a ∷ b ∷ c ∷ own_list d ∷ [])) e).touches one ends.keeps.grows notes noted.1 noted.2
            (body-touches more.touches.routine more.changed.touches t r a b c (own_list d) e h.facts.proper h.among own_is) (kept-grows all (known s4.tables) (known s5.tables) one r ends.keeps.grows here)
            (ends.keeps_one.kept ∙ ap (λ (i : ℕ). insert s4.kept.items i one) begins);
      },
    )
