-- A routine without a block, for which an empty one was begun: lemmas.
use Rattle.std.proofs.Common.{◌≡◌, ℕ, List, [], ◌∷◌, ◌++◌, None, insert, length, ap, sym, ◌∙◌, subst, append-nil}
use Rattle.pc_syntax.specs.Plain.{Forest, Nil, Plain}
use Rattle.pc_scope.specs.Blocks.{block_kids}
use Rattle.pc_types.specs.Rows.{IsInOrder}
use Rattle.pc_types.specs.Shapes.{Owner}
use Rattle.pc_names.specs.Chains.{chain_of}
use Rattle.pc_rules.specs.Attributes.{Marked, nodes}
use Rattle.pc_rules.specs.Decorated.{decorate}
use Rattle.pc_rules.specs.ForStatements.{stands_among}
use Rattle.pc_rules.specs.HandedOn.{all_touches}
use Rattle.pc_rules.specs.Meanings.{Local, Outside, find}
use Rattle.pc_rules.specs.Outsides.{outside_of, quiet}
use Rattle.pc_rules.specs.OwnBlock.{own}
use Rattle.pc_rules.specs.RoutineList.{routines_of}
use Rattle.pc_rules.specs.Routines.{Routine, block_start, parameters_of, self_of, start_of}
use Rattle.pc_environment.specs.DecoratingLaws.{decorate-forest_of}
use Rattle.pc_decl.specs.Annotated.{annotation_of, behind_all}
use Rattle.pc_own_names.specs.declared.own_name.DeclaredName.{DeclaredName}
use Rattle.pc_own_names.specs.declared.own_name.RoutineNames.{RoutineNames}
use Rattle.pc_pointers.specs.Good.{Targets}
use Rattle.pc_growth.specs.GrowsLaws.{get_or-begins}
use Rattle.pc_places.specs.ChangesLaws.{Changes-same}
use Rattle.pc_places.specs.Places.{known, IsPlace}
use Rattle.pc_places.specs.declared.tables.Tables.{Tables}
use Rattle.pc_openings.specs.Opened.{AreFirst, Opens}
use Rattle.pc_standing.specs.Standing.{OwnLaw}
use Rattle.pc_domains.specs.Told.{IsTold, Told}
use Rattle.pc_domains.specs.ToldLaws.{IsTold-moves}
use Rattle.pc_block_laws.specs.Once.{OnceLaw}
use Rattle.pc_routine_sites.specs.Sites.{Sound}
use Rattle.pc_routine_sites.specs.Visits.{Visits}
use Rattle.pc_routine_sites.specs.VisitsLaws.{Visits-moved}
use Rattle.pc_routine_sites.specs.declared.site.RoutineSite.{RoutineSite}
use Rattle.pc_types.specs.Table.{nobody}
use Rattle.pc_resolve.specs.Blocks.{Notes, ResolvesBare, StandsBegun}
use Rattle.pc_resolve.specs.Kept.{DeclaresNames, IsKept, KeepsOne}
use Rattle.pc_resolve.specs.Parts.{HasNoBlock}
use Rattle.pc_resolve.specs.declared.resolver.Resolver.{Resolver}
use Rattle.pc_resolve.proofs.BegunLemmas.{chain-begun, sound-begun}
use Rattle.pc_resolve.proofs.BodyKept.{kids-here}
use Rattle.pc_resolve.proofs.KeptLemmas.{insert-behind}
use Rattle.pc_resolve.proofs.ListEntered.{parameters-first}
use Rattle.pc_resolve.proofs.SoundLemmas.{sound-around}
use Rattle.pc_resolve.proofs.WalkLemmas.{own-none}

-- ---- its own block is empty

pub bare-block : (r : Routine) (x : Plain) → r.block ≡ own (block_kids x.kids) → HasNoBlock x → r.block ≡ Nil
bare-block r x e none = e ∙ ap own none.kids ∙ own-none

empty-touches : (out : Outside) (l : Local) (f : Forest) → f ≡ Nil → all_touches (nodes (decorate out l f)) ≡ []
empty-touches out l f e = ap (λ (g : Forest). all_touches (nodes (decorate out l g))) e ∙ ap (λ (m : Marked). all_touches (nodes m)) (decorate-forest_of out l [])

empty-ending : (all : List Routine) (r : Routine) → r.block ≡ Nil → (annotation_of all r).ending ≡ start_of r
empty-ending all r e =
    ap (λ (f : Forest). behind_all (start_of r) (decorate (outside_of all r) (start_of r) f)) e ∙ ap (behind_all (start_of r)) (decorate-forest_of (outside_of all r) (start_of r) [])

-- ---- what was made of it

-- a block was begun for it, and it was kept
pub record ComesToBare (blocks : List ℕ) (site : RoutineSite) (x : Plain) (block : ℕ) (declared : List DeclaredName) (old : Resolver) (t1 : Tables) (new : Resolver) : Type 0 where
  pub order : IsInOrder old.tables.types
  pub declares : DeclaresNames old.tables site x declared
  pub opens : Opens blocks site.parameters.items None block old.tables t1
  pub keeps_one : KeepsOne t1 declared block site (length old.kept.items) old.kept.items new.kept.items
  pub tables : new.tables ≡ t1
  pub domains : new.domains ≡ old.domains
  pub touched : new.touched ≡ old.touched

place-bare : (all : List Routine) (targets : Targets) (r : Routine) (done : List Routine) (blocks : List ℕ) (site : RoutineSite) (s : Resolver) (t1 : Tables) (block : ℕ) → Opens blocks site.parameters.items None block s.tables t1 → r.block ≡ Nil →
    AreFirst [] (parameters_of r) → StandsBegun all targets r done blocks site s → IsPlace t1 block site.owner.0 (outside_of all r) (start_of r)
place-bare all targets r done blocks site s t1 block opens e first begun =
    subst (λ (f : Forest). IsPlace t1 block site.owner.0 (outside_of all r) (block_start r.owner (self_of r) (parameters_of r) f)) (sym e)
    (opens.place site.owner.0 r.owner (self_of r) (outside_of all r) (parameters_of r) begun.around.owner_is begun.around.there begun.sound.distinct begun.around.finds begun.around.parameters first)

-- no variable is touched, and it is kept
notes-bare : (all : List Routine) (r : Routine) (old new : Resolver) (x : RoutineNames) → r.block ≡ Nil → new.touched ≡ old.touched → new.kept.items ≡ insert old.kept.items (length old.kept.items) x → IsKept all (known new.tables) x r →
    Notes all (r ∷ []) old new
notes-bare all r old new x e touched kept here = record {
  more = [];
  variables = [];
  log = touched ∙ sym (append-nil old.touched);
  shown = tt;
  same = λ o n. ap (λ (vs : List (Owner × List ℕ)). stands_among (vs ++ []) o n) (sym (empty-touches (quiet all r) (start_of r) r.block e));
  records = x ∷ [];
  kept = kept ∙ ap (λ (xs : List RoutineNames). insert xs (length old.kept.items) x) (sym (append-nil old.kept.items)) ∙ insert-behind old.kept.items [] x;
  declared = (here, tt);
}

-- whichever routine of a program it is, this is what the rules find
pub bare-shown : OnceLaw → OwnLaw → (blocks : List ℕ) (site : RoutineSite) (x : Plain) (block : ℕ) (declared : List DeclaredName) (old new : Resolver) (t1 : Tables) → ComesToBare blocks site x block declared old t1 new → ResolvesBare blocks site x old new
bare-shown once own_law blocks site x block declared old new t1 comes = λ t targets r done beyond h none begun.
    let all = routines_of t in
    let e = bare-block r x h.block none in
    let opens = comes.opens in
    let moves = opens.moves begun.around.have_names in
    let place = place-bare all targets r done blocks site old t1 block opens e (parameters-first once t targets r x done beyond h) begun in
    let sound = sound-begun all done targets r blocks site old None block site.owner.0 t1 t1 (outside_of all r) (start_of r) opens (Changes-same block t1) begun place (own_law.none_start t r h.facts.proper h.facts.program h.among) in
    let chain : chain_of t1.names.chains block ≡ block ∷ blocks = chain-begun blocks block old.tables.names.chains t1.names.chains opens.number (record { more = []; is = opens.chains ∙ sym (append-nil (old.tables.names.chains ++ (length old.tables.names.chains ∷ blocks) ∷ [])) }) in
    let one = comes.keeps_one.one in
    let kids = kids-here t r.place x h.here in
    let here : IsKept all (known t1) one r =
    comes.keeps_one.shows t r (start_of r) (record {
      node = x;
      kids = kids;
      heading = h.heading_is;
      block_is = h.block;
      later = begun.around.later;
      key = begun.around.key;
      declares = comes.declares t r blocks h.facts.proper h.facts.program h.among kids begun.around;
      place = place;
      owner = get_or-begins (known old.tables).table.owners (known t1).table.owners site.owner.0 nobody moves.grows.owners begun.around.there ∙ begun.around.owner_is;
      owns = (own_law.start t r h.facts.proper h.facts.program h.among).1;
      named = sound.named;
      signed = sound.signed;
      ends = λ n. ap (λ (p : Local). find (outside_of all r) p n) (sym (empty-ending all r e));
    }) in
    let told = IsTold-moves targets old.domains old.tables t1 comes.order moves.grows moves.domains begun.told in
    let around : Sound all done t1 blocks = sound-around all done t1 block blocks (subst (λ (bs : List ℕ). Sound all done t1 bs) chain sound) in
    let visits : Visits (length old.tables.names.chains) old.tables t1 = subst (λ (n : ℕ). Visits n old.tables t1) opens.number (Visits-moved block old.tables t1 moves) in
    record {
      visits = subst (λ (s : Tables). Visits (length old.tables.names.chains) old.tables s) (sym comes.tables) visits;
      sound = subst (λ (s : Tables). Sound all (done ++ []) s blocks) (sym comes.tables) (subst (λ (rs : List Routine). Sound all rs t1 blocks) (sym (append-nil done)) around);
      told = subst (λ (p : Told × Tables). IsTold targets p.0 (known p.1)) (λ i. (sym comes.domains i, sym comes.tables i)) told;
      notes = notes-bare all r old new one e comes.touched comes.keeps_one.kept (subst (λ (s : Tables). IsKept all (known s) one r) (sym comes.tables) here);
    }
