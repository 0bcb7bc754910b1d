-- Behind the list of the routines of a block: lemmas.
use Rattle.std.proofs.Common.{◌≡◌, ℕ, List, [], ◌∷◌, ◌++◌, ap, sym, ◌∙◌, subst, length}
use Rattle.pc_syntax.specs.Plain.{Plain, trees_of}
use Rattle.pc_names.specs.Chains.{chain_of}
use Rattle.pc_rules.specs.Attributes.{nodes}
use Rattle.pc_rules.specs.Decorated.{decorate}
use Rattle.pc_rules.specs.Errors.{entries_of}
use Rattle.pc_rules.specs.HandedOn.{kid_entries}
use Rattle.pc_rules.specs.Outsides.{outside_of}
use Rattle.pc_rules.specs.OwnBlock.{own}
use Rattle.pc_rules.specs.RoutineList.{key_of, routines_below, routines_in, routines_of}
use Rattle.pc_rules.specs.Routines.{Routine, bare}
use Rattle.pc_environment.specs.Decorating.{place_after}
use Rattle.pc_needs.proofs.HeadingKinds.{routines-kind}
use Rattle.pc_pointers.specs.Good.{Targets}
use Rattle.pc_growth.specs.Grows.{Begins, Grows}
use Rattle.pc_growth.specs.GrowsLaws.{Begins-then}
use Rattle.pc_places.specs.Places.{known, Changes, Keeps, Moves}
use Rattle.pc_places.specs.declared.tables.Tables.{Tables}
use Rattle.pc_domains.specs.RetargetedLaws.{Changes-retargeted}
use Rattle.pc_domains.specs.Told.{Retargeted}
use Rattle.pc_block_laws.specs.Touched.{TouchedLaw}
use Rattle.pc_declaration_parts.specs.declared.parts.Parts.{Parts}
use Rattle.pc_routine_sites.specs.Visits.{Visits}
use Rattle.pc_routine_sites.specs.VisitsLaws.{Visits-changed, Visits-kept, Visits-moved, Visits-then}
use Rattle.pc_routine_sites.specs.declared.site.RoutineSite.{RoutineSite}
use Rattle.pc_resolve.specs.Blocks.{IsPart, IsRoutineOf, Notes}
use Rattle.pc_resolve.specs.Lists.{ResolvesList, StandsIn}
use Rattle.pc_resolve.specs.declared.resolver.BlockEntries.{BlockEntries}
use Rattle.pc_resolve.specs.declared.resolver.Resolver.{Resolver}
use Rattle.pc_resolve.proofs.BegunLemmas.{chain-begun}
use Rattle.pc_resolve.proofs.BlockList.{below-list}
use Rattle.pc_resolve.proofs.KeptLemmas.{all-grow}
use Rattle.pc_resolve.proofs.ListEntered.{BlockLaws, HasFive, ListEntered, list_begins}

-- what is so behind the list, by the routines inside the routine
pub record ListGone (t : Plain) (targets : Targets) (r : Routine) (x : Plain) (done : List Routine) (a b c d : Plain) (block : ℕ) (site : RoutineSite) (old new : Resolver) (below : BlockEntries) : Type 0 where
  pub own_are : below.own.items ≡ kid_entries 1 (nodes (decorate (outside_of (routines_of t) r) (list_begins t r a b c d) (own d.kids)))
  pub inside_are : below.inside.items ≡ entries_of (routines_of t) (routines_below r 1 x.kids)
  pub stands : StandsIn (routines_of t) targets r (done ++ routines_below r 1 x.kids) (place_after (bare r.means) (list_begins t r a b c d) (trees_of (own d.kids))) block site.owner.0 new
  pub visits : Visits block old.tables new.tables
  pub notes : Notes (routines_of t) (routines_below r 1 x.kids) old new

pub list-gone : BlockLaws → (t : Plain) (targets : Targets) (r : Routine) (x : Plain) (done beyond : List Routine) (number : ℕ) (node a b c d e : Plain) (block : ℕ) (site : RoutineSite) (p : Parts) (old new : Resolver) (below : BlockEntries) →
    HasFive node a b c d e → IsRoutineOf t targets r x done beyond → IsPart x number node → ListEntered t targets r done beyond number a b c d block site p old → ResolvesList block site number d old new below →
    ListGone t targets r x done a b c d block site old new below
list-gone laws t targets r x done beyond number node a b c d e block site p old new below five h part at list =
    let all = routines_of t in
    let l = list_begins t r a b c d in
    let rs = routines_in r.means l [] (r.place ++ number ∷ 4 ∷ []) (key_of r.owner) d.kids in
    let same : routines_below r 1 x.kids ≡ rs =
    below-list laws.routines laws.unsigned t targets r x done beyond number node a b c d e h part five.is five.proper five.kids (routines-kind d.kind five.routines) in
    let got = list t targets r done beyond l at.list at.kid at.waiting at.site_is at.stands in
    record {
      own_are = got.0;
      inside_are = got.1 ∙ ap (entries_of all) (sym same);
      stands = subst (λ (qs : List Routine). StandsIn all targets r (done ++ qs) (place_after (bare r.means) l (trees_of (own d.kids))) block site.owner.0 new) (sym same) got.2;
      visits = got.3;
      notes = subst (λ (qs : List Routine). Notes all qs old new) (sym same) got.4;
    }

-- how the tables have changed where the statement part begins
pub visits-before : (block : ℕ) (t0 t1 t2 t3 t4 : Tables) → Moves block t0 t1 → Changes block t1 t2 → Visits block t2 t3 → Retargeted t3 t4 → Visits block t0 t4
visits-before block t0 t1 t2 t3 t4 moves changes visits retargeted =
    Visits-then block t0 t2 t4 (Visits-then block t0 t1 t2 (Visits-moved block t0 t1 moves) (Visits-changed block t1 t2 changes))
    (Visits-then block t2 t3 t4 visits (Visits-changed block t3 t4 (Changes-retargeted block t3 t4 retargeted)))

-- and behind it
pub visits-behind : (block : ℕ) (t0 t4 t5 : Tables) → Visits block t0 t4 → Keeps t4 t5 → Visits block t0 t5
visits-behind block t0 t4 t5 visits keeps = Visits-then block t0 t4 t5 visits (Visits-kept block t4 t5 keeps)

-- the blocks around the block, behind the list
pub chain-behind : (blocks : List ℕ) (block : ℕ) (c0 c1 c2 c3 : List (List ℕ)) → block ≡ length c0 → c1 ≡ c0 ++ (length c0 ∷ blocks) ∷ [] → Begins c1 c2 → Begins c2 c3 → chain_of c3 block ≡ block ∷ blocks
chain-behind blocks block c0 c1 c2 c3 number chains g h = chain-begun blocks block c0 c3 number (subst (λ (cs : List (List ℕ)). Begins cs c3) chains (Begins-then c1 c2 c3 g h))

-- what the log says of the routines inside, and which are kept, from where the block begins to its statement part
pub Notes-around : TouchedLaw → (all rs : List Routine) (s0 s2 s3 s4 : Resolver) → s2.touched ≡ s0.touched → s2.kept ≡ s0.kept → s4.touched ≡ s3.touched → s4.kept ≡ s3.kept → Grows (known s3.tables) (known s4.tables) → Notes all rs s2 s3 → Notes all rs s0 s4
Notes-around law all rs s0 s2 s3 s4 first before last behind g h = record {
  more = h.more;
  variables = h.variables;
  log = last ∙ h.log ∙ ap (λ (l : List (ℕ × ℕ)). l ++ h.more) first;
  shown =
      law.grown (known s3.tables).table.owners (known s4.tables).table.owners (known s3.tables).names (known s4.tables).names h.more h.variables g.owners g.names h.shown;
  same = h.same;
  records = h.records;
  kept = ap (λ v. v.items) behind ∙ h.kept ∙ ap (λ v. v.items ++ h.records) before;
  declared = all-grow all (known s3.tables) (known s4.tables) h.records rs g h.declared;
}
