-- What the state says at the list of the routines of a block: lemmas.
use Rattle.std.proofs.Common.{◌≡◌, ℕ, List, [], ◌∷◌, Some, ap, sym, ◌∙◌, subst}
use Rattle.pc_syntax.specs.Plain.{Plain, kids_of, forest_of}
use Rattle.pc_syntax.specs.PartsLaws.{forest_of-kids_of}
use Rattle.pc_syntax.specs.WellFormed.{IsProper, IsWellFormed, WellFormed}
use Rattle.pc_syntax.specs.declared.kind.Kind.TheVariants as kind
use Rattle.pc_rules.specs.Outsides.{outside_of}
use Rattle.pc_rules.specs.Places.{inner}
use Rattle.pc_rules.specs.RoutineList.{routines_of}
use Rattle.pc_rules.specs.Routines.{Routine, bare, start_of}
use Rattle.pc_environment.specs.Decorating.{place_after}
use Rattle.pc_program_laws.proofs.KindLemmas.{is_denoting}
use Rattle.pc_pointers.specs.Good.{Targets}
use Rattle.pc_places.specs.Places.{known, Changes, IsPlace}
use Rattle.pc_places.specs.declared.tables.Tables.{Tables}
use Rattle.pc_openings.specs.Opened.{Opens}
use Rattle.pc_standing.specs.PartLaws.{part-free}
use Rattle.pc_standing.specs.Signed.{HaveNoRoutine}
use Rattle.pc_standing.specs.Standing.{OwnLaw}
use Rattle.pc_domains.specs.Told.{IsTold}
use Rattle.pc_routine_sites.specs.declared.site.RoutineSite.{RoutineSite}
use Rattle.pc_resolve.specs.Blocks.{IsRoutineOf, StandsBegun}
use Rattle.pc_resolve.specs.Lists.{StandsIn}
use Rattle.pc_resolve.specs.declared.resolver.Resolver.{Resolver}
use Rattle.pc_resolve.proofs.BareLemmas.{IsPlace-bare}
use Rattle.pc_resolve.proofs.BegunLemmas.{sound-begun}
use Rattle.pc_resolve.proofs.ListLemmas.{enter-list}

-- no routine stands in the first three parts of a block
parts-free : (a b c d e : Plain) → WellFormed (forest_of (a ∷ b ∷ c ∷ d ∷ e ∷ [])) → a.kind ≡ kind.Consts → b.kind ≡ kind.Types → c.kind ≡ kind.Vars → HaveNoRoutine (forest_of (a ∷ b ∷ c ∷ []))
parts-free a b c d e w consts types vars =
    let second = w.4 in
    let third = second.4 in
    let first_is : IsWellFormed a = (w.0, w.1, w.2, w.3, tt) in
    let second_is : IsWellFormed b = (second.0, second.1, second.2, second.3, tt) in
    let third_is : IsWellFormed c = (third.0, third.1, third.2, third.3, tt) in
    let f = part-free a (ap is_denoting consts) first_is in
    let g = part-free b (ap is_denoting types) second_is in
    let h = part-free c (ap is_denoting vars) third_is in
    (f.0, f.1, (g.0, g.1, (h.0, h.1, tt)))

-- the state behind the parts, at the list
pub list-start : OwnLaw → (t : Plain) (targets : Targets) (r : Routine) (x : Plain) (done beyond : List Routine) (node a b c d e : Plain) (blocks : List ℕ) (site : RoutineSite) (s new : Resolver) (block : ℕ) (t1 : Tables) →
    IsRoutineOf t targets r x done beyond → IsProper node → kids_of node ≡ a ∷ b ∷ c ∷ d ∷ e ∷ [] → a.kind ≡ kind.Consts → b.kind ≡ kind.Types → c.kind ≡ kind.Vars →
    StandsBegun (routines_of t) targets r done blocks site s → Opens blocks site.parameters.items (Some node) block s.tables t1 → Changes block t1 new.tables →
    IsPlace new.tables block site.owner.0 (outside_of (routines_of t) r) (place_after (outside_of (routines_of t) r) (start_of r) (a ∷ b ∷ c ∷ [])) → IsTold targets new.domains (known new.tables) →
    StandsIn (routines_of t) targets r done (inner (place_after (outside_of (routines_of t) r) (start_of r) (a ∷ b ∷ c ∷ [])) kind.Routines d.kids) block site.owner.0 new
list-start law t targets r x done beyond node a b c d e blocks site s new block t1 h proper five consts types vars begun opens changes place told =
    let all = routines_of t in
    let out = outside_of all r in
    let l3 = place_after out (start_of r) (a ∷ b ∷ c ∷ []) in
    let trees : node.kids ≡ forest_of (a ∷ b ∷ c ∷ d ∷ e ∷ []) = sym (forest_of-kids_of node) ∙ ap forest_of five in
    let free = parts-free a b c d e (subst WellFormed trees proper.sound.3) consts types vars in
    let none = law.none_after out (start_of r) (a ∷ b ∷ c ∷ []) free (law.none_start t r h.facts.proper h.facts.program h.among) in
    record {
      place = enter-list new.tables block site.owner.0 (bare r.means) l3 d.kids (IsPlace-bare new.tables block site.owner.0 all r l3 place);
      owns = (law.after r.owner out (start_of r) (a ∷ b ∷ c ∷ []) (law.start t r h.facts.proper h.facts.program h.among)).1;
      sound = sound-begun all done targets r blocks site s (Some node) block site.owner.0 t1 new.tables out l3 opens changes begun place none;
      told = told;
    }
