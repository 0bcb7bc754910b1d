-- At a routine of a program: what the tables say where its own block begins, lemmas.
use Rattle.std.proofs.Common.{ℕ, List, ◌∷◌, ap, sym, ◌∙◌, subst}
use Rattle.pc_names.specs.Chains.{chain_of}
use Rattle.pc_names.specs.Finding.{FindsAs, FindsAlong}
use Rattle.pc_names.specs.FindingLaws.{FindsAlong-find}
use Rattle.pc_names.specs.Table.{found_named}
use Rattle.pc_rules.specs.Meanings.{Found, Local}
use Rattle.pc_rules.specs.Outsides.{outside_of}
use Rattle.pc_rules.specs.RequiredMeanings.{required_or_missing}
use Rattle.pc_rules.specs.RoutineList.{routines_of}
use Rattle.pc_rules.specs.Routines.{Routine, bare}
use Rattle.pc_places.specs.Places.{known, IsPlace}
use Rattle.pc_places.specs.SceneLaws.{ShowsUnsigned-with_signature}
use Rattle.pc_places.specs.Scenes.{ShowsUnsigned}
use Rattle.pc_routines.specs.Bare.{bare_routine}
use Rattle.pc_standing.specs.OutsideLaws.{IsPlace-outside, means-inside}
use Rattle.pc_standing.specs.OwnsLaws.{owns-behind}
use Rattle.pc_standing.specs.Signed.{OwnsRoutines}
use Rattle.pc_routine_sites.specs.AroundLaws.{visit-behind, visit-late, visit-means}
use Rattle.pc_routine_sites.specs.BehindLaws.{behind-is}
use Rattle.pc_routine_sites.specs.ParametersLaws.{visit-parameters, visit-named, visit-have_names, visit-self, visit-key_is}
use Rattle.pc_routine_sites.specs.SiteLaws.{visit-owner_is, visit-there}
use Rattle.pc_routine_sites.specs.Sites.{StandsAround, behind_routine}
use Rattle.pc_routine_sites.specs.Steps.{Visit}

module _ (c : Visit) where
  abbrev pub all_here : List Routine
  all_here = routines_of c.t

  abbrev pub place_here : Local
  place_here = behind_routine c.outer c.l c.node

  -- ---- what names mean behind it

  pub visit-owns : OwnsRoutines c.outer.owner place_here.known
  visit-owns =
      subst (λ (m : Local). OwnsRoutines c.outer.owner m.known) (sym (behind-is c.outer c.l c.node c.routine))
      (owns-behind c.outer.owner (bare c.outer.means) c.l (bare_routine c.node) (c.next.owner, c.next.owns)).1

  outside : IsPlace c.new c.block c.around.0 (outside_of all_here c.outer) place_here
  outside = IsPlace-outside c.new c.block c.around.0 all_here c.outer place_here (visit-behind c)

  visit-finds : FindsAlong (ShowsUnsigned (known c.new) c.new.declarations.items) required_or_missing c.new.names (chain_of c.new.names.chains c.block) (outside_of all_here c.r).means
  visit-finds =
      let S = ShowsUnsigned (known c.new) c.new.declarations.items in
      let out = outside_of all_here c.outer in
      let along = FindsAlong-find S S required_or_missing c.new.names c.block outside.outer out place_here (λ n d m. ShowsUnsigned-with_signature (known c.new) c.new.declarations.items out n d m) outside.own outside.around
      outside.closed in
      subst (λ (bs : List ℕ). FindsAlong S required_or_missing c.new.names bs (outside_of all_here c.r).means) (sym outside.chain)
      (λ n. subst (λ (g : Found). FindsAs S (required_or_missing n) (found_named c.new.names (c.block ∷ outside.outer) n) g)
      (sym (means-inside all_here c.outer c.r place_here outside.closed visit-owns (visit-means c) n)) (along n))

  pub visit-stands : StandsAround all_here c.r c.new (chain_of c.new.names.chains c.block) c.f.site
  visit-stands = record {
    finds = visit-finds;
    owner_is = visit-owner_is c;
    there = visit-there c;
    parameters = visit-parameters c;
    are_named = visit-named c;
    have_names = visit-have_names c;
    self = visit-self c;
    key = visit-key_is c;
    place = c.went.place ∙ c.at_is ∙ sym (ap (λ (q : Routine). q.place) c.next.is);
    later = c.went.is_later ∙ visit-late c;
  }
