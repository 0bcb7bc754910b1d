use Rattle.std.proofs.Common.{◌≡◌, refl, sym, subst, ap, ◌∙◌}
use Rattle.pc_syntax.specs.Words.{lowered}
use Rattle.pc_names.specs.Chains.{chain_of}
use Rattle.pc_rules.specs.Meanings.{entry_of, find, field_or}
use Rattle.pc_environment.specs.Sight.{Sight}
use Rattle.pc_facts.specs.Shows.{ShowsFound}
use Rattle.pc_names.specs.Table.{found_named}
use Rattle.pc_types.specs.Rows.{seen}
use Rattle.pc_sightings.specs.Meeting.{Meets}
use Rattle.pc_sightings.specs.MeetingLaws.{ShowsMet-along}
use Rattle.pc_sightings.specs.Opened.{ShowsOpened}
use Rattle.pc_bodies.specs.Resolved.{known, ShowsDeclaration}
use Rattle.pc_bodies.specs.NameLaws.{shows-name, shows-hole}
use Rattle.pc_bodies.proofs.names.used_name.Goals as goal

pub returns-in_ok-met-in-Name-clause-shows : goal.returns-in_ok-met-in-Name-clause-shows
returns-in_ok-met-in-Name-clause-shows c = λ out l s isn sight using stands.
    let b = c.args.body.now in
    let k = known b c.args.going.now in
    let node = c.args.node.now in
    let n = lowered node.word in
    let opened = subst (λ os. ShowsOpened (seen b.types.now) os stands.fields) (sym c.as_slice.ensures.value) stands.opens in
    let meets : Meets k n c.in_ok-met-in-Name.met (entry_of stands.fields n) (found_named b.names.now (chain_of b.names.now.chains b.block.0) n) =
    subst (λ w. Meets k (lowered w) c.in_ok-met-in-Name.met (entry_of stands.fields (lowered w)) (found_named b.names.now (chain_of b.names.now.chains b.block.0) (lowered w))) c.word.ensures
    (c.in_ok-met-in-Name.ensures k stands.fields refl refl opened) in
    let met = ShowsMet-along (ShowsDeclaration k b.declarations.now) k b.names.now (chain_of b.names.now.chains b.block.0) stands.outer n c.in_ok-met-in-Name.met (entry_of stands.fields n) stands.along meets in
    let means : find out l n ≡ field_or (entry_of stands.fields n) (stands.outer n) = ap (λ (x : Sight). x.means n) sight ∙ stands.means n in
    shows-name k _ out l node (sym c.kind.ensures.value ∙ c.in-Name.is) using refl
    (subst (λ f. ShowsFound k n c.sighting_of-sighting.result f) (sym means) (c.sighting_of-sighting.ensures k n (field_or (entry_of stands.fields n) (stands.outer n)) met))

pub returns-in_default : goal.returns-in_default
returns-in_default c = record {
  shows = λ out l s isn sight using stands. shows-hole _ _ out l c.args.node.now (λ e. c.in_default.not-Name (c.kind.ensures.value ∙ e)) isn refl;
  opened = refl;
  texts = refl;
  touched = refl;
}
