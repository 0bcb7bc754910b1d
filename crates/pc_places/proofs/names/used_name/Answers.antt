use Rattle.std.proofs.Common.{refl, sym, subst, ◌∙◌}
use Rattle.pc_syntax.specs.Words.{lowered}
use Rattle.pc_names.specs.Chains.{chain_of}
use Rattle.pc_names.specs.Table.{found_named}
use Rattle.pc_rules.specs.Meanings.{entry_of, field_or}
use Rattle.pc_facts.specs.Shows.{ShowsFound}
use Rattle.pc_sightings.specs.Meeting.{Meets}
use Rattle.pc_sightings.specs.MeetingLaws.{ShowsMet-along}
use Rattle.pc_places.specs.Scenes.{ShowsUnsigned, unsigned_found}
use Rattle.pc_places.specs.NamedLaws.{shows-used, shows-unused}
use Rattle.pc_places.proofs.names.used_name.Goals as goal

pub returns-in_ok-met-in-Name : goal.returns-in_ok-met-in-Name
returns-in_ok-met-in-Name c = λ k out l isn using table sees.
    let node = c.args.node.now in
    let names = c.args.names.now in
    let n = lowered node.word in
    let blocks = chain_of names.chains c.args.block.0 in
    let meets : Meets k n c.in_ok-met-in-Name.met (entry_of sees.fields n) (found_named names blocks n) =
    subst (λ w. Meets k (lowered w) c.in_ok-met-in-Name.met (entry_of sees.fields (lowered w)) (found_named names blocks (lowered w))) c.word.ensures
    (c.in_ok-met-in-Name.ensures k sees.fields table sees.named sees.opens) in
    let met = ShowsMet-along (ShowsUnsigned k c.args.declarations.now) k names blocks sees.outer n c.in_ok-met-in-Name.met (entry_of sees.fields n) sees.along meets in
    shows-used k _ out l node (sym c.kind.ensures.value ∙ c.in-Name.is) using refl
    (subst (λ f. ShowsFound k n c.sighting_of-sighting.result (unsigned_found f)) (sym (sees.means_are n))
    (c.sighting_of-sighting.ensures k n (field_or (entry_of sees.fields n) (sees.outer n)) met))

pub returns-in_default : goal.returns-in_default
returns-in_default c = λ k out l isn using table sees. shows-unused k _ out l c.args.node.now (λ e. c.in_default.not-Name (c.kind.ensures.value ∙ e)) isn refl
