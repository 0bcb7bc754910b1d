use Rattle.std.proofs.Common.{List, [], None, refl, sym, subst}
use Rattle.pc_syntax.specs.Words.{lowered}
use Rattle.pc_names.specs.Chains.{chain_of}
use Rattle.pc_facts.specs.declared.sighting.Declared.{Declared}
use Rattle.pc_sightings.specs.Meeting.{ShowsMet}
use Rattle.pc_sightings.specs.MeetingLaws.{ShowsMet-along}
use Rattle.pc_places.specs.Places.{known}
use Rattle.pc_bodies.specs.Resolved.{ShowsDeclaration}
use Rattle.pc_block_names.proofs.finding.meaning_at.Goals as goal

pub returns : goal.returns
returns c = λ means along.
    let t = c.args.tables.now in
    let k = known t in
    let n = lowered c.args.word.now in
    let met = c.in_ok-met.met in
    let shows = ShowsMet-along (ShowsDeclaration k t.declarations.items) k t.names (chain_of t.names.chains c.args.block.0) means n met None along (c.in_ok-met.ensures k [] refl refl refl) in
    c.sighting_of-meaning.ensures k n (means n) (subst (λ (ds : List Declared). ShowsMet (ShowsDeclaration k ds) k n met (means n)) (sym c.as_slice.ensures.value) shows)
