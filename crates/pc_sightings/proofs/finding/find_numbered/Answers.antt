use Rattle.pc_syntax.specs.Words.{lowered}
use Rattle.pc_names.specs.Chains.{chain_of}
use Rattle.pc_sightings.proofs.MeetingSteps.{bound-numbered, here-numbered}
use Rattle.pc_sightings.specs.declared.met.Met.TheVariants as met
use Rattle.pc_sightings.proofs.finding.find_numbered.Goals as goal

pub returns-in-Here : goal.returns-in-Here
returns-in-Here c =
    bound-numbered c.args.names.now (chain_of c.args.names.now.chains c.args.block.0) (lowered c.args.word.now) c.args.name.0 c.find.result (met.Here c.in-Here.declaration c.args.name) c.requires.name c.find.ensures
    (here-numbered c.args.names.now.texts (lowered c.args.word.now) c.args.name c.in-Here.declaration c.find.result c.requires.name c.in-Here.is)
