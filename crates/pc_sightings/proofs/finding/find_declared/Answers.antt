use Rattle.std.proofs.Common.{ap, sym, ◌∙◌}
use Rattle.pc_syntax.specs.Words.{lowered}
use Rattle.pc_names.specs.Chains.{chain_of}
use Rattle.pc_names.specs.Numbers.{number_of}
use Rattle.pc_sightings.proofs.MeetingSteps.{outermost-unnumbered}
use Rattle.pc_sightings.proofs.finding.find_declared.Goals as goal

pub returns-in-None : goal.returns-in-None
returns-in-None c =
    outermost-unnumbered c.args.names.now (chain_of c.args.names.now.chains c.args.block.0) (lowered c.args.word.now) c.outermost.result
    (ap (number_of c.args.names.now.texts) (sym (c.as_slice.ensures.value ∙ c.in_ok-put_lowered.ensures)) ∙ sym c.number_of.ensures ∙ c.in-None.is)
    c.outermost.ensures
