use Rattle.pc_openings.specs.Opened.{Carries}
use Rattle.pc_openings.proofs.parameters.declare_parameters.Given as goal

abbrev pub invariant-loop-parameter : goal.invariant-loop-parameter
invariant-loop-parameter l = Carries l.declarations l.block.0 l.parameters l.parameter-index l.initial.names l.names
