use Rattle.std.proofs.Common.{ap, sym, ◌∙◌}
use Rattle.pc_syntax.specs.Words.{lowered}
use Rattle.pc_scope.proofs.Firsts.{lowered-twice}
use Rattle.pc_scope.proofs.naming.add_name.Goals as goal

pub invariant_of-push : goal.invariant_of-push
invariant_of-push c = record { small = ap lowered c.in_ok-small.ensures ∙ lowered-twice c.word.result.now ∙ sym c.in_ok-small.ensures }
