use Rattle.std.proofs.Common.{sym, ◌∙◌}
use Rattle.pc_syntax.proofs.PathSteps.{key_of-none}
use Rattle.pc_syntax.proofs.key.Key.read.Goals as goal

pub returns-then-not-is_small_name : goal.returns-then-not-is_small_name
returns-then-not-is_small_name c =
    let parts = rw (← c.deref-part-items.ensures.value) at c.in_ok-parts.ensures in
    key_of-none _ c.deref-part-items.result.now c.loop-part.part-index _ parts c.loop-part-test.true (sym c.is_small_name.ensures ∙ c.if-not-is_small_name.true)
