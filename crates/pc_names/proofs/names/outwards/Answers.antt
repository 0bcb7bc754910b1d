use Rattle.std.proofs.Common.{ℕ, ◌∙◌}
use Rattle.pc_names.specs.Bindings.{slot_in}
use Rattle.pc_names.specs.Chains.{chain_of, chain_around}
use Rattle.pc_names.proofs.SlotSteps.{found-known}
use Rattle.pc_names.proofs.names.outwards.Goals as goal

pub returns-in_default : goal.returns-in_default
returns-in_default c =
    found-known (λ (b : ℕ). slot_in c.args.slots.now b c.args.name) (chain_of c.args.blocks.now c.outwards.at) (chain_around c.args.blocks.now c.around-around.result) c.outwards.at c.slot.result c.bound.result
    c.around-around.ensures.chain c.slot.ensures c.bound.ensures c.in_default.not-Unbound
    ∙ c.outwards.invariant.same
