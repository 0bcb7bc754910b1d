use Rattle.std.proofs.Common.{◌≡◌, ◌<◌, ℕ, length}
use Rattle.pc_names.specs.Bindings.{slot_in}
use Rattle.pc_names.specs.Chains.{chain_of, found}
use Rattle.pc_names.proofs.names.outwards.Given as goal

-- what is found from the block at hand is what is found from the first one
abbrev pub invariant-outwards : goal.invariant-outwards
invariant-outwards l = record {
  within : l.at < length l.blocks;
  same : found (λ (b : ℕ). slot_in l.slots b l.name) (chain_of l.blocks l.at) ≡ found (λ (b : ℕ). slot_in l.slots b l.name) (chain_of l.blocks l.block);
}

abbrev pub decreases-outwards : goal.decreases-outwards
decreases-outwards l = l.at
