use Rattle.std.proofs.Common.{◌≡◌, ℕ, List, ◌∷◌, length, ap, subst, arith, refl}
use Rattle.std.proofs.lemmas.Option.{slice_get_read}
use Rattle.pc_names.specs.Chains.{chain_of, chain_around}
use Rattle.pc_names.proofs.ChainSteps.{length-chains_of, chain_of-chains_of, less-if-some}
use Rattle.pc_names.proofs.blocks.Blocks.around.Goals as goal

pub index-requires : goal.index-requires
index-requires c = omega (arith, length-chains_of c.self.inside.arounds.items, ap length c.self.view_is)

pub returns-clause-chain : goal.returns-clause-chain
returns-clause-chain c =
    subst (λ (v : List (List ℕ)). chain_of v c.args.block ≡ c.args.block ∷ chain_around v c.index.result.now) c.self.view_is
    (chain_of-chains_of c.self.inside.arounds.items c.self.invariant c.args.block c.index.result.now (slice_get_read c.self.inside.arounds.items (length c.self.inside.arounds.items) c.args.block c.index.result.now refl (omega (arith, length-chains_of c.self.inside.arounds.items, ap length c.self.view_is)) c.index.ensures))

pub returns-clause-below : goal.returns-clause-below
returns-clause-below c = less-if-some c.self.inside.arounds.items c.self.invariant c.args.block c.index.result.now (slice_get_read c.self.inside.arounds.items (length c.self.inside.arounds.items) c.args.block c.index.result.now refl (omega (arith, length-chains_of c.self.inside.arounds.items, ap length c.self.view_is)) c.index.ensures)
