use Rattle.std.proofs.Common.{◌≡◌, ℕ, List, length, sym, subst}
use Rattle.std.specs.Option.{option_map, option_copied}
use Rattle.pc_names.specs.Bindings.{empty_slot, slot_in}
use Rattle.pc_names.specs.Chains.{AreBelow, chain_around}
use Rattle.pc_names.specs.declared.id.BlockId.{BlockId}
use Rattle.pc_facts.specs.declared.sighting.Declared.{Declared}
use Rattle.pc_openings.specs.Opened.{Carries}
use Rattle.pc_openings.specs.OpenedLaws.{opens}
use Rattle.pc_openings.proofs.opening.open_block.Goals as goal

pub returns : goal.returns
returns c =
    let old = c.args.tables.now in
    let around = option_map {T = BlockId} {U = ℕ} (λ a. a.0) c.args.around in
    let block = c.in_ok-block.block.0 in
    let ps = c.args.parameters.now in
    let a = c.begin.new.self in
    let b = c.declare_parameters.new.names in
    let begun = c.in_ok-block.ensures in
    opens around ps (option_copied c.args.node) block old a b c.announce_block.new.names begun.number begun.table
    (subst (λ (n : ℕ). AreBelow n (chain_around old.names.chains around)) (sym begun.number) begun.below)
    (λ n. subst (λ (k : ℕ). slot_in a.slots k n ≡ empty_slot) (sym begun.number) (begun.empty n))
    (subst (λ (ds : List Declared). Carries ds block ps (length ps) a b) c.as_slice.ensures.value c.in_ok-declare_parameters.ensures)
    c.in_ok-announce_block.ensures
