-- The blocks around a block, and what a name means from a block outwards (ISO 7185, 6.2.2.7).
use Rattle.std.specs.Prelude.{◌≡◌, ℕ, ◌<◌, List, [], ◌∷◌, ◌++◌, length, fold, slice_get, Option, Some, None, unwrap_or}
use Rattle.pc_names.specs.Bindings.{bound_or}
use Rattle.pc_names.specs.declared.slot.Slot.{Slot}
use Rattle.pc_names.specs.declared.bound.Bound.{Bound}
use Rattle.pc_names.specs.declared.bound.Bound.TheVariants.{Unbound}

-- a block and the blocks around it, the innermost first, by their numbers; none where there is no such block
abbrev pub chain_of : List (List ℕ) → ℕ → List ℕ
chain_of chains block = unwrap_or (slice_get chains block) []

-- the same where a block may stand in no other one
abbrev pub chain_around : List (List ℕ) → Option ℕ → List ℕ
chain_around chains None = []
chain_around chains (Some block) = chain_of chains block

-- the chains with that of one more block, which stands directly in this one, or in none
abbrev pub with_block : List (List ℕ) → Option ℕ → List (List ℕ)
with_block chains around = chains ++ (length chains ∷ chain_around chains around) ∷ []

-- the chains of blocks that stand directly in these, each begun after the one that it stands in
abbrev pub chains_of : List (Option ℕ) → List (List ℕ)
chains_of arounds = fold with_block [] arounds

-- each block stands in one that was begun before it
abbrev pub IsNested : List (Option ℕ) → Type 0
IsNested arounds = (block around : ℕ) → slice_get arounds block ≡ Some (Some around) → around < block

-- each of the numbers is smaller
abbrev pub AreBelow : ℕ → List ℕ → Type 0
AreBelow n [] = Unit {0}
AreBelow n (m ∷ ms) = (m < n) × AreBelow n ms

-- what a name means from a block outwards, given what each block has of it: the innermost block that has it decides
abbrev pub found : (ℕ → Slot) → List ℕ → Bound
found slot [] = Unbound
found slot (block ∷ blocks) = bound_or (slot block) (found slot blocks)
