-- When what the table finds is what a name means by the rules (ISO 7185, 6.2.2).
use Rattle.std.specs.Prelude.{◌≡◌, ℕ, List}
use Rattle.pc_rules.specs.Meanings.{Meaning, Found, Here, Later}
use Rattle.pc_names.specs.declared.bound.Bound.{Bound}
use Rattle.pc_names.specs.declared.bound.Bound.TheVariants as bound
use Rattle.pc_names.specs.Standing.{meant}
use Rattle.pc_names.specs.Table.{Table, found_named}

-- what is found in the table is what the rules find, given which meaning a declaration with a number shows where it is used, and
-- what a name means that no block has
abbrev pub FindsAs : (ℕ → Meaning → Type 0) → Found → Bound → Found → Type 0
FindsAs shows outermost (bound.Here d) (Here m) = shows d.0 m
FindsAs shows outermost (bound.Later c) (Later k) = meant c ≡ k
FindsAs shows outermost bound.Unbound f = f ≡ outermost
FindsAs shows outermost _ _ = ⊥

-- from these blocks outwards, each name in small letters is found as it is meant
abbrev pub FindsAlong : (ℕ → Meaning → Type 0) → (List ℕ → Found) → Table → List ℕ → (List ℕ → Found) → Type 0
FindsAlong shows outermost t blocks means = (n : List ℕ) → FindsAs shows (outermost n) (found_named t blocks n) (means n)

-- a meaning but for the parameters and the result that go with a routine's name
abbrev pub ShowsBut : (ℕ → Meaning → Type 0) → ℕ → Meaning → Type 0
ShowsBut declares d m = (known : Meaning) × declares d known × (m ≡ record known { signature = m.signature })
