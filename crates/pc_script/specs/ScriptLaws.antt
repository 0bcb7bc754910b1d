-- When a script goes on after the units that it may have.
use Rattle.std.specs.Prelude.{ℕ, ◌≡◌, nat_lt, List}
use Rattle.std.proofs.Common.{refl}
use Rattle.pc_script.specs.Script.{unit_limit, unit_count, within, lines_ahead, commands_ahead, commands_in, script}

-- A script goes on after its first units exactly where it has more than it may have.
pub script-further : (bytes : List ℕ) → (script bytes).further ≡ nat_lt unit_limit (unit_count bytes)
unfolding commands_in commands_ahead lines_ahead within
script-further bytes = refl
