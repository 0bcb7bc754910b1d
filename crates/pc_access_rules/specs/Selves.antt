-- The function whose block a statement part is in.
use Rattle.std.specs.Prelude.{◌≡◌, ℕ, ◌<◌, List, Option, Some, None, slice_get, get_or, length}
use Rattle.pc_types.specs.Shapes.{Owner}
use Rattle.pc_types.specs.Table.{nobody}
use Rattle.pc_facts.specs.Known.{Known}
use Rattle.pc_facts.specs.declared.sighting.Variable.{Variable}

-- the block that declares the function, and its name, by their numbers; there is none in the program and in procedures
abbrev pub ShowsSelf : Known → Option Variable → Option (Owner × List ℕ) → Type 0
ShowsSelf k None None = Unit {0}
ShowsSelf k (Some v) (Some w) =
    (get_or k.table.owners v.owner.0 nobody ≡ w.0) × (v.owner.0 < length k.table.owners) × (slice_get k.names v.name.0 ≡ Some w.1)
ShowsSelf k _ _ = ⊥
