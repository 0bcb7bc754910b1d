-- What is done when all domains get their types (ISO 7185, 6.4.4).
use Rattle.std.specs.Prelude.{◌≡◌, Bool, if◌then◌else◌, Option, Some, None, length}
use Rattle.pc_types.specs.Shapes.{Shape}
use Rattle.pc_types.specs.Rows.{IsInOrder}
use Rattle.pc_types.specs.Table.{Table, shape_at}
use Rattle.pc_types.specs.declared.operand.Operand.{Operand}
use Rattle.pc_places.specs.Places.{known}
use Rattle.pc_places.specs.declared.tables.Tables.{Tables}
use Rattle.pc_domains.specs.Closing.{Settling}
use Rattle.pc_domains.specs.Rows.{TellsRows}
use Rattle.pc_domains.specs.Told.{Told}

-- the domains that were not told have the types that stand under their names, and all types have flags
pub record Telling (d e : Told) (a b : Tables) : Type 0 where
  pub rows : TellsRows d.closed d.types d.told (length (known a).table.domains) a b
  pub settles : Settling d (record e { told = d.told }) b
  pub told : e.told ≡ length (known b).table.domains
  pub order : IsInOrder b.types

-- the type, if there is one and it passes the test
abbrev pub if_whole_type : (Shape → Bool) → Table → Option Operand → Option Operand
if_whole_type p table None = None
if_whole_type p table (Some o) = if p (shape_at table o) then Some o else None
