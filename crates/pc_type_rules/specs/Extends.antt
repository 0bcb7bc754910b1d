-- What was found stays found where types are added.
use Rattle.std.specs.Prelude.{◌≡◌, List, ◌++◌}
use Rattle.pc_types.specs.Shapes.{Owner, Shape, Domain}
use Rattle.pc_types.specs.Table.{Table}

-- the second table has all that the first one has, at the same numbers, and the same owners
pub record Extends (old new : Table) : Type 0 where
  pub more_shapes : List Shape
  pub shapes : new.shapes ≡ old.shapes ++ more_shapes
  pub owners : new.owners ≡ old.owners
  pub more_domains : List Domain
  pub domains : new.domains ≡ old.domains ++ more_domains
