-- How a table changes.
use Rattle.std.specs.Prelude.{◌≡◌, ℕ, zero, suc, List, [], ◌∷◌, ◌++◌, Option}
use Rattle.pc_types.specs.Shapes.{Owner, Shape, IntegerType, BooleanType, CharType, NilType, Domain}
use Rattle.pc_types.specs.Table.{Table, nobody}

-- the second table has one more shape, at the end
pub record GrowsBy (old new : Table) (t : Shape) : Type 0 where
  pub shapes : new.shapes ≡ old.shapes ++ t ∷ []
  pub owners : new.owners ≡ old.owners
  pub domains : new.domains ≡ old.domains

-- the second table has one more owner, or one more domain, at the end
pub record AddsOwner (old new : Table) (o : Owner) : Type 0 where
  pub shapes : new.shapes ≡ old.shapes
  pub owners : new.owners ≡ old.owners ++ o ∷ []
  pub domains : new.domains ≡ old.domains

pub record AddsDomain (old new : Table) (d : Domain) : Type 0 where
  pub shapes : new.shapes ≡ old.shapes
  pub owners : new.owners ≡ old.owners
  pub domains : new.domains ≡ old.domains ++ d ∷ []

-- these domains, the one with this number with another target
abbrev pub retargeted : List Domain → ℕ → Option Shape → List Domain
retargeted [] i t = []
retargeted (d ∷ ds) zero t = record { owner = d.owner; name = d.name; shape = t } ∷ ds
retargeted (d ∷ ds) (suc i) t = d ∷ retargeted ds i t

-- the domain with this number has another target
pub record Retargets (old new : Table) (i : ℕ) (t : Option Shape) : Type 0 where
  pub shapes : new.shapes ≡ old.shapes
  pub owners : new.owners ≡ old.owners
  pub domains : new.domains ≡ retargeted old.domains i t

-- the table of a program that has no types of its own
abbrev pub opening : Table
opening = record { shapes = IntegerType ∷ BooleanType ∷ CharType ∷ NilType ∷ []; owners = nobody ∷ []; domains = [] }
