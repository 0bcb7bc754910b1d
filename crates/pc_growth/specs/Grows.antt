-- What numbers stand for, as more is numbered.
use Rattle.std.specs.Prelude.{◌≡◌, ◌++◌, List}
use Rattle.pc_facts.specs.Known.{Known}

-- the second list begins with the first
pub record Begins {X : Type 0} (old new : List X) : Type 0 where
  pub more : List X
  pub is : new ≡ old ++ more

-- the second has all that the first has, at the same numbers; domains may lead elsewhere
pub record Grows (old new : Known) : Type 0 where
  pub shapes : Begins old.table.shapes new.table.shapes
  pub owners : Begins old.table.owners new.table.owners
  pub names : Begins old.names new.names
  pub texts : Begins old.texts new.texts
  pub signatures : Begins old.signatures new.signatures
