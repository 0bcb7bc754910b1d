-- What has been noted of a tree so far.
use Rattle.std.specs.Prelude.{ℕ, List}
use Rattle.pc_rules.specs.Attributes.{Entry}

-- the entries so far, with their places from where the report began; and the place of the node at hand
pub record Noted : Type 0 where
  pub entries : List Entry
  pub path : List ℕ
