-- What the numbers of types, names, texts and signatures stand for.
use Rattle.std.specs.Prelude.{ℕ, List}
use Rattle.pc_types.specs.Table.{Table}
use Rattle.pc_facts.specs.declared.sighting.Signature.{Signature}

-- the types, the names in small letters, the characters of strings, and the signatures, each at its number
pub record Known : Type 0 where
  pub table : Table
  pub names : List (List ℕ)
  pub texts : List (List ℕ)
  pub signatures : List Signature
