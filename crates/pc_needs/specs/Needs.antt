-- The needs of a routine: each name that it uses, with its meaning there.
use Rattle.std.specs.Prelude.{ℕ, List, map}
use Rattle.pc_rules.specs.Routines.{Routine}
use Rattle.pc_needs.specs.Answers.{NameMeaning, meaning}
use Rattle.pc_needs.specs.UsedNames.{names_of}

-- a used name with its meaning
pub record Need : Type 0 where
  pub name : List ℕ
  pub meaning : NameMeaning

-- the need of a name
abbrev pub need_of : List Routine → Routine → List ℕ → Need
need_of rs r n = record { name = n; meaning = meaning rs r n }

-- the needs of a routine, in the order of the names in the text
unfoldable pub needs : List Routine → Routine → List Need
needs rs r = map (need_of rs r) (names_of rs r)
