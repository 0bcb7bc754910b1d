-- When what is handed on so far is what these kids have.
use Rattle.std.specs.Prelude.{◌≡◌, List, length}
use Rattle.pc_rules.specs.Attributes.{Entry, Node, each_kid}
use Rattle.pc_rules.specs.HandedOn.{any_hole}
use Rattle.pc_rules.specs.Statements.{opened_entries}
use Rattle.pc_facts.specs.Known.{Known}
use Rattle.pc_statement_rules.specs.declared.kids.Handing.{Handing}
use Rattle.pc_statement_rules.specs.declared.accesses.Opening.{Opening}

-- the hole of these kids, the first of which is kid 1, the entries of each, given those of a kid by itself, and how many they are
pub record ShowsEach (of_kid : Node → List Entry) (h : Handing) (ns : List Node) : Type 0 where
  pub hole : h.hole ≡ any_hole ns
  pub entries : h.entries.items ≡ each_kid of_kid 1 ns
  pub count : h.count ≡ length ns

-- the entries of kids as values
abbrev pub ShowsHanded : Known → Handing → List Node → Type 0
ShowsHanded k h ns = ShowsEach (λ n. n.as_value.entries) h ns

-- the entries of accesses that a with names
abbrev pub ShowsOpened : Known → Opening → List Node → Type 0
ShowsOpened k o ns = ShowsEach opened_entries o.parts ns
