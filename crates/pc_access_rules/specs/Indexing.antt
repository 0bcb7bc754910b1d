-- Indexes of an array, as far as they are read.
use Rattle.std.specs.Prelude.{◌≡◌, ◌+◌, List, Option, length}
use Rattle.pc_types.specs.Shapes.{Typed}
use Rattle.pc_rules.specs.Attributes.{Node}
use Rattle.pc_rules.specs.Components.{indexed, indexed_type, all_typed, indexes_no_array, indexes_packed}
use Rattle.pc_rules.specs.HandedOn.{any_hole}
use Rattle.pc_facts.specs.Known.{Known}
use Rattle.pc_facts.specs.Shows.{ShowsType}
use Rattle.pc_access_rules.specs.declared.indexed.Indexed.{Indexed}

-- what is kept of these indexes of a variable of this type is what the rules find of them
pub record ShowsIndexed (k : Known) (s : Indexed) (t : Option Typed) (ns : List Node) : Type 0 where
  pub type : ShowsType k.table s.of (indexed_type t ns)
  pub entries : s.entries.items ≡ indexed t 1 ns
  pub next : s.next ≡ length ns + 1
  pub hole : s.hole ≡ any_hole ns
  pub typed : s.typed ≡ all_typed ns
  pub no_array : s.no_array ≡ indexes_no_array t ns
  pub packed : s.packed ≡ indexes_packed t ns
