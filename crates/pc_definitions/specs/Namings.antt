-- The name of a definition that is gone through.
use Rattle.std.specs.Prelude.{◌≡◌, ◌<◌, ℕ, Bool, true, false, List, Some, None, Option, get_or, length}
use Rattle.pc_syntax.specs.Plain.{Plain}
use Rattle.pc_syntax.specs.Sorts.{is_hole}
use Rattle.pc_syntax.specs.Words.{lowered, is_among}
use Rattle.pc_types.specs.Table.{nobody}
use Rattle.pc_types.specs.declared.form.OwnerId.{OwnerId}
use Rattle.pc_types.specs.declared.operand.Operand.{Operand}
use Rattle.pc_names.specs.Numbers.{number_of}
use Rattle.pc_names.specs.Standing.{meant}
use Rattle.pc_names.specs.StandingLaws.{passing, knowing}
use Rattle.pc_names.specs.declared.name_class.NameClass.{NameClass}
use Rattle.pc_rules.specs.Meanings.{Meaning, Local}
use Rattle.pc_facts.specs.Known.{Known}
use Rattle.pc_facts.specs.Shows.{ShowsType, ShowsValues}
use Rattle.pc_facts.specs.declared.sighting.Value.{Value}
use Rattle.pc_definitions.specs.declared.naming.Naming.{Naming}
use Rattle.pc_definitions.specs.declared.naming.Naming.TheVariants as naming

-- whether there is no name
abbrev pub is_nameless : Naming → Bool
is_nameless naming.Nameless = true
is_nameless _ = false

-- whether the name stood before
abbrev pub is_second : Naming → Bool
is_second naming.Second = true
is_second _ = false

-- this is the name of the definition at whose name this node stands, by the numbers of names
abbrev pub ShowsNaming : List (List ℕ) → Plain → Naming → Type 0
ShowsNaming texts t naming.Nameless = is_hole t.kind ≡ true
ShowsNaming texts t (naming.First i) = (is_hole t.kind ≡ false) × (number_of texts (lowered t.word) ≡ Some i.0)
ShowsNaming texts t naming.Second = is_hole t.kind ≡ false

-- it stood before, or didn't, as the place says
abbrev pub FitsNaming : Local → Plain → Naming → Type 0
FitsNaming l t naming.Nameless = Unit {0}
FitsNaming l t (naming.First i) = is_among l.passed (lowered t.word) ≡ false
FitsNaming l t naming.Second = is_among l.passed (lowered t.word) ≡ true

-- its number is one of so many
abbrev pub IsNamingThere : ℕ → Naming → Type 0
IsNamingThere names (naming.First i) = i.0 < names
IsNamingThere names _ = Unit {0}

-- the place where the name stands before
abbrev pub entering : Local → Plain → Naming → Local
entering l t naming.Nameless = l
entering l t n = passing l (lowered t.word)

-- the place where its declaration is complete, if it is the first one
abbrev pub leaving : Local → Plain → Naming → Meaning → Local
leaving l t (naming.First i) m = knowing l (lowered t.word) m
leaving l t n m = l

-- what a declaration is made of shows this meaning
pub record ShowsParts (k : Known) (c : NameClass) (o : OwnerId) (v : Option Value) (ty : Option Operand) (m : Meaning) : Type 0 where
  pub class : meant c ≡ m.class
  pub owner : get_or k.table.owners o.0 nobody ≡ m.owner
  pub owner_there : o.0 < length k.table.owners
  pub value : ShowsValues k v m.value
  pub type : ShowsType k.table ty m.type
  pub bare : m.signature ≡ None
