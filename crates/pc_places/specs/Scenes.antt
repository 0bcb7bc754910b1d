-- What names mean by the tables, but for the parameters and the results of routines, which no declaration needs (ISO 7185, 6.2.2).
use Rattle.std.specs.Prelude.{◌≡◌, ℕ, Bool, false, List, Some, None, slice_get}
use Rattle.pc_types.specs.Shapes.{Typed}
use Rattle.pc_types.specs.declared.operand.Operand.{Operand}
use Rattle.pc_names.specs.Chains.{chain_of}
use Rattle.pc_names.specs.Finding.{FindsAlong}
use Rattle.pc_names.specs.Numbers.{AreDistinct}
use Rattle.pc_names.specs.Table.{Table}
use Rattle.pc_rules.specs.Attributes.{Attributes}
use Rattle.pc_rules.specs.Meanings.{Meaning, Found, Here, entry_of, field_or, is_routine_class}
use Rattle.pc_rules.specs.RequiredMeanings.{required_or_missing}
use Rattle.pc_sightings.specs.Opened.{ShowsOpened}
use Rattle.pc_facts.specs.Known.{Known}
use Rattle.pc_facts.specs.Shows.{ShowsMeaning}
use Rattle.pc_facts.specs.declared.sighting.Declared.{Declared}

-- a meaning without parameters and result
abbrev pub unsigned : Meaning → Meaning
unsigned m = record m { signature = None }

-- the same of what a name means
abbrev pub unsigned_found : Found → Found
unsigned_found (Here m) = Here (unsigned m)
unsigned_found f = f

-- what is found at a node, likewise
abbrev pub unsigned_at : Attributes → Attributes
unsigned_at a = record a { found = unsigned_found a.found }

-- a declaration under this name shows this meaning, parameters and result aside, which only routines have
pub record Declares (k : Known) (n : List ℕ) (x : Declared) (m : Meaning) : Type 0 where
  pub shows : ShowsMeaning k n (record x { signature = None }) (unsigned m)
  pub bare : is_routine_class m.class ≡ false → m.signature ≡ None
  pub plain : is_routine_class m.class ≡ false → x.signature ≡ None

-- a declaration by its number shows this meaning under the name that it has
pub record ShowsUnsigned (k : Known) (ds : List Declared) (d : ℕ) (m : Meaning) : Type 0 where
  pub declared : Declared
  pub is : slice_get ds d ≡ Some declared
  pub name : List ℕ
  pub shows : Declares k name declared m

-- what names mean at a place, given the tables, the block and the records that withs have opened there
pub record SeesNames (k : Known) (t : Table) (ds : List Declared) (block : ℕ) (opened : List Operand) (means : List ℕ → Found) : Type 0 where
  pub outer : List ℕ → Found
  pub fields : List (List ℕ × (Typed × Bool))
  pub along : FindsAlong (ShowsUnsigned k ds) required_or_missing t (chain_of t.chains block) outer
  pub opens : ShowsOpened k.table opened fields
  pub means_are : (n : List ℕ) → means n ≡ field_or (entry_of fields n) (outer n)
  pub named : k.names ≡ t.texts
  pub distinct : AreDistinct t.texts
