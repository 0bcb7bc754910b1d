-- Fields of records by the numbers of their types.
use Rattle.std.specs.Prelude.{◌≡◌, ℕ, Bool, true, ◌&&◌, List, [], ◌∷◌, ◌++◌, Option, Some, None}
use Rattle.std.specs.Option.{is_some}
use Rattle.pc_types.specs.Table.{Table}
use Rattle.pc_types.specs.declared.form.TypeId.{TypeId}
use Rattle.pc_rules.specs.Attributes.{Node}
use Rattle.pc_rules.specs.DeclaringNames.{names_in}
use Rattle.pc_rules.specs.StructuredTypes.{field_names, field_denoter}
use Rattle.pc_type_rules.specs.declared.records.FieldList.{FieldList}
use Rattle.pc_type_rules.specs.Denoted.{IsNumber}

-- a list of fields: their names, and the number of their type
pub record ShowsFields (t : Table) (f : FieldList) (n : Node) : Type 0 where
  pub names : f.names.items ≡ names_in (field_names n)
  pub type : IsNumber t f.of (field_denoter n).as_value.type

-- the number, or that of integer where there is none
abbrev pub number_or : Option TypeId → TypeId
number_or (Some i) = i
number_or None = record { 0 = 0 }

-- fields with these names and one type
abbrev pub fields_with : TypeId → List (List ℕ) → List (List ℕ × TypeId)
fields_with i [] = []
fields_with i (n ∷ ns) = (n, i) ∷ fields_with i ns

-- the fields of lists
abbrev pub all_fields : List FieldList → List (List ℕ × TypeId)
all_fields [] = []
all_fields (f ∷ fs) = fields_with (number_or f.of) f.names.items ++ all_fields fs

-- whether the type of each is known
abbrev pub all_known : List FieldList → Bool
all_known [] = true
all_known (f ∷ fs) = is_some f.of && all_known fs
