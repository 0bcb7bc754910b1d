-- The constants of an enumerated type as declarations.
use Rattle.std.specs.Prelude.{ℕ, Option, None, option_map, pos}
use Rattle.pc_types.specs.declared.form.OwnerId.{OwnerId}
use Rattle.pc_types.specs.declared.operand.Operand.{Operand}
use Rattle.pc_names.specs.declared.id.NameId.{NameId}
use Rattle.pc_names.specs.declared.name_class.NameClass.TheVariants as class
use Rattle.pc_facts.specs.declared.sighting.Constant.TheVariants as constant
use Rattle.pc_facts.specs.declared.sighting.Declared.{Declared}
use Rattle.pc_facts.specs.declared.sighting.Value.{Value}

-- the value of the constant with this number of a type
abbrev pub element_value : ℕ → Operand → Value
element_value i o = record { of = o; constant = constant.Ordinal (pos i) }

-- the constant with this number of a type, where that is known
abbrev pub element : OwnerId → NameId → ℕ → Option Operand → Declared
element owner name i of = record { class = class.Element; owner = owner; name = name; value = option_map (element_value i) of; of = None; signature = None }
