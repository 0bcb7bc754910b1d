-- Control variables, by what their names mean (ISO 7185, 6.8.3.9).
use Rattle.std.specs.Prelude.{ℕ, Bool, false, not, ◌&&◌, if◌then◌else◌, List, [], Option, Some, None, codes, get_or}
use Rattle.pc_types.specs.Sameness.{same_owner}
use Rattle.pc_types.specs.Shapes.{Shape}
use Rattle.pc_types.specs.Table.{Table, nobody}
use Rattle.pc_types.specs.TypeClasses.{is_ordinal}
use Rattle.pc_types.specs.declared.form.OwnerId.{OwnerId}
use Rattle.pc_types.specs.declared.operand.Operand.{Operand}
use Rattle.pc_names.specs.Standing.{meant}
use Rattle.pc_judgements.specs.Judged as judged
use Rattle.pc_rules.specs.Attributes.{Entry}
use Rattle.pc_rules.specs.Entries.{note, note_if, quoted}
use Rattle.pc_rules.specs.NameClasses.{is_own_variable, is_variable_class}
use Rattle.pc_facts.specs.declared.sighting.Sighting.{Sighting}
use Rattle.pc_facts.specs.declared.sighting.Sighting.TheVariants as sighting

-- whether a name means a variable of the variable declaration part of this block
abbrev pub is_local_at : Table → OwnerId → Sighting → Bool
is_local_at t o (sighting.Here d) = is_own_variable (meant d.class) && same_owner (get_or t.owners o.0 nobody) (get_or t.owners d.owner.0 nobody)
is_local_at t o _ = false

-- the type of a variable's name, or of a field's
abbrev pub variable_type_at : Sighting → Option Operand
variable_type_at (sighting.Here d) = if is_variable_class (meant d.class) then d.of else None
variable_type_at (sighting.Component o p) = Some o
variable_type_at _ = None

-- rows 18 and 19 of a control variable with this name
abbrev pub control_notes : Bool → Bool → Bool → List ℕ → List Entry
control_notes hole local changed w =
    if hole then []
    else if not local then note 18 (quoted (codes "control variable not local") w)
    else note_if changed 19 (quoted (codes "control variable is changed") w)

-- row 11 at a bound that is ordinal
abbrev pub is_bound_apart : Option Shape → Option Shape → Bool
is_bound_apart control None = false
is_bound_apart control (Some b) = is_ordinal b && judged.is_incompatible control b
