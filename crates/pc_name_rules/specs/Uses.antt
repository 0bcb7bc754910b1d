-- What a use of a name allows: which classes, and which required names, and what these are called.
use Rattle.std.specs.Prelude.{ℕ, Bool, List, codes}
use Rattle.pc_scope.specs.Required as required
use Rattle.pc_rules.specs.Attributes.{Entry, Node}
use Rattle.pc_rules.specs.Meanings.{Class}
use Rattle.pc_rules.specs.NameClasses.{is_variable_class, is_value_class, is_function_class, is_procedure_class, is_type_class, is_constant_class}
use Rattle.pc_rules.specs.UsedNames.{name_entries, never}
use Rattle.pc_rules.specs.Variables.{is_required_value}
use Rattle.pc_name_rules.specs.declared.allowed.Allowed.{Allowed}
use Rattle.pc_name_rules.specs.declared.allowed.Allowed.TheVariants as allowed

-- whether a name that is declared with this class may stand there
abbrev pub allows_class : Allowed → Class → Bool
allows_class allowed.Variable = is_variable_class
allows_class allowed.Value = is_value_class
allows_class allowed.Function = is_function_class
allows_class allowed.Procedure = is_procedure_class
allows_class allowed.Type = is_type_class
allows_class allowed.Constant = is_constant_class

-- whether this required name may
abbrev pub allows_required : Allowed → List ℕ → Bool
allows_required allowed.Variable = never
allows_required allowed.Value = is_required_value
allows_required allowed.Function = required.is_required_function
allows_required allowed.Procedure = required.is_required_procedure
allows_required allowed.Type = required.is_required_type
allows_required allowed.Constant = required.is_required_constant

-- what the names that may stand there are called
abbrev pub called : Allowed → List ℕ
called allowed.Variable = codes "variable"
called allowed.Value = codes "variable"
called allowed.Function = codes "function"
called allowed.Procedure = codes "procedure"
called allowed.Type = codes "type"
called allowed.Constant = codes "constant"

-- rows 1, 2 and 4 of a name that is used so
abbrev pub used_entries : Allowed → Node → List Entry
used_entries u name = name_entries name (allows_class u) (allows_required u) (called u)
