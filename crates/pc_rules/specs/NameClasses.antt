-- Classes of declared names, by what they may be used as (ISO 7185, 6.3 to 6.6).
use Rattle.std.specs.Prelude.{Bool, true, false, ◌||◌}
use Rattle.pc_rules.specs.Meanings.{Class, ConstantName, ElementName, TypeName, VariableName, ValueName, ReferenceName, ProcedureName, FunctionName}

-- a constant may stand there
abbrev pub is_constant_class : Class → Bool
is_constant_class ConstantName = true
is_constant_class ElementName = true
is_constant_class _ = false

-- a type may
abbrev pub is_type_class : Class → Bool
is_type_class TypeName = true
is_type_class _ = false

-- a variable may, parameters included
abbrev pub is_variable_class : Class → Bool
is_variable_class VariableName = true
is_variable_class ValueName = true
is_variable_class ReferenceName = true
is_variable_class _ = false

-- a variable of a variable declaration part
abbrev pub is_own_variable : Class → Bool
is_own_variable VariableName = true
is_own_variable _ = false

-- a variable parameter
abbrev pub is_reference_class : Class → Bool
is_reference_class ReferenceName = true
is_reference_class _ = false

-- a function
abbrev pub is_function_class : Class → Bool
is_function_class FunctionName = true
is_function_class _ = false

-- a procedure
abbrev pub is_procedure_class : Class → Bool
is_procedure_class ProcedureName = true
is_procedure_class _ = false

-- a name that has a value: a variable, a constant, or a function
abbrev pub is_value_class : Class → Bool
is_value_class FunctionName = true
is_value_class c = is_variable_class c || is_constant_class c
