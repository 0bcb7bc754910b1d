-- What the required names mean (ISO 7185, 6.2.2.10, 6.3, 6.4.2.2).
use Rattle.std.specs.Prelude.{ℕ, ◌||◌, if◌then◌else◌, List, Option, Some, None, codes, pos}
use Rattle.std.specs.Str.{bytes_eq}
use Rattle.pc_types.specs.Shapes.{Shape, IntegerType, BooleanType, CharType}
use Rattle.pc_types.specs.TypeClasses.{maxint}
use Rattle.pc_scope.specs.Required.{is_required_type, is_required_constant, is_required_function, is_required_procedure, is_required_file}
use Rattle.pc_rules.specs.Meanings.{Ordinal, Value, Found, Required, Missing}

-- a name that no block declares: required, or not declared at all
abbrev pub required_or_missing : List ℕ → Found
required_or_missing n =
    if is_required_type n || is_required_constant n || is_required_function n || is_required_procedure n || is_required_file n then Required n else Missing

-- the required type of this name
abbrev pub required_type : List ℕ → Option Shape
required_type n =
    if bytes_eq n (codes "integer") then Some IntegerType
    else if bytes_eq n (codes "boolean") then Some BooleanType
    else if bytes_eq n (codes "char") then Some CharType
    else None

-- the required constant of this name
abbrev pub required_constant : List ℕ → Option Value
required_constant n =
    if bytes_eq n (codes "maxint") then Some (record { type = IntegerType; constant = Ordinal maxint })
    else if bytes_eq n (codes "false") then Some (record { type = BooleanType; constant = Ordinal (pos 0) })
    else if bytes_eq n (codes "true") then Some (record { type = BooleanType; constant = Ordinal (pos 1) })
    else None
