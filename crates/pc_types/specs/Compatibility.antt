-- Compatible and assignable types (ISO 7185, 6.4.5, 6.4.6).
use Rattle.std.specs.Prelude.{Bool, true, false, not, ◌&&◌, ◌||◌, ◌==◌, if◌then◌else◌}
use Rattle.pc_types.specs.Sameness.{same, required_number}
use Rattle.pc_types.specs.TypeClasses.{is_ordinal, host, is_set, is_pointer, string_length, is_string}
use Rattle.pc_types.specs.Shapes.{Shape, NoMembers, MembersType, SetType}

abbrev pub compatible_ordinals : Shape → Shape → Bool
compatible_ordinals a b = is_ordinal a && is_ordinal b && same (host a) (host b)

-- sets of compatible bases, both packed or neither; a set constructor with either
abbrev pub compatible_sets : Shape → Shape → Bool
compatible_sets (SetType d p a) (SetType c q b) = (if p then q else not q) && compatible_ordinals a b
compatible_sets (SetType d p a) (MembersType b) = compatible_ordinals a b
compatible_sets (SetType d p a) NoMembers = true
compatible_sets (MembersType a) (SetType c q b) = compatible_ordinals a b
compatible_sets (MembersType a) (MembersType b) = compatible_ordinals a b
compatible_sets (MembersType a) NoMembers = true
compatible_sets NoMembers b = is_set b
compatible_sets _ _ = false

abbrev pub is_nil : Shape → Bool
is_nil t = required_number t == 4

unfoldable pub compatible : Shape → Shape → Bool
compatible a b =
    same a b || compatible_ordinals a b || compatible_sets a b || (is_string a && string_length a == string_length b)
    || (is_pointer a && is_pointer b && (is_nil a || is_nil b))

-- whether a value of the second type may be assigned to a variable of the first, its range aside
unfoldable pub assignable : Shape → Shape → Bool
assignable to from =
    not (is_nil to) && (same to from || ((is_ordinal to || is_set to || is_string to) && compatible to from) || (is_pointer to && is_nil from))
