-- What the rules of variables judge of types that may be unknown, as shapes alone.
use Rattle.std.specs.Prelude.{ℕ, Bool, false, not, ◌&&◌, List, Option, Some, None}
use Rattle.std.specs.Option.{is_none}
use Rattle.pc_types.specs.Domains.{field_in}
use Rattle.pc_types.specs.TypeClasses.{is_packed, fields_of}
use Rattle.pc_types.specs.Shapes.{Shape}
use Rattle.pc_rules.specs.Components.{is_array, is_record, is_made_pointer}
use Rattle.pc_judgements.specs.Judged.{is_unfit}

-- a type that is known and no array
abbrev pub is_no_array : Option Shape → Bool
is_no_array t = is_unfit is_array t

-- a type that is known and no record
abbrev pub is_no_record : Option Shape → Bool
is_no_record t = is_unfit is_record t

-- a type that is known and no pointer type of a denoter
abbrev pub is_no_pointer : Option Shape → Bool
is_no_pointer t = is_unfit is_made_pointer t

-- a type that is known and a packed array
abbrev pub is_packed_array : Option Shape → Bool
is_packed_array None = false
is_packed_array (Some t) = is_array t && is_packed t

-- a record that has no field with this name; in a hole's place no name is missed
abbrev pub lacks_field : Option Shape → List ℕ → Bool → Bool
lacks_field None n hole = false
lacks_field (Some t) n hole = is_record t && not hole && is_none (field_in (fields_of t) n)
