-- Fields of records.
use Rattle.std.proofs.Common.{◌≡◌, ℕ, Bool, true, false, if◌then◌else◌, List, [], ◌∷◌, Some, None, option_map, refl}
use Rattle.std.specs.Str.{bytes_eq}
use Rattle.pc_types.specs.Shapes.{Definition, Shape}
use Rattle.pc_types.specs.Domains.{field_in}
use Rattle.pc_types.specs.TypeClasses.{fields_of}
use Rattle.pc_types.specs.Table.{Place, formed, numbered, fields_from}
use Rattle.pc_types.specs.Rows.{form_fields, find_field}
use Rattle.pc_types.specs.declared.form.TypeId.{TypeId}
use Rattle.pc_types.specs.declared.form.Form.{Form}
use Rattle.pc_types.specs.declared.form.Form.TheVariants as form

pub fields_of-formed : (places : List Place) (shapes : List Shape) (d : Definition) (f : Form) → fields_of (formed places shapes d f) ≡ fields_from shapes (form_fields f)
fields_of-formed places shapes d form.Integer = refl
fields_of-formed places shapes d form.Boolean = refl
fields_of-formed places shapes d form.Char = refl
fields_of-formed places shapes d form.Nil = refl
fields_of-formed places shapes d (form.Named ns) = refl
fields_of-formed places shapes d (form.Subrange h a b) = refl
fields_of-formed places shapes d (form.Array p i e) = refl
fields_of-formed places shapes d (form.Record p fs) = refl
fields_of-formed places shapes d (form.Set p b) = refl
fields_of-formed places shapes d (form.Members None) = refl
fields_of-formed places shapes d (form.Members (Some b)) = refl
fields_of-formed places shapes d (form.Text n) = refl
fields_of-formed places shapes d (form.Pointer j) = refl

-- a field is found in the record where it is found in the form
pub find_field-shape : (shapes : List Shape) (fs : List (List ℕ × TypeId)) (n : List ℕ) → option_map (numbered shapes) (find_field fs n) ≡ field_in (fields_from shapes fs) n
find_field-shape shapes [] n = refl
find_field-shape shapes (f ∷ fs) n = elim (bytes_eq f.0 n) as (λ (b : Bool). option_map (numbered shapes) (if b then Some f.1 else find_field fs n) ≡ (if b then Some (numbered shapes f.1) else field_in (fields_from shapes fs) n)) [
  | true ↦ refl
  | false ↦ find_field-shape shapes fs n
]

pub ruleset fields = (fields_of-formed, find_field-shape)
