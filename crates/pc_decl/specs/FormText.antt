-- The constants of a type by its form.
use Rattle.std.specs.Prelude.{ℕ, List, ℤ, nat_abs, ◌%◌}
use Rattle.std.specs.Fmt.{signed_decimal}
use Rattle.pc_types.specs.declared.form.Form.{Form}
use Rattle.pc_types.specs.declared.form.Form.TheVariants as form
use Rattle.pc_decl.specs.TypeText.{name_with, character_text, truth_text}

-- the constant of a type of this form with this ordinal; that of a character is a byte
abbrev pub form_constant : Form → ℤ → List ℕ
form_constant form.Boolean i = truth_text (nat_abs i)
form_constant form.Char i = character_text (nat_abs i % 256)
form_constant (form.Named names) i = name_with (nat_abs i) names
form_constant f i = signed_decimal i
