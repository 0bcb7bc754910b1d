-- The words of forms.
use Rattle.std.specs.Prelude.{ℕ, Bool, true, List}
use Rattle.pc_syntax.specs.Words.{is_identifier, is_forward, is_numeral, is_text}
use Rattle.pc_forms.specs.declared.form.Form.{Form}
use Rattle.pc_forms.specs.declared.form.Form.TheVariants as form

-- whether the word of a form is one that it may have
abbrev pub word_fits_in : {A L : Type 0} → Form A L (List ℕ) → Bool
word_fits_in (form.Forward word) = is_forward word
word_fits_in (form.Cnumber word) = is_numeral word
word_fits_in (form.Cstring word) = is_text word
word_fits_in (form.Number word) = is_numeral word
word_fits_in (form.Text word) = is_text word
word_fits_in (form.Name word) = is_identifier word
word_fits_in _ = true
