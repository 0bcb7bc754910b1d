-- What is found while a template is put.
use Rattle.std.specs.Prelude.{◌≡◌, ℕ, List, None, Result, Ok, Err}
use Rattle.pc_syntax.specs.declared.error.EditError.{EditError}
use Rattle.pc_syntax.specs.declared.error.EditError.TheVariants as edit
use Rattle.pc_syntax.specs.Plain.{Plain}
use Rattle.pc_syntax.specs.Templates.{template_of}
use Rattle.pc_command.specs.declared.refusal.Refusal.{Refusal}
use Rattle.pc_command.specs.declared.refusal.Refusal.TheVariants as refusal
use Rattle.pc_session.specs.Editing.{IsTemplate}

-- The refusal of an edit that a tree answers so.
abbrev pub refused : EditError → Refusal
refused edit.NoPlace = refusal.NoPlace
refused edit.NotFit = refusal.NotFit 0
refused (edit.TooDeep depth) = refusal.TooDeep depth
refused (edit.TooLarge size) = refusal.TooLarge size
refused edit.NoMemory = refusal.NoMemory

-- The template of a name; want of memory may always come.
abbrev pub MakesTemplate : List ℕ → Result Plain Refusal → Type 0
MakesTemplate name (Ok piece) = IsTemplate name piece
MakesTemplate name (Err refusal.NoTemplate) = template_of name ≡ None
MakesTemplate name (Err refusal.NoMemory) = Unit {0}
MakesTemplate name (Err _) = ⊥
