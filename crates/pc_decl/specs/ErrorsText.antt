-- The text of the view `errors`: a line for each entry.
use Rattle.std.specs.Prelude.{ℕ, List, ◌++◌, codes}
use Rattle.std.specs.List.{flat_map}
use Rattle.pc_syntax.specs.Plain.{Plain}
use Rattle.pc_rules.specs.Attributes.{Entry}
use Rattle.pc_rules.specs.Errors.{errors_of}
use Rattle.pc_decl.specs.Shown.{path_text}

-- the line of an entry: its path, and its text behind a space
abbrev pub entry_line : Entry → List ℕ
entry_line e = path_text e.place ++ codes " " ++ e.text ++ codes "\n"

-- the text of the view
unfoldable pub errors_text : Plain → List ℕ
errors_text t = flat_map entry_line (errors_of t)
