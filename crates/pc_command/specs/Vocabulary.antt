-- The words that a command line may begin with, and those that name a view.
use Rattle.std.specs.Prelude.{ℕ, List, [], ◌∷◌, Option, codes}
use Rattle.std.specs.List.{find}
use Rattle.std.specs.Str.{bytes_eq}
use Rattle.pc_command.specs.declared.command_word.CommandWord.{CommandWord}
use Rattle.pc_command.specs.declared.command_word.CommandWord.TheVariants as command
use Rattle.pc_command.specs.declared.view_word.ViewWord.{ViewWord}
use Rattle.pc_command.specs.declared.view_word.ViewWord.TheVariants as view

-- How a command word is written.
abbrev pub command_spelling : CommandWord → List ℕ
command_spelling command.Load = codes "load"
command_spelling command.Open = codes "open"
command_spelling command.Save = codes "save"
command_spelling command.Put = codes "put"
command_spelling command.Add = codes "add"
command_spelling command.Cut = codes "cut"
command_spelling command.Fill = codes "fill"
command_spelling command.Retype = codes "retype"
command_spelling command.Undo = codes "undo"
command_spelling command.Redo = codes "redo"
command_spelling command.Step = codes "step"
command_spelling command.Run = codes "run"
command_spelling command.Back = codes "back"
command_spelling command.Restart = codes "restart"
command_spelling command.Input = codes "input"
command_spelling command.Inputln = codes "inputln"
command_spelling command.Close = codes "close"
command_spelling command.Show = codes "show"
command_spelling command.Watch = codes "watch"
command_spelling command.Unwatch = codes "unwatch"

-- All command words.
unfoldable pub command_words : List CommandWord
command_words =
    command.Load ∷ command.Open ∷ command.Save ∷ command.Put ∷ command.Add ∷ command.Cut ∷ command.Fill ∷ command.Retype ∷ command.Undo ∷ command.Redo ∷ command.Step ∷ command.Run ∷ command.Back ∷ command.Restart ∷ command.Input ∷ command.Inputln ∷ command.Close ∷ command.Show ∷ command.Watch ∷ command.Unwatch ∷ []

-- The command word that is written so.
unfoldable pub command_word_of : List ℕ → Option CommandWord
command_word_of bytes = find (λ word. bytes_eq (command_spelling word) bytes) command_words

-- How a view word is written.
abbrev pub view_spelling : ViewWord → List ℕ
view_spelling view.Syntax = codes "syntax"
view_spelling view.Tree = codes "tree"
view_spelling view.Ns = codes "ns"
view_spelling view.Flow = codes "flow"
view_spelling view.Decls = codes "decls"
view_spelling view.Uses = codes "uses"
view_spelling view.Expr = codes "expr"
view_spelling view.Errors = codes "errors"
view_spelling view.Stack = codes "stack"
view_spelling view.Io = codes "io"
view_spelling view.Status = codes "status"

-- All view words.
unfoldable pub view_words : List ViewWord
view_words =
    view.Syntax ∷ view.Tree ∷ view.Ns ∷ view.Flow ∷ view.Decls ∷ view.Uses ∷ view.Expr ∷ view.Errors ∷ view.Stack ∷ view.Io ∷ view.Status ∷ []

-- The view word that is written so.
unfoldable pub view_word_of : List ℕ → Option ViewWord
view_word_of bytes = find (λ word. bytes_eq (view_spelling word) bytes) view_words
