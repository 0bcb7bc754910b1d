-- What is answered to a command is determined, want of memory aside, and so is the session that it leaves.
use Rattle.std.specs.Prelude.{◌≡◌, ◌≢◌, ℕ, List, Result, Ok, Err}
use Rattle.pc_syntax.specs.Plain.{Plain}
use Rattle.pc_pretty.specs.declared.range.Range.{Range}
use Rattle.pc_command.specs.declared.command.ViewName.{ViewName}
use Rattle.pc_command.specs.declared.refusal.Refusal.{Refusal}
use Rattle.pc_command.specs.declared.refusal.Refusal.TheVariants.{NoMemory}
use Rattle.pc_session.specs.declared.accepted.Accepted.{Accepted}
use Rattle.pc_session.specs.declared.made.Made.{Made}
use Rattle.pc_session.specs.PlainSession.{PlainSession}
use Rattle.pc_session.specs.Editing.{Writes, Retypes, Puts, Adds, Fills, Cuts}
use Rattle.pc_session.specs.Commands.{Edits, IsUndone, IsRedone, shown}

-- An edit makes one thing of a program.
abbrev pub MakesOne : (Plain → Result Made Refusal → Type 0) → Type 0
MakesOne makes = (p : Plain) (a b : Result Made Refusal) → a ≢ Err NoMemory → b ≢ Err NoMemory → makes p a → makes p b → a ≡ b

-- An edit has one answer, and leaves one session.
abbrev pub OneEdit : (Plain → Result Made Refusal → Type 0) → Type 0
OneEdit makes =
    (s t u : PlainSession) (a b : Result Accepted Refusal) → a ≢ Err NoMemory → b ≢ Err NoMemory → Edits makes s a t → Edits makes s b u → (a ≡ b) × (t ≡ u)

abbrev pub OneLoad : Type 0
OneLoad = (text : List ℕ) → OneEdit (Writes text)

abbrev pub OnePut : Type 0
OnePut = (path name : List ℕ) → OneEdit (Puts path name)

abbrev pub OneAdd : Type 0
OneAdd = (path : List ℕ) (k : ℕ) (name : List ℕ) → OneEdit (Adds path k name)

abbrev pub OneFill : Type 0
OneFill = (path text : List ℕ) → OneEdit (Fills path text)

abbrev pub OneRetype : Type 0
OneRetype = (range : Range) (text : List ℕ) → OneEdit (Retypes range text)

abbrev pub OneCut : Type 0
OneCut = (path : List ℕ) → OneEdit (Cuts path)

abbrev pub OneUndone : Type 0
OneUndone = (s t u : PlainSession) (a b : Result ℕ Refusal) → IsUndone s a t → IsUndone s b u → (a ≡ b) × (t ≡ u)

abbrev pub OneRedone : Type 0
OneRedone = (s t u : PlainSession) (a b : Result ℕ Refusal) → IsRedone s a t → IsRedone s b u → (a ≡ b) × (t ≡ u)

abbrev pub OneShown : Type 0
OneShown = (name : ViewName) (s : PlainSession) (text other : List ℕ) → text ≡ shown name s → other ≡ shown name s → text ≡ other
