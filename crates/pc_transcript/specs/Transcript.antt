-- What is answered to a whole script, and how much of that is written.
use Rattle.std.specs.Prelude.{◌≡◌, ℕ, ◌≤◌, List, [], ◌∷◌, ◌++◌, take, length, Option, if◌then◌else◌}
use Rattle.std.specs.Io.KnownBytes.{Appends}
use Rattle.pc_world.specs.Files.{Files}
use Rattle.pc_script.specs.Ahead.{Ahead}
use Rattle.pc_transcript.specs.State.{State}
use Rattle.pc_transcript.specs.Obeying.{Answers}
use Rattle.pc_script.specs.declared.given.Given.{Given}
use Rattle.pc_transcript.specs.declared.piece.Piece.{Piece}
use Rattle.pc_transcript.specs.declared.status.Status.{Status}
use Rattle.pc_transcript.specs.declared.status.Status.TheVariants.{Done, TooManyLines}

-- The bytes of some pieces.
unfoldable pub written_of : List Piece → List ℕ
written_of [] = []
written_of (piece ∷ pieces) = piece.text ++ written_of pieces

-- These pieces may be answered to these commands, one after another.
unfoldable pub Replies : State → List Given → List Piece → State → Type 0
Replies s [] [] t = t ≡ s
Replies s [] (piece ∷ pieces) t = ⊥
Replies s (given ∷ more) [] t = ⊥
Replies s (given ∷ more) (piece ∷ pieces) t = (m : State) × Answers s given piece m × Replies m more pieces t

-- These pieces may be answered to the commands of a script, with this status in the end.
pub record Transcript (script : Ahead Given) (s : State) (pieces : List Piece) (t : State) (status : Status) : Type 0 where
  pub replies : Replies s script.items pieces t
  pub ends : status ≡ (if script.further then TooManyLines else Done)

-- All pieces of a transcript were written, and its files are there now.
pub record WritesTranscript (script : Ahead Given) (s : State) (before now : Option (List ℕ)) (kept : Option Files) (status : Status) : Type 0 where
  pub pieces : List Piece
  pub last : State
  pub transcript : Transcript script s pieces last status
  pub written : Appends before now (written_of pieces)
  pub files : kept ≡ last.files

-- So many bytes of the pieces of a transcript were written.
pub record WritesFront (script : Ahead Given) (s : State) (before now : Option (List ℕ)) : Type 0 where
  pub pieces : List Piece
  pub last : State
  pub status : Status
  pub transcript : Transcript script s pieces last status
  pub count : ℕ
  pub written : Appends before now (take count (written_of pieces))

-- Replies to exactly these commands were written, and their files are there now.
pub record WritesReplies (commands : List Given) (s : State) (before now : Option (List ℕ)) (kept : Option Files) : Type 0 where
  pub pieces : List Piece
  pub last : State
  pub replies : Replies s commands pieces last
  pub written : Appends before now (written_of pieces)
  pub files : kept ≡ last.files

-- Of one answer to the command, so many bytes were written.
pub record WritesPart (s : State) (given : Given) (before now : Option (List ℕ)) : Type 0 where
  pub piece : Piece
  pub last : State
  pub answers : Answers s given piece last
  pub count : ℕ
  pub within : count ≤ length piece.text
  pub written : Appends before now (take count piece.text)

-- One whole answer to the command was written.
pub record WritesAnswer (s : State) (given : Given) (t : State) (before now : Option (List ℕ)) : Type 0 where
  pub piece : Piece
  pub answers : Answers s given piece t
  pub written : Appends before now piece.text

-- Of the commands that were to come, these are done, and the others still come.
abbrev pub Went : List Given → Ahead Given → Ahead Given → Type 0
Went done before now = (before.items ≡ done ++ now.items) × (now.further ≡ before.further)
