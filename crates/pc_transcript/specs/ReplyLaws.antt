-- What is answered to a command of a script is determined, want of memory aside.
use Rattle.std.specs.Prelude.{◌≡◌, ◌≢◌}
use Rattle.pc_script.specs.declared.given.Given.{Given}
use Rattle.pc_transcript.specs.declared.piece.Piece.{Piece}
use Rattle.pc_transcript.specs.State.{State}
use Rattle.pc_transcript.specs.Obeying.{Answers, no_memory}

-- Two pieces that may be answered to a command, neither of them for want of memory, are one, and so are the states that they leave.
abbrev pub OneReply : Type 0
OneReply =
    (s t u : State) (given : Given) (p q : Piece) → p ≢ no_memory → q ≢ no_memory → Answers s given p t → Answers s given q u → (p ≡ q) × (t ≡ u)
