-- What a run has between two commands.
use Rattle.std.specs.Prelude.{Option}
use Rattle.pc_world.specs.Files.{Files}
use Rattle.pc_session.specs.PlainSession.{PlainSession}

-- A session, and the files of the shelf where it tells them.
pub record State : Type 0 where
  pub session : PlainSession
  pub files : Option Files

-- The two together.
abbrev pub state_of : PlainSession → Option Files → State
state_of session files = record { session = session; files = files }
