-- How a run ends where the words of the command line can't be read.
use Rattle.std.specs.declared.io.ErrorKind.{ErrorKind}
use Rattle.std.specs.declared.io.ErrorKind.TheVariants.{OutOfMemory}
use Rattle.pc_transcript.specs.declared.status.Status.{Status}
use Rattle.pc_transcript.specs.declared.status.Status.TheVariants.{BadWords, NoMemory}

-- The status for an error of this kind: there was no memory, or a word isn't text.
abbrev pub unread : ErrorKind → Status
unread OutOfMemory = NoMemory
unread _ = BadWords
