-- The numbers of the statuses.
use Rattle.std.specs.Prelude.{ℕ}
use Rattle.pc_transcript.specs.declared.status.Status.{Status}
use Rattle.pc_transcript.specs.declared.status.Status.TheVariants.{Done, Refused, BadWords, ReadFault, WriteFault, TooManyLines, NoMemory}

-- The number that a program with this status ends with.
abbrev pub code_of : Status → ℕ
code_of Done = 0
code_of Refused = 1
code_of BadWords = 2
code_of ReadFault = 3
code_of WriteFault = 4
code_of TooManyLines = 5
code_of NoMemory = 6
