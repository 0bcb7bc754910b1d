use Rattle.pc_transcript.proofs.WordSteps.{commands_with-none}
use Rattle.pc_transcript.proofs.run.pecan.Goals as goal

pub returns-clause-transcript : goal.returns-clause-transcript
returns-clause-transcript g c = λ none. rw (commands_with-none c.args.words.now none) c.without_words.ensures.transcript

pub returns-clause-interrupted : goal.returns-clause-interrupted
returns-clause-interrupted g c = λ none. rw (commands_with-none c.args.words.now none) c.without_words.ensures.interrupted

pub returns-clause-read_fault : goal.returns-clause-read_fault
returns-clause-read_fault g c = λ none. rw (commands_with-none c.args.words.now none) c.without_words.ensures.read_fault
