use Rattle.std.proofs.Common.{◌≡◌, ◌≢◌, ◌∙◌, sym}
use Rattle.pc_transcript.specs.declared.status.Status.TheVariants.{ReadFault, WriteFault, NoMemory, Done, TooManyLines}
use Rattle.pc_transcript.proofs.RunSteps.{IfSome-all, WritesFront-none, few_units, many_units}
use Rattle.pc_transcript.proofs.run.without_words.Goals as goal

pub returns-in_default-clause-interrupted : goal.returns-in_default-clause-interrupted
returns-in_default-clause-interrupted g c = IfSome-all _ _ (λ bytes told. WritesFront-none _ _ _)

pub returns-in_default-new-clause-interrupted : goal.returns-in_default-new-clause-interrupted
returns-in_default-new-clause-interrupted g c = IfSome-all _ _ (λ bytes told. WritesFront-none _ _ _)

pub returns-clause-done : goal.returns-clause-done
returns-clause-done g c =
    λ e.
    let read : c.run.result ≢ ReadFault = λ other. let no : Done ≡ ReadFault = sym e ∙ other in cc in
    let write : c.run.result ≢ WriteFault = λ other. let no : Done ≡ WriteFault = sym e ∙ other in cc in
    let memory : c.run.result ≢ NoMemory = λ other. let no : Done ≡ NoMemory = sym e ∙ other in cc in
    few_units _ _ _ _ _ _ c.run.result c.in-Ok.ensures.fresh e (c.run.ensures.transcript read write memory)

pub returns-clause-too_many : goal.returns-clause-too_many
returns-clause-too_many g c =
    λ e.
    let read : c.run.result ≢ ReadFault = λ other. let no : TooManyLines ≡ ReadFault = sym e ∙ other in cc in
    let write : c.run.result ≢ WriteFault = λ other. let no : TooManyLines ≡ WriteFault = sym e ∙ other in cc in
    let memory : c.run.result ≢ NoMemory = λ other. let no : TooManyLines ≡ NoMemory = sym e ∙ other in cc in
    many_units _ _ _ _ _ _ c.run.result c.in-Ok.ensures.fresh e (c.run.ensures.transcript read write memory)
