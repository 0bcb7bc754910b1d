use Rattle.std.proofs.Common.{◌||◌, codes, ◌∙◌}
use Rattle.std.specs.Str.{bytes_eq}
use Rattle.pc_syntax.specs.Words.{lowered}
use Rattle.pc_headings.specs.StepLaws.{or-end}
use Rattle.pc_headings.proofs.program.is_required_file.Goals as goal

pub returns : goal.returns
returns c =
    let w = lowered c.args.word.now in
    c.either.ensures ∙ (λ i. c.is_spelled-input.ensures i || c.is_spelled-output.ensures i) ∙ or-end (bytes_eq (codes "input") w) (bytes_eq (codes "output") w)
