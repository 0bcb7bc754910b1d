use Rattle.std.proofs.Common.{Err, inl, inr, arith, subst}
use Rattle.pc_syntax.specs.WellFormed.{size_limit-is}
use Rattle.pc_lex.specs.Views.{plain_symbols}
use Rattle.pc_parse.specs.Reading.{class_of}
use Rattle.pc_parse.specs.Answers.{ReadOrMeasured}
use Rattle.pc_session.proofs.measuring.unfilled.Goals as goal

pub over_with-requires-clause-over : goal.over_with-requires-clause-over
over_with-requires-clause-over c =
    let lexed = c.args.lexed.now in
    let measured = subst (λ e. ReadOrMeasured (class_of c.args.sort) lexed.text.now (plain_symbols lexed.symbols.items) lexed.tail.items (Err e)) c.in-Over.is c.requires.answered in
    elim measured.over [ inl deep ↦ inl (omega (arith, measured.levels, deep)) | inr large ↦ inr (omega (arith, size_limit-is, measured.nodes, large)) ]
