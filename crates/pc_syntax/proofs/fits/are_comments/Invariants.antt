use Rattle.std.proofs.Common.{◌≡◌, drop}
use Rattle.std.specs.List.{list_all}
use Rattle.pc_syntax.specs.Words.{is_comment}
use Rattle.pc_syntax.proofs.fits.are_comments.Given as goal

-- what is left decides
abbrev pub invariant-loop-note : goal.invariant-loop-note
invariant-loop-note l = list_all is_comment l.notes ≡ list_all is_comment (drop l.note-index l.notes)
