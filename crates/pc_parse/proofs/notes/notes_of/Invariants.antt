use Rattle.std.proofs.Common.{◌≡◌, map, take}
use Rattle.pc_parse.specs.Comments.{bytes_at}
use Rattle.pc_parse.proofs.notes.notes_of.Given as goal

abbrev pub invariant-loop-place : goal.invariant-loop-place
invariant-loop-place l = l.notes.items ≡ map (bytes_at l.text) (take l.place-index l.places)
