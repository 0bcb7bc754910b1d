use Rattle.std.proofs.Common.{◌≡◌, take, map, Some}
use Rattle.pc_syntax.specs.Paths.{steps_of}
use Rattle.pc_syntax.proofs.path.Path.read.Given as goal

-- the steps so far are those of the parts so far
abbrev pub invariant-loop-part : goal.invariant-loop-part
invariant-loop-part l = steps_of (map (λ part. part.now) (take l.part-index l.part-items)) ≡ Some l.steps.items
