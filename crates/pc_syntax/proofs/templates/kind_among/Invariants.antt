use Rattle.std.proofs.Common.{◌≡◌, drop}
use Rattle.pc_syntax.specs.Templates.{kind_among}
use Rattle.pc_syntax.proofs.templates.kind_among.Given as goal

-- what is left decides
abbrev pub invariant-loop-kind : goal.invariant-loop-kind
invariant-loop-kind l = kind_among l.kinds l.name ≡ kind_among (drop l.kind-index l.kinds) l.name
