use Rattle.std.proofs.Common.{◌≡◌, take}
use Rattle.pc_denoters.specs.FieldNaming.{NamedSoFar}
use Rattle.pc_denoters.proofs.fields.field_names.Given as goal

abbrev pub invariant-loop-kid : goal.invariant-loop-kid
invariant-loop-kid l = NamedSoFar l.initial.before.items l.before.items (take l.kid-index l.kid-items) l.found × (l.i ≡ l.kid-index)
