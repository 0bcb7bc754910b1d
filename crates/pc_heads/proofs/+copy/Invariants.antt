use Rattle.std.proofs.Common.{◌≡◌, take}
use Rattle.pc_heads.proofs.+copy.Given as goal

abbrev pub invariant-copy::copy_fields-loop-name : goal.invariant-copy::copy_fields-loop-name
invariant-copy::copy_fields-loop-name l = l.copied ≡ take l.name-index l.fields
