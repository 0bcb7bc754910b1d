use Rattle.std.proofs.Common.{◌≡◌, ◌+◌, ◌++◌, drop, length}
use Rattle.pc_decl.specs.TypeText.{listed}
use Rattle.pc_decl.proofs.constant_text.push_listed.Given as goal

abbrev pub invariant-loop-name : goal.invariant-loop-name
invariant-loop-name l = record {
  count : l.left + l.name-index ≡ length l.names;
  text : l.text.items ++ listed (drop l.name-index l.names) ≡ l.fn.text.items ++ listed l.names;
}
