use Rattle.std.proofs.Common.{◌≡◌, ◌+◌, ◌*◌, ◌++◌, length, drop}
use Rattle.pc_types.specs.Rows.{seen}
use Rattle.pc_views.specs.Limit.{Agrees}
use Rattle.pc_decl.proofs.Operands.{fields_of}
use Rattle.pc_decl.proofs.operand_text.+numbered.Given as goal

abbrev pub decreases-push_numbered : goal.decreases-push_numbered
decreases-push_numbered l = 2 * l.id.0 + 1

abbrev pub decreases-push_numbered_fields : goal.decreases-push_numbered_fields
decreases-push_numbered_fields l = 2 * l.id.0

-- what is there and the fields that are left make up the whole
abbrev pub invariant-push_numbered_fields-loop-name : goal.invariant-push_numbered_fields-loop-name
invariant-push_numbered_fields-loop-name l = record {
  count : l.left + l.name-index ≡ length l.fields;
  text : Agrees (l.text.items ++ fields_of (seen l.types).shapes (drop l.name-index l.fields)) (l.fn.text.items ++ fields_of (seen l.types).shapes l.fields);
}
