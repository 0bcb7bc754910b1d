use Rattle.std.proofs.Common.{◌≡◌, ◌+◌, ◌++◌, length, drop}
use Rattle.pc_views.specs.Limit.{Agrees}
use Rattle.pc_decl.specs.TypeText.{fields_text}
use Rattle.pc_decl.specs.Structures.{field_structures}
use Rattle.pc_decl.proofs.type_text.+texts.Given as goal

-- what is there and the fields that are left make up the whole
abbrev pub invariant-push_fields-loop-name : goal.invariant-push_fields-loop-name
invariant-push_fields-loop-name l = record {
  count : l.left + l.name-index ≡ length l.fields;
  text : Agrees (l.text.items ++ fields_text (field_structures (drop l.name-index l.fields))) (l.fn.text.items ++ fields_text (field_structures l.fields));
}
