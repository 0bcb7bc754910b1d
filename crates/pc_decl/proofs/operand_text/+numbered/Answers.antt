use Rattle.std.proofs.Common.{◌-◌, ◌<◌, refl, arith}
use Rattle.pc_decl.proofs.Operands.{field-there, fields-more}
use Rattle.pc_decl.proofs.operand_text.+numbered.Goals as goal

pub push_numbered_fields-push_numbered-requires : goal.push_numbered_fields-push_numbered-requires
push_numbered_fields-push_numbered-requires t c =
    let there : c.loop-name-item.result.1.0 < c.args.id.0 = field-there c.args.id.0 c.loop-name.name-index c.args.fields.now c.loop-name-item.result c.requires c.loop-name-test.true c.loop-name-item.is in
    (omega (arith, there, c.decreases), tt)

pub push_numbered_fields-loop-name-preserved : goal.push_numbered_fields-loop-name-preserved
push_numbered_fields-loop-name-preserved t c = record {
  count = omega (arith, c.loop-name.invariant.count, c.loop-name-test.true);
  text =
      fields-more _ c.loop-name.text.items c.push_field_name.new.text.items c.push_numbered.new.text.items c.push_behind_field.new.text.items _
      c.loop-name.name-index c.loop-name.left (c.loop-name.left - 1) c.args.fields.now c.loop-name-item.result
      c.loop-name-test.true c.loop-name-item.is c.loop-name.invariant.count refl c.loop-name.invariant.text
      (rw c.bytes.ensures at c.in_ok-push_field_name.ensures) c.in_ok-push_numbered.ensures c.in_ok-push_behind_field.ensures;
}
