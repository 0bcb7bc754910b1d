use Rattle.std.proofs.Common.{◌≡◌, pos, rules, w64}
use mir.Val.{to_z, of_z}
use Rattle.pc_decl.proofs.Operands.{string-of}
use Rattle.pc_decl.proofs.operand_pieces.push_string_type.Goals as goal

pub returns : goal.returns
returns c =
    let number : to_z w64 (of_z w64 c.from.result) ≡ pos c.args.size = search rules in
    string-of c.args.text.now.items c.extend_from_slice.new.self.items c.push_decimal.new.text.items c.extend_from_slice-2.new.self.items c.push_decimal-2.new.text.items _ c.args.size
    c.in_ok-extend_from_slice.ensures.items c.in_ok-push_decimal.ensures c.in_ok-extend_from_slice-2.ensures.items (rw number at c.in_ok-push_decimal-2.ensures) c.in_ok-extend_from_slice-3.ensures.items
