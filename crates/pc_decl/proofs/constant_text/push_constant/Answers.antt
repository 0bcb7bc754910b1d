use Rattle.std.proofs.Common.{◌∙◌, ◌++◌, ap, nat_abs}
use Rattle.std.proofs.Math.Facts.{to_z-of_z}
use Rattle.std.specs.Fmt.{signed_decimal}
use Rattle.pc_decl.proofs.Constants.{truth-of, letter-of, name-of, number-of}
use Rattle.pc_decl.proofs.constant_text.push_constant.Goals as goal

pub returns-in_ok-push_truth-in-Truth : goal.returns-in_ok-push_truth-in-Truth
returns-in_ok-push_truth-in-Truth c =
    truth-of c.args.text.now.items c.push_truth.new.text.items c.args.ty.now c.args.ordinal c.unsigned_abs-number.result c.in-Truth.is (c.unsigned_abs-number.ensures.value ∙ ap nat_abs (to_z-of_z c.ranges.ordinal)) c.in_ok-push_truth-in-Truth.ensures

pub returns-in_ok-push_character-in-Letter : goal.returns-in_ok-push_character-in-Letter
returns-in_ok-push_character-in-Letter c =
    letter-of c.args.text.now.items c.push_character.new.text.items c.args.ty.now c.args.ordinal c.unsigned_abs-number.result c.in-Letter.is (c.unsigned_abs-number.ensures.value ∙ ap nat_abs (to_z-of_z c.ranges.ordinal)) c.in_ok-push_character-in-Letter.ensures

pub returns-in_ok-push_name-in-Named : goal.returns-in_ok-push_name-in-Named
returns-in_ok-push_name-in-Named c =
    name-of c.args.text.now.items c.push_name.new.text.items c.args.ty.now c.args.ordinal c.unsigned_abs-number.result c.in-Named.names c.in-Named.is (c.unsigned_abs-number.ensures.value ∙ ap nat_abs (to_z-of_z c.ranges.ordinal))
    (rw c.as_slice.ensures at c.in_ok-push_name-in-Named.ensures)

pub returns-in_ok-push_decimal-in_default : goal.returns-in_ok-push_decimal-in_default
returns-in_ok-push_decimal-in_default c =
    number-of c.args.text.now.items c.push_decimal.new.text.items c.args.ty.now c.args.ordinal c.in_default.not-Truth c.in_default.not-Letter c.in_default.not-Named (c.in_ok-push_decimal-in_default.ensures ∙ ap (λ i. c.args.text.now.items ++ signed_decimal i) (to_z-of_z c.ranges.ordinal))
