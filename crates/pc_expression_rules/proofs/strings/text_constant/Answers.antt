use Rattle.std.proofs.Common.{◌≡◌, Some, None}
use Rattle.pc_expression_rules.specs.Texts.{only}
use Rattle.pc_expression_rules.proofs.ConstantSteps.{one-shown, kept-shown}
use Rattle.pc_expression_rules.proofs.strings.text_constant.Goals as goal

pub returns-in-Some-clause-shown : goal.returns-in-Some-clause-shown
returns-in-Some-clause-shown c = λ k t same.
    let a = c.only_character.ensures in
    let b = c.as_slice.ensures.value in
    let e : Some c.in-Some.character ≡ only c.args.chars.items = cc in
    one-shown k _ _ _ e (c.character_value.ensures k t)

pub returns-in_ok-keep_text-in-None-clause-shown : goal.returns-in_ok-keep_text-in-None-clause-shown
returns-in_ok-keep_text-in-None-clause-shown c = λ k t same.
    let a = c.only_character.ensures in
    let b = c.as_slice.ensures.value in
    let e : None ≡ only c.args.chars.items = cc in
    kept-shown k _ _ e (c.in_ok-keep_text-in-None.ensures.shown k same)
