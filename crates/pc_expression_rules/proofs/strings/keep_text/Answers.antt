use Rattle.std.proofs.Common.{◌≡◌, ap, length, arith}
use Rattle.pc_types.specs.Shapes.{TextType}
use Rattle.pc_expression_rules.proofs.ConstantSteps.{last-text}
use Rattle.pc_expression_rules.proofs.strings.keep_text.Goals as goal

pub returns-clause-shown : goal.returns-clause-shown
returns-clause-shown c = λ k same.
    let one : c.in_ok-u32_of.field-0 ≡ length c.args.chars.items = omega (arith, c.args.chars.ok.0, c.in_ok-u32_of.ensures, c.len.ensures) in
    let other : c.in_ok-u32_of-2.field-0 ≡ length c.args.texts.now.items = omega (arith, c.args.texts.now.ok.0, c.in_ok-u32_of-2.ensures, c.len-2.ensures) in
    record {
      shape = ap TextType one;
      there = tt;
      constant = last-text k.texts c.push.new.self.items c.args.texts.now.items c.args.chars.items _ _ same c.in_ok-push.ensures.items c.from_vec.ensures other;
    }
