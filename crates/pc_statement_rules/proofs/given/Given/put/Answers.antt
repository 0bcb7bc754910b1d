use Rattle.std.proofs.Common.{◌≡◌, ap, sym, ◌∙◌, rules, w64}
use mir.Val.{to_z, of_z}
use Rattle.pc_facts.specs.declared.sighting.Constant.TheVariants as constant
use Rattle.pc_statement_rules.proofs.GivenSteps.{ordinal-put, text-given, text-put, kept-types}
use Rattle.pc_statement_rules.proofs.given.Given.put.Goals as goal

pub returns-in_ok-put_ordinal-in-Ordinal-clause-values : goal.returns-in_ok-put_ordinal-in-Ordinal-clause-values
returns-in_ok-put_ordinal-in-Ordinal-clause-values c = λ k vs v same texts g h.
    let kept : to_z w64 (of_z w64 c.in-Ordinal.i) ≡ c.in-Ordinal.i = search rules in
    ordinal-put k _ c.args.self.now c.put_ordinal.new.self vs c.args.value v _ _ same (c.in-Ordinal.is ∙ ap constant.Ordinal (sym kept)) h g c.in_ok-put_ordinal-in-Ordinal.ensures.twice c.in_ok-put_ordinal-in-Ordinal.ensures.put
    (ap (λ ts. ts.items) c.in_ok-put_ordinal-in-Ordinal.ensures.texts)

pub returns-in_ok-put_text-in-Chars-clause-given : goal.returns-in_ok-put_text-in-Chars-clause-given
returns-in_ok-put_text-in-Chars-clause-given c = λ k vs v same texts g h.
    text-given k _ _ c.args.self.now vs c.args.value v c.in-Chars.field-0 _ same texts c.in-Chars.is h g c.in_ok-put_text-in-Chars.ensures.twice

pub returns-in_ok-put_text-in-Chars-clause-values : goal.returns-in_ok-put_text-in-Chars-clause-values
returns-in_ok-put_text-in-Chars-clause-values c = λ k vs v same texts g h.
    text-put k c.args.self.now c.put_text.new.self vs c.args.value v c.in-Chars.field-0 c.in-Chars.is h g c.in_ok-put_text-in-Chars.ensures.put
    (λ j. kept-types c.args.self.now c.put_text.new.self c.in_ok-put_text-in-Chars.ensures.ordinals j)
