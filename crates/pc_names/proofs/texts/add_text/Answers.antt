use Rattle.std.proofs.Common.{◌≡◌, ℕ, List, Some, map, ap, sym, subst, ◌∙◌, arith, rules}
use Rattle.pc_names.specs.Numbers.{number_of, AreDistinct}
use Rattle.pc_names.proofs.NumberSteps.{length-names, number_of-end, insert-number_of, AreDistinct-end}
use Rattle.pc_names.proofs.texts.add_text.Goals as goal

pub returns-clause-texts : goal.returns-clause-texts
returns-clause-texts c =
    let is : c.in_ok-text.text.items ≡ c.args.small.now = search rules in
    insert-number_of (λ k. k.items) c.args.texts.now.keys c.insert.new.self.keys c.in_ok-text.text c.args.small.now is c.requires.new_name c.in_ok-insert.ensures.keys

pub returns-clause-number : goal.returns-clause-number
returns-clause-number c =
    let is : c.in_ok-text.text.items ≡ c.args.small.now = search rules in
    ap (λ (ms : List (List ℕ)). number_of ms c.args.small.now)
    (insert-number_of (λ k. k.items) c.args.texts.now.keys c.insert.new.self.keys c.in_ok-text.text c.args.small.now is c.requires.new_name c.in_ok-insert.ensures.keys)
    ∙ number_of-end (map (λ k. k.items) c.args.texts.now.keys) c.args.small.now c.requires.new_name
    ∙ ap Some (omega (arith, length-names (λ k. k.items) c.args.texts.now.keys, c.len.ensures.len, c.in_ok-next.ensures))

pub returns-clause-distinct : goal.returns-clause-distinct
returns-clause-distinct c =
    let is : c.in_ok-text.text.items ≡ c.args.small.now = search rules in
    subst AreDistinct
    (sym (insert-number_of (λ k. k.items) c.args.texts.now.keys c.insert.new.self.keys c.in_ok-text.text c.args.small.now is c.requires.new_name c.in_ok-insert.ensures.keys))
    (AreDistinct-end (map (λ k. k.items) c.args.texts.now.keys) c.args.small.now c.requires.new_name c.requires.distinct)
