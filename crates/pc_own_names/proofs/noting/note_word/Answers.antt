use Rattle.std.proofs.Common.{ℕ, List, ◌++◌, ◌∷◌, [], sym, ap, ◌∙◌}
use Rattle.std.specs.Option.{is_some}
use Rattle.pc_syntax.specs.Words.{lowered}
use Rattle.pc_names.specs.Numbers.{number_of}
use Rattle.pc_names.specs.Table.{Table}
use Rattle.pc_own_names.specs.Noting.{kept}
use Rattle.pc_own_names.specs.NotingLaws.{Notes-old, Notes-new}
use Rattle.pc_own_names.proofs.noting.note_word.Goals as goal

pub returns-then-is_some : goal.returns-then-is_some
returns-then-is_some c =
    let texts = c.args.names.now.texts in
    let small = c.as_slice.ensures.value ∙ c.in_ok-small.ensures in
    Notes-old texts (lowered c.args.word.now) c.args.kind c.args.found.now.items
    (sym (c.is_some.ensures ∙ ap is_some (c.number_of.ensures ∙ ap (number_of texts) small)) ∙ c.if-is_some.true)

pub returns : goal.returns
returns c =
    let texts = c.args.names.now.texts in
    let found = c.args.found.now.items in
    let small = c.as_slice.ensures.value ∙ c.in_ok-small.ensures in
    Notes-new texts c.number.new.self.texts (lowered c.args.word.now) c.args.kind found c.push.new.self.items
    (sym (c.is_some.ensures ∙ ap is_some (c.number_of.ensures ∙ ap (number_of texts) small)) ∙ c.if-is_some.false)
    (ap (λ (t : Table). t.texts) c.in_ok-number.ensures.table)
    (c.in_ok-push.ensures.items ∙ ap (λ (n : List ℕ). found ++ kept (n, c.args.kind) ∷ []) (c.from_vec.ensures ∙ c.in_ok-small.ensures))
