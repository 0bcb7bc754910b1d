use Rattle.std.proofs.Common.{◌≡◌, ◌+◌, ◌++◌, ◌∷◌, [], ◌∙◌, ap, sym, refl, length}
use Rattle.pc_syntax.specs.Words.{lowered, is_among}
use Rattle.pc_denoters.specs.FieldLaws.{named-name}
use Rattle.pc_denoters.specs.PassingLaws.{twice_entry}
use Rattle.pc_denoters.proofs.fields.add_name.Goals as goal

pub returns : goal.returns
returns c = λ base ts t at no_hole word so.
    let f = c.args.found.now in
    let mid = c.args.before.now.items in
    let twice = c.is_among-twice.result in
    let small : c.in_ok-small.small ≡ lowered t.word = c.in_ok-small.ensures ∙ ap lowered (sym word) in
    named-name base mid _ ts t f _ twice no_hole so (c.in_ok-push-2.ensures.items ∙ ap (λ w. mid ++ w ∷ []) small)
    (c.is_among-twice.ensures ∙ ap (λ ns. is_among ns c.bytes.result.now) c.deref.ensures.value ∙ ap (is_among mid) (c.bytes.ensures ∙ small))
    (c.in_ok-push.ensures.items ∙ ap (λ w. f.names.items ++ w ∷ []) (c.in_ok-name.ensures ∙ ap lowered (sym word)))
    (c.in_ok-add_twice.ensures ∙ ap (λ k. f.twice.items ++ twice_entry k twice c.args.word.now) at ∙ ap (λ w. f.twice.items ++ twice_entry (1 + length ts) twice w) (sym word)) refl
