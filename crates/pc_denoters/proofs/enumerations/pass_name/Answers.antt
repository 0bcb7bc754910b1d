use Rattle.std.proofs.Common.{◌≡◌, ◌+◌, ◌++◌, ◌∷◌, [], ◌∙◌, Some, ap, sym, subst, refl, length}
use Rattle.pc_syntax.specs.Words.{lowered}
use Rattle.pc_names.specs.Numbers.{number_of}
use Rattle.pc_denoters.specs.PassingLaws.{passed-name, twice_entry}
use Rattle.pc_denoters.proofs.enumerations.pass_name.Goals as goal

pub returns : goal.returns
returns c = λ base ts t at no_hole word so.
    let id = c.in_ok-name.name in
    let twice = c.is_passed-twice.result in
    let f = c.args.found.now in
    passed-name c.args.block.0 base c.args.tables.now c.number.new.tables c.pass.new.tables ts t f _ id twice no_hole so c.in_ok-name.ensures.keeps
    (subst (λ w. number_of c.number.new.tables.names.texts (lowered w) ≡ Some id.0) (sym word) c.in_ok-name.ensures.number) c.in_ok-name.ensures.there (λ o out l m is place. c.is_passed-twice.ensures o out l m is place)
    (λ o out l m is place. c.in_ok-pass.ensures.place o out l m is place) c.in_ok-pass.ensures.moves (c.in_ok-push.ensures.items ∙ ap (λ w. f.smalls.items ++ w ∷ []) (c.in_ok-small.ensures ∙ ap lowered (sym word))) c.in_ok-push-2.ensures.items
    (c.in_ok-add_twice.ensures ∙ ap (λ k. f.entries.items ++ twice_entry k twice c.args.word.now) at ∙ ap (λ w. f.entries.items ++ twice_entry (1 + length ts) twice w) (sym word)) refl
