use Rattle.std.proofs.Common.{◌≡◌, ◌+◌, ◌++◌, ◌∷◌, [], true, false, Some, slice_get, take, refl, sym, ap, ◌∙◌}
use Rattle.std.proofs.lemmas.List.{take_more, take_all}
use Rattle.std.proofs.lemmas.Option.{slice_get_read}
use Rattle.pc_syntax.specs.Sorts.{is_hole}
use Rattle.pc_syntax.specs.Words.{lowered}
use Rattle.pc_rules.specs.Places.{first_of_names}
use Rattle.pc_counts.specs.NamesLaws.{all_listed, first-listed, listed-end, listed-hole, listed-kids}
use Rattle.pc_counts.proofs.before.first_listed.Goals as goal

pub returns-then-not-is_hole : goal.returns-then-not-is_hole
returns-then-not-is_hole c =
    let kids = c.kid_slice-name-items.result.now in
    let i = c.loop-name.name-index in
    let k = c.name-item.result in
    let h : is_hole k.kind ≡ false = sym (ap is_hole c.kind.ensures.value) ∙ sym c.is_hole.ensures ∙ c.if-not-is_hole.true in
    let at : slice_get kids i ≡ Some k = slice_get_read kids _ i k refl c.loop-name-test.true c.name-item.is in
    ap lowered c.word.ensures
    ∙ sym (ap first_of_names (listed-kids c.args.list.now ∙ ap all_listed (sym c.kid_slice-name-items.ensures.value)) ∙ first-listed kids i k c.loop-name.invariant at h)

pub loop-name-preserved : goal.loop-name-preserved
loop-name-preserved c =
    let kids = c.kid_slice-name-items.result.now in
    let i = c.loop-name.name-index in
    let k = c.name-item.result in
    let h : is_hole k.kind ≡ true = sym (ap is_hole c.kind.ensures.value) ∙ sym c.is_hole.ensures ∙ c.if-not-is_hole.false in
    let taken : take (i + 1) kids ≡ take i kids ++ k ∷ [] = take_more kids i k c.loop-name-test.true ∙ ap (λ x. take i kids ++ x ∷ []) (sym c.name-item.is) in
    ap all_listed taken ∙ listed-end (take i kids) k ∙ (λ j. c.loop-name.invariant j ++ listed-hole k h j)

pub returns : goal.returns
returns c =
    let kids = c.kid_slice-name-items.result.now in
    let all : take c.loop-name.name-index kids ≡ kids = take_all c.loop-name.name-index kids c.loop-name-test.false in
    sym (ap first_of_names (listed-kids c.args.list.now ∙ ap all_listed (sym (all ∙ c.kid_slice-name-items.ensures.value)) ∙ c.loop-name.invariant))
