use Rattle.std.proofs.Common.{◌≡◌, false, ◌+◌, ◌++◌, [], ◌∷◌, take, refl, sym, ap, ◌∙◌}
use Rattle.std.proofs.lemmas.List.{take_more, take_all}
use Rattle.std.proofs.lemmas.Option.{slice_get_read}
use Rattle.pc_syntax.specs.Plain.{Forest, forest_of}
use Rattle.pc_syntax.specs.PartsLaws.{forest_of-kids_of}
use Rattle.pc_syntax.specs.Sorts.{is_hole}
use Rattle.pc_syntax.specs.Words.{lowered}
use Rattle.pc_scope.specs.Headings.{names_of}
use Rattle.pc_rules.specs.Places.{first_of_names}
use Rattle.pc_declaration_parts.specs.FirstNames.{first-behind, names-past}
use Rattle.pc_declaration_parts.proofs.names.first_word.Goals as goal

pub returns-then-not-is_hole : goal.returns-then-not-is_hole
returns-then-not-is_hole c =
    let kids = c.kid_slice-kid-items.result.now in
    let i = c.loop-kid.kid-index in
    let kid = c.kid-item.result in
    let hole : is_hole kid.kind ≡ false = sym (ap is_hole c.kind.ensures.value) ∙ sym c.is_hole.ensures ∙ c.if-not-is_hole.true in
    ap lowered c.word.ensures
    ∙ sym (first-behind kids i kid c.loop-kid.invariant (slice_get_read kids _ i kid refl c.loop-kid-test.true c.kid-item.is) hole)
    ∙ ap (λ (ks : Forest). first_of_names (names_of ks)) (ap forest_of c.kid_slice-kid-items.ensures.value ∙ forest_of-kids_of c.args.list.now)

pub loop-kid-preserved : goal.loop-kid-preserved
loop-kid-preserved c =
    let kids = c.kid_slice-kid-items.result.now in
    let i = c.loop-kid.kid-index in
    let kid = c.kid-item.result in
    let taken : take (i + 1) kids ≡ take i kids ++ kid ∷ [] = take_more kids i kid c.loop-kid-test.true ∙ ap (λ k. take i kids ++ k ∷ []) (sym c.kid-item.is) in
    names-past (take i kids) kid (take (i + 1) kids) taken c.loop-kid.invariant (sym (ap is_hole c.kind.ensures.value) ∙ sym c.is_hole.ensures ∙ c.if-not-is_hole.false)

pub returns : goal.returns
returns c =
    let kids = c.kid_slice-kid-items.result.now in
    sym (ap first_of_names (ap (λ (ks : Forest). names_of ks) (sym (forest_of-kids_of c.args.list.now) ∙ ap forest_of (sym c.kid_slice-kid-items.ensures.value)
    ∙ ap forest_of (sym (take_all c.loop-kid.kid-index kids c.loop-kid-test.false))) ∙ c.loop-kid.invariant))
