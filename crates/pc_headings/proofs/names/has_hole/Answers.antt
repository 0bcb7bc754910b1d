use Rattle.std.proofs.Common.{◌≡◌, ◌+◌, ◌||◌, Bool, List, ◌∷◌, [], ◌++◌, take, ap, sym, ◌∙◌, subst}
use Rattle.std.proofs.lemmas.List.{take_more}
use Rattle.pc_syntax.specs.Plain.{Plain}
use Rattle.pc_syntax.specs.Sorts.{is_hole}
use Rattle.pc_rules.specs.HandedOn.{any_hole}
use Rattle.pc_headings.specs.Listing.{named_nodes}
use Rattle.pc_headings.proofs.LoopSteps.{hole-more}
use Rattle.pc_headings.proofs.names.has_hole.Goals as goal

pub loop-kid-preserved : goal.loop-kid-preserved
loop-kid-preserved c =
    let kids = c.kid_slice-kid-items.result.now in
    let i = c.loop-kid.kid-index in
    let kid = c.kid-item.result in
    let taken : take (i + 1) kids ≡ take i kids ++ kid ∷ [] = take_more kids i kid c.loop-kid-test.true ∙ ap (λ k. take i kids ++ k ∷ []) (sym c.kid-item.is) in
    subst (λ (ts : List Plain). c.either-hole.result ≡ any_hole (named_nodes ts)) (sym taken)
    (hole-more (take i kids) kid c.loop-kid.hole c.either-hole.result c.loop-kid.invariant
    (c.either-hole.ensures ∙ ap (λ (b : Bool). c.loop-kid.hole || b) (c.is_hole.ensures ∙ ap is_hole c.kind.ensures.value)))
