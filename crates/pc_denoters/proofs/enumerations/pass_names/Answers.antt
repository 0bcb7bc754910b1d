use Rattle.std.proofs.Common.{◌≡◌, ◌+◌, ◌++◌, ◌∷◌, [], ◌∙◌, Some, slice_get, take, ap, sym, subst, refl}
use Rattle.std.proofs.lemmas.List.{take_more}
use Rattle.std.proofs.lemmas.Option.{slice_get_read}
use Rattle.pc_syntax.specs.Plain.{kids_of}
use Rattle.pc_denoters.specs.KidLaws.{names-kid, next-number}
use Rattle.pc_denoters.specs.Passing.{PassedSoFar}
use Rattle.pc_denoters.proofs.enumerations.pass_names.Goals as goal

pub pass_kid-requires-clause-name : goal.pass_kid-requires-clause-name
pass_kid-requires-clause-name c =
    let kids = c.kid_slice-kid-items in
    let i = c.loop-kid.kid-index in
    let at : slice_get (kids_of c.args.list.now) i ≡ Some c.kid-item.result =
    subst (λ ks. slice_get ks i ≡ Some c.kid-item.result) kids.ensures.value (slice_get_read kids.result.now _ i c.kid-item.result refl c.loop-kid-test.true c.kid-item.is) in
    names-kid c.args.list.now c.kid-item.result i kids.ensures.proper c.requires.list at

pub loop-kid-preserved : goal.loop-kid-preserved
loop-kid-preserved c =
    let kids = c.kid_slice-kid-items.result.now in
    let i = c.loop-kid.kid-index in
    let kid = c.kid-item.result in
    let taken : take (i + 1) kids ≡ take i kids ++ kid ∷ [] = take_more kids i kid c.loop-kid-test.true ∙ ap (λ k. take i kids ++ k ∷ []) (sym c.kid-item.is) in (
      subst (λ ts. PassedSoFar c.args.block.0 c.args.tables.now c.pass_kid.new.tables ts c.pass_kid.new.found) (sym taken)
          (c.in_ok-pass_kid.ensures c.args.tables.now (take i kids) (next-number kids i c.loop-kid.i c.in_ok-i.i c.loop-kid-test.true c.loop-kid.invariant.1 c.in_ok-i.ensures) c.loop-kid.invariant.0),
      c.in_ok-i.ensures ∙ ap (λ n. n + 1) c.loop-kid.invariant.1,
    )
