use Rattle.std.proofs.Common.{◌≡◌, ◌+◌, ◌++◌, List, [], ◌∷◌, Some, length, slice_get, take, refl, sym, subst, ap, ◌∙◌, arith}
use Rattle.std.proofs.lemmas.List.{take_more}
use Rattle.std.proofs.lemmas.Option.{slice_get_read}
use Rattle.pc_syntax.specs.Plain.{Plain}
use Rattle.pc_definitions.specs.NumberedLaws.{taken-length}
use Rattle.pc_definitions.specs.Rows.{names-kid}
use Rattle.pc_definitions.specs.VariableNames.{DeclaredSoFar}
use Rattle.pc_definitions.proofs.variables.enter_variables.Goals as goal

pub enter_kid-requires-clause-name : goal.enter_kid-requires-clause-name
enter_kid-requires-clause-name c =
    names-kid c.args.list.now c.kid-item.result c.loop-kid.kid-index c.kid_slice-kid-items.ensures.proper c.requires.list
    (subst (λ ks. slice_get ks c.loop-kid.kid-index ≡ Some c.kid-item.result) c.kid_slice-kid-items.ensures.value
    (slice_get_read c.kid_slice-kid-items.result.now _ c.loop-kid.kid-index c.kid-item.result refl c.loop-kid-test.true c.kid-item.is))

pub loop-kid-preserved : goal.loop-kid-preserved
loop-kid-preserved c =
    let kids = c.kid_slice-kid-items.result.now in
    let i = c.loop-kid.kid-index in
    let kid = c.kid-item.result in
    let number = c.in_ok-i.i in
    let counted : number ≡ i + 1 = c.in_ok-i.ensures ∙ ap (λ n. n + 1) c.loop-kid.invariant.1 in
    let count : length (take i kids) ≡ i = taken-length kids i c.loop-kid-test.true in
    let placed : number ≡ 1 + length (take i kids) = counted ∙ (let e : i + 1 ≡ 1 + i = omega arith in e) ∙ ap (λ n. 1 + n) (sym count) in
    let taken : take (i + 1) kids ≡ take i kids ++ kid ∷ [] = take_more kids i kid c.loop-kid-test.true ∙ ap (λ k. take i kids ++ k ∷ []) (sym c.kid-item.is) in (
      subst (λ (ts : List Plain). DeclaredSoFar c.args.block.0 c.args.owner.0 c.args.tables.now c.enter_kid.new.tables ts c.enter_kid.new.found) (sym taken)
          (c.in_ok-enter_kid.ensures c.args.tables.now (take i kids) placed c.loop-kid.invariant.0),
      counted,
    )
