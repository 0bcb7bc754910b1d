use Rattle.std.proofs.Common.{◌≡◌, ◌+◌, ◌++◌, ◌∷◌, [], ◌∙◌, Some, false, slice_get, slice_index_or, take, length, ap, sym, subst, arith}
use Rattle.std.proofs.lemmas.List.{take_more, length-take-le}
use Rattle.std.proofs.lemmas.Option.{slice_get-get_or}
use Rattle.pc_facts.specs.declared.sighting.Declared.{Declared}
use Rattle.pc_growth.specs.GrowsLaws.{less-begins}
use Rattle.pc_places.specs.Places.{known}
use Rattle.pc_places.specs.Scenes.{Declares}
use Rattle.pc_denoters.specs.Completing.{CompletedSoFar, completed-first, completed-second}
use Rattle.pc_denoters.specs.Elements.{element}
use Rattle.pc_denoters.specs.PassingLaws.{numbered-at}
use Rattle.pc_denoters.specs.declared.enumerations.Passed.{Passed}
use Rattle.pc_denoters.proofs.enumerations.complete_elements.Goals.{then-one+in_ok-complete, else-one}
use Rattle.pc_denoters.proofs.enumerations.complete_elements.Goals as goal

pub complete-requires-clause-name : goal.complete-requires-clause-name
complete-requires-clause-name c =
    let passed = c.args.passed.now in
    let i = c.loop-one.one-index in
    let none : Passed = record { name = record { 0 = 0 }; first = false } in
    let e : Passed = slice_index_or passed i none in
    let at : slice_get passed i ≡ Some e = slice_get-get_or passed i none c.loop-one-test.true in
    less-begins c.args.tables.now.names.texts c.loop-one.tables.names.texts e.name.0 c.loop-one.invariant.0.moves.grows.names (numbered-at (length c.args.tables.now.names.texts) passed i e c.requires.names at)

pub loop-one-preserved : goal.loop-one-preserved
loop-one-preserved c =
    let passed = c.args.passed.now in
    let i = c.loop-one.one-index in
    let none : Passed = record { name = record { 0 = 0 }; first = false } in
    let e : Passed = slice_index_or passed i none in
    let t0 = c.args.tables.now in
    let t1 = c.loop-one.tables in
    let b = c.args.block.0 in
    let o = c.args.owner in
    let of = c.args.of in
    let taken : take (i + 1) passed ≡ take i passed ++ e ∷ [] = take_more passed i none c.loop-one-test.true in
    let count : c.loop-one.i ≡ length (take i passed) = (let n = length-take-le i passed (omega (arith, c.loop-one-test.true)) in omega (arith, n, c.loop-one.invariant.1)) in
    let one : CompletedSoFar b o of t0 c.if-one.tables (take i passed ++ e ∷ []) = elim c.if-one.branch [
      | then-one+in_ok-complete w ↦
          let made : w.element_of.result ≡ element o e.name (length (take i passed)) of = w.element_of.ensures ∙ ap (λ n. element o e.name n of) count in
          rw w.tables-is
          (completed-first b o of t0 t1 w.complete.new.tables (take i passed) e w.if-one.true c.loop-one.invariant.0
          (λ x out l n m number declares place. w.in_ok-complete.ensures.place x out l n m number (subst (λ (d : Declared). Declares (known t1) n d m) (sym made) declares) place) w.in_ok-complete.ensures.moves)
      | else-one w ↦ rw w.tables-is (completed-second b o of t0 t1 (take i passed) e w.if-one.false c.loop-one.invariant.0)
    ] in
    (subst (λ es. CompletedSoFar b o of t0 c.if-one.tables es) (sym taken) one, c.in_ok-i.ensures ∙ ap (λ n. n + 1) c.loop-one.invariant.1)
