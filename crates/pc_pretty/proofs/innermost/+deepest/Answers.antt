use Rattle.std.proofs.Common.{◌≡◌, ◌∷◌, ◌++◌, ◌+◌, ◌<◌, ◌≤◌, ◌∙◌, [], Some, length, get_or, ap, sym, subst, arith}
use Rattle.std.specs.Prelude.{unwrap_or}
use Rattle.pc_syntax.specs.Plain.{kids_of}
use Rattle.pc_syntax.specs.PartsLaws.{small-size, small-kids, size_of-kids}
use Rattle.pc_syntax.specs.Places.{at}
use Rattle.pc_syntax.specs.WellFormed.{depth_of, IsProper, IsWellFormed}
use Rattle.pc_pretty.specs.Innermost.{HoldsAt, IsInnermostOf, IsBelow}
use Rattle.pc_pretty.specs.Preorder.{nodes_before}
use Rattle.pc_pretty.proofs.Walks.{depth_of-kid}
use Rattle.pc_pretty.proofs.Stepping.{nodes-room, sum-more, sum-room}
use Rattle.pc_pretty.proofs.Deepest.{Best, is_there, misses_false, best_skip, best_found, best_all, kid_there, kid_place}
use Rattle.pc_pretty.proofs.innermost.+deepest.Goals as goal
use Rattle.pc_pretty.proofs.innermost.+deepest.Goals.{then-holds+in_ok-below+in_ok-found, else-holds}

pub overflow_add-at : goal.overflow_add-at
overflow_add-at t c =
    let proper : IsProper c.args.text.now = rw (← c.tree.ensures.value) c.size.ensures.proper in
    grind (arith, nodes-room c.args.path c.args.text.now c.args.node.now c.requires.node, small-size c.args.text.now proper, c.requires.place)

pub loop-i-init : goal.loop-i-init
loop-i-init t c = record {
  best_is = λ other below held. omega (arith, below.2);
  place_is = omega (arith, c.requires.place);
}

pub holds-requires : goal.holds-requires
holds-requires t c =
    let node = c.args.node.now in
    let i = c.loop-i.i in
    let k = c.kid-item.result in
    let l : i < length (kids_of node) = omega (arith, c.loop-i-test.true, ap length c.kid_slice-kid-items.ensures.value) in
    let e : k ≡ get_or (kids_of node) i k = c.kid-item.is ∙ ap (λ ks. get_or ks i k) c.kid_slice-kid-items.ensures.value in
    omega (arith, c.loop-i.invariant.place_is, sum-room (kids_of node) i k l e, size_of-kids node, nodes-room c.args.path c.args.text.now node c.requires.node)

pub overflow_cast-i : goal.overflow_cast-i
overflow_cast-i t c = grind (arith, c.loop-i-test.true, ap length c.kid_slice-kid-items.ensures.value, small-kids c.args.node.now c.kid_slice-kid-items.ensures.proper)

pub overflow_add-i : goal.overflow_add-i
overflow_add-i t c = grind (arith, c.loop-i-test.true, ap length c.kid_slice-kid-items.ensures.value, small-kids c.args.node.now c.kid_slice-kid-items.ensures.proper)

pub overflow_add-at-in-loop-i : goal.overflow_add-at-in-loop-i
overflow_add-at-in-loop-i t c =
    let node = c.args.node.now in
    let i = c.loop-i.i in
    let k = c.kid-item.result in
    let l : i < length (kids_of node) = omega (arith, c.loop-i-test.true, ap length c.kid_slice-kid-items.ensures.value) in
    let e : k ≡ get_or (kids_of node) i k = c.kid-item.is ∙ ap (λ ks. get_or ks i k) c.kid_slice-kid-items.ensures.value in
    let proper : IsProper c.args.text.now = rw (← c.tree.ensures.value) c.size.ensures.proper in
    grind (arith, c.loop-i.invariant.place_is, c.size-in-loop-i.ensures.value, sum-room (kids_of node) i k l e, size_of-kids node, nodes-room c.args.path c.args.text.now node c.requires.node, small-size c.args.text.now proper)

pub deepest-requires : goal.deepest-requires
deepest-requires t c =
    let tree = c.args.text.now in
    let node = c.args.node.now in
    let path = c.args.path in
    let i = c.loop-i.i in
    let k = c.kid-item.result in
    let l : i < length (kids_of node) = omega (arith, c.loop-i-test.true, ap length c.kid_slice-kid-items.ensures.value) in
    let e : k ≡ get_or (kids_of node) i k = c.kid-item.is ∙ ap (λ ks. get_or ks i k) c.kid_slice-kid-items.ensures.value in
    let formed : IsWellFormed tree = rw (← c.tree.ensures.value) c.size.ensures.proper.sound in
    let d : depth_of k + 1 ≤ depth_of node = depth_of-kid node i k l (sym e) in
    let below : at (path ++ ((i + 1) ∷ [])) tree ≡ Some k = kid_there tree c.args.span formed path node c.requires.node i k l e in
    let place : c.loop-i.at ≡ nodes_before (path ++ ((i + 1) ∷ [])) tree = c.loop-i.invariant.place_is ∙ sym (kid_place tree c.args.span formed path node c.requires.node i k l e) in
    let held : HoldsAt tree c.args.span (path ++ ((i + 1) ∷ [])) = (c.holds.ensures (path ++ ((i + 1) ∷ [])) (is_there _ _ below) place).0 c.if-holds.true in (
      omega (arith, d, c.decreases),
      (
        subst (λ p. at p tree ≡ Some k) (sym c.in_ok-below.ensures) below,
        (subst (λ p. c.loop-i.at ≡ nodes_before p tree) (sym c.in_ok-below.ensures) place, subst (HoldsAt tree c.args.span) (sym c.in_ok-below.ensures) held),
      ),
    )

pub loop-i-preserved : goal.loop-i-preserved
loop-i-preserved t c =
    let tree = c.args.text.now in
    let node = c.args.node.now in
    let path = c.args.path in
    let span = c.args.span in
    let i = c.loop-i.i in
    let k = c.kid-item.result in
    let l : i < length (kids_of node) = omega (arith, c.loop-i-test.true, ap length c.kid_slice-kid-items.ensures.value) in
    let e : k ≡ get_or (kids_of node) i k = c.kid-item.is ∙ ap (λ ks. get_or ks i k) c.kid_slice-kid-items.ensures.value in
    let formed : IsWellFormed tree = rw (← c.tree.ensures.value) c.size.ensures.proper.sound in
    let below : at (path ++ ((i + 1) ∷ [])) tree ≡ Some k = kid_there tree span formed path node c.requires.node i k l e in
    let place : c.loop-i.at ≡ nodes_before (path ++ ((i + 1) ∷ [])) tree = c.loop-i.invariant.place_is ∙ sym (kid_place tree span formed path node c.requires.node i k l e) in
    record {
      best_is = elim c.if-holds.branch [
        | then-holds+in_ok-below+in_ok-found w ↦
            let found : IsInnermostOf tree span (IsBelow (path ++ ((i + 1) ∷ []))) w.in_ok-found.found = subst (λ p. IsInnermostOf tree span (IsBelow p) w.in_ok-found.found) w.in_ok-below.ensures w.in_ok-found.ensures in
            subst (Best tree span path (i + 1)) (sym (w.best-is ∙ ap Some w.longer.ensures)) (best_found tree span formed path i c.loop-i.best w.in_ok-found.found c.loop-i.invariant.best_is found)
        | else-holds w ↦
            subst (Best tree span path (i + 1)) (sym w.best-is)
            (best_skip tree span formed path i c.loop-i.best (λ held. misses_false c.holds.result w.if-holds.false ((c.holds.ensures (path ++ ((i + 1) ∷ [])) (is_there _ _ below) place).1 held)) c.loop-i.invariant.best_is)
      ];
      place_is = omega (arith, c.loop-i.invariant.place_is, c.size-in-loop-i.ensures.value, sum-more (kids_of node) i k l e);
    }

pub returns-in-Some : goal.returns-in-Some
returns-in-Some t c =
    let tree = c.args.text.now in
    let node = c.args.node.now in
    let formed : IsWellFormed tree = rw (← c.tree.ensures.value) c.size.ensures.proper.sound in
    let all : c.loop-i.i ≡ length (kids_of node) = omega (arith, c.loop-i-test.false, c.loop-i.auto.i-end, ap length c.kid_slice-kid-items.ensures.value) in
    let best = best_all tree c.args.span formed c.args.path node c.requires.node c.loop-i.best c.requires.holds (subst (λ n. Best tree c.args.span c.args.path n c.loop-i.best) all c.loop-i.invariant.best_is) in
    subst (λ b. IsInnermostOf tree c.args.span (IsBelow c.args.path) (unwrap_or b c.args.path)) c.in-Some.is best

pub returns-in-None : goal.returns-in-None
returns-in-None t c =
    let tree = c.args.text.now in
    let node = c.args.node.now in
    let formed : IsWellFormed tree = rw (← c.tree.ensures.value) c.size.ensures.proper.sound in
    let all : c.loop-i.i ≡ length (kids_of node) = omega (arith, c.loop-i-test.false, c.loop-i.auto.i-end, ap length c.kid_slice-kid-items.ensures.value) in
    let best = best_all tree c.args.span formed c.args.path node c.requires.node c.loop-i.best c.requires.holds (subst (λ n. Best tree c.args.span c.args.path n c.loop-i.best) all c.loop-i.invariant.best_is) in
    subst (λ b. IsInnermostOf tree c.args.span (IsBelow c.args.path) (unwrap_or b c.args.path)) c.in-None.is best
