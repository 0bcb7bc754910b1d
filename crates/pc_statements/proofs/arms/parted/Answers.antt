use Rattle.std.proofs.Common.{◌≡◌, ◌++◌, [], ◌∷◌, map, sym, ap, ◌∙◌}
use Rattle.std.proofs.lemmas.Iterator.Adapters.{YieldsList-from_vec}
use Rattle.std.proofs.lemmas.Iterator.Consumers.{YieldsList-end}
use Rattle.std.proofs.lemmas.List.{map-append}
use Rattle.pc_statements.specs.ListKinds.{map-same}
use Rattle.pc_statements.proofs.arms.parted.Goals as goal

pub loop-arm-preserved : goal.loop-arm-preserved
loop-arm-preserved c =
    let ys = c.loop-arm.yielded in
    let arm = c.in-Some.arm in (
      c.in_ok-push.ensures.items ∙ ap (λ fs. fs ++ arm.at ∷ []) c.loop-arm.invariant.0 ∙ sym (map-append (λ g. g.at) ys (arm ∷ [])),
      ap (map (λ g. g.labels)) c.in_ok-push-2.ensures.items ∙ map-append (λ g. g.labels) c.loop-arm.labelled.items _ ∙ ap (λ fs. fs ++ arm.labels ∷ []) c.loop-arm.invariant.1 ∙ sym (map-append (λ g. g.labels) ys (arm ∷ [])),
    )

pub returns : goal.returns
returns c =
    let given = c.into_iter-arm-iterator.ensures.into_iter_gives in
    let end = YieldsList-end (YieldsList-from_vec {s = c.into_iter-arm-iterator.result} c.args.arms.items given.0 (given.1 ∙ c.args.arms.ok.0)) c.loop-arm.yielded c.loop-arm.arm-iterator c.loop-arm.yielded_by _ c.next.new.self c.in-None.is c.next.ensures.steps in
    let are : c.args.arms.items ≡ c.loop-arm.yielded = sym end.0 ∙ map-same c.loop-arm.yielded in
    record {
      kids = c.loop-arm.invariant.0 ∙ ap (map (λ g. g.at)) (sym are);
      labels = c.loop-arm.invariant.1 ∙ ap (map (λ g. g.labels)) (sym are);
    }
