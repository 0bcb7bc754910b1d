use Rattle.std.proofs.Common.{◌≡◌, ◌∙◌, sym, refl, arith, subst}
use Rattle.std.proofs.lemmas.List.{length_push, map-id}
use Rattle.std.proofs.lemmas.Iterator.Adapters.{YieldsList-from_vec}
use Rattle.std.proofs.lemmas.Iterator.Consumers.{YieldsList-end}
use Rattle.pc_facts.specs.Shows.{ShowsMember, AllShow}
use Rattle.pc_expression_rules.proofs.MemberSteps.{none-entries, none-values, entries-more, values-more}
use Rattle.pc_expression_rules.proofs.members.add_members.Goals as goal

pub loop-member-init : goal.loop-member-init
loop-member-init c = (refl, λ k ns t h. c.new-entries.ensures.items ∙ none-entries k ns h, λ k os ns t shown h. none-values k _ os ns shown h)

pub loop-member-preserved : goal.loop-member-preserved
loop-member-preserved c =
    let so_far = c.loop-member.invariant in
    let n = length_push c.loop-member.yielded c.in-Some.member in (
      omega (arith, so_far.0, c.in_ok-i.ensures),
      λ k ns t h. entries-more k c.loop-member.yielded c.in-Some.member ns _ _ _ _ _ so_far.0 c.in_ok-i.ensures (λ ms g. so_far.1 k ms t g) (λ m g. c.in_ok-kid.ensures.entries k m t g) c.in_ok-add_kid.ensures h,
      λ k os ns t shown h. values-more k os c.loop-member.yielded c.in-Some.member ns _ _ (λ ms g. so_far.2 k os ms t shown g) (λ ps m g f. c.in_ok-kid.ensures.types k ps m t g f) h,
    )

pub returns-clause-entries : goal.returns-clause-entries
returns-clause-entries c = λ k ns t h.
    let gives = YieldsList-from_vec {s = c.into_iter-member-iterator.result} c.args.members.items c.into_iter-member-iterator.ensures.into_iter_gives.0 (c.into_iter-member-iterator.ensures.into_iter_gives.1 ∙ c.args.members.ok.0) in
    let ended = YieldsList-end gives c.loop-member.yielded c.loop-member.member-iterator c.loop-member.yielded_by c.next.result c.next.new.self c.in-None.is c.next.ensures.steps in
    let all : c.loop-member.yielded ≡ c.args.members.items = sym (map-id c.loop-member.yielded) ∙ ended.0 in
    c.loop-member.invariant.1 k ns t (subst (λ ms. AllShow (ShowsMember k) ms ns) (sym all) h)
