use Rattle.std.proofs.Common.{◌∙◌, sym, subst}
use Rattle.std.proofs.lemmas.Iterator.Adapters.{YieldsList-from_vec}
use Rattle.std.proofs.lemmas.Iterator.Consumers.{YieldsList-end}
use Rattle.std.proofs.lemmas.List.{map-id}
use Rattle.std.proofs.lemmas.Result.{IfOk-weaker}
use Rattle.pc_rules.specs.Attributes.{kids_below}
use Rattle.pc_facts.specs.Shows.{ShowsNode, ShowsType, AllShow}
use Rattle.pc_access_rules.specs.Indexing.{ShowsIndexed}
use Rattle.pc_access_rules.proofs.IndexSteps.{split-last}
use Rattle.pc_access_rules.proofs.indexed.index.Goals as goal

pub loop-index-preserved : goal.loop-index-preserved
loop-index-preserved c = λ k t ns e start all.
    let r = split-last (λ f n. ShowsNode k f n.at) c.loop-index.yielded c.in-Some.index ns all in
    subst (λ xs. ShowsIndexed k c.add.new.self t xs) (sym r.2) (c.in_ok-add.ensures k t r.0 r.1 e (c.loop-index.invariant k t r.0 e start r.3) r.4)

pub returns : goal.returns
returns c =
    let gives = c.into_iter-index-iterator.ensures.into_iter_gives in
    let ends = YieldsList-end (YieldsList-from_vec c.args.indexes.items gives.0 (gives.1 ∙ c.args.indexes.ok.0)) c.loop-index.yielded c.loop-index.index-iterator c.loop-index.yielded_by _ c.next.new.self c.in-None.is c.next.ensures.steps in
    let whole = sym (map-id c.loop-index.yielded) ∙ ends.0 in
    IfOk-weaker c.finish.result _ _
    (λ f found. λ k w a b e at all hole.
    found k w a b at
    (c.loop-index.invariant k a.at.as_place.type (kids_below b) e
    (c.new-read.ensures k a.at.as_place.type (subst (λ o. ShowsType k.table o a.at.as_place.type) (sym c.place_type.ensures) at.place.type))
    (subst (λ xs. AllShow (λ g n. ShowsNode k g n.at) xs (kids_below b)) (sym whole) all))
    hole)
    c.finish.ensures
