use Rattle.std.proofs.Common.{◌≡◌, subst, sym, List, ◌∙◌}
use Rattle.std.proofs.lemmas.Iterator.Consumers.{YieldsList-end}
use Rattle.std.proofs.lemmas.Iterator.Adapters.{YieldsList-from_vec}
use Rattle.pc_facts.specs.declared.facts.Facts.{Facts}
use Rattle.pc_facts.specs.Shows.{ShowsNode, AllShow}
use Rattle.pc_statement_rules.proofs.HandedSteps.{handed-none, handed-one_more, map-same}
use Rattle.pc_statement_rules.proofs.kids.Handing.add_all.Goals as goal

pub loop-kid-init : goal.loop-kid-init
loop-kid-init c = λ k ns ms s all. handed-none k _ ns ms s all

pub loop-kid-preserved : goal.loop-kid-preserved
loop-kid-preserved c = λ k ns ms s all.
    handed-one_more k c.loop-kid.yielded c.in-Some.kid c.loop-kid.self c.add.new.self ns ms (λ xs. c.loop-kid.invariant k ns xs s) (c.in_ok-add.ensures k) all

pub returns : goal.returns
returns c = λ k ns ms s all.
    let given = c.into_iter-kid-iterator.ensures.into_iter_gives in
    let end = YieldsList-end (YieldsList-from_vec {s = c.into_iter-kid-iterator.result} c.args.kids.items given.0 (given.1 ∙ c.args.kids.ok.0)) c.loop-kid.yielded c.loop-kid.kid-iterator c.loop-kid.yielded_by _ c.next.new.self c.in-None.is c.next.ensures.steps in
    let are : c.args.kids.items ≡ c.loop-kid.yielded = sym end.0 ∙ map-same c.loop-kid.yielded in
    let P : List Facts → Type 0 = λ fs. AllShow (λ g n. ShowsNode k g n.at) fs ms in
    c.loop-kid.invariant k ns ms s (subst P are all)
