use Rattle.std.proofs.Common.{◌≡◌, ◌<◌, ◌≤◌, ◌+◌, ◌++◌, ◌∷◌, [], true, false, length, take, sym, ap, ◌∙◌, subst, arith}
use Rattle.std.proofs.lemmas.List.{take_more, take_all}
use Rattle.pc_syntax.specs.WellFormed.{size_of}
use Rattle.pc_syntax.specs.PartsLaws.{size_of-kid}
use Rattle.pc_rules.specs.OwnBlock.{declared_by}
use Rattle.pc_openings.specs.Announced.{Announced}
use Rattle.pc_openings.specs.AnnouncedLaws.{Announced-none, Announced-then}
use Rattle.pc_openings.specs.Declaring.{declared_below, declared_at, all_declared, may_declare_below}
use Rattle.pc_openings.specs.DeclaringLaws.{all_declared-end}
use Rattle.pc_openings.specs.StillLaws.{nothing-below, below-kids}
use Rattle.pc_openings.proofs.announcing.+announce_below.Goals as goal

pub returns-then-not-may_declare_below : goal.returns-then-not-may_declare_below
returns-then-not-may_declare_below t c =
    let names = c.args.names.now in
    let node = c.args.node.now in
    let quiet : may_declare_below node.kind ≡ false = ap may_declare_below (sym c.kind.ensures.value) ∙ sym c.may_declare_below.ensures ∙ c.if-not-may_declare_below.true in
    subst (λ ns. Announced c.args.block.0 ns names names) (sym (nothing-below node c.kind.ensures.proper quiet)) (Announced-none c.args.block.0 names)

pub announce_below-requires : goal.announce_below-requires
announce_below-requires t c =
    let smaller : size_of c.kid-item.result + 1 ≤ size_of c.args.node.now =
    size_of-kid c.args.node.now c.loop-kid.kid-index c.kid-item.result (rw c.kid_slice-kid-items.ensures.value at c.loop-kid-test.true) (rw c.kid_slice-kid-items.ensures.value at (sym c.kid-item.is)) in
    let there = subst (λ cs. c.args.block.0 < length cs) (sym (c.in_ok-announce_own.ensures.chains ∙ c.loop-kid.invariant.chains)) c.requires in
    (omega (arith, smaller, c.decreases), there)

pub loop-kid-preserved : goal.loop-kid-preserved
loop-kid-preserved t c =
    let kids = c.kid_slice-kid-items.result.now in
    let i = c.loop-kid.kid-index in
    let k = c.kid-item.result in
    let block = c.args.block.0 in
    let first = c.args.names.now in
    let here = Announced-then block (declared_by k.kind k.kids) (declared_below k) c.loop-kid.names c.announce_own.new.names c.announce_below.new.names c.in_ok-announce_own.ensures c.in_ok-announce_below.ensures in
    let taken : take (i + 1) kids ≡ take i kids ++ k ∷ [] = take_more kids i k c.loop-kid-test.true ∙ ap (λ x. take i kids ++ x ∷ []) (sym c.kid-item.is) in
    subst (λ ns. Announced block ns first c.announce_below.new.names) (sym (ap all_declared taken ∙ all_declared-end (take i kids) k))
    (Announced-then block (all_declared (take i kids)) (declared_at k) first c.loop-kid.names c.announce_below.new.names c.loop-kid.invariant here)

pub returns : goal.returns
returns t c =
    let kids = c.kid_slice-kid-items.result.now in
    let node = c.args.node.now in
    let may : may_declare_below node.kind ≡ true = ap may_declare_below (sym c.kind.ensures.value) ∙ sym c.may_declare_below.ensures ∙ c.if-not-may_declare_below.false in
    let all : take c.loop-kid.kid-index kids ≡ kids = take_all c.loop-kid.kid-index kids c.loop-kid-test.false in
    subst (λ ns. Announced c.args.block.0 ns c.args.names.now c.loop-kid.names) (ap all_declared (all ∙ c.kid_slice-kid-items.ensures.value) ∙ sym (below-kids node may)) c.loop-kid.invariant
