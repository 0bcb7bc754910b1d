use Rattle.std.proofs.Common.{◌≡◌, ◌<◌, ◌+◌, ◌++◌, ◌∷◌, [], length, take, sym, ap, ◌∙◌, subst}
use Rattle.std.proofs.lemmas.List.{take_more, take_all}
use Rattle.pc_names.specs.Standing.{meant}
use Rattle.pc_openings.specs.Announced.{Announced}
use Rattle.pc_openings.specs.AnnouncedLaws.{Announced-then}
use Rattle.pc_openings.specs.Declaring.{listed, all_listed}
use Rattle.pc_openings.specs.DeclaringLaws.{all_listed-end, all_listed-kids}
use Rattle.pc_openings.proofs.announcing.announce_names.Goals as goal

pub announce_listed-requires : goal.announce_listed-requires
announce_listed-requires c = subst (λ cs. c.args.block.0 < length cs) (sym c.loop-name.invariant.chains) c.requires

pub loop-name-preserved : goal.loop-name-preserved
loop-name-preserved c =
    let kids = c.kid_slice-name-items.result.now in
    let i = c.loop-name.name-index in
    let k = c.name-item.result in
    let m = meant c.args.class in
    let taken : take (i + 1) kids ≡ take i kids ++ k ∷ [] = take_more kids i k c.loop-name-test.true ∙ ap (λ x. take i kids ++ x ∷ []) (sym c.name-item.is) in
    subst (λ ns. Announced c.args.block.0 ns c.args.names.now c.announce_listed.new.names) (sym (ap (all_listed m) taken ∙ all_listed-end m (take i kids) k))
    (Announced-then c.args.block.0 (all_listed m (take i kids)) (listed m k) c.args.names.now c.loop-name.names c.announce_listed.new.names c.loop-name.invariant c.in_ok-announce_listed.ensures)

pub returns : goal.returns
returns c =
    let kids = c.kid_slice-name-items.result.now in
    let m = meant c.args.class in
    let all : take c.loop-name.name-index kids ≡ kids = take_all c.loop-name.name-index kids c.loop-name-test.false in
    subst (λ ns. Announced c.args.block.0 ns c.args.names.now c.loop-name.names)
    (ap (all_listed m) (all ∙ c.kid_slice-name-items.ensures.value) ∙ sym (all_listed-kids m c.args.list.now)) c.loop-name.invariant
