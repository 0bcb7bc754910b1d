use Rattle.std.proofs.Common.{◌<◌, ℕ, List, length, take, get_or, sym, subst, arith}
use Rattle.std.proofs.lemmas.List.{take_more, take_all}
use Rattle.pc_names.specs.declared.id.NameId.{NameId}
use Rattle.pc_growth.specs.GrowsLaws.{less-begins}
use Rattle.pc_domains.specs.NamingLaws.{below-at}
use Rattle.pc_domains.specs.Sifting.{Sifts}
use Rattle.pc_domains.specs.SiftingLaws.{sifts-none, sifts-more}
use Rattle.pc_domains.proofs.sifting.sift.Goals as goal

pub loop-id-init : goal.loop-id-init
loop-id-init c = record { sifts = sifts-none c.args.whole.now c.args.block.0 c.args.tables.now; block = c.requires.block }

pub sift_name-requires-clause-there : goal.sift_name-requires-clause-there
sift_name-requires-clause-there c =
    let none : NameId = record { 0 = 0 } in
    subst (λ (texts : List (List ℕ)). (get_or c.args.ids.now c.loop-id.id-index none).0 < length texts) (sym c.loop-id.invariant.sifts.texts)
    (below-at (length c.args.tables.now.names.texts) c.args.ids.now c.loop-id.id-index none c.requires.there c.loop-id-test.true)

pub loop-id-preserved : goal.loop-id-preserved
loop-id-preserved c =
    let ids : List NameId = c.args.ids.now in
    let i = c.loop-id.id-index in
    let none : NameId = record { 0 = 0 } in
    record {
      sifts = subst (λ (is : List NameId). Sifts c.args.whole.now c.args.block.0 is c.args.tables.now c.sift_name.new.tables) (sym (take_more ids i none c.loop-id-test.true))
          (sifts-more c.args.whole.now c.args.block.0 (take i ids) (get_or ids i none) c.args.tables.now c.loop-id.tables c.sift_name.new.tables c.loop-id.invariant.sifts c.in_ok-sift_name.ensures);
      block = less-begins c.loop-id.tables.names.chains c.sift_name.new.tables.names.chains c.args.block.0 c.in_ok-sift_name.ensures.moves.chains c.loop-id.invariant.block;
    }

pub returns : goal.returns
returns c =
    subst (λ (is : List NameId). Sifts c.args.whole.now c.args.block.0 is c.args.tables.now c.loop-id.tables)
    (take_all c.loop-id.id-index c.args.ids.now (omega (arith, c.loop-id-test.false))) c.loop-id.invariant.sifts
