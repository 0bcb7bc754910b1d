use Rattle.std.proofs.Common.{◌≡◌, Some, slice_get, refl, subst}
use Rattle.std.proofs.lemmas.List.{take_more}
use Rattle.std.proofs.lemmas.Option.{slice_get_read}
use Rattle.pc_growth.specs.GrowsLaws.{less-begins}
use Rattle.pc_denoters.specs.Goings.{Anywhere}
use Rattle.pc_definitions.specs.Rows.{row-start, row-next, consts-kid}
use Rattle.pc_definitions.proofs.constants.each_constant.Goals as goal

pub loop-kid-init : goal.loop-kid-init
loop-kid-init c = row-start Anywhere c.args.block.0 c.args.owner.0 c.args.tables.now c.new-found.result.items c.new-found.ensures.items

pub constant_definition-requires : goal.constant_definition-requires
constant_definition-requires c = record {
  block = less-begins c.args.tables.now.names.chains c.loop-kid.tables.names.chains c.args.block.0 c.loop-kid.invariant.moves.chains c.requires.block;
  definition =
      consts-kid c.args.list.now c.kid-item.result c.loop-kid.kid-index c.kid_slice-kid-items.ensures.proper c.requires.list
      (subst (λ ks. slice_get ks c.loop-kid.kid-index ≡ Some c.kid-item.result) c.kid_slice-kid-items.ensures.value
      (slice_get_read c.kid_slice-kid-items.result.now _ c.loop-kid.kid-index c.kid-item.result refl c.loop-kid-test.true c.kid-item.is));
}

pub loop-kid-preserved : goal.loop-kid-preserved
loop-kid-preserved c =
    let kids = c.kid_slice-kid-items.result.now in
    let i = c.loop-kid.kid-index in
    row-next Anywhere Anywhere c.args.block.0 c.args.owner.0 c.args.tables.now c.loop-kid.tables c.constant_definition.new.tables kids i c.kid-item.result _ c.loop-kid.found.items c.push.new.self.items c.in_ok-one.one
    c.loop-kid-test.true c.kid-item.is (take_more kids i c.kid-item.result c.loop-kid-test.true) c.in_ok-push.ensures.items (λ out l at. tt) c.loop-kid.invariant c.in_ok-one.ensures
