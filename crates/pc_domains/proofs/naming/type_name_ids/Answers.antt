use Rattle.std.proofs.Common.{drop, refl, ap, ◌∙◌, arith}
use Rattle.std.proofs.lemmas.Option.{slice_get_read}
use Rattle.pc_syntax.specs.Plain.{forest_of}
use Rattle.pc_syntax.specs.PartsLaws.{forest_of-kids_of}
use Rattle.pc_domains.specs.NamingLaws.{OnlyNames-same, OnlyNames-then, gathered-start, gathered-more, gathered-end, names-drop, names-past}
use Rattle.pc_domains.proofs.naming.type_name_ids.Goals as goal

pub loop-kid-init : goal.loop-kid-init
loop-kid-init c = record {
  gathered = gathered-start c.args.tables.now.names.texts c.new-ids.result.items _ c.args.list.now.kids c.new-ids.ensures.items (ap forest_of c.kid_slice-kid-items.ensures.value ∙ forest_of-kids_of c.args.list.now);
  names = OnlyNames-same c.args.tables.now;
}

pub loop-kid-preserved : goal.loop-kid-preserved
loop-kid-preserved c =
    let kids = c.kid_slice-kid-items.result.now in
    let i = c.loop-kid.kid-index in
    let t = c.kid-item.result in
    record {
      gathered = gathered-more c.loop-kid.tables.names.texts c.add_name.new.tables.names.texts c.loop-kid.ids.items c.add_name.new.ids.items t (forest_of (drop i kids)) _ c.args.list.now.kids
          (names-drop kids i t c.loop-kid-test.true (slice_get_read kids _ i t refl c.loop-kid-test.true c.kid-item.is)) c.in_ok-add_name.ensures.numbers c.loop-kid.invariant.gathered;
      names = OnlyNames-then c.args.tables.now c.loop-kid.tables c.add_name.new.tables c.loop-kid.invariant.names c.in_ok-add_name.ensures.names;
    }

pub returns-clause-numbers : goal.returns-clause-numbers
returns-clause-numbers c =
    gathered-end c.loop-kid.tables.names.texts c.loop-kid.ids.items _ c.args.list.now.kids (names-past c.kid_slice-kid-items.result.now c.loop-kid.kid-index (omega (arith, c.loop-kid-test.false)))
    c.loop-kid.invariant.gathered
