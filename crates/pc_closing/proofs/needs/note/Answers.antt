use Rattle.std.proofs.Common.{arith, length, ◌<◌}
use Rattle.pc_types.specs.Rows.{seen}
use Rattle.pc_closing.specs.ChangesLaws.{changes-by}
use Rattle.pc_closing.specs.NotedLaws.{noted-by, part-there}
use Rattle.pc_closing.proofs.needs.note.Goals as goal

pub returns-clause-changes : goal.returns-clause-changes
returns-clause-changes c =
    changes-by c.args.flags.now c.args.id c.element.result c.fields.result.now c.target.result _ _ _ _ _ _ _ _
    c.in_ok-need_if.ensures.users c.in_ok-need_if.ensures.marks c.in_ok-need_all.ensures.users c.in_ok-need_all.ensures.marks c.in_ok-need_to.ensures.users c.in_ok-need_to.ensures.marks

pub returns-clause-noted : goal.returns-clause-noted
returns-clause-noted c = λ right found.
    let table = seen c.args.types.now in
    let there : c.in_ok-u32_of.field-0 < length table.shapes = omega (arith, c.in_ok-u32_of.ensures, c.requires.new, c.requires.count) in
    noted-by c.args.flags.now table c.args.id c.in_ok-u32_of.field-0 c.element.result c.fields.result.now c.target.result _ _ _ _ _ _ _ _
    right c.requires.count c.in_ok-u32_of.ensures c.element.ensures.shape c.fields.ensures.fields (c.target.ensures.target found)
    (part-there (length table.shapes) c.element.result (c.element.ensures.there there)) c.fields.ensures.there c.target.ensures.there
    c.in_ok-need_if.ensures.users c.in_ok-need_if.ensures.marks c.in_ok-need_all.ensures.users c.in_ok-need_all.ensures.marks c.in_ok-need_to.ensures.users c.in_ok-need_to.ensures.marks
