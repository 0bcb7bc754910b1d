use Rattle.std.proofs.Common.{refl, ap}
use Rattle.pc_syntax.specs.Plain.{kids_of}
use Rattle.pc_syntax.specs.declared.class.Class.TheVariants as class
use Rattle.pc_syntax.specs.declared.kind.Kind.TheVariants as kind
use Rattle.pc_denoters.specs.Goings.{Anywhere}
use Rattle.pc_definitions.specs.DefiningKinds.{is_defining}
use Rattle.pc_definitions.specs.Rows.{makes-part, makes-whole, every-defining, kids-classes, consts-kind}
use Rattle.pc_definitions.proofs.constants.constant_definitions.Goals as goal

pub returns : goal.returns
returns c =
    let t0 = c.args.tables.now in
    let t1 = c.each_constant.new.tables in
    let list = c.args.list.now in
    let is = consts-kind list.kind c.requires.list in
    makes-whole Anywhere c.args.block.0 c.args.owner.0 t0 t1 list c.in_ok-all.all (ap is_defining is)
    (makes-part Anywhere Anywhere c.args.block.0 c.args.owner.0 t0 t1 list kind.Consts c.in_ok-found.found.items c.in_ok-all.all is refl
    (every-defining class.Constdef (kids_of list) refl (kids-classes list kind.Consts c.in_ok-found.ensures.proper is)) (λ l at. at) c.in_ok-found.ensures.row (λ n w ns shown. c.in_ok-all.ensures n w ns shown))
