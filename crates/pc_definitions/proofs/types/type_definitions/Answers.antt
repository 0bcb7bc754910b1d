use Rattle.std.proofs.Common.{refl}
use Rattle.pc_syntax.specs.Plain.{kids_of}
use Rattle.pc_syntax.specs.declared.class.Class.TheVariants as class
use Rattle.pc_syntax.specs.declared.kind.Kind.TheVariants as kind
use Rattle.pc_definitions.specs.Numbered.{AtBefore, AmongBefore}
use Rattle.pc_definitions.specs.Rows.{makes-part, every-defining, kids-classes, types-kind}
use Rattle.pc_definitions.proofs.types.type_definitions.Goals as goal

pub returns : goal.returns
returns c =
    let list = c.args.list.now in
    let ks = kids_of list in
    let bs = c.args.before.now in
    let is = types-kind list.kind c.requires.list in
    makes-part (AtBefore kind.Types kind.Typedef ks bs) (AmongBefore kind.Typedef ks bs) c.args.block.0 c.args.owner.0 c.args.tables.now c.each_type.new.tables list kind.Types c.in_ok-found.found.items c.in_ok-all.all is refl
    (every-defining class.Typedef ks refl (kids-classes list kind.Types c.in_ok-found.ensures.proper is)) (λ l at. record { first = refl; before = at }) c.in_ok-found.ensures.row
    (λ n w ns shown. c.in_ok-all.ensures n w ns shown)
