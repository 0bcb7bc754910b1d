use Rattle.std.proofs.Common.{refl}
use Rattle.pc_syntax.specs.Plain.{kids_of}
use Rattle.pc_syntax.specs.declared.kind.Kind.TheVariants as kind
use Rattle.pc_definitions.specs.Numbered.{AtBefore, AmongBefore}
use Rattle.pc_definitions.specs.Rows.{vars-kind}
use Rattle.pc_declaration_parts.specs.RowTurns.{turns-list}
use Rattle.pc_declaration_parts.proofs.variables.variable_declarations.Goals as goal

pub returns : goal.returns
returns c =
    let list = c.args.list.now in
    let ks = kids_of list in
    let bs = c.args.before.now in
    turns-list (AtBefore kind.Vars kind.Vardef ks bs) (AmongBefore kind.Vardef ks bs) c.args.block.0 c.args.owner.0 c.args.domains.now c.each_variable.new.domains c.args.tables.now c.each_variable.new.tables list
    c.in_ok-found.found.items c.in_ok-all.all c.in_ok-found.ensures.proper (vars-kind list.kind c.requires.list) (λ l at. record { first = refl; before = at }) c.in_ok-found.ensures.row
    (λ n w ns shown. c.in_ok-all.ensures n w ns shown)
