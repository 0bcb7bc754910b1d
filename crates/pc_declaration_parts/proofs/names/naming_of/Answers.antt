use Rattle.std.proofs.Common.{sym, ◌∙◌, subst}
use Rattle.pc_syntax.specs.Words.{lowered}
use Rattle.pc_places.specs.MovesLaws.{IsPlace-kept}
use Rattle.pc_definitions.specs.declared.naming.Naming.{Naming}
use Rattle.pc_declaration_parts.specs.FirstNames.{FitsFirst, fits-first, lowered-some}
use Rattle.pc_declaration_parts.proofs.names.naming_of.Goals as goal

pub returns-in_ok-name-clause-fits : goal.returns-in_ok-name-clause-fits
returns-in_ok-name-clause-fits c = λ owner out l place.
    let t0 = c.args.tables.now in
    let t1 = c.number.new.tables in
    let word = c.args.word.now in
    let n = lowered word in
    let second = c.is_passed-second.result in
    let here = IsPlace-kept t0 t1 c.args.block.0 owner out l c.in_ok-name.ensures.keeps place in
    subst (λ (x : Naming). FitsFirst l n x) (sym c.filled.ensures)
    (fits-first l n second c.in_ok-name.name (lowered-some word (sym c.is_empty.ensures ∙ c.if-is_empty.false)) (c.is_passed-second.ensures owner out l n c.in_ok-name.ensures.number here))
